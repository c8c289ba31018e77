-- The names of definitions and of lower crates that the proofs of this crate cite, passed on from one place. Declares nothing.
pub use Rattle.std.proofs.Common.{Bool, Err, List, None, Ok, OnErr, Option, Result, Some, [], add-one, ap, append-nil, append_assoc, arith, codes, drop, false, get_or, inl, inr, length, length-append, length-drop}
pub use Rattle.std.proofs.Common.{length-take, map, mul-le-mul_left, pow-suc, refl, rules, subst, suc, sym, take, take-append-drop, true, zero, ℕ, ◌%◌, ◌*◌, ◌++◌, ◌+◌, ◌-◌, ◌/◌, ◌<◌, ◌^◌, ◌∙◌, ◌∷◌, ◌≡◌, ◌≢◌, ◌≤◌, ◌⊎◌}
pub use Rattle.std.proofs.KnownBytes.{Appends-kept, Appends-nil, Appends-trans, Consumes-nil, Consumes-trans, Keeps-refl}
pub use Rattle.std.proofs.Math.Nat.{one-le-pow}
pub use Rattle.std.proofs.Math.Seq.{drop-cons, take-add}
pub use Rattle.std.proofs.lemmas.Fmt.{decimal_digit, decimal_injective, decimal_step, length-decimal-le}
pub use Rattle.std.proofs.lemmas.Grind.{flat_map-append}
pub use Rattle.std.proofs.lemmas.List.{length-set, map-append, take_rest}
pub use Rattle.std.proofs.lemmas.List.Sums.{list_all-from_AllPass, sum_by-append}
pub use Rattle.std.proofs.lemmas.Result.{IfErr-weaker, IfOk-weaker, err_from_is_err_and, on_err_weaker, on_ok_weaker}
pub use Rattle.std.specs.Char.{digit_value, is_ascii_graphic}
pub use Rattle.std.specs.Fmt.{decimal}
pub use Rattle.std.specs.Int.{to_be_bytes, w32}
pub use Rattle.std.specs.Io.BufRead.{strip_last}
pub use Rattle.std.specs.Io.KnownBytes.{Appends, Consumes, IsAtEnd, Keeps}
pub use Rattle.std.specs.List.{AllByRecursion, flat_map}
pub use Rattle.std.specs.Prelude.{IfNone, bit_or}
pub use Rattle.std.specs.Str.{bytes_eq}
pub use Rattle.hex.proofs.HexLemmas.{decode_of-even, decode_of-ok, decode_of-same, length-encode_with}
pub use Rattle.hex.proofs.Pairs.{decode_done, decode_err, decode_step, encode_done, encode_step, prepend}
pub use Rattle.hex.specs.Hex.{decode_of, decode_pairs, encode_lower, hex_digit_value, is_hex_digit, lower_digits, pair_value}
unfoldable pub use Rattle.hex.specs.Hex.{encode_with}
pub use Rattle.hex.specs.declared.error.FromHexError.{FromHexError}
pub use Rattle.hex.specs.declared.error.FromHexError.TheVariants.{InvalidHexCharacter}
pub use Rattle.w16_global.proofs.Common.{cut_on}
pub use Rattle.w16_loading.specs.Families.{AnyCommand}
pub use Rattle.w16_kernel.proofs.Common.{Event, command_of, common_steps, promised_append, promised_none, reply_of, run_append, ◌&&◌}
pub use Rattle.w16_loading.proofs.Common.{MatchOption, count_by, if◌then◌else◌, list_all, nat_lt, slice_index, ◌==◌}
pub use Rattle.w16_model.specs.Commands.{Label}
pub use Rattle.w16_machine.specs.Law.{IsWorldWalk}
pub use Rattle.w16_model.proofs.Common.{IsFirstItem, IsItem, cases_lt, nat_tests}
pub use Rattle.w16_model.proofs.Cuts.{IsCut, Next, all_done, cut_more, cut_none, done_more, done_none, next}
pub use Rattle.w16_model.specs.declared.Item.{Item}
pub use Rattle.w16_script.specs.Feeding.{FailsAt, Feeds, Stops, StopsHere}
pub use Rattle.w16_machine.specs.Rows.{Argument}
pub use Rattle.w16_script.specs.Grammar.{AreArguments, GoesTo, IsArgument, IsLabel, IsText, Makes, Reads, Said, Spells, command_with, is_silent, parameters_of, target_of, text_of}
pub use Rattle.w16_script.specs.Laws.{is_plain}
pub use Rattle.w16_script.specs.Numbers.{BeginsWith, IsForm, IsLiteral, IsNumber, IsOfRegister, IsSum, is_digit, place_value}
pub use Rattle.w16_script.specs.Output.{Prints, PrintsLine, RunsLines, has_reply}
pub use Rattle.w16_script.specs.Printed.{end_text, error_text, item_text, owner_text, reply_text, walk_text}
pub use Rattle.w16_script.specs.Progress.{IsOver, IsWithinLimits, Overflows, Progress, fresh, room_of, with_bytes}
pub use Rattle.w16_script.specs.Registers.{IsRegister, stored_all}
pub use Rattle.w16_script.specs.State.{start, state_with}
pub use Rattle.w16_script.specs.Text.{HasNoLf, IsRaw, ended, last_of, without_cr}
pub use Rattle.w16_script.specs.Unfinished.{progress_of, state_of}
pub use Rattle.w16_script.specs.Whole.{Fails, FailsLater, Finishes, Script, StopsLast, StopsWithin}
pub use Rattle.w16_script.specs.Words.{is_blank, with_byte, words_of}
pub use Rattle.w16_script.specs.Written.{AppendsFront}
pub use Rattle.w16_machine.specs.declared.name.Parameter.{Parameter}
pub use Rattle.w16_script.specs.declared.bytes.TheConstants.{VALUES}
pub use Rattle.w16_machine.specs.declared.name.Name.{Name}
pub use Rattle.w16_script.specs.declared.outcome.Ended.{Ended}
pub use Rattle.w16_script.specs.declared.outcome.RunFault.{RunFault}
pub use Rattle.w16_script.specs.declared.outcome.RunFault.TheVariants.{Memory, Read, TooLong, Write}
