-- The names of definitions and of lower crates that the proofs of this crate cite, passed on from one place. Declares nothing.
pub use Rattle.std.proofs.Common.{None, Option, Some, ◌^◌}
pub use Rattle.std.proofs.Math.Nat.{mul-le-mul_left, mul_assoc}
pub use Rattle.std.proofs.lemmas.Bool.{le-ltb, leb-true, lt-ltb}
pub use Rattle.std.proofs.lemmas.Bool.Decides.{eqb_tells}
pub use Rattle.std.proofs.lemmas.Iterator.Adapters.{position_from-zero}
pub use Rattle.std.proofs.lemmas.List.{get_or-set_other, get_or-set_same, length-replicate, length-set, set-get_or, set-set}
pub use Rattle.std.proofs.lemmas.List.Quantifiers.{position-Some}
pub use Rattle.std.proofs.lemmas.Option.{none-some, same_Some}
pub use Rattle.std.specs.List.{fold, position, position_from}
pub use Rattle.std.specs.Prelude.{slice_index}
pub use Rattle.w16_holes.specs.Cells.{AreCells, IsApart, IsBeginOf, IsInside, spans}
pub use Rattle.w16_holes.specs.Holes.{AreHoles, AreSameBut, AreSameIn, AreSameOutside, Free, IsFree, IsPart, IsPlace, IsUsed, Range, add_span, joined, last_before, length_at, length_to, longest, lowest, size_of, slid_down, taken}
pub use Rattle.w16_holes.specs.declared.holes.TheConstants.{LAST_END}
pub use Rattle.w16_holes.specs.Law.{BytesLaw, IsIn, JoinedLaw, TakenLaw}
pub use Rattle.w16_holes.specs.Thread.{AreThreaded, HasRoom, HasWords, IsThread, first_of, next_above, no_hole, put_hole, put_link, put_words, room}
pub use Rattle.w16_holes.specs.declared.side.SideHoles.TheInside.{Inside}
pub use Rattle.w16_model.proofs.Common.{IfSome, IsMultiple, List, [], ap, arith, cases_lt, eq-eqb, false, inl, inr, le-leb, length, lt-leb, map, max, min, nat_le, option_map}
pub use Rattle.w16_model.proofs.Common.{part, put_part, refl, replicate, set, subst, suc, sym, unwrap_or, zero, ℕ, ◌*◌, ◌++◌, ◌+◌, ◌-◌, ◌/◌, ◌<◌, ◌==◌, ◌∙◌, ◌∷◌, ◌≡◌, ◌≢◌, ◌≤◌, ◌⊎◌}
pub use Rattle.w16_model.proofs.Parts.{drop-put_part, drop_higher, length-put_part, part-put_part, part_above, part_below, take-put_part, take_lower}
pub use Rattle.w16_region.proofs.Common.{length-part}
pub use Rattle.w16_model.specs.Table.{IsSameOutside}
pub use Rattle.w16_model.specs.declared.Span.{Span}
pub use Rattle.w16_region.proofs.Words.{IsSameOutside-put_word, length-put_word, word_in-put_word, word_in-same}
unfoldable pub use Rattle.w16_region.specs.Bytes.{put_word, word_in}
pub use Rattle.w16_tree.specs.Last.{last_below}
