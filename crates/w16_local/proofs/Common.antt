-- The names of definitions and of lower crates that the proofs of this crate cite, passed on from one place. Declares nothing.
pub use Rattle.std.proofs.Common.{Err, IsSome, None, Ok, OnErr, Option, Result, Some, is_err, is_ok, le-ltb, lt-ltb, ◌%◌}
pub use Rattle.std.proofs.Math.Seq.{get_or-append_seam}
pub use Rattle.std.proofs.lemmas.Grind.{get_or_default_zero}
pub use Rattle.std.proofs.lemmas.List.{get_or_append_left, same_lists}
pub use Rattle.std.proofs.lemmas.List.Sums.{fails_before_first}
pub use Rattle.std.specs.Prelude.{option_copied}
pub use Rattle.w16_arena.proofs.Common.{IsLaid, IsPlaced, IsSameRange, block_table, eligible_count, length-append, set-set, sound_heap, table_block}
pub use Rattle.w16_arena.proofs.Lookups.{no_entry}
pub use Rattle.w16_arena.proofs.Parts.{AreParts}
pub use Rattle.w16_arena.specs.declared.new_place.Placed.{Placed}
pub use Rattle.w16_global.proofs.Common.{ArenaState, Compacts, Global, IfErr, IfNone, KeepsRest, Lends, OnOk, Reallocates, Steps, cases_lt, contents, counted, empty_table, entry_is, entry_of, get-by_id}
pub use Rattle.w16_global.proofs.Common.{get_or-set_other, get_or-set_same, heap_kept, if◌then◌else◌, is_heap, length-set, locks_at, moved_bytes, no_block, numbered, object_here, place_here, set, size_here, sound, ◌++◌}
pub use Rattle.w16_holes.proofs.Common.{position, position-Some}
pub use Rattle.w16_loading.proofs.Common.{position_or_len}
pub use Rattle.w16_local.specs.Acts.{Acted, ActedIn, DoesAct, Done, Idle, IsLent, IsLentOnce, IsSize, MayAct, MayActIn, MayActOver, Writes}
pub use Rattle.w16_local.specs.Kept.{AreListed, IsFull, IsListed, IsLowest, LocalHeapInvariant, tables_of}
pub use Rattle.w16_local.specs.Parts.{Calls, IsIn, IsNamed, IsOver, alone, with_parts}
pub use Rattle.w16_local.specs.Steps.{MayStep, Stepped, Turns, after_step, answer_of, outcome}
pub use Rattle.w16_local.specs.Swept.{AreSwept}
pub use Rattle.w16_local.specs.declared.acts.ByteOp.{ByteOp}
pub use Rattle.w16_local.specs.declared.acts.ByteOp.TheVariants.{Alloc, Compact, Discard, Free, Realloc}
pub use Rattle.w16_local.specs.declared.steps.TableOp.TheVariants.{Enter, Lock, Modify, Unlock}
pub use Rattle.w16_machine.proofs.Common.{Acts, All, Allocates, AllocatesIn, AllocatesObject, AreHandles, Becomes, Beginning, Bool, CompactsFewest, CompactsIn, DiscardsObject, Each-at, Each-from_All, Enters, EntersObject, FinMap, GivesUp, Handles}
pub use Rattle.w16_machine.proofs.Common.{Heap, IfOk, IfSome, IsBlockOf, IsHeap, IsLocalTable, IsLowestFree, IsMultiple, IsNew, IsSameOutside, IsSomeAnd, IsSound, KeepsOthers, Leaves, List, LocalAlloc, LocalCompact, LocalFree, LocalHeap, LocalInit}
pub use Rattle.w16_machine.proofs.Common.{LocalLock, LocalObject, LocalReAlloc, LocalUnlock, MakesObject, MakesRoom, MatchBool, MatchOption, MayBegin, Member, ModifiesObject, Object, OnNamed, ResizesObject, SizesObject, Stays, Table, World, []}
pub use Rattle.w16_machine.proofs.Common.{absent, after_discard, after_free, after_lock, after_modify, after_unlock, after_write, ap, arith, asked, beginning, beginning_in, block_end, block_with, blocks, bytes_at, cases_Bool, cases_eq}
pub use Rattle.w16_machine.proofs.Common.{compaction_prefix, cond, current_heap, discards_needed, eligible, entry_at, eq-eqb, false, false≢true, get-empty, get-retain_keys, get_or, has_flag, has_range, heap_in, heap_of, id_at, id_named, inl, inr}
pub use Rattle.w16_machine.proofs.Common.{inserted_here, inserted_other, is_code, is_discardable, is_fixed, is_member, is_some, laid_each, left_in, length, length-replicate, local_flags_of, local_kind, local_options, lock_refused}
pub use Rattle.w16_machine.proofs.Common.{locks_left, member_with, min, most_room, moveable_or_discardable, name_at, name_of, nat_cmp, nat_cmp-IsAntisymmetric, nat_cmp_total, nat_le, nat_lt, ne_eqb, near_pointer, new_table, none_about, not}
pub use Rattle.w16_machine.proofs.Common.{object_at, object_in, object_is, object_named, option_map, others_law, put_part, range_in, refl, removed, replicate, rest_law, rounded_down, rounded_up, same_map, same_updated, slice_range, slot_of_selector}
pub use Rattle.w16_machine.proofs.Common.{subst, suc, sym, take, taken_here, taken_other, touched, true, unwrap_or, with_newest, with_object, with_ordered, with_table, zero, ℕ, ◌&&◌, ◌*◌, ◌+◌, ◌-◌, ◌/◌, ◌<◌, ◌==◌, ◌||◌, ◌∙◌, ◌∷◌, ◌≡◌, ◌≢◌, ◌≤◌}
pub use Rattle.w16_machine.proofs.Common.{◌⊎◌}
pub use Rattle.w16_machine.proofs.LocalBegins.{begin_law}
pub use Rattle.w16_machine.proofs.LocalFacts.{object_of, put_all}
pub use Rattle.w16_machine.proofs.LocalFewest.{local_alloc_law, local_compact_law, local_realloc_law}
pub use Rattle.w16_machine.proofs.LocalNames.{names_law}
pub use Rattle.w16_machine.specs.LocalCalls.{asked_of, local_handle, name_from}
pub use Rattle.w16_machine.specs.declared.local.TheConstants.{LMEM_DISCARDABLE, LMEM_DISCARDED, LMEM_MODIFY, LMEM_MOVEABLE, LOCAL_ENTRIES}
pub use Rattle.w16_model.proofs.Common.{IsLongestStretch, IsMostAfter, MakesMost}
pub use Rattle.w16_model.proofs.Reallocations.{not_asked}
pub use Rattle.w16_model.specs.declared.Block.{Block}
pub use Rattle.w16_model.specs.declared.Entry.{Entry}
pub use Rattle.w16_model.specs.declared.Kind.{Kind}
pub use Rattle.w16_model.specs.declared.Kind.TheVariants.{Discardable, Fixed, Moveable}
pub use Rattle.w16_model.specs.declared.Refusal.{Refusal}
pub use Rattle.w16_model.specs.declared.RoomOptions.{RoomOptions}
pub use Rattle.w16_model.specs.declared.Span.{Span}
