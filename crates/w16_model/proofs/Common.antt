-- The names of definitions and of lower crates that the proofs of this crate cite, passed on from one place. Declares nothing.
pub use Rattle.std.proofs.Common.{All, AllPairs, Bool, Equal, Err, Greater, IfOk, IfSome, IsPermutation, IsSomeAnd, IsTrue, Less, List, MatchBool, MatchOption, None, Ok, Option, Result, Some, T, [], add-one, ap}
pub use Rattle.std.proofs.Common.{append-nil, append_assoc, arith, cond, drop, drop-cons, drop_of_length-le, eq-eqb, eqb-true, false, filter, fold, get_or, if◌then◌else◌, inl, inr, is_eq, is_lt, is_some, le-leb}
pub use Rattle.std.proofs.Common.{leb-false, leb-true, length, length-drop, length-take, lt-ltb, ltb-false, ltb-true, map, max, min, nat_le, nat_lt, ne_eqb, not, option_map, refl, replicate, rules, set, slice_get}
pub use Rattle.std.proofs.Common.{slice_range, subst, suc, sum_by, swap, sym, take, true, unwrap_or, zero, zero-add, ℕ, ⊎_elim, ◌&&◌, ◌*◌, ◌++◌, ◌+◌, ◌-◌, ◌/◌, ◌<◌, ◌==◌, ◌||◌, ◌↔◌, ◌∙◌, ◌∷◌, ◌≡◌, ◌≢◌, ◌≤◌, ◌⊎◌}
pub use Rattle.std.proofs.lemmas.Bool.{and_from, and_left, and_parts, and_right, cases_Bool, cases_eq, cases_lt, cond-false, cond-true, eqb-false, false≢true, lt-leb, not-true, not_from_false, or_cases, or_from, or_left, or_parts, or_right}
pub use Rattle.std.proofs.lemmas.Bool.Decides.{nat_tests}
pub use Rattle.std.proofs.lemmas.Grind.{common_steps}
pub use Rattle.std.proofs.lemmas.List.{drop-drop, drop-take, drop_at, length-append, length-take-le, take-take, take_all, take_at}
pub use Rattle.std.proofs.lemmas.List.Elements.{All-append, All-cons, All-drop, All-head, All-nil, All-tail, All-take, filter-append}
pub use Rattle.std.proofs.lemmas.List.Quantifiers.{all_pairs_push}
pub use Rattle.std.proofs.lemmas.List.Sorted.{All-permutation, IsPermutation-cons, IsPermutation-keeps, IsPermutation-map, IsPermutation-middle, IsPermutation-refl, IsPermutation-swap, IsPermutation-sym, IsPermutation-trans, list_any-IsPermutation, sum_by-IsPermutation}
pub use Rattle.std.proofs.lemmas.List.Sums.{sum_by-cons}
pub use Rattle.std.specs.Cmp.{eq_by_cmp_equiv, nat_cmp_total}
pub use Rattle.std.specs.FinMap.{FinMap, entries_sorted, get-empty, get-entries, get-from_entries, get-insert, get-remove}
pub use Rattle.std.specs.FinMap.Entries.{below_all, is_sorted}
pub use Rattle.std.specs.List.{Contains, cons_option, filter_map, find, range_with_len}
pub use Rattle.std.specs.Ordering.{eq_by_cmp, nat_cmp}
pub use Rattle.w16_model.specs.Arrangement.{IsArrangement, IsFreeStretch, IsGap, IsLongestStretch}
pub use Rattle.w16_model.specs.Bytes.{part, put_part}
unfoldable pub use Rattle.w16_model.specs.Bytes.{repeated}
pub use Rattle.w16_model.specs.CallLaws.{BystandersLaw, FarEffect, FarEffectLaw, IsAbout, IsKeptOrDiscarded, IsNewestOf, IsWritten, KeepsContents, OnlyLeave, HasNewSize, SizeLaw}
pub use Rattle.w16_model.specs.CallLaws.{PinnedStayLaw, Reaches, SlotsLaw, handle_in, may_change, may_move_own, next_slot, slot_after}
pub use Rattle.w16_model.specs.Commands.{AnyCommand, Command, Family}
pub use Rattle.w16_model.specs.Commands.Family.{OfHandles}
pub use Rattle.w16_model.specs.Calls.{Answer, GlobalAllocs, GlobalCompacts, HandleStep, HasNoSlots, IsEmptyFixed, IsRefusedAlloc, IsTooLong, alloc_options, free_own, global_free, global_lock, global_unlock, handle_or_0, has_flag, is_absent_asked, kind_asked, locks_at, rounded_size}
pub use Rattle.w16_model.specs.Calls.Answer.{Dword, Walked, Word}
pub use Rattle.w16_model.specs.Commands.Command.{GetSelectorBase, GetSelectorLimit, GlobalAlloc, GlobalCompact, GlobalFlags, GlobalFree, GlobalHandle, GlobalLRUNewest, GlobalLRUOldest, GlobalLock, GlobalSize, GlobalUnlock, Moved, Walk}
pub use Rattle.w16_model.specs.Changes.{absent, newest, oldest, removed, touched, update, with_newest, with_object, with_ordered, without}
pub use Rattle.w16_model.specs.Discards.{blocks_without, eligible, fits_in_place, growth_for, is_about, is_member, is_pinned_id, needed, none_discarded_if, prefix_for, room_for, snapshot}
pub use Rattle.w16_model.specs.Far.{FarAnswer, after_write, data_write, far_at, far_bytes, far_fault, far_part, far_read, far_slot, far_write, is_past}
pub use Rattle.w16_model.specs.Far.FarAnswer.{Bytes, Done, Fault}
pub use Rattle.w16_model.specs.Commands.Command.{Fill, Read, Write}
pub use Rattle.w16_model.specs.Fewest.{AllocatesFewest, AllocationLaw, CompactionLaw, GlobalAllocLaw, GlobalCompactLaw, HasNoStretch, IsMostAfter, LacksRoom, MakesMost}
pub use Rattle.w16_model.specs.Gap.{ArePlaced, IsClear, IsGapOf, IsHole, IsLaid, Misses, begins_in, block_end, first_from, holds_still, hole_after, is_any, is_loose, is_pinned, largest, longest_hole, loose_bytes, room, room_from, starts}
pub use Rattle.w16_model.specs.Handles.{Gives, Handles, IsFreeRun, IsFreeSlot, IsSlot, Part, far_pointer, handle_of}
pub use Rattle.w16_model.specs.Handles.{has_slot, offset_in, owner_of, part_of_selector, reached, selector_in, selector_of, slot_of_handle, slot_of_selector, slots_at, slots_for}
pub use Rattle.w16_model.specs.Heap.{Heap, IsCounted, IsHeap, IsMultiple, Object, block_of, blocks, bytes_at, hold_of_object, is_discardable, is_fixed, is_in_order, is_pinned_object, object_at, size_of}
pub use Rattle.w16_model.specs.Law.{AddressLaw, AreAllOf, AreHandles, AreRuns, DiscardsAreLeast, EmptyLaw, GapListLaw, HandleLaw, HoleIsLongest, IsOwnedRun, IsRun, KeepsOthers, LeastLaw, gaps, holes, spans_from}
pub use Rattle.w16_model.specs.Law.{IsFirstItem, IsSized, MoreDiscardsLaw, NamesLaw, NoStretch, OthersLaw, PinnedLaw, RangeLaw, ReachLaw, RoomLaw, SoundLaw, StandsStill, WalkLaw, all_pinned, empty_handles, empty_heap}
pub use Rattle.w16_model.specs.OneObject.{Enters, after_discard, after_free, after_lock, after_modify, after_touch, after_unlock, refused_order}
pub use Rattle.w16_model.specs.Outcomes.{Call, CallOutcomesLaw, CallStep, IsNamed, Orders, Outcome, Resized, attributes_asked, counts_moved}
pub use Rattle.w16_model.specs.Outcomes.Call.{Calls, ReAllocs}
pub use Rattle.w16_model.specs.Outcomes.Outcome.{IsAllocated, IsCompacted, IsDiscarded, IsEntered, IsFreed, IsLocked, IsModified, IsNewest, IsOldest, IsResized, IsSame, IsUnlocked, IsUnmoved}
pub use Rattle.w16_model.specs.Owned.{is_owned, owns, refuses_write}
pub use Rattle.w16_model.specs.Reallocation.{AreResized, ChangesKind, DiscardHeapLaw, FewestLaw, HeapLaw, IsFreeBehind, KeepsRest, KindHeapLaw, KindLaw}
pub use Rattle.w16_model.specs.Reallocation.{LacksPlace, MovesLaw, MovesLittle, OneOutcomeLaw, ReallocatesFewest, RestLaw, counted_loose, is_held, is_revived, loosened, without_all}
pub use Rattle.w16_model.specs.Request.{Allocates, AreNew, Asked, Grows, IsGrown, IsNew, MakesRoom, Reallocates, ReallocatesObject, Request, Settles, StaysOrMovesToHole, compaction_prefix, discarded, discards_needed, eligible_count, is_elsewhere, most_room, moved_bytes, snapshot_of, stays_for}
pub use Rattle.w16_model.specs.Resizes.{Anew, AnswersDiscard, AnswersHandle, CanExtend, Empties, GetsRun, GlobalReAllocs, IsNull, LacksRun}
pub use Rattle.w16_model.specs.CallLaws.{OneSlotLaw, ResizeFewestLaw, ResizeLaw}
pub use Rattle.w16_model.specs.Resizes.{ReAllocsOwn, Resizes, ResizesObject, kind_modified, modified, realloc_options, rehoused, rekeyed, with_run}
pub use Rattle.w16_model.specs.Table.{IsCountedBy, IsSound, IsTable, Table, block_with, by_id, entry_at, heap_in, hold_of_entry, is_listed, object_in}
pub use Rattle.w16_model.specs.Walk.{HasBytes, IsItem, IsWalk}
pub use Rattle.w16_model.specs.declared.Attributes.{Attributes}
pub use Rattle.w16_model.specs.declared.Block.{Block}
pub use Rattle.w16_model.specs.declared.Entry.{Entry}
pub use Rattle.w16_model.specs.declared.FarFault.{FarFault}
pub use Rattle.w16_model.specs.declared.FarFault.TheVariants.{BadSelector, Limit, NotPresent, ReadOnly}
pub use Rattle.w16_model.specs.declared.Hold.TheVariants.{Loose, Pinned}
pub use Rattle.w16_model.specs.declared.Item.{Item}
pub use Rattle.w16_model.specs.declared.Kind.{Kind}
pub use Rattle.w16_model.specs.declared.Kind.TheVariants.{Discardable, Fixed, Moveable}
pub use Rattle.w16_model.specs.declared.Owner.{Owner}
pub use Rattle.w16_model.specs.declared.Refusal.{Refusal}
pub use Rattle.w16_model.specs.declared.RoomOptions.{RoomOptions}
pub use Rattle.w16_model.specs.declared.Span.{Span}
pub use Rattle.w16_model.specs.declared.TheConstants.{FIRST_SLOT, GMEM_MODIFY, GMEM_MOVEABLE, GRAIN, LARGEST_SIZE, REACH}
