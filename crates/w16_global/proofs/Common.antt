-- The names of definitions and of lower crates that the proofs of this crate cite, passed on from one place. Declares nothing.
pub use Rattle.std.proofs.Common.{Err, IfErr, IsErrAnd, None, map, Ok, OnOk, Option, Result, Some, Vec, ◌^◌}
pub use Rattle.std.proofs.Math.Seq.{take-append-add}
pub use Rattle.std.proofs.lemmas.List.{drop-append-le, take_more}
pub use Rattle.std.proofs.lemmas.List.Folds.{list_any-append}
pub use Rattle.w16_arena.proofs.Common.{All, All-from_Each, All-put_part, Allocates, AreNew, ArenaState, Bool, Compacts, Each-at, Each-from, Enters, FinMap, HasDiscarded, HasDiscardedFor, HasTold}
pub use Rattle.w16_arena.proofs.Common.{Heap, IfNone, IfOk, IfSome, IsBlockOf, IsFirstItem, IsGrown, IsHeap, IsItem, IsMultiple, IsNew, IsSomeAnd, IsUsed, KeepsOthers, Layout, List, MakesRoom, MatchBool, MatchOption, Member, Object, Reallocates}
pub use Rattle.w16_arena.proofs.Common.{Request, Settles, Steps, Table, [], absent, after_discard, after_free, after_lock, after_modify, after_newest, after_oldest, after_release, after_touch, after_unlock, ap, arith, block_end}
pub use Rattle.w16_arena.proofs.Common.{block_with, blocks, by_its_id, bytes_at, cases_Bool, cases_eq, cases_lt, common_steps, compaction_prefix, cond, contents, counted, discarded, discards_needed, drop, drop-drop, drop-take, eligible, empty_table}
pub use Rattle.w16_arena.proofs.Common.{entry_at, entry_of, eq-eqb, false, false≢true, first_eligible, get-update_other, get-update_same, get_or, get_or-set_other, get_or-set_same, growth_for, heap_in, holes_in, if◌then◌else◌, inl, inr, inserted_here}
pub use Rattle.w16_arena.proofs.Common.{inserted_other, is_fixed, is_member, is_pinned_object, is_some, laid_placed, le-ltb, leb-false, length, length-put_part, length-repeated, length-replicate, length-set, length_range, lt-leb}
pub use Rattle.w16_arena.proofs.Common.{lt-ltb, member_with, most_room, moved_bytes, nat_cmp, nat_cmp-IsAntisymmetric, nat_cmp_total, nat_le, nat_lt, ne_eqb, newest, not, object_at, object_in, oldest, option_map, others_law, part, put_part}
pub use Rattle.w16_arena.proofs.Common.{range_apart, reallocation_prefix, refl, refused_order, removed, replicate, rules, same_map, set, slice_get, slice_range, snapshot_of, stays_for, subst, suc, sym, take, take-take, taken_here, taken_other}
pub use Rattle.w16_arena.proofs.Common.{told_at, told_none, told_past, touched, true, true-is_member, two, unwrap_or, used_each, with_newest, with_object, with_ordered, zero, ℕ, ◌&&◌, ◌*◌, ◌++◌, ◌+◌, ◌-◌, ◌/◌, ◌<◌, ◌==◌, ◌||◌, ◌∙◌, ◌∷◌, ◌≡◌, ◌≢◌}
pub use Rattle.w16_arena.proofs.Common.{◌≤◌, ◌⊎◌}
unfoldable pub use Rattle.w16_arena.proofs.Common.{repeated}
pub use Rattle.w16_arena.proofs.Ahead.{cut_on, told_to_end}
pub use Rattle.w16_arena.proofs.Fresh.{no_entry, sound}
pub use Rattle.w16_arena.proofs.Keeping.{heap_kept}
pub use Rattle.w16_arena.proofs.Lookups.{bytes_here, ends_in_memory, entry_is, is_heap, no_block, object_here, place_here, same_heap, size_here}
pub use Rattle.w16_arena.proofs.Unmoved.{none_moved, unmoved}
pub use Rattle.w16_blocks.proofs.Common.{AreSameIn-put_part, add_span, le-leb, with_items}
pub use Rattle.w16_compact.proofs.Common.{All-get_or}
pub use Rattle.w16_global.specs.Access.{access_fault}
pub use Rattle.w16_global.specs.Housed.{AreHoused, HasRun, MayHave, attributes_housed, slots_in}
pub use Rattle.w16_global.specs.Joined.{AreJoined, AreLabelled, Global, HasSize, attributes_in, begins_in, described, descriptor_for, handles_of, kind_for, kind_in, label_in, label_of, owner_in, says, told, zeroed_behind}
pub use Rattle.w16_global.specs.Lent.{Lends}
pub use Rattle.w16_global.specs.Parts.{AreParts, HasPart, Holding, holding_of}
pub use Rattle.w16_global.specs.Runs.{given, in_run, is_in_run, placed, reaching, taken, vacated}
pub use Rattle.w16_holes.proofs.Common.{AreThreaded, Free}
pub use Rattle.w16_holes.specs.Thread.{threaded_stay}
pub use Rattle.w16_model.proofs.Absence.{discard_absent}
pub use Rattle.w16_model.proofs.Accesses.{Reached, near, reached}
pub use Rattle.w16_model.proofs.Common.{Anew, AnswersDiscard, AnswersHandle, AreHandles, AreResized, Asked, ChangesKind, Empties, Gives, GlobalAllocs, GlobalCompacts, GlobalReAllocs, Handles, IsFreeRun, IsFreeSlot, IsNull}
pub use Rattle.w16_model.proofs.Common.{IsOwnedRun, IsSized, IsSlot, KeepsRest, Part, ReAllocsOwn, Resizes, ResizesObject, after_write, alloc_options, data_write, empty_handles, empty_heap, far_at, far_bytes, far_fault, far_read}
pub use Rattle.w16_model.proofs.Common.{far_slot, far_write, get-empty, handle_of, has_flag, hold_of_object, is_owned, is_past, kind_asked, kind_modified, length-drop, length-take, length-take-le, locks_at, ltb-false, min}
pub use Rattle.w16_model.proofs.Common.{modified, nat_tests, owner_of, owns, part_of_selector, realloc_options, refuses_write, rekeyed, rounded_size, selector_of, slot_of_handle, slot_of_selector, slots_at, slots_for}
pub use Rattle.w16_model.proofs.Common.{with_run}
pub use Rattle.w16_model.proofs.Cuts.{told_all}
pub use Rattle.w16_model.proofs.Empty.{empty_law}
pub use Rattle.w16_model.proofs.Fewest.{global_alloc_law, global_compact_law}
pub use Rattle.w16_model.proofs.Growth.{IsCase, one_outcome_law}
pub use Rattle.w16_model.proofs.KeptHandles.{Kept, lock_ok, moved_handles, other_handles, same_updated, unlock_ok, with_absent_object, with_new_object, without_object, written_sized}
pub use Rattle.w16_model.proofs.KeptHeaps.{bytes_in, newest_heap, oldest_heap, ordered, touched_heap, written_heap}
pub use Rattle.w16_model.proofs.KeptRest.{rest_law}
pub use Rattle.w16_model.proofs.KindChanges.{kind_law, modify_none}
pub use Rattle.w16_model.proofs.Places.{two_placed}
pub use Rattle.w16_model.proofs.Prefixes.{none_about}
pub use Rattle.w16_model.proofs.Reallocations.{asked, by_case, heap_law, none_discarded}
pub use Rattle.w16_model.proofs.ResizedHandles.{compacted_handles, discarded_handles, modified_handles}
pub use Rattle.w16_model.proofs.Runs.{IsIn, first_in, is_owner, no_owner, none_owns, not_gone, numbered, one_owner, owner_is, slots_beside, slots_left, slots_none, slots_of, slots_with, some_bytes, some_slots, unused, was_in}
pub use Rattle.w16_model.proofs.Tables.{get-by_id}
pub use Rattle.w16_model.specs.Calls.{global_size, selector_base, selector_limit}
pub use Rattle.w16_model.specs.Handles.{HasNoRun}
pub use Rattle.w16_model.specs.Owned.{owned_at, owned_in, revival_options}
pub use Rattle.w16_model.specs.Law.{without_slot}
pub use Rattle.w16_model.specs.Reallocation.{IsResized}
pub use Rattle.w16_model.specs.Resizes.{GetsRun, GlobalDiscards, LacksRun, rehoused, rekeyed, with_run}
pub use Rattle.w16_model.specs.declared.Attributes.{Attributes}
pub use Rattle.w16_model.specs.declared.Block.{Block}
pub use Rattle.w16_model.specs.declared.Entry.{Entry}
pub use Rattle.w16_model.specs.declared.FarFault.{FarFault}
pub use Rattle.w16_model.specs.declared.FarFault.TheVariants.{BadSelector, Limit, NotPresent, ReadOnly}
pub use Rattle.w16_model.specs.declared.Item.{Item}
pub use Rattle.w16_model.specs.declared.Kind.{Kind}
pub use Rattle.w16_model.specs.declared.Kind.TheVariants.{Discardable}
pub use Rattle.w16_model.specs.declared.Owned.{Owned}
pub use Rattle.w16_model.specs.declared.Owner.{Owner}
pub use Rattle.w16_model.specs.declared.Refusal.{Refusal}
pub use Rattle.w16_model.specs.declared.RoomOptions.{RoomOptions}
pub use Rattle.w16_model.specs.declared.Span.{Span}
pub use Rattle.w16_model.specs.declared.TheConstants.{FIRST_SLOT, GMEM_DDESHARE, GMEM_MODIFY, GMEM_MOVEABLE, GMEM_ZEROINIT, GRAIN, LARGEST_SIZE, MOST_SLOTS, REACH}
pub use Rattle.w16_region.specs.Bytes.{with_items-put_part}
pub use Rattle.w16_selectors.specs.Descriptors.{IsUntaken, descriptor_at, descriptor_of, is_code, kind_at, kind_of, number_at, number_of, place_of, unset}
pub use Rattle.w16_selectors.specs.declared.Descriptor.{Descriptor}
pub use Rattle.w16_selectors.specs.declared.SelKind.{SelKind}
pub use Rattle.w16_selectors.specs.declared.SelKind.TheVariants.{Code, Data}
