-- The names of definitions and of lower crates that the proofs of this crate cite, passed on from one place. Declares nothing.
pub use Rattle.std.proofs.Common.{Err, IfNone, None, Ok, OnErr, Option, Result, Some, is_ok, take_all, ◌%◌}
pub use Rattle.std.proofs.Math.Nat.{div-add-mod, mod-lt, mul-le-mul_left}
pub use Rattle.std.proofs.lemmas.Bool.{ltb-false}
pub use Rattle.std.proofs.lemmas.List.{append-nil, length-take}
pub use Rattle.std.proofs.lemmas.List.Filters.{length-filter_both}
pub use Rattle.std.proofs.lemmas.Result.{IfOk-weaker}
pub use Rattle.std.specs.FinMap.{nat_cmp-IsAntisymmetric, same_map}
pub use Rattle.std.specs.Option.{ForSome}
pub use Rattle.w16_arena.specs.Asked.{Discards, HasDiscarded, HasDiscardedFor, IsPlaced, IsResized, IsSlid, IsStill, SlidesTogether, Stands, first_eligible, may_grow_in, reallocation_prefix}
pub use Rattle.w16_arena.specs.Growth.{HasGrown, but_for, may_grow}
pub use Rattle.w16_arena.specs.NewPlace.{AreFreeBytes, AreMoved, EachTwo, Slides, most_for, most_in}
pub use Rattle.w16_arena.specs.Representation.{ArenaInvariant}
pub use Rattle.w16_arena.specs.State.{ArenaState, IsSameRange, KeepsBytes, KeepsRest, Steps, after_end, empty_table, entry_of, heap_of, holes_in, relisted, table_of}
pub use Rattle.w16_arena.specs.declared.new_place.Placed.{Placed}
pub use Rattle.w16_arena.specs.declared.requests.NoRoom.{NoRoom}
pub use Rattle.w16_arena.specs.declared.without_discard.Compacted.{Compacted}
pub use Rattle.w16_blocks.proofs.Common.{AreSameIn, AreSameOutside, Fits, FitsFor, IsFirstBlock, IsFirstHole, IsFree, IsSameOutside, above, eqb-true, length-le_from_distinct_below, length-replicate, length-set, part_above, part_below, same_holes, set-get_or, set-set}
pub use Rattle.w16_blocks.proofs.Outside.{outside_holes}
pub use Rattle.w16_blocks.proofs.Place.{All-placed, placed_after, placed_before}
pub use Rattle.w16_blocks.proofs.Remove.{others_differ, rest_differs}
pub use Rattle.w16_blocks.proofs.Sliding.{named_each}
pub use Rattle.w16_blocks.proofs.Step.{All-first, fits_itself}
pub use Rattle.w16_blocks.specs.Parts.{IfBlock, IfHole}
pub use Rattle.w16_blocks.specs.Stay.{AreSameOutsideBoth}
pub use Rattle.w16_compact.proofs.Bounded.{clear_pinned}
pub use Rattle.w16_compact.proofs.Cleared.{inside_is}
pub use Rattle.w16_compact.proofs.Common.{All-all_but, All-back, All-from_Each, AllByRecursion, AreHoles-holes, AreNamed, AreSameBut, Each-at, Each-both, Each-from, Each-from_All, Each-map, Each-of_map, EachPair, EachPair-from_AllPairs, FitsGap, GName, HasRoom}
pub use Rattle.w16_compact.proofs.Common.{IsApart, IsCut, IsGrained, IsLaid-all_but, IsLaid-from, IsOrdered, IsSameRest, IsSome, IsUsed, Lacks, Layout, MayGather, Member, Uses, all_but, all_but_absent, all_but_other, all_but_same, around, contents, counted}
pub use Rattle.w16_compact.proofs.Common.{each_with, end_in, eqb, eqb_tells, filter_member, free_lacks, gathered, get_or-set_other, get_or-set_same, holes_of, lacks_free, laid_each, laid_later, laid_le, laid_placed, le-ltb, length-put_part, list_any, lt-ltb}
pub use Rattle.w16_compact.proofs.Common.{moved_between, opened, others_apart, outside_but, packed, pairs_filter, placed, raised_in, rank, replaced, spare_in, sum-all_but, sum_filter, sum_fits, take-append-drop, used_each, with_id, with_loose, with_other}
pub use Rattle.w16_compact.proofs.Common.{with_same}
pub use Rattle.w16_compact.proofs.Gathering.{cut_high, moved_same}
pub use Rattle.w16_compact.proofs.LeftOut.{lies_outside, may_beside, may_with, ordered_without}
pub use Rattle.w16_compact.proofs.Loose.{loose_here, loose_one}
pub use Rattle.w16_compact.proofs.Loosened.{clear_held, contents_held, held, moved_from, moved_to, ordered_held, others_held, own_held}
pub use Rattle.w16_compact.proofs.OnePass.{room_whole}
pub use Rattle.w16_compact.proofs.Opened.{loose_most, may_high, may_low, moved_most}
pub use Rattle.w16_compact.proofs.Raising.{by_reach, loose_skip, loose_split}
pub use Rattle.w16_compact.proofs.Rests.{leaves_more, rest_more, rest_put, rest_same, rest_wider}
pub use Rattle.w16_compact.specs.Gather.{LeavesFree}
pub use Rattle.w16_blocks.specs.Stay.{HasRange, Leaves}
pub use Rattle.w16_compact.proofs.Searched.{below_cap, first_here, passed_here}
pub use Rattle.w16_compact.proofs.Skips.{ids_below, rest_after}
pub use Rattle.w16_compact.specs.declared.gaps.Gap.{Gap}
pub use Rattle.w16_lru.proofs.Common.{Decides-eqb, IsDistinct-from_AllPairs, at_end, member_gone, member_without, newest_differ, without_absent}
pub use Rattle.w16_lru.proofs.Walks.{all_left}
pub use Rattle.w16_lru.specs.declared.End.{End}
pub use Rattle.w16_lru.specs.declared.End.TheVariants.{Newest, Oldest}
pub use Rattle.w16_model.proofs.Answered.{allocates_after, discarded_all, moved_after, settles_after, settles_before}
pub use Rattle.w16_model.proofs.Common.{All, All-drop, All-take, AllPairs, Allocates, AreNew, ArePlaced, Bool, Contains, Enters, FinMap, Grows, Heap, IfOk, IfSome, IsArrangement, IsClear, IsCountedBy, IsFirstItem, IsGap, IsGrown, IsHeap, IsHole}
pub use Rattle.w16_model.proofs.Common.{IsItem, IsLaid, IsMultiple, IsNew, IsPermutation, IsSomeAnd, IsSound, IsTrue, KeepsOthers, List, MakesRoom, MatchBool, MatchOption, Misses, Object, Reallocates, ReallocatesObject, Request, Settles, StaysOrMovesToHole}
pub use Rattle.w16_model.proofs.Common.{Table, [], absent, after_discard, after_free, after_lock, after_modify, after_touch, after_unlock, and_parts, ap, append_assoc, arith, begins_in, block_end, block_of, block_with, blocks, blocks_without, by_id}
pub use Rattle.w16_model.proofs.Common.{bytes_at, cases_Bool, cases_eq, cases_lt, common_steps, compaction_prefix, cond, cond-true, discarded, discards_needed, drop, drop-drop, drop-take, eligible, eligible_count, entry_at, eq-eqb, eq_by_cmp, false}
pub use Rattle.w16_model.proofs.Common.{false≢true, filter, filter_map, find, first_from, fits_in_place, fold, get-insert, get-remove, get_or, growth_for, heap_in, hold_of_entry, holds_still, hole_after, holes, if◌then◌else◌, inl, inr, is_about}
pub use Rattle.w16_model.proofs.Common.{is_any, is_discardable, is_elsewhere, is_fixed, is_listed, is_loose, is_member, is_pinned, is_pinned_id, is_pinned_object, is_some, le-leb, leb-false, leb-true, length, length-append, longest_hole, loose_bytes}
pub use Rattle.w16_model.proofs.Common.{lt-leb, ltb-true, map, most_room, moved_bytes, nat_cmp, nat_cmp_total, nat_le, nat_lt, ne_eqb, needed, newest, none_discarded_if, not, not-true, object_at, object_in, oldest, option_map, or_cases, or_from}
pub use Rattle.w16_model.proofs.Common.{or_left, or_parts, or_right, part, put_part, refl, refused_order, removed, replicate, room, room_for, rules, set, slice_get, slice_range, snapshot, snapshot_of, starts, stays_for, subst, suc, sum_by}
pub use Rattle.w16_model.proofs.Common.{sum_by-IsPermutation, sum_by-cons, sym, take, take-take, touched, true, unwrap_or, with_newest, with_object, with_ordered, without, zero, ℕ, ◌&&◌, ◌*◌, ◌++◌, ◌+◌, ◌-◌, ◌/◌, ◌<◌, ◌==◌, ◌||◌, ◌∙◌, ◌∷◌, ◌≡◌, ◌≢◌}
pub use Rattle.w16_model.proofs.Common.{◌≤◌, ◌⊎◌}
unfoldable pub use Rattle.w16_model.proofs.Common.{repeated}
pub use Rattle.w16_model.proofs.Cuts.{HasTold, told_at, told_more, told_none, told_past}
pub use Rattle.w16_model.proofs.Discards.{absents_of_block, eligible_loose, from_take, room-discarded, true-is_member}
pub use Rattle.w16_model.proofs.Fewest.{allocation_law, compaction_law}
pub use Rattle.w16_model.proofs.Gaps.{AllPairs-from_EachPair, EachPair-map, EachPair-member, first_from-below, first_from-greatest, last_to, member_filter}
pub use Rattle.w16_model.proofs.Heaps.{IsBlockOf, block_member, blocks_permutation, get-update_other, get-update_same, member_block, tied_itself, untied}
pub use Rattle.w16_model.proofs.KeptHeaps.{inserted_here, inserted_other, taken_here, taken_other}
pub use Rattle.w16_model.proofs.Longest.{none_longer}
pub use Rattle.w16_model.proofs.Maximal.{clear_from, gap_around, gap_same, missed}
pub use Rattle.w16_model.proofs.Members.{room-permutation}
pub use Rattle.w16_model.proofs.Orders.{member_newest}
pub use Rattle.w16_model.proofs.Others.{others_law}
pub use Rattle.w16_model.proofs.Parts.{All-put_part, All-repeated, length-repeated, range-put_part, range_apart, range_part}
pub use Rattle.w16_model.proofs.Prefixes.{eligible_by_members, needed_by_members, needed_enough, prefix_hole, prefix_kept, prefix_needed, prefix_no_hole, prefix_now, room_by_members}
pub use Rattle.w16_model.proofs.Reallocations.{fewest_law}
pub use Rattle.w16_model.proofs.Sound.{sound_heap}
pub use Rattle.w16_model.proofs.Starts.{hole_is_longest, inside, sized, spans_are, two}
pub use Rattle.w16_model.proofs.Tables.{block_table, length_range, member_with, object_is, place_is, table_block, table_longest, with_member}
pub use Rattle.w16_model.specs.OneObject.{after_newest, after_oldest}
pub use Rattle.w16_model.specs.Law.{after_release, by_its_id}
pub use Rattle.w16_model.specs.Request.{Compacts}
pub use Rattle.w16_model.specs.declared.Block.{Block}
pub use Rattle.w16_model.specs.declared.Entry.{Entry}
pub use Rattle.w16_model.specs.declared.Hold.{Hold}
pub use Rattle.w16_model.specs.declared.Hold.TheVariants.{Loose, Pinned}
pub use Rattle.w16_model.specs.declared.Item.{Item}
pub use Rattle.w16_model.specs.declared.Kind.{Kind}
pub use Rattle.w16_model.specs.declared.Kind.TheVariants.{Discardable}
pub use Rattle.w16_model.specs.declared.Owner.{Owner}
pub use Rattle.w16_model.specs.declared.RoomOptions.{RoomOptions}
pub use Rattle.w16_model.specs.declared.Span.{Span}
