-- The names of definitions and of lower crates that the proofs of this crate cite, passed on from one place. Declares nothing.
pub use Rattle.std.proofs.Common.{None, Option, Some}
pub use Rattle.std.proofs.lemmas.Bool.{eq-eqb}
pub use Rattle.std.proofs.lemmas.List.{get_or-replicate, take-append-drop}
pub use Rattle.std.proofs.lemmas.List.Elements.{All-get_or}
pub use Rattle.std.proofs.lemmas.List.Sums.{count_by-le-length, length-filter}
pub use Rattle.std.proofs.lemmas.Option.{get_or_from_slice_get, slice_get_within}
pub use Rattle.std.specs.Borrow.{GName}
pub use Rattle.std.specs.Ordering.{ord_max}
pub use Rattle.w16_blocks.proofs.Common.{All-from_Each, AllByRecursion, AreHoles, AreNamed, AreSameBut, Each-at, Each-both, Each-from_All, Each-map, IsApart, IsBare, IsCut, IsGrained, IsIn, IsOrdered}
pub use Rattle.w16_blocks.proofs.Common.{IsRun, IsSome, IsUsed, Layout, Member, all_but, counted, drop-put_part, eqb, eqb_tells, from_address, get_or-set_other, get_or-set_same, holes_of, laid_each, laid_le}
pub use Rattle.w16_blocks.proofs.Common.{laid_placed, le-ltb, length-map, length-put_part, list_any, lt-ltb, multiple_less, multiple_sum, placed, rank, replaced, slice_index, slid_with, take-put_part}
pub use Rattle.w16_blocks.proofs.Common.{◌^◌}
pub use Rattle.w16_blocks.proofs.Free.{AreHoles-holes, Lacks, free_lacks, lacks_free, later}
pub use Rattle.std.proofs.lemmas.Bool.{eqb-true}
pub use Rattle.w16_blocks.proofs.Later.{laid_later}
pub use Rattle.w16_blocks.proofs.Lifting.{around}
pub use Rattle.w16_blocks.proofs.Ordered.{sum_fits}
pub use Rattle.w16_blocks.proofs.Outside.{outside_but, used_each}
pub use Rattle.w16_blocks.proofs.Remove.{All-all_but, All-back, AreNamed-all_but, IsLaid-all_but, IsLaid-from, all_but_absent, all_but_other, all_but_same, each_with, others_apart, replaced-itself, sum-all_but, with_id, with_other, with_same}
pub use Rattle.w16_blocks.proofs.Rising.{with_back}
pub use Rattle.w16_blocks.proofs.RunHoles.{All-mapped, All-unmapped, Lies, lies_of}
pub use Rattle.w16_blocks.proofs.Sliding.{map-same, moved_to, slid_above, slid_below, slid_inside}
pub use Rattle.w16_blocks.proofs.Step.{grained_known, lies}
pub use Rattle.w16_blocks.specs.Runs.{BeginsAt, EndsAt}
pub use Rattle.w16_compact.specs.Gap.{HasRoom, IsLowest, others, without}
pub use Rattle.w16_compact.specs.Gather.{AreSlid, FitsGap, MayGather, contents, gathered, moved_between, packed, LeavesFree}
pub use Rattle.w16_compact.specs.Open.{end_in, opened, raised, raised_in, spare_in, with_loose}
pub use Rattle.w16_compact.specs.Rest.{IsSameRest}
pub use Rattle.w16_blocks.specs.Stay.{HasRange, Leaves}
pub use Rattle.w16_compact.specs.Told.{AreTold, Tells}
pub use Rattle.w16_compact.specs.declared.gaps.Gap.{Gap}
pub use Rattle.w16_compact.specs.declared.reach.Reached.{Reached}
pub use Rattle.w16_holes.proofs.Common.{drop_higher, lowest, take_lower}
pub use Rattle.w16_lru.proofs.Common.{AreUses, Uses}
pub use Rattle.w16_model.proofs.Common.{Bool, IfSome, IsClear, IsGap, IsGapOf, IsHole, IsLaid, IsMultiple, IsTrue, List, MatchOption, Misses, [], add-one, and_from, and_left, and_parts, and_right, ap, arith, begins_in, block_end, block_with, blocks_without}
pub use Rattle.w16_model.proofs.Common.{cases_Bool, cases_lt, common_steps, cond, cond-false, cond-true, drop, drop-drop, drop-take, eligible, false, false≢true, filter, find, first_from, holds_still, holes, inl, inr, is_about, is_any, is_loose, is_member}
pub use Rattle.w16_model.proofs.Common.{is_pinned, is_pinned_id, is_some, largest, le-leb, length, length-drop, loose_bytes, lt-leb, map, max, min, nat_cmp, nat_le, nat_lt, nat_tests, ne_eqb, needed, not, not-true, not_from_false, or_from, part, put_part}
pub use Rattle.w16_model.proofs.Common.{range_with_len, refl, replicate, room, room_for, room_from, rules, set, slice_get, snapshot, subst, suc, sum_by, sum_by-cons, sym, take, take-take, true, zero, zero-add, ℕ, ◌&&◌, ◌++◌, ◌+◌, ◌-◌, ◌<◌, ◌==◌, ◌||◌, ◌∙◌, ◌∷◌}
pub use Rattle.w16_model.proofs.Common.{◌≡◌, ◌≢◌, ◌≤◌, ◌⊎◌}
pub use Rattle.w16_model.proofs.Discards.{more_discards_law}
pub use Rattle.w16_model.proofs.Gaps.{Each-filter, Each-from, Each-of_map, EachPair, EachPair-from_AllPairs, filter_member, pairs_filter}
pub use Rattle.w16_model.proofs.Least.{take_past}
pub use Rattle.w16_model.proofs.Longest.{each_gap, some_gap, sum_filter}
pub use Rattle.w16_model.specs.declared.Block.{Block}
pub use Rattle.w16_model.specs.declared.Hold.{Hold}
pub use Rattle.w16_model.specs.declared.Hold.TheVariants.{Loose, Pinned}
pub use Rattle.w16_model.specs.declared.Span.{Span}
