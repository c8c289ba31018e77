-- The names of definitions and of lower crates that the proofs of this crate cite, passed on from one place. Declares nothing.
pub use Rattle.std.proofs.Common.{IsSome, None, Option, Some, eqb, ◌++◌}
pub use Rattle.std.proofs.lemmas.Bool.{eqb-true, le-leb, ne_eqb}
pub use Rattle.std.proofs.lemmas.Grind.{div_ceil_times}
pub use Rattle.std.proofs.lemmas.List.{get_or-drop, get_or-take, get_or_past, get_or_read, length-append, length-drop, length-map, set-set, with_items_is}
pub use Rattle.std.proofs.lemmas.Map.Steps.{length-le_from_distinct_below}
pub use Rattle.std.proofs.lemmas.Nat.{le_or_l, le_or_r}
pub use Rattle.std.specs.Int.{div_ceil}
pub use Rattle.std.specs.Int.Bits.{bit_or}
pub use Rattle.std.specs.List.{AllByRecursion, list_any}
unfoldable pub use Rattle.std.specs.List.{IsDistinct}
pub use Rattle.w16_blocks.specs.Below.{IsLastBelow}
pub use Rattle.w16_blocks.specs.Kept.{AreBegun, AreReserved, AreTables, Begins, BlocksInvariant, blocks_in, layout_in, no_block, pins_in, pins_of, slot_of}
pub use Rattle.w16_blocks.specs.Layout.{AreNamed, Fits, FitsFor, IsApart, IsGrained, IsOrdered, Layout, all_but, from_address, holes_of, placed, range_of, rank, renamed, replaced, with_other_id}
pub use Rattle.w16_blocks.specs.Parts.{IsBehindAll, IsFirstBlock, IsFirstHole}
pub use Rattle.w16_blocks.specs.Runs.{IsBare, IsCut, IsRun, slid_with}
pub use Rattle.w16_blocks.specs.Stay.{AreSameOutsideBoth, HasRange, Leaves}
pub use Rattle.w16_holes.proofs.Common.{AreHoles, AreSameIn, AreSameOutside, IsFree, IsIn, IsPart, IsPlace, IsSameOutside, IsUsed, Range, add_span, drop-put_part, eqb_tells, get_or-set_other, get_or-set_same}
pub use Rattle.w16_holes.proofs.Common.{joined, le-ltb, length-put_part, length-replicate, length-set, length_at, lt-ltb, part_above, part_below, set-get_or, slice_index, take-put_part, taken, ◌^◌}
pub use Rattle.w16_holes.specs.Holes.{AreSameBut, slid_down}
pub use Rattle.w16_holes.specs.declared.holes.TheConstants.{LAST_END}
pub use Rattle.w16_holes.proofs.Sets.{AreHoles-joined, AreHoles-taken, in_joined, in_taken, joined_in, low, same_holes, taken_in}
pub use Rattle.w16_holes.proofs.Units.{above, below, multiple_less, multiple_sum, up, whole_units}
pub use Rattle.w16_holes.proofs.Write.{AreSameIn-put_part}
pub use Rattle.w16_model.proofs.Common.{AreAllOf, Bool, IfSome, IsHole, IsLaid, IsMultiple, IsTrue, List, MatchOption, Misses, [], add-one, ap, arith, block_end, block_with, cases_lt, common_steps, cond, drop, eq-eqb, false}
pub use Rattle.w16_model.proofs.Common.{false≢true, filter, first_from, get_or, holds_still, hole_after, holes, inl, inr, is_any, is_pinned, is_some, length, length-take-le, lt-leb, map, max, min, nat_le, nat_lt, or_cases}
pub use Rattle.w16_model.proofs.Common.{part, put_part, refl, replicate, rules, set, slice_get, subst, suc, sum_by, sum_by-cons, sym, take, take_all, true, zero, ℕ, ◌*◌, ◌+◌, ◌-◌, ◌/◌, ◌<◌, ◌==◌, ◌||◌, ◌∙◌, ◌∷◌, ◌≡◌, ◌≢◌, ◌≤◌}
pub use Rattle.w16_model.proofs.Common.{◌⊎◌}
pub use Rattle.w16_model.proofs.Gaps.{All-from_Each, Each-at, Each-both, Each-from_All, Each-map, Member}
pub use Rattle.w16_model.proofs.Laid.{first_behind, first_hole_end, holes-cons, laid_each, laid_le, laid_placed}
pub use Rattle.w16_model.proofs.Parts.{part-put_part}
pub use Rattle.w16_model.proofs.Starts.{gap_list_law}
pub use Rattle.w16_model.proofs.Walks.{member_contained}
pub use Rattle.w16_model.specs.declared.Block.{Block}
pub use Rattle.w16_model.specs.declared.Hold.{Hold}
pub use Rattle.w16_model.specs.declared.Hold.TheVariants.{Loose, Pinned}
pub use Rattle.w16_model.specs.declared.Span.{Span}
pub use Rattle.w16_region.proofs.Common.{counted, length-part, with_items}
