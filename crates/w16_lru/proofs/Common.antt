-- The names of definitions and of lower crates that the proofs of this crate cite, passed on from one place. Declares nothing.
pub use Rattle.std.proofs.Common.{None, Option, Some, Vec, length-append, nat_eq}
pub use Rattle.std.proofs.lemmas.Bool.{ne_eqb, true≢false}
pub use Rattle.std.proofs.lemmas.Bool.Decides.{Decides-eqb}
pub use Rattle.std.proofs.lemmas.List.{get_or_read, with_items_is}
pub use Rattle.std.proofs.lemmas.List.Edits.{Swapped, length-swap, swapped_from_swap}
pub use Rattle.std.proofs.lemmas.List.Elements.{All-filter}
pub use Rattle.std.proofs.lemmas.List.FromFn.{get_or-range_with_len, length-range_with_len}
pub use Rattle.std.proofs.lemmas.List.Kept.{AllPairs-filter}
pub use Rattle.std.proofs.lemmas.Map.Made.{IsDistinct-from_AllPairs}
pub use Rattle.std.proofs.lemmas.Map.Steps.{length-le_from_distinct_below}
pub use Rattle.std.proofs.lemmas.Option.{slice_get_past}
pub use Rattle.std.specs.List.{list_any, swap}
pub use Rattle.std.specs.Prelude.{slice_index}
pub use Rattle.std.specs.Vec.{with_items}
pub use Rattle.w16_lru.specs.Representation.{IsRing, LeadBack, Leads, follow, ids_of, uses_of}
pub use Rattle.w16_lru.specs.Uses.{AreUses, Uses, at_end}
pub use Rattle.w16_lru.specs.declared.End.{End}
pub use Rattle.w16_lru.specs.declared.End.TheVariants.{Newest, Oldest}
pub use Rattle.w16_model.proofs.Common.{All-append, All-cons, All-nil, AllPairs, Bool, List, [], ap, arith, cases_eq, cond, drop, eq-eqb, eqb-true, false, false≢true, get_or, inl, inr, is_member}
pub use Rattle.w16_model.proofs.Common.{is_some, length, not, range_with_len, refl, slice_get, subst, suc, sym, true, without, zero, ℕ, ◌&&◌, ◌++◌, ◌+◌, ◌-◌, ◌<◌, ◌==◌, ◌||◌, ◌∙◌, ◌∷◌, ◌≡◌, ◌≢◌, ◌≤◌, ◌⊎◌}
pub use Rattle.w16_model.proofs.Gaps.{Each-from_All, EachPair, EachPair-from_AllPairs}
pub use Rattle.w16_model.proofs.Orders.{member_gone, member_without, newest_differ, oldest_differ, without_absent}
