use Rattle.std.proofs.Common.{Global, map, sym, ◌∙◌, arith, rules}
use Rattle.std.proofs.{lemmas.List.length-map, lemmas.List.Sorted.ranks_by, lemmas.List.Sorted.list_any-IsPermutation, lemmas.Fn.always_returns_same}
use Rattle.std.specs.{Prelude.nat_eq, Ordering.is_lt, String.string_bytes}
use Rattle.w16_store.specs.Places.{place_cmp}
use Rattle.w16_store.proofs.Listing.{place_cmp_total}
use Rattle.w16_store.proofs.places.places_of.Goals as goal

pub returns-clause-rising : goal.returns-clause-rising
returns-clause-rising c =
    let names = map string_bytes c.args.names.now in
    c.sort_unstable_by.ensures.sorted (λ x y. is_lt (place_cmp names x y)) (ranks_by (place_cmp_total names) (λ x. x)) (always_returns_same _ _ _ (λ a r f called. search rules))

pub returns-clause-whole : goal.returns-clause-whole
returns-clause-whole c = λ long place h.
    sym (list_any-IsPermutation (nat_eq place) _ _ c.sort_unstable_by.ensures.permutation) ∙ c.loop-place.invariant.holds place (let long = length-map c.args.names.now (string_bytes {Z = Global}) in omega arith)
