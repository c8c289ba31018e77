-- A block that gets a place elsewhere, at least as long as its own: the new place is taken from a hole, and the old one is put.
use Rattle.w16_blocks.proofs
use proofs.Common as C
use proofs.Common.{ℕ, ◌≡◌, ◌<◌, ◌≤◌, ◌+◌, ◌^◌, ◌⊎◌, List, Some, arith, subst, inl, inr, Block, Span, holes, AreHoles, IsUsed, taken, IsIn, holes_of}
use proofs.Free.{Lacks, AreHoles-holes, lacks_free, used_of, free_of}
use proofs.{Remove.All-back, Step.lies, Step.lacks_known, Step.holes_moved}

module _ (l : C.Layout) (x : Block) (to n : ℕ) (known : C.block_with l.blocks x.id ≡ Some x) (fits : C.FitsFor l (record x { at = to; size = n })) (out : C.IsApart (record x { at = to; size = n }) x) (ordered : C.IsOrdered l) (ids : l.cap < 2 ^ 32) where
  are : AreHoles l.lo l.hi (holes_of l)
  are = AreHoles-holes l.lo l.lo l.hi l.blocks (omega arith) ordered.laid

  some : to < to + n
  some = let size = fits.inside.1 in omega arith

  pub part_new : C.IsPart (C.range_of l) to n
  part_new = record { some = fits.inside.1; from = fits.inside.0; to = fits.inside.2; grained = fits.grained.0; rounded = fits.grained.1 }

  pub free_new : C.IsFree to (to + n) (holes_of l)
  free_new =
      let from = fits.inside.0 in let end = fits.inside.2 in
      free_of to (to + n) l.lo l.hi (holes_of l) some are
      (λ p s e. lacks_free p l.lo l.hi l.blocks ordered.laid (omega arith) (omega arith) (All-back l.cap (Lacks p) x.id x l.blocks ordered.named known
      (elim out [ inl before ↦ inl (omega arith) | inr behind ↦ inr (omega arith) ])
      (C.Each-map (C.IsApart (record x { at = to; size = n })) (Lacks p) (λ c apart. elim apart [ inl before ↦ inl (omega arith) | inr behind ↦ inr (omega arith) ]) (C.all_but x.id l.blocks) fits.apart)))

  -- once the new place is taken
  abbrev between : List Span
  between = taken to (to + n) (holes_of l)

  are_then : AreHoles l.lo l.hi between
  are_then = C.AreHoles-taken l.hi to (to + n) some l.lo (holes_of l) are free_new

  free_then : (p : ℕ) → IsIn p between → IsIn p (holes_of l) × ((p < to) ⊎ (to + n ≤ p))
  free_then p is = C.in_taken l.hi to (to + n) some l.lo p (holes_of l) are free_new is

  pub used_old : IsUsed x.at (x.at + x.size) between
  used_old =
      let size = (lies l x.id x known ordered).1 in
      used_of x.at (x.at + x.size) l.lo l.hi between (omega arith) are_then
      (λ p s e is. elim (lacks_known l x.id x known ordered p (free_then p is).0) [ inl before ↦ omega arith | inr behind ↦ omega arith ])

  pub used_then : x.size ≤ n → IsUsed to (to + x.size) between
  used_then more =
      let size = (lies l x.id x known ordered).1 in
      used_of to (to + x.size) l.lo l.hi between (omega arith) are_then (λ p s e is. elim (free_then p is).1 [ inl before ↦ omega arith | inr behind ↦ omega arith ])

  -- and once the old one is put
  abbrev after_holes : List Span
  after_holes = C.joined x.at (x.at + x.size) between

  free_after : (p : ℕ) → IsIn p after_holes → (IsIn p (holes_of l) ⊎ ((x.at ≤ p) × (p < C.block_end x))) × Lacks p (record x { at = to; size = n })
  free_after p is = elim (C.in_joined x.at (x.at + x.size) p between is) [
    | inl rest ↦ let r = free_then p rest in (inl r.0, r.1)
    | inr old ↦ let s = old.0 in let e = old.1 in (inr (s, e), elim out [ inl before ↦ inr (omega arith) | inr behind ↦ inl (omega arith) ])
  ]

  are_after : AreHoles l.lo l.hi after_holes
  are_after =
      let inside = lies l x.id x known ordered in let from = inside.0 in let size = inside.1 in let end = inside.2 in
      C.AreHoles-joined x.at (x.at + x.size) l.lo l.hi between (omega arith) (omega arith) (omega arith) are_then used_old

  pub holes_grown : after_holes ≡ holes l.lo l.hi (C.replaced (record x { at = to; size = n }) l.blocks)
  holes_grown = holes_moved l (record x { at = to; size = n }) x known fits ordered ids after_holes are_after free_after
      (λ p is lacks. C.joined_in x.at (x.at + x.size) p between (elim is [
        | inl old ↦ inl (C.taken_in l.hi to (to + n) some l.lo p (holes_of l) are free_new lacks old)
        | inr has ↦ inr has
      ]))

  pub used_after : x.size ≤ n → IsUsed to (to + x.size) (holes l.lo l.hi (C.replaced (record x { at = to; size = n }) l.blocks))
  used_after more =
      let size = (lies l x.id x known ordered).1 in
      subst (IsUsed to (to + x.size)) holes_grown (used_of to (to + x.size) l.lo l.hi after_holes (omega arith) are_after (λ p s e is. elim (free_after p is).1 [ inl before ↦ omega arith | inr behind ↦ omega arith ]))
