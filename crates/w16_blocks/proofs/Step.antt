-- What adding a block and taking one away make of the holes.
use Rattle.w16_blocks.proofs
use proofs.Common as C
use proofs.Common.{ℕ, ◌≡◌, ◌<◌, ◌≤◌, ◌+◌, ◌-◌, ◌^◌, ◌⊎◌, List, [], ◌∷◌, Some, arith, sym, ◌∙◌, subst, inl, inr, cases_lt, AllByRecursion, Block, Hold, Span, block_end, holes, block_with, Each-map, IsPart, taken, joined, IsIn, AreHoles-taken, taken_in, in_taken, joined_in, in_joined}
use proofs.Common.{Layout, IsApart, IsOrdered, Fits, FitsFor, placed, all_but, replaced, range_of, holes_of}
use proofs.Place.{placed_after, placed_before, All-placed, IsLaid-placed}
use proofs.Remove.{All-all_but, All-back, IsLaid-all_but, each_with, others_apart, others_differ}
use proofs.Ordered.{IsOrdered-all_but}
use proofs.Free.{Lacks, AreHoles-holes, free_lacks, lacks_free, are_between, used_of, free_of}

pub All-first : (P : Block → Type 0) (b : Block) (bs : List Block) → AllByRecursion P (placed b bs) → P b × AllByRecursion P bs
All-first P b [] all = (all.0, tt)
All-first P b (c ∷ cs) all = elim (cases_lt c.at b.at) [
  | inl lt ↦
      let all' = subst (AllByRecursion P) (placed_after b c cs lt) all in
      let rest = All-first P b cs all'.1 in (rest.0, (all'.0, rest.1))
  | inr le ↦ let all' = subst (AllByRecursion P) (placed_before b c cs le) all in (all'.0, all'.1)
]

-- a block that is added
module _ (l : Layout) (b : Block) (fits : Fits l b) (ordered : IsOrdered l) where
  lacked : (p : ℕ) → b.at ≤ p → p < block_end b → AllByRecursion (Lacks p) l.blocks
  lacked p from to = Each-map (λ c. IsApart b c) (Lacks p) (λ c apart. elim apart [ inl before ↦ inl (omega arith) | inr behind ↦ inr (omega arith) ]) l.blocks fits.apart

  pub free_added : C.IsFree b.at (block_end b) (holes_of l)
  free_added =
      let from = fits.inside.0 in let some = fits.inside.1 in let to = fits.inside.2 in
      free_of b.at (block_end b) l.lo l.hi (holes_of l) (omega arith) (AreHoles-holes l.lo l.lo l.hi l.blocks (omega arith) ordered.laid)
      (λ p s e. lacks_free p l.lo l.hi l.blocks ordered.laid (omega arith) (omega arith) (lacked p s e))

  pub holes_added : taken b.at (block_end b) (holes_of l) ≡ holes l.lo l.hi (placed b l.blocks)
  holes_added =
      let from = fits.inside.0 in let size = fits.inside.1 in let to = fits.inside.2 in
      let some : b.at < block_end b = omega arith in
      let are = AreHoles-holes l.lo l.lo l.hi l.blocks (omega arith) ordered.laid in
      are_between l.lo l.hi (placed b l.blocks) (taken b.at (block_end b) (holes_of l)) (IsLaid-placed l.lo l.hi b l.blocks from size to fits.apart ordered.laid)
      (AreHoles-taken l.hi b.at (block_end b) some l.lo (holes_of l) are free_added)
      (λ p is.
      let r = in_taken l.hi b.at (block_end b) some l.lo p (holes_of l) are free_added is in
      let f = free_lacks p l.lo l.hi l.blocks ordered.laid r.0 in (f.0, f.1, All-placed (Lacks p) b l.blocks r.1 f.2))
      (λ p s e all.
      let each = All-first (Lacks p) b l.blocks all in
      taken_in l.hi b.at (block_end b) some l.lo p (holes_of l) are free_added each.0 (lacks_free p l.lo l.hi l.blocks ordered.laid s e each.1))

-- an id's block that is taken away
module _ (l : Layout) (id : ℕ) (x : Block) (known : block_with l.blocks id ≡ Some x) (ordered : IsOrdered l) where
  pub lies : (l.lo ≤ x.at) × (0 < x.size) × (block_end x ≤ l.hi)
  lies = each_with (λ y. (l.lo ≤ y.at) × (0 < y.size) × (block_end y ≤ l.hi)) id x l.blocks known (C.laid_each l.lo l.hi l.blocks ordered.laid)

  pub grained_known : C.IsGrained l.grain x
  grained_known = each_with (C.IsGrained l.grain) id x l.blocks known ordered.grained

  pub part_known : IsPart (range_of l) x.at x.size
  part_known = record { some = lies.1; from = lies.0; to = lies.2; grained = grained_known.0; rounded = grained_known.1 }

  pub lacks_known : (p : ℕ) → IsIn p (holes_of l) → Lacks p x
  lacks_known p is = each_with (Lacks p) id x l.blocks known (free_lacks p l.lo l.hi l.blocks ordered.laid is).2

  pub used_known : C.IsUsed x.at (block_end x) (holes_of l)
  used_known =
      let some = lies.1 in
      used_of x.at (block_end x) l.lo l.hi (holes_of l) (omega arith) (AreHoles-holes l.lo l.lo l.hi l.blocks (omega arith) ordered.laid)
      (λ p from to is. elim (lacks_known p is) [ inl before ↦ omega arith | inr behind ↦ omega arith ])

  pub holes_left : joined x.at (block_end x) (holes_of l) ≡ holes l.lo l.hi (all_but id l.blocks)
  holes_left =
      let from = lies.0 in let size = lies.1 in let to = lies.2 in
      let some : x.at < block_end x = omega arith in
      let are = AreHoles-holes l.lo l.lo l.hi l.blocks (omega arith) ordered.laid in
      let laid = IsLaid-all_but l.lo l.hi id l.blocks ordered.laid in
      are_between l.lo l.hi (all_but id l.blocks) (joined x.at (block_end x) (holes_of l)) laid
      (C.AreHoles-joined x.at (block_end x) l.lo l.hi (holes_of l) some from to are used_known)
      (λ p is. elim (in_joined x.at (block_end x) p (holes_of l) is) [
        | inl old ↦ let f = free_lacks p l.lo l.hi l.blocks ordered.laid old in (f.0, f.1, All-all_but (Lacks p) id l.blocks f.2)
        | inr new ↦ let s = new.0 in let e = new.1 in (omega arith, omega arith, lacked_by_others p s e)
      ])
      (λ p s e all. joined_in x.at (block_end x) p (holes_of l) (elim (cases_lt p x.at) [
        | inl below ↦ inl (lacks_free p l.lo l.hi l.blocks ordered.laid s e (All-back l.cap (Lacks p) id x l.blocks ordered.named known (inl below) all))
        | inr above ↦ elim (cases_lt p (block_end x)) [
          | inl inside ↦ inr (above, inside)
          | inr behind ↦ inl (lacks_free p l.lo l.hi l.blocks ordered.laid s e (All-back l.cap (Lacks p) id x l.blocks ordered.named known (inr behind) all))
        ]
      ]))
    where
      lacked_by_others : (p : ℕ) → x.at ≤ p → p < block_end x → AllByRecursion (Lacks p) (all_but id l.blocks)
      lacked_by_others p s e = Each-map (λ c. IsApart x c) (Lacks p) (λ c apart. elim apart [ inl before ↦ inl (omega arith) | inr behind ↦ inr (omega arith) ]) (all_but id l.blocks)
          (others_apart l.lo l.hi l.cap id x l.blocks ordered.laid ordered.named known)

-- a block in place of the one of its id
module _ (l : Layout) (b x : Block) (known : block_with l.blocks b.id ≡ Some x) (fits : FitsFor l b) (ordered : IsOrdered l) (ids : l.cap < 2 ^ 32) where
  -- the holes that it leaves are told by their bytes: those that were free or the old one's, and are not the new one's
  pub holes_moved : (ks : List Span) → C.AreHoles l.lo l.hi ks
      → ((p : ℕ) → IsIn p ks → (IsIn p (holes_of l) ⊎ ((x.at ≤ p) × (p < block_end x))) × Lacks p b)
      → ((p : ℕ) → IsIn p (holes_of l) ⊎ ((x.at ≤ p) × (p < block_end x)) → Lacks p b → IsIn p ks)
      → ks ≡ holes l.lo l.hi (replaced b l.blocks)
  holes_moved ks are to from =
      let rest : Layout = record { cap = l.cap; lo = l.lo; hi = l.hi; grain = l.grain; blocks = all_but b.id l.blocks } in
      let left = IsOrdered-all_but l b.id ids ordered in
      let own = fits.inside.1 in
      let some : b.at < block_end b = omega arith in
      let holes_rest = AreHoles-holes l.lo l.lo l.hi rest.blocks (omega arith) left.laid in
      let free = free_added rest b fits left in
      let joins = holes_left l b.id x known ordered in
      C.same_holes l.hi l.lo l.lo ks (taken b.at (block_end b) (holes_of rest)) are (AreHoles-taken l.hi b.at (block_end b) some l.lo (holes_of rest) holes_rest free)
      (λ p is. let r = to p is in taken_in l.hi b.at (block_end b) some l.lo p (holes_of rest) holes_rest free r.1 (subst (IsIn p) joins (joined_in x.at (block_end x) p (holes_of l) r.0)))
      (λ p is. let r = in_taken l.hi b.at (block_end b) some l.lo p (holes_of rest) holes_rest free is in from p (in_joined x.at (block_end x) p (holes_of l) (subst (IsIn p) (sym joins) r.0)) r.1)
      ∙ holes_added rest b fits left

  -- with the same place and size it leaves the same
  pub holes_same : b.at ≡ x.at → b.size ≡ x.size → holes_of l ≡ holes l.lo l.hi (replaced b l.blocks)
  holes_same at size = holes_moved (holes_of l) (AreHoles-holes l.lo l.lo l.hi l.blocks (omega arith) ordered.laid)
      (λ p is. (inl is, elim (lacks_known l b.id x known ordered p is) [ inl before ↦ inl (omega arith) | inr behind ↦ inr (omega arith) ]))
      (λ p is lacks. elim is [
        | inl old ↦ old
        | inr has ↦ let s = has.0 in let e = has.1 in elim lacks [ inl before ↦ absurd (omega arith) | inr behind ↦ absurd (omega arith) ]
      ])

-- a block with another hold fits where it stands
pub fits_itself : (l : Layout) (x : Block) (hold : Hold) → x.id < l.cap → block_with l.blocks x.id ≡ Some x → IsOrdered l → FitsFor l (record x { hold = hold })
fits_itself l x hold lt known ordered = record {
  id = lt;
  free = others_differ x.id _;
  inside = lies l x.id x known ordered;
  apart = others_apart l.lo l.hi l.cap x.id x _ ordered.laid ordered.named known;
  grained = grained_known l x.id x known ordered;
}

-- An id's block with another size: what it has more is taken, or what it has less is put.
module _ (l : Layout) (x : Block) (size : ℕ) (known : block_with l.blocks x.id ≡ Some x) (fits : FitsFor l (record x { size = size })) (ordered : IsOrdered l) (ids : l.cap < 2 ^ 32) where
  are_free : C.AreHoles l.lo l.hi (holes_of l)
  are_free = AreHoles-holes l.lo l.lo l.hi l.blocks (omega arith) ordered.laid

  pub part_more : x.size < size → IsPart (range_of l) (x.at + x.size) (size - x.size)
  part_more more =
      let inside = lies l x.id x known ordered in let grained = grained_known l x.id x known ordered in let end = fits.inside.2 in let from = inside.0 in record {
        some = omega arith;
        from = omega arith;
        to = omega arith;
        grained = C.multiple_sum l.grain x.at x.size grained.0 grained.1;
        rounded = C.multiple_less l.grain size x.size fits.grained.1 grained.1;
      }

  pub part_less : size < x.size → IsPart (range_of l) (x.at + size) (x.size - size)
  part_less less =
      let inside = lies l x.id x known ordered in let grained = grained_known l x.id x known ordered in let end = inside.2 in let from = inside.0 in record {
        some = omega arith;
        from = omega arith;
        to = omega arith;
        grained = C.multiple_sum l.grain x.at size grained.0 fits.grained.1;
        rounded = C.multiple_less l.grain x.size size grained.1 fits.grained.1;
      }

  pub free_more : x.size < size → C.IsFree (x.at + x.size) (x.at + x.size + (size - x.size)) (holes_of l)
  free_more more =
      let end = fits.inside.2 in let from = (lies l x.id x known ordered).0 in
      free_of (x.at + x.size) (x.at + x.size + (size - x.size)) l.lo l.hi (holes_of l) (omega arith) are_free
      (λ p s e. lacks_free p l.lo l.hi l.blocks ordered.laid (omega arith) (omega arith) (All-back l.cap (Lacks p) x.id x l.blocks ordered.named known (inr s)
      (Each-map (IsApart (record x { size = size })) (Lacks p) (λ c apart. elim apart [ inl before ↦ inl (omega arith) | inr behind ↦ inr (omega arith) ]) (all_but x.id l.blocks) fits.apart)))

  pub holes_more : x.size < size → taken (x.at + x.size) (x.at + x.size + (size - x.size)) (holes_of l) ≡ holes l.lo l.hi (replaced (record x { size = size }) l.blocks)
  holes_more more =
      let a = x.at + x.size in let b = x.at + x.size + (size - x.size) in
      let some : a < b = omega arith in
      holes_moved l (record x { size = size }) x known fits ordered ids (taken a b (holes_of l)) (AreHoles-taken l.hi a b some l.lo (holes_of l) are_free (free_more more))
      (λ p is.
      let r = in_taken l.hi a b some l.lo p (holes_of l) are_free (free_more more) is in (
        inl r.0,
        elim (lacks_known l x.id x known ordered p r.0) [
          | inl before ↦ inl before
          | inr behind ↦ elim r.1 [ inl less ↦ absurd (omega arith) | inr past ↦ inr (omega arith) ]
        ],
      ))
      (λ p is lacks. elim is [
        | inl old ↦ taken_in l.hi a b some l.lo p (holes_of l) are_free (free_more more) (elim lacks [ inl before ↦ inl (omega arith) | inr behind ↦ inr (omega arith) ]) old
        | inr has ↦ let s = has.0 in let e = has.1 in elim lacks [ inl before ↦ absurd (omega arith) | inr behind ↦ absurd (omega arith) ]
      ])

  pub used_less : size < x.size → C.IsUsed (x.at + size) (x.at + size + (x.size - size)) (holes_of l)
  used_less less =
      used_of (x.at + size) (x.at + size + (x.size - size)) l.lo l.hi (holes_of l) (omega arith) are_free
      (λ p s e is. elim (lacks_known l x.id x known ordered p is) [ inl before ↦ omega arith | inr behind ↦ omega arith ])

  pub holes_less : size < x.size → joined (x.at + size) (x.at + size + (x.size - size)) (holes_of l) ≡ holes l.lo l.hi (replaced (record x { size = size }) l.blocks)
  holes_less less =
      let a = x.at + size in let b = x.at + size + (x.size - size) in
      let inside = lies l x.id x known ordered in let from = inside.0 in let to = inside.2 in
      holes_moved l (record x { size = size }) x known fits ordered ids (joined a b (holes_of l)) (C.AreHoles-joined a b l.lo l.hi (holes_of l) (omega arith) (omega arith) (omega arith) are_free (used_less less))
      (λ p is. elim (in_joined a b p (holes_of l) is) [
        | inl old ↦ (inl old, elim (lacks_known l x.id x known ordered p old) [ inl before ↦ inl before | inr behind ↦ inr (omega arith) ])
        | inr new ↦ let s = new.0 in let e = new.1 in (inr (omega arith, omega arith), inr s)
      ])
      (λ p is lacks. joined_in a b p (holes_of l) (elim is [
        | inl old ↦ inl old
        | inr has ↦ let s = has.0 in let e = has.1 in elim lacks [ inl before ↦ absurd (omega arith) | inr behind ↦ inr (behind, omega arith) ]
      ]))
