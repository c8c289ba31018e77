-- From an address of a gap up to the lowest hole the blocks stand packed.
use Rattle.w16_compact.proofs
use proofs.Common as C
use proofs.Common.{ℕ, suc, zero, ◌≡◌, ◌+◌, ◌-◌, ◌<◌, ◌≤◌, ◌⊎◌, ◌∙◌, List, [], ◌∷◌, Some, refl, arith, sym, ap, subst, inl, inr, lt-ltb, cases_lt, false≢true, AllByRecursion, Block, Span, block_end, IsMultiple, IsIn, holes_of, IsCut, IsRun, Lacks, later, gathered, packed}
use proofs.Gathering.{cut_low}

in_above : (p lo hi : ℕ) (hs : List Span) → C.AreHoles lo hi hs → IsIn p hs → lo ≤ p
in_above p lo hi [] are is = absurd is
in_above p lo hi (h ∷ hs) are is = let from = are.0 in let some = are.1 in elim is [
  | inl here ↦ let at = here.0 in omega arith
  | inr later ↦ let rest = in_above p _ hi hs are.3 later in omega arith
]

-- the lowest hole begins at the lowest free byte
lowest_first : (a lo hi : ℕ) (hs : List Span) → C.AreHoles lo hi hs → Some a ≡ C.lowest 0 hs → IsIn a hs × ((p : ℕ) → IsIn p hs → a ≤ p)
lowest_first a lo hi [] are e = absurd (false≢true (sym (ap C.is_some e)))
lowest_first a lo hi (h ∷ hs) are e =
    let f : Some a ≡ Some h.from = rw (C.le-leb 0 (h.to - h.from) (omega arith)) at e in let same : a ≡ h.from = cc in let some = are.1 in (
      inl (omega arith, omega arith),
      (λ p is. elim is [ inl here ↦ let at = here.0 in omega arith | inr later ↦ let rest = in_above p _ hi hs are.3 later in omega arith ]),
    )

-- where a byte is free and the one before it isn't, a block ends
end_grained : (g p : ℕ) (bs : List Block) → AllByRecursion (C.IsGrained g) bs → AllByRecursion (Lacks (suc p)) bs → AllByRecursion (Lacks p) bs ⊎ IsMultiple g (suc p)
end_grained g p [] grained lacks = inl tt
end_grained g p (b ∷ bs) grained lacks = elim (end_grained g p bs grained.1 lacks.1) [
  | inr ends ↦ inr ends
  | inl rest ↦ elim lacks.0 [
    | inl before ↦ inl (inl (omega arith), rest)
    | inr behind ↦ elim (cases_lt p (block_end b)) [
      | inl at ↦ let is : block_end b ≡ suc p = omega arith in inr (subst (IsMultiple g) is (C.multiple_sum g b.at b.size grained.0.0 grained.0.1))
      | inr over ↦ inl (inr over, rest)
    ]
  ]
]

module _ (l : C.Layout) (ordered : C.IsOrdered l) (low high : ℕ) (may : C.MayGather l low high) (grained : IsMultiple l.grain low) (hole : ℕ) (is : Some hole ≡ C.lowest 0 (holes_of l)) (from : low ≤ hole) (to : hole ≤ high) where
  first : IsIn hole (holes_of l) × ((p : ℕ) → IsIn p (holes_of l) → hole ≤ p)
  first = lowest_first hole l.lo l.hi (holes_of l) (C.AreHoles-holes l.lo l.lo l.hi l.blocks (omega arith) ordered.laid) is

  lacks : AllByRecursion (Lacks hole) l.blocks
  lacks = (C.free_lacks hole l.lo l.hi l.blocks ordered.laid first.0).2

  grained_hole : (k : ℕ) → k ≡ hole → IsMultiple l.grain hole
  grained_hole zero e = let same : low ≡ hole = omega arith in subst (IsMultiple l.grain) same grained
  grained_hole (suc p) e = elim (cases_lt low hole) [
    | inr ge ↦ let same : low ≡ hole = omega arith in subst (IsMultiple l.grain) same grained
    | inl lt ↦ elim (end_grained l.grain p l.blocks ordered.grained (subst (λ (k : ℕ). AllByRecursion (Lacks k) l.blocks) (sym e) lacks)) [
      | inr ends ↦ subst (IsMultiple l.grain) e ends
      | inl all ↦
          let above = may.inside.0 in let top = may.inside.2 in
          let least = first.1 p (C.lacks_free p l.lo l.hi l.blocks ordered.laid (omega arith) (omega arith) all) in absurd (omega arith)
    ]
  ]

  pub run_packed : IsRun l (record { from = low; to = hole })
  run_packed = let top = may.inside.2 in record {
    inside = (may.inside.0, from, omega arith);
    grained = (grained, grained_hole hole refl);
    whole = (
      cut_low low high l.blocks may.inside.1 may.loose,
      C.Each-map (Lacks hole) (λ b. (block_end b ≤ hole) ⊎ (hole ≤ b.at)) (λ b lack. elim lack [ inl before ↦ inr (omega arith) | inr behind ↦ inl behind ]) l.blocks lacks,
    );
    full = λ p low_p high_p free. let least = first.1 p free in absurd (omega arith);
  }

-- A gather begins behind the blocks that stand packed.
module _ (high from : ℕ) (top : from ≤ high) where
  packed_past : (q hi : ℕ) (bs : List Block) → q ≤ from → C.IsLaid q hi bs → IsCut from bs → ((p : ℕ) → q ≤ p → p < from → AllByRecursion (Lacks p) bs → ⊥) → packed high q bs ≡ gathered from high bs
  packed_past q hi [] le laid cut full = refl
  packed_past q hi (b ∷ bs) le laid cut full = let size = laid.1 in let start = laid.0 in elim (cases_lt b.at from) [
    | inl lt ↦
        let here : q ≡ b.at = elim (cases_lt q b.at) [ inl less ↦ absurd (full q (omega arith) (omega arith) (inl less, later q (block_end b) hi bs (omega arith) laid.2)) | inr more ↦ omega arith ] in
        let end : block_end b ≤ from = elim cut.0 [ inl before ↦ before | inr over ↦ absurd (omega arith) ] in
        let below : b.at < high = omega arith in
        rw (lt-ltb b.at high below, lt-ltb b.at from lt)
        (λ i. ap (λ (at : ℕ). let r : Block = record b { at = at } in r) here i
        ∷ (ap (λ (p : ℕ). packed high (p + b.size) bs) here ∙ packed_past (block_end b) hi bs end laid.2 cut.1 (λ p at less lacks. full p (omega arith) less (inr at, lacks))) i)
    | inr ge ↦
        let here : q ≡ from = elim (cases_lt q from) [ inl less ↦ absurd (full q (omega arith) less (inl (omega arith), later q (block_end b) hi bs (omega arith) laid.2)) | inr more ↦ omega arith ] in
        ap (λ (p : ℕ). packed high p (b ∷ bs)) here ∙ rw (C.le-ltb b.at from ge) refl
  ]

  pub gathered_past : (low q hi : ℕ) (bs : List Block) → low ≤ from → C.IsLaid q hi bs → IsCut low bs → IsCut from bs → ((p : ℕ) → low ≤ p → p < from → AllByRecursion (Lacks p) bs → ⊥) → gathered low high bs ≡ gathered from high bs
  gathered_past low q hi [] le laid cut cut' full = refl
  gathered_past low q hi (b ∷ bs) le laid cut cut' full = elim (cases_lt b.at low) [
    | inl lt ↦
        let less : b.at < from = omega arith in
        rw (lt-ltb b.at low lt, lt-ltb b.at from less)
        (ap (λ (cs : List Block). b ∷ cs) (gathered_past low (block_end b) hi bs le laid.2 cut.1 cut'.1 (λ p at end lacks. full p at end (inr (elim cut.0 [ inl below ↦ omega arith | inr above ↦ absurd (omega arith) ]), lacks))))
    | inr ge ↦ rw (C.le-ltb b.at low ge) (packed_past low hi (b ∷ bs) le (ge, laid.1, laid.2) cut' full)
  ]
