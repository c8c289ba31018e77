-- What taking a block away keeps of a list.
use Rattle.w16_blocks.proofs
use proofs.Common.{IfSome, Option, IsOrdered, Layout, ℕ, ◌≡◌, ◌≢◌, ◌+◌, ◌<◌, ◌≤◌, ◌==◌, true, false, List, [], ◌∷◌, Some, None, is_some, sum_by, arith, refl, sym, subst, ap, ◌∙◌, inl, inr, eqb_tells, ne_eqb, false≢true, sum_by-cons, AllByRecursion, Block, IsLaid, block_end, block_with}
use proofs.Common.{Each-map, laid_each, IsApart, placed, all_but, replaced, AreNamed}
use proofs.Place.{placed_first, placed_after}

pub all_but_same : (id : ℕ) (c : Block) (cs : List Block) → (c.id == id) ≡ true → all_but id (c ∷ cs) ≡ all_but id cs
all_but_same id c cs e = rw e refl

pub all_but_other : (id : ℕ) (c : Block) (cs : List Block) → (c.id == id) ≡ false → all_but id (c ∷ cs) ≡ c ∷ all_but id cs
all_but_other id c cs e = rw e refl

pub all_but_absent : (id : ℕ) (bs : List Block) → AllByRecursion (λ c. c.id ≢ id) bs → all_but id bs ≡ bs
all_but_absent id [] all = refl
all_but_absent id (b ∷ bs) all = all_but_other id b bs (ne_eqb b.id id all.0) ∙ ap (λ ys. b ∷ ys) (all_but_absent id bs all.1)

-- the rest of a list whose first is the id's
pub rest_differs : (cap id : ℕ) (b : Block) (bs : List Block) → b.id ≡ id → AreNamed cap (b ∷ bs) → AllByRecursion (λ c. c.id ≢ id) bs
rest_differs cap id b bs same named = subst (λ k. AllByRecursion (λ c. c.id ≢ k) bs) same named.1

-- the id's block, or another first
pub with_same : (id : ℕ) (b : Block) (bs : List Block) → (b.id == id) ≡ true → block_with (b ∷ bs) id ≡ Some b
with_same id b bs e = rw e refl

pub with_other : (id : ℕ) (b : Block) (bs : List Block) → (b.id == id) ≡ false → block_with (b ∷ bs) id ≡ block_with bs id
with_other id b bs e = rw e refl

-- an id that has no block
pub none_with : (id : ℕ) (bs : List Block) → block_with bs id ≡ None → AllByRecursion (λ c. c.id ≢ id) bs
none_with id [] none = tt
none_with id (b ∷ bs) none = elim (eqb_tells b.id id) [
  | inl same ↦ let some = rw same.0 at none in cc
  | inr other ↦ (other.1, none_with id bs (rw other.0 at none))
]

-- an id that none has
pub with_none : (id : ℕ) (bs : List Block) → AllByRecursion (λ c. c.id ≢ id) bs → block_with bs id ≡ None
with_none id [] all = refl
with_none id (b ∷ bs) all = with_other id b bs (ne_eqb b.id id all.0) ∙ with_none id bs all.1

-- from a lower bound on they are laid too
pub IsLaid-from : (low low' high : ℕ) (bs : List Block) → low ≤ low' → IsLaid low' high bs → IsLaid low high bs
IsLaid-from low low' high [] le laid = omega arith
IsLaid-from low low' high (b ∷ bs) le laid = let from = laid.0 in (omega arith, laid.1, laid.2)

pub IsLaid-all_but : (low high id : ℕ) (bs : List Block) → IsLaid low high bs → IsLaid low high (all_but id bs)
IsLaid-all_but low high id [] laid = laid
IsLaid-all_but low high id (b ∷ bs) laid =
    let from = laid.0 in let size = laid.1 in
    elim (eqb_tells b.id id) [
      | inl same ↦ rw same.0 (IsLaid-from low (block_end b) high _ (omega arith) (IsLaid-all_but _ high id bs laid.2))
      | inr other ↦ rw other.0 (from, size, IsLaid-all_but (block_end b) high id bs laid.2)
    ]

pub All-all_but : (P : Block → Type 0) (id : ℕ) (bs : List Block) → AllByRecursion P bs → AllByRecursion P (all_but id bs)
All-all_but P id [] all = tt
All-all_but P id (b ∷ bs) all = elim (eqb_tells b.id id) [
  | inl same ↦ rw same.0 (All-all_but P id bs all.1)
  | inr other ↦ rw other.0 (all.0, All-all_but P id bs all.1)
]

pub AreNamed-all_but : (cap id : ℕ) (bs : List Block) → AreNamed cap bs → AreNamed cap (all_but id bs)
AreNamed-all_but cap id [] named = tt
AreNamed-all_but cap id (b ∷ bs) named = elim (eqb_tells b.id id) [
  | inl same ↦ rw same.0 (AreNamed-all_but cap id bs named.2)
  | inr other ↦ rw other.0 (named.0, All-all_but (λ c. c.id ≢ b.id) id bs named.1, AreNamed-all_but cap id bs named.2)
]

-- an id's block is one of the blocks
pub each_with : (P : Block → Type 0) (id : ℕ) (x : Block) (bs : List Block) → block_with bs id ≡ Some x → AllByRecursion P bs → P x
each_with P id x [] e all = absurd (false≢true (ap is_some e))
each_with P id x (b ∷ bs) e all = elim (eqb_tells b.id id) [
  | inl same ↦ let f : Some b ≡ Some x = sym (with_same id b bs same.0) ∙ e in let g : b ≡ x = cc in subst P g all.0
  | inr other ↦ each_with P id x bs (sym (with_other id b bs other.0) ∙ e) all.1
]

pub with_id : (id : ℕ) (x : Block) (bs : List Block) → block_with bs id ≡ Some x → x.id ≡ id
with_id id x [] e = absurd (false≢true (ap is_some e))
with_id id x (b ∷ bs) e = elim (eqb_tells b.id id) [
  | inl same ↦ let f : Some b ≡ Some x = sym (with_same id b bs same.0) ∙ e in let g : b ≡ x = cc in subst (λ (y : Block). y.id ≡ id) g same.1
  | inr other ↦ with_id id x bs (sym (with_other id b bs other.0) ∙ e)
]

pub sum-all_but : (cap : ℕ) (f : Block → ℕ) (id : ℕ) (x : Block) (bs : List Block) → AreNamed cap bs → block_with bs id ≡ Some x → sum_by f bs ≡ f x + sum_by f (all_but id bs)
sum-all_but cap f id x [] named e = absurd (false≢true (ap is_some e))
sum-all_but cap f id x (b ∷ bs) named e = elim (eqb_tells b.id id) [
  | inl same ↦
      let g : Some b ≡ Some x = sym (with_same id b bs same.0) ∙ e in let h : b ≡ x = cc in
      let rest = all_but_same id b bs same.0 ∙ all_but_absent id bs (rest_differs cap id b bs same.1 named) in
      sum_by-cons f b bs ∙ ap (λ y. f y + sum_by f bs) h ∙ ap (λ ys. f x + sum_by f ys) (sym rest)
  | inr other ↦
      let ih = sum-all_but cap f id x bs named.2 (sym (with_other id b bs other.0) ∙ e) in
      let old = sum_by-cons f b bs in
      let rest = ap (sum_by f) (all_but_other id b bs other.0) ∙ sum_by-cons f b (all_but id bs) in
      omega arith
]

-- what holds of the id's block and of the others holds of each
pub All-back : (cap : ℕ) (P : Block → Type 0) (id : ℕ) (x : Block) (bs : List Block) → AreNamed cap bs → block_with bs id ≡ Some x → P x → AllByRecursion P (all_but id bs) → AllByRecursion P bs
All-back cap P id x [] named e p all = tt
All-back cap P id x (b ∷ bs) named e p all = elim (eqb_tells b.id id) [
  | inl same ↦
      let f : Some b ≡ Some x = sym (with_same id b bs same.0) ∙ e in let g : b ≡ x = cc in
      let rest = all_but_same id b bs same.0 ∙ all_but_absent id bs (rest_differs cap id b bs same.1 named) in
      (subst P (sym g) p, subst (AllByRecursion P) rest all)
  | inr other ↦
      let all' = subst (AllByRecursion P) (all_but_other id b bs other.0) all in
      (all'.0, All-back cap P id x bs named.2 (sym (with_other id b bs other.0) ∙ e) p all'.1)
]

-- the others share no byte with it
pub others_apart : (lo hi cap id : ℕ) (x : Block) (bs : List Block) → IsLaid lo hi bs → AreNamed cap bs → block_with bs id ≡ Some x → AllByRecursion (λ c. IsApart x c) (all_but id bs)
others_apart lo hi cap id x [] laid named e = tt
others_apart lo hi cap id x (b ∷ bs) laid named e =
    elim (eqb_tells b.id id) [
      | inl same ↦
          let f : Some b ≡ Some x = sym (with_same id b bs same.0) ∙ e in let g : b ≡ x = cc in
          let rest = all_but_same id b bs same.0 ∙ all_but_absent id bs (rest_differs cap id b bs same.1 named) in
          subst (AllByRecursion _) (sym rest) (subst (λ y. AllByRecursion (IsApart y) bs) g
          (Each-map (λ y. (block_end b ≤ y.at) × (0 < y.size) × (block_end y ≤ hi)) _ (λ y is. inl is.0) bs (laid_each _ hi bs laid.2)))
      | inr other ↦
          let e' = sym (with_other id b bs other.0) ∙ e in
          let behind = (each_with (λ y. (block_end b ≤ y.at) × (0 < y.size) × (block_end y ≤ hi)) id x bs e' (laid_each _ hi bs laid.2)).0 in
          subst (AllByRecursion (IsApart x)) (sym (all_but_other id b bs other.0)) (inr behind, others_apart (block_end b) hi cap id x bs laid.2 named.2 e')
    ]

pub others_differ : (id : ℕ) (bs : List Block) → AllByRecursion (λ c. c.id ≢ id) (all_but id bs)
others_differ id [] = tt
others_differ id (b ∷ bs) = elim (eqb_tells b.id id) [
  | inl same ↦ rw same.0 (others_differ id bs)
  | inr other ↦ rw other.0 (other.1, others_differ id bs)
]

-- a block in place of itself
pub replaced-itself : (lo hi cap : ℕ) (x : Block) (bs : List Block) → IsLaid lo hi bs → AreNamed cap bs → block_with bs x.id ≡ Some x → replaced x bs ≡ bs
replaced-itself lo hi cap x [] laid named e = absurd (false≢true (ap is_some e))
replaced-itself lo hi cap x (b ∷ bs) laid named e =
    let size = laid.1 in
    elim (eqb_tells b.id x.id) [
      | inl same ↦
          let f : Some b ≡ Some x = sym (with_same x.id b bs same.0) ∙ e in let g : b ≡ x = cc in
          let rest = all_but_same x.id b bs same.0 ∙ all_but_absent x.id bs (rest_differs cap x.id b bs same.1 named) in
          ap (placed x) rest ∙ placed_first x bs (Each-map (λ y. (block_end b ≤ y.at) × (0 < y.size) × (block_end y ≤ hi)) (λ y. x.at ≤ y.at) (λ y is. let from = is.0 in let place = ap (λ c. c.at) g in omega arith) bs (laid_each _ hi bs laid.2))
          ∙ ap (λ c. c ∷ bs) (sym g)
      | inr other ↦
          let e' = sym (with_other x.id b bs other.0) ∙ e in
          let behind = (each_with (λ y. (block_end b ≤ y.at) × (0 < y.size) × (block_end y ≤ hi)) x.id x bs e' (laid_each _ hi bs laid.2)).0 in
          ap (placed x) (all_but_other x.id b bs other.0) ∙ placed_after x b (all_but x.id bs) (omega arith) ∙ ap (λ cs. b ∷ cs) (replaced-itself (block_end b) hi cap x bs laid.2 named.2 e')
    ]

-- a block that was found is its id's, and in its place the same block leaves the layout
module _ (l : Layout) (ordered : IsOrdered l) (id : ℕ) (x : Block) (known : block_with l.blocks id ≡ Some x) where
  pub itself : block_with l.blocks x.id ≡ Some x
  itself = ap (block_with l.blocks) (with_id id x l.blocks known) ∙ known

  pub same_there : (y : Block → Block) → y x ≡ x → IfSome (block_with l.blocks id) (λ b. l ≡ record l { blocks = replaced (y b) l.blocks })
  same_there y same = subst (λ (o : Option Block). IfSome o (λ b. l ≡ record l { blocks = replaced (y b) l.blocks })) (sym known)
      (ap (λ (bs : List Block). record l { blocks = bs }) (sym (ap (λ (c : Block). replaced c l.blocks) same ∙ replaced-itself l.lo l.hi l.cap x l.blocks ordered.laid ordered.named itself)))
