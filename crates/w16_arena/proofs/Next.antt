-- The lowest block at or above an address.
use Rattle.w16_arena.proofs.Common as C
use Rattle.std.specs.List.{AllByRecursion as Each}
use Rattle.w16_arena.proofs.Common.{◌≡◌, ◌≢◌, ℕ, ◌<◌, ◌≤◌, ◌⊎◌, inl, inr, IfSome, IfNone, List, [], ◌∷◌, MatchOption, Option, Some, None, slice_get, refl, sym, subst, arith, Block, block_end, Table, block_with, rank}

-- what the block of a rank is to an address
abbrev pub IsNext : ℕ → List Block → Option Block → Type 0
IsNext from bs found = MatchOption found (Each (λ c. c.at < from) bs) (λ b. C.Member b bs × (from ≤ b.at) × Each (λ c. (c.at < from) ⊎ ((c ≡ b) ⊎ (b.at < c.at))) bs)

pub next_is : (lo hi from : ℕ) (bs : List Block) → C.IsLaid lo hi bs → IsNext from bs (slice_get bs (rank from bs))
next_is lo hi from [] laid = tt
next_is lo hi from (b ∷ bs) laid = elim (C.cases_lt b.at from) [
  | inl below ↦ rw (C.lt-ltb b.at from below) (more below (slice_get bs _) (next_is (block_end b) hi from bs laid.2))
  | inr above ↦ rw (C.le-ltb b.at from above) (
    inl refl,
    above,
    (inr (inl refl), let some = laid.1 in C.Each-map (λ c. (block_end b ≤ c.at) × (0 < c.size) × (block_end c ≤ hi)) (λ c. (c.at < from) ⊎ ((c ≡ b) ⊎ (b.at < c.at))) (λ c lies. let after = lies.0 in inr (inr (omega arith))) bs (C.laid_each _ hi bs laid.2)),
  )
]
  where
    more : b.at < from → (found : Option Block) → IsNext from bs found → IsNext from (b ∷ bs) found
    more below None is = (below, is)
    more below (Some x) is = (inr is.0, is.1, (inl below, is.2))

-- the same of each id's block
each_block : (bs : List Block) (P : Block → Type 0) → Each P bs → (q : ℕ) → IfSome (block_with bs q) P
each_block bs P all q = from _ refl
  where
    from : (b : Option Block) → block_with bs q ≡ b → IfSome b P
    from None e = tt
    from (Some x) e = C.Each-at P bs all x (C.member_with bs q x e).0

module _ (t : Table) (sound : C.IsSound t) (from : ℕ) {found : Option Block} (got : found ≡ slice_get t.blocks (rank from t.blocks)) where
  is_next : IsNext from t.blocks found
  is_next = subst (IsNext from t.blocks) (sym got) (next_is t.lo t.hi from t.blocks sound.table.laid)

  pub next_found : IfSome found (λ b. (from ≤ b.at) × (block_with t.blocks b.id ≡ Some b))
  next_found = turn found is_next
    where
      turn : (b : Option Block) → IsNext from t.blocks b → IfSome b (λ b. (from ≤ b.at) × (block_with t.blocks b.id ≡ Some b))
      turn None is = tt
      turn (Some b) is = (is.1, C.with_member t.blocks b (C.EachPair-from_AllPairs (λ x y. x.id ≡ y.id → ⊥) t.blocks sound.table.ids) is.0)

  pub next_lowest : IfSome found (λ b. (q : ℕ) → IfSome (block_with t.blocks q) (λ c. (c.at < from) ⊎ (b.at ≤ c.at)))
  next_lowest = turn found is_next
    where
      not_below : (b c : Block) → (c.at < from) ⊎ ((c ≡ b) ⊎ (b.at < c.at)) → (c.at < from) ⊎ (b.at ≤ c.at)
      not_below b c (inl below) = inl below
      not_below b c (inr (inl same)) = inr (subst (λ (d : Block). b.at ≤ d.at) (sym same) (omega arith))
      not_below b c (inr (inr behind)) = inr (omega arith)

      turn : (b : Option Block) → IsNext from t.blocks b → IfSome b (λ b. (q : ℕ) → IfSome (block_with t.blocks q) (λ c. (c.at < from) ⊎ (b.at ≤ c.at)))
      turn None is = tt
      turn (Some b) is = each_block t.blocks (λ c. (c.at < from) ⊎ (b.at ≤ c.at)) (C.Each-map (λ c. (c.at < from) ⊎ ((c ≡ b) ⊎ (b.at < c.at))) (λ c. (c.at < from) ⊎ (b.at ≤ c.at)) (not_below b) t.blocks is.2)

  pub next_none : IfNone found ((q : ℕ) → IfSome (block_with t.blocks q) (λ c. c.at < from))
  next_none = turn found is_next
    where
      turn : (b : Option Block) → IsNext from t.blocks b → IfNone b ((q : ℕ) → IfSome (block_with t.blocks q) (λ c. c.at < from))
      turn None is = each_block t.blocks (λ c. c.at < from) is
      turn (Some b) is = tt

-- the block that begins at a place, or none does
pub beginning_found : (bs : List Block) (place : ℕ) (found : Option Block) → MatchOption found (Each (λ b. b.at ≢ place) bs) (λ b. (b.at ≡ place) × (block_with bs b.id ≡ Some b)) → IfSome found (λ b. (b.at ≡ place) × (block_with bs b.id ≡ Some b))
beginning_found bs place None is = tt
beginning_found bs place (Some b) is = is

pub beginning_none : (bs : List Block) (place : ℕ) (found : Option Block) → MatchOption found (Each (λ b. b.at ≢ place) bs) (λ b. (b.at ≡ place) × (block_with bs b.id ≡ Some b)) → IfNone found ((q : ℕ) → IfSome (block_with bs q) (λ c. c.at ≢ place))
beginning_none bs place None is = each_block bs (λ c. c.at ≢ place) is
beginning_none bs place (Some b) is = tt
