-- Blocks with a block in place of the one of its id: the others are the same.
use Rattle.w16_arena.proofs.Common as C
use Rattle.w16_arena.proofs.Common.{◌≡◌, List, [], ◌∷◌, sym, ap, ◌∙◌, inl, inr, refl, Block, Layout, all_but, placed, but_for}

-- a block that is added is left out again
all_but_placed : (x : Block) (cs : List Block) → all_but x.id (placed x cs) ≡ all_but x.id cs
all_but_placed x [] = C.all_but_same x.id x [] (C.eq-eqb x.id x.id refl)
all_but_placed x (c ∷ cs) = elim (C.cases_lt c.at x.at) [
  | inl lt ↦ rw (C.lt-ltb c.at x.at lt) (elim (C.eqb_tells c.id x.id) [
    | inl same ↦ rw same.0 (all_but_placed x cs)
    | inr other ↦ rw other.0 (ap (λ ys. c ∷ ys) (all_but_placed x cs))
  ])
  | inr le ↦ rw (C.le-ltb c.at x.at le) (C.all_but_same x.id x (c ∷ cs) (C.eq-eqb x.id x.id refl))
]

-- a block in place of the one of its id leaves the others
pub same_but : (x : Block) (bs : List Block) → all_but x.id (C.replaced x bs) ≡ all_but x.id bs
same_but x bs = all_but_placed x _ ∙ C.all_but_absent x.id _ (C.others_differ x.id bs)

-- A layout in which a block took the place of the one of its id.
module _ (l : Layout) {new : Layout} (x : Block) (value : new ≡ record l { blocks = C.replaced x l.blocks }) where
  pub but_same : all_but x.id new.blocks ≡ all_but x.id l.blocks
  but_same = ap (λ (k : Layout). all_but x.id k.blocks) value ∙ same_but x l.blocks

  pub but_for_same : but_for x.id new ≡ but_for x.id l
  but_for_same = ap (but_for x.id) value ∙ ap (λ bs. record l { blocks = bs }) (same_but x l.blocks)

  pub is_placed : new ≡ record (but_for x.id new) { blocks = placed x (all_but x.id new.blocks) }
  is_placed = value ∙ sym (λ i. record (but_for_same i) { blocks = placed x (but_same i) })
