-- Blocks in which an id's has another hold: nothing else of them differs.
use Rattle.w16_compact.proofs
use proofs.Common as C
use proofs.Common.{◌≡◌, ℕ, ◌+◌, ◌<◌, ◌^◌, cond, true, false, inl, inr, List, [], ◌∷◌, ◌==◌, map, filter, Some, refl, sym, ap, ◌∙◌, subst, eqb_tells, Block, Hold, Loose, Span, part, IsClear, IsHole, block_end, first_from, is_any, block_with, Layout, AreNamed, IsOrdered, all_but, replaced}
use proofs.Common.{with_same, with_other, moved_between}
use proofs.Opened.{of_known}
use Rattle.std.specs.List.{AllByRecursion as Each}

-- a block, with this hold where it is an id's
abbrev pub held : ℕ → Hold → Block → Block
held id hold b = record b { hold = cond (b.id == id) hold b.hold }

-- a layout in which an id's block has this hold
abbrev pub with_hold : ℕ → Hold → Layout → Layout
with_hold id hold l = record l { blocks = map (held id hold) l.blocks }

module _ (id : ℕ) (hold : Hold) where
  abbrev f : Block → Block
  f = held id hold

  is_own : (b : Block) → (b.id == id) ≡ true → f b ≡ record b { hold = hold }
  is_own b same = ap (λ v. let r : Block = record b { hold = cond v hold b.hold } in r) same

  pub is_other : (b : Block) → (b.id == id) ≡ false → f b ≡ b
  is_other b other = ap (λ v. let r : Block = record b { hold = cond v hold b.hold } in r) other

  -- what doesn't look at the hold holds of them, and back
  pub each_held : (P : Block → Type 0) → ((b : Block) → P b → P (f b)) → (bs : List Block) → Each P bs → Each P (map f bs)
  each_held P to [] all = tt
  each_held P to (b ∷ bs) all = (to b all.0, each_held P to bs all.1)

  pub each_unheld : (P : Block → Type 0) → ((b : Block) → P (f b) → P b) → (bs : List Block) → Each P (map f bs) → Each P bs
  each_unheld P back [] all = tt
  each_unheld P back (b ∷ bs) all = (back b all.0, each_unheld P back bs all.1)

  -- the others are the same
  pub others_held : (bs : List Block) → all_but id (map f bs) ≡ all_but id bs
  others_held [] = refl
  others_held (b ∷ bs) = elim (eqb_tells b.id id) [
    | inl same ↦ C.all_but_same id (f b) (map f bs) same.0 ∙ others_held bs ∙ sym (C.all_but_same id b bs same.0)
    | inr other ↦ C.all_but_other id (f b) (map f bs) other.0 ∙ (λ i. is_other b other.0 i ∷ others_held bs i) ∙ sym (C.all_but_other id b bs other.0)
  ]

  -- and the id's has that hold
  pub own_held : (bs : List Block) (x : Block) → block_with bs id ≡ Some x → block_with (map f bs) id ≡ Some (record x { hold = hold })
  own_held [] x known = cc
  own_held (b ∷ bs) x known = elim (eqb_tells b.id id) [
    | inl same ↦
        let one : ◌≡◌ {A = C.Option Block} (Some b) (Some x) = sym (with_same id b bs same.0) ∙ known in let is : b ≡ x = cc in
        with_same id (f b) (map f bs) same.0 ∙ ap Some (is_own b same.0 ∙ ap (λ (c : Block). let r : Block = record c { hold = hold } in r) is)
    | inr other ↦ with_other id (f b) (map f bs) other.0 ∙ own_held bs x (sym (with_other id b bs other.0) ∙ known)
  ]

  laid_held : (lo hi : ℕ) (bs : List Block) → C.IsLaid lo hi bs → C.IsLaid lo hi (map f bs)
  laid_held lo hi [] laid = laid
  laid_held lo hi (b ∷ bs) laid = (laid.0, laid.1, laid_held (block_end b) hi bs laid.2)

  named_held : (cap : ℕ) (bs : List Block) → AreNamed cap bs → AreNamed cap (map f bs)
  named_held cap [] named = tt
  named_held cap (b ∷ bs) named = (named.0, each_held (λ c. c.id ≡ b.id → ⊥) (λ c d. d) bs named.1, named_held cap bs named.2)

  pub ordered_held : (l : Layout) → IsOrdered l → IsOrdered (with_hold id hold l)
  ordered_held l is = record {
    laid = laid_held l.lo l.hi l.blocks is.laid;
    named = named_held l.cap l.blocks is.named;
    grained = each_held (C.IsGrained l.grain) (λ b g. g) l.blocks is.grained;
    from = is.from;
    small = is.small;
    few = subst (λ n. n < 2 ^ 63) (sym (C.length-map l.blocks f)) is.few;
  }

  -- a block in place of the id's that differs by its hold alone
  pub is_held : (l : Layout) → IsOrdered l → (x : Block) → x.id ≡ id → block_with l.blocks id ≡ Some x → record l { blocks = replaced (record x { hold = hold }) l.blocks } ≡ with_hold id hold l
  is_held l is x own known =
      let y : Block = record x { hold = hold } in
      let there : block_with (map f l.blocks) y.id ≡ Some y = ap (block_with (map f l.blocks)) own ∙ own_held l.blocks x known in
      let left : all_but y.id l.blocks ≡ all_but y.id (map f l.blocks) = ap (λ q. all_but q l.blocks) own ∙ sym (others_held l.blocks) ∙ ap (λ q. all_but q (map f l.blocks)) (sym own) in
      ap (λ bs. record l { blocks = bs }) (ap (C.placed y) left ∙ C.replaced-itself l.lo l.hi l.cap y (map f l.blocks) (laid_held l.lo l.hi l.blocks is.laid) (named_held l.cap l.blocks is.named) there)

  -- what is free is the same
  first_same : (hi : ℕ) (bs : List Block) (a : ℕ) → first_from is_any hi (map f bs) a ≡ first_from is_any hi bs a
  first_same hi [] a = refl
  first_same hi (b ∷ bs) a = ap (λ n. first_from is_any n (b ∷ []) a) (first_same hi bs a)

  ends_same : (bs : List Block) → map block_end (filter is_any (map f bs)) ≡ map block_end (filter is_any bs)
  ends_same [] = refl
  ends_same (b ∷ bs) = ap (λ (ns : List ℕ). block_end b ∷ ns) (ends_same bs)

  pub holes_held : (l : Layout) → C.holes_of (with_hold id hold l) ≡ C.holes_of l
  holes_held l = λ i. filter (λ (s : Span). C.nat_lt s.from s.to) (map (λ a. let s : Span = record { from = a; to = first_same l.hi l.blocks a i } in s) (l.lo ∷ ends_same l.blocks i))

  abbrev Missed : ℕ → ℕ → Block → Type 0
  Missed a b x = C.IsTrue (is_any x) → C.Misses x.at x.size a b

  pub clear_held : (lo hi a b : ℕ) (bs : List Block) → IsClear is_any lo hi bs a b → IsClear is_any lo hi (map f bs) a b
  clear_held lo hi a b bs k = record { above = k.above; below = k.below; misses = C.All-from_Each (Missed a b) (map f bs) (each_held (Missed a b) (λ x m. m) bs (C.Each-from_All (Missed a b) bs k.misses)) }

  pub clear_unheld : (lo hi a b : ℕ) (bs : List Block) → IsClear is_any lo hi (map f bs) a b → IsClear is_any lo hi bs a b
  clear_unheld lo hi a b bs k = record { above = k.above; below = k.below; misses = C.All-from_Each (Missed a b) bs (each_unheld (Missed a b) (λ x m. m) bs (C.Each-from_All (Missed a b) (map f bs) k.misses)) }

  pub hole_held : (lo hi a b : ℕ) (bs : List Block) → IsHole lo hi bs a b → IsHole lo hi (map f bs) a b
  hole_held lo hi a b bs k = record { some = k.some; clear = clear_held lo hi a b bs k.clear; maximal = λ c d from to m. k.maximal c d from to (clear_unheld lo hi c d bs m) }

  pub hole_unheld : (lo hi a b : ℕ) (bs : List Block) → IsHole lo hi (map f bs) a b → IsHole lo hi bs a b
  hole_unheld lo hi a b bs k = record { some = k.some; clear = clear_unheld lo hi a b bs k.clear; maximal = λ c d from to m. k.maximal c d from to (clear_held lo hi c d bs m) }

  -- so are the bytes
  pub contents_held : (bytes : List ℕ) (bs : List Block) → C.contents bytes (map f bs) ≡ C.contents bytes bs
  contents_held bytes [] = refl
  contents_held bytes (b ∷ bs) = λ i. (b.id, part bytes b.at b.size) ∷ contents_held bytes bs i

-- and what moves
pub moved_from : (f : Block → Block) → ((b : Block) → ((f b).at ≡ b.at) × ((f b).size ≡ b.size)) → (bs cs : List Block) → moved_between (map f bs) cs ≡ moved_between bs cs
moved_from f same [] cs = refl
moved_from f same (b ∷ bs) [] = refl
moved_from f same (b ∷ bs) (c ∷ cs) = λ i. cond ((same b).0 i == c.at) 0 ((same b).1 i) + moved_from f same bs cs i

pub moved_to : (f : Block → Block) → ((b : Block) → (f b).at ≡ b.at) → (bs cs : List Block) → moved_between bs (map f cs) ≡ moved_between bs cs
moved_to f same [] cs = refl
moved_to f same (b ∷ bs) [] = refl
moved_to f same (b ∷ bs) (c ∷ cs) = λ i. cond (b.at == same c i) 0 b.size + moved_to f same bs cs i

-- the last hold counts
held_twice : (id : ℕ) (one two : Hold) (bs : List Block) → map (held id two) (map (held id one) bs) ≡ map (held id two) bs
held_twice id one two [] = refl
held_twice id one two (b ∷ bs) = λ i. once i ∷ held_twice id one two bs i
  where
    once : held id two (held id one b) ≡ held id two b
    once = elim (eqb_tells b.id id) [
      | inl same ↦ is_own id two _ same.0 ∙ sym (is_own id two b same.0)
      | inr other ↦ is_other id two _ other.0 ∙ is_other id one b other.0 ∙ sym (is_other id two b other.0)
    ]

-- one's own hold changes nothing
held_itself : (cap id : ℕ) (x : Block) (bs : List Block) → AreNamed cap bs → block_with bs id ≡ Some x → map (held id x.hold) bs ≡ bs
held_itself cap id x [] named known = refl
held_itself cap id x (b ∷ bs) named known = elim (eqb_tells b.id id) [
  | inl same ↦
      let one : ◌≡◌ {A = C.Option Block} (Some b) (Some x) = sym (with_same id b bs same.0) ∙ known in let is : b ≡ x = cc in
      λ i. (is_own id x.hold b same.0 ∙ ap (λ c. let r : Block = record b { hold = c.hold } in r) (sym is)) i ∷ none id b.id bs same.1 named.1 i
  | inr other ↦ λ i. is_other id x.hold b other.0 i ∷ held_itself cap id x bs named.2 (sym (with_other id b bs other.0) ∙ known) i
]
  where
    none : (q p : ℕ) (cs : List Block) → p ≡ q → Each (λ c. c.id ≡ p → ⊥) cs → map (held q x.hold) cs ≡ cs
    none q p [] e all = refl
    none q p (c ∷ cs) e all = elim (eqb_tells c.id q) [
      | inl same ↦ absurd (all.0 (same.1 ∙ sym e))
      | inr other ↦ λ i. is_other q x.hold c other.0 i ∷ none q p cs e all.1 i
    ]

-- a loose block that gets back its hold counts as loose again
pub loosened_back : (m : Layout) → IsOrdered m → (id : ℕ) (x : Block) (hold : Hold) → block_with m.blocks id ≡ Some x → x.hold ≡ Loose → C.with_loose id (with_hold id hold m) ≡ m
loosened_back m is id x hold known loose =
    ap (λ bs. record m { blocks = bs }) (held_twice id hold Loose _ ∙ ap (λ h. map (held id h) m.blocks) (sym loose) ∙ held_itself m.cap id x _ is.named known)

-- a layout that was left with another hold of an id's block
pub set_held : (l : Layout) → IsOrdered l → (id : ℕ) (x : Block) (hold : Hold) → block_with l.blocks id ≡ Some x → {new : Layout} → C.IfSome (block_with l.blocks id) (λ b. new ≡ record l { blocks = replaced (record b { hold = hold }) l.blocks }) → new ≡ with_hold id hold l
set_held l is id x hold known {new} set =
    of_known (λ b. new ≡ record l { blocks = replaced (record b { hold = hold }) _ }) _ x known set ∙ is_held id hold l is x (C.with_id id x _ known) known
