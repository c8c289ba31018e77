-- Blocks but for an object's, and bytes that are free for it.
use Rattle.w16_arena.proofs
use proofs.Common as C
use proofs.Common.{◌≡◌, ℕ, ◌+◌, ◌-◌, ◌<◌, ◌≤◌, ◌==◌, ◌⊎◌, inl, inr, true, false, cond, eqb, IsTrue, List, [], ◌∷◌, Some, refl, sym, ap, ◌∙◌, subst, arith, eqb_tells, Block, block_end, is_any, Misses, block_with, Each-both, Layout, IsApart, all_but, each_with, All-all_but, moved_between}
use proofs.Common.{EachTwo, AreFreeBytes, but_for}
use proofs.Pairs.{BothOrNone, with_two}
use Rattle.std.proofs.lemmas.Bool.{ne_eqb}

-- Two lists of the same blocks.
module _ (R : Block → Block → Type 0) (ids : (b c : Block) → R b c → c.id ≡ b.id) (id : ℕ) where
  -- without one of them
  pub two_but : (bs cs : List Block) → EachTwo R bs cs → EachTwo R (all_but id bs) (all_but id cs)
  two_but [] [] two = tt
  two_but [] (c ∷ cs) two = absurd two
  two_but (b ∷ bs) [] two = absurd two
  two_but (b ∷ bs) (c ∷ cs) two =
      let same : c.id ≡ b.id = ids b c two.0 in
      elim (eqb_tells b.id id) [
        | inl hit ↦ let other : eqb c.id id ≡ true = ap (λ k. eqb k id) same ∙ hit.0 in rw (hit.0, other) (two_but bs cs two.1)
        | inr miss ↦ let other : eqb c.id id ≡ false = ap (λ k. eqb k id) same ∙ miss.0 in rw (miss.0, other) (two.0, two_but bs cs two.1)
      ]

  -- the one of them
  pub two_own : (bs cs : List Block) → EachTwo R bs cs → (b c : Block) → block_with bs id ≡ Some b → block_with cs id ≡ Some c → R b c
  two_own bs cs two b c here there = subst (λ (o : C.Option Block). BothOrNone R (Some b) o) there (subst (λ (o : C.Option Block). BothOrNone R o (block_with cs id)) here (with_two R ids bs cs two id))

  -- what moved of them is what moved of it and of the others
  turned : (a b n : ℕ) → cond (eqb a b) 0 n ≡ cond (eqb b a) 0 n
  turned a b n = elim (eqb_tells a b) [
    | inl same ↦ rw (same.0, C.eq-eqb b a (sym same.1)) refl
    | inr other ↦ rw (other.0, ne_eqb b a (λ e. other.1 (sym e))) refl
  ]

  pub moved_both : (cap : ℕ) (bs cs : List Block) → EachTwo R bs cs → C.AreNamed cap bs → C.AreNamed cap cs → (b c : Block) → block_with bs id ≡ Some b → block_with cs id ≡ Some c
      → moved_between bs cs ≡ moved_between (all_but id bs) (all_but id cs) + cond (c.at == b.at) 0 b.size
  moved_both cap [] cs two named named' b c here there = cc
  moved_both cap (x ∷ xs) [] two named named' b c here there = absurd two
  moved_both cap (x ∷ xs) (y ∷ ys) two named named' b c here there =
      let same : y.id ≡ x.id = ids x y two.0 in
      elim (eqb_tells x.id id) [
        | inl hit ↦
            let hit' : eqb y.id id ≡ true = ap (λ k. eqb k id) same ∙ hit.0 in
            let f : Some x ≡ Some b = sym (C.with_same id x xs hit.0) ∙ here in let e : x ≡ b = cc in
            let f' : Some y ≡ Some c = sym (C.with_same id y ys hit') ∙ there in let e' : y ≡ c = cc in
            let one : all_but id (x ∷ xs) ≡ xs = C.all_but_same id x xs hit.0 ∙ C.all_but_absent id xs (C.rest_differs cap id x xs hit.1 named) in
            let two' : all_but id (y ∷ ys) ≡ ys = C.all_but_same id y ys hit' ∙ C.all_but_absent id ys (C.rest_differs cap id y ys (same ∙ hit.1) named') in
            let rest : moved_between (all_but id (x ∷ xs)) (all_but id (y ∷ ys)) ≡ moved_between xs ys = λ i. moved_between (one i) (two' i) in
            let own : cond (eqb x.at y.at) 0 x.size ≡ cond (eqb c.at b.at) 0 b.size = turned x.at y.at x.size ∙ (λ i. cond (eqb (e' i).at (e i).at) 0 (e i).size) in
            omega (arith, rest, own)
        | inr miss ↦
            let miss' : eqb y.id id ≡ false = ap (λ k. eqb k id) same ∙ miss.0 in
            let rest = moved_both cap xs ys two.1 named.2 named'.2 b c (sym (C.with_other id x xs miss.0) ∙ here) (sym (C.with_other id y ys miss') ∙ there) in
            let first : moved_between (all_but id (x ∷ xs)) (all_but id (y ∷ ys)) ≡ moved_between (x ∷ all_but id xs) (y ∷ all_but id ys) = λ i. moved_between (C.all_but_other id x xs miss.0 i) (C.all_but_other id y ys miss' i) in
            omega (arith, rest, first)
      ]

pub slides_ids : (low high : ℕ) (memory after : List ℕ) (b c : Block) → C.Slides low high memory after b c → c.id ≡ b.id
slides_ids low high memory after b c s = ap (λ x. x.id) s.same

-- blocks that slid, without one of them
pub moved_but_for : {low high : ℕ} {old : Layout} {memory : List ℕ} {new : Layout} {after : List ℕ} (id : ℕ) → C.AreMoved low high old memory new after → C.AreMoved low high (but_for id old) memory (but_for id new) after
moved_but_for {low} {high} {old} {memory} {new} {after} id moved = record {
  same = ap (λ (l : Layout). record l { blocks = all_but id new.blocks }) moved.same;
  blocks = two_but _ (slides_ids low high memory after) id _ _ moved.blocks;
  unpinned = λ lt. let clear = moved.unpinned lt in record {
    above = clear.above;
    below = clear.below;
    misses = C.All-from_Each _ _ (All-all_but (λ x. IsTrue (C.is_pinned x) → Misses x.at x.size low high) id _ (C.Each-from_All _ _ clear.misses));
  };
  ordered = C.ordered_without (Some id) new moved.ordered;
  size = moved.size;
  bytes = moved.bytes;
}

-- what is free is free of the others too
pub free_but : {l : Layout} (id n at : ℕ) → AreFreeBytes l n at → AreFreeBytes (but_for id l) n at
free_but {l} id n at free = record { above = free.above; below = free.below; grained = free.grained; misses = All-all_but (λ x. Misses x.at x.size at _) id _ free.misses }

-- An object's block.
module _ {l : Layout} (ordered : C.IsOrdered l) (x : Block) (known : block_with l.blocks x.id ≡ Some x) where
  abbrev Lies : Block → Type 0
  Lies y = (l.lo ≤ y.at) × (0 < y.size) × (block_end y ≤ l.hi)

  pub own_lies : Lies x
  own_lies = each_with Lies x.id x l.blocks known (C.laid_each l.lo l.hi l.blocks ordered.laid)

  pub own_grained : C.IsGrained l.grain x
  own_grained = each_with (C.IsGrained l.grain) x.id x l.blocks known ordered.grained

  pub own_below : x.id < l.cap
  own_below = each_with (λ y. y.id < l.cap) x.id x l.blocks known (C.ids_below l.cap l.blocks ordered.named)

  -- it may have the bytes behind it that are free
  pub behind_free : (n end : ℕ) → C.IsClear is_any l.lo l.hi l.blocks (block_end x) end → x.at + n ≤ end → AreFreeBytes (but_for x.id l) n x.at
  behind_free n end clear le =
      let lies = own_lies in let below = clear.below in record {
        above = lies.0;
        below = omega arith;
        grained = own_grained.0;
        misses = Each-both (λ y. Lies y × IsApart x y) (λ y. IsTrue (is_any y) → Misses y.at y.size (block_end x) end) (λ y. Misses y.at y.size x.at (x.at + n))
            (λ y k f. missed x.at x.size end n y.at y.size k.0.1 le k.1 (f refl)) (all_but x.id l.blocks)
            (Each-both Lies (IsApart x) (λ y. Lies y × IsApart x y) (λ y in_it k. (in_it, k)) (all_but x.id l.blocks) (All-all_but Lies x.id l.blocks (C.laid_each l.lo l.hi l.blocks ordered.laid)) (C.others_apart l.lo l.hi l.cap x.id x l.blocks ordered.laid ordered.named known))
            (All-all_but (λ y. IsTrue (is_any y) → Misses y.at y.size (block_end x) end) x.id l.blocks (C.Each-from_All _ l.blocks clear.misses));
      }
    where
      missed : (at size end n p m : ℕ) → 0 < m → at + n ≤ end → Misses at size p (p + m) → Misses p m (at + size) end → Misses p m at (at + n)
      missed at size end n p m some le f k = grind arith

  -- in the hole behind it
  pub hole_clear : (n : ℕ) → x.size < n → n - x.size ≤ C.hole_after l.hi l.blocks (block_end x) → C.IsClear is_any l.lo l.hi l.blocks (block_end x) (x.at + n)
  hole_clear n more le =
      let lies = own_lies in
      let end : ℕ = block_end x in
      let below = C.first_from-below is_any l.hi l.blocks end (C.first_from is_any l.hi l.blocks end) (omega arith) in
      let far = below.0 in record {
        above = omega arith;
        below = omega arith;
        misses = C.All-from_Each _ l.blocks (Each-both (λ y. (block_end y ≤ x.at) ⊎ ((end ≤ y.at) ⊎ (y ≡ x))) (λ y. IsTrue true → end ≤ y.at → C.first_from is_any l.hi l.blocks end ≤ y.at) (λ y. IsTrue (is_any y) → Misses y.at y.size end (x.at + n))
            (λ y place f t. elim place [
              | inl before ↦ inl (omega arith)
              | inr other ↦ elim other [
                | inl behind ↦ let from = f refl behind in inr (omega arith)
                | inr same ↦ let at = ap block_end same in inl (omega arith)
              ]
            ]) l.blocks (C.around l.lo l.hi l.cap x l.blocks ordered.laid ordered.named known) below.1);
      }
