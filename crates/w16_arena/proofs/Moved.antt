-- The bytes that were moved, by the blocks and by the heap.
use Rattle.w16_arena.proofs
use proofs.Common as C
use proofs.Common.{◌≡◌, ℕ, ◌+◌, ◌≤◌, true, false, ◌==◌, inl, inr, Bool, cond, List, [], ◌∷◌, filter, sum_by, Some, refl, sym, ap, ◌∙◌, arith, Block, Entry, Heap, blocks, is_elsewhere, Table, Member, sum_filter, Layout, heap_of, EachTwo}
use proofs.{Parts.AreParts, Lookups.named_pairs, Lookups.place_here, Listed.listed_permutation}
use Rattle.std.specs.FinMap as finmap

-- no order of the blocks changes the bytes of those that pass a test
pub bytes_by : (p : Block → Bool) (xs : List Block) → sum_by (λ x. x.size) (filter p xs) ≡ sum_by (λ x. cond (p x) x.size 0) xs
bytes_by p [] = refl
bytes_by p (x ∷ xs) = omega (arith, sum_filter p x xs, bytes_by p xs, C.sum_by-cons (λ y. cond (p y) y.size 0) x xs)

pub bytes_permutation : (p : Block → Bool) (xs ys : List Block) → C.IsPermutation xs ys → sum_by (λ x. x.size) (filter p ys) ≡ sum_by (λ x. x.size) (filter p xs)
bytes_permutation p xs ys perm = bytes_by p ys ∙ C.sum_by-IsPermutation (λ x. cond (p x) x.size 0) xs ys perm ∙ sym (bytes_by p xs)

-- blocks by address have no more bytes than their range
laid_bytes : (p : Block → Bool) (lo hi : ℕ) (bs : List Block) → C.IsLaid lo hi bs → lo + sum_by (λ x. x.size) (filter p bs) ≤ hi
laid_bytes p lo hi [] laid = omega (arith, laid)
laid_bytes p lo hi (b ∷ bs) laid =
    let rest = laid_bytes p (C.block_end b) hi bs laid.2 in
    let above = laid.0 in
    let sum = sum_filter p b bs in
    omega (arith, rest, above, sum, fewer (p b) b.size)
  where
    fewer : (t : Bool) (n : ℕ) → cond t n 0 ≤ n
    fewer true n = omega arith
    fewer false n = omega arith

-- so no more is moved
pub moved_few : (t : Table) → C.IsSound t → (memory : List ℕ) → t.hi ≤ C.length memory → (new : Heap) → t.lo + C.moved_bytes (C.heap_in t memory) new ≤ t.hi
moved_few t sound memory inside new =
    let layout : Layout = record { cap = C.length t.entries; lo = t.lo; hi = t.hi; grain = t.grain; blocks = t.blocks } in
    let parts : AreParts t.entries layout t.order memory = record { sound = sound; ids = refl; high = inside } in
    let p : Block → Bool = λ x. is_elsewhere x.at (finmap.get new.places x.id) in
    omega (arith, bytes_permutation p t.blocks (blocks (C.heap_in t memory)) (listed_permutation parts), laid_bytes p t.lo t.hi t.blocks sound.table.laid)

-- those that are elsewhere then, block by block
moved_by : (places : ℕ → C.Option ℕ) (bs cs : List Block) → EachTwo (λ b c. places b.id ≡ Some c.at) bs cs → sum_by (λ x. x.size) (filter (λ x. is_elsewhere x.at (places x.id)) bs) ≡ C.moved_between bs cs
moved_by places [] [] two = refl
moved_by places [] (c ∷ cs) two = absurd two
moved_by places (b ∷ bs) [] two = absurd two
moved_by places (b ∷ bs) (c ∷ cs) two =
    let head : cond (is_elsewhere b.at (places b.id)) b.size 0 ≡ cond (b.at == c.at) 0 b.size = ap (λ p. cond (is_elsewhere b.at p) b.size 0) two.0 ∙ elim (C.eqb_tells b.at c.at) [
      | inl same ↦ rw (same.0, C.eq-eqb c.at b.at (sym same.1)) refl
      | inr other ↦ rw (other.0, C.ne_eqb c.at b.at (λ e. other.1 (sym e))) refl
    ] in
    omega (arith, sum_filter (λ x. is_elsewhere x.at (places x.id)) b bs, moved_by places bs cs two.1, head)

-- by the members of the two lists
two_of : (R S : Block → Block → Type 0) (bs cs : List Block) → ((b c : Block) → Member b bs → Member c cs → R b c → S b c) → EachTwo R bs cs → EachTwo S bs cs
two_of R S [] [] f two = tt
two_of R S [] (c ∷ cs) f two = absurd two
two_of R S (b ∷ bs) [] f two = absurd two
two_of R S (b ∷ bs) (c ∷ cs) f two = (f b c (inl refl) (inl refl) two.0, two_of R S bs cs (λ x y m n. f x y (inr m) (inr n)) two.1)

module _ {entries : List (C.Option Entry)} {layout : Layout} {order memory : List ℕ} (parts : AreParts entries layout order memory)
    {low high : ℕ} {new : Layout} {after : List ℕ} (moved : C.AreMoved low high layout memory new after) (parts_new : AreParts entries new order after) where
  -- a heap in which each of them stands where it slid to
  pub moved_is : (h : Heap) → ((b : Block) → Member b layout.blocks → finmap.get h.places b.id ≡ finmap.get (heap_of entries new order after).places b.id) → C.moved_between layout.blocks new.blocks ≡ C.moved_bytes (heap_of entries layout order memory) h
  moved_is h same =
      sym (moved_by (λ q. finmap.get h.places q) layout.blocks new.blocks (two_of (C.Slides low high memory after) (λ b c. finmap.get h.places b.id ≡ Some c.at) layout.blocks new.blocks stands moved.blocks))
      ∙ sym (bytes_permutation (λ x. is_elsewhere x.at (finmap.get h.places x.id)) layout.blocks (blocks (heap_of entries layout order memory)) (listed_permutation parts))
    where
      stands : (b c : Block) → Member b layout.blocks → Member c new.blocks → C.Slides low high memory after b c → finmap.get h.places b.id ≡ Some c.at
      stands b c m n s =
          same b m ∙ place_here parts_new b.id
          ∙ ap (λ q. C.option_map (λ (x : Block). x.at) (C.block_with new.blocks q)) (sym (ap (λ (z : Block). z.id) s.same))
          ∙ ap (C.option_map (λ (x : Block). x.at)) (C.with_member new.blocks c (named_pairs new.cap new.blocks moved.ordered.named) n)
