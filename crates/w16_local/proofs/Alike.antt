-- A heap has one table: two sound ones over one range that stand for the same heap are the same.
use Rattle.w16_local.proofs
use proofs.Common as C
use proofs.Common.{◌≡◌, ℕ, ◌<◌, ◌≤◌, inl, inr, List, [], ◌∷◌, length, None, refl, sym, ap, ◌∙◌, subst, arith, same_lists, Block, block_end, IsLaid, Heap, Table, Member}
use proofs.Locals.{default_any}

-- a laid list begins at its low end or above, and each other block behind its first one
from_low : (lo hi : ℕ) (xs : List Block) → IsLaid lo hi xs → (x : Block) → Member x xs → lo ≤ x.at
from_low lo hi xs laid x m = (C.Each-at (λ y. (lo ≤ y.at) × (0 < y.size) × (block_end y ≤ hi)) xs (C.laid_each lo hi xs laid) x m).0

behind : (lo hi : ℕ) (x : Block) (xs : List Block) → IsLaid lo hi (x ∷ xs) → (y : Block) → Member y xs → x.at < y.at
behind lo hi x xs laid y m = let some = laid.1 in let low = from_low (block_end x) hi xs laid.2 y m in omega (arith, some, low)

-- laid lists of the same blocks begin with the same one
first_same : (lo hi from to : ℕ) (x y : Block) (xs ys : List Block) → IsLaid lo hi (x ∷ xs) → IsLaid from to (y ∷ ys) → Member x (y ∷ ys) → Member y (x ∷ xs) → x ≡ y
first_same lo hi from to x y xs ys p q (inl e) n = e
first_same lo hi from to x y xs ys p q (inr m) (inl e) = sym e
first_same lo hi from to x y xs ys p q (inr m) (inr n) = absurd (let over = behind from to y ys q x m in let under = behind lo hi x xs p y n in omega (arith, over, under))

-- a block behind the first one of a list is behind that of the other
in_rest : (lo hi : ℕ) (x y z : Block) (xs ys : List Block) → IsLaid lo hi (x ∷ xs) → y ≡ x → Member z xs → Member z (y ∷ ys) → Member z ys
in_rest lo hi x y z xs ys p same m (inr n) = n
in_rest lo hi x y z xs ys p same m (inl e) = absurd (let over = behind lo hi x xs p z m in let here = ap (λ b. b.at) (e ∙ same) in omega (arith, over, here))

-- and are the same
laid_same : (lo hi from to : ℕ) (xs ys : List Block) → IsLaid lo hi xs → IsLaid from to ys → ((x : Block) → Member x xs → Member x ys) → ((x : Block) → Member x ys → Member x xs) → xs ≡ ys
laid_same lo hi from to [] [] p q f g = refl
laid_same lo hi from to [] (y ∷ ys) p q f g = absurd (g y (inl refl))
laid_same lo hi from to (x ∷ xs) [] p q f g = absurd (f x (inl refl))
laid_same lo hi from to (x ∷ xs) (y ∷ ys) p q f g =
    let first = first_same lo hi from to x y xs ys p q (f x (inl refl)) (g y (inl refl)) in
    let rest = laid_same (block_end x) hi (block_end y) to xs ys p.2 q.2 (λ z m. in_rest lo hi x y z xs ys p (sym first) m (f z (inr m))) (λ z m. in_rest from to y x z ys xs q first m (g z (inr m))) in
    λ i. first i ∷ rest i

module _ (t s : Table) (sound : C.IsSound t) (range : C.IsSameRange t s) (bytes : List ℕ) (inside : t.hi ≤ length bytes) (same : C.heap_in s bytes ≡ C.heap_in t bytes) where
  inside_too : s.hi ≤ length bytes
  inside_too = let hi = range.hi in omega (arith, hi, inside)

  parts : (t : Table) → C.IsSound t → t.hi ≤ length bytes → C.AreParts t.entries (record { cap = length t.entries; lo = t.lo; hi = t.hi; grain = t.grain; blocks = t.blocks }) t.order bytes
  parts t sound inside = record { sound = sound; ids = refl; high = inside }

  blocks_same : s.blocks ≡ t.blocks
  blocks_same = laid_same s.lo s.hi t.lo t.hi s.blocks t.blocks range.sound.table.laid sound.table.laid
      (λ x m. C.block_table t sound.table bytes inside x (subst (λ (h : Heap). C.IsBlockOf h x) same (C.table_block s range.sound.table bytes inside_too x m)))
      (λ x m. C.block_table s range.sound.table bytes inside_too x (subst (λ (h : Heap). C.IsBlockOf h x) (sym same) (C.table_block t sound.table bytes inside x m)))

  entry_same : (q : ℕ) → C.get_or s.entries q None ≡ C.get_or t.entries q None
  entry_same q = sym (C.entry_is (parts s range.sound inside_too) q) ∙ ap (λ (h : Heap). C.option_map C.entry_of (C.object_at h q)) same ∙ C.entry_is (parts t sound inside) q

  entries_same : s.entries ≡ t.entries
  entries_same = same_lists s.entries t.entries range.ids (λ q d lt. default_any s.entries q d None lt ∙ entry_same q ∙ default_any t.entries q None d (let ids = range.ids in omega (arith, lt, ids)))

  pub same_table : s ≡ t
  same_table = λ i. record { lo = range.lo i; hi = range.hi i; grain = range.grain i; entries = entries_same i; blocks = blocks_same i; order = (same i).order }
