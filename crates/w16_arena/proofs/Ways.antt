-- When there is a place where an object may grow, and what the place tells.
use Rattle.w16_arena.proofs
use proofs.Common as C
use proofs.Common.{◌≡◌, ℕ, ◌+◌, ◌-◌, ◌<◌, ◌≤◌, ◌==◌, Bool, true, false, nat_le, IsTrue, List, [], Some, None, refl, sym, ap, ◌∙◌, subst, arith, le-leb, ForSome, false≢true, Block, fits_in_place, snapshot, block_end, hole_after, longest_hole, room, Layout, ordered_without, AreFreeBytes}
use proofs.Common.{but_for, may_grow}
use proofs.Rooms.{first_hole, hole_enough, hole_missing}
use proofs.{Arranged.free_fits, Arranged.same_moved, Grown.HasWay, ButFor.behind_free, ButFor.hole_clear}

-- A block of a layout.
module _ {l : Layout} (ordered : C.IsOrdered l) (b : Block) (known : C.block_with l.blocks b.id ≡ Some b) (n : ℕ) where
  fits_is : fits_in_place (snapshot l.lo l.hi l.blocks []) n b.id ≡ nat_le n (b.size + hole_after l.hi l.blocks (block_end b))
  fits_is = ap (λ (o : C.Option Block). elim o [
    | Some x ↦ nat_le n (x.size + hole_after l.hi l.blocks (block_end x))
    | None ↦ false
  ]) known

  -- with sliding there is a place where others slid and left one
  pub enough_slid : {low high : ℕ} {memory after : List ℕ} (new : Layout) (at : ℕ) → C.AreMoved low high (but_for b.id l) memory (but_for b.id new) after → AreFreeBytes (but_for b.id new) n at → IsTrue (may_grow l b.id n true)
  enough_slid new at moved free = le-leb n (room l.lo l.hi (C.all_but b.id l.blocks)) (free_fits (ordered_without (Some b.id) l ordered) moved n at free)

  -- it may grow where it stands
  module _ (more : b.size < n) (behind : ℕ) (is : behind ≡ hole_after l.hi l.blocks (block_end b)) (long : n - b.size ≤ behind) where
    free_here : AreFreeBytes (but_for b.id l) n b.at
    free_here = behind_free ordered b known n (b.at + n) (hole_clear ordered b known n more (omega arith)) (omega arith)

    pub way_here : (memory : List ℕ) → HasWay n b l memory (record { at = b.at; slid = record { from = 0; to = 0 }; moved = 0 }) l memory
    way_here memory = record {
      block = known;
      bytes = refl;
      slid = same_moved 0 (but_for b.id l) memory (ordered_without (Some b.id) l ordered);
      laid = ordered;
      free = free_here;
      moved = let none = C.moved_same (C.all_but b.id l.blocks) in let same = C.cond-true (b.at == b.at) 0 b.size (C.eq-eqb b.at b.at refl) in omega (arith, none, same);
    }

    pub enough_here : (compact : Bool) → IsTrue (may_grow l b.id n compact)
    enough_here true = enough_slid l b.at (same_moved 0 (but_for b.id l) [] (ordered_without (Some b.id) l ordered)) free_here
    enough_here false = C.or_left (fits_in_place (snapshot l.lo l.hi l.blocks []) n b.id) (nat_le n (longest_hole l.lo l.hi l.blocks)) (fits_is ∙ le-leb n (b.size + hole_after l.hi l.blocks (block_end b)) (omega arith))

  -- or in a hole
  pub enough_hole : (at : ℕ) → Some at ≡ first_hole l n → AreFreeBytes (but_for b.id l) n at → (compact : Bool) → IsTrue (may_grow l b.id n compact)
  enough_hole at found free true = enough_slid l at (same_moved 0 (but_for b.id l) [] (ordered_without (Some b.id) l ordered)) free
  enough_hole at found free false = C.or_right (fits_in_place (snapshot l.lo l.hi l.blocks []) n b.id) (nat_le n (longest_hole l.lo l.hi l.blocks)) (le-leb n (longest_hole l.lo l.hi l.blocks) (hole_enough ordered n at found false))

  -- and without one, and with no hole behind it, it may not
  pub none_still : 0 < n → (behind : ℕ) → behind ≡ hole_after l.hi l.blocks (block_end b) → behind < n - b.size → None ≡ first_hole l n → (compact : Bool) → compact ≡ false → may_grow l b.id n compact ≡ false
  none_still some behind is short none true off = absurd (false≢true (sym off))
  none_still some behind is short none false off = C.or_from (fits_in_place (snapshot l.lo l.hi l.blocks []) n b.id) (nat_le n (longest_hole l.lo l.hi l.blocks))
      (fits_is ∙ C.lt-leb n (b.size + hole_after l.hi l.blocks (block_end b)) (omega arith)) (C.lt-leb n (longest_hole l.lo l.hi l.blocks) (hole_missing ordered n some none false refl))

  -- what gaps answer
  pub slid_enough : (memory after : List ℕ) (new : Layout) (o : C.Option C.Placed) → C.IfSome o (λ p. C.HasGrown n b l memory p new after) → (compact : Bool) → compact ≡ true → C.IfSome o (λ _. IsTrue (may_grow l b.id n compact))
  slid_enough memory after new None way compact on = tt
  slid_enough memory after new (Some p) way compact on = subst (λ t. IsTrue (may_grow l b.id n t)) (sym on) (enough_slid new p.at way.slid way.free)

-- a hole is clear
pub clear_bytes : {l : Layout} (n at : ℕ) → AreFreeBytes l n at → C.IsClear C.is_any l.lo l.hi l.blocks at (at + n)
clear_bytes {l} n at free = record {
  above = free.above;
  below = free.below;
  misses = C.All-from_Each _ _ (C.Each-map (λ x. C.Misses x.at x.size at (at + n)) (λ x. IsTrue (C.is_any x) → C.Misses x.at x.size at _) (λ x f t. f) _ free.misses);
}

-- The same by the object's id.
module _ (old : Layout) (id : ℕ) (b : Block) (here : C.block_with old.blocks id ≡ Some b) where
  pub same_id : b.id ≡ id
  same_id = C.with_id id b old.blocks here
