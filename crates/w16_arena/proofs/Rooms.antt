-- A place that was found or made, and how much there can be.
use Rattle.w16_arena.proofs
use proofs.Common as C
use proofs.Common.{find, ◌≡◌, ℕ, ◌-◌, ◌<◌, ◌≤◌, Bool, true, false, IfSome, List, [], Some, None, sym, subst, arith, Block, Span, holes, room, longest_hole, Layout, IsOrdered, AreFreeBytes, most_for}
use proofs.Arranged.{same_moved, longest_in_room, free_fits, free_in_hole}
use proofs.Holes.{hole_found, hole_none}

-- where the lowest hole of n bytes begins
abbrev pub first_hole : Layout → ℕ → C.Option ℕ
first_hole l n = C.option_map (λ (s : Span). s.from) (find (λ s. C.nat_le n (s.to - s.from)) (holes l.lo l.hi l.blocks))

module _ {l : Layout} (ordered : IsOrdered l) (n : ℕ) where
  placed : C.ArePlaced l.lo l.hi l.blocks
  placed = C.laid_placed l.lo l.hi l.blocks ordered.laid

  pub hole_free : (at : ℕ) → Some at ≡ first_hole l n → AreFreeBytes l n at
  hole_free at e =
      let h = hole_found l.lo l.hi l.grain l.blocks placed ordered.from ordered.grained n at e in
      record { above = h.0; below = h.1; grained = h.2; misses = h.3 }

  -- there may be as much with sliding as there is without
  longest_most : (compact : Bool) → longest_hole l.lo l.hi l.blocks ≤ most_for l compact
  longest_most true = longest_in_room ordered (same_moved 0 l [] ordered)
  longest_most false = omega arith

  pub hole_enough : (at : ℕ) → Some at ≡ first_hole l n → (compact : Bool) → n ≤ most_for l compact
  hole_enough at e compact =
      let h = hole_found l.lo l.hi l.grain l.blocks placed ordered.from ordered.grained n at e in
      omega (arith, h.4, longest_most compact)

  pub hole_missing : 0 < n → None ≡ first_hole l n → (compact : Bool) → compact ≡ false → most_for l compact < n
  hole_missing some e compact off = subst (λ b. most_for l b < n) (sym off) (hole_none l.lo l.hi l.grain l.blocks placed ordered.from ordered.grained n some e)

  -- a place that was made is as long as the room allows
  pub made_enough : (memory after : List ℕ) (new : Layout) (made : C.Option C.Placed) → IfSome made (λ p. C.AreMoved p.slid.from p.slid.to l memory new after) → IfSome made (λ p. AreFreeBytes new n p.at)
      → (compact : Bool) → compact ≡ true → IfSome made (λ _. n ≤ most_for l compact)
  made_enough memory after new None slid free compact on = tt
  made_enough memory after new (Some p) slid free compact on = subst (λ b. n ≤ most_for l b) (sym on) (free_fits ordered slid n p.at free)

-- with no room there is no hole
pub no_hole : {l : Layout} → IsOrdered l → (most : ℕ) → most ≡ room l.lo l.hi l.blocks → most ≡ 0 → most ≡ longest_hole l.lo l.hi l.blocks
no_hole {l} ordered most is none = let h = longest_in_room ordered (same_moved 0 l [] ordered) in omega arith

-- a hole of the whole room is the longest
pub whole_hole : {low high : ℕ} {l : Layout} {memory : List ℕ} {new : Layout} {after : List ℕ} → IsOrdered l → C.AreMoved low high l memory new after → (most at : ℕ) → most ≡ room l.lo l.hi l.blocks → 0 < most → AreFreeBytes new most at
    → most ≡ longest_hole new.lo new.hi new.blocks
whole_hole ordered moved most at is some free = let h = longest_in_room ordered moved in let k = free_in_hole ordered moved most at some free in omega arith

pub none_moved : (bs : List Block) → 0 ≡ C.moved_between bs bs
none_moved bs = sym (C.moved_same bs)
