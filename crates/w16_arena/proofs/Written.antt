-- The count of bytes written, over two steps.
use Rattle.w16_arena.proofs.Common.{◌≡◌, ℕ, ◌+◌, Bool, true, false, refl, sym, if◌then◌else◌, arith, counted}

-- no byte more is counted
pub counted_none : (w : ℕ) → counted w 0 ≡ w
counted_none w = omega arith

-- bytes that are written where that is asked for
pub counted_if : (asked : Bool) (w k : ℕ) → (if asked then counted w k else w) ≡ counted w (if asked then k else 0)
counted_if true w k = refl
counted_if false w k = sym (counted_none w)

-- and one after the other
pub counted_both : (w k m : ℕ) → counted (counted w k) m ≡ counted w (k + m)
counted_both w k m = omega arith
