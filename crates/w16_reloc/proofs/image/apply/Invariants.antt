use Rattle.w16_reloc.proofs.Common.{◌≡◌, ℕ, length, drop, take, List, All, IsOpen, IsFar}
use Rattle.w16_reloc.proofs.image.apply.Given as goal

abbrev pub invariant-loop-i : goal.invariant-loop-i
invariant-loop-i l = (length l.bytes ≡ length l.initial.bytes) × ((file : List ℕ) (total : ℕ → ℕ) → IsOpen file total l.records l.targets l.fn.bytes → IsOpen file total (drop l.i l.records) (drop l.i l.targets) l.bytes) × All IsFar (take l.i l.targets)
