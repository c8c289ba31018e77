use Rattle.w16_reloc.proofs.Common.{◌≡◌, ℕ, ◌-◌, length, List, Site, chain_width, value_of, IsWalked}
use Rattle.w16_reloc.proofs.image.write_chain.Given as goal

abbrev pub invariant-loop : goal.invariant-loop
invariant-loop l = (length l.bytes ≡ length l.initial.bytes) × ((file : List ℕ) (last : List Site) (total : ℕ → ℕ) → IsWalked file (chain_width l.part) (value_of l.part l.far) last total (length l.fn.bytes) l.head l.fn.bytes
    → IsWalked file (chain_width l.part) (value_of l.part l.far) last total (length l.fn.bytes - l.counter) l.at l.bytes)
