use Rattle.w16_reloc.proofs.Common.{◌≡◌, ◌-◌, length, List, Site, AreMarks, chain_at}
use Rattle.w16_reloc.proofs.chain.take_links.Given as goal

abbrev pub invariant-loop : goal.invariant-loop
invariant-loop l = (length l.marks ≡ length l.bytes) × ((sites : List Site) → AreMarks sites l.fn.marks
    → (more : List Site) × AreMarks more l.marks × (chain_at l.bytes l.width (length l.bytes - l.counter) more l.at ≡ chain_at l.bytes l.width (length l.bytes) sites l.head))
