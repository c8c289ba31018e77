use Rattle.w16_reloc.proofs.Common.{◌≡◌, ◌-◌, List, [], length, vec_len, vec_capacity, Site, AreMarks, check_from, offer_in}
use Rattle.w16_reloc.proofs.Refusals.{with_front}
use Rattle.w16_reloc.proofs.records.check_records.Given as goal

abbrev pub invariant-loop-i : goal.invariant-loop-i
invariant-loop-i g l = (length l.marks ≡ length l.bytes) × (vec_len l.records ≡ l.i) × (vec_capacity l.records ≡ vec_capacity l.fn.records)
    × (AreMarks [] l.fn.marks → (sites : List Site) × AreMarks sites l.marks
    × (with_front l.records.items (check_from (offer_in l.offered.texts.now l.offered.segments l.offered.references) l.bytes l.table (l.count - l.i) l.i sites)
    ≡ check_from (offer_in l.offered.texts.now l.offered.segments l.offered.references) l.bytes l.table l.count 0 []))
