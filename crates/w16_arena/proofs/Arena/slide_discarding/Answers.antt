use Rattle.w16_arena.proofs
use proofs.Common.{ℕ, ◌≤◌, length, ap, ◌∙◌, subst, arith, counted, heap_in, SlidesTogether, ArenaState}
use proofs.Keeping.{heap_kept}
use proofs.Answering.{compacts_then, slid_then, listed_then, rest_after}
use Rattle.w16_arena.proofs.Arena.slide_discarding.Goals as goal

pub returns : goal.returns
returns g c =
    let m = g.S.Space.bytes c.args.space.now in
    let found = c.least_discards-k.ensures in
    let mid = c.discard_first.new.self in
    let few : length c.args.self.now.table.order ≤ c.order_len.result = let len = c.order_len.ensures in let same = ap (λ (s : ArenaState). length s.table.order) found.same in omega arith in
    let discards = rw (found.same, c.unwrap_or.ensures) at c.discard_first.ensures.discards in
    let bytes = c.discard_first.ensures.bytes in
    let p = c.slide_together.ensures in
    let new = heap_in c.slide_together.new.self.table (g.S.Space.bytes _) in
    let slides = subst (λ h. SlidesTogether h c.slide_together.result new) (heap_kept m (g.S.Space.bytes _) mid.table bytes.contents) p.slides in
    record {
      compacted = compacts_then c.args.self.now found.sound m c.requires.memory.inside _ c.requires.some c.least_discards-k.result found.value _ few mid discards p.room slides;
      slid = slid_then c.args.self.now found.sound m c.requires.memory.inside c.args.n c.requires.some c.least_discards-k.result found.value _ few mid discards p.room slides c.reveal_bytes.ensures;
      discarded = listed_then c.args.self.now found.sound m c.requires.memory.inside c.args.n c.requires.some c.least_discards-k.result found.value _ few mid discards p.discarded;
      rest = rest_after discards.range bytes.rest p.rest;
      written = p.written ∙ ap (λ w. counted w c.slide_together.result.moved) bytes.count;
    }
