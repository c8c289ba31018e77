use Rattle.w16_arena.proofs
use proofs.Common.{counted, ◌+◌, ◌==◌, arith, ℕ, sym, ap, ◌∙◌, subst, ne_eqb, Layout, IsMultiple, sum_fits, may_beside, moved_most}
use proofs.OtherGap.{all_moved, all_free, known_mid, bytes_mid, others_moved}
use proofs.{Written.counted_both, ButFor.moved_but_for, ButFor.free_but, Grown.has_grown}
use Rattle.std.proofs.lemmas.Bool.{cond-false}
use Rattle.w16_arena.proofs.growth.move_to_gap.Goals as goal

pub packed_to-from-requires-clause-gap : goal.packed_to-from-requires-clause-gap
packed_to-from-requires-clause-gap g c = may_beside _ c.bounds.ensures.ordered c.args.block.id c.args.block c.requires.known c.args.size c.args.gap c.requires.gap c.requires.other

pub gather-gathered-requires-clause-gap : goal.gather-gathered-requires-clause-gap
gather-gathered-requires-clause-gap g c = may_beside _ c.bounds.ensures.ordered c.args.block.id c.args.block c.requires.known c.args.size c.args.gap c.requires.gap c.requires.other

pub move_to-requires-clause-known : goal.move_to-requires-clause-known
move_to-requires-clause-known g c =
    let r = c.requires in let e = c.gather-gathered.ensures in let p = c.packed_to-from.ensures in
    known_mid c.bounds.ensures.ordered _ r.known r.gap r.other p.run p.high e.blocks e.ordered _ _ e.contents e.rest.bytes.long c.reveal_bytes.ensures

pub move_to-requires-clause-rounded : goal.move_to-requires-clause-rounded
move_to-requires-clause-rounded g c = subst (λ k. IsMultiple k c.args.size) (sym (ap (λ m. m.grain) c.gather-gathered.ensures.blocks)) c.requires.rounded

pub move_to-requires-clause-free : goal.move_to-requires-clause-free
move_to-requires-clause-free g c = let r = c.requires in let e = c.gather-gathered.ensures in all_free c.bounds.ensures.ordered _ r.known r.gap r.other e.blocks e.left.clear

pub overflow_add-result : goal.overflow_add-result
overflow_add-result g c =
    let l = c.args.blocks.now in let moved = c.gather-gathered.ensures.moved in
    let most = moved_most l.blocks c.gather-gathered.new.blocks.blocks in let all = sum_fits l.lo l.hi l.blocks c.bounds.ensures.ordered.laid in
    let small = c.bounds.ensures.ordered.small in let own = c.from.ensures in let more = c.requires.more in let few = c.ranges.size.fits in
    record { fits = omega (arith, moved, most, all, small, own, more, few) }

pub returns-clause-grown : goal.returns-clause-grown
returns-clause-grown g c =
    let l = c.args.blocks.now in let b = c.args.block in let r = c.requires in let e = c.gather-gathered.ensures in let p = c.packed_to-from.ensures in let f = c.move_to.ensures in
    let ordered = c.bounds.ensures.ordered in let small = c.reveal_bytes.ensures in let at = c.args.gap.low + c.args.gap.loose in
    has_grown c.args.size b l c.gather-gathered.new.blocks c.move_to.new.blocks (g.S.Space.bytes _) (g.S.Space.bytes _) (g.S.Space.bytes _) _
    (moved_but_for b.id (all_moved ordered b r.known r.gap r.other p.run p.high e.blocks e.ordered _ _ e.contents e.rest.bytes.long small))
    (free_but b.id _ at (all_free ordered b r.known r.gap r.other e.blocks e.left.clear))
    (f.bytes ∙ bytes_mid ordered b r.known r.gap r.other p.run p.high e.blocks e.ordered _ _ e.contents e.rest.bytes.long small) f.value f.laid f.others f.rest.bytes.long f.small
    (let others = others_moved ordered b r.known r.gap r.other p.run p.high e.blocks e.ordered _ _ e.contents e.rest.bytes.long small in
    let moved = e.moved in let same = c.from.ensures in let own = cond-false (at == b.at) 0 b.size (ne_eqb at b.at f.elsewhere) in omega (arith, others, moved, own, same))

pub returns-clause-written : goal.returns-clause-written
returns-clause-written g c = c.move_to.ensures.written ∙ ap (λ w. counted w c.args.block.size)
    c.gather-gathered.ensures.written ∙ counted_both (g.S.Space.written _) c.gather-gathered.result
    c.args.block.size ∙ ap (λ m. counted (g.S.Space.written c.args.space.now) (c.gather-gathered.result + m))
    (sym c.from.ensures)
