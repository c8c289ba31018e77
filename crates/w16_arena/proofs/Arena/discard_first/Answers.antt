use Rattle.w16_arena.proofs
use proofs.Common.{◌<◌, length, sym, ap, ◌∙◌, subst, arith, Table, IsSound, ArenaState, table_of, holes_in}
use proofs.Keeping.{keeps_same, keeps_more}
use proofs.Oldest.{ArePartly, partly_none, partly_more, full, next_unlocked, order_short}
use Rattle.w16_arena.proofs.Arena.discard_first.Goals as goal

pub list_eligible-requires-clause-room : goal.list_eligible-requires-clause-room
list_eligible-requires-clause-room g c =
    let short = order_short (table_of c.self.inside.entries.items c.self.inside.blocks c.self.inside.order.ids) c.self.invariant.sound in
    let enough = c.self.invariant.enough in omega arith

pub loop-i-init : goal.loop-i-init
loop-i-init g c =
    let t = table_of _ c.self.inside.blocks _ in record {
      partly = subst (λ s. ArePartly s c.args.k c.args.h 0 (record { table = t; discarded = c.list_eligible.new.listed.items })) c.self.view_is
          (partly_none (record { table = t; discarded = c.self.inside.discarded.items }) c.self.invariant.sound _ _ _ c.list_eligible.ensures.listed);
      end = let len = c.list_eligible.new.listed.ok.0 in let told = c.len-i-end.ensures in omega arith;
      bytes = keeps_same t.lo t.hi t.blocks c.args.space.now (subst (λ s. g.H.Holes.are_in (holes_in s.table) (g.S.Space.bytes c.args.space.now)) (sym c.self.view_is) c.requires.memory.kept);
    }

pub give_up-requires-clause-unlocked : goal.give_up-requires-clause-unlocked
give_up-requires-clause-unlocked g c =
    let now = c.loop-i in let lt : now.i < length now.self.discarded = let test = c.loop-i-test.true in let end = now.invariant.end in omega arith in
    let sound = subst (λ s. IsSound s.table) c.self.view_is c.self.invariant.sound in
    next_unlocked c.args.self.now sound c.args.k c.args.h now.i now.self now.invariant.partly lt c.self-in-loop-i.inside.discarded.items (ap (λ s. s.discarded) c.self-in-loop-i.view_is) c.index-id.result.now c.index-id.ensures

pub loop-i-preserved : goal.loop-i-preserved
loop-i-preserved g c =
    let now = c.loop-i in let lt : now.i < length now.self.discarded = let test = c.loop-i-test.true in let end = now.invariant.end in omega arith in
    let sound = subst (λ s. IsSound s.table) c.self.view_is c.self.invariant.sound in
    let id = c.index-id.result.now in let given = c.give_up.ensures in let range = given.steps.range in
    record {
      partly = partly_more c.args.self.now sound c.args.k c.args.h now.i now.self now.invariant.partly lt c.self-in-loop-i.inside.discarded.items (ap (λ s. s.discarded) c.self-in-loop-i.view_is) id c.index-id.ensures c.give_up.new.self given.steps given.entries;
      end = now.invariant.end ∙ sym (ap (λ s. length s.discarded) given.steps.rest);
      bytes = keeps_more now.self.table c.give_up.new.self.table id _ now.space _ range.lo range.hi given.blocks now.invariant.bytes given.bytes;
    }

pub returns-clause-discards : goal.returns-clause-discards
returns-clause-discards g c =
    full c.args.self.now (subst (λ s. IsSound s.table) c.self.view_is c.self.invariant.sound) c.args.k c.args.h c.loop-i.i c.loop-i.self c.loop-i.invariant.partly
    (let past = c.loop-i-test.false in let end = c.loop-i.invariant.end in omega arith)
