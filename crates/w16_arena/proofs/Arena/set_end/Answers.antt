use Rattle.w16_arena.proofs.{Common.ap, Common.◌∙◌, Common.Layout, Common.ArenaState, Common.heap_in, Keeping.heap_kept, Keeping.keeps_holes, Later.kept_later}
use Rattle.w16_arena.specs.State.{table_of}
use Rattle.w16_arena.proofs.Arena.set_end.Goals as goal

pub invariant_of-self : goal.invariant_of-self
invariant_of-self g c = kept_later c.self.invariant c.self.view_is c.args.end c.requires.later c.set_end.ensures.value

pub returns-clause-value : goal.returns-clause-value
returns-clause-value g c =
    let s = c.self.inside in
    ap (λ l. record { table = table_of s.entries.items l s.order.ids; discarded = s.discarded.items }) c.set_end.ensures.value
    ∙ ap (λ (a : ArenaState). record a { table = record a.table { hi = c.args.end } }) c.self.view_is

pub returns-clause-sound : goal.returns-clause-sound
returns-clause-sound g c = (invariant_of-self g c).sound

pub returns-clause-bytes : goal.returns-clause-bytes
returns-clause-bytes g c = let l = c.set_end.new.self in keeps_holes l.lo l.hi _ _ _ c.set_end.ensures.ordered.laid c.set_end.ensures.rest c.set_end.ensures.written

pub returns-clause-heap : goal.returns-clause-heap
returns-clause-heap g c =
    let s = c.self.inside in let old = g.S.Space.bytes _ in let new = g.S.Space.bytes _ in
    heap_kept old new (table_of s.entries.items c.set_end.new.self _) (returns-clause-bytes g c).contents
    ∙ ap (λ a. heap_in a.table old) (returns-clause-value g c)
