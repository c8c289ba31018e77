use Rattle.std.proofs.Common.{sym, ◌∙◌, ap, arith}
use Rattle.std.specs.FinMap as finmap
use Rattle.w16_local.proofs.Locals.{listed_unset, none_past, remove_nothing, tables_unset}
use Rattle.w16_local.proofs.LocalHeaps.drop_slot.Goals as goal

pub returns-then-slot-len : goal.returns-then-slot-len
returns-then-slot-len g c = sym (remove_nothing c.args.self.now c.args.slot (ap (λ m. finmap.get m c.args.slot) (sym c.self.view_is) ∙ none_past _ c.self.inside.heaps.items c.args.slot (let e = c.if-slot-len.true in omega (arith, e, c.self.inside.heaps.ok.0))))

pub invariant_of-self : goal.invariant_of-self
invariant_of-self g c = listed_unset c.self.inside.heaps.items c.self.inside.live.items c.args.slot c.take-gone.new.self c.take-gone.ensures.after (let e = c.if-slot-len.false in omega (arith, e, c.self.inside.heaps.ok.0)) c.self.invariant

pub returns : goal.returns
returns g c = tables_unset _ c.self.inside.heaps.items c.args.slot c.take-gone.new.self c.take-gone.ensures.after (let e = c.if-slot-len.false in omega (arith, e, c.self.inside.heaps.ok.0)) ∙ ap (λ m. finmap.remove m c.args.slot) c.self.view_is
