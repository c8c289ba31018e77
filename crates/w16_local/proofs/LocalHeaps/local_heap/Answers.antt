use Rattle.w16_local.proofs.Common.{None, Some, ap, ◌∙◌, sym, arith, option_copied}
use Rattle.std.specs.FinMap as finmap
use Rattle.w16_local.proofs.Locals.{is_there, none_past}
use Rattle.w16_local.proofs.LocalHeaps.local_heap.Goals as goal

pub returns-then-slot-len-clause-none : goal.returns-then-slot-len-clause-none
returns-then-slot-len-clause-none g c = ap (λ m. finmap.get m c.args.slot) (sym c.self.view_is) ∙ none_past _ c.self.inside.heaps.items c.args.slot (let e = c.if-slot-len.true in omega (arith, e, c.self.inside.heaps.ok.0))

pub returns-in_default-clause-none : goal.returns-in_default-clause-none
returns-in_default-clause-none g c = is_there _ c.self.inside.heaps.items c.self.view_is c.args.slot (let e = c.if-slot-len.false in omega (arith, e, c.self.inside.heaps.ok.0)) c.index.result.now None (sym (ap option_copied c.in_default.is) ∙ c.as_ref.ensures.value ∙ c.index.ensures)

pub returns-clause-some : goal.returns-clause-some
returns-clause-some g c =
    is_there _ c.self.inside.heaps.items c.self.view_is c.args.slot (let e = c.if-slot-len.false in omega (arith, e, c.self.inside.heaps.ok.0)) c.index.result.now (Some c.in-Some.held.now) (sym (ap option_copied c.in-Some.is) ∙ c.as_ref.ensures.value ∙ c.index.ensures)
    ∙ ap Some (sym c.as_ref-2.ensures)
