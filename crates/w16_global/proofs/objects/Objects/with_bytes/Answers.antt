use Rattle.std.proofs.Common.{sym, ◌∙◌}
use Rattle.w16_global.proofs.Lent.{has_whole, lent_as, may, no_bytes}
use Rattle.w16_global.proofs.objects.Objects.with_bytes.Goals as goal

pub unreachable-requires : goal.unreachable-requires
unreachable-requires g c = no_bytes (λ bytes. g.W.Work.may c.args.work.now c.args.state.now bytes) _ c.requires (sym c.size.ensures ∙ c.in_default.is)

pub lend-requires : goal.lend-requires
lend-requires g c = has_whole c.args.self.now _ _ (sym c.in-Some.is ∙ c.size.ensures)

pub work_over-requires-clause-may : goal.work_over-requires-clause-may
work_over-requires-clause-may g c = may c.args.self.now c.args.id _ (sym c.in-Some.is ∙ c.size.ensures) c.lend.ensures.value (λ bytes. g.W.Work.may c.args.work.now c.args.state.now bytes) c.requires

pub returns : goal.returns
returns g c = lent_as _ _ _ (sym c.in-Some.is ∙ c.size.ensures) c.lend.ensures.value _ c.work_over.ensures.long c.work_over.ensures.bytes c.work_over.ensures.done
