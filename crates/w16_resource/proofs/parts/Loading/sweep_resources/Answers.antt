-- A slot more is swept.
use Rattle.w16_resource.proofs.Common.{LoadingWorld, ap, false, is_left_over, subst, sym, without_orphans, ◌∙◌, ◌≡◌}
use Rattle.std.specs.FinMap as finmap
use Rattle.w16_resource.proofs.Swept.{sweeps_on, swept_other, next_done, none_left}
use Rattle.w16_resource.proofs.parts.Loading.sweep_resources.Goals as goal

pub loop-slot-preserved : goal.loop-slot-preserved
loop-slot-preserved g c = record {
  goes = ap without_orphans c.sweep_slot.ensures ∙ sweeps_on c.loop-slot.self c.loop-slot.slot ∙ c.loop-slot.invariant.goes;
  done = next_done c.loop-slot.self c.sweep_slot.new.self c.loop-slot.slot c.sweep_slot.ensures c.loop-slot.invariant.done;
  behind = λ q none. subst (λ w. is_left_over w q ≡ false) (sym c.sweep_slot.ensures) (swept_other c.loop-slot.self c.loop-slot.slot q (c.loop-slot.invariant.behind q none));
}

pub returns : goal.returns
returns g c = none_left c.args.self.now c.loop-slot.self c.end-slot-end.result c.loop-slot.slot c.loop-slot.invariant.done c.loop-slot-test.false
    (λ q le. ap (λ (w : LoadingWorld). finmap.get w.loads q) (sym c.self.view_is) ∙ c.end-slot-end.ensures.all q le) c.loop-slot.invariant.behind ∙ c.loop-slot.invariant.goes
