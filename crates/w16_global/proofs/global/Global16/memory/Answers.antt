use Rattle.w16_global.proofs.Common.{ap, ◌∙◌, subst}
use Rattle.w16_global.proofs.{Owners.are_handles, Owners.handles_shown, Shown.memory_shown}
use Rattle.w16_global.specs.Shown.{ShowsObjects}
use Rattle.w16_global.proofs.global.Global16.memory.Goals as goal

pub returns : goal.returns
returns g c = record {
  shown = memory_shown _ (are_handles c.self.invariant (handles_shown c.self.view_is)) _ (subst (λ v. ShowsObjects c.memory.result.now v.heap) (handles_shown c.self.view_is) c.memory.ensures.shown);
  long = c.memory.ensures.long ∙ ap (λ v. v.handles.heap.hi) c.self.view_is;
}
