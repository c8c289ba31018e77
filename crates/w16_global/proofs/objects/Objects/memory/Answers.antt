use Rattle.w16_global.proofs.Shown.{memory_long, memory_shows}
use Rattle.w16_global.proofs.objects.Objects.memory.Goals as goal

pub returns : goal.returns
returns g c = record {
  shown = memory_shows c.self.invariant c.self.view_is c.len.ensures c.view.ensures;
  long = memory_long c.self.invariant c.self.view_is c.len.ensures c.view.ensures;
}
