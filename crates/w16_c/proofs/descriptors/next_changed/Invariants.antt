use Rattle.w16_c.specs.Descriptors.{AreKnown}
use Rattle.w16_c.proofs.descriptors.next_changed.Given as goal

abbrev pub invariant-loop-slot : goal.invariant-loop-slot
invariant-loop-slot l = AreKnown l.kernel.loading.handles l.known l.from l.slot
