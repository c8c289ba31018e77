use Rattle.w16_global.proofs.{Common.Compacts, Common.heap_in, Parts.ends_low, Parts.told}
use Rattle.w16_global.proofs.objects.Objects.compact.Goals as goal

pub returns-clause-compacted : goal.returns-clause-compacted
returns-clause-compacted g c = told c.self.invariant c.self.view_is (λ heap. Compacts heap c.args.n c.compact-compacted.result.room (heap_in c.compact-compacted.new.self.table c.compact-compacted.new.space.bytes.items)) c.compact-compacted.ensures.compacted

pub returns-clause-few : goal.returns-clause-few
returns-clause-few g c = (ends_low c.self.invariant c.self.inside.arena.table.lo _ c.self.inside.memory.small c.compact-compacted.ensures.slid.few).1
