use Rattle.std.proofs.Common.{rules}
use Rattle.w16_global.proofs.Parts.{ends_low, no_block_known}
use Rattle.w16_global.proofs.objects.Objects.alloc.Goals as goal

pub alloc-requires-clause-absent : goal.alloc-requires-clause-absent
alloc-requires-clause-absent g c = no_block_known c.self.invariant c.self.view_is c.args.id c.requires.free

pub returns-clause-inside : goal.returns-clause-inside
returns-clause-inside g c = (ends_low c.self.invariant _ _ c.self.inside.memory.small (search rules)).0

pub returns-clause-few : goal.returns-clause-few
returns-clause-few g c = (ends_low c.self.invariant c.self.inside.arena.table.lo _ c.self.inside.memory.small (search rules)).1
