use Rattle.std.proofs.Common.{rules}
use Rattle.w16_global.proofs.Parts.{ends_low, entry_known}
use Rattle.w16_global.proofs.objects.Objects.realloc.Goals as goal

pub realloc-requires-clause-object : goal.realloc-requires-clause-object
realloc-requires-clause-object g c = entry_known c.self.invariant c.self.view_is c.args.id c.requires.object

pub returns-clause-inside : goal.returns-clause-inside
returns-clause-inside g c = (ends_low c.self.invariant _ _ c.self.inside.memory.small (search rules)).0

pub returns-clause-few : goal.returns-clause-few
returns-clause-few g c = (ends_low c.self.invariant c.self.inside.arena.table.lo _ c.self.inside.memory.small (search rules)).1
