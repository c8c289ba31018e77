use Rattle.w16_global.proofs.Parts.{is_heap_shown, next_found, next_lowest, next_none, next_inside}
use Rattle.w16_global.proofs.objects.Objects.next_block.Goals as goal

pub returns-clause-found : goal.returns-clause-found
returns-clause-found g c = next_found c.self.invariant c.self.view_is _ c.self.inside.memory.small _ c.next_block.ensures.found

pub returns-clause-lowest : goal.returns-clause-lowest
returns-clause-lowest g c = next_lowest c.self.invariant c.self.view_is _ c.self.inside.memory.small _ c.next_block.ensures.lowest

pub returns-clause-none : goal.returns-clause-none
returns-clause-none g c = next_none c.self.invariant c.self.view_is _ c.self.inside.memory.small _ c.next_block.ensures.none

pub returns-clause-inside : goal.returns-clause-inside
returns-clause-inside g c = next_inside c.self.invariant c.self.view_is c.args.from c.self.inside.memory.small _ c.next_block.ensures.found

pub returns-clause-sound : goal.returns-clause-sound
returns-clause-sound g c = is_heap_shown c.self.invariant c.self.view_is
