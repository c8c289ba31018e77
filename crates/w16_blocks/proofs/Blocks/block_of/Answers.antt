use Rattle.w16_blocks.proofs.Tables.{known_is}
use Rattle.w16_blocks.proofs.Blocks.block_of.Goals as goal

pub returns-clause-known : goal.returns-clause-known
returns-clause-known g c =
    rw (← c.self.view_is) (known_is c.self.invariant.0.tables c.self.inside.slots.ok.0 (rw (← c.self.view_is) at c.requires.id) c.index.ensures (rw (← c.self.view_is) at c.requires.known))
