use Rattle.w16_arena.proofs.Renamed.{no_block_there, not_used, kept_renamed, steps_renamed, holes_same}
use Rattle.w16_arena.proofs.Arena.rename.Goals as goal

pub invariant_of-self : goal.invariant_of-self
invariant_of-self g c = kept_renamed c.self.invariant c.self.view_is _ _ c.requires.known c.requires.to c.requires.free
    _ c.index-entry.ensures c.rename.ensures.value c.rename.ensures.ordered c.rename-2.ensures.value c.rename-2.ensures.uses

pub returns-clause-steps : goal.returns-clause-steps
returns-clause-steps g c = steps_renamed c.self.invariant c.self.view_is _ _ c.requires.known c.requires.to c.requires.free
    _ c.index-entry.ensures c.rename.ensures.value c.rename.ensures.ordered c.rename-2.ensures.value c.rename-2.ensures.uses

pub returns-clause-holes : goal.returns-clause-holes
returns-clause-holes g c = holes_same c.self.invariant c.self.view_is c.args.id c.args.to c.requires.known c.requires.to c.requires.free
    c.index-entry.result.now c.index-entry.ensures c.rename.ensures.value c.rename.ensures.ordered c.rename-2.ensures.value c.rename-2.ensures.uses

pub rename-requires-clause-free : goal.rename-requires-clause-free
rename-requires-clause-free g c = no_block_there c.self.invariant c.self.view_is c.args.id c.args.to c.requires.known c.requires.to c.requires.free

pub rename-requires-2-clause-free : goal.rename-requires-2-clause-free
rename-requires-2-clause-free g c = not_used c.self.invariant c.self.view_is c.args.id c.args.to c.requires.known c.requires.to c.requires.free
