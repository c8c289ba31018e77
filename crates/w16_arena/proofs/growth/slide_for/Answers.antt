use Rattle.w16_arena.proofs.ButFor.{own_below}
use Rattle.w16_arena.proofs.growth.slide_for.Goals as goal

pub gap_for-requires-clause-about : goal.gap_for-requires-clause-about
gap_for-requires-clause-about g c = own_below c.bounds.ensures.ordered c.args.block c.requires.known
