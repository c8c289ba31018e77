use Rattle.w16_arena.proofs.{Common.arith, ButFor.free_but, Fitting.fits_free, Grown.own_apart, Grown.elsewhere, Kept.others_kept, Kept.outside_kept}
use Rattle.w16_arena.proofs.growth.move_to.Goals as goal

pub move_grown-requires-clause-fits : goal.move_grown-requires-clause-fits
move_grown-requires-clause-fits g c =
    let more = c.requires.more in
    fits_free _ c.args.block c.requires.known c.bounds.ensures.ordered _ _ (omega arith) c.requires.rounded (free_but c.args.block.id _ _ c.requires.free)

pub move_grown-requires-clause-apart : goal.move_grown-requires-clause-apart
move_grown-requires-clause-apart g c = own_apart c.bounds.ensures.ordered c.args.block c.requires.known _ _ c.requires.free

pub returns-clause-elsewhere : goal.returns-clause-elsewhere
returns-clause-elsewhere g c = elsewhere c.bounds.ensures.ordered c.args.block c.requires.known c.args.size c.args.to c.requires.free (let more = c.requires.more in omega arith)

pub returns-clause-others : goal.returns-clause-others
returns-clause-others g c = let e = c.move_grown.ensures in others_kept c.args.blocks.now c.args.block c.args.to c.args.size c.bounds.ensures.ordered e.value e.ordered e.rest.bytes

pub returns-clause-rest : goal.returns-clause-rest
returns-clause-rest g c =
    let e = c.move_grown.ensures in
    record {
      kept = e.rest.kept;
      bytes = record { long = e.rest.bytes.long; outside = outside_kept c.args.blocks.now c.args.block c.args.to c.args.size c.bounds.ensures.ordered e.value e.ordered e.rest.bytes };
      loans = e.rest.loans;
    }
