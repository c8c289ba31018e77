use Rattle.w16_compact.proofs.{Gathering.run_start, Packed.run_packed}
use Rattle.w16_compact.proofs.slide.packed_to.Goals as goal

pub returns-in-Some-clause-run : goal.returns-in-Some-clause-run
returns-in-Some-clause-run g c = run_packed _ c.hole_for.ensures.ordered _ c.args.high c.requires.gap c.requires.grained _ c.in-Some.ensures.value c.if-low-hole.true c.if-hole-high.true

pub returns-in_default-clause-run : goal.returns-in_default-clause-run
returns-in_default-clause-run g c = run_start _ _ c.args.high c.requires.gap c.requires.grained

pub returns-in_default-2-clause-run : goal.returns-in_default-2-clause-run
returns-in_default-2-clause-run g c = run_start _ _ c.args.high c.requires.gap c.requires.grained

pub returns-in_default-3-clause-run : goal.returns-in_default-3-clause-run
returns-in_default-3-clause-run g c = run_start _ _ c.args.high c.requires.gap c.requires.grained
