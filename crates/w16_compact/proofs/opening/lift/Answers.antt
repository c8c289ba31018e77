use Rattle.w16_compact.proofs
use proofs.Common as C
use proofs.Common.{◌-◌, ap, subst, arith, holes, Layout, holes_of}
use proofs.Settled.{same_layout, contents_run, cleared_up}
use Rattle.w16_compact.proofs.opening.lift.Goals as goal

pub returns-then-run-to-clause-blocks : goal.returns-then-run-to-clause-blocks
returns-then-run-to-clause-blocks g c = same_layout _ _ _ c.if-run-to.true

pub returns-clause-contents : goal.returns-clause-contents
returns-clause-contents g c =
    let l = c.args.blocks.now in let run = c.args.run in let after = c.lift_run.new.self in
    let new = ap (λ x. x.blocks) c.lift_run.ensures.value in
    rw new (contents_run _ _ run _ (holes_of l) (holes_of after) c.lift_run.ensures.contents c.lift_run.ensures.rest.bytes _
    (cleared_up run _ c.requires.up.0 c.requires.some _ (C.lies_of run l.lo l.hi _ c.requires.ordered.laid c.requires.run.whole.0 c.requires.run.whole.1) c.requires.bare) (C.used_each l.lo l.hi _ c.requires.ordered.laid)
    (subst (C.AllByRecursion (λ x. C.IsUsed x.at (C.block_end x) (holes_of after))) new (C.used_each _ _ _ c.lift_run.ensures.ordered.laid)))

pub returns-clause-rest : goal.returns-clause-rest
returns-clause-rest g c =
    let l = c.args.blocks.now in let run = c.args.run in
    let is = c.lift_run.ensures.value in let same = c.lift_run.ensures.rest.bytes in
    let low = c.requires.run.inside.0 in let up = c.requires.up.0 in let top = c.requires.up.1 in
    let laid = subst (λ x. C.IsLaid x.lo x.hi c.lift_run.new.self.blocks) is c.lift_run.ensures.ordered.laid in
    let same' : C.AreSameBut c.args.to (run.to - run.from) (holes l.lo l.hi l.blocks) (holes l.lo l.hi c.lift_run.new.self.blocks) (g.S.Space.bytes c.args.space.now) (g.S.Space.bytes c.lift_run.new.space) =
    subst (λ x. C.AreSameBut c.args.to (run.to - run.from) (holes l.lo l.hi l.blocks) (holes x.lo x.hi c.lift_run.new.self.blocks) (g.S.Space.bytes c.args.space.now) (g.S.Space.bytes c.lift_run.new.space)) is same in
    record { kept = c.lift_run.ensures.rest.kept; bytes = record { long = same.long; outside = C.outside_but l.lo l.hi _ _ _ _ _ _ c.requires.ordered.laid laid (omega arith) top same' }; loans = c.lift_run.ensures.rest.loans }
