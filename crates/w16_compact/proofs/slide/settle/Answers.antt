use Rattle.w16_compact.proofs
use proofs.Common as C
use proofs.Common.{◌-◌, ap, subst, arith, Span, holes, Layout, holes_of}
use proofs.Settled.{same_layout, contents_run, cleared_down}
use Rattle.w16_compact.proofs.slide.settle.Goals as goal

pub returns-then-within-to-clause-blocks : goal.returns-then-within-to-clause-blocks
returns-then-within-to-clause-blocks g c = same_layout _ (record { from = c.args.within.from; to = c.run_end.result }) _ c.if-within-to.true

pub returns-clause-contents : goal.returns-clause-contents
returns-clause-contents g c =
    let l = c.args.blocks.now in let run : Span = record { from = c.args.within.from; to = c.slide_run.result } in let after = c.slide_run.new.self in
    let e = c.slide_run.ensures in let new = ap (λ x. x.blocks) e.value in
    let down = c.requires.part.1 in let ne = c.if-within-to.false in
    rw new (contents_run _ _ run _ (holes_of l) (holes_of after) e.contents e.rest.bytes _
    (cleared_down run _ (omega arith) e.some _ (C.lies_of run l.lo l.hi _ c.requires.ordered.laid e.run.whole.0 e.run.whole.1) c.requires.bare) (C.used_each l.lo l.hi _ c.requires.ordered.laid)
    (subst (C.AllByRecursion (λ x. C.IsUsed x.at (C.block_end x) (holes_of after))) new (C.used_each _ _ _ e.ordered.laid)))

pub returns-clause-rest : goal.returns-clause-rest
returns-clause-rest g c =
    let l = c.args.blocks.now in let run : Span = record { from = c.args.within.from; to = c.slide_run.result } in
    let is = c.slide_run.ensures.value in let same = c.slide_run.ensures.rest.bytes in
    let low = c.requires.part.0 in let down = c.requires.part.1 in let top = c.slide_run.ensures.run.inside.2 in
    let laid = subst (λ x. C.IsLaid x.lo x.hi c.slide_run.new.self.blocks) is c.slide_run.ensures.ordered.laid in
    let same' : C.AreSameBut c.args.to (run.to - run.from) (holes l.lo l.hi l.blocks) (holes l.lo l.hi c.slide_run.new.self.blocks) (g.S.Space.bytes c.args.space.now) (g.S.Space.bytes c.slide_run.new.space) =
    subst (λ x. C.AreSameBut c.args.to (run.to - run.from) (holes l.lo l.hi l.blocks) (holes x.lo x.hi c.slide_run.new.self.blocks) (g.S.Space.bytes c.args.space.now) (g.S.Space.bytes c.slide_run.new.space)) is same in
    record { kept = c.slide_run.ensures.rest.kept; bytes = record { long = same.long; outside = C.outside_but l.lo l.hi _ _ _ _ _ _ c.requires.ordered.laid laid low (omega arith) same' }; loans = c.slide_run.ensures.rest.loans }
