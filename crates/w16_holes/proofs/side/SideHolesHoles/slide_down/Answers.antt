use Rattle.w16_holes.proofs
use proofs.Common.{◌≡◌, List, length, arith, refl, sym, ap, ◌∙◌, subst, ◌+◌, ◌-◌, Span, joined, taken, AreSameBut, AreSameOutside}
use proofs.Passing.{part_taken, free_taken, part_put, used_put, come_too, others_same}
use proofs.Slid.{slid_alone}
use Rattle.w16_holes.proofs.side.SideHolesHoles.slide_down.Given as given
use Rattle.w16_holes.proofs.side.SideHolesHoles.slide_down.Goals as goal

pub take-requires-clause-part : goal.take-requires-clause-part
take-requires-clause-part g c = let r = c.requires in part_taken _ c.reveal_order.ensures.ordered r.down r.new r.old r.free r.used c.min-apart.ensures

pub take-requires-clause-free : goal.take-requires-clause-free
take-requires-clause-free g c = let r = c.requires in free_taken _ c.reveal_order.ensures.ordered r.down r.new r.old r.free r.used c.min-apart.ensures

pub put-requires-clause-part : goal.put-requires-clause-part
put-requires-clause-part g c = let r = c.requires in rw c.take.ensures.range (part_put _ c.reveal_order.ensures.ordered r.down r.new r.old r.free r.used c.min-apart.ensures)

pub put-requires-clause-used : goal.put-requires-clause-used
put-requires-clause-used g c = let r = c.requires in rw c.take.ensures.holes (used_put _ c.reveal_order.ensures.ordered r.down r.new r.old r.free r.used c.min-apart.ensures)

-- where the hole begins there
pub returns-then-at-from-clause-bytes : goal.returns-then-at-from-clause-bytes
returns-then-at-from-clause-bytes g c =
    let inside = c.requires.inside in let down = c.requires.down in
    slid_alone c.args.from _ _ _ _ _ _ c.slide.ensures.bytes (omega arith) (omega arith)

-- the holes where it doesn't
once_put : (g : given.Over) (c : goal.After-put g) → c.put.new.self.holes ≡ joined (c.args.from + c.args.size - c.min-apart.result) (c.args.from + c.args.size - c.min-apart.result + c.min-apart.result) (taken c.args.to (c.args.to + c.min-apart.result) c.args.self.now.holes)
once_put g c = c.put.ensures.holes ∙ ap (joined _ _) c.take.ensures.holes

pub returns-else-at-from-clause-contents : goal.returns-else-at-from-clause-contents
returns-else-at-from-clause-contents g c =
    let r = c.requires in
    come_too _ c.reveal_order.ensures.ordered r.down r.new r.old r.free r.used c.min-apart.ensures
    _ r.inside c.take.ensures.bytes.long c.slide-else-at-from.ensures.bytes
    refl c.take.ensures.bytes
    (subst (λ hs. AreSameOutside hs (g.S.Space.bytes c.slide-else-at-from.new.self) (g.S.Space.bytes c.put.new._space)) (once_put g c) c.put.ensures.bytes)

pub returns-else-at-from-clause-bytes : goal.returns-else-at-from-clause-bytes
returns-else-at-from-clause-bytes g c =
    let r = c.requires in
    subst (λ hs. AreSameBut c.args.to c.args.size c.args.self.now.holes hs (g.S.Space.bytes c.args.space.now) (g.S.Space.bytes c.put.new._space)) (sym (once_put g c))
    (others_same _ c.reveal_order.ensures.ordered r.down r.new r.old r.free r.used c.min-apart.ensures
    _ r.inside c.take.ensures.bytes.long c.slide-else-at-from.ensures.bytes
    refl c.take.ensures.bytes
    (subst (λ hs. AreSameOutside hs (g.S.Space.bytes c.slide-else-at-from.new.self) (g.S.Space.bytes c.put.new._space)) (once_put g c) c.put.ensures.bytes))

pub returns-then-at-from-clause-written : goal.returns-then-at-from-clause-written
returns-then-at-from-clause-written g c = c.slide.ensures.written
