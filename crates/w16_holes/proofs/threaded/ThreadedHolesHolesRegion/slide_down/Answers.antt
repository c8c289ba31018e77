use Rattle.w16_holes.proofs.Passing as M
use Rattle.w16_holes.proofs.Common.{◌≡◌, List, length, refl, sym, ap, ◌∙◌, subst, ◌+◌, ◌-◌, Span, joined, taken, AreSameBut, AreSameOutside}
use Rattle.w16_holes.specs.Thread.{threaded_stay}
use Rattle.w16_holes.proofs.threaded.ThreadedHolesHolesRegion.slide_down.Given as given
use Rattle.w16_holes.proofs.threaded.ThreadedHolesHolesRegion.slide_down.Goals as goal

pub take-requires-clause-part : goal.take-requires-clause-part
take-requires-clause-part g c = let r = c.requires in M.part_taken _ (rw (← c.self.view_is) c.reveal_order.ensures.ordered) r.down r.new r.old r.free r.used c.min-apart.ensures

pub take-requires-clause-free : goal.take-requires-clause-free
take-requires-clause-free g c = let r = c.requires in M.free_taken _ (rw (← c.self.view_is) c.reveal_order.ensures.ordered) r.down r.new r.old r.free r.used c.min-apart.ensures

pub put-requires-clause-kept : goal.put-requires-clause-kept
put-requires-clause-kept g c =
    let r = c.requires in
    threaded_stay _ c.take.new.space.bytes.items _ c.take.ensures.kept
    (rw c.take.ensures.holes (M.same_mid _ (rw (← c.self.view_is) c.reveal_order.ensures.ordered) r.down r.new r.old r.free r.used c.min-apart.ensures (length _) r.inside
    c.take.ensures.bytes.long c.slide.ensures.bytes))

pub put-requires-clause-part : goal.put-requires-clause-part
put-requires-clause-part g c = let r = c.requires in rw c.take.ensures.range (M.part_put _ (rw (← c.self.view_is) c.reveal_order.ensures.ordered) r.down r.new r.old r.free r.used c.min-apart.ensures)

pub put-requires-clause-used : goal.put-requires-clause-used
put-requires-clause-used g c = let r = c.requires in rw c.take.ensures.holes (M.used_put _ (rw (← c.self.view_is) c.reveal_order.ensures.ordered) r.down r.new r.old r.free r.used c.min-apart.ensures)

-- the holes afterwards
once_put : (g : given.Over) (c : goal.After-put g) → c.put.new.self.holes ≡ joined (c.args.from + c.args.size - c.min-apart.result) (c.args.from + c.args.size - c.min-apart.result + c.min-apart.result) (taken c.args.to (c.args.to + c.min-apart.result) c.args.self.now.holes)
once_put g c = c.put.ensures.holes ∙ ap (joined _ _) c.take.ensures.holes

pub returns-else-at-from-clause-contents : goal.returns-else-at-from-clause-contents
returns-else-at-from-clause-contents g c =
    let r = c.requires in
    M.come_too _ (rw (← c.self.view_is) c.reveal_order.ensures.ordered) r.down r.new r.old r.free r.used c.min-apart.ensures
    _ r.inside c.take.ensures.bytes.long c.slide.ensures.bytes refl
    c.take.ensures.bytes
    (subst (λ hs. AreSameOutside hs c.slide.new.self.bytes.items c.put.new.space.bytes.items) (once_put g c) c.put.ensures.bytes)

pub returns-else-at-from-clause-bytes : goal.returns-else-at-from-clause-bytes
returns-else-at-from-clause-bytes g c =
    let r = c.requires in
    subst (λ hs. AreSameBut c.args.to c.args.size c.args.self.now.holes hs c.args.space.now.bytes.items c.put.new.space.bytes.items) (sym (once_put g c))
    (M.others_same _ (rw (← c.self.view_is) c.reveal_order.ensures.ordered) r.down r.new r.old r.free r.used c.min-apart.ensures
    _ r.inside c.take.ensures.bytes.long c.slide.ensures.bytes refl
    c.take.ensures.bytes
    (subst (λ hs. AreSameOutside hs c.slide.new.self.bytes.items c.put.new.space.bytes.items) (once_put g c) c.put.ensures.bytes))
