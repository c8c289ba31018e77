use Rattle.w16_global.proofs
use proofs.Common.{◌≡◌, true, false, sym, ◌∙◌, arith, refl, subst, IfSome}
use proofs.Owners.{handles_shown}
use proofs.Owning.{absent_in, found_is, known_handles, none_written, not_revived, own_size, revived, revived_written, where_none}
use Rattle.w16_model.specs.Law.{Revives}
use Rattle.w16_global.proofs.global.Global16.revive.Goals as goal

pub reallocate-requires-clause-some : goal.reallocate-requires-clause-some
reallocate-requires-clause-some g c = (own_size c.self.invariant (handles_shown c.self.view_is) _ c.in-Some-owned_at.owned c.in-Some-owned_at.ensures).0

pub reallocate-requires-clause-rounded : goal.reallocate-requires-clause-rounded
reallocate-requires-clause-rounded g c = (own_size c.self.invariant (handles_shown c.self.view_is) _ c.in-Some-owned_at.owned c.in-Some-owned_at.ensures).1

pub reallocate-requires-clause-small : goal.reallocate-requires-clause-small
reallocate-requires-clause-small g c = let small = (own_size c.self.invariant (handles_shown c.self.view_is) _ c.in-Some-owned_at.owned c.in-Some-owned_at.ensures).2 in omega (arith, small)

pub returns-in_default-clause-written : goal.returns-in_default-clause-written
returns-in_default-clause-written g c = none_written _ c.args.self.now.handles.heap

pub returns-in_default-owned_at-clause-written : goal.returns-in_default-owned_at-clause-written
returns-in_default-owned_at-clause-written g c = none_written _ c.args.self.now.handles.heap

pub returns-then-is_some-clause-written : goal.returns-then-is_some-clause-written
returns-then-is_some-clause-written g c = none_written _ c.args.self.now.handles.heap

pub reallocate-requires-clause-run : goal.reallocate-requires-clause-run
reallocate-requires-clause-run g c = subst (λ p. IfSome p (λ owned. owned.size ≡ c.in-Some-owned_at.owned.size)) c.in-Some-owned_at.ensures refl

pub returns-clause-revived : goal.returns-clause-revived
returns-clause-revived g c = λ answered. subst (λ slot. Revives c.args.self.now.handles slot true c.reallocate.new.self.handles) (sym (found_is c.args.self.now.handles _ _ c.in-Some.ensures))
    (revived _ (known_handles c.self.invariant (handles_shown c.self.view_is)) _
    c.in-Some-owned_at.owned (sym c.in-Some-owned_at.ensures)
    (absent_in c.self.inside.objects c.self.inside.attributes.items (handles_shown c.self.view_is) _ c.size.result c.size.ensures c.if-is_some.ensures)
    (own_size c.self.invariant (handles_shown c.self.view_is) _ c.in-Some-owned_at.owned c.in-Some-owned_at.ensures).2 _ c.reallocate.result c.reallocate.ensures.gets c.reallocate.ensures.resized (sym c.is_some-2.ensures ∙ answered))

pub returns-clause-lacks : goal.returns-clause-lacks
returns-clause-lacks g c = λ refused lacks. subst (λ slot. Revives c.args.self.now.handles slot false
    c.args.self.now.handles) (sym (found_is c.args.self.now.handles _ _ c.in-Some.ensures))
    (not_revived _ (known_handles c.self.invariant (handles_shown c.self.view_is)) _
    c.in-Some-owned_at.owned (sym c.in-Some-owned_at.ensures)
    (absent_in c.self.inside.objects c.self.inside.attributes.items (handles_shown c.self.view_is) _ c.size.result c.size.ensures c.if-is_some.ensures)
    c.reallocate.result c.reallocate.ensures.lacks (sym c.is_some-2.ensures ∙ refused))

pub returns-clause-refused : goal.returns-clause-refused
returns-clause-refused g c = λ refused. where_none c.reallocate.result c.reallocate.ensures.refused (sym c.is_some-2.ensures ∙ refused)

pub returns-clause-written : goal.returns-clause-written
returns-clause-written g c = revived_written c.args.self.now.handles (known_handles c.self.invariant (handles_shown c.self.view_is)) c.in-Some.slot c.in-Some-owned_at.owned (sym c.in-Some-owned_at.ensures)
    (absent_in c.self.inside.objects c.self.inside.attributes.items (handles_shown c.self.view_is) _ c.size.result c.size.ensures c.if-is_some.ensures)
    (own_size c.self.invariant (handles_shown c.self.view_is) _ c.in-Some-owned_at.owned c.in-Some-owned_at.ensures).2
    _ c.reallocate.new.self c.reallocate.result c.reallocate.ensures.gets c.reallocate.ensures.resized c.reallocate.ensures.written c.reallocate.ensures.refused
