use Rattle.w16_local.proofs.Common.{subst, sym, IsListed}
use Rattle.w16_local.proofs.Locals.{listed_last, listed_more}
use Rattle.w16_local.proofs.init.list_slot.Goals as goal

pub returns-then-lists-clause-listed : goal.returns-then-lists-clause-listed
returns-then-lists-clause-listed g c = subst (λ live. IsListed live c.args.slot) c.deref.ensures.value (c.lists.ensures c.if-lists.true)

pub returns-in_err-push-clause-kept : goal.returns-in_err-push-clause-kept
returns-in_err-push-clause-kept g c q listed = subst (λ live. IsListed live q) (sym c.in_err-push.ensures.items) listed

pub returns-clause-kept : goal.returns-clause-kept
returns-clause-kept g c q listed = subst (λ live. IsListed live q) (sym c.in_ok-push.ensures.items) (listed_more c.args.live.now.items c.args.slot q listed)

pub returns-clause-listed : goal.returns-clause-listed
returns-clause-listed g c = subst (λ live. IsListed live c.args.slot) (sym c.in_ok-push.ensures.items) (listed_last c.args.live.now.items c.args.slot)
