use Rattle.w16_global.proofs.Common.{refl, sym, ap, ◌∙◌, subst}
use Rattle.w16_global.specs.Loans.{IsPlaceIn, lent_bytes, after_loan}
use Rattle.w16_global.proofs.Loans.{loan_joined}
use Rattle.w16_global.proofs.global.Global16.bytes_mut.Goals as goal

pub lend-requires : goal.lend-requires
lend-requires g c = subst (λ v. IsPlaceIn v.handles c.args.place) (sym c.self.view_is) c.requires

pub invariant_of-self-lent : goal.invariant_of-self-lent
invariant_of-self-lent g c = loan_joined c.self.invariant c.args.place.slot c.args.place.at c.args.place.count (subst (λ v. IsPlaceIn v.handles c.args.place) (sym c.self.view_is) c.requires)

pub returns : goal.returns
returns g c = ((refl, λ w. ap (λ v. after_loan c.args.place v w) c.self.view_is), record { value = c.lend.ensures.value ∙ ap (λ v. lent_bytes v.handles c.args.place) c.self.view_is; writes_back = tt })
