use Rattle.w16_global.proofs.Common.{sym, ap, ◌∙◌, subst}
use Rattle.w16_global.specs.Loans.{IsPlaceIn, lent_bytes}
use Rattle.w16_global.proofs.global.Global16.bytes.Goals as goal

pub part-requires : goal.part-requires
part-requires g c = subst (λ v. IsPlaceIn v.handles c.args.place) (sym c.self.view_is) c.requires

pub returns : goal.returns
returns g c = c.part.ensures ∙ ap (λ v. lent_bytes v.handles c.args.place) c.self.view_is
