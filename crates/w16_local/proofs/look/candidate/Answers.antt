use Rattle.std.proofs.Common.{Some, sym, ap, ◌∙◌, arith}
use Rattle.w16_local.proofs.Looks.{entry_candidate, place_candidate}
use Rattle.w16_local.proofs.look.candidate.Goals as goal

pub returns-then-name-eq2 : goal.returns-then-name-eq2
returns-then-name-eq2 g c bytes over id named = ap Some (entry_candidate over id c.args.name (let e = c.if-name-eq2.true in omega (arith, e)) named)

pub returns-else-name-eq2 : goal.returns-else-name-eq2
returns-else-name-eq2 g c bytes over id named = sym (c.id_at.ensures bytes over) ∙ place_candidate over id c.args.name (λ e. let other = c.if-name-eq2.false in omega (arith, other, e)) named
