use Rattle.std.proofs.Common.{None, Some, sym, ap, ◌∙◌, arith}
use Rattle.w16_local.proofs.Looks.{named_here, named_none, none_some, not_named, some_other}
use Rattle.w16_local.proofs.look.id_named.Goals as goal

pub returns-in_err-id : goal.returns-in_err-id
returns-in_err-id g c bytes over = named_none over c.args.name (λ id e. none_some (c.in_err-id.ensures bytes over id e)) ∙ sym c.from_residual.ensures

pub returns-in_err-found : goal.returns-in_err-found
returns-in_err-found g c bytes over = not_named over c.args.name c.in_ok-id.id (c.in_ok-id.ensures bytes over) None (c.in_err-found.ensures bytes over) none_some ∙ sym c.from_residual-in_err-found.ensures

pub returns-then-found-name : goal.returns-then-found-name
returns-then-found-name g c bytes over = named_here over c.args.name c.in_ok-id.id (c.in_ok-found.ensures bytes over ∙ ap Some (let e = c.if-found-name.true in omega (arith, e)))

pub returns-else-found-name : goal.returns-else-found-name
returns-else-found-name g c bytes over =
    not_named over c.args.name c.in_ok-id.id (c.in_ok-id.ensures bytes over) (Some c.in_ok-found.found) (c.in_ok-found.ensures bytes over) (some_other (λ e. let other = c.if-found-name.false in omega (arith, other, e)))
