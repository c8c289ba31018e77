use Rattle.w16_global.proofs.Common.{rules, ◌≡◌, ◌+◌, ◌<◌, ◌≤◌, sym, subst, option_map, Option, Some, None, Item, Owner, IsFirstItem, IsItem, Handles, handle_of}
use Rattle.w16_global.proofs.{Walked.renamed, Walked.first_renamed, Walked.apart_renamed, Owners.handles_shown}
use Rattle.w16_global.proofs.global.Global16.walk_from.Goals as goal

pub returns-in_err-item-clause-found : goal.returns-in_err-item-clause-found
returns-in_err-item-clause-found g c =
    subst (IsFirstItem _ _ _) (sym c.from_residual.ensures)
    (subst (λ w. IsFirstItem handle_of w.heap c.args.from None) (handles_shown c.self.view_is)
    (first_renamed _ _ None c.in_err-item.ensures.found))

pub returns-clause-found : goal.returns-clause-found
returns-clause-found g c =
    let item = c.in_ok-item.item in
    let named : option_map (λ (o : Owner). record o { name = handle_of o.kind o.name }) item.owner ≡ c.map.result = search rules in
    subst (λ owner. IsFirstItem handle_of c.args.self.now.handles.heap c.args.from (Some (record item { owner = owner }))) named
    (subst (λ w. IsFirstItem handle_of w.heap c.args.from (Some (renamed item))) (handles_shown c.self.view_is)
    (first_renamed c.self.inside.objects.heap c.args.from (Some item) c.in_ok-item.ensures.found))

pub returns-clause-apart : goal.returns-clause-apart
returns-clause-apart g c =
    let item = c.in_ok-item.item in
    subst (λ w. (other : Item) → IsItem handle_of w.heap other → item.at < other.at → item.at + item.size ≤ other.at) (handles_shown c.self.view_is)
    (apart_renamed _ _ _ c.in_ok-item.ensures.apart)
