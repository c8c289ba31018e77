-- What was taken out of its place is put back.
use Rattle.w16_loader.proofs.Common.{◌≡◌, ℕ, List, None, Some, get_or, set, ap, ◌∙◌, set-get_or}
use Rattle.std.proofs.lemmas.List.{set-set}
use Rattle.w16_loader.proofs.table.take_module.Goals as goal

put_back : {X : Type 0} (old taken new : List X) (place : ℕ) (x none : X) → new ≡ set taken place x → taken ≡ set old place none → x ≡ get_or old place none → new ≡ old
put_back old taken new place x none is was same = is ∙ ap (λ l. set l place x) was ∙ set-set old place none x ∙ ap (set old place) same ∙ set-get_or old place none

pub returns-in-Some-clause-none : goal.returns-in-Some-clause-none
returns-in-Some-clause-none g c = put_back _ c.take.new.self _ c.args.place (Some _) None c.put.ensures c.take.ensures.left c.in-Some.ensures.taken
