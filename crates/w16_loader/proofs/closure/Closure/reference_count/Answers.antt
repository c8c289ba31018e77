-- The references of a module that is there are counted.
use Rattle.w16_loader.proofs.Common.{◌≡◌, ℕ, ◌≤◌, List, [], None, Some, length, slice_get, refl, sym, ap, ◌∙◌, subst, Found}
use Rattle.std.proofs.lemmas.Option.{slice_get_past, slice_get_read}
use Rattle.w16_loader.specs.Following.{references_at}
use Rattle.w16_loader.proofs.closure.Closure.reference_count.Goals as goal

none : {A : Type 0} (found : List (Found A)) (place : ℕ) → length found ≤ place → 0 ≡ length (references_at found place)
none found place past = ap (λ o. length (elim o as (λ _. List (List ℕ)) [ None ↦ [] | Some f ↦ f.module.references ])) (sym (slice_get_past found place past))

some : {A : Type 0} (found : List (Found A)) (place n : ℕ) (f : Found A) → slice_get found place ≡ Some f → n ≡ length f.module.references → n ≡ length (references_at found place)
some found place n f at many = many ∙ ap (λ o. length (elim o as (λ _. List (List ℕ)) [ None ↦ [] | Some f ↦ f.module.references ])) (sym at)

pub returns-in-None : goal.returns-in-None
returns-in-None g c = subst (λ found. 0 ≡ length (references_at found c.args.place)) c.deref.ensures.value (none c.deref.result.now c.args.place c.in-None.ensures.lookup.3)

pub returns-in-Some : goal.returns-in-Some
returns-in-Some g c = subst (λ found. c.reference_count.result ≡ length (references_at found c.args.place)) c.deref.ensures.value
    (some c.deref.result.now c.args.place _ c.in-Some.found.now
    (slice_get_read c.deref.result.now _ c.args.place _ refl c.in-Some.ensures.lookup.3.0 c.in-Some.ensures.lookup.1) c.reference_count.ensures)
