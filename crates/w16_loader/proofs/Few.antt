-- A load finds modules after those that it had, and no more than handles are free.
use Rattle.w16_loader.proofs.Common as C
use Rattle.w16_loader.proofs.Common.{◌≡◌, ℕ, ◌<◌, ◌+◌, inl, inr, List, [], ◌∷◌, ◌++◌, length, sym, ap, ◌∙◌, subst, arith, dll, Found, Followed, FindsFew, found_after}
use Rattle.w16_loading.specs.Answers.{Answers}
use Rattle.w16_loader.specs.declared.closure.Followed.TheVariants as leads

module _ {A : Type 0} (modules : C.Modules) where
  pub few_same : (found : List (Found A)) → FindsFew modules found found
  few_same found = record { since = []; kept = sym (C.append-nil found); few = λ most free le. le }

  pub few_through : (a b c : List (Found A)) → FindsFew modules a b → FindsFew modules b c → FindsFew modules a c
  few_through a b c f g = record {
    since = f.since ++ g.since;
    kept = g.kept ∙ ap (λ xs. xs ++ g.since) f.kept ∙ C.append_assoc a f.since g.since;
    few = λ most free le. g.few most free (f.few most free le);
  }

  one_more : (found : List (Found A)) (f : Found A) → length found < C.free_modules modules → FindsFew modules found (found ++ f ∷ [])
  one_more found f lt = record {
    since = f ∷ [];
    kept = λ i. found ++ f ∷ [];
    few = λ most free le. (let more : length (found ++ f ∷ []) ≡ length found + 1 = C.length-append found (f ∷ []) in omega (arith, more, lt, free));
  }

  by_name : (found : List (Found A)) (name : List ℕ) (f : Followed A) → C.LeadsByName modules found name f → FindsFew modules found (found_after found f)
  by_name found name (leads.Meant referent) h = few_same found
  by_name found name (leads.New f) h = absurd h

  by_file : (answers : Answers) (found : List (Found A)) (file : List ℕ) (f : Followed A) → C.LeadsByAnswer answers modules found file f → FindsFew modules found (found_after found f)
  by_file answers found file (leads.Meant referent) h = few_same found
  by_file answers found file (leads.New f) h = one_more found f h.1.2

  pub few_to : (answers : Answers) (found : List (Found A)) (name : List ℕ) (f : Followed A) → C.LeadsTo answers modules found name f → (new : List (Found A)) → new ≡ found_after found f → FindsFew modules found new
  few_to answers found name f h new same = subst (FindsFew modules found) (sym same) (elim h [ inl k ↦ by_name found name f k | inr k ↦ by_file answers found (dll name) f k.1 ])

pub few_after : {A : Type 0} (answers : Answers) (modules : C.Modules) (found : List (Found A)) (name : List ℕ) (f : Followed A) → C.LeadsTo answers modules found name f → (new : List (Found A)) → new ≡ found_after found f → FindsFew modules found new
few_after answers modules = few_to modules answers
