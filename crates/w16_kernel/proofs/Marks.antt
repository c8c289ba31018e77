-- Ways from one module to another.
use Rattle.std.proofs.lemmas.List as M
use Rattle.std.proofs.Common as S
use Rattle.w16_loading.proofs.Common.{◌≡◌, ℕ, Bool, true, false, List, [], ◌∷◌, Option, Some, refl, sym, ◌∙◌, subst, arith, cases_eq, inl, inr, Modules}
use Rattle.std.specs.Prelude.{IfSome}
use Rattle.w16_kernel.specs.Marks.{RefersBy, refers_to}
use Rattle.std.proofs.lemmas.Bool.{cases_lt}

-- what leads to a module leads to those that it refers to
lead_on : (modules : Modules) (way : List ℕ) (a b c : ℕ) → RefersBy modules way a b → refers_to modules b c ≡ true → (longer : List ℕ) × RefersBy modules longer a c
lead_on modules [] a b c l r = (c ∷ [], (subst (λ q. refers_to modules q c ≡ true) (sym l) r, refl))
lead_on modules (n ∷ way) a b c l r = let rest = lead_on modules way n b c l.1 r in (n ∷ rest.0, (l.0, rest.1))

-- What is on a way is its end, or leads there.
abbrev pub LeadThere : Modules → List Bool → Option ℕ → Type 0
LeadThere modules way end = (other : ℕ) → S.get_or way other false ≡ true → (last : ℕ) × (end ≡ Some last) × (path : List ℕ) × RefersBy modules path other last

pub next_there : (modules : Modules) (way : List Bool) (end : Option ℕ) (next : ℕ) → IfSome end (λ last. refers_to modules last next ≡ true)
    → LeadThere modules way end → LeadThere modules (S.set way next true) (Some next)
next_there modules way end next refers there other t = elim (cases_eq other next) [
  | inl e ↦ (next, refl, [], e)
  | inr d ↦
      let l = there other (sym (M.get_or-set_other way next other true false d) ∙ t) in
      let more = lead_on modules l.2 other l.0 next l.3 (subst (λ o. IfSome o (λ last. refers_to modules last next ≡ true)) l.1 refers) in
      (next, refl, more.0, more.1)
]

-- nothing is on it at first
pub none_on : (n other : ℕ) → S.get_or (S.replicate n false) other false ≡ false
none_on n other = elim (cases_lt other n) [
  | inl lt ↦ M.get_or-replicate n other false false lt
  | inr past ↦ M.get_or_past (S.replicate n false) other false
      (omega (arith, M.length-replicate n false, past))
]
