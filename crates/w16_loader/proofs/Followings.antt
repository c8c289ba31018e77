-- What the code has reached, reference by reference.
use Rattle.w16_loader.proofs
use proofs.Common as C
use proofs.Common.{◌≡◌, ℕ, zero, suc, ◌+◌, ◌-◌, ◌<◌, ◌≤◌, List, [], ◌∷◌, ◌++◌, length, Some, refl, sym, ap, subst, arith, slice_get, New, Found, references_at}
use proofs.Files.{there}
use Rattle.w16_loader.specs.declared.closure.Followed.TheVariants as leads
use Rattle.std.specs.FinMap as finmap

-- a module that has references is there
pub indexed : {A : Type 0} (found : List (Found A)) (place number : ℕ) (f : Found A) → 0 < number → number ≤ length (references_at found place) → f ≡ C.slice_index_or found place f
    → (slice_get found place ≡ Some f) × (number ≤ length f.module.references)
indexed [] place number f some le e = absurd (omega (arith, some, le))
indexed (g ∷ gs) zero number f some le e = (ap Some (sym e), subst (λ h. number ≤ length h.module.references) (sym e) le)
indexed (g ∷ gs) (suc place) number f some le e = indexed gs place number f some le e

-- a new module comes after those that are there
same_at : {A : Type 0} (found : List (Found A)) (place : ℕ) (f g : Found A) → slice_get found place ≡ Some f → references_at (found ++ g ∷ []) place ≡ references_at found place
same_at [] place f g e = cc
same_at (x ∷ xs) zero f g e = refl
same_at (x ∷ xs) (suc place) f g e = same_at xs place f g e

pub same_after : {A : Type 0} (found : List (Found A)) (place : ℕ) (f : Found A) (followed : C.Followed A) → slice_get found place ≡ Some f → references_at (C.found_after found followed) place ≡ references_at found place
same_after found place f (leads.Meant referent) e = refl
same_after found place f (leads.New g) e = same_at found place f g e

-- no more handles are free than there are
pub few_free : (modules : C.Modules) → C.free_modules modules ≤ C.MOST_MODULES
few_free modules = less _ _
  where
    less : (m n : ℕ) → m - n ≤ m
    less m n = omega arith
