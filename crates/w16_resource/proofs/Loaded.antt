-- What a load of a resource comes to.
use Rattle.w16_resource.proofs
use proofs.Common as C
use proofs.Common.{IsFreeSlot, LoadingWorld, MatchOption, None, Option, Some, false, subst, sym, true, ℕ, ◌≡◌, ◌⊎◌, MatchBool}
use proofs.Common.{Resource, Reply, AnswersNone, LoadsResource, is_too_long, load_of, resource_at}
use Rattle.w16_loading.specs.Modules as loading

-- The cases of a load, by what is looked up.
module _ (F : C.Fetching) (old : LoadingWorld) (handle place : ℕ) (reply : Reply) (new : LoadingWorld) where
  abbrev Made : Resource → Option (ℕ × loading.Load) → Type 0
  Made r p = MatchOption p ((((slot : ℕ) → IsFreeSlot old.handles slot → ⊥) × AnswersNone old reply new) ⊎ C.LoadsNewResource F old handle place r reply new)
      (λ x. (reply, new) ≡ C.loaded_again old r x)

  pub no_resource : resource_at old handle place ≡ None → AnswersNone old reply new → LoadsResource F old handle place reply new
  no_resource e h = subst (λ p. MatchOption p (AnswersNone old reply new) (λ r. MatchBool (is_too_long r) (AnswersNone old reply new) (Made r (load_of old handle place)))) (sym e) h

  pub long_resource : (r : Resource) → resource_at old handle place ≡ Some r → is_too_long r ≡ true → AnswersNone old reply new → LoadsResource F old handle place reply new
  long_resource r e long h = subst (λ p. MatchOption p (AnswersNone old reply new) (λ r. MatchBool (is_too_long r) (AnswersNone old reply new) (Made r (load_of old handle place)))) (sym e)
      (subst (λ b. MatchBool b (AnswersNone old reply new) (Made r (load_of old handle place))) (sym long) h)

  pub made_resource : (r : Resource) → resource_at old handle place ≡ Some r → is_too_long r ≡ false → (p : Option (ℕ × loading.Load))
      → load_of old handle place ≡ p → Made r p → LoadsResource F old handle place reply new
  made_resource r e short p f h = subst (λ p. MatchOption p (AnswersNone old reply new) (λ r. MatchBool (is_too_long r) (AnswersNone old reply new) (Made r (load_of old handle place)))) (sym e)
      (subst (λ b. MatchBool b (AnswersNone old reply new) (Made r (load_of old handle place))) (sym short) (subst (Made r) (sym f) h))
