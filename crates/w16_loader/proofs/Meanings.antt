-- What a name means is there.
use Rattle.w16_loader.proofs.Common as C
use Rattle.w16_loader.proofs.Common.{◌≡◌, ℕ, ◌<◌, inl, inr, Bool, true, false, cond, List, [], ◌∷◌, length, map, Option, Some, None, option_map, Ok, Err, IfOk, refl, sym, ap, ◌∙◌, arith, position_or_len, Member, is_named, Named, name_of, handle_named, There, New, Found, found_in}
use Rattle.w16_loading.specs.Answers.{Answers}
use Rattle.std.specs.List.{find}
use Rattle.std.specs.FinMap as finmap
use Rattle.w16_loading.specs.Closure as closing
use Rattle.w16_loader.specs.declared.found.Referent.TheVariants as refers
use Rattle.w16_loader.specs.declared.found.Reading.TheVariants as makes

there_named : (modules : C.Modules) (name : List ℕ) (handle : ℕ) → handle_named modules name ≡ Some handle → (n : Named) × (finmap.get modules handle ≡ Some n)
there_named modules name handle e = found (find (λ x. is_named _ name) _) refl e
  where
    member : (p : ℕ × Named → Bool) (xs : List (ℕ × Named)) (x : ℕ × Named) → find p xs ≡ Some x → Member x xs
    member p [] x e = cc
    member p (y ∷ xs) x e = turn (p y) e (λ f. member p xs x f)
      where
        turn : (b : Bool) → cond b (Some y) (find p xs) ≡ Some x → (find p xs ≡ Some x → Member x xs) → Member x (y ∷ xs)
        turn true e rest = let same : y ≡ x = cc in inl (sym same)
        turn false e rest = inr (rest e)

    found : (p : Option (ℕ × Named)) → find (λ x. is_named (name_of x.1) name) (finmap.entries modules) ≡ p → option_map (λ x. x.0) p ≡ Some handle → (n : Named) × (finmap.get modules handle ≡ Some n)
    found None f e = cc
    found (Some x) f e = let same : x.0 ≡ handle = cc in (x.1, ap (finmap.get modules) (sym same) ∙ C.entry_there modules x.0 x.1 (member (λ (x : ℕ × Named). is_named _ name) _ x f))

position_within : {X : Type 0} (p : X → Bool) (xs : List X) (place : ℕ) → C.position p xs ≡ Some place → place < length xs
position_within p xs place e = turn _ refl e
  where
    turn : (b : Bool) → C.nat_lt (position_or_len p xs) (length xs) ≡ b → cond b (Some (position_or_len p xs)) None ≡ Some place → place < length xs
    turn true t e = let same : position_or_len p xs ≡ place = cc in let lt : position_or_len p xs < length xs = C.ltb-true _ _ t in omega (arith, same, lt)
    turn false t e = cc

module _ {A : Type 0} (modules : C.Modules) (found : List (Found A)) where
  abbrev place_of : List ℕ → Option ℕ
  place_of name = C.position (λ (f : closing.Found). is_named f.read.tables.name name) (map (found_in []) found)

  handle_there : (name : List ℕ) (handle : ℕ) (p r : Option ℕ) → handle_named modules name ≡ p → C.option_or (option_map There p) (option_map New r) ≡ Some (There handle) → (n : Named) × (finmap.get modules handle ≡ Some n)
  handle_there name handle (Some h) r at e = let same : h ≡ handle = cc in there_named modules name handle (at ∙ ap Some same)
  handle_there name handle None (Some q) at e = cc
  handle_there name handle None None at e = cc

  place_there : (name : List ℕ) (place : ℕ) (p r : Option ℕ) → place_of name ≡ r → C.option_or (option_map There p) (option_map New r) ≡ Some (New place) → place < length found
  place_there name place (Some h) r at e = cc
  place_there name place None (Some q) at e =
      let same : q ≡ place = cc in
      let lt : q < length (map (found_in []) found) = position_within (λ (f : closing.Found). is_named f.read.tables.name name) (map (found_in []) found) q at in
      omega (arith, lt, same, C.length-map found (found_in []))
  place_there name place None None at e = cc

  module _ (answers : Answers) (name : List ℕ) where
    is_there : (r : C.Reading A) → C.MakesOf answers modules found name r → C.IsThere modules found r
    is_there (makes.Meant (refers.There handle)) h = handle_there h.0.name handle (handle_named modules h.0.name) (place_of h.0.name) refl h.2
    is_there (makes.Meant (refers.New place)) h = place_there h.0.name place (handle_named modules h.0.name) (place_of h.0.name) refl h.2
    is_there (makes.Read tables) h = tt

    pub all_there : (IsRefused : C.LoadFault → Type 0) (r : C.Result (C.Reading A) C.LoadFault) → C.MatchResult r (C.MakesOf answers modules found name) IsRefused → IfOk r (C.IsThere modules found)
    all_there IsRefused (Ok made) h = is_there made h
    all_there IsRefused (Err fault) h = tt
