-- A world stays one where its modules keep their slots and tables, names stay different, and each module stays in use.
use Rattle.w16_loading.proofs
use proofs.Common.{◌≡◌, ◌≢◌, ℕ, zero, suc, ◌+◌, ◌<◌, ◌≤◌, inl, inr, ◌⊎◌, Bool, true, false, cond, List, [], ◌∷◌, Option, Some, None, IfSome, option_map, refl, sym, ap, ◌∙◌, subst, arith, find, false≢true, cases_eq, Member, inserted_here, inserted_other, is_named, MOST_USES, LoadingWorld}
use proofs.Common.{Module, Modules, Named, IsFreeModule, name_of, handle_named, module_at, module_in, imports, importers, usage, usage_with, Loaded, BuiltIn, after_use, IsLoadingWorld, IsModule}
use proofs.Given.{named_back, loaded_is}
use proofs.Worlds.{SameModule, IsNumber, AreNamesApart, is_load, owner_stays, follows}
use proofs.Importers.{HasImporter, importer_of, of_importer, there_entry}
use Rattle.std.specs.FinMap as finmap

module _ (old : LoadingWorld) (is : IsLoadingWorld old) (modules : Modules)
    (numbers : (handle : ℕ) → IfSome (finmap.get modules handle) (λ _. IsNumber handle))
    (names : AreNamesApart modules)
    (sources : (handle : ℕ) (m : Module) → module_at modules handle ≡ Some m → (before : Module) × (module_at old.modules handle ≡ Some before) × SameModule m before)
    (stays : (handle : ℕ) (before : Module) → module_at old.modules handle ≡ Some before → (m : Module) × (module_at modules handle ≡ Some m) × SameModule m before)
    (used : (handle : ℕ) (m : Module) → module_at modules handle ≡ Some m → (0 < usage modules handle) × (m.uses ≤ MOST_USES)) where
  abbrev new : LoadingWorld
  new = record old { modules = modules }

  pub module_world : IsLoadingWorld new
  module_world = follows old new is (record {
    handles = is.handles;
    numbers = numbers;
    names = names;
    sources = sources;
    used = used;
    loads = λ slot load e. (load.loads, e, (is_load old is slot load e).0, (is_load old is slot load e).1);
    still = λ slot load before at e. stays load.handle before e;
    of_segments = λ handle m slot kind size code e k h. record { object = h.object; owned = h.owned };
    of_loads = λ slot load kind size code e h. record { object = h.object; owned = h.owned };
    owners = owner_stays old is new stays (λ slot load e. (load.loads, e));
  })

-- Uses.

-- importers stay where what each handle names stays, with its imports
pub importers_stay : (old new : Modules) (handle : ℕ) → ((who : ℕ) (n : Named) → finmap.get old who ≡ Some n → (now : Named) × (finmap.get new who ≡ Some now) × (imports now handle ≡ imports n handle)) → HasImporter old handle → HasImporter new handle
importers_stay old new handle stays h =
    let now = stays _ _ h.there in
    record { who = h.who; importer = now.0; there = now.1; other = h.other; uses = now.2 ∙ h.uses }

-- and so does a use
pub still_used : (old new : Modules) (handle uses more : ℕ) → uses ≤ more → (HasImporter old handle → HasImporter new handle) → 0 < uses + importers old handle → 0 < more + importers new handle
still_used old new handle uses more le stays lt = turn _ refl
  where
    turn : (n : ℕ) → importers old handle ≡ n → 0 < more + importers new handle
    turn zero e = omega (arith, lt, le, e)
    turn (suc n) e = let some = of_importer new _ (stays (importer_of old _ (omega (arith, e)))) in omega (arith, some)

-- One use more.
module _ (old : LoadingWorld) (is : IsLoadingWorld old) (handle : ℕ) (m : Module) (there : finmap.get old.modules handle ≡ Some (Loaded m)) (few : m.uses < MOST_USES) where
  abbrev more : Module
  more = record m { uses = m.uses + 1 }

  abbrev modules : Modules
  modules = finmap.insert old.modules handle (Loaded more)

  -- what a handle names now, it named with the same name and imports
  named_before : (a : ℕ) (n : Named) → finmap.get modules a ≡ Some n → (before : Named) × (finmap.get old.modules a ≡ Some before) × (name_of n ≡ name_of before)
  named_before a n e = elim (cases_eq a handle) [
    | inl same ↦ (Loaded m, ap (finmap.get old.modules) same ∙ there, name (sym e ∙ inserted_here old.modules handle (Loaded more) a same))
    | inr other ↦ (n, sym (inserted_other old.modules handle (Loaded more) a other) ∙ e, refl)
  ]
    where
      name : Some n ≡ Some (Loaded more) → name_of n ≡ m.tables.name
      name e = let f : n ≡ Loaded more = cc in ap name_of f

  named_after : (k a : ℕ) (n : Named) → finmap.get old.modules a ≡ Some n → (now : Named) × (finmap.get modules a ≡ Some now) × (imports now k ≡ imports n k)
  named_after k a n e = elim (cases_eq a handle) [
    | inl same ↦ (Loaded more, inserted_here old.modules handle (Loaded more) a same, alike (sym e ∙ ap (finmap.get old.modules) same ∙ there))
    | inr other ↦ (n, inserted_other old.modules handle (Loaded more) a other ∙ e, refl)
  ]
    where
      alike : Some n ≡ Some (Loaded m) → imports (Loaded more) k ≡ imports n k
      alike e = let f : n ≡ Loaded m = cc in ap (λ (x : Named). imports x k) (sym f)

  numbers : (h : ℕ) → IfSome (finmap.get modules h) (λ _. IsNumber h)
  numbers h = turn (finmap.get modules h) refl
    where
      turn : (p : Option Named) → finmap.get modules h ≡ p → IfSome p (λ _. IsNumber h)
      turn None e = tt
      turn (Some n) e = let b : (before : Named) × (finmap.get old.modules h ≡ Some before) × (name_of n ≡ name_of before) = named_before h n e in
          subst (λ p. IfSome p (λ _. IsNumber h)) b.1 (is.numbers h)

  names : AreNamesApart modules
  names a b x y e f t =
      let u : (before : Named) × (finmap.get old.modules a ≡ Some before) × (name_of x ≡ name_of before) = named_before a x e in
      let v : (before : Named) × (finmap.get old.modules b ≡ Some before) × (name_of y ≡ name_of before) = named_before b y f in
      is.names a b u.0 v.0 u.1 v.1 (subst (λ s. is_named s (name_of v.0) ≡ true) u.2 (subst (λ s. is_named (name_of x) s ≡ true) v.2 t))

  sources : (h : ℕ) (n : Module) → module_at modules h ≡ Some n → (before : Module) × (module_at old.modules h ≡ Some before) × SameModule n before
  sources h n e = elim (cases_eq h handle) [
    | inl same ↦ (m, ap (module_at old.modules) same ∙ ap module_in there, alike (sym e ∙ ap module_in (inserted_here old.modules handle (Loaded more) h same)))
    | inr other ↦ (n, ap module_in (sym (inserted_other old.modules handle (Loaded more) h other)) ∙ e, record { slots = refl; tables = refl })
  ]
    where
      alike : Some n ≡ Some more → SameModule n m
      alike e = let f : n ≡ more = cc in record { slots = ap (λ (x : Module). x.slots) f; tables = ap (λ (x : Module). x.tables) f }

  stays : (h : ℕ) (before : Module) → module_at old.modules h ≡ Some before → (n : Module) × (module_at modules h ≡ Some n) × SameModule n before
  stays h before e = elim (cases_eq h handle) [
    | inl same ↦ (more, ap module_in (inserted_here old.modules handle (Loaded more) h same), alike (sym e ∙ ap (module_at old.modules) same ∙ ap module_in there))
    | inr other ↦ (before, ap module_in (inserted_other old.modules handle (Loaded more) h other) ∙ e, record { slots = refl; tables = refl })
  ]
    where
      alike : Some before ≡ Some m → SameModule more before
      alike e = let f : before ≡ m = cc in record { slots = ap (λ (x : Module). x.slots) (sym f); tables = ap (λ (x : Module). x.tables) (sym f) }

  used : (h : ℕ) (n : Module) → module_at modules h ≡ Some n → (0 < usage modules h) × (n.uses ≤ MOST_USES)
  used h n e = elim (cases_eq h handle) [
    | inl same ↦ here same (sym e ∙ ap module_in (inserted_here old.modules handle (Loaded more) h same))
    | inr other ↦ elsewhere other
  ]
    where
      here : h ≡ handle → Some n ≡ Some more → (0 < usage modules h) × (n.uses ≤ MOST_USES)
      here same e =
          let f : n ≡ more = cc in
          let some : 0 < m.uses + 1 + importers modules h = omega arith in (
            subst (λ p. 0 < usage_with p (importers modules h)) (sym (inserted_here old.modules handle (Loaded more) h same)) some,
            subst (λ (x : Module). x.uses ≤ MOST_USES) (sym f) (omega (arith, few)),
          )

      elsewhere : h ≢ handle → (0 < usage modules h) × (n.uses ≤ MOST_USES)
      elsewhere other =
          let at : finmap.get old.modules h ≡ Some (Loaded n) = loaded_is (finmap.get old.modules h) n (ap module_in (sym (inserted_other old.modules handle (Loaded more) h other)) ∙ e) in
          let sound : IsModule old h n = subst (λ p. IfSome (module_in p) (IsModule old h)) at (is.modules h) in
          let lt : 0 < n.uses + importers old.modules h = subst (λ p. 0 < usage_with p (importers old.modules h)) at sound.used in (
            subst (λ p. 0 < usage_with p (importers modules h)) (sym (inserted_other old.modules handle (Loaded more) h other ∙ at))
                (still_used old.modules modules h n.uses n.uses (omega arith) (importers_stay old.modules modules h (named_after h)) lt),
            sound.full,
          )

  pub used_world : IsLoadingWorld (after_use old handle m)
  used_world = module_world old is modules numbers names sources stays used

-- Names.

-- what no entry has, none is found for
pub find_none : {X : Type 0} (p : X → Bool) (xs : List X) → find p xs ≡ None → (x : X) → Member x xs → p x ≡ false
find_none p [] e x m = absurd m
find_none p (y ∷ xs) e x m = turn _ refl e (λ f. find_none p xs f x) m
  where
    turn : (b : Bool) → p y ≡ b → cond b (Some y) (find p xs) ≡ None → (find p xs ≡ None → Member x xs → p x ≡ false) → Member x (y ∷ xs) → p x ≡ false
    turn true t e rest m = cc
    turn false t e rest (inl same) = ap p same ∙ t
    turn false t e rest (inr m) = rest e m

pub not_named : (modules : Modules) (name : List ℕ) → handle_named modules name ≡ None → (handle : ℕ) (n : Named) → finmap.get modules handle ≡ Some n → is_named (name_of n) name ≡ false
not_named modules name e handle n there = find_none (λ x. is_named _ _) _ (none (find (λ x. is_named _ _) _) e) (handle, n) (there_entry _ _ n there)
  where
    none : (p : Option (ℕ × Named)) → option_map (λ x. x.0) p ≡ None → p ≡ None
    none None e = refl
    none (Some x) e = cc

-- A built-in.
module _ (old : LoadingWorld) (is : IsLoadingWorld old) (handle : ℕ) (name : List ℕ) (free : IsFreeModule old.modules handle) (unnamed : handle_named old.modules name ≡ None) where
  abbrev with_built_in : Modules
  with_built_in = finmap.insert old.modules handle (BuiltIn name)

  some_not_none : (n : Named) → ◌≡◌ {A = Option Named} None (Some n) → ⊥
  some_not_none n e = cc

  built_numbers : (h : ℕ) → IfSome (finmap.get with_built_in h) (λ _. IsNumber h)
  built_numbers h = elim (cases_eq h handle) [
    | inl same ↦ subst (λ p. IfSome p (λ _. IsNumber h)) (sym (inserted_here old.modules handle (BuiltIn name) h same)) (subst IsNumber (sym same) (free.0, free.1))
    | inr other ↦ subst (λ p. IfSome p (λ _. IsNumber h)) (sym (inserted_other old.modules handle (BuiltIn name) h other)) (is.numbers h)
  ]

  -- what a handle names: the built-in, or what it named
  now : (a : ℕ) (n : Named) → finmap.get with_built_in a ≡ Some n → ((a ≡ handle) × (n ≡ BuiltIn name)) ⊎ (finmap.get old.modules a ≡ Some n)
  now a n e = elim (cases_eq a handle) [
    | inl same ↦ inl (same, is_built_in (sym e ∙ inserted_here old.modules handle (BuiltIn name) a same))
    | inr other ↦ inr (sym (inserted_other old.modules handle (BuiltIn name) a other) ∙ e)
  ]
    where
      is_built_in : Some n ≡ Some (BuiltIn name) → n ≡ BuiltIn name
      is_built_in e = cc

  built_names : AreNamesApart with_built_in
  built_names a b x y e f t = turn (now a x e) (now b y f)
    where
      turn : ((a ≡ handle) × (x ≡ BuiltIn name)) ⊎ (finmap.get old.modules a ≡ Some x) → ((b ≡ handle) × (y ≡ BuiltIn name)) ⊎ (finmap.get old.modules b ≡ Some y) → a ≡ b
      turn (inl u) (inl v) = u.0 ∙ sym v.0
      turn (inl u) (inr v) = absurd (false≢true (sym (not_named old.modules name unnamed b y v) ∙ named_back name (name_of y) (subst (λ (n : Named). is_named (name_of n) (name_of y) ≡ true) u.1 t)))
      turn (inr u) (inl v) = absurd (false≢true (sym (not_named old.modules name unnamed a x u) ∙ subst (λ (n : Named). is_named (name_of x) (name_of n) ≡ true) v.1 t))
      turn (inr u) (inr v) = is.names a b x y u v t

  none_there : (h : ℕ) (m : Module) → h ≡ handle → module_at old.modules h ≡ Some m → ⊥
  none_there h m same e = no (sym (ap module_in (ap (finmap.get old.modules) same ∙ free.2)) ∙ e)
    where
      no : ◌≡◌ {A = Option Module} None (Some m) → ⊥
      no e = cc

  loaded_now : (h : ℕ) (m : Module) → module_at with_built_in h ≡ Some m → (h ≢ handle) × (module_at old.modules h ≡ Some m)
  loaded_now h m e = elim (cases_eq h handle) [
    | inl same ↦ absurd (no (sym (ap module_in (inserted_here old.modules handle (BuiltIn name) h same)) ∙ e))
    | inr other ↦ (other, ap module_in (sym (inserted_other old.modules handle (BuiltIn name) h other)) ∙ e)
  ]
    where
      no : ◌≡◌ {A = Option Module} None (Some m) → ⊥
      no e = cc

  named_still : (k a : ℕ) (n : Named) → finmap.get old.modules a ≡ Some n → (now : Named) × (finmap.get with_built_in a ≡ Some now) × (imports now k ≡ imports n k)
  named_still k a n e = elim (cases_eq a handle) [
    | inl same ↦ absurd (some_not_none n (sym (ap (finmap.get old.modules) same ∙ free.2) ∙ e))
    | inr other ↦ (n, inserted_other old.modules handle (BuiltIn name) a other ∙ e, refl)
  ]

  built_used : (h : ℕ) (m : Module) → module_at with_built_in h ≡ Some m → (0 < usage with_built_in h) × (m.uses ≤ MOST_USES)
  built_used h m e =
      let was : (h ≢ handle) × (module_at old.modules h ≡ Some m) = loaded_now h m e in
      let at : finmap.get old.modules h ≡ Some (Loaded m) = loaded_is (finmap.get old.modules h) m was.1 in
      let sound : IsModule old h m = subst (λ p. IfSome (module_in p) (IsModule old h)) at (is.modules h) in
      let lt : 0 < m.uses + importers old.modules h = subst (λ p. 0 < usage_with p (importers old.modules h)) at sound.used in (
        subst (λ p. 0 < usage_with p (importers with_built_in h)) (sym (inserted_other old.modules handle (BuiltIn name) h was.0 ∙ at))
            (still_used old.modules with_built_in h m.uses m.uses (omega arith) (importers_stay old.modules with_built_in h (named_still h)) lt),
        sound.full,
      )

  pub built_world : IsLoadingWorld (record old { modules = with_built_in })
  built_world = module_world old is with_built_in built_numbers built_names
      (λ h m e. (m, (loaded_now h m e).1, record { slots = refl; tables = refl }))
      (λ h before e. elim (cases_eq h handle) [
        | inl same ↦ absurd (none_there h before same e)
        | inr other ↦ (before, ap module_in (inserted_other old.modules handle (BuiltIn name) h other) ∙ e, record { slots = refl; tables = refl })
      ])
      built_used
