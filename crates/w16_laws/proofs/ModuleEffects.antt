-- What calls of modules and resources are for, proved from their steps.
use Rattle.w16_loading.proofs
use proofs.Common as C
use proofs.Common.{◌≡◌, ◌≢◌, ℕ, ◌+◌, ◌-◌, ◌≤◌, ◌&&◌, ◌==◌, true, if◌then◌else◌, nat_lt, List, Option, Some, None, option_map, unwrap_or, refl, sym, ap, ◌∙◌, arith, locks_at, is_named, Resource, Load, LoadingWorld, Named, BuiltIn, Word}
use proofs.{Given.no_place, Given.place_member, Importers.named_there, ModuleWorlds.not_named, ShrunkWorlds.value_gone}
use Rattle.std.proofs.Common.{le-ltb, lt-ltb}
use Rattle.w16_loading.specs.{File.is_label, Resource.find_resource}
use Rattle.w16_laws.specs.ModuleEffects.{BuiltInLaw, FindLaw, FreeLaw, NamedLaw, SizeofLaw}
use Rattle.w16_model.specs.declared.Kind.TheVariants.{Fixed}
use Rattle.std.specs.FinMap as finmap

-- Names.

-- 0 names nothing
never_0 : (world : LoadingWorld) → C.IsLoadingWorld world → (n : Named) → finmap.get world.modules 0 ≡ Some n → ⊥
never_0 world is n there = let h = rw there at (is.numbers 0) in omega (arith, h.0)

pub named_law : (honest : Type 0) → NamedLaw honest
named_law honest format old new name answer is step = turn _ refl step.step.0
  where
    turn : (p : Option ℕ) → C.handle_named old.modules name ≡ p → ◌≡◌ {A = C.Reply} (Word answer) (Word (unwrap_or p 0))
        → (answer ≢ 0 → (n : Named) × (finmap.get old.modules answer ≡ Some n) × (is_named (C.name_of n) name ≡ true))
        × (answer ≡ 0 → (handle : ℕ) (n : Named) → finmap.get old.modules handle ≡ Some n → is_named (C.name_of n) name ≡ C.false)
    turn None e says = let none : answer ≡ 0 = cc in ((λ some. absurd (some none)), λ _ handle n there. not_named _ name e _ n there)
    turn (Some handle) e says =
        let same : answer ≡ handle = cc in
        let h = named_there _ name _ e in (
          λ some. (h.0, rw same h.1, h.2),
          λ none. absurd (never_0 old is h.0 (cc (h.1))),
        )

pub built_in_law : (honest : Type 0) → BuiltInLaw honest
built_in_law honest format old new name answer step some =
    let says : step.step.0 ≡ answer = cc (step.step.1) in
    C.subst IsBuiltIn says (turn step.step.0 (λ none. some (sym says ∙ none)) _ refl step.step.2)
  where
    IsBuiltIn : ℕ → Type 0
    IsBuiltIn a = (own : List ℕ) × (finmap.get new.modules a ≡ Some (BuiltIn own)) × (is_named own name ≡ true)

    is_own : is_named name name ≡ true
    is_own = (C.is_named-Decides name name).1 refl

    there : (a : ℕ) → a ≢ 0 → (handle : ℕ) (n : Named) → finmap.get old.modules handle ≡ Some n → is_named (C.name_of n) name ≡ true → (p : Option Named) → finmap.get old.modules handle ≡ p → a ≡ C.built_in p handle → new.modules ≡ old.modules → IsBuiltIn a
    there a some handle n at named None e says same = absurd (some says)
    there a some handle n at named (Some (C.Loaded m)) e says same = absurd (some says)
    there a some handle n at named (Some (BuiltIn own)) e says same =
        let is : n ≡ BuiltIn own = cc in (own, rw (same, says) e, rw is at named)

    turn : (a : ℕ) → a ≢ 0 → (p : Option ℕ) → C.handle_named old.modules name ≡ p
        → C.MatchOption p (C.AddsBuiltIn old name a (record new { failures = old.failures })) (λ handle. (a ≡ C.built_in (finmap.get old.modules handle) handle) × (record new { failures = old.failures } ≡ old)) → IsBuiltIn a
    turn a some None e (C.inl full) = absurd (some full.1)
    turn a some None e (C.inr added) = (name, ap (λ w. finmap.get w.modules a) added.1 ∙ C.inserted_here old.modules a (BuiltIn name) a refl, is_own)
    turn a some (Some handle) e gives =
        let h = named_there old.modules name handle e in there a some handle h.0 h.1 h.2 _ refl gives.0 (ap (λ w. w.modules) gives.1)

-- Resources.

pub find_law : (honest : Type 0) → FindLaw honest
find_law honest format old new handle answer name kind m there step = turn _ refl (rw (there, find_resource) at step.step.0)
  where
    fits : Resource → C.Bool
    fits r = is_label r.label name && is_label r.kind_of kind

    any : Resource
    any = record { kind_of = kind; label = name; length_in = 0; kind = Fixed }

    turn : (p : Option ℕ) → C.position fits m.tables.resources ≡ p → ◌≡◌ {A = C.Reply} (Word answer) (Word (unwrap_or (option_map (λ i. i + 1) p) 0))
        → (answer ≢ 0 → (r : Resource) × (C.slice_get m.tables.resources (answer - 1) ≡ Some r) × (is_label r.label name ≡ true) × (is_label r.kind_of kind ≡ true))
        × (answer ≡ 0 → (i : ℕ) (r : Resource) → C.slice_get m.tables.resources i ≡ Some r → (is_label r.label name && is_label r.kind_of kind) ≡ C.false)
    turn None e says = let none : answer ≡ 0 = cc in ((λ some. absurd (some none)), λ _ i r at. no_place fits _ e r (place_member _ i r at))
    turn (Some i) e says =
        let is : answer ≡ i + 1 = cc in
        let h = C.position-Some fits _ i any e in
        let parts = C.and_parts _ _ h.1 in
        let less : answer - 1 ≡ i = omega (arith, is) in (
          λ _. (C.get_or _ i any, ap (C.slice_get _) less ∙ C.slice_get-get_or _ i any h.0, parts.0, parts.1),
          λ none. absurd (omega (arith, is, none)),
        )

pub sizeof_law : (honest : Type 0) → SizeofLaw honest
sizeof_law honest format old new handle place answer m r there some at step =
    cc (rw (there, C.ne_eqb place 0 (λ e. absurd (omega (arith, e, some))), at, C.resource_at) at step.step.0)

module _ (old : LoadingWorld) (handle slot : ℕ) (load : Load) (found : C.slot_of_handle old.handles handle ≡ Some slot) (there : finmap.get old.loads slot ≡ Some load) where
  abbrev one_less : LoadingWorld
  one_less = record old { loads = finmap.insert old.loads slot (record load { loads = load.loads - 1 }) }

  abbrev gone : LoadingWorld
  gone = let left = C.without_objects (λ q. q == slot) old in record left { loads = finmap.remove left.loads slot }

  freed : C.free_resource old handle ≡ (if nat_lt 1 load.loads then (0, one_less) else (if nat_lt 0 (locks_at old.handles.heap slot) then (1, old) else (0, gone)))
  freed = rw (found, there, C.free_resource, C.slot_of_resource)

pub free_law : (honest : Type 0) → FreeLaw honest
free_law honest format old new handle slot answer load found there step = (
  λ more.
      let is : C.free_resource old handle ≡ (0, one_less old handle slot load found there) = rw (freed old _ slot load found there, lt-ltb 1 _ more) in
      let all = step.step.1 ∙ ap (λ p. p.1) is in (
        says ∙ ap (λ p. p.0) is,
        ap (λ w. w.handles) all,
        ap (λ w. w.modules) all,
        ap (λ w. finmap.get w.loads slot) all ∙ C.inserted_here old.loads slot (record load { loads = load.loads - 1 }) slot refl,
      ),
  λ last locked.
      let is : C.free_resource old handle ≡ (1, old) = rw (last_is last, lt-ltb 0 _ locked) in
      let all = step.step.1 ∙ ap (λ p. p.1) is in
      (says ∙ ap (λ p. p.0) is, ap (λ w. w.handles) all, ap (λ w. w.modules) all, ap (λ w. w.loads) all),
  λ last loose.
      let is : C.free_resource old handle ≡ (0, gone old handle slot load found there) = rw (last_is last, le-ltb 0 (locks_at old.handles.heap slot) (omega (arith, loose))) in
      let all = step.step.1 ∙ ap (λ p. p.1) is in (
        says ∙ ap (λ p. p.0) is,
        ap (λ w. C.object_at w.handles.heap slot) all ∙ value_gone old.handles.heap.objects (λ q. q == slot) slot (C.eq-eqb slot slot refl),
        ap (λ w. finmap.get w.loads slot) all ∙ C.taken_here old.loads slot slot refl,
        ap (λ w. w.modules) all,
      ),
)
  where
    says : answer ≡ (C.free_resource old handle).0
    says = cc (step.step.0)

    last_is : load.loads ≤ 1 → C.free_resource old handle ≡ (if nat_lt 0 (locks_at old.handles.heap slot) then (1, old) else (0, gone old handle slot load found there))
    last_is le = rw (freed old _ slot load found there, le-ltb 1 _ le)
