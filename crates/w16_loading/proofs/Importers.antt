-- Who imports a module: whether it is idle says whether any entry does.
use Rattle.w16_loading.proofs
use proofs.Common as C
use proofs.Common.{◌≡◌, ◌≢◌, ℕ, zero, suc, ◌+◌, ◌<◌, inl, Bool, true, not, ◌&&◌, ◌==◌, List, [], ◌∷◌, filter, IsTrue, Some, None, is_some, refl, sym, ap, ◌∙◌, subst, arith, false≢true, Member, Modules, Named, module_in, imports, importers, usage_with, cond, false, find, inr}
use proofs.Common.{is_named, name_of}
use Rattle.std.specs.FinMap as finmap

-- an entry is one of a map's just where the map has it
pub entry_there : {X : Type 0} (m : C.FinMap C.nat_cmp X) (q : ℕ) (v : X) → Member (q, v) (finmap.entries m) → finmap.get m q ≡ Some v
entry_there m q v mem = C.get-entries m q ∙ C.member_found _ q v (C.keys_rise _ (C.entries_sorted m)) mem

pub there_entry : {X : Type 0} (m : C.FinMap C.nat_cmp X) (q : ℕ) (v : X) → finmap.get m q ≡ Some v → Member (q, v) (finmap.entries m)
there_entry m q v e = C.found_member _ q v (sym (C.get-entries m q) ∙ e)

-- what is found is a member that passes
pub found_passes : {X : Type 0} (p : X → Bool) (xs : List X) (x : X) → find p xs ≡ Some x → Member x xs × (p x ≡ true)
found_passes p [] x e = cc
found_passes p (y ∷ ys) x e = turn _ refl e (found_passes p ys x)
  where
    turn : (b : Bool) → p y ≡ b → cond b (Some y) (find p ys) ≡ Some x → (find p ys ≡ Some x → Member x ys × (p x ≡ true)) → Member x (y ∷ ys) × (p x ≡ true)
    turn true t e rest = let same : y ≡ x = cc in (inl (sym same), ap p (sym same) ∙ t)
    turn false t e rest = let h = rest e in (inr h.0, h.1)

-- a handle that a name leads to names something of this name
pub named_there : (modules : Modules) (name : List ℕ) (handle : ℕ) → C.handle_named modules name ≡ Some handle → (n : Named) × (finmap.get modules handle ≡ Some n) × (is_named (name_of n) name ≡ true)
named_there modules name handle e = turn (find (λ x. is_named _ _) _) refl e
  where
    turn : (p : C.Option (ℕ × Named)) → find (λ x. is_named (name_of x.1) name) (finmap.entries modules) ≡ p → C.option_map (λ x. x.0) p ≡ Some handle
        → (n : Named) × (finmap.get modules handle ≡ Some n) × (is_named (name_of n) name ≡ true)
    turn None f e = cc
    turn (Some x) f e =
        let same : x.0 ≡ handle = cc in
        let h = found_passes (λ x. is_named _ _) _ x f in
        (x.1, ap (finmap.get _) (sym same) ∙ entry_there _ x.0 x.1 h.0, h.1)

-- some are counted where one passes
counted_some : {X : Type 0} (p : X → Bool) (xs : List X) → 0 < C.count_by p xs → (x : X) × Member x xs × (p x ≡ true)
counted_some p xs lt = turn _ refl (subst (λ n. 0 < n) (sym (C.length-filter p xs)) lt)
  where
    turn : (ys : List _) → filter p xs ≡ ys → 0 < C.length ys → (x : _) × Member x xs × (p x ≡ true)
    turn [] e lt = absurd (omega (arith, lt))
    turn (y ∷ ys) e lt = let m = C.member_filter p xs y (subst (Member y) (sym e) (inl refl)) in (y, m.0, m.1)

some_counted : {X : Type 0} (p : X → Bool) (xs : List X) (x : X) → Member x xs → p x ≡ true → 0 < C.count_by p xs
some_counted p xs x m t = subst (λ n. 0 < n) (C.length-filter p xs) (turn _ (C.filter_member p xs x m t))
  where
    turn : (ys : List _) → Member x ys → 0 < C.length ys
    turn [] m = absurd m
    turn (y ∷ ys) m = omega arith

-- another module imports it
pub record HasImporter (modules : Modules) (handle : ℕ) : Type 0 where
  pub who : ℕ
  pub importer : Named
  pub there : finmap.get modules who ≡ Some importer
  pub other : who ≢ handle
  pub uses : imports importer handle ≡ true

pub importer_of : (modules : Modules) (handle : ℕ) → 0 < importers modules handle → HasImporter modules handle
importer_of modules handle lt =
    let x : (e : ℕ × Named) × Member e (finmap.entries modules) × ((not (e.0 == handle) && imports e.1 handle) ≡ true) = counted_some (λ e. not _ && imports e.1 _) _ lt in
    let parts : IsTrue (not (x.0.0 == handle)) × IsTrue (imports x.0.1 handle) = C.and_parts _ _ x.2 in
    record {
      who = x.0.0;
      importer = x.0.1;
      there = entry_there _ _ _ x.1;
      other = λ e. false≢true (sym (C.not-true _ parts.0) ∙ C.eq-eqb _ _ e);
      uses = parts.1;
    }

pub of_importer : (modules : Modules) (handle : ℕ) → HasImporter modules handle → 0 < importers modules handle
of_importer modules handle h = some_counted (λ e. not (e.0 == handle) && imports e.1 handle) (finmap.entries _) (h.who, h.importer) (there_entry _ _ _ h.there)
    (ap (λ b. not b && imports h.importer handle) (C.ne_eqb _ _ h.other) ∙ h.uses)

-- What it is to be idle.
pub record Idle (modules : Modules) (handle : ℕ) : Type 0 where
  pub idle : C.Module
  pub loaded : finmap.get modules handle ≡ Some (C.Loaded idle)
  pub unused : idle.uses ≡ 0
  pub alone : HasImporter modules handle → ⊥

pub idle_parts : (modules : Modules) (handle : ℕ) → C.is_idle modules handle ≡ true → Idle modules handle
idle_parts modules handle t = turn _ refl (C.and_parts _ _ t)
  where
    turn : (p : C.Option Named) → finmap.get modules handle ≡ p → IsTrue (is_some (module_in p)) × IsTrue (usage_with p (importers modules handle) == 0) → Idle modules handle
    turn None e h = absurd (false≢true h.0)
    turn (Some (C.BuiltIn name)) e h = absurd (false≢true h.0)
    turn (Some (C.Loaded m)) e h =
        let zero = C.eqb-true _ 0 h.1 in
        record { idle = m; loaded = e; unused = omega (arith, zero); alone = λ i. let some = of_importer _ _ i in absurd (omega (arith, zero, some)) }

pub is_then_idle : (modules : Modules) (handle : ℕ) → Idle modules handle → C.is_idle modules handle ≡ true
is_then_idle modules handle h = ap (λ p. is_some (module_in p) && (usage_with p (importers modules handle) == 0)) h.loaded ∙ C.eq-eqb (h.idle.uses + importers _ _) 0 (none _ refl)
  where
    none : (n : ℕ) → importers modules handle ≡ n → h.idle.uses + importers modules handle ≡ 0
    none zero e = omega (arith, h.unused, e)
    none (suc n) e = absurd (h.alone (importer_of _ _ (omega (arith, e))))

-- in a world no module is idle
pub none_idle : (world : C.LoadingWorld) → C.IsLoadingWorld world → (handle : ℕ) → Idle world.modules handle → ⊥
none_idle world is handle h =
    let m = subst (λ p. C.IfSome (module_in p) (C.IsModule world handle)) h.loaded (is.modules _) in
    let used = subst (λ p. 0 < usage_with p (importers world.modules handle)) h.loaded m.used in
    h.alone (importer_of _ _ (omega (arith, used, h.unused)))
