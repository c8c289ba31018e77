-- Modules that get values, one after another.
use Rattle.w16_loader.proofs
use proofs.Common as C
use proofs.Common.{[], ◌≡◌, ◌≢◌, ℕ, zero, suc, ◌+◌, ◌<◌, ◌≤◌, inl, inr, Bool, true, false, ◌||◌, List, ◌∷◌, length, map, drop, Option, Some, None, IsSomeAnd, refl, sym, ap, ◌∙◌, subst, arith, ◌==◌, false≢true, is_member, Far, ModuleFile, Target, without_values, Lookup, Module, Modules}
use proofs.Common.{Named, module_at, Loaded, BuiltIn, Files, AreTargets, IsSaid, all_bound, bound_as, values_for}
use Rattle.w16_model.proofs.Maps.{put_where_taken}
use Rattle.std.specs.FinMap as finmap

-- look-ups that differ in values alone
abbrev pub AreAlike : Lookup → Lookup → Type 0
AreAlike f g = (handle : ℕ) → without_values (f handle) ≡ without_values (g handle)

values_alike : (f g : Lookup) (m : Module) (targets : List (List Target)) → AreAlike f g → values_for f m targets ≡ values_for g m targets
values_alike f g m targets same = λ i. map (λ ts. map (λ t. C.values_law f g m t same i) ts) targets

-- One module bound, by what its handle names.
module _ (modules : Modules) (handle : ℕ) where
  abbrev put_in : Option Module → (Module → List (List Far)) → Modules
  put_in p values = elim p as (λ _. Modules) [ None ↦ modules | Some m ↦ finmap.insert modules handle (Loaded (record m { values = values m })) ]

  put_keeps : (p : Option Module) (values : Module → List (List Far)) → module_at modules handle ≡ p → (q : ℕ) → without_values (finmap.get (put_in p values) q) ≡ without_values (finmap.get modules q)
  put_keeps None values e q = refl
  put_keeps (Some m) values e q = elim (C.cases_eq q handle) [
    | inl same ↦ ap without_values (C.inserted_here modules handle (Loaded (record m { values = values m })) q same) ∙ sym (ap without_values (ap (finmap.get modules) same ∙ C.loaded_is (finmap.get modules handle) m e))
    | inr d ↦ ap without_values (C.inserted_other modules handle (Loaded (record m { values = values m })) q d)
  ]

  put_others : (p : Option Module) (values : Module → List (List Far)) (q : ℕ) → q ≢ handle → finmap.get (put_in p values) q ≡ finmap.get modules q
  put_others None values q d = refl
  put_others (Some m) values q d = C.inserted_other modules handle (Loaded (record m { values = values m })) q d

  module _ (targets : List (List Target)) where
    pub bound_others : (named : Lookup) (q : ℕ) → q ≢ handle → finmap.get (bound_as named modules handle targets) q ≡ finmap.get modules q
    bound_others named q d = put_others (module_at modules handle) (λ m. values_for named m targets) q d

    pub bound_keeps : (named : Lookup) (q : ℕ) → without_values (finmap.get (bound_as named modules handle targets) q) ≡ without_values (finmap.get modules q)
    bound_keeps named q = put_keeps (module_at modules handle) (λ m. values_for named m targets) refl q

    pub bound_alike : (f g : Lookup) → AreAlike f g → bound_as f modules handle targets ≡ bound_as g modules handle targets
    bound_alike f g same = ap (put_in (module_at modules handle)) (λ i m. values_alike f g m targets same i)

pub none_bound : (old new : Modules) (handle : ℕ) (values : List (List Far)) → None ≡ module_at old handle → new ≡ old → new ≡ C.with_values old handle values
none_bound old new handle values none same = same ∙ ap (λ p. put_in old handle p (λ _. values)) none

-- A module that was taken out, lent to be given values, and put back.
module _ (old between new : Modules) (handle : ℕ) (values : List (List Far)) where
  pub bound_again : (m lent other : Module) → Some m ≡ module_at old handle → between ≡ finmap.remove old handle → new ≡ finmap.insert between handle (Loaded other)
      → lent ≡ m → other ≡ record lent { values = values } → new ≡ C.with_values old handle values
  bound_again m lent other there gone put same bound =
      put ∙ ap (λ modules. finmap.insert modules handle (Loaded other)) gone ∙ put_where_taken old handle (Loaded other)
      ∙ ap (λ (x : Module). finmap.insert old handle (Loaded x)) (bound ∙ ap (λ (x : Module). record x { values = values }) same)
      ∙ ap (λ p. put_in old handle p (λ _. values)) there

-- what a module's file says, and how many segments it has, doesn't depend on its values
abbrev said_in : Files → ModuleFile → Option Named → Type 0
said_in files read p = IsSomeAnd (C.module_in p) (λ m. IsSaid files m read)

without : (files : Files) (read : ModuleFile) (p : Option Named) → said_in files read p → said_in files read (without_values p)
without files read None is = is
without files read (Some (Loaded m)) is = record { file = is.file; stored = is.stored; accepted = is.accepted; tables = is.tables; sound = is.sound }
without files read (Some (BuiltIn name)) is = is

back : (files : Files) (read : ModuleFile) (p : Option Named) → said_in files read (without_values p) → said_in files read p
back files read None is = is
back files read (Some (Loaded m)) is = record { file = is.file; stored = is.stored; accepted = is.accepted; tables = is.tables; sound = is.sound }
back files read (Some (BuiltIn name)) is = is

said_alike : (files : Files) (read : ModuleFile) (p q : Option Named) → without_values p ≡ without_values q → said_in files read p → said_in files read q
said_alike files read p q same is = back files read q (subst (said_in files read) same (without files read p is))

abbrev each_in : List (List Target) → Option Named → Type 0
each_in targets p = C.IfSome (C.module_in p) (λ m. length targets ≡ length m.tables.segments)

each_without : (targets : List (List Target)) (p : Option Named) → each_in targets p → each_in targets (without_values p)
each_without targets None is = is
each_without targets (Some (Loaded m)) is = is
each_without targets (Some (BuiltIn name)) is = is

each_back : (targets : List (List Target)) (p : Option Named) → each_in targets (without_values p) → each_in targets p
each_back targets None is = is
each_back targets (Some (Loaded m)) is = is
each_back targets (Some (BuiltIn name)) is = is

each_alike : (targets : List (List Target)) (p q : Option Named) → without_values p ≡ without_values q → each_in targets p → each_in targets q
each_alike targets p q same is = each_back targets q (subst (each_in targets) same (each_without targets p is))

-- the two elements at a place of lists that go together
pub at_place : {X Y : Type 0} (R : X → Y → Type 0) (xs : List X) (ys : List Y) (i : ℕ) → C.AllZip R xs ys → i < length xs
    → (x : X) × (y : Y) × (drop i xs ≡ x ∷ drop (suc i) xs) × (drop i ys ≡ y ∷ drop (suc i) ys) × R x y
at_place R [] [] i all lt = absurd (omega arith)
at_place R [] (y ∷ ys) i all lt = absurd all
at_place R (x ∷ xs) [] i all lt = absurd all
at_place R (x ∷ xs) (y ∷ ys) zero all lt = (x, y, refl, refl, all.0)
at_place R (x ∷ xs) (y ∷ ys) (suc i) all lt = at_place R xs ys i all.1 (omega arith)

or_true : (b : Bool) → (b || true) ≡ true
or_true true = refl
or_true false = refl

member_there : (h : ℕ) (hs : List ℕ) (i : ℕ) (rest : List ℕ) → drop i hs ≡ h ∷ rest → is_member h hs ≡ true
member_there h [] zero rest e = cc
member_there h [] (suc i) rest e = cc
member_there h (x ∷ xs) zero rest e = let same : x ≡ h = cc in ap (λ b. b || is_member h xs) (C.eq-eqb x h same)
member_there h (x ∷ xs) (suc i) rest e = ap (λ b. (x == h) || b) (member_there h xs i rest e) ∙ or_true _

first_same : {X : Type 0} (x y : X) (xs ys : List X) → x ∷ xs ≡ y ∷ ys → x ≡ y
first_same x y xs ys e = cc

abbrev pub targets_in_all : List ModuleFile → List (List (List Target))
targets_in_all reads = map (λ (read : ModuleFile). map C.targets_of read.segments) reads

-- One handle more of several: old are the modules before all, now those before it, and next those after it.
module _ (old now next : Modules) (handles : List ℕ) (place handle : ℕ) (here : drop place handles ≡ handle ∷ drop (place + 1) handles)
    (alike : AreAlike (finmap.get now) (finmap.get old)) where
  pub step : (ts : List (List Target)) → next ≡ bound_as (finmap.get now) now handle ts → (more : List (List (List Target)))
      → all_bound (finmap.get old) now (drop place handles) (ts ∷ more) ≡ all_bound (finmap.get old) next (drop (place + 1) handles) more
  step ts put more =
      ap (λ hs. all_bound (finmap.get old) now hs (ts ∷ more)) here
      ∙ ap (λ modules. all_bound (finmap.get old) modules (drop (place + 1) handles) more) (sym (bound_alike now handle ts (finmap.get now) (finmap.get old) alike) ∙ sym put)

  pub still_alike : (ts : List (List Target)) → next ≡ bound_as (finmap.get now) now handle ts → AreAlike (finmap.get next) (finmap.get old)
  still_alike ts put q = ap (λ (modules : Modules). without_values (finmap.get modules q)) put ∙ bound_keeps now handle ts (finmap.get now) q ∙ alike q

  pub others_next : (ts : List (List Target)) → next ≡ bound_as (finmap.get now) now handle ts → (q : ℕ) → is_member q handles ≡ false → finmap.get now q ≡ finmap.get old q → finmap.get next q ≡ finmap.get old q
  others_next ts put q none same =
      ap (λ (modules : Modules). finmap.get modules q) put
      ∙ bound_others now handle ts (finmap.get now) q (λ e. false≢true (sym none ∙ ap (λ k. is_member k handles) e ∙ member_there handle handles place (drop (place + 1) handles) here)) ∙ same

  pub targets_left : (ts : List (List Target)) → C.IsForEach now handle ts → (more : List (List (List Target))) → AreTargets old (drop (place + 1) handles) more → AreTargets old (drop place handles) (ts ∷ more)
  targets_left ts each more are = subst (λ hs. AreTargets old hs (ts ∷ more)) (sym here) (each_alike ts (finmap.get now handle) (finmap.get old handle) (alike handle) each, are)

  module _ (files : Files) (reads : List ModuleFile) (said : C.AreSaid files old handles reads) (lt : place < length handles) where
    abbrev at : (h : ℕ) × (read : ModuleFile) × (drop place handles ≡ h ∷ drop (suc place) handles) × (drop place reads ≡ read ∷ drop (suc place) reads) × IsSomeAnd (module_at old h) (λ m. IsSaid files m read)
    at = at_place (λ h read. IsSomeAnd (module_at old h) (λ m. IsSaid files m read)) handles reads place said lt

    pub read_here : ModuleFile
    read_here = at.1

    pub said_here : IsSomeAnd (module_at now handle) (λ m. IsSaid files m read_here)
    unfolding read_here
    said_here =
        let same : at.0 ≡ handle = first_same at.0 handle (drop (suc place) handles) (drop (place + 1) handles) (sym at.2 ∙ here) in
        said_alike files at.1 (finmap.get old handle) (finmap.get now handle) (sym (alike handle)) (subst (λ h. said_in files at.1 (finmap.get old h)) same at.4)

    pub targets_next : (ts : List (List Target)) (more : List (List (List Target))) → ts ≡ map C.targets_of read_here.segments → more ≡ targets_in_all (drop (place + 1) reads) → ts ∷ more ≡ targets_in_all (drop place reads)
    unfolding read_here
    targets_next ts more one rest = (λ i. one i ∷ rest i) ∙ ap (λ n. targets_in_all (at.1 ∷ drop n reads)) (C.add-one place) ∙ ap targets_in_all (sym at.3)

pub no_more : {Y : Type 0} (hs : List ℕ) (ys : List Y) (R : ℕ → Y → Type 0) → C.AllZip R hs ys → (place : ℕ) → length hs ≤ place → length ys ≤ place
no_more [] [] R all place le = le
no_more [] (y ∷ ys) R all place le = absurd all
no_more (h ∷ hs) [] R all place le = omega arith
no_more (h ∷ hs) (y ∷ ys) R all zero le = absurd (omega (arith, le))
no_more (h ∷ hs) (y ∷ ys) R all (suc place) le = (let rest = no_more hs ys R all.1 place (omega (arith, le)) in omega (arith, rest))

-- with no handle left all are bound
pub none_left : (named : Lookup) (modules : Modules) (handles : List ℕ) (more : List (List (List Target))) → handles ≡ [] → all_bound named modules handles more ≡ modules
none_left named modules handles more none = ap (λ hs. all_bound named modules hs more) none
