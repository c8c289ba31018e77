-- The new modules of a load, bound and filled, are what loading says of its closure.
use Rattle.w16_loader.proofs
use proofs.Common as C
use proofs.Common.{◌≡◌, ◌≢◌, ℕ, ◌+◌, ◌<◌, inl, inr, ◌⊎◌, true, false, List, [], ◌∷◌, ◌++◌, length, map, fold, zip, flat_map, All, slice_index_or, Option, Some, None, OnErr, IfSome, IsSomeAnd, Ok, Err, refl, sym, ap, ◌∙◌, subst, arith, AllZip, file_of, is_member, AreHandles}
use proofs.Common.{false≢true, Heap, Owned, Member, Far, ModuleFile, IsModuleFile, Segment, Target, targets_of, InTurn, LoadingWorld, Module, Modules, Named, module_at, Loaded, without_module, Given, given, given_from, with_modules, bound, named, fills, Fulfils, left, Says, without_values}
use proofs.Common.{put_here, ne_format, is_format, AreSaid, AreTargets, IsSaid, all_bound, Files, said, IsUnfilled, fills_with, slots_at, IsOfFile}
use proofs.Undoing.{undone_by_release}
use proofs.Fulfilled.{all_bound_are, fills_are, targets_in}
use Rattle.std.specs.List.{AllByRecursion as Each}
use Rattle.w16_loading.specs.{Closure.Found, declared.LoadRefusal.TheVariants.NoFile}
use Rattle.std.specs.FinMap as finmap
use Rattle.w16_loading.specs.Fill as loading
use Rattle.w16_loading.specs.declared.FetchFault.TheVariants as fetches
use Rattle.w16_loader.specs.declared.fault.LoadFault.TheVariants as faults
use Rattle.w16_loader.specs.declared.closure.Closure as kept

-- Lists that go with the modules of a load.

long_as : {A B : Type 0} (P : A → B → Type 0) (xs : List A) (ys : List B) → AllZip P xs ys → length ys ≡ length xs
long_as P [] [] h = refl
long_as P [] (y ∷ ys) h = absurd h
long_as P (x ∷ xs) [] h = absurd h
long_as P (x ∷ xs) (y ∷ ys) h = let rest = long_as P xs ys h.1 in omega arith

zipped : (P : ℕ → ModuleFile → Type 0) (place : ℕ) (fs : List Found) (hs : List ℕ) (ss : List (List ℕ)) → length hs ≡ length fs → length ss ≡ length fs
    → ((g : Given) → Member g (given_from place fs hs ss) → P g.handle g.found.read) → AllZip P hs (map (λ f. f.read) fs)
zipped P place [] [] ss many long all = tt
zipped P place [] (h ∷ hs) ss many long all = absurd (omega arith)
zipped P place (f ∷ fs) [] ss many long all = absurd (omega arith)
zipped P place (f ∷ fs) (h ∷ hs) [] many long all = absurd (omega arith)
zipped P place (f ∷ fs) (h ∷ hs) (s ∷ ss) many long all =
    (all (record { place = place; found = f; handle = h; slots = s }) (inl refl), zipped P (place + 1) fs hs ss (omega arith) (omega arith) (λ g m. all g (inr m)))

each_handle : (P : ℕ → Type 0) (place : ℕ) (fs : List Found) (hs : List ℕ) (ss : List (List ℕ)) → length hs ≡ length fs → length ss ≡ length fs
    → ((g : Given) → Member g (given_from place fs hs ss) → P g.handle) → Each P hs
each_handle P place fs [] ss many long all = tt
each_handle P place [] (h ∷ hs) ss many long all = absurd (omega arith)
each_handle P place (f ∷ fs) (h ∷ hs) [] many long all = absurd (omega arith)
each_handle P place (f ∷ fs) (h ∷ hs) (s ∷ ss) many long all =
    (all (record { place = place; found = f; handle = h; slots = s }) (inl refl), each_handle P (place + 1) fs hs ss (omega arith) (omega arith) (λ g m. all g (inr m)))

slots_are : (module_of : Given → Module) → ((g : Given) → (module_of g).slots ≡ g.slots) → (modules : Modules) (place : ℕ) (fs : List Found) (hs : List ℕ) (ss : List (List ℕ)) → length hs ≡ length fs → length ss ≡ length fs
    → ((g : Given) → Member g (given_from place fs hs ss) → module_at modules g.handle ≡ Some (module_of g)) → flat_map (slots_at modules) hs ≡ flat_map (λ s. s) ss
slots_are module_of slots modules place [] [] [] many long there = refl
slots_are module_of slots modules place [] [] (s ∷ ss) many long there = absurd (omega arith)
slots_are module_of slots modules place [] (h ∷ hs) ss many long there = absurd (omega arith)
slots_are module_of slots modules place (f ∷ fs) [] ss many long there = absurd (omega arith)
slots_are module_of slots modules place (f ∷ fs) (h ∷ hs) [] many long there = absurd (omega arith)
slots_are module_of slots modules place (f ∷ fs) (h ∷ hs) (s ∷ ss) many long there =
    let g : Given = record { place = place; found = f; handle = h; slots = s } in
    ap (λ p. C.unwrap_or (C.option_map (λ m. m.slots) p) [] ++ flat_map (slots_at modules) hs) (there g (inl refl))
    ∙ ap (λ xs. xs ++ flat_map (slots_at modules) hs) (slots g)
    ∙ ap (λ xs. s ++ xs) (slots_are module_of slots modules (place + 1) fs hs ss (omega arith) (omega arith) (λ x m. there x (inr m)))

zip_all : (P : ℕ → Segment → Type 0) (slots : List ℕ) (segments : List Segment) → length slots ≡ length segments → ((x : ℕ × Segment) → Member x (zip slots segments) → P x.0 x.1) → AllZip P slots segments
zip_all P [] [] same all = tt
zip_all P [] (g ∷ gs) same all = absurd (omega arith)
zip_all P (q ∷ qs) [] same all = absurd (omega arith)
zip_all P (q ∷ qs) (g ∷ gs) same all = (all (q, g) (inl refl), zip_all P qs gs (omega arith) (λ x m. all x (inr m)))

read_targets : (look : C.Lookup) (first : Given → Module) (fs : List Found) → map (λ read. map targets_of read.segments) (map (λ f. f.read) fs) ≡ targets_in look first fs
read_targets look first [] = refl
read_targets look first (f ∷ fs) = ap (λ ts. map targets_of f.read.segments ∷ ts) (read_targets look first fs)

each_long : (modules : Modules) (first : Given → Module) → ((g : Given) → (first g).tables ≡ g.found.read.tables) → (place : ℕ) (fs : List Found) (hs : List ℕ) (ss : List (List ℕ)) (targets : List (List (List Target))) → length hs ≡ length fs → length ss ≡ length fs
    → ((g : Given) → Member g (given_from place fs hs ss) → module_at modules g.handle ≡ Some (first g)) → AreTargets modules hs targets → AllZip (λ f ts. length ts ≡ length f.read.tables.segments) fs targets
each_long modules first tables place [] [] ss [] many long there are = tt
each_long modules first tables place [] [] ss (ts ∷ targets) many long there are = are
each_long modules first tables place [] (h ∷ hs) ss targets many long there are = absurd (omega arith)
each_long modules first tables place (f ∷ fs) [] ss targets many long there are = absurd (omega arith)
each_long modules first tables place (f ∷ fs) (h ∷ hs) [] targets many long there are = absurd (omega arith)
each_long modules first tables place (f ∷ fs) (h ∷ hs) (s ∷ ss) [] many long there are = are
each_long modules first tables place (f ∷ fs) (h ∷ hs) (s ∷ ss) (ts ∷ targets) many long there are =
    let g : Given = record { place = place; found = f; handle = h; slots = s } in (
      subst (λ p. IfSome p (λ m. length ts ≡ length m.tables.segments)) (there g (inl refl)) are.0 ∙ ap (λ t. length t.segments) (tables g),
      each_long modules first tables (place + 1) fs hs ss targets (omega arith) (omega arith) (λ x m. there x (inr m)) are.1,
    )

stored_in : (files : Files) (f : Found) (p : Option (List ℕ)) → file_of files f.file ≡ p → said p ≡ Ok f.read → (file : List ℕ) × (file_of files f.file ≡ Some file) × (ne_format.says file ≡ Ok f.read)
stored_in files f None e h = absurd (not_ok h)
  where
    not_ok : ◌≡◌ {A = C.OrRefused ModuleFile} (Err NoFile) (Ok f.read) → ⊥
    not_ok h = cc
stored_in files f (Some bytes) e h = (bytes, e, h)

-- What a load answers that fails.

pub failure_by : (P : C.Answer → Type 0) (place : ℕ) (fault : C.FetchFault) → P (C.refusal_of place fault) → C.IfOk (C.refused_by (C.fault_of_failure place fault)) (λ answer. P (C.load_answer answer))
failure_by P place fetches.Store h = h
failure_by P place fetches.NoRoom h = h
failure_by P place fetches.Damaged h = h

pub err_by : (fault : C.LoadFault) (P : Type 0) → (fault ≡ faults.OutOfMemory → P) → OnErr (C.refused_by fault) P
err_by (faults.Refused refusal) P h = tt
err_by faults.Device P h = tt
err_by faults.OutOfMemory P h = h refl

pub first_of : (xs : List ℕ) (a : ℕ) → 0 < length xs → a ≡ slice_index_or xs 0 a → slice_index_or xs 0 0 ≡ a
first_of [] a some e = absurd (omega (arith, some))
first_of (x ∷ xs) a some e = sym e

-- there is a handle for the module asked for
pub some_handles : {A : Type 0} (made : kept.Closure A) (old mid : LoadingWorld) (numbers : List ℕ) → C.IsUnbound old (C.closed_in [] made) numbers mid → 0 < length made.found.items → 0 < length numbers
some_handles made old mid numbers u some = omega (arith, u.is_choice.many, C.length-map made.found.items (C.found_in []), ap length u.handles, some)

module _ (old : LoadingWorld) (meant : C.Closure) (handles : List ℕ) (mid : LoadingWorld) (u : C.IsUnbound old meant handles mid) where
  abbrev choice : C.Choice
  choice = u.choice

  abbrev fs : List Found
  fs = meant.found

  abbrev gs : List Given
  gs = given meant choice

  abbrev reads : List ModuleFile
  reads = map (λ (f : Found). f.read) fs

  abbrev first : Given → Module
  first = C.unbound meant choice

  -- the modules that have names
  abbrev begun : Modules
  begun = with_modules first gs old.modules

  abbrev look : C.Lookup
  look = finmap.get begun

  mid_modules : mid.modules ≡ begun
  mid_modules = ap (λ (w : LoadingWorld). w.modules) u.after

  apart : C.EachPair (λ a b. a ≢ b) choice.handles
  apart = C.EachPair-from_AllPairs (λ (a b : ℕ). a ≢ b) choice.handles u.is_choice.apart

  many : length choice.handles ≡ length fs
  many = u.is_choice.many

  long : length choice.slots ≡ length fs
  long = long_as (λ (f : Found) (s : List ℕ). length s ≡ length f.read.tables.segments) fs choice.slots u.is_choice.slots.many

  here : (module_of : Given → Module) (g : Given) → Member g gs → module_at (with_modules module_of gs old.modules) g.handle ≡ Some (module_of g)
  here module_of g m = ap C.module_in (put_here module_of 0 fs choice.handles choice.slots old.modules apart g m)

  -- Modules of which some are bound, with what they have.

  abbrev values_in : Option Module → List (List Far)
  values_in None = []
  values_in (Some m) = m.values

  abbrev part : Modules → Given → Module
  part modules g = record (first g) { values = values_in (module_at modules g.handle) }

  has_given : (q : ℕ) → Member q choice.handles → (g : Given) × Member g gs × (g.handle ≡ q)
  has_given q m = C.Each-at (λ h. (g : Given) × Member g gs × (g.handle ≡ h)) choice.handles
      (each_handle (λ h. (g : Given) × Member g gs × (g.handle ≡ h)) 0 fs choice.handles choice.slots many long (λ g n. (g, n, refl))) q m

  its_values : (p : Option Named) (m : Module) → m.values ≡ [] → without_values p ≡ Some (Loaded m) → p ≡ Some (Loaded (record m { values = values_in (C.module_in p) }))
  its_values None m none e = cc
  its_values (Some (C.BuiltIn name)) m none e = cc
  its_values (Some (Loaded n)) m none e = let same : record n { values = [] } ≡ m = cc in λ i. Some (Loaded (record (same i) { values = n.values }))

  module _ (modules : Modules) (alike : (handle : ℕ) → without_values (finmap.get modules handle) ≡ without_values (finmap.get mid.modules handle))
      (same : (handle : ℕ) → is_member handle handles ≡ false → finmap.get modules handle ≡ finmap.get mid.modules handle) where
    at_new : (g : Given) → Member g gs → finmap.get modules g.handle ≡ Some (Loaded (part modules g))
    at_new g m = its_values (finmap.get modules g.handle) (first g) refl
        (alike g.handle ∙ ap (λ ms. without_values (finmap.get ms g.handle)) mid_modules ∙ ap without_values (put_here first 0 fs choice.handles choice.slots old.modules apart g m))

    by_handle_or : (q : ℕ) → (is_member q choice.handles ≡ true) ⊎ (is_member q choice.handles ≡ false) → finmap.get modules q ≡ finmap.get (with_modules (part modules) gs old.modules) q
    by_handle_or q (inl t) =
        let r = has_given q (C.is_member-true q choice.handles t) in
        subst (λ k. finmap.get modules k ≡ finmap.get (with_modules (part modules) gs old.modules) k) r.2
        (at_new r.0 r.1 ∙ sym (put_here (part modules) 0 fs choice.handles choice.slots old.modules apart r.0 r.1))
    by_handle_or q (inr f) =
        let out : (g : Given) → Member g gs → q ≢ g.handle = λ g m e. false≢true (sym f ∙ C.true-is_member q choice.handles (subst (λ k. Member k choice.handles) (sym e) (C.given_handle 0 fs choice.handles choice.slots g m))) in
        same q (ap (λ hs. is_member q hs) (sym u.handles) ∙ f) ∙ ap (λ ms. finmap.get ms q) mid_modules ∙ C.put_all first gs old.modules q out ∙ sym (C.put_all (part modules) gs old.modules q out)

    partly : modules ≡ with_modules (part modules) gs old.modules
    partly = C.same_values modules (with_modules (part modules) gs old.modules) (λ q. by_handle_or q (C.cases_Bool (is_member q choice.handles)))

    -- once they are released it is the world that was before
    pub taken_back : AreHandles old.handles → fold without_module (record mid { modules = modules }) handles ≡ old
    taken_back is =
        (λ i. fold without_module (record (u.after i) { modules = partly i }) (sym u.handles i))
        ∙ undone_by_release old meant choice (part modules) (named old meant choice).handles.heap is u.is_choice (λ g. refl)
        ∙ C.undone_law old meant choice is u.is_choice

  -- as many lists of targets as its segments
  pub targets_long : (targets : List (List (List Target))) → AreTargets mid.modules handles targets → AllZip (λ (f : Found) (ts : List (List Target)). length ts ≡ length f.read.tables.segments) fs targets
  targets_long targets are = each_long mid.modules first (λ g. refl) 0 fs choice.handles choice.slots targets many long
      (λ g m. ap (λ ms. module_at ms g.handle) mid_modules ∙ here first g m) (subst (λ hs. AreTargets mid.modules hs targets) (sym u.handles) are)

  -- Once they are bound, to targets that good files have.
  module _ (is_file : (g : Given) → Member g gs → IsModuleFile g.found.read) (modules : Modules)
      (b : modules ≡ all_bound (finmap.get mid.modules) mid.modules handles (map (λ (read : ModuleFile). map targets_of read.segments) reads)) where
    abbrev done : Given → Module
    done = bound old meant choice

    bound_is : modules ≡ (named old meant choice).modules
    bound_is =
        b ∙ (λ i. all_bound (finmap.get (mid_modules i)) (mid_modules i) (sym u.handles i) (read_targets look first fs i))
        ∙ all_bound_are look first 0 fs choice.handles choice.slots old.modules apart many long

    there : (g : Given) → Member g gs → module_at modules g.handle ≡ Some (done g)
    there g m = ap (λ ms. module_at ms g.handle) bound_is ∙ here done g m

    values_long : (g : Given) → Member g gs → length (done g).values ≡ length (done g).tables.segments
    values_long g m = C.length-map g.found.read.segments (λ s. map (C.value_of look (first g)) (targets_of s)) ∙ long_as _ g.found.read.tables.segments g.found.read.segments (is_file g m).segments

    by_handle : (P : Module → ModuleFile → Type 0) → ((g : Given) → Member g gs → P (done g) g.found.read) → AllZip (λ h read. IsSomeAnd (module_at modules h) (λ m. P m read)) handles reads
    by_handle P all = subst (λ hs. AllZip (λ h read. IsSomeAnd (module_at modules h) (λ m. P m read)) hs reads) u.handles (zipped (λ h read. IsSomeAnd (module_at modules h) (λ m. P m read)) 0 fs choice.handles choice.slots many long
        (λ g m. subst (λ p. IsSomeAnd p (λ x. P x g.found.read)) (sym (there g m)) (all g m)))

    pub are_read : C.AreReadAs modules handles reads
    are_read = by_handle C.IsReadAs (λ g m. record { tables = refl; is_file = is_file g m; slots = C.given_long 0 fs choice.handles choice.slots u.is_choice.slots.many g m; values = values_long g m })

    unfilled : (x : ℕ × Segment) → Member x (C.segments_of gs) → IsUnfilled mid.handles x.0 x.1
    unfilled x m = subst (λ (w : LoadingWorld). IsUnfilled w.handles x.0 x.1) (sym u.after) (
        let new = C.named_new old (C.segments_of gs) (C.given_slots_apart 0 fs choice.handles choice.slots (C.EachPair-from_AllPairs (λ (a b : ℕ). a ≢ b) (flat_map (λ s. s) choice.slots) u.is_choice.slots.apart)) x m in
        record {
          object = subst (λ p. IsSomeAnd p (λ (o : C.Object). (o.kind ≡ x.1.kind) × (o.bytes ≡ None))) (sym new.0) (refl, refl);
          owned = subst (λ p. IsSomeAnd p (λ (w : Owned). w.size ≡ x.1.size)) (sym new.1) refl;
        })

    objects : (g : Given) → Member g gs → AllZip (IsUnfilled mid.handles) (done g).slots (done g).tables.segments
    objects g m = zip_all (IsUnfilled mid.handles) g.slots g.found.read.tables.segments (C.given_long 0 fs choice.handles choice.slots u.is_choice.slots.many g m) (λ x n. unfilled x (C.given_segment gs g x m n))

    pub are_unfilled : C.AreUnfilled modules mid.handles handles
    are_unfilled = subst (C.AreUnfilled modules mid.handles) u.handles (record {
      objects = C.All-from_recursion (λ h. IfSome (module_at modules h) (λ x. AllZip (IsUnfilled mid.handles) x.slots x.tables.segments)) choice.handles
          (each_handle (λ h. IfSome (module_at modules h) (λ x. AllZip (IsUnfilled mid.handles) x.slots x.tables.segments)) 0 fs choice.handles choice.slots many long
          (λ g m. subst (λ p. IfSome p (λ x. AllZip (IsUnfilled mid.handles) x.slots x.tables.segments)) (sym (there g m)) (objects g m)));
      apart = subst (C.AllPairs (λ a b. a ≢ b)) (sym (slots_are done (λ g. refl) modules 0 fs choice.handles choice.slots many long there)) u.is_choice.slots.apart;
    })

    fills_same : fills_with modules 0 handles reads ≡ fills old meant choice
    fills_same = ap (λ hs. fills_with modules 0 hs reads) (sym u.handles) ∙ fills_are done (λ g. refl) (λ g. refl) modules 0 fs choice.handles choice.slots there many long

    -- and what is left once these are released
    released : AreHandles old.handles → (heap : Heap) → fold without_module (record mid { modules = modules; handles = record mid.handles { heap = heap } }) handles ≡ C.undone old choice heap
    released is heap =
        (λ i. fold without_module (record (u.after i) { modules = bound_is i; handles = record (u.after i).handles { heap = heap } }) (sym u.handles i))
        ∙ undone_by_release old meant choice done heap is u.is_choice (λ g. refl)

    loaded_is : (heap : Heap) → record mid { modules = modules; handles = record mid.handles { heap = heap } } ≡ C.with_heap (named old meant choice) heap
    loaded_is heap = λ i. record (u.after i) { modules = bound_is i; handles = record (u.after i).handles { heap = heap } }

    module _ (gives : C.Giving) where
      -- a load that has come so far fulfils the closure
      fulfils : (failure : Option loading.Failure) (heap : Heap) → InTurn gives mid.handles.heap (fills_with modules 0 handles reads) failure heap
          → (answer : C.Answer) (new : LoadingWorld) → answer ≡ C.outcome_of failure (slice_index_or handles 0 0) → new ≡ left failure (C.with_heap (named old meant choice) heap) (C.undone old choice heap)
          → Fulfils gives old meant answer new
      fulfils failure heap filled answer new answered after = record {
        choice = choice;
        is_choice = u.is_choice;
        failure = failure;
        heap = heap;
        filled = subst (λ xs. InTurn gives (named old meant choice).handles.heap xs failure heap) fills_same
            (subst (λ (w : LoadingWorld). InTurn gives w.handles.heap (fills_with modules 0 handles reads) failure heap) u.after filled);
        answered = answered ∙ ap (λ hs. C.outcome_of failure (slice_index_or hs 0 0)) (sym u.handles);
        after = after;
      }

      -- a load of which an object got no bytes
      pub unfilled_load : AreHandles old.handles → (place : ℕ) (fault : C.FetchFault) (heap : Heap)
          → InTurn gives mid.handles.heap (fills_with modules 0 handles reads) (Some (record { place = place; fault = fault })) heap
          → Fulfils gives old meant (C.refusal_of place fault) (fold without_module (record mid { modules = modules; handles = record mid.handles { heap = heap } }) handles)
      unfilled_load is place fault heap filled = fulfils (Some (record { place = place; fault = fault })) heap filled (C.refusal_of place fault)
          (fold without_module (record mid { modules = modules; handles = record mid.handles { heap = heap } }) handles) refl (released is heap)

      pub filled_load : (heap : Heap) → InTurn gives mid.handles.heap (fills_with modules 0 handles reads) None heap
          → Fulfils gives old meant (Says (slice_index_or handles 0 0)) (record mid { modules = modules; handles = record mid.handles { heap = heap } })
      filled_load heap filled = fulfils None heap filled (Says (slice_index_or handles 0 0)) (record mid { modules = modules; handles = record mid.handles { heap = heap } }) refl (loaded_is heap)

  -- Over files of which each new module is.
  module _ (files : Files) (of_files : All (IsOfFile files) meant.found) where
    of_file : (g : Given) → Member g gs → IsOfFile files g.found
    of_file g m = C.Each-at (IsOfFile files) fs (C.Each-from_All (IsOfFile files) fs of_files) g.found (C.given_found 0 fs choice.handles choice.slots g m)

    is_said : (g : Given) → Member g gs → IsSaid files (first g) g.found.read
    is_said g m = let at = stored_in files g.found (file_of files g.found.file) refl (of_file g m).0 in record { file = at.0; stored = at.1; accepted = at.2; tables = refl; sound = (of_file g m).1 }

    pub are_said : AreSaid files mid.modules handles reads
    are_said = subst (λ hs. AreSaid files mid.modules hs reads) u.handles (zipped (λ h read. IsSomeAnd (module_at mid.modules h) (λ m. IsSaid files m read)) 0 fs choice.handles choice.slots many long
        (λ g m. subst (λ p. IsSomeAnd p (λ x. IsSaid files x g.found.read)) (sym (ap (λ ms. module_at ms g.handle) mid_modules ∙ here first g m)) (is_said g m)))

    pub are_files : (g : Given) → Member g gs → IsModuleFile g.found.read
    are_files g m = let is = is_said g m in subst (λ r. C.MatchResult r IsModuleFile (λ refusal. C.is_of_format refusal ≡ true)) is.accepted (is_format.files is.file)

    module _ (modules : Modules) (b : modules ≡ all_bound (finmap.get mid.modules) mid.modules handles (map (λ (read : ModuleFile). map targets_of read.segments) reads)) where
      pub still_said : AreSaid files modules handles reads
      still_said = by_handle are_files modules b (IsSaid files) (λ g m. let is = is_said g m in record { file = is.file; stored = is.stored; accepted = is.accepted; tables = is.tables; sound = is.sound })

      pub are_its_files : C.AreItsFiles modules handles reads
      are_its_files = by_handle are_files modules b C.IsItsFiles (λ g m. record { tables = refl; values = C.sound_values (C.value_of look (first g)) g.found.read.segments (of_file g m).1 })
