-- New modules that are released leave what was there before them.
use Rattle.w16_loader.proofs
use proofs.Common as C
use proofs.Common.{◌≡◌, ◌≢◌, ℕ, ◌+◌, ◌<◌, inl, inr, Bool, true, false, cond, not, ◌||◌, ◌==◌, List, [], ◌∷◌, ◌++◌, length, drop, map, fold, filter, Option, Some, None, refl, sym, ap, ◌∙◌, subst, arith, false≢true, is_member, Heap, Member, EachPair, Each-at, Each-from, taken_other}
use proofs.Common.{LoadingWorld, Module, Modules, Loaded, Given, given, given_from, all_slots, segments_of, with_modules, without_module, went, retained}
use Rattle.std.specs.List.{AllByRecursion as Each}
use Rattle.w16_loading.specs.Closure.{Found}
use Rattle.std.specs.FinMap as finmap

-- What goes in two steps goes in one.

or_assoc : (a b c : Bool) → (a || (b || c)) ≡ ((a || b) || c)
or_assoc true b c = refl
or_assoc false b c = refl

member_append : (q : ℕ) (xs ys : List ℕ) → is_member q (xs ++ ys) ≡ (is_member q xs || is_member q ys)
member_append q [] ys = refl
member_append q (x ∷ xs) ys = ap (λ b. (x == q) || b) (member_append q xs ys) ∙ or_assoc (x == q) (is_member q xs) (is_member q ys)

retained_twice : {X : Type 0} (m : C.FinMap C.nat_cmp X) (a b : ℕ → Bool) → finmap.retain_keys (finmap.retain_keys m (λ q. not (a q))) (λ q. not (b q)) ≡ finmap.retain_keys m (λ q. not (a q || b q))
retained_twice {X} m a b = C.same_values (finmap.retain_keys (finmap.retain_keys m (λ q. not (a q))) (λ q. not (b q))) (finmap.retain_keys m (λ q. not _)) (λ q.
    retained (finmap.retain_keys m (λ q. not (a q))) b q ∙ ap (λ p. cond {A = Option X} (not (b q)) p None) (retained m a q) ∙ both (a q) (b q) _ ∙ sym (retained m (λ q. a q || b q) q))
  where
    both : (x y : Bool) (p : Option X) → cond {A = Option X} (not y) (cond {A = Option X} (not x) p None) None ≡ cond {A = Option X} (not (x || y)) p None
    both true true p = refl
    both true false p = refl
    both false true p = refl
    both false false p = refl

filtered_twice : (a b : ℕ → Bool) (xs : List ℕ) → filter (λ q. not (b q)) (filter (λ q. not (a q)) xs) ≡ filter (λ q. not (a q || b q)) xs
filtered_twice a b [] = refl
filtered_twice a b (x ∷ xs) = step (a x) (b x) refl (filtered_twice a b xs)
  where
    first : List ℕ
    first = filter (λ q. not (a q)) xs

    second : List ℕ → List ℕ
    second = filter (λ q. not (b q))

    both : List ℕ
    both = filter (λ q. not (a q || b q)) xs

    step : (s t : Bool) → b x ≡ t → second first ≡ both → second (cond {A = List ℕ} (not s) (x ∷ first) first) ≡ cond {A = List ℕ} (not (s || t)) (x ∷ both) both
    step true t e rest = rest
    step false true e rest = ap (λ v. cond {A = List ℕ} (not v) (x ∷ second first) (second first)) e ∙ rest
    step false false e rest = ap (λ v. cond {A = List ℕ} (not v) (x ∷ second first) (second first)) e ∙ ap (λ r. x ∷ r) rest

-- Modules that go one after another.

abbrev handles_of : List Given → List ℕ
handles_of gs = map (λ g. g.handle) gs

abbrev slots_of : List Given → List ℕ
slots_of gs = C.flat_map (λ g. g.slots) gs

abbrev without_given : LoadingWorld → List Given → LoadingWorld
without_given world gs = let left = C.without_objects (λ q. is_member q (slots_of gs)) world in record left { modules = fold finmap.remove left.modules (handles_of gs) }

module _ (module_of : Given → Module) (owns : (g : Given) → (module_of g).slots ≡ g.slots) where
  abbrev AreThere : LoadingWorld → List Given → Type 0
  AreThere world gs = Each (λ g. finmap.get world.modules g.handle ≡ Some (Loaded (module_of g))) gs

  joined : (world : LoadingWorld) (g : Given) (gs : List Given) → without_given (C.gone_with world g.handle (module_of g)) gs ≡ without_given world (g ∷ gs)
  joined world g gs = λ i. record world {
    handles = record world.handles {
      heap = record world.handles.heap {
        objects = both world.handles.heap.objects i;
        places = both world.handles.heap.places i;
        order = (filtered_twice (λ q. is_member q (module_of g).slots) (λ q. is_member q (slots_of gs)) world.handles.heap.order ∙ (λ i. filter (λ q. not (among q i)) world.handles.heap.order)) i;
      };
      attributes = both world.handles.attributes i;
    };
    modules = fold finmap.remove (finmap.remove world.modules g.handle) (handles_of gs);
  }
    where
      among : (q : ℕ) → (is_member q (module_of g).slots || is_member q (slots_of gs)) ≡ is_member q (g.slots ++ slots_of gs)
      among q = ap (λ s. is_member q s || is_member q (slots_of gs)) (owns g) ∙ sym (member_append q g.slots (slots_of gs))

      both : {X : Type 0} (m : C.FinMap C.nat_cmp X) → finmap.retain_keys (finmap.retain_keys m (λ q. not (is_member q (module_of g).slots))) (λ q. not (is_member q (slots_of gs))) ≡ finmap.retain_keys m (λ q. not (is_member q (g.slots ++ slots_of gs)))
      both m = retained_twice m (λ q. is_member q (module_of g).slots) (λ q. is_member q (slots_of gs)) ∙ (λ i. finmap.retain_keys m (λ q. not (among q i)))

  all_go : (gs : List Given) (world : LoadingWorld) → AreThere world gs → EachPair (λ (g h : Given). g.handle ≢ h.handle) gs → fold without_module world (handles_of gs) ≡ without_given world gs
  all_go [] world there apart = sym (C.none_gone (λ q. is_member q []) world (λ q. refl))
  all_go (g ∷ gs) world there apart =
      ap (λ (w : LoadingWorld). fold without_module w (handles_of gs)) (went world g.handle (module_of g) there.0)
      ∙ all_go gs (C.gone_with world g.handle (module_of g))
      (Each-from (λ (h : Given). finmap.get (finmap.remove world.modules g.handle) h.handle ≡ Some (Loaded (module_of h))) gs (λ h m.
      taken_other world.modules g.handle h.handle (λ e. Each-at (λ (h : Given). g.handle ≢ h.handle) gs apart.0 h m (sym e))
      ∙ Each-at (λ (h : Given). finmap.get world.modules h.handle ≡ Some (Loaded (module_of h))) gs there.1 h m))
      apart.1
      ∙ joined world g gs

-- What a load gives has its handles and its slots.

abbrev pub AreMany : List Found → List (List ℕ) → Type 0
AreMany found slots = C.AllZip (λ (f : Found) (s : List ℕ). length s ≡ length f.read.tables.segments) found slots

pub handles_given : (place : ℕ) (fs : List Found) (hs : List ℕ) (ss : List (List ℕ)) → length hs ≡ length fs → AreMany fs ss → handles_of (given_from place fs hs ss) ≡ hs
handles_given place [] [] ss same many = refl
handles_given place [] (h ∷ hs) ss same many = absurd (omega (arith, same))
handles_given place (f ∷ fs) [] ss same many = absurd (omega (arith, same))
handles_given place (f ∷ fs) (h ∷ hs) [] same many = absurd many
handles_given place (f ∷ fs) (h ∷ hs) (s ∷ ss) same many = ap (λ r. h ∷ r) (handles_given (place + 1) fs hs ss (omega (arith, same)) many.1)

pub slots_given : (place : ℕ) (fs : List Found) (hs : List ℕ) (ss : List (List ℕ)) → length hs ≡ length fs → AreMany fs ss → slots_of (given_from place fs hs ss) ≡ C.flat_map (λ s. s) ss
slots_given place [] hs [] same many = refl
slots_given place [] hs (s ∷ ss) same many = absurd many
slots_given place (f ∷ fs) [] ss same many = absurd (omega (arith, same))
slots_given place (f ∷ fs) (h ∷ hs) [] same many = absurd many
slots_given place (f ∷ fs) (h ∷ hs) (s ∷ ss) same many = ap (λ r. s ++ r) (slots_given (place + 1) fs hs ss (omega (arith, same)) many.1)

given_apart : (place : ℕ) (fs : List Found) (hs : List ℕ) (ss : List (List ℕ)) → EachPair (λ a b. a ≢ b) hs → EachPair (λ g h. g.handle ≢ h.handle) (given_from place fs hs ss)
given_apart place [] hs ss differ = tt
given_apart place (f ∷ fs) [] ss differ = tt
given_apart place (f ∷ fs) (h ∷ hs) [] differ = tt
given_apart place (f ∷ fs) (h ∷ hs) (s ∷ ss) differ =
    (Each-from (λ g. h ≢ g.handle) (given_from _ fs hs ss) (λ g m. Each-at (λ b. h ≢ b) hs differ.0 g.handle (C.given_handle _ fs hs ss g m)), given_apart (place + 1) fs hs ss differ.1)

-- Modules that are put under free handles, and taken away again.

stays_gone : (hs : List ℕ) (m : Modules) (q : ℕ) → finmap.get m q ≡ None → finmap.get (fold finmap.remove m hs) q ≡ None
stays_gone [] m q none = none
stays_gone (h ∷ hs) m q none = stays_gone hs _ q (elim (C.cases_eq q h) [ inl e ↦ C.taken_here m h q e | inr d ↦ taken_other m h q d ∙ none ])

gone_in : (hs : List ℕ) (m : Modules) (q : ℕ) → Member q hs → finmap.get (fold finmap.remove m hs) q ≡ None
gone_in [] m q inside = absurd inside
gone_in (h ∷ hs) m q (inl e) = stays_gone hs _ q (C.taken_here m h q e)
gone_in (h ∷ hs) m q (inr inside) = gone_in hs _ q inside

gone_out : (hs : List ℕ) (m : Modules) (q : ℕ) → ((h : ℕ) → Member h hs → q ≢ h) → finmap.get (fold finmap.remove m hs) q ≡ finmap.get m q
gone_out [] m q out = refl
gone_out (h ∷ hs) m q out = gone_out hs _ q (λ k inside. out k (inr inside)) ∙ taken_other m h q (out h (inl refl))

module _ (module_of : Given → Module) (fs : List Found) (hs : List ℕ) (ss : List (List ℕ)) (old : Modules) (free : (q : ℕ) → Member q hs → finmap.get old q ≡ None) where
  names_back : fold finmap.remove (with_modules module_of (given_from 0 fs hs ss) old) hs ≡ old
  names_back = C.same_values (fold finmap.remove (with_modules module_of (given_from 0 fs hs ss) old) hs) old (λ q. elim (C.cases_Bool (is_member q hs)) [
    | inl t ↦ gone_in hs (with_modules module_of (given_from 0 fs hs ss) old) q (C.is_member-true q hs t) ∙ sym (free q (C.is_member-true q hs t))
    | inr f ↦ gone_out hs (with_modules module_of (given_from 0 fs hs ss) old) q (λ h m e. out q f (subst (λ k. Member k hs) (sym e) m))
        ∙ C.put_all module_of (given_from 0 fs hs ss) old q (λ g m e. out q f (subst (λ k. Member k hs) (sym e) (C.given_handle 0 fs hs ss g m)))
  ])
    where
      out : (q : ℕ) → is_member q hs ≡ false → Member q hs → ⊥
      out q f m = false≢true (sym f ∙ C.true-is_member q hs m)

-- A load that is undone: the new modules go, bound already or not, with their objects, whatever bytes these have got.
module _ (old : LoadingWorld) (closure : C.Closure) (choice : C.Choice) (module_of : Given → Module) (heap : Heap) (is : C.AreHandles old.handles) (good : C.IsChoice old closure.found choice)
    (owns : (g : Given) → (module_of g).slots ≡ g.slots) where
  abbrev gs : List Given
  gs = given closure choice

  abbrev taken : LoadingWorld
  taken = fold C.with_segment old (segments_of gs)

  abbrev loaded_on : LoadingWorld → LoadingWorld
  loaded_on world = C.with_heap (record world { modules = with_modules module_of gs old.modules }) heap

  differ : EachPair (λ a b. a ≢ b) choice.handles
  differ = C.EachPair-from_AllPairs (λ (a b : ℕ). a ≢ b) choice.handles good.apart

  free_module : (q : ℕ) → Member q choice.handles → finmap.get old.modules q ≡ None
  free_module q m = (Each-at (C.IsFreeModule old.modules) choice.handles (C.Each-from_All (C.IsFreeModule old.modules) choice.handles good.free) q m).2

  free_object : (q : ℕ) → Member q (all_slots choice) → C.object_at old.handles.heap q ≡ None
  free_object q m = C.unused_slot old.handles is q (Each-at (C.IsFreeSlot old.handles) (all_slots choice) (C.Each-from_All (C.IsFreeSlot old.handles) (all_slots choice) good.slots.free) q m)

  same_handles : handles_of gs ≡ choice.handles
  same_handles = handles_given 0 closure.found choice.handles choice.slots good.many good.slots.many

  same_slots : slots_of gs ≡ all_slots choice
  same_slots = slots_given 0 closure.found choice.handles choice.slots good.many good.slots.many

  attributes_back : finmap.retain_keys taken.handles.attributes (λ q. not (is_member q (slots_of gs))) ≡ old.handles.attributes
  attributes_back =
      ap (λ (s : List ℕ). finmap.retain_keys taken.handles.attributes (λ q. not (is_member q s))) same_slots
      ∙ ap (λ (w : LoadingWorld). w.handles.attributes) (C.taken_away old is (all_slots choice) free_object (segments_of gs) (C.chosen 0 closure.found choice.handles choice.slots) taken (C.fold_named old (segments_of gs)))

  modules_back : fold finmap.remove (with_modules module_of gs old.modules) (handles_of gs) ≡ old.modules
  modules_back = ap (λ hs. fold finmap.remove (with_modules module_of gs old.modules) hs) same_handles ∙ names_back module_of closure.found choice.handles choice.slots old.modules free_module

  pub undone_by_release : fold without_module (loaded_on taken) choice.handles ≡ C.undone old choice heap
  undone_by_release =
      ap (λ hs. fold without_module (loaded_on taken) hs) (sym same_handles)
      ∙ all_go module_of owns gs (loaded_on taken)
      (Each-from (λ (g : Given). finmap.get (with_modules module_of gs old.modules) g.handle ≡ Some (Loaded (module_of g))) gs (λ g m. C.put_here module_of 0 closure.found choice.handles choice.slots old.modules differ g m))
      (given_apart 0 closure.found choice.handles choice.slots differ)
      ∙ ap (λ (w : LoadingWorld). without_given (loaded_on w) gs) (C.fold_named old (segments_of gs)).rest
      ∙ (λ i. record old {
        handles = record old.handles { heap = C.heap_without (λ q. is_member q (same_slots i)) heap; attributes = attributes_back i };
        modules = modules_back i;
      })

-- One goes before those that are left.
pub next_module : (now next : LoadingWorld) (handles : List ℕ) (i : ℕ) → i < length handles → next ≡ without_module now (C.get_or handles i 0) → fold without_module next (drop (i + 1) handles) ≡ fold without_module now (drop i handles)
next_module now next handles i lt gone =
    ap (λ w. fold without_module w (drop (i + 1) handles)) gone
    ∙ ap (fold _ now) (ap (λ k. C.get_or handles i 0 ∷ drop k handles) (C.add-one i) ∙ sym (C.drop-cons handles i 0 lt))
