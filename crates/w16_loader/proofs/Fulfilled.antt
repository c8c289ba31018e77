-- Modules bound and filled one after another are those that loading binds and fills at once.
use Rattle.w16_loader.proofs.Common as C
use Rattle.w16_loader.proofs.Common.{◌≡◌, ◌≢◌, ℕ, ◌+◌, inl, inr, List, [], ◌∷◌, ◌++◌, length, map, Some, None, refl, sym, ap, ◌∙◌, arith, cases_eq, Member, inserted_here, inserted_other, targets_of, Module, Modules, Named, module_at, Loaded, Given, given_from, with_modules, fills_with}
use Rattle.std.specs.List.{AllByRecursion as Each, flat_map}
use Rattle.w16_loading.specs.{Closure.Found, Naming.bound_in}
use Rattle.std.specs.FinMap as finmap

-- Modules under other handles than one that is put.

alike : (f : Given → Module) (gs : List Given) (x y : Modules) (q : ℕ) → finmap.get x q ≡ finmap.get y q → finmap.get (with_modules f gs x) q ≡ finmap.get (with_modules f gs y) q
alike f [] x y q e = e
alike f (g ∷ gs) x y q e = alike f gs _ _ q (elim (cases_eq q _) [
  | inl d ↦ inserted_here x _ _ q d ∙ sym (inserted_here y _ _ q d)
  | inr d ↦ inserted_other x _ _ q d ∙ e ∙ sym (inserted_other y _ _ q d)
])

insert_first : (f : Given → Module) (gs : List Given) (x : Modules) (h : ℕ) (n : Named) → ((g : Given) → Member g gs → h ≢ g.handle)
    → finmap.insert (with_modules f gs x) h n ≡ with_modules f gs (finmap.insert x h n)
insert_first f gs x h n out = C.same_values _ _ (λ q. elim (cases_eq q h) [
  | inl e ↦ inserted_here _ h n q e ∙ sym (ap (finmap.get _) e ∙ C.put_all f gs _ h out ∙ inserted_here x h n h refl)
  | inr d ↦ inserted_other _ h n q d ∙ alike f gs x _ q (sym (inserted_other x h n q d))
])

insert_twice : (x : Modules) (h : ℕ) (m n : Named) → finmap.insert (finmap.insert x h m) h n ≡ finmap.insert x h n
insert_twice x h m n = C.same_values _ _ (λ q. elim (cases_eq q h) [
  | inl e ↦ inserted_here _ h n q e ∙ sym (inserted_here x h n q e)
  | inr d ↦ inserted_other _ h n q d ∙ inserted_other x h m q d ∙ sym (inserted_other x h n q d)
])

-- what a handle names that none of these is under, and what it names that is put first
here : (f : Given → Module) (gs : List Given) (x : Modules) (h : ℕ) (m : Module) → ((g : Given) → Member g gs → h ≢ g.handle) → module_at (with_modules f gs (finmap.insert x h (Loaded m))) h ≡ Some m
here f gs x h m out = ap C.module_in (C.put_all f gs _ h out ∙ inserted_here x h _ h refl)

others : (place : ℕ) (fs : List Found) (hs : List ℕ) (ss : List (List ℕ)) (h : ℕ) → Each (λ b. h ≢ b) hs → (g : Given) → Member g (given_from place fs hs ss) → h ≢ g.handle
others place fs hs ss h differ g m = C.Each-at (λ b. h ≢ b) hs differ _ (C.given_handle place fs hs ss g m)

module _ (look : C.Lookup) (first : Given → Module) where
  -- a module bound by these look-ups
  abbrev pub last : Given → Module
  last g = bound_in look (first g) g.found.read.segments

  abbrev pub targets_in : List Found → List (List (List C.Target))
  targets_in fs = map (λ (f : Found). map targets_of f.read.segments) fs

  values_are : (m : Module) (ss : List C.SegmentData) → C.values_for look m (map targets_of ss) ≡ map (λ s. map (C.value_of look m) (targets_of s)) ss
  values_are m [] = refl
  values_are m (s ∷ ss) = ap (λ vs. map (C.value_of look m) (targets_of s) ∷ vs) (values_are m ss)

  one_bound : (modules : Modules) (g : Given) → module_at modules g.handle ≡ Some (first g) → C.bound_as look modules g.handle (map targets_of g.found.read.segments) ≡ finmap.insert modules g.handle (Loaded (last g))
  one_bound modules g there =
      ap (λ (p : C.Option Module). elim p as (λ _. Modules) [ None ↦ modules | Some m ↦ finmap.insert modules g.handle (Loaded (record m { values = C.values_for look m (map targets_of g.found.read.segments) })) ]) there
      ∙ ap (λ vs. finmap.insert modules g.handle (Loaded (record (first g) { values = vs }))) (values_are (first g) g.found.read.segments)

  -- one after another, or at once
  pub all_bound_are : (place : ℕ) (fs : List Found) (hs : List ℕ) (ss : List (List ℕ)) (old : Modules) → C.EachPair (λ a b. a ≢ b) hs → length hs ≡ length fs → length ss ≡ length fs
      → C.all_bound look (with_modules first (given_from place fs hs ss) old) hs (targets_in fs) ≡ with_modules last (given_from place fs hs ss) old
  all_bound_are place [] [] ss old apart many long = refl
  all_bound_are place [] (h ∷ hs) ss old apart many long = absurd (omega arith)
  all_bound_are place (f ∷ fs) [] ss old apart many long = absurd (omega arith)
  all_bound_are place (f ∷ fs) (h ∷ hs) [] old apart many long = absurd (omega arith)
  all_bound_are place (f ∷ fs) (h ∷ hs) (s ∷ ss) old apart many long =
      let g : Given = record { place = place; found = f; handle = h; slots = s } in
      let gs : List Given = given_from (place + 1) fs hs ss in
      let out = others (place + 1) fs hs ss h apart.0 in
      ap (λ (x : Modules). C.all_bound look x hs (targets_in fs)) (
      one_bound (with_modules first gs (finmap.insert old h (Loaded (first g)))) g (here first gs old h (first g) out)
      ∙ insert_first first gs (finmap.insert old h (Loaded (first g))) h (Loaded (last g)) out
      ∙ ap (with_modules first gs) (insert_twice old h (Loaded (first g)) (Loaded (last g)))
      )
      ∙ all_bound_are (place + 1) fs hs ss (finmap.insert old h (Loaded (last g))) apart.1 (omega arith) (omega arith)

-- what gets bytes
pub fills_are : (module_of : Given → Module) → ((g : Given) → (module_of g).slots ≡ g.slots) → ((g : Given) → (module_of g).tables ≡ g.found.read.tables) → (modules : Modules)
    (place : ℕ) (fs : List Found) (hs : List ℕ) (ss : List (List ℕ)) → ((g : Given) → Member g (given_from place fs hs ss) → module_at modules g.handle ≡ Some (module_of g)) → length hs ≡ length fs → length ss ≡ length fs
    → fills_with modules place hs (map (λ f. f.read) fs) ≡ flat_map (C.fills_of module_of) (given_from place fs hs ss)
fills_are module_of slots tables modules place [] [] ss there many long = refl
fills_are module_of slots tables modules place [] (h ∷ hs) ss there many long = absurd (omega arith)
fills_are module_of slots tables modules place (f ∷ fs) [] ss there many long = absurd (omega arith)
fills_are module_of slots tables modules place (f ∷ fs) (h ∷ hs) [] there many long = absurd (omega arith)
fills_are module_of slots tables modules place (f ∷ fs) (h ∷ hs) (s ∷ ss) there many long =
    let g : Given = record { place = place; found = f; handle = h; slots = s } in
    let m = module_of g in
    let reads = map (λ x. x.read) fs in
    ap (λ p. elim p as (λ _. List C.Filling) [ None ↦ [] | Some n ↦ C.fills_from place n.slots n.tables.segments f.read.segments n.values ] ++ fills_with modules (place + 1) hs reads) (there g (inl refl))
    ∙ (λ i. C.fills_from place (slots g i) ((tables g i).segments) f.read.segments m.values ++ fills_with modules (place + 1) hs reads)
    ∙ ap (λ xs. C.fills_of module_of g ++ xs) (fills_are module_of slots tables modules (place + 1) fs hs ss (λ x n. there x (inr n)) (omega arith) (omega arith))
