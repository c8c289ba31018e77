-- Steps of naming as the code takes them.
use Rattle.w16_loader.proofs
use proofs.Common as C
use proofs.Common.{◌≡◌, ◌≢◌, ℕ, zero, suc, inl, inr, ◌+◌, ◌<◌, ◌≤◌, ◌==◌, if◌then◌else◌, List, [], ◌∷◌, ◌++◌, length, get_or, set, map, fold, zip, take, slice_get, Some, None, false, ◌/◌, All, refl, sym, ap, ◌∙◌, subst, arith, AllZip, length-take-le, Kind, Fixed, Owned, with_object}
use proofs.Common.{Handles, IsFreeSlot, Segment, LoadingWorld, Module, Modules, IsFreeModule, with_handles, free_slots, segments_in, Given, Found, in_world, IsFoundOf, Takes, GetsName, GetNames, unbound_by, IsFit, ◌*◌, ◌%◌}
use proofs.Takings.{takes_more, takes_back, fewer_slots, no_free_slots, zip_long}
use proofs.Namings.{one_more, names_back, slots_left, segments_before}
use proofs.FreeHandles.{all_of_first, apart_of_first}
use Rattle.std.specs.List.{AllByRecursion as Each}
use Rattle.std.specs.FinMap as finmap
use Rattle.w16_loading.specs.Closure as closing
use Rattle.w16_ne.specs.declared.segment_table.Segment as ne
use Rattle.w16_loading.specs.declared.LoadRefusal.TheVariants as refusals
use Rattle.w16_loader.specs.declared.fault.LoadFault.TheVariants as faults

abbrev pub some_world : LoadingWorld
some_world = C.empty_loading_world 0 0 [] 0

pub same_global : (a b : C.Global) → a.handles ≡ b.handles → a.written ≡ b.written → a ≡ b
same_global a b handles written = λ i. record { handles = handles i; written = written i }

-- why modules get no names
pub naming_fault : (fault : C.LoadFault) (handles : Handles) (count : ℕ) (P : C.LoadFault → Type 0) → C.IsNamingFault fault handles count → (length (free_slots handles) < count → P (faults.Refused refusals.NoRoom)) → P faults.OutOfMemory → P fault
naming_fault (faults.Refused refusals.NoRoom) handles count P is few none = few is
naming_fault faults.OutOfMemory handles count P is few none = none
naming_fault fault handles count P is few none = absurd is

-- One segment.

slot_taken : (kind : Kind) (slot handle s : ℕ) → handle ≡ C.handle_of kind slot → s ≡ handle / 8 → slot ≡ s
slot_taken Fixed slot handle s named is = omega arith
slot_taken C.Moveable slot handle s named is = omega arith
slot_taken C.Discardable slot handle s named is = omega arith

module _ (old new : Handles) (kind : Kind) (owned : Owned) (handle s : ℕ) (g : Segment) (t : C.TakesOwned old kind owned handle new) (is : s ≡ handle / 8) where
  here : t.slot ≡ s
  here = slot_taken kind t.slot handle s t.named is

  pub slot_free : IsFreeSlot old s
  slot_free = subst (IsFreeSlot old) here t.free

  pub segment_taken : kind ≡ g.kind → owned ≡ record { size = g.size; code = g.is_code } → (rest : LoadingWorld) → with_handles rest new ≡ C.with_segment (with_handles rest old) (s, g)
  segment_taken same owns rest =
      ap (with_handles rest) (t.rest ∙ (λ i. record old { heap = (t.entered.entered ∙ object) i; attributes = finmap.insert old.attributes (here i) (record { shared = false; owned = Some (owns i); slots = 1 }) }))
    where
      object : with_object old.heap t.slot (record { kind = kind; locks = 0; bytes = None }) ≡ with_object old.heap s (record { kind = g.kind; locks = 0; bytes = None })
      object = λ i. with_object old.heap (here i) (record { kind = same i; locks = 0; bytes = None })

-- Slots of one module.

pub slot_more : (slots : List ℕ) (gs : List Segment) (i s : ℕ) (g : Segment) (a b c : LoadingWorld) → i < length slots → slice_get gs i ≡ Some g → Takes a (zip (take i slots) gs) b → IsFreeSlot b.handles s → c ≡ C.with_segment b (s, g)
    → Takes a (zip (take (i + 1) (set slots i s)) gs) c
slot_more slots gs i s g a b c lt e taken free put =
    subst (λ ss. Takes a (zip ss gs) c) (sym (C.take_more_set slots i s lt))
    (takes_more _ gs s g a b c (ap (slice_get gs) (length-take-le i slots (omega (arith, lt))) ∙ e) taken free put)

each_more : (P : ℕ → Type 0) (xs : List ℕ) (y : ℕ) → Each P xs → P y → Each P (xs ++ y ∷ [])
each_more P [] y h p = (p, tt)
each_more P (x ∷ xs) y h p = (h.0, each_more P xs y h.1 p)

pub few_more : (slots : List ℕ) (i s : ℕ) → i < length slots → All (λ q. q < 8192) (take i slots) → s < 8192 → All (λ q. q < 8192) (take (i + 1) (set slots i s))
few_more slots i s lt few one =
    subst (All (λ q. q < 8192)) (sym (C.take_more_set slots i s lt))
    (C.All-from_Each (λ q. q < 8192) _ (each_more (λ q. q < 8192) _ s (C.Each-from_All (λ q. q < 8192) _ few) one))

first_more : {X : Type 0} (xs : List X) (k : ℕ) (x : X) → slice_get xs k ≡ Some x → take (k + 1) xs ≡ take k xs ++ x ∷ []
first_more {X} xs k x e = ap (λ n. take n xs) (C.add-one k) ∙ from xs k e
  where
    from : (xs : List X) (k : ℕ) → slice_get xs k ≡ Some x → take (suc k) xs ≡ take k xs ++ x ∷ []
    from [] k e = cc
    from (y ∷ xs) zero e = let same : y ≡ x = cc in (λ i. same i ∷ [])
    from (y ∷ xs) (suc k) e = ap (λ r. y ∷ r) (from xs k e)

-- segments that were read have sizes that fit
pub fits : (s : ne.Segment) → C.IsSized s → IsFit (C.segment_in s)
fits s is =
    let unit : C.SEGMENT_UNIT ≡ 32 = refl in
    let largest : C.LARGEST_SEGMENT ≡ 65536 = refl in
    let owned : C.LARGEST_OWNED ≡ 65536 = refl in
    record { some = omega (arith, is.some, unit); small = omega (arith, is.small, largest, owned); rounded = (s.size / 32, size_whole s.size is.whole) }
  where
    size_whole : (n : ℕ) → n % 32 ≡ 0 → n ≡ 32 * (n / 32)
    size_whole n e = omega (arith, e)

pub fit_more : (gs : List Segment) (i : ℕ) (g : Segment) → slice_get gs i ≡ Some g → All IsFit (take i gs) → IsFit g → All IsFit (take (i + 1) gs)
fit_more gs i g e all one = subst (All IsFit) (sym (first_more gs i g e)) (C.All-push IsFit _ g all one)

-- objects that were taken go again
pub all_back : (old between new : Handles) (slots : List ℕ) (gs : List Segment) → C.AreHandles old → length slots ≤ length gs → ((world : LoadingWorld) → Takes (with_handles world old) (zip slots gs) (with_handles world between))
    → ((world : LoadingWorld) → with_handles world new ≡ C.without_objects (λ q. C.is_member q slots) (with_handles world between)) → new ≡ old
all_back old between new slots gs is le taken gone =
    ap (λ w. w.handles) (gone some_world ∙ takes_back slots gs (with_handles some_world old) _ is le (taken some_world))

-- none was left for all
pub too_few : (old now : Handles) (slots : List ℕ) (gs : List Segment) → length slots < length gs → ((world : LoadingWorld) → Takes (with_handles world old) (zip slots gs) (with_handles world now)) → C.HasNoSlot now → length (free_slots old) < length gs
too_few old now slots gs lt taken none =
    let fewer = fewer_slots (zip slots gs) (with_handles some_world old) (with_handles some_world now) (taken some_world) in
    let zero = no_free_slots now none in
    let long = zip_long slots gs (omega (arith, lt)) in
    omega (arith, fewer, zero, long, lt)

-- One module.

pub module_named : (rest : LoadingWorld) (old between new : Handles) (before after : Modules) (handle : ℕ) (m : Module) → length m.slots ≡ length m.tables.segments → All IsFit m.tables.segments
    → ((world : LoadingWorld) → Takes (with_handles world old) (zip m.slots m.tables.segments) (with_handles world between)) → new ≡ between → after ≡ finmap.insert before handle (C.Loaded m)
    → GetsName (in_world (with_handles rest old) before) handle m (in_world (with_handles rest new) after)
module_named rest old between new before after handle m many fit taken same put = record {
  many = many;
  fit = fit;
  taken = subst (λ h. Takes (in_world (with_handles rest old) before) (zip m.slots m.tables.segments) (in_world (with_handles rest h) before)) (sym same) (taken (in_world rest before));
  named = put;
}

-- Modules one after another.

module _ {A : Type 0} where
  pub facing : (found : List (Found A)) (meant : List closing.Found) (k : ℕ) (f : Found A) → AllZip IsFoundOf found meant → slice_get found k ≡ Some f → (m : closing.Found) × (slice_get meant k ≡ Some m) × IsFoundOf f m
  facing [] meant k f all e = cc
  facing (g ∷ found) [] k f all e = absurd all
  facing (g ∷ found) (m ∷ meant) zero f all e = let same : g ≡ f = cc in (m, refl, subst (λ x. IsFoundOf x m) same all.0)
  facing (g ∷ found) (m ∷ meant) (suc k) f all e = facing found meant k f all.1 e

  pub as_many : (found : List (Found A)) (meant : List closing.Found) → AllZip IsFoundOf found meant → length found ≡ length meant
  as_many [] [] all = refl
  as_many [] (m ∷ meant) all = absurd all
  as_many (f ∷ found) [] all = absurd all
  as_many (f ∷ found) (m ∷ meant) all = ap suc (as_many found meant all.1)

  -- there is such a closure
  pub as_found : (found : List (Found A)) → AllZip IsFoundOf found (map (C.found_in []) found)
  as_found [] = tt
  as_found (f ∷ found) = ((refl, refl), as_found found)

  -- the module that the code makes is the one that is meant
  module _ (imports : ℕ → List ℕ) (k : ℕ) (f : Found A) (h uses : ℕ) (mine : List ℕ) (m : closing.Found) (is : IsFoundOf f m) (used : uses ≡ (if k == 0 then 1 else 0)) (imported : mine ≡ imports k) where
    abbrev made : List ℕ → Module
    made s = record { file = f.file.items; tables = C.tables_in f.module; uses = uses; slots = s; values = []; imports = mine }

    made_is : (s : List ℕ) → made s ≡ unbound_by imports (record { place = k; found = m; handle = h; slots = s })
    made_is s = λ i. record { file = sym is.0 i; tables = sym is.1 i; uses = used i; slots = s; values = []; imports = imported i }

    pub next_named : (old now next : LoadingWorld) (found : List (Found A)) (meant : List closing.Found) (handles : List ℕ) → AllZip IsFoundOf found meant → length handles ≡ length found → k < length found → slice_get meant k ≡ Some m → h ≡ get_or handles k 0
        → GetNames old (unbound_by imports) (take k meant) (take k handles) now → (s : List ℕ) × GetsName now h (made s) next
        → GetNames old (unbound_by imports) (take (k + 1) meant) (take (k + 1) handles) next
    next_named old now next found meant handles all same lt at here names one =
        let long : length found ≡ length meant = as_many found meant all in
        let some : length (take k meant) ≡ k = length-take-le k meant (omega (arith, lt, long)) in
        let other : length (take k handles) ≡ k = length-take-le k handles (omega (arith, lt, same)) in
        subst (λ hs. GetNames old (unbound_by imports) (take (k + 1) meant) hs next) (sym (first_more handles k h (C.slice_get-get_or handles k 0 (omega (arith, lt, same)) ∙ ap Some (sym here))))
        (subst (λ fs. GetNames old (unbound_by imports) fs (take k handles ++ h ∷ []) next) (sym (first_more meant k m at))
        (one_more imports old now next (take k meant) (take k handles) k m h one.0 (other ∙ sym some) (sym some) names (subst (λ x. GetsName now h x next) (made_is one.0) one.1)))

  -- They are all named, at the end.
  pub all_are_named : (old now : LoadingWorld) (module_of : Given → Module) (found : List (Found A)) (meant : List closing.Found) (handles : List ℕ) (k : ℕ) → AllZip IsFoundOf found meant → length handles ≡ length found → length found ≤ k
      → GetNames old module_of (take k meant) (take k handles) now → GetNames old module_of meant handles now
  all_are_named old now module_of found meant handles k all same le names =
      let long : length found ≡ length meant = as_many found meant all in
      subst (λ hs. GetNames old module_of meant hs now) (C.take_all k handles (omega (arith, same, le)))
      (subst (λ fs. GetNames old module_of fs (take k handles) now) (C.take_all k meant (omega (arith, long, le))) names)

  -- or those that have names go again, and nothing is left
  pub all_go_back : (old now new : Handles) (before between after : Modules) (module_of : Given → Module) (found : List (Found A)) (handles : List ℕ) (k : ℕ) → C.AreHandles old → ((g : Given) → (module_of g).slots ≡ g.slots)
      → length handles ≡ length found → k < length found → All (IsFreeModule before) handles → C.AllPairs ◌≢◌ handles
      → ((rest : LoadingWorld) (meant : List closing.Found) → AllZip IsFoundOf found meant → GetNames (in_world (with_handles rest old) before) module_of (take k meant) (take k handles) (in_world (with_handles rest now) between))
      → ((rest : LoadingWorld) → in_world (with_handles rest new) after ≡ fold C.without_module (in_world (with_handles rest now) between) (take k handles))
      → (after ≡ before) × (new ≡ old)
  all_go_back old now new before between after module_of found handles k is owns same lt free apart names gone = (ap (λ (w : LoadingWorld). w.modules) back, ap (λ (w : LoadingWorld). w.handles) back)
    where
      meant : List closing.Found
      meant = map (C.found_in []) found

      back : in_world (with_handles some_world new) after ≡ in_world (with_handles some_world old) before
      back =
          let long : length found ≡ length meant = as_many found meant (as_found found) in
          let some : length (take k meant) ≡ k = length-take-le k meant (omega (arith, lt, long)) in
          let other : length (take k handles) ≡ k = length-take-le k handles (omega (arith, lt, same)) in
          gone some_world ∙ names_back (in_world (with_handles some_world old) before) module_of (take k meant) (take k handles) (in_world (with_handles some_world now) between) (other ∙ sym some)
          (names some_world meant (as_found found)) (all_of_first (IsFreeModule before) k handles free) (apart_of_first k handles apart) is owns

  pub too_few_slots : (old now : Handles) (before between : Modules) (module_of : Given → Module) (found : List (Found A)) (meant : List closing.Found) (handles : List ℕ) (k : ℕ) (f : Found A) → slice_get found k ≡ Some f
      → AllZip IsFoundOf found meant → length handles ≡ length found → k < length found
      → GetNames (in_world (with_handles some_world old) before) module_of (take k meant) (take k handles) (in_world (with_handles some_world now) between) → length (free_slots now) < length f.module.segments → length (free_slots old) < segments_in meant
  too_few_slots old now before between module_of found meant handles k f at all same lt names few =
      let m : (m : closing.Found) × (slice_get meant k ≡ Some m) × IsFoundOf f m = facing found meant k f all at in
      let long : length found ≡ length meant = as_many found meant all in
      let some : length (take k meant) ≡ k = length-take-le k meant (omega (arith, lt, long)) in
      let other : length (take k handles) ≡ k = length-take-le k handles (omega (arith, lt, same)) in
      let left : length (free_slots old) ≡ length (free_slots now) + segments_in (take k meant) = slots_left (in_world (with_handles some_world old) before) module_of (take k meant) (take k handles) (in_world (with_handles some_world now) between) (other ∙ sym some) names in
      let parts : segments_in (take k meant) + length m.0.read.tables.segments ≤ segments_in meant = segments_before meant k m.0 m.1 in
      let many : length m.0.read.tables.segments ≡ length f.module.segments = ap (λ (t : C.Tables). length t.segments) m.2.1 ∙ C.length-map f.module.segments C.segment_in in
      omega (arith, few, left, parts, many)

-- the module of a turn
pub at_turn : {X : Type 0} (xs : List X) (n place : ℕ) (x : X) → n < length (C.enumerate_from 0 xs) → ◌≡◌ {A = ℕ × X} (place, x) (get_or (C.enumerate_from 0 xs) n (place, x)) → (n < length xs) × (place ≡ n) × (slice_get xs n ≡ Some x)
at_turn {X} xs n place x lt is =
    let less : n < length xs = omega (arith, lt, C.length-enumerate_from 0 xs) in
    let both : ◌≡◌ {A = ℕ × X} (place, x) (0 + n, get_or xs n x) = is ∙ C.get_or-enumerate_from 0 xs n _ less in
    let first = ap (λ p. p.0) both in
    (less, omega (arith, first), C.slice_get-get_or xs n x less ∙ ap Some (sym (ap (λ p. p.1) both)))

-- The next handle is still free.

member_at : (hs : List ℕ) (k : ℕ) → k < length hs → C.Member (get_or hs k 0) hs
member_at [] k lt = absurd (omega (arith, lt))
member_at (h ∷ hs) zero lt = inl refl
member_at (h ∷ hs) (suc k) lt = inr (member_at hs k (omega (arith, lt)))

not_before : (hs : List ℕ) (k q : ℕ) → C.EachPair (λ a b. a ≢ b) hs → k < length hs → C.Member q (take k hs) → get_or hs k 0 ≢ q
not_before [] k q differ lt m e = absurd (omega (arith, lt))
not_before (h ∷ hs) zero q differ lt m e = absurd m
not_before (h ∷ hs) (suc k) q differ lt (inl f) e = C.Each-at (λ b. h ≢ b) hs differ.0 (get_or hs k 0) (member_at hs k (omega (arith, lt))) (sym f ∙ sym e)
not_before (h ∷ hs) (suc k) q differ lt (inr m) e = not_before hs k q differ.1 (omega (arith, lt)) m e

pub next_free : (old now : LoadingWorld) (module_of : Given → Module) (fs : List closing.Found) (handles : List ℕ) (k : ℕ) → k < length handles → All (IsFreeModule old.modules) handles → C.AllPairs ◌≢◌ handles → GetNames old module_of fs (take k handles) now
    → IsFreeModule now.modules (get_or handles k 0)
next_free old now module_of fs handles k lt free apart names =
    let was = C.Each-at (IsFreeModule _) handles (C.Each-from_All _ handles free) (get_or handles k 0) (member_at handles k lt) in (
      was.0,
      was.1,
      ap (λ m. finmap.get m (get_or handles k 0)) names.named
          ∙ C.put_all module_of (C.given_from 0 fs _ _) old.modules (get_or handles k 0) (λ g m. not_before handles k g.handle (C.EachPair-from_AllPairs (λ a b. a ≢ b) handles apart) lt (C.given_handle 0 fs _ _ g m))
          ∙ was.2,
    )
