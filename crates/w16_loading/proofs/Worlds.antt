-- A world follows another where its modules and loads of resources are of those that were there, and their objects with them.
use Rattle.w16_loading.proofs
use proofs.Common.{◌≡◌, ℕ, ◌+◌, ◌-◌, ◌<◌, ◌≤◌, inl, inr, ◌⊎◌, Bool, true, false, List, [], ◌∷◌, Option, Some, None, IfSome, IsSomeAnd, is_some, slice_get, refl, sym, ap, ◌∙◌, subst, AllZip, false≢true, Kind, Owned, object_at, AreHandles, rounded_size, owned_at, Member, is_named}
use proofs.Common.{FIRST_MODULE, MOST_MODULES, MOST_USES, Tables, Segment, Resource, numbered, LoadingWorld, Load, Module, Modules, Named, IsSegmentOf, IsResourceOf, name_of, module_at, usage, IsLoadingWorld, is_too_long, IsModule, IsObjectOf, IsLoad}
use proofs.Owners.{loaded_of, of_resource, segment_object, resource_object}
use proofs.Given.{place_member}
use Rattle.std.specs.FinMap as finmap

-- a module of two sets of modules, with the same slots and tables
pub record SameModule (m before : Module) : Type 0 where
  pub slots : m.slots ≡ before.slots
  pub tables : m.tables ≡ before.tables

pub same_module : (m : Module) → SameModule m m
same_module m = record { slots = refl; tables = refl }

-- each handle's range
abbrev pub IsNumber : ℕ → Type 0
IsNumber handle = (FIRST_MODULE ≤ handle) × (handle < FIRST_MODULE + MOST_MODULES)

abbrev pub AreNamesApart : Modules → Type 0
AreNamesApart modules = (a b : ℕ) (m n : Named) → finmap.get modules a ≡ Some m → finmap.get modules b ≡ Some n → is_named (name_of m) (name_of n) ≡ true → a ≡ b

-- a module that is there, with the slots and tables of one that was
abbrev pub IsStill : Modules → ℕ → Module → Type 0
IsStill modules handle before = (m : Module) × (module_at modules handle ≡ Some m) × SameModule m before

abbrev pub HasOwner : LoadingWorld → ℕ → Type 0
HasOwner world slot = (handle number : ℕ) × (m : Module) × (IsSegmentOf world slot handle number m ⊎ IsResourceOf world slot handle number m)

-- A world extends another where each module and each load was there, or is new; what is new has objects where there were none.
pub record Extends (NewModule : ℕ → Module → Type 0) (NewLoad : ℕ → Load → Type 0) (old new : LoadingWorld) : Type 0 where
  pub handles : AreHandles new.handles
  pub numbers : (handle : ℕ) → IfSome (finmap.get new.modules handle) (λ _. IsNumber handle)
  pub names : AreNamesApart new.modules
  -- each module that was there is in use
  pub sources : (handle : ℕ) (m : Module) → module_at new.modules handle ≡ Some m → ((before : Module) × (module_at old.modules handle ≡ Some before) × SameModule m before) ⊎ NewModule handle m
  pub used : (handle : ℕ) (m before : Module) → module_at new.modules handle ≡ Some m → module_at old.modules handle ≡ Some before → (0 < usage new.modules handle) × (m.uses ≤ MOST_USES)
  -- each load that was there is of a module that still is
  pub loads : (slot : ℕ) (load : Load) → finmap.get new.loads slot ≡ Some load
      → ((count : ℕ) × (finmap.get old.loads slot ≡ Some (record load { loads = count })) × (0 < load.loads) × (load.loads ≤ MOST_USES)) ⊎ NewLoad slot load
  pub still : (slot : ℕ) (load : Load) (before : Module) → finmap.get new.loads slot ≡ Some load → module_at old.modules load.handle ≡ Some before → IsStill new.modules load.handle before
  -- their objects are as they were
  pub of_segments : (handle : ℕ) (m : Module) (slot : ℕ) (kind : Kind) (size : ℕ) (code : Bool) → module_at new.modules handle ≡ Some m → Member slot m.slots → IsObjectOf old slot kind size code → IsObjectOf new slot kind size code
  pub of_loads : (slot : ℕ) (load : Load) (kind : Kind) (size : ℕ) (code : Bool) → finmap.get new.loads slot ≡ Some load → IsObjectOf old slot kind size code → IsObjectOf new slot kind size code
  pub owners : (slot : ℕ) → is_some (owned_at new.handles slot) ≡ true → HasOwner new slot
  -- new modules have their objects, each one's own
  pub new_module : (handle : ℕ) (m : Module) → NewModule handle m → IsModule new handle m
  pub new_slots : (handle : ℕ) (m : Module) (slot : ℕ) → NewModule handle m → Member slot m.slots → object_at old.handles.heap slot ≡ None
  pub one_new : (slot a i b j : ℕ) (m n : Module) → NewModule a m → NewModule b n → IsSegmentOf new slot a i m → IsSegmentOf new slot b j n → (a ≡ b) × (i ≡ j)
  -- and so have new loads, of places that none was of
  pub new_load : (slot : ℕ) (load : Load) → NewLoad slot load → IsLoad new slot load × (object_at old.handles.heap slot ≡ None)
  pub new_place : (s t : ℕ) (load other : Load) → NewLoad s load → other.handle ≡ load.handle → other.place ≡ load.place → (NewLoad t other → s ≡ t) × ((count : ℕ) → finmap.get old.loads t ≡ Some (record other { loads = count }) → ⊥)
  pub apart : (handle slot : ℕ) (m : Module) (load : Load) → NewModule handle m → NewLoad slot load → ⊥

module _ (NewModule : ℕ → Module → Type 0) (NewLoad : ℕ → Load → Type 0) (old new : LoadingWorld) (is : IsLoadingWorld old) (f : Extends NewModule NewLoad old new) where
  segments : (slots : List ℕ) (gs : List Segment) → ((slot : ℕ) (kind : Kind) (size : ℕ) (code : Bool) → Member slot slots → IsObjectOf old slot kind size code → IsObjectOf new slot kind size code)
      → AllZip (λ slot (g : Segment). IsObjectOf old slot g.kind g.size g.is_code) slots gs → AllZip (λ slot (g : Segment). IsObjectOf new slot g.kind g.size g.is_code) slots gs
  segments [] [] stay h = tt
  segments [] (g ∷ gs) stay h = absurd h
  segments (q ∷ qs) [] stay h = absurd h
  segments (q ∷ qs) (g ∷ gs) stay h = (stay q g.kind g.size g.is_code (inl refl) h.0, segments qs gs (λ k kind size code m. stay k kind size code (inr m)) h.1)

  module_is : (handle : ℕ) (p : Option Module) → module_at new.modules handle ≡ p → IfSome p (IsModule new handle)
  module_is handle None e = tt
  module_is handle (Some m) e = elim (f.sources handle m e) [ inl was ↦ stays was | inr new ↦ f.new_module handle m new ]
    where
      stays : (before : Module) × (module_at old.modules handle ≡ Some before) × SameModule m before → IsModule new handle m
      stays was =
          let sound : IsModule old handle was.0 = subst (λ p. IfSome p (IsModule old handle)) was.1 (is.modules handle) in
          record {
            segments = segments m.slots m.tables.segments (λ q kind size code k. f.of_segments handle m q kind size code e k)
                (subst (λ (t : Tables). AllZip (λ slot (g : Segment). IsObjectOf old slot g.kind g.size g.is_code) m.slots t.segments) (sym was.2.tables)
                (subst (λ s. AllZip (λ slot (g : Segment). IsObjectOf old slot g.kind g.size g.is_code) s was.0.tables.segments) (sym was.2.slots) sound.segments));
            used = (f.used handle m was.0 e was.1).0;
            full = (f.used handle m was.0 e was.1).1;
          }

  load_is : (slot : ℕ) (p : Option Load) → finmap.get new.loads slot ≡ p → IfSome p (IsLoad new slot)
  load_is slot None e = tt
  load_is slot (Some load) e = elim (f.loads slot load e) [ inl was ↦ stays was | inr new ↦ (f.new_load slot load new).0 ]
    where
      turn : (q : Option Resource) → IsSomeAnd q (λ r. IsObjectOf old slot r.kind (rounded_size r.length_in) false) → IsSomeAnd q (λ r. IsObjectOf new slot r.kind (rounded_size r.length_in) false)
      turn None h = absurd h
      turn (Some r) h = f.of_loads slot load r.kind (rounded_size r.length_in) false e h

      stays : (count : ℕ) × (finmap.get old.loads slot ≡ Some (record load { loads = count })) × (0 < load.loads) × (load.loads ≤ MOST_USES) → IsLoad new slot load
      stays was =
          let before : (m : Module) × IsResourceOf old slot load.handle load.place m = loaded_of old is slot (record load { loads = was.0 }) was.1 in
          let now : (m : Module) × (module_at new.modules load.handle ≡ Some m) × SameModule m before.0 = f.still slot load before.0 e before.1.loaded in
          let sound : IsLoad old slot (record load { loads = was.0 }) = subst (λ p. IfSome p (IsLoad old slot)) was.1 (is.loads slot) in
          record {
            short = subst (λ p. IfSome (elim p as (λ _. Option Resource) [ None ↦ None | Some n ↦ numbered n.tables.resources load.place ]) (λ r. is_too_long r ≡ false)) (sym now.1)
                (subst (λ (t : Tables). IfSome (numbered t.resources load.place) (λ r. is_too_long r ≡ false)) (sym now.2.tables)
                (subst (λ p. IfSome (elim p as (λ _. Option Resource) [ None ↦ None | Some n ↦ numbered n.tables.resources load.place ]) (λ r. is_too_long r ≡ false)) before.1.loaded sound.short));
            resource = subst (λ p. IsSomeAnd (elim p as (λ _. Option Resource) [ None ↦ None | Some n ↦ numbered n.tables.resources load.place ]) (λ r. IsObjectOf new slot r.kind (rounded_size r.length_in) false)) (sym now.1)
                (subst (λ (t : Tables). IsSomeAnd (numbered t.resources load.place) (λ r. IsObjectOf new slot r.kind (rounded_size r.length_in) false)) (sym now.2.tables)
                (turn (numbered before.0.tables.resources load.place) (of_resource old is slot load.handle load.place before.0 before.1)));
            used = was.2;
            full = was.3;
          }

  segment_was : (slot handle number : ℕ) (m : Module) → IsSegmentOf new slot handle number m → ((before : Module) × IsSegmentOf old slot handle number before) ⊎ NewModule handle m
  segment_was slot handle number m s = elim (f.sources handle m s.loaded) [
    | inl was ↦ inl (was.0, record { loaded = was.1; has = (s.has.0, ap (λ q. slice_get q (number - 1)) (sym was.2.slots) ∙ s.has.1) })
    | inr new ↦ inr new
  ]

  -- a load that was there is of a module that was
  resource_was : (slot handle place : ℕ) (m : Module) → (r : IsResourceOf new slot handle place m) → ((before : Module) × IsResourceOf old slot handle place before) ⊎ NewLoad slot (record { handle = handle; place = place; loads = r.loads })
  resource_was slot handle place m r = elim (f.loads slot (record { handle = handle; place = place; loads = r.loads }) r.has) [
    | inl was ↦ inl (loaded_of old is slot (record { handle = handle; place = place; loads = was.0 }) was.1)
    | inr new ↦ inr new
  ]

  -- an object that was there is no new one
  no_object : {A : Type 0} (slot : ℕ) → object_at old.handles.heap slot ≡ None → is_some (object_at old.handles.heap slot) ≡ true → A
  no_object slot none some = absurd (false≢true (sym (ap is_some none) ∙ some))

  its_slot : (slot handle number : ℕ) (m : Module) → NewModule handle m → IsSegmentOf new slot handle number m → object_at old.handles.heap slot ≡ None
  its_slot slot handle number m x s = f.new_slots handle m slot x (place_member m.slots (number - 1) slot s.has.1)

  one_segment : (slot a i b j : ℕ) (m n : Module) → IsSegmentOf new slot a i m → IsSegmentOf new slot b j n → (a ≡ b) × (i ≡ j)
  one_segment slot a i b j m n s t = turn (segment_was slot a i m s) (segment_was slot b j n t)
    where
      turn : ((before : Module) × IsSegmentOf old slot a i before) ⊎ NewModule a m → ((before : Module) × IsSegmentOf old slot b j before) ⊎ NewModule b n → (a ≡ b) × (i ≡ j)
      turn (inl x) (inl y) = is.one_segment slot a i b j x.0 y.0 x.1 y.1
      turn (inl x) (inr y) = no_object slot (its_slot slot b j n y t) (segment_object old is slot a i x.0 x.1)
      turn (inr x) (inl y) = no_object slot (its_slot slot a i m x s) (segment_object old is slot b j y.0 y.1)
      turn (inr x) (inr y) = f.one_new slot a i b j m n x y s t

  one_object : (s t handle place : ℕ) (m n : Module) → IsResourceOf new s handle place m → IsResourceOf new t handle place n → s ≡ t
  one_object s t handle place m n x y = turn (resource_was s handle place m x) (resource_was t handle place n y)
    where
      turn : ((before : Module) × IsResourceOf old s handle place before) ⊎ NewLoad s (record { handle = handle; place = place; loads = x.loads })
          → ((before : Module) × IsResourceOf old t handle place before) ⊎ NewLoad t (record { handle = handle; place = place; loads = y.loads }) → s ≡ t
      turn (inl u) (inl v) = is.one_object s t handle place u.0 v.0 u.1 v.1
      turn (inl u) (inr v) = absurd ((f.new_place t s _ (record { handle = handle; place = place; loads = x.loads }) v refl refl).1 u.1.loads u.1.has)
      turn (inr u) (inl v) = absurd ((f.new_place s t _ (record { handle = handle; place = place; loads = y.loads }) u refl refl).1 v.1.loads v.1.has)
      turn (inr u) (inr v) = (f.new_place s t _ (record { handle = handle; place = place; loads = y.loads }) u refl refl).0 v

  no_resource : (slot a i b j : ℕ) (m n : Module) → IsSegmentOf new slot a i m → IsResourceOf new slot b j n → ⊥
  no_resource slot a i b j m n s r = turn (segment_was slot a i m s) (resource_was slot b j n r)
    where
      turn : ((before : Module) × IsSegmentOf old slot a i before) ⊎ NewModule a m → ((before : Module) × IsResourceOf old slot b j before) ⊎ NewLoad slot (record { handle = b; place = j; loads = r.loads }) → ⊥
      turn (inl x) (inl y) = is.no_resource slot a i b j x.0 y.0 x.1 y.1
      turn (inl x) (inr y) = no_object slot (f.new_load slot _ y).1 (segment_object old is slot a i x.0 x.1)
      turn (inr x) (inl y) = no_object slot (its_slot slot a i m x s) (resource_object old is slot b j y.0 y.1)
      turn (inr x) (inr y) = f.apart a slot m _ x y

  owner_is : (slot : ℕ) (p : Option Owned) → owned_at new.handles slot ≡ p → IfSome p (λ _. HasOwner new slot)
  owner_is slot None e = tt
  owner_is slot (Some o) e = f.owners slot (ap is_some e)

  pub extends : IsLoadingWorld new
  extends = record {
    handles = f.handles;
    numbers = f.numbers;
    names = f.names;
    modules = λ handle. module_is handle (module_at new.modules handle) refl;
    loads = λ slot. load_is slot (finmap.get new.loads slot) refl;
    one_segment = one_segment;
    one_object = one_object;
    no_resource = no_resource;
    owners = λ slot. owner_is slot (owned_at new.handles slot) refl;
  }

-- A world follows another where nothing is new.
pub record Follows (old new : LoadingWorld) : Type 0 where
  pub handles : AreHandles new.handles
  pub numbers : (handle : ℕ) → IfSome (finmap.get new.modules handle) (λ _. IsNumber handle)
  pub names : AreNamesApart new.modules
  pub sources : (handle : ℕ) (m : Module) → module_at new.modules handle ≡ Some m → (before : Module) × (module_at old.modules handle ≡ Some before) × SameModule m before
  pub used : (handle : ℕ) (m : Module) → module_at new.modules handle ≡ Some m → (0 < usage new.modules handle) × (m.uses ≤ MOST_USES)
  pub loads : (slot : ℕ) (load : Load) → finmap.get new.loads slot ≡ Some load → (count : ℕ) × (finmap.get old.loads slot ≡ Some (record load { loads = count })) × (0 < load.loads) × (load.loads ≤ MOST_USES)
  pub still : (slot : ℕ) (load : Load) (before : Module) → finmap.get new.loads slot ≡ Some load → module_at old.modules load.handle ≡ Some before → IsStill new.modules load.handle before
  pub of_segments : (handle : ℕ) (m : Module) (slot : ℕ) (kind : Kind) (size : ℕ) (code : Bool) → module_at new.modules handle ≡ Some m → Member slot m.slots → IsObjectOf old slot kind size code → IsObjectOf new slot kind size code
  pub of_loads : (slot : ℕ) (load : Load) (kind : Kind) (size : ℕ) (code : Bool) → finmap.get new.loads slot ≡ Some load → IsObjectOf old slot kind size code → IsObjectOf new slot kind size code
  pub owners : (slot : ℕ) → is_some (owned_at new.handles slot) ≡ true → HasOwner new slot

pub follows : (old new : LoadingWorld) → IsLoadingWorld old → Follows old new → IsLoadingWorld new
follows old new is f = extends (λ _ _. ⊥) (λ _ _. ⊥) old new is (record {
  handles = f.handles;
  numbers = f.numbers;
  names = f.names;
  sources = λ handle m e. inl (f.sources _ m e);
  used = λ handle m before e at. f.used _ m e;
  loads = λ slot load e. inl (f.loads _ _ e);
  still = f.still;
  of_segments = f.of_segments;
  of_loads = f.of_loads;
  owners = f.owners;
  new_module = λ handle m x. absurd x;
  new_slots = λ handle m slot x k. absurd x;
  one_new = λ slot a i b j m n x y s t. absurd x;
  new_load = λ slot load x. absurd x;
  new_place = λ s t load other x e g. absurd x;
  apart = λ handle slot m load x y. x;
})

-- what holds of the modules of a world, and of its loads
module _ (old : LoadingWorld) (is : IsLoadingWorld old) where
  pub is_used : (handle : ℕ) (m : Module) → module_at old.modules handle ≡ Some m → (0 < usage old.modules handle) × (m.uses ≤ MOST_USES)
  is_used handle m e = let sound : IsModule old handle m = subst (λ p. IfSome p (IsModule old handle)) e (is.modules handle) in (sound.used, sound.full)

  pub is_load : (slot : ℕ) (load : Load) → finmap.get old.loads slot ≡ Some load → (0 < load.loads) × (load.loads ≤ MOST_USES)
  is_load slot load e = let sound : IsLoad old slot load = subst (λ p. IfSome p (IsLoad old slot)) e (is.loads slot) in (sound.used, sound.full)

  -- an owner stays where every module and every load does
  pub owner_stays : (new : LoadingWorld) → ((handle : ℕ) (m : Module) → module_at old.modules handle ≡ Some m → IsStill new.modules handle m)
      → ((slot : ℕ) (load : Load) → finmap.get old.loads slot ≡ Some load → (count : ℕ) × (finmap.get new.loads slot ≡ Some (record load { loads = count })))
      → (slot : ℕ) → is_some (owned_at old.handles slot) ≡ true → HasOwner new slot
  owner_stays new still loads slot t = turn (owned_at old.handles slot) t (is.owners slot)
    where
      by : HasOwner old slot → HasOwner new slot
      by (handle, number, m, inl s) =
          let n : (n : Module) × (module_at new.modules handle ≡ Some n) × SameModule n m = still handle m s.loaded in
          (handle, number, n.0, inl (record { loaded = n.1; has = (s.has.0, ap (λ q. slice_get q (number - 1)) n.2.slots ∙ s.has.1) }))
      by (handle, number, m, inr r) =
          let n : (n : Module) × (module_at new.modules handle ≡ Some n) × SameModule n m = still handle m r.loaded in
          let l : (count : ℕ) × (finmap.get new.loads slot ≡ Some (record { handle = handle; place = number; loads = count })) = loads slot (record { handle = handle; place = number; loads = r.loads }) r.has in
          (handle, number, n.0, inr (record { loaded = n.1; loads = l.0; has = l.1 }))

      turn : (p : Option Owned) → is_some p ≡ true → IfSome p (λ _. HasOwner old slot) → HasOwner new slot
      turn None t h = absurd (false≢true t)
      turn (Some o) t h = by h
