-- What each segment and each resource has: an object, whose owner it is.
use Rattle.w16_loading.proofs
use proofs.Common as C
use proofs.Common.{◌≡◌, ℕ, ◌+◌, ◌-◌, ◌<◌, ◌==◌, inl, inr, ◌⊎◌, Bool, true, false, List, [], ◌∷◌, Option, Some, None, IfSome, IsSomeAnd, is_some, position, slice_get, refl, sym, ap, ◌∙◌, subst, arith, false≢true, Kind, Owned, object_at, rounded_size, owned_at, Member, Segment, Resource}
use proofs.Common.{numbered, LoadingWorld, Load, Module, Named, IsSegmentOf, IsResourceOf, Loaded, IsLoadingWorld, IsObjectOf, IsLoad, Owner, IsOwnerOf, segment_among, Script, OfSegment, OfResource}
use proofs.Given.{loaded_is, place_member, no_place}
use proofs.Importers.{entry_there, there_entry}
use Rattle.std.specs.FinMap as finmap

module _ (world : LoadingWorld) (is : IsLoadingWorld world) (slot handle number : ℕ) (m : Module) where
  pub of_segment : IsSegmentOf world slot handle number m → IsSomeAnd (slice_get m.tables.segments (number - 1)) (λ g. IsObjectOf world slot g.kind g.size g.is_code)
  of_segment s = subst (λ p. C.MatchOption p (Unit {0}) (λ q. IsSomeAnd (slice_get m.tables.segments (number - 1)) (λ g. IsObjectOf world q g.kind g.size g.is_code))) s.has.1
      (C.AllZip-left (λ q (g : Segment). IsObjectOf world q g.kind g.size g.is_code) m.slots m.tables.segments sound.segments (number - 1))
    where
      sound : C.IsModule world handle m
      sound = subst (λ p. IfSome p (C.IsModule world handle)) s.loaded (is.modules handle)

  pub of_resource : IsResourceOf world slot handle number m → IsSomeAnd (numbered m.tables.resources number) (λ r. IsObjectOf world slot r.kind (rounded_size r.length_in) false)
  of_resource r = subst (λ p. IsSomeAnd (elim p as (λ _. Option Resource) [ None ↦ None | Some n ↦ numbered n.tables.resources number ]) (λ x. IsObjectOf world slot x.kind (rounded_size x.length_in) false)) r.loaded sound.resource
    where
      sound : IsLoad world slot (record { handle = handle; place = number; loads = r.loads })
      sound = subst (λ p. IfSome p (IsLoad world slot)) r.has (is.loads slot)

-- so its object is there, and a module's
pub object_there : (world : LoadingWorld) (slot : ℕ) (kind : Kind) (size : ℕ) (code : Bool) → IsObjectOf world slot kind size code → is_some (object_at world.handles.heap slot) ≡ true
object_there world slot kind size code h = some _ _ h.object
  where
    some : (P : C.Object → Type 0) (p : Option C.Object) → IsSomeAnd p P → is_some p ≡ true
    some P None h = absurd h
    some P (Some o) h = refl

pub some_of : {A : Type 0} (P : A → Type 0) (p : Option A) → IsSomeAnd p P → (a : A) × P a
some_of P None h = absurd h
some_of P (Some a) h = (a, h)

module _ (world : LoadingWorld) (is : IsLoadingWorld world) (slot handle number : ℕ) (m : Module) where
  pub segment_owned : IsSegmentOf world slot handle number m → (g : Segment) × IsObjectOf world slot g.kind g.size g.is_code
  segment_owned s = some_of (λ (g : Segment). IsObjectOf world slot g.kind g.size g.is_code) (slice_get m.tables.segments (number - 1)) (of_segment world is slot handle number m s)

  pub segment_object : IsSegmentOf world slot handle number m → is_some (object_at world.handles.heap slot) ≡ true
  segment_object s = let g : (g : Segment) × IsObjectOf world slot g.kind g.size g.is_code = segment_owned s in object_there world slot g.0.kind g.0.size g.0.is_code g.1

  pub resource_owned : IsResourceOf world slot handle number m → (r : Resource) × IsObjectOf world slot r.kind (rounded_size r.length_in) false
  resource_owned r = some_of (λ (x : Resource). IsObjectOf world slot x.kind (rounded_size x.length_in) false) (numbered m.tables.resources number) (of_resource world is slot handle number m r)

  pub resource_object : IsResourceOf world slot handle number m → is_some (object_at world.handles.heap slot) ≡ true
  resource_object r = let x : (r : Resource) × IsObjectOf world slot r.kind (rounded_size r.length_in) false = resource_owned r in object_there world slot x.0.kind (rounded_size x.0.length_in) false x.1

-- a load is of a module that is there
pub loaded_of : (world : LoadingWorld) → IsLoadingWorld world → (slot : ℕ) (load : Load) → finmap.get world.loads slot ≡ Some load → (m : Module) × IsResourceOf world slot load.handle load.place m
loaded_of world is slot load at = turn _ refl sound.resource
  where
    sound : IsLoad world slot load
    sound = subst (λ p. IfSome p (IsLoad world slot)) at (is.loads _)

    turn : (p : Option Module) → C.module_at world.modules load.handle ≡ p → IsSomeAnd (elim p as (λ _. Option Resource) [ None ↦ None | Some n ↦ numbered n.tables.resources load.place ]) (λ r. IsObjectOf world slot r.kind (rounded_size r.length_in) false)
        → (m : Module) × IsResourceOf world slot load.handle load.place m
    turn None e h = absurd h
    turn (Some m) e h = (m, record { loaded = e; loads = load.loads; has = at })

-- Whose a slot is.

-- the first place of a slot
first_place : (slot : ℕ) (xs : List ℕ) (i : ℕ) → position (λ q. q == slot) xs ≡ Some i → slice_get xs i ≡ Some slot
first_place slot xs i e =
    let f : (i < C.length xs) × ((C.get_or xs i 0 == slot) ≡ true) × _ = C.position-Some (λ q. q == slot) xs i 0 e in
    C.slice_get-get_or xs i 0 f.0 ∙ ap Some (C.eqb-true _ _ f.1)

module _ (world : LoadingWorld) (is : IsLoadingWorld world) (slot : ℕ) where
  abbrev IsAmong : List (ℕ × Named) → Owner → Type 0
  IsAmong es Script = (handle : ℕ) (m : Module) → Member {X = ℕ × Named} (handle, Loaded m) es → Member slot m.slots → ⊥
  IsAmong es (OfSegment handle number) = (m : Module) × Member {X = ℕ × Named} (handle, Loaded m) es × (0 < number) × (slice_get m.slots (number - 1) ≡ Some slot)
  IsAmong es (OfResource handle place) = ⊥

  among : (es : List (ℕ × Named)) → IsAmong es (segment_among es slot)
  among [] = λ handle m member. absurd member
  among (e ∷ es) = by e.1 refl (among es)
    where
      later : (owner : Owner) → ((m : Module) → e.1 ≡ Loaded m → Member slot m.slots → ⊥) → IsAmong es owner → IsAmong (e ∷ es) owner
      later Script out h = λ handle m member. elim member [ inl same ↦ out m (λ i. (sym same i).1) | inr k ↦ h handle m k ]
      later (OfSegment handle number) out h = (h.0, inr h.1, h.2, h.3)
      later (OfResource handle place) out h = h

      by : (n : Named) → e.1 ≡ n → IsAmong es (segment_among es slot) → IsAmong (e ∷ es) (elim (C.number_in n slot) [ Some number ↦ OfSegment e.0 number | None ↦ segment_among es slot ])
      by (C.BuiltIn name) at h = later (segment_among es slot) (λ m f. let g : ◌≡◌ {A = Named} (C.BuiltIn name) (Loaded m) = sym at ∙ f in cc) h
      by (Loaded m) at h = turn (position (λ q. q == slot) m.slots) refl
        where
          out : position (λ q. q == slot) m.slots ≡ None → Member slot m.slots → ⊥
          out f k = false≢true (sym (no_place (λ q. q == slot) m.slots f slot k) ∙ C.eq-eqb slot slot refl)

          turn : (p : Option ℕ) → position (λ q. q == slot) m.slots ≡ p
              → IsAmong (e ∷ es) (elim (C.option_map (λ i. i + 1) p) as (λ _. Owner) [ Some number ↦ OfSegment e.0 number | None ↦ segment_among es slot ])
          turn None f = later (segment_among es slot) (λ n g k. out f (subst (λ (y : Module). Member slot y.slots) (same n (sym g ∙ at)) k)) h
            where
              same : (n : Module) → Loaded n ≡ Loaded m → n ≡ m
              same n e = cc
          turn (Some i) f = (m, inl (λ j. (e.0, sym at j)), omega arith, ap (slice_get m.slots) (back i) ∙ first_place slot m.slots i f)
            where
              back : (n : ℕ) → n + 1 - 1 ≡ n
              back n = omega arith

  is_owner : IsOwnerOf world slot (C.owner_of world slot)
  is_owner = by_load (finmap.get world.loads slot) refl
    where
      script : finmap.get world.loads slot ≡ None → IsAmong (finmap.entries world.modules) Script → owned_at world.handles slot ≡ None
      script none out = turn (owned_at world.handles slot) refl (is.owners slot)
        where
          turn : (p : Option Owned) → owned_at world.handles slot ≡ p → IfSome p (λ _. (handle number : ℕ) × (m : Module) × (IsSegmentOf world slot handle number m ⊎ IsResourceOf world slot handle number m)) → p ≡ None
          turn None e h = refl
          turn (Some o) e (handle, number, m, inl s) = absurd (out handle m (there_entry world.modules handle (Loaded m) (loaded_is (finmap.get world.modules handle) m s.loaded)) (place_member m.slots (number - 1) slot s.has.1))
          turn (Some o) e (handle, number, m, inr r) = let f : ◌≡◌ {A = Option Load} None (Some (record { handle = handle; place = number; loads = r.loads })) = sym none ∙ r.has in cc

      by_segment : finmap.get world.loads slot ≡ None → (owner : Owner) → IsAmong (finmap.entries world.modules) owner → IsOwnerOf world slot owner
      by_segment none Script h = script none h
      by_segment none (OfSegment handle number) h = (h.0, record { loaded = ap C.module_in (entry_there world.modules handle (Loaded h.0) h.1); has = (h.2, h.3) })
      by_segment none (OfResource handle place) h = absurd h

      by_load : (p : Option Load) → finmap.get world.loads slot ≡ p → IsOwnerOf world slot (elim p as (λ _. Owner) [ Some load ↦ OfResource load.handle load.place | None ↦ segment_among (finmap.entries world.modules) slot ])
      by_load (Some load) e = loaded_of world is slot load e
      by_load None e = by_segment e (segment_among (finmap.entries world.modules) slot) (among (finmap.entries world.modules))

  -- what is none's is neither a segment's nor a resource's
  script_no : {A : Type 0} (o : Owned) → owned_at world.handles slot ≡ None → owned_at world.handles slot ≡ Some o → A
  script_no o e f = let g : ◌≡◌ {A = Option Owned} None (Some o) = sym e ∙ f in cc

  one_owner : (a b : Owner) → IsOwnerOf world slot a → IsOwnerOf world slot b → a ≡ b
  one_owner Script Script x y = refl
  one_owner Script (OfSegment h n) x y = let g : (g : Segment) × IsObjectOf world slot g.kind g.size g.is_code = segment_owned world is slot h n y.0 y.1 in script_no _ x g.1.owned
  one_owner Script (OfResource h n) x y = let g : (r : Resource) × IsObjectOf world slot r.kind (rounded_size r.length_in) false = resource_owned world is slot h n y.0 y.1 in script_no _ x g.1.owned
  one_owner (OfSegment h n) Script x y = let g : (g : Segment) × IsObjectOf world slot g.kind g.size g.is_code = segment_owned world is slot h n x.0 x.1 in script_no _ y g.1.owned
  one_owner (OfSegment a i) (OfSegment b j) x y = let e : (a ≡ b) × (i ≡ j) = is.one_segment slot a i b j x.0 y.0 x.1 y.1 in λ k. OfSegment (e.0 k) (e.1 k)
  one_owner (OfSegment a i) (OfResource b j) x y = absurd (is.no_resource slot a i b j x.0 y.0 x.1 y.1)
  one_owner (OfResource h n) Script x y = let g : (r : Resource) × IsObjectOf world slot r.kind (rounded_size r.length_in) false = resource_owned world is slot h n x.0 x.1 in script_no _ y g.1.owned
  one_owner (OfResource a i) (OfSegment b j) x y = absurd (is.no_resource slot b j a i y.0 x.0 y.1 x.1)
  one_owner (OfResource a i) (OfResource b j) x y = let e : ◌≡◌ {A = Option Load} (Some (record { handle = a; place = i; loads = x.1.loads })) (Some (record { handle = b; place = j; loads = y.1.loads })) = sym x.1.has ∙ y.1.has in
      let f : ◌≡◌ {A = Load} (record { handle = a; place = i; loads = x.1.loads }) (record { handle = b; place = j; loads = y.1.loads }) = cc in λ k. OfResource (f k).handle (f k).place

pub owner_law : C.OwnerLaw
owner_law world slot owner is = (λ e. subst (IsOwnerOf _ _) e (is_owner _ is _), λ h. one_owner _ is _ _ _ (is_owner _ is _) h)
