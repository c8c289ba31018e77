-- Objects that modules own: their sizes, and what their revivals write.
use Rattle.w16_global.proofs
use proofs.Common as C
use proofs.Common.{◌≡◌, ℕ, ◌/◌, ◌<◌, ◌≤◌, ◌⊎◌, ◌==◌, inl, inr, Bool, true, false, if◌then◌else◌, IfNone, IfSome, IsSomeAnd, List, length, take, Option, Some, None, is_some, refl, sym, ap, ◌∙◌, subst, arith, false≢true, nat_cmp, Attributes, Kind, Owned, GRAIN, REACH, Handles, AreHandles}
use proofs.Common.{Heap, Object, IsMultiple, object_at, bytes_at, revival_options, owned_at, Allocates, Reallocates, GetsRun, rehoused, with_run, slots_for, moved_bytes, counted, Global, handles_of, Holding}
use proofs.{Joining.attributes_shown, Resizing.counted_none}
use Rattle.w16_model.specs.{Law.Revives, Request.Grows, Request.ReallocatesObject}
use Rattle.w16_model.proofs.{Housed.stays, Naming.names_law, Runs.owned_slots, Runs.slots_of}
use Rattle.w16_global.specs.declared.global.Resized.{Resized}
use Rattle.std.specs.FinMap as finmap
use Rattle.w16_model.specs.declared.Kind.TheVariants as kinds
use Rattle.w16_selectors.specs.Descriptors as selectors

-- what a module owns has a size
pub own_size : {h : Holding} {xs : List (Option Attributes)} {t : selectors.DescriptorTable} {m : ℕ} {w : Handles} → C.AreJoined h xs t → handles_of h xs m ≡ w → (slot : ℕ) (owned : Owned) → Some owned ≡ owned_at w slot
    → (0 < owned.size) × IsMultiple GRAIN owned.size × (owned.size ≤ REACH)
own_size {xs = xs} are shown slot owned is = turn (C.get_or xs slot None) (ap C.owned_in (attributes_shown are shown slot) ∙ sym is) (are.sized slot)
  where
    turn : (p : Option Attributes) → C.owned_in p ≡ Some owned → C.HasSize p → (0 < owned.size) × IsMultiple GRAIN owned.size × (owned.size ≤ REACH)
    turn None e h = cc
    turn (Some a) e h = subst (λ p. IfSome p (λ o. (0 < o.size) × IsMultiple GRAIN o.size × (o.size ≤ REACH))) e h.1

-- nothing was moved, and so nothing written
pub none_written : (count : ℕ) (heap : Heap) → count ≡ counted count (moved_bytes heap heap)
none_written count heap = sym (counted_none count) ∙ ap (counted count) (sym (C.unmoved heap heap (λ _. heap.places)))

-- no bytes, by the size that is looked up
pub absent_in : (h : Holding) (xs : List (Option Attributes)) {m : ℕ} {w : Handles} → handles_of h xs m ≡ w → (slot : ℕ) (size : Option ℕ) → size ≡ C.option_map (length {A = ℕ}) (bytes_at h.heap slot) → false ≡ is_some size → bytes_at w.heap slot ≡ None
absent_in h xs shown slot size size_is none = sym (ap (λ v. bytes_at v.heap slot) shown) ∙ turn _ (none ∙ ap is_some size_is)
  where
    turn : (b : Option (List ℕ)) → false ≡ is_some (C.option_map (length {A = ℕ}) b) → b ≡ None
    turn None e = refl
    turn (Some bytes) e = absurd (false≢true e)

-- what is shown are handles
pub known_handles : {h : Holding} {xs : List (Option Attributes)} {t : selectors.DescriptorTable} → C.AreJoined h xs t → {m : ℕ} {w : Handles} → handles_of h xs m ≡ w → AreHandles w
known_handles {h = h} {xs = xs} are {m = m} shown = subst AreHandles shown (C.moved_handles (handles_of h xs 0) are.handles m)

-- a handle's slot
pub found_is : (v : Handles) (handle slot : ℕ) → Some slot ≡ C.slot_of_handle v handle → handle / 8 ≡ slot
found_is v handle slot found = turn (object_at v.heap slot) ((names_law v _ slot).0.0 (sym found))
  where
    named : (kind : Kind) → C.handle_of kind slot / 8 ≡ slot
    named kinds.Fixed = omega arith
    named kinds.Moveable = omega arith
    named kinds.Discardable = omega arith

    turn : (p : Option Object) → IsSomeAnd p (λ o. handle ≡ C.handle_of o.kind slot) → handle / 8 ≡ slot
    turn None h = absurd h
    turn (Some o) h = ap (λ n. n / 8) h ∙ named _

-- what is said of none, where it is none
pub where_none : {X P : Type 0} (p : Option X) → IfNone p P → is_some p ≡ false → P
where_none None says e = says
where_none (Some x) says e = absurd (false≢true (sym e))

-- a heap whose object keeps its slot
rehoused_same : (heap : Heap) (slot : ℕ) → rehoused heap slot slot ≡ heap
rehoused_same heap slot = turn (slot == slot) (C.eq-eqb slot slot refl) heap _
  where
    turn : (b : Bool) → b ≡ true → (x y : Heap) → (if b then x else y) ≡ x
    turn true e x y = refl
    turn false e x y = absurd (false≢true e)

-- An object that a module owns, and that has no bytes: it gets them in its own slots.
module _ (v : Handles) (is : AreHandles v) (slot : ℕ) (owned : Owned) (owns : owned_at v slot ≡ Some owned) (absent : bytes_at v.heap slot ≡ None) where
  own_slots : C.slots_at v.attributes slot ≡ slots_for owned.size
  own_slots = subst (λ p. IfSome p (λ (o : Owned). C.slots_at v.attributes slot ≡ slots_for o.size)) owns (owned_slots v is slot)

  same_run : with_run v.attributes slot slot (slots_for owned.size) ≡ v.attributes
  same_run = turn (finmap.get v.attributes slot) refl
    where
      turn : (p : Option Attributes) → finmap.get v.attributes slot ≡ p
          → (elim p as (λ _. C.FinMap nat_cmp Attributes) [ Some a ↦ finmap.insert (finmap.remove v.attributes slot) slot (record a { slots = slots_for owned.size }) | None ↦ v.attributes ]) ≡ v.attributes
      turn None e = refl
      turn (Some a) e = C.same_map C.nat_cmp_total C.nat_cmp-IsAntisymmetric _ v.attributes (λ q. elim (C.cases_eq q slot) [
        | inl same ↦ C.inserted_here (finmap.remove v.attributes slot) slot (record a { slots = slots_for owned.size }) q same ∙ (λ i. Some (record a { slots = (sym own_slots ∙ slots_of v.attributes slot a e) i })) ∙ sym (ap (finmap.get v.attributes) same ∙ e)
        | inr d ↦ C.inserted_other (finmap.remove v.attributes slot) slot (record a { slots = slots_for owned.size }) q d ∙ C.taken_other v.attributes slot q d
      ])

  -- what room is asked for
  revives : (answered : Bool) (heap : Heap) → Reallocates v.heap slot owned.size revival_options answered heap
      → IsSomeAnd (owned_at v slot) (λ owned. IsSomeAnd (object_at v.heap slot) (λ o. Allocates v.heap slot owned.size o.kind o.locks revival_options answered heap))
  revives answered heap r = subst (λ p. IsSomeAnd p (λ (owned : Owned). IsSomeAnd (object_at v.heap slot) (λ o. Allocates v.heap slot owned.size o.kind o.locks revival_options answered heap))) (sym owns)
      (turn (object_at v.heap slot) refl r.object)
    where
      turn : (p : Option Object) → object_at v.heap slot ≡ p → IsSomeAnd p (λ o. ReallocatesObject v.heap slot o owned.size revival_options answered heap) → IsSomeAnd p (λ o. Allocates v.heap slot owned.size o.kind o.locks revival_options answered heap)
      turn None e h = absurd h
      turn (Some o) e h = subst (λ b. C.MatchOption b (Allocates v.heap slot owned.size o.kind o.locks revival_options answered heap) (λ bytes. C.MatchBool (C.nat_le owned.size (length bytes))
          ((answered ≡ true) × (heap ≡ C.with_object v.heap slot (record o { bytes = Some (take owned.size bytes) }))) (Grows v.heap slot o owned.size revival_options answered heap)))
          (sym (ap C.bytes_in e) ∙ absent) h

  abbrev Gets : ℕ → Type 0
  Gets first = IsSomeAnd (object_at v.heap slot) (λ o. GetsRun v slot o revival_options (slots_for owned.size) first)

  abbrev Resizes : Handles → Resized → Type 0
  Resizes made r = (heap : Heap) × Reallocates v.heap slot owned.size revival_options true heap × (r.moved ≡ moved_bytes v.heap heap)
      × (made ≡ record v { heap = rehoused heap slot r.first; attributes = with_run v.attributes slot r.first (slots_for owned.size) })

  abbrev Lacks : Type 0
  Lacks = IsSomeAnd (object_at v.heap slot) (λ o. C.LacksRun v slot o revival_options (slots_for owned.size)
      ⊎ ((first : ℕ) × GetsRun v slot o revival_options (slots_for owned.size) first × Reallocates v.heap slot owned.size revival_options false v.heap))

  -- it keeps its slot
  here : owned.size ≤ REACH → (first : ℕ) → Gets first → first ≡ slot
  here few first gets = turn (object_at v.heap slot) refl gets
    where
      turn : (p : Option Object) → object_at v.heap slot ≡ p → IsSomeAnd p (λ o. GetsRun v slot o revival_options (slots_for owned.size) first) → first ≡ slot
      turn None e g = absurd g
      turn (Some o) e g = stays v is slot o e owned.size revival_options first few g

  kept : owned.size ≤ REACH → (r : Resized) → Gets r.first → (made : Handles) (z : Resizes made r) → made ≡ record v { heap = z.0 }
  kept few r gets made z =
      let same : r.first ≡ slot = here few r.first gets in
      z.3 ∙ (λ i. record v { heap = rehoused z.0 slot (same i); attributes = with_run v.attributes slot (same i) (slots_for owned.size) })
      ∙ (λ i. record v { heap = rehoused_same z.0 slot i; attributes = same_run i })

  pub revived : owned.size ≤ REACH → (made : Handles) (r : Option Resized) → IfSome r (λ r. Gets r.first) → IfSome r (Resizes made) → is_some r ≡ true → Revives v slot true made
  revived few made None gets resized e = absurd (false≢true e)
  revived few made (Some r) gets resized e =
      let k : made ≡ record v { heap = resized.0 } = kept few r gets made resized in record {
        owned = subst (λ (x : Handles). IsSomeAnd (owned_at v slot) (λ owned. IsSomeAnd (object_at v.heap slot) (λ o. Allocates v.heap slot owned.size o.kind o.locks revival_options true x.heap))) (sym k) (revives true resized.0 resized.1);
        rest = k ∙ sym (λ i. record v { heap = (k i).heap });
      }

  -- the bytes that were moved for it are written
  pub revived_written : owned.size ≤ REACH → (before : ℕ) (made : Global) (r : Option Resized) → IfSome r (λ r. Gets r.first) → IfSome r (Resizes made.handles) → IfSome r (λ r. made.written ≡ counted (counted before r.moved) 0)
      → IfNone r (made ≡ record { handles = v; written = before }) → made.written ≡ counted before (moved_bytes v.heap made.handles.heap)
  revived_written few before made None gets resized written refused =
      ap (λ (g : Global). g.written) refused ∙ none_written before v.heap ∙ ap (λ (g : Global). counted before (moved_bytes v.heap g.handles.heap)) (sym refused)
  revived_written few before made (Some r) gets resized written refused =
      written ∙ counted_none (counted before r.moved) ∙ ap (counted before) (resized.2 ∙ ap (λ (x : Handles). moved_bytes v.heap x.heap) (sym (kept few r gets made.handles resized)))

  -- its slots are its own already, so it lacks only room
  pub not_revived : (r : Option Resized) → IfNone r Lacks → is_some r ≡ false → Revives v slot false v
  not_revived (Some r) lacks e = absurd (false≢true (sym e))
  not_revived None lacks e = record {
    owned = revives false v.heap (turn (object_at v.heap slot) lacks);
    rest = refl;
  }
    where
      turn : (p : Option Object) → IsSomeAnd p (λ o. C.LacksRun v slot o revival_options (slots_for owned.size)
          ⊎ ((first : ℕ) × GetsRun v slot o revival_options (slots_for owned.size) first × Reallocates v.heap slot owned.size revival_options false v.heap)) → Reallocates v.heap slot owned.size revival_options false v.heap
      turn None h = absurd h
      turn (Some o) (inl l) = absurd (l.here (λ k below. absurd (let all = own_slots in omega (arith, below, all))))
      turn (Some o) (inr h) = h.2
