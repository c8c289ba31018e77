-- The calls on resources keep what holds of every world.
use Rattle.w16_loading.proofs
use proofs.Common as C
use proofs.Common.{◌≡◌, ◌≢◌, ℕ, ◌+◌, ◌-◌, ◌<◌, ◌≤◌, inl, inr, ◌⊎◌, Bool, true, false, ◌&&◌, ◌==◌, Option, Some, None, IfSome, IsSomeAnd, is_some, refl, sym, ap, ◌∙◌, subst, arith, eq-eqb, false≢true, cases_eq, Kind, Object, object_at, rounded_size, inserted_here}
use Rattle.w16_model.specs.Commands.{Command}
use proofs.Common.{inserted_other, with_absent_object, MOST_USES, Resource, Owned, owned_in, owned_at, LoadingWorld, Load, Module, module_at, is_too_long, IsLoadingWorld, IsObjectOf, IsLoad, Calls, unused_slot, run_of_one, LARGEST_OWNED, ◌||◌}
use proofs.Worlds.{same_module, is_used, is_load, HasOwner, owner_stays, extends, follows}
use proofs.ShrunkWorlds.{shrunk, stays_of, owner_left, released_handles}
use proofs.Owners.{object_there, loaded_of, resource_object}
use proofs.{Importers.there_entry, Given.member_place, CallsKept.call_world, ModuleWorlds.find_none, Stepping.with_count}
use Rattle.std.specs.FinMap as finmap

-- A lock.

pub locked_world : (old : LoadingWorld) → IsLoadingWorld old → (handle : ℕ) → IsLoadingWorld (C.locked old handle).1
locked_world old is handle = call_world old is (Calls (Command.GlobalLock _)) (C.global_lock old.handles handle).0 (C.global_lock old.handles handle).1 (refl, refl)

-- Another count of loads.

module _ (old : LoadingWorld) (is : IsLoadingWorld old) (slot : ℕ) (load : Load) (there : finmap.get old.loads slot ≡ Some load) (count : ℕ) (some : 0 < count) (few : load.loads ≤ MOST_USES → count ≤ MOST_USES) where
  abbrev counted : Load
  counted = record load { loads = count }

  abbrev loads : C.FinMap C.nat_cmp Load
  loads = finmap.insert old.loads slot counted

  abbrev counted_now : LoadingWorld
  counted_now = with_count old slot load count

  -- a load that was there is there, with some count
  load_now : (q handle place count : ℕ) → finmap.get old.loads q ≡ Some (record { handle = handle; place = place; loads = count }) → (now : ℕ) × (finmap.get loads q ≡ Some (record { handle = handle; place = place; loads = now }))
  load_now q handle place n e = elim (cases_eq q slot) [
    | inl same ↦ (count, inserted_here old.loads slot counted q same ∙ alike (sym there ∙ ap (finmap.get old.loads) (sym same) ∙ e))
    | inr other ↦ (n, inserted_other old.loads slot counted q other ∙ e)
  ]
    where
      alike : Some load ≡ Some (record { handle = handle; place = place; loads = n }) → Some counted ≡ Some (record { handle = handle; place = place; loads = count })
      alike e =
          let f : load ≡ record { handle = handle; place = place; loads = n } = cc in
          λ i. Some (record { handle = (f i).handle; place = (f i).place; loads = count })

  loads_are : (q : ℕ) (l : Load) → finmap.get loads q ≡ Some l → (n : ℕ) × (finmap.get old.loads q ≡ Some (record l { loads = n })) × (0 < l.loads) × (l.loads ≤ MOST_USES)
  loads_are q l e = elim (cases_eq q slot) [
    | inl same ↦ here same (sym (inserted_here old.loads slot counted q same) ∙ e)
    | inr other ↦
        let was : finmap.get old.loads q ≡ Some l = sym (inserted_other old.loads slot counted q other) ∙ e in
        (l.loads, was, (is_load old is q l was).0, (is_load old is q l was).1)
  ]
    where
      here : q ≡ slot → Some counted ≡ Some l → (n : ℕ) × (finmap.get old.loads q ≡ Some (record l { loads = n })) × (0 < l.loads) × (l.loads ≤ MOST_USES)
      here same f = let g : counted ≡ l = cc in subst (λ (l : Load). (n : ℕ) × (finmap.get old.loads q ≡ Some (record l { loads = n })) × (0 < l.loads) × (l.loads ≤ MOST_USES)) g
          (load.loads, ap (finmap.get old.loads) same ∙ there, some, few (is_load old is slot load there).1)

  pub counted_world : IsLoadingWorld counted_now
  counted_world = follows old counted_now is (record {
    handles = is.handles;
    numbers = is.numbers;
    names = is.names;
    sources = λ handle m e. (m, e, same_module m);
    used = is_used old is;
    loads = loads_are;
    still = λ q l before at e. (before, e, same_module before);
    of_segments = λ handle m q kind size code e k h. record { object = h.object; owned = h.owned };
    of_loads = λ q l kind size code e h. record { object = h.object; owned = h.owned };
    owners = owner_stays old is counted_now (λ handle m e. (m, e, same_module m)) (λ q l e. load_now q l.handle l.place l.loads e);
  })

-- A new object for a resource that isn't loaded.

-- one slot is enough for a resource that isn't too long
one_slot : (r : Resource) → is_too_long r ≡ false → 1 ≡ C.slots_for (rounded_size r.length_in)
one_slot r = turn _ _ refl
  where
    turn : (a b : Bool) → C.nat_lt LARGEST_OWNED r.length_in ≡ b → (a || b) ≡ false → 1 ≡ C.slots_for (rounded_size r.length_in)
    turn true b t e = cc
    turn false true t e = cc
    turn false false t e = omega (arith, C.ltb-false LARGEST_OWNED r.length_in t)

module _ (old : LoadingWorld) (is : IsLoadingWorld old) (slot : ℕ) (free : C.IsFreeSlot old.handles slot) (handle place : ℕ) (r : Resource) (at : C.resource_at old handle place ≡ Some r) (short : is_too_long r ≡ false) (unloaded : C.load_of old handle place ≡ None) where
  abbrev made : LoadingWorld
  made = C.with_resource old slot handle place r

  abbrev entered : Object
  entered = record { kind = r.kind; locks = 0; bytes = None }

  abbrev owner : C.Attributes
  owner = C.attributes_for r

  abbrev first : Load
  first = record { handle = handle; place = place; loads = 1 }

  -- an owned object is another one, and stays
  other_slot : (q : ℕ) (kind : Kind) (size : ℕ) (code : Bool) → IsObjectOf old q kind size code → q ≢ slot
  other_slot q kind size code h e = false≢true (sym (ap is_some (ap (object_at old.handles.heap) e ∙ unused_slot old.handles is.handles slot free)) ∙ object_there old q kind size code h)

  still : (q : ℕ) (kind : Kind) (size : ℕ) (code : Bool) → IsObjectOf old q kind size code → IsObjectOf made q kind size code
  still q kind size code h = record {
    object = subst (λ p. IsSomeAnd p (λ (o : Object). (o.kind ≡ kind) × IfSome o.bytes (λ bytes. C.length bytes ≡ size))) (sym (inserted_other old.handles.heap.objects slot entered q (other_slot q kind size code h))) h.object;
    owned = ap owned_in (inserted_other old.handles.attributes slot owner q (other_slot q kind size code h)) ∙ h.owned;
  }

  here : IsObjectOf made slot r.kind (rounded_size r.length_in) false
  here = record {
    object = subst (λ p. IsSomeAnd p (λ (o : Object). (o.kind ≡ r.kind) × IfSome o.bytes (λ bytes. C.length bytes ≡ rounded_size r.length_in))) (sym (inserted_here old.handles.heap.objects slot entered slot refl)) (refl, tt);
    owned = ap owned_in (inserted_here old.handles.attributes slot owner slot refl);
  }

  -- the new load
  abbrev IsFirst : ℕ → Load → Type 0
  IsFirst q l = (q ≡ slot) × (l ≡ first)

  first_load : (q : ℕ) (l : Load) → IsFirst q l → IsLoad made q l
  first_load q l x = subst (λ k. IsLoad made k l) (sym x.0) (subst (IsLoad made slot) (sym x.1) (record {
    resource = subst (λ p. IsSomeAnd p (λ x. IsObjectOf made slot x.kind (rounded_size x.length_in) false)) (sym at) here;
    short = subst (λ p. IfSome p (λ x. is_too_long x ≡ false)) (sym at) short;
    used = omega arith;
    full = let most : MOST_USES ≡ 65000 = refl in omega (arith, most);
  }))

  -- no other object is of this place
  pub none_of_place : (q : ℕ) (l : Load) → finmap.get old.loads q ≡ Some l → l.handle ≡ handle → l.place ≡ place → ⊥
  none_of_place q l there e f = false≢true (sym (find_none (λ (x : ℕ × Load). (x.1.handle == handle) && (x.1.place == place)) (finmap.entries old.loads) unloaded (q, l) (there_entry old.loads q l there))
      ∙ (λ i. (eq-eqb l.handle handle e i) && (eq-eqb l.place place f i)))

  made_loads : (q : ℕ) (l : Load) → finmap.get made.loads q ≡ Some l → ((n : ℕ) × (finmap.get old.loads q ≡ Some (record l { loads = n })) × (0 < l.loads) × (l.loads ≤ MOST_USES)) ⊎ IsFirst q l
  made_loads q l e = elim (cases_eq q slot) [
    | inl same ↦ inr (same, is_first (sym e ∙ inserted_here old.loads slot first q same))
    | inr other ↦ let was : finmap.get old.loads q ≡ Some l = sym (inserted_other old.loads slot first q other) ∙ e in inl (l.loads, was, (is_load old is q l was).0, (is_load old is q l was).1)
  ]
    where
      is_first : Some l ≡ Some first → l ≡ first
      is_first e = cc

  loads_stay : (q : ℕ) (l : Load) → finmap.get old.loads q ≡ Some l → (n : ℕ) × (finmap.get made.loads q ≡ Some (record l { loads = n }))
  loads_stay q l e =
      let r : (m : Module) × C.IsResourceOf old q l.handle l.place m = loaded_of old is q l e in
      (l.loads, inserted_other old.loads slot first q (λ same. false≢true (sym (ap is_some (ap (object_at old.handles.heap) same ∙ unused_slot old.handles is.handles slot free)) ∙ resource_object old is q l.handle l.place r.0 r.1)) ∙ e)

  its_module : (p : Option Module) → elim p as (λ _. Option Resource) [ None ↦ None | Some n ↦ C.numbered n.tables.resources place ] ≡ Some r → (m : Module) × (p ≡ Some m)
  its_module None e = cc
  its_module (Some m) e = (m, refl)

  made_owner : (q : ℕ) → (q ≡ slot) ⊎ (q ≢ slot) → is_some (owned_at made.handles q) ≡ true → HasOwner made q
  made_owner q (inl same) some =
      let m : (m : Module) × (module_at old.modules handle ≡ Some m) = its_module (module_at old.modules handle) at in
      (handle, place, m.0, inr (record { loaded = m.1; loads = 1; has = inserted_here old.loads slot first q same }))
  made_owner q (inr other) some = owner_stays old is made (λ h m e. (m, e, same_module m)) loads_stay q (sym (ap (λ p. is_some (owned_in p)) (inserted_other old.handles.attributes slot owner q other)) ∙ some)

  pub made_world : IsLoadingWorld made
  made_world = extends (λ _ _. ⊥) IsFirst old made is (record {
    handles = with_absent_object old.handles is.handles owner slot r.kind made.handles.heap (omega arith) (one_slot r short) (run_of_one old.handles slot free) (record { unused = unused_slot old.handles is.handles slot free; entered = refl });
    numbers = is.numbers;
    names = is.names;
    sources = λ h m e. inl (m, e, same_module m);
    used = λ h m before e at. is_used old is h m e;
    loads = made_loads;
    still = λ q l before at e. (before, e, same_module before);
    of_segments = λ h m q kind size code e k o. still q kind size code o;
    of_loads = λ q l kind size code e o. still q kind size code o;
    owners = λ q some. made_owner q (cases_eq q slot) some;
    new_module = λ h m x. absurd x;
    new_slots = λ h m q x k. absurd x;
    one_new = λ q a i b j m n x y s t. absurd x;
    new_load = λ q l x. (first_load q l x, ap (object_at old.handles.heap) x.0 ∙ unused_slot old.handles is.handles slot free);
    new_place = λ s t l other x e g. (
      λ y. x.0 ∙ sym y.0,
      λ count has. none_of_place t (record other { loads = count }) has (e ∙ ap (λ (k : Load). k.handle) x.1) (g ∙ ap (λ (k : Load). k.place) x.1),
    );
    apart = λ h q m l x y. x;
  })

-- the last load goes, and its object
module _ (old : LoadingWorld) (is : IsLoadingWorld old) (slot : ℕ) (load : Load) (there : finmap.get old.loads slot ≡ Some load) where
  abbrev gone : ℕ → Bool
  gone q = q == slot

  abbrev left_loads : C.FinMap C.nat_cmp Load
  left_loads = finmap.remove old.loads slot

  mine : (m : Module) × C.IsResourceOf old slot load.handle load.place m
  mine = loaded_of old is slot load there

  kept_slots : (handle : ℕ) (m : Module) (q : ℕ) → module_at old.modules handle ≡ Some m → C.Member q m.slots → gone q ≡ false
  kept_slots handle m q e member = C.ne_eqb q slot (λ same.
      let i : (i : ℕ) × (C.slice_get m.slots i ≡ Some q) = member_place m.slots q member in
      is.no_resource slot handle (i.0 + 1) load.handle load.place m mine.0 (record { loaded = e; has = (omega arith, ap (C.slice_get m.slots) (back i.0) ∙ i.1 ∙ ap Some same) }) mine.1)
    where
      back : (n : ℕ) → n + 1 - 1 ≡ n
      back n = omega arith

  -- a load that is left is of another slot
  left : (q : ℕ) (l : Load) → finmap.get left_loads q ≡ Some l → (gone q ≡ false) × (finmap.get old.loads q ≡ Some l)
  left q l e = elim (cases_eq q slot) [
    | inl same ↦ absurd (none (sym (C.taken_here old.loads slot q same) ∙ e))
    | inr other ↦ (C.ne_eqb q slot other, sym (C.taken_other old.loads slot q other) ∙ e)
  ]
    where
      none : ◌≡◌ {A = Option Load} None (Some l) → ⊥
      none e = cc

  owner_is : (q : ℕ) → gone q ≡ false → (p : Option Owned) → is_some p ≡ true → IfSome p (λ _. HasOwner old q) → HasOwner (shrunk old gone old.modules left_loads) q
  owner_is q t None e h = absurd (false≢true e)
  owner_is q t (Some o) e (handle, number, m, inl s) = (handle, number, m, inl (record { loaded = s.loaded; has = s.has }))
  owner_is q t (Some o) e (handle, number, m, inr r) = (handle, number, m, inr (record { loaded = r.loaded; loads = r.loads; has = C.taken_other old.loads slot q (λ same. false≢true (sym t ∙ eq-eqb q slot same)) ∙ r.has }))

  pub last_world : IsLoadingWorld (shrunk old gone old.modules left_loads)
  last_world = follows old (shrunk old gone old.modules left_loads) is (record {
    handles = released_handles old.handles is.handles gone;
    numbers = is.numbers;
    names = is.names;
    sources = λ handle m e. (m, e, same_module m);
    used = is_used old is;
    loads = λ q l e. (l.loads, (left q l e).1, (is_load old is q l (left q l e).1).0, (is_load old is q l (left q l e).1).1);
    still = λ q l before at e. (before, e, same_module before);
    of_segments = λ handle m q kind size code e k h. stays_of old gone old.modules left_loads q kind size code (kept_slots handle m q e k) h;
    of_loads = λ q l kind size code e h. stays_of old gone old.modules left_loads q kind size code (left q l e).0 h;
    owners = λ q some. let o : (gone q ≡ false) × (is_some (owned_at old.handles q) ≡ true) = owner_left old gone old.modules left_loads q some in owner_is q o.0 (owned_at old.handles q) o.1 (is.owners q);
  })
