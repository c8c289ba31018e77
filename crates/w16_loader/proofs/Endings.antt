-- Modules go with the objects of their segments.
use Rattle.w16_loader.proofs
use proofs.Common as C
use proofs.Common.{◌≡◌, ℕ, suc, ◌+◌, ◌*◌, ◌-◌, ◌/◌, ◌<◌, inl, inr, Bool, true, false, cond, not, ◌||◌, ◌==◌, if◌then◌else◌, List, [], ◌∷◌, length, drop, Option, Some, None, option_map, unwrap_or, is_some, refl, sym, ap, ◌∙◌, subst, arith, eq-eqb, from_bool, false≢true, Kind, Fixed}
use proofs.Common.{is_member, Object, object_at, Handles, handle_of, without_slot, taken_here, LoadingWorld, Module, Modules, Named, module_at, with_handles, without_objects, Go, retained, in_world}
use Rattle.std.specs.FinMap as finmap

-- A slot whose object goes, by either of its handles.

-- what the release of a handle leaves, by the object in its slot
abbrev released_by : Handles → ℕ → ℕ → Option Object → Handles
released_by h handle slot p = unwrap_or (option_map (without_slot h) (elim p [ Some o ↦ if handle == handle_of o.kind slot then Some slot else None | None ↦ None ])) h

abbrev pub released : Handles → ℕ → Handles
released h handle = unwrap_or (option_map (without_slot h) (C.slot_of_handle h handle)) h

released_at : (h : Handles) (handle slot : ℕ) (p : Option Object) → handle / 8 ≡ slot → object_at h.heap slot ≡ p → released h handle ≡ released_by h handle slot p
released_at h handle slot p e f = ap (λ k. released_by h handle k (object_at h.heap k)) e ∙ ap (released_by h handle slot) f

by_test : (h : Handles) (handle slot : ℕ) (o : Object) (b : Bool) → (handle == handle_of o.kind slot) ≡ b → released_by h handle slot (Some o) ≡ (if b then without_slot h slot else h)
by_test h handle slot o true t = ap (λ b. unwrap_or (option_map (without_slot h) (if b then Some slot else None)) h) t
by_test h handle slot o false t = ap (λ b. unwrap_or (option_map (without_slot h) (if b then Some slot else None)) h) t

none_of : {X : Type 0} (p : Option X) → is_some p ≡ false → p ≡ None
none_of None e = refl
none_of (Some x) e = absurd (false≢true (sym e))

removed_none : {X : Type 0} (m : C.FinMap C.nat_cmp X) (k : ℕ) → finmap.get m k ≡ None → finmap.remove m k ≡ m
removed_none m k none = C.same_values _ m (λ q. elim (C.cases_eq q k) [
  | inl e ↦ taken_here m k q e ∙ sym (ap (finmap.get m) e ∙ none)
  | inr d ↦ C.taken_other m k q d
])

-- where a slot has no object, nothing goes
nothing_goes : (h : Handles) → C.AreHandles h → (slot : ℕ) → object_at h.heap slot ≡ None → without_slot h slot ≡ h
nothing_goes h is slot none = λ i. record h {
  heap = record h.heap {
    objects = removed_none _ slot none i;
    places = removed_none _ slot (none_of _ (is.heap.at_bytes slot ∙ ap (λ p. is_some (elim p [ Some o ↦ o.bytes | None ↦ None ])) none)) i;
    order = C.without_absent slot h.heap.order (is.heap.in_order slot ∙ ap C.is_in_order none) i;
  };
  attributes = removed_none h.attributes slot (none_of _ (is.attributed slot ∙ ap is_some none)) i;
}

pub released_twice : (h : Handles) → C.AreHandles h → (slot a b : ℕ) → a ≡ 8 * slot + 7 → b ≡ a - 1 → released (released h a) b ≡ without_slot h slot
released_twice h is slot a b selector below = turn _ refl
  where
    first : a / 8 ≡ slot
    first = omega arith

    second : b / 8 ≡ slot
    second = omega arith

    loose : (o : Object) → object_at h.heap slot ≡ Some o → handle_of o.kind slot ≡ 8 * slot + 6 → released (released h a) b ≡ without_slot h slot
    loose o e k =
        ap (λ x. released x b) (released_at h a slot _ first e ∙ by_test h a slot o false (C.ne_eqb a _ (λ same. let other = same ∙ k in absurd (omega arith))))
        ∙ released_at h b slot _ second e ∙ by_test h b slot o true (let same : b ≡ handle_of o.kind slot = omega arith in eq-eqb b _ same)

    by_kind : (o : Object) → object_at h.heap slot ≡ Some o → (kind : Kind) → o.kind ≡ kind → released (released h a) b ≡ without_slot h slot
    by_kind o e Fixed k =
        ap (λ x. released x b) (released_at h a slot _ first e ∙ by_test h a slot o true (eq-eqb a _ (selector ∙ ap (λ k. handle_of k slot) (sym k))))
        ∙ released_at _ b slot None second (taken_here _ slot slot refl)
    by_kind o e C.Moveable k = loose o e (ap (λ k. handle_of k slot) k)
    by_kind o e C.Discardable k = loose o e (ap (λ k. handle_of k slot) k)

    turn : (p : Option Object) → object_at h.heap slot ≡ p → released (released h a) b ≡ without_slot h slot
    turn None e = ap (λ x. released x b) (released_at h a slot None first e) ∙ released_at h b slot None second e ∙ sym (nothing_goes h is slot e)
    turn (Some o) e = by_kind o e o.kind refl

-- Slots one after another, or all at once.

none_either : {X : Type 0} (b : Bool) → cond {A = Option X} (not b) None None ≡ None
none_either true = refl
none_either false = refl

one_first : {X : Type 0} (m : C.FinMap C.nat_cmp X) (slot : ℕ) (slots : List ℕ) → finmap.retain_keys (finmap.remove m slot) (λ q. not (is_member q slots)) ≡ finmap.retain_keys m (λ q. not (is_member q (slot ∷ slots)))
one_first {X} m slot slots = C.same_values (finmap.retain_keys _ (λ q. not _)) (finmap.retain_keys m (λ q. not _)) (λ q.
    retained _ (λ q. is_member q slots) q ∙ elim (C.cases_eq q slot) [
      | inl e ↦ ap (λ p. cond {A = Option X} (not (is_member q slots)) p None) (taken_here m slot q e) ∙ none_either (is_member q slots)
          ∙ sym (retained m (λ q. is_member q (slot ∷ slots)) q ∙ ap (λ b. cond {A = Option X} (not (b || is_member q slots)) (finmap.get m q) None) (eq-eqb slot q (sym e)))
      | inr d ↦ ap (λ p. cond {A = Option X} (not (is_member q slots)) p None) (C.taken_other m slot q d)
          ∙ sym (retained m (λ q. is_member q (slot ∷ slots)) q ∙ ap (λ b. cond {A = Option X} (not (b || is_member q slots)) (finmap.get m q) None) (C.ne_eqb slot q (λ e. d (sym e))))
    ])

slot_first : (world : LoadingWorld) (slot : ℕ) (slots : List ℕ) → without_objects (λ q. is_member q slots) (with_handles world (without_slot world.handles slot)) ≡ without_objects (λ q. is_member q (slot ∷ slots)) world
slot_first world slot slots = λ i. record world {
  handles = record world.handles {
    heap = record world.handles.heap {
      objects = one_first world.handles.heap.objects slot slots i;
      places = one_first world.handles.heap.places slot slots i;
      order = C.at_once slot slots world.handles.heap.order i;
    };
    attributes = one_first world.handles.attributes slot slots i;
  };
}

-- a slot more is done, and one less is left
pub next_slot : (rest : LoadingWorld) (old new : Handles) (slots : List ℕ) (i slot : ℕ) → i < length slots → C.get_or slots i 0 ≡ slot → new ≡ without_slot old slot
    → without_objects (λ q. is_member q (drop (i + 1) slots)) (with_handles rest new) ≡ without_objects (λ q. is_member q (drop i slots)) (with_handles rest old)
next_slot rest old new slots i slot lt is gone =
    ap (λ h. without_objects (λ q. is_member q (drop (i + 1) slots)) (with_handles rest h)) gone
    ∙ slot_first (with_handles rest old) slot (drop (i + 1) slots)
    ∙ ap (λ xs. without_objects (λ q. is_member q xs) (with_handles rest old)) (ap (λ k. slot ∷ drop k slots) (C.add-one i) ∙ ap (λ s. s ∷ drop (suc i) slots) (sym is) ∙ sym (C.drop-cons slots i 0 lt))

-- none is left
pub no_slot : (rest : LoadingWorld) (now : Handles) (slots : List ℕ) → slots ≡ [] → with_handles rest now ≡ without_objects (λ q. is_member q slots) (with_handles rest now)
no_slot rest now slots e = sym (C.none_gone (λ q. is_member q slots) _ (λ q. ap (is_member q) e))

-- A module goes.

module _ (rest : LoadingWorld) (modules left : Modules) (old new : Handles) (handle : ℕ) where
  pub module_gone : (m : Module) (slots : List ℕ) → Some m ≡ module_at modules handle → left ≡ finmap.remove modules handle → slots ≡ m.slots
      → ((world : LoadingWorld) → with_handles world new ≡ without_objects (λ q. is_member q slots) (with_handles world old))
      → in_world (with_handles rest new) left ≡ C.without_module (in_world (with_handles rest old) modules) handle
  module_gone m slots found removed are gone =
      ap (λ (w : LoadingWorld). in_world w left) (gone (in_world rest modules))
      ∙ ap (λ (qs : List ℕ). in_world (without_objects (λ q. is_member q qs) (in_world (with_handles rest old) modules)) left) are
      ∙ ap (in_world (without_objects (λ q. is_member q m.slots) (in_world (with_handles rest old) modules))) removed
      ∙ ap (C.world_without (in_world (with_handles rest old) modules) handle) found

loaded_some : (p : Option Named) (m : Module) → Some m ≡ C.module_in p → (n : Named) × (p ≡ Some n)
loaded_some None m e = cc
loaded_some (Some n) m e = (n, refl)

some_entry : {X : Type 0} (x : X) (xs : List X) → C.Member x xs → 0 < length xs
some_entry x [] m = absurd m
some_entry x (y ∷ ys) m = omega arith

fewer_left : (modules : Modules) (handle : ℕ) (n : Named) → finmap.get modules handle ≡ Some n → finmap.len (finmap.remove modules handle) < finmap.len modules
fewer_left modules handle n e =
    let some = some_entry (handle, n) (finmap.entries modules) (C.there_entry modules handle n e) in
    let many = C.len-entries modules in
    let less = C.len-remove C.nat_cmp_total modules handle ∙ ap (λ p. cond (is_some p) (finmap.len modules - 1) (finmap.len modules)) e in
    omega arith

pub fewer_modules : (modules left : Modules) (handle : ℕ) (m : Module) → Some m ≡ module_at modules handle → left ≡ finmap.remove modules handle → C.IfSome (module_at modules handle) (λ _. finmap.len left < finmap.len modules)
fewer_modules modules left handle m found removed =
    let n = loaded_some _ m found in
    subst (λ p. C.IfSome p (λ _. finmap.len left < finmap.len modules)) found (subst (λ x. finmap.len x < finmap.len modules) (sym removed) (fewer_left modules handle n.0 n.1))

-- What goes from here on, after one that went; and a use that ended before all that.

pub goes_first : (now next end : LoadingWorld) (handle : ℕ) → C.is_idle now.modules handle ≡ true → next ≡ C.without_module now handle → (gone : List ℕ) × Go next gone end → (gone : List ℕ) × Go now gone end
goes_first now next end handle idle less later = (handle ∷ later.0, (idle, subst (λ w. Go w later.0 end) less later.1))

load_answer : {X : Type 0} (found : Option X) (f : X → Named) → from_bool (is_some found) ≡ (if is_some (option_map f found) then 1 else 0)
load_answer None f = refl
load_answer (Some x) f = refl

pub still_names : {X : Type 0} (found : Option X) (f : X → Named) (modules : Modules) (handle : ℕ) (b : Bool) (answer : ℕ) → option_map f found ≡ finmap.get modules handle → b ≡ is_some found → answer ≡ from_bool b
    → answer ≡ (if finmap.contains_key modules handle then 1 else 0)
still_names found f modules handle b answer named is answered = answered ∙ ap from_bool is ∙ load_answer found f ∙ ap (λ p. if is_some p then 1 else 0) named

pub ends : (old less new : LoadingWorld) (handle answer : ℕ) → less ≡ C.used_less old handle → (gone : List ℕ) × Go less gone new → answer ≡ (if finmap.contains_key new.modules handle then 1 else 0) → C.EndsUse old handle answer new
ends old less new handle answer fewer go answered = record { gone = go.0; went = subst (λ w. Go w go.0 new) fewer go.1; answered = answered }
