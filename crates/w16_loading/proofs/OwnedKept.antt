-- Calls on handles leave what a module owns: no object comes to be one's, or ceases to.
use Rattle.w16_loading.proofs.Common as C
use Rattle.w16_loading.proofs.Common.{◌≡◌, ℕ, inl, inr, false, Option, Some, None, is_some, refl, sym, ap, ◌∙◌, false≢true, cases_eq, Attributes, Owned, Handles, owned_in, owned_at, is_owned, owns, global_lock, Call, attributes_asked, Calls, nat_cmp, slots_for, rounded_size}
use Rattle.w16_model.specs.Calls.{Answer}
use Rattle.std.specs.FinMap as finmap
use Rattle.w16_loading.proofs.Locks.{lock_contents}

-- each slot's object is a module's, or none's, as it was
abbrev pub SameOwned : Handles → Handles → Type 0
SameOwned old new = (q : ℕ) → owned_at new q ≡ owned_at old q

none_owned : (p : Option Attributes) → is_some p ≡ false → owned_in p ≡ None
none_owned None e = refl
none_owned (Some a) e = absurd (false≢true (sym e))

no_owner : (p : Option Owned) → is_some p ≡ false → p ≡ None
no_owner None e = refl
no_owner (Some o) e = absurd (false≢true (sym e))

module _ (old : Handles) (is : C.AreHandles old) (call : Call) (answer : Answer) (new : Handles) where
  -- the same attributes
  same : new.attributes ≡ old.attributes → SameOwned old new
  same e q = ap (λ a. owned_in (finmap.get a q)) e

  -- a free slot gets an object of no module's
  given : (slot flags size : ℕ) → C.object_at old.heap slot ≡ None → new.attributes ≡ finmap.insert old.attributes slot (attributes_asked flags size) → SameOwned old new
  given slot flags size none e q = ap (λ a. owned_in (finmap.get a q)) e ∙ elim (cases_eq q slot) [
    | inl e ↦ ap owned_in (C.inserted_here old.attributes slot (attributes_asked flags size) q e) ∙ sym (none_owned (finmap.get old.attributes q) (is.attributed q ∙ ap is_some (ap (C.object_at old.heap) e ∙ none)))
    | inr d ↦ ap owned_in (C.inserted_other old.attributes slot (attributes_asked flags size) q d)
  ]

  -- an object of no module's goes
  freed : (handle slot : ℕ) → C.slot_of_handle old handle ≡ Some slot → owns old handle ≡ false → new.attributes ≡ finmap.remove old.attributes slot → SameOwned old new
  freed handle slot found own e q = ap (λ a. owned_in (finmap.get a q)) e ∙ elim (cases_eq q slot) [
    | inl e ↦ ap owned_in (C.taken_here old.attributes slot q e) ∙ sym (no_owner (owned_at old q) (ap (is_owned old) e ∙ sym (ap (λ p. C.unwrap_or (C.option_map (is_owned old) p) false) found) ∙ own))
    | inr d ↦ ap owned_in (C.taken_other old.attributes slot q d)
  ]

  -- an object of no module's gets another run
  another_run : (r : C.Resized old call answer new) (p : Option Attributes) → finmap.get old.attributes r.slot ≡ p → (q : ℕ)
      → owned_in (finmap.get (elim p as (λ _. C.FinMap nat_cmp Attributes) [ Some a ↦ finmap.insert (finmap.remove old.attributes r.slot) r.first (record a { slots = slots_for (rounded_size r.size) }) | None ↦ old.attributes ]) q) ≡ owned_at old q
  another_run r None there q = refl
  another_run r (Some a) there q = elim (cases_eq q r.first) [
    | inl e ↦ ap owned_in (C.inserted_here (finmap.remove old.attributes r.slot) r.first (record a { slots = slots_for (rounded_size r.size) }) q e) ∙ nobody_here ∙ sym (ap (owned_at old) e ∙ none_first)
    | inr d ↦ ap owned_in (C.inserted_other (finmap.remove old.attributes r.slot) r.first (record a { slots = slots_for (rounded_size r.size) }) q d) ∙ elim (cases_eq q r.slot) [
      | inl e ↦ ap owned_in (C.taken_here old.attributes r.slot q e) ∙ sym (ap (owned_at old) e ∙ nobodys)
      | inr c ↦ ap owned_in (C.taken_other old.attributes r.slot q c)
    ]
  ]
    where
      nobodys : owned_at old r.slot ≡ None
      nobodys = no_owner (owned_at old r.slot) (sym (ap (λ p. C.unwrap_or (C.option_map (is_owned old) p) false) r.named.found) ∙ r.own)

      nobody_here : a.owned ≡ None
      nobody_here = sym (ap owned_in there) ∙ nobodys

      none_first : owned_at old r.first ≡ None
      none_first = elim (cases_eq r.slot r.first) [
        | inl e ↦ ap (owned_at old) (sym e) ∙ nobodys
        | inr d ↦ none_owned (finmap.get old.attributes r.first) (is.attributed r.first ∙ ap is_some (C.was_free old is r.slot (rounded_size r.size) (C.realloc_options r.flags) r.object r.named.there r.first r.gets r.heap r.resized d))
      ]

  pub owned_by : C.Outcome old call answer new → SameOwned old new
  owned_by (C.IsSame s e) = same (ap (λ (h : Handles). h.attributes) e)
  owned_by (C.IsUnmoved s e) = same (ap (λ (h : Handles). h.attributes) e)
  owned_by (C.IsLocked l) = same (ap (λ (h : Handles). h.attributes) l.rest)
  owned_by (C.IsUnlocked u) = same (ap (λ (h : Handles). h.attributes) u.rest)
  owned_by (C.IsFreed f) = freed f.handle f.slot f.named.found f.own (ap (λ (h : Handles). h.attributes) f.rest)
  owned_by (C.IsNewest n) = same (ap (λ (h : Handles). h.attributes) n.rest)
  owned_by (C.IsOldest n) = same (ap (λ (h : Handles). h.attributes) n.rest)
  owned_by (C.IsEntered e) = given e.slot e.flags e.size (C.unused old is e.slot (slots_for (rounded_size e.size)) (C.some_slots (rounded_size e.size)) e.free) (ap (λ (h : Handles). h.attributes) e.rest)
  owned_by (C.IsAllocated a) = given a.slot a.flags a.size (C.unused old is a.slot (slots_for (rounded_size a.size)) (C.some_slots (rounded_size a.size)) a.free) (ap (λ (h : Handles). h.attributes) a.rest)
  owned_by (C.IsCompacted c) = same (ap (λ (h : Handles). h.attributes) c.rest)
  owned_by (C.IsModified m) = same (ap (λ (h : Handles). h.attributes) m.rest)
  owned_by (C.IsDiscarded d) = same (ap (λ (h : Handles). h.attributes) d.rest)
  owned_by (C.IsResized r) = λ q. ap (λ (h : Handles). owned_at h q) r.rest ∙ another_run r (finmap.get old.attributes r.slot) refl q

-- a lock keeps them in any handles
pub locked : (old : Handles) (handle : ℕ) → SameOwned old (global_lock old handle).1
locked old handle q = ap (λ a. owned_in (finmap.get a q)) (lock_contents old handle).attributes
