-- Objects that a call isn't about: they keep their attributes, and stand still where nothing may be moved.
use Rattle.w16_model.proofs as model
use Rattle.w16_model.proofs.Common as C
use Rattle.w16_model.proofs.Housed as K
use Rattle.std.specs.FinMap as finmap
use model.Common.{◌≡◌, ◌≢◌, ℕ, true, is_some, ap, ◌∙◌, object_at, Handles, rounded_size, Call, false, sym}
use model.Bystanders.{apart, about, not_free, same_place, still_beside}
use model.{KeptHeaps.inserted_other, KeptHeaps.taken_other, Housed.given, CallLaws.bystands, CallLaws.moves_of, Outcomes.address_law, Runs.some_slots, Runs.unused, CallOutcomes.outcome}
use Rattle.w16_laws.specs.CallLaws.{AttributesLaw, StillLaw, may_move_others}

-- an object beside the one that gets another size
module _ (old new : Handles) (is : C.AreHandles old) (call : Call) (answer : C.Answer) (r : C.Resized old call answer new) (q : ℕ) (there : is_some (object_at old.heap q) ≡ true) (other : q ≢ r.slot) where
  attributes_beside : finmap.get new.attributes q ≡ finmap.get old.attributes q
  attributes_beside = ap (λ h. finmap.get h.attributes q) r.rest
      ∙ ap (λ m. finmap.get m q) (K.run_is old is r.slot (rounded_size r.size) (C.realloc_options r.flags) r.object r.named.there r.first r.gets r.heap r.resized)
      ∙ inserted_other (finmap.remove old.attributes r.slot) r.first (given old is r.slot (rounded_size r.size) (C.realloc_options r.flags) r.object r.named.there r.first r.gets r.heap r.resized) q (bystands old new is call answer r q there other)
      ∙ taken_other old.attributes r.slot q other

module _ (old new : Handles) (is : C.AreHandles old) (call : Call) (answer : C.Answer) (q : ℕ) where
  -- an object that the call isn't about has its attributes
  attributes_kept : C.Outcome old call answer new → is_some (object_at old.heap q) ≡ true → (C.IsAbout old call q → ⊥) → finmap.get new.attributes q ≡ finmap.get old.attributes q
  attributes_kept (C.IsSame s e) there out = rw e
  attributes_kept (C.IsUnmoved s e) there out = rw e
  attributes_kept (C.IsLocked l) there out = rw l.rest
  attributes_kept (C.IsUnlocked u) there out = rw u.rest
  attributes_kept (C.IsFreed f) there out = rw f.rest (taken_other old.attributes f.slot q (λ e. out (about old new is call answer q _ _ (rw f.asked) f.named.found e)))
  attributes_kept (C.IsNewest n) there out = rw n.rest
  attributes_kept (C.IsOldest n) there out = rw n.rest
  attributes_kept (C.IsEntered e) there out = rw e.rest (inserted_other old.attributes e.slot (C.attributes_asked e.flags e.size) q (not_free old new is call answer q e.slot (unused old is e.slot _ (some_slots (rounded_size e.size)) e.free) there))
  attributes_kept (C.IsAllocated a) there out = rw a.rest (inserted_other old.attributes a.slot (C.attributes_asked a.flags a.size) q (not_free old new is call answer q a.slot (unused old is a.slot _ (some_slots (rounded_size a.size)) a.free) there))
  attributes_kept (C.IsCompacted c) there out = rw c.rest
  attributes_kept (C.IsModified m) there out = rw m.rest
  attributes_kept (C.IsDiscarded d) there out = rw d.rest
  attributes_kept (C.IsResized r) there out = attributes_beside old new is call answer r q there (λ e. out (about old new is call answer q _ _ (rw r.asked) r.named.found e))

  -- and stands where it stood, where nothing may be moved
  still : C.Outcome old call answer new → may_move_others call ≡ false → is_some (object_at old.heap q) ≡ true → (C.IsAbout old call q → ⊥) → C.StandsStill old.heap new.heap q
  still (C.IsSame s e) m there out = same_place old new is call answer q (rw e)
  still (C.IsUnmoved s e) m there out = same_place old new is call answer q (rw e)
  still (C.IsLocked l) m there out = same_place old new is call answer q (rw l.rest)
  still (C.IsUnlocked u) m there out = same_place old new is call answer q (rw u.rest)
  still (C.IsFreed f) m there out = same_place old new is call answer q (rw f.rest (taken_other old.heap.places f.slot q (λ e. out (about old new is call answer q _ _ (rw f.asked) f.named.found e))))
  still (C.IsNewest n) m there out = same_place old new is call answer q (rw n.rest)
  still (C.IsOldest n) m there out = same_place old new is call answer q (rw n.rest)
  still (C.IsEntered e) m there out = same_place old new is call answer q (rw e.entered.entered)
  still (C.IsAllocated a) m there out = ((address_law old.heap new.heap is.heap a.count).0 a.slot (C.alloc_options a.flags)
      a.object (C.with_newest a.slot a.object) a.settled).unmoved (sym (ap may_move_others a.asked) ∙ m) q
      (apart a.slot q (not_free old new is call answer q a.slot (unused old is a.slot _ (some_slots (rounded_size a.size)) a.free) there))
  still (C.IsCompacted c) m there out = cc (ap may_move_others c.asked)
  still (C.IsModified c) m there out = same_place old new is call answer q (rw c.changes.places)
  still (C.IsDiscarded d) m there out = same_place old new is call answer q (rw d.rest (taken_other old.heap.places d.slot q (λ e. out (about old new is call answer q _ _ (rw d.asked) d.named.found e))))
  still (C.IsResized r) m there out =
      let d : q ≢ r.slot = λ e. out (about old new is call answer q _ _ (rw r.asked) r.named.found e) in
      still_beside old new is call answer q r there d ((moves_of old new is call answer r).others.unmoved (sym (ap may_move_others r.asked) ∙ m) q (apart r.slot q d))

pub attributes_law : AttributesLaw
attributes_law old new call answer q is step there out = attributes_kept old new is call answer q (outcome old new call _ is step) there out

pub still_law : StillLaw
still_law old new call answer q is step m there out = still old new is call answer q (outcome old new call _ is step) m there out
