-- A load gives code the bytes that its files say, and leaves all other code as it was.
use Rattle.w16_loading.proofs
use proofs.Common.{◌≡◌, ◌≢◌, ℕ, ◌-◌, ◌<◌, inl, inr, ◌⊎◌, true, false, cond, ◌&&◌, List, [], ◌∷◌, length, fold, map, slice_get, slice_index_or, Option, Some, None, IfSome, IsSomeAnd, is_some, option_map, unwrap_or, Ok, refl, sym, ap, ◌∙◌, subst, arith, ne_eqb, AllZip, list_all, false≢true}
use proofs.Common.{cases_eq, length-map, Heap, bytes_at, Member, EachPair, EachPair-from_AllPairs, inserted_here, inserted_other, bytes_in, Format, ModuleFile, Segment, SegmentData, Far, Target, targets_of, numbered, Owned, LoadingWorld, Module, IsSegmentOf, module_at, with_heap, Answers}
use proofs.Common.{GivesFrom, Fills, Filling, InTurn, Closure, Found, are_sound, Choice, IsChoice, Given, all_slots, given, segments_of, with_segment, bound, named, fills, read_of, segment_bytes, is_code, IsLoadingWorld, CodeIsItsFiles, IsItsFiles, ModulesAreItsFiles, IsOfFiles}
use proofs.Common.{unused_slot, Err, file_of, said_by}
use proofs.Undone.{chosen, fold_named, same_owned}
use proofs.Given.{place_member, one_place, index_place, given_found, given_slot, given_slots_differ, one_given, new_or_old, IsFilledBy, filled_by, filled_chosen}
use proofs.KeptCode.{IsFilled, ReadsAgain, image_of, read_in, fills_bytes}
use proofs.{Named.named_heap, Named.free_slot, Owners.segment_object}

-- What a closure found are files as they are.

abbrev pub IsOfFile : Format → LoadingWorld → Found → Type 0
IsOfFile format old f = (said_by format.says (file_of old.files f.file) ≡ Ok f.read) × (are_sound f.read ≡ true)

read_said : (format : Format) (p : Option (List ℕ)) (read : ModuleFile) → said_by format.says p ≡ Ok read → elim p as (λ _. Option ModuleFile) [ None ↦ None | Some bytes ↦ elim (format.says bytes) [ Ok read ↦ Some read | Err _ ↦ None ] ] ≡ Some read
read_said format None read e = cc
read_said format (Some bytes) read e = ap (λ r. elim r [ Ok y ↦ Some y | Err _ ↦ None ]) e

-- What names leave.

still_absent : (w : LoadingWorld) (xs : List (ℕ × Segment)) (q : ℕ) → bytes_at w.handles.heap q ≡ None → bytes_at (fold with_segment w xs).handles.heap q ≡ None
still_absent w [] q e = e
still_absent w (x ∷ xs) q e = still_absent (with_segment w x) xs q (elim (cases_eq q x.0) [
  | inl d ↦ ap bytes_in (inserted_here w.handles.heap.objects x.0 (record { kind = x.1.kind; locks = 0; bytes = None }) q d)
  | inr d ↦ ap bytes_in (inserted_other w.handles.heap.objects x.0 (record { kind = x.1.kind; locks = 0; bytes = None }) q d) ∙ e
])

-- a value for each record
pub sound_values : (value : Target → Far) (ss : List SegmentData) → list_all (λ s. is_some s.targets) ss ≡ true
    → AllZip (λ s values. IsSomeAnd s.targets (λ targets. length values ≡ length targets)) ss (map (λ s. map value (targets_of s)) ss)
sound_values value [] e = tt
sound_values value (s ∷ ss) e = turn _ refl e (λ f. sound_values _ ss f)
  where
    turn : (p : Option (List Target)) → s.targets ≡ p → (is_some p && list_all (λ s. is_some s.targets) ss) ≡ true
        → (list_all (λ s. is_some s.targets) ss ≡ true → AllZip (λ s values. IsSomeAnd s.targets (λ targets. length values ≡ length targets)) ss (map (λ s. map value (targets_of s)) ss))
        → AllZip (λ s values. IsSomeAnd s.targets (λ targets. length values ≡ length targets)) (s ∷ ss) (map (λ s. map value (targets_of s)) (s ∷ ss))
    turn None at e more = absurd (false≢true e)
    turn (Some targets) at e more = (subst (λ p. IsSomeAnd p (λ ts. length (map value (targets_of s)) ≡ length ts)) (sym at) (ap (λ p. length (map value (unwrap_or p []))) at ∙ length-map targets value), more e)

-- A load that has come to its end.
module _ (answers : Answers) (exact : ReadsAgain answers) (format : Format) (old : LoadingWorld) (is : IsLoadingWorld old) (closure : Closure) (choice : Choice) (good : IsChoice old closure.found choice) (of_files : (f : Found) → Member f closure.found → IsOfFile format old f) (heap : Heap)
    (filled : InTurn (GivesFrom Fills answers) (named old closure choice).handles.heap (fills old closure choice) None heap) where
  abbrev gs : List Given
  gs = given closure choice

  abbrev module_of : Given → Module
  module_of = bound old closure choice

  abbrev new : LoadingWorld
  new = with_heap (named old closure choice) heap

  segments_apart : EachPair (λ a b. a ≢ b) (all_slots choice)
  segments_apart = EachPair-from_AllPairs (λ (a b : ℕ). a ≢ b) (all_slots choice) good.slots.apart

  files : new.files ≡ old.files
  files = ap (λ (w : LoadingWorld). w.files) (fold_named old (segments_of gs)).rest

  -- a new module's file reads as it did, and is sound
  read : (g : Given) → Member g gs → (read_in format new.files g.found.file ≡ Some g.found.read) × (are_sound g.found.read ≡ true)
  read g member =
      let of_file = of_files g.found (given_found 0 closure.found choice.handles choice.slots g member) in
      (ap (λ f. read_in format f g.found.file) files ∙ read_said format (file_of old.files g.found.file) g.found.read of_file.0, of_file.1)

  bytes_are : (q : ℕ) → IfSome (bytes_at heap q) (λ b. (bytes_at (named old closure choice).handles.heap q ≡ Some b) ⊎ IsFilled (fills old closure choice) q b)
  bytes_are q = fills_bytes answers exact (named old closure choice).handles.heap heap (fills old closure choice) None (named_heap old closure choice is.handles good) filled q

  -- code of modules that were there
  old_code : CodeIsItsFiles format old → (slot handle number : ℕ) (m : Module) → IsSegmentOf old slot handle number m → is_code new slot ≡ true → IfSome (bytes_at heap slot) (λ b. segment_bytes format new m number ≡ Some b)
  old_code code slot handle number m s coded = turn (bytes_at heap slot) (bytes_are slot)
    where
      out : Member slot (all_slots choice) → ⊥
      out k = false≢true (sym (ap is_some (unused_slot old.handles is.handles slot (free_slot old closure choice good slot k))) ∙ segment_object old is slot handle number m s)

      apart : (x : ℕ × Segment) → Member x (segments_of gs) → slot ≢ x.0
      apart x k e = out (subst (λ q. Member q (all_slots choice)) (sym e) (chosen 0 closure.found choice.handles choice.slots x k))

      before : bytes_at (named old closure choice).handles.heap slot ≡ bytes_at old.handles.heap slot
      before = ap bytes_in ((fold_named old (segments_of gs)).others slot apart)

      was_code : is_code old slot ≡ true
      was_code = ap (λ p. unwrap_or (option_map (λ (o : Owned). o.code) p) false) (sym (same_owned old (segments_of gs) slot apart)) ∙ coded

      turn : (p : Option (List ℕ)) → IfSome p (λ b. (bytes_at (named old closure choice).handles.heap slot ≡ Some b) ⊎ IsFilled (fills old closure choice) slot b) → IfSome p (λ b. segment_bytes format new m number ≡ Some b)
      turn None h = tt
      turn (Some b) (inl e) = ap (λ f. image_of format f m.file m.values number) files ∙ subst (λ p. IfSome p (λ b. segment_bytes format old m number ≡ Some b)) (sym before ∙ e) (code slot handle number m s was_code)
      turn (Some b) (inr n) = absurd (out (subst (λ k. Member k (all_slots choice)) (sym n.2) (filled_chosen module_of closure.found choice.handles choice.slots n.0 n.1)))

  -- code of new modules
  new_code : (slot number : ℕ) (g : Given) → Member g gs → (number ≡ 0 → ⊥) → slice_get g.slots (number - 1) ≡ Some slot → IfSome (bytes_at heap slot) (λ b. segment_bytes format new (module_of g) number ≡ Some b)
  new_code slot number g member some at = turn (bytes_at heap slot) (bytes_are slot)
    where
      mine : Member slot g.slots
      mine = place_member g.slots (number - 1) slot at

      absent : bytes_at (named old closure choice).handles.heap slot ≡ None
      absent = still_absent old (segments_of gs) slot (ap bytes_in (unused_slot old.handles is.handles slot (free_slot old closure choice good slot (given_slot 0 closure.found choice.handles choice.slots g slot member mine))))

      imaged : (x : Filling) → IsFilledBy module_of g x → slot ≡ x.slot → segment_bytes format new (module_of g) number ≡ Some x.bytes
      imaged x h e =
          let same : h.place ≡ number - 1 = one_place g.slots h.place (number - 1) x.slot (given_slots_differ 0 closure.found choice.handles choice.slots g segments_apart member) h.slot_at (at ∙ ap Some e) in
          let data_there : numbered g.found.read.segments number ≡ Some h.its_data = ap (λ b. cond b None (slice_get g.found.read.segments (number - 1))) (ne_eqb number 0 some) ∙ ap (slice_get g.found.read.segments) (sym same) ∙ h.data_at in
          let values_there : slice_index_or (module_of g).values (number - 1) [] ≡ h.its_values = ap (λ n. slice_index_or (module_of g).values n []) (sym same) ∙ index_place (module_of g).values h.place h.its_values [] h.values_at in
          ap (λ (p : Option ModuleFile). elim p [ None ↦ None | Some r ↦ option_map (λ (s : SegmentData). s.image (slice_index_or (module_of g).values (number - 1) [])) (numbered r.segments number) ]) (read g member).0
          ∙ ap (option_map (λ (s : SegmentData). s.image (slice_index_or (module_of g).values (number - 1) []))) data_there
          ∙ ap (λ v. Some (h.its_data.image v)) values_there ∙ ap Some (sym h.image)

      turn : (p : Option (List ℕ)) → IfSome p (λ b. (bytes_at (named old closure choice).handles.heap slot ≡ Some b) ⊎ IsFilled (fills old closure choice) slot b) → IfSome p (λ b. segment_bytes format new (module_of g) number ≡ Some b)
      turn None h = tt
      turn (Some b) (inl e) = absurd (none b (sym absent ∙ e))
        where
          none : (b : List ℕ) → ◌≡◌ {A = Option (List ℕ)} None (Some b) → ⊥
          none b e = cc
      turn (Some b) (inr n) =
          let by : (h : Given) × Member h gs × IsFilledBy module_of h n.0 = filled_by module_of gs n.0 n.1 in
          let one : by.0 ≡ g = one_given 0 closure.found choice.handles choice.slots g by.0 slot segments_apart member by.1 mine (subst (λ q. Member q by.0.slots) (sym n.2) (place_member by.0.slots by.2.place n.0.slot by.2.slot_at)) in
          imaged n.0 (subst (λ (h : Given). IsFilledBy module_of h n.0) one by.2) n.2 ∙ ap Some (sym n.3)

  loaded_bytes : CodeIsItsFiles format old → CodeIsItsFiles format new
  loaded_bytes code slot handle number m s coded = turn (new_or_old module_of gs old.modules handle m s.loaded)
    where
      some : number ≡ 0 → ⊥
      some e = let lt : 0 < number = s.has.0 in absurd (omega (arith, lt, e))

      turn : ((g : Given) × Member g gs × (g.handle ≡ handle) × (m ≡ module_of g)) ⊎ (module_at old.modules handle ≡ Some m) → IfSome (bytes_at heap slot) (λ b. segment_bytes format new m number ≡ Some b)
      turn (inl r) = subst (λ (x : Module). IfSome (bytes_at heap slot) (λ b. segment_bytes format new x number ≡ Some b)) (sym r.3)
          (new_code slot number r.0 r.1 some (ap (λ (x : Module). slice_get x.slots (number - 1)) (sym r.3) ∙ s.has.1))
      turn (inr loaded) = old_code code slot handle number m (record { loaded = loaded; has = s.has }) coded

  loaded_modules : ModulesAreItsFiles format old → ModulesAreItsFiles format new
  loaded_modules modules handle m loaded = turn (new_or_old module_of gs old.modules handle m loaded)
    where
      its : (g : Given) → Member g gs → IsItsFiles (module_of g) g.found.read
      its g member = record { tables = refl; values = sound_values _ g.found.read.segments (read g member).1 }

      turn : ((g : Given) × Member g gs × (g.handle ≡ handle) × (m ≡ module_of g)) ⊎ (module_at old.modules handle ≡ Some m) → IsSomeAnd (read_of format new m) (IsItsFiles m)
      turn (inl r) = subst (λ (x : Module). IsSomeAnd (read_of format new x) (IsItsFiles x)) (sym r.3) (subst (λ p. IsSomeAnd p (IsItsFiles (module_of r.0))) (sym (read r.0 r.1).0) (its r.0 r.1))
      turn (inr there) = subst (λ p. IsSomeAnd p (IsItsFiles m)) (ap (λ f. read_in format f m.file) (sym files)) (modules handle m there)

  pub loaded_code : IsOfFiles format old → IsOfFiles format new
  loaded_code of = record { code = loaded_bytes of.code; modules = loaded_modules of.modules }
