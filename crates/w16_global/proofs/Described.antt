-- What each step of the heap leaves of what selectors say.
use Rattle.w16_global.proofs
use proofs.Common as C
use proofs.Common.{◌≡◌, ◌≢◌, ℕ, ◌+◌, ◌-◌, ◌≤◌, ◌==◌, inl, inr, Bool, true, false, IsSomeAnd, if◌then◌else◌, not, List, length, Option, Some, None, Result, Ok, Err, option_map, unwrap_or, refl, sym, ap, ◌∙◌, subst, Kind, Refusal, Heap, Object, object_at, is_fixed, with_object, with_ordered}
use proofs.Common.{removed, touched, put_part, unset, Descriptor, descriptor_for, reaching, says}
use Rattle.std.specs.FinMap as finmap
use Rattle.w16_model.specs.declared.Refusal.TheVariants as refusals

module _ (holds : C.SelKind) (number : ℕ) (heap : Heap) (slot : ℕ) where
  -- an object in place of one with as many bytes leaves what selectors say
  pub with_same : (before o : Object) (order : List ℕ) → object_at heap slot ≡ Some before → descriptor_for heap holds number slot o ≡ descriptor_for heap holds number slot before
      → (q : ℕ) → says (record heap { objects = finmap.insert heap.objects slot o; order = order }) holds number q ≡ says heap holds number q
  with_same before o order there same q = elim (C.cases_eq q slot) [
    | inl e ↦ ap (option_map (descriptor_for heap holds number q)) (C.inserted_here heap.objects slot o q e) ∙ ap (λ k. Some (descriptor_for heap holds number k o)) e ∙ ap Some same
        ∙ sym (ap (λ k. option_map (descriptor_for heap holds number k) (object_at heap k)) e ∙ ap (option_map (descriptor_for heap holds number slot)) there)
    | inr n ↦ ap (option_map (descriptor_for heap holds number q)) (C.inserted_other heap.objects slot o q n)
  ]

  -- GlobalLock, by its tests
  abbrev lock_by : Object → Bool → Bool → Bool → Result Heap Refusal
  lock_by o a b c = if a then Err refusals.Absent
      else (if b then Err refusals.Fixed
      else (if c then Err refusals.LockFull
      else Ok (with_ordered heap slot (record o { locks = o.locks + 1 }) (touched slot))))

  abbrev lock_of : Option Object → Result Heap Refusal
  lock_of p = elim p [ None ↦ Err refusals.Absent | Some o ↦ lock_by o (not (C.is_some o.bytes)) (is_fixed o.kind) (o.locks == 255) ]

  pub lock_same : (new : Heap) → C.after_lock heap slot ≡ Ok new → (q : ℕ) → says new holds number q ≡ says heap holds number q
  lock_same new done q = turn (object_at heap slot) refl done
    where
      tests : (o : Object) → object_at heap slot ≡ Some o → (a b c : Bool) → lock_by o a b c ≡ Ok new → says new holds number q ≡ says heap holds number q
      tests o e true b c g = cc
      tests o e false true c g = cc
      tests o e false false true g = cc
      tests o e false false false g =
          let is : with_ordered heap slot (record o { locks = o.locks + 1 }) (touched slot) ≡ new = cc in
          subst (λ (h : Heap). says h holds number q ≡ says heap holds number q) is (with_same o (record o { locks = o.locks + 1 }) (touched slot heap.order) e refl q)

      turn : (p : Option Object) → object_at heap slot ≡ p → lock_of p ≡ Ok new → says new holds number q ≡ says heap holds number q
      turn None e h = cc
      turn (Some o) e h = tests o e (not (C.is_some o.bytes)) (is_fixed o.kind) (o.locks == 255) h

  -- GlobalUnlock
  abbrev unlock_by : Object → Bool → Result Heap Refusal
  unlock_by o a = if a then Err refusals.Fixed else Ok (with_object heap slot (record o { locks = o.locks - 1 }))

  abbrev unlock_of : Option Object → Result Heap Refusal
  unlock_of p = elim p [ None ↦ Ok heap | Some o ↦ unlock_by o (is_fixed o.kind) ]

  pub unlock_same : (new : Heap) → C.after_unlock heap slot ≡ Ok new → (q : ℕ) → says new holds number q ≡ says heap holds number q
  unlock_same new done q = turn (object_at heap slot) refl done
    where
      test : (o : Object) → object_at heap slot ≡ Some o → (a : Bool) → unlock_by o a ≡ Ok new → says new holds number q ≡ says heap holds number q
      test o e true g = cc
      test o e false g =
          let is : with_object heap slot (record o { locks = o.locks - 1 }) ≡ new = cc in
          subst (λ (h : Heap). says h holds number q ≡ says heap holds number q) is (with_same o (record o { locks = o.locks - 1 }) heap.order e refl q)

      turn : (p : Option Object) → object_at heap slot ≡ p → unlock_of p ≡ Ok new → says new holds number q ≡ says heap holds number q
      turn None e h = let is : heap ≡ new = cc in ap (λ (k : Heap). says k holds number q) (sym is)
      turn (Some o) e h = test o e (is_fixed o.kind) h

  -- what is left without an object says nothing of it, and of others the same
  removed_here : says (removed heap slot) holds number slot ≡ None
  removed_here = ap (option_map (descriptor_for (removed heap slot) holds number slot)) (C.taken_here heap.objects slot slot refl)

  pub removed_other : (q : ℕ) → q ≢ slot → says (removed heap slot) holds number q ≡ says heap holds number q
  removed_other q n = ap (option_map (descriptor_for (removed heap slot) holds number q)) (C.taken_other heap.objects slot q n) ∙ mapped (object_at heap q)
    where
      based : (b : Option (List ℕ)) → ◌≡◌ {A = Option Descriptor} (Some (elim b as (λ _. Descriptor) [ None ↦ unset holds number | Some bytes ↦ reaching holds (unwrap_or (finmap.get (finmap.remove heap.places slot) q) 0) (length bytes) number ]))
          (Some (elim b as (λ _. Descriptor) [ None ↦ unset holds number | Some bytes ↦ reaching holds (unwrap_or (finmap.get heap.places q) 0) (length bytes) number ]))
      based None = refl
      based (Some bytes) = ap (λ (a : Option ℕ). Some (reaching holds (unwrap_or a 0) (length bytes) number)) (C.taken_other heap.places slot q n)

      mapped : (p : Option Object) → option_map (descriptor_for (removed heap slot) holds number q) p ≡ option_map (descriptor_for heap holds number q) p
      mapped None = refl
      mapped (Some o) = based o.bytes

  -- an absent object
  pub entered_here : (kind : Kind) → says (with_object heap slot (record { kind = kind; locks = 0; bytes = None })) holds number slot ≡ Some (unset holds number)
  entered_here kind = ap (option_map (descriptor_for (with_object heap slot (record { kind = kind; locks = 0; bytes = None })) holds number slot)) (C.inserted_here heap.objects slot (record { kind = kind; locks = 0; bytes = None }) slot refl)

  pub entered_other : (kind : Kind) (q : ℕ) → q ≢ slot → says (with_object heap slot (record { kind = kind; locks = 0; bytes = None })) holds number q ≡ says heap holds number q
  entered_other kind q n = ap (option_map (descriptor_for heap holds number q)) (C.inserted_other heap.objects slot (record { kind = kind; locks = 0; bytes = None }) q n)

  -- bytes written over others
  pub write_same : (at : ℕ) (slice bytes : List ℕ) (o : Object) → object_at heap slot ≡ Some o → o.bytes ≡ Some bytes → at + length slice ≤ length bytes → (q : ℕ) → says (C.after_write heap slot at slice) holds number q ≡ says heap holds number q
  write_same at slice bytes o there has inside q =
      let written : Object = record o { bytes = option_map (λ (b : List ℕ). put_part b at slice) o.bytes } in
      let long : length (put_part bytes at slice) ≡ length bytes = C.length-put_part bytes at slice inside in
      let same : descriptor_for heap holds number slot written ≡ descriptor_for heap holds number slot o =
      ap (λ (b : Option (List ℕ)). descriptor_for heap holds number slot (record o { bytes = option_map (λ (b : List ℕ). put_part b at slice) b })) has
      ∙ (λ i. reaching holds (unwrap_or (finmap.get heap.places slot) 0) (long i) number)
      ∙ sym (ap (λ (b : Option (List ℕ)). descriptor_for heap holds number slot (record o { bytes = b })) has) in
      elim (C.cases_eq q slot) [
        | inl e ↦ ap (option_map (descriptor_for heap holds number q)) (ap (λ k. object_at (C.after_write heap slot at slice) k) e ∙ C.get-update_same heap.objects slot (λ (o : Object). record o { bytes = option_map (λ (b : List ℕ). put_part b at slice) o.bytes })
            ∙ ap (option_map (λ (o : Object). record o { bytes = option_map (λ (b : List ℕ). put_part b at slice) o.bytes })) there)
            ∙ ap (λ k. Some (descriptor_for heap holds number k written)) e ∙ ap Some same
            ∙ sym (ap (λ k. option_map (descriptor_for heap holds number k) (object_at heap k)) e ∙ ap (option_map (descriptor_for heap holds number slot)) there)
        | inr n ↦ ap (option_map (descriptor_for heap holds number q)) (C.get-update_other heap.objects slot (λ (o : Object). record o { bytes = option_map (λ (b : List ℕ). put_part b at slice) o.bytes }) q n)
      ]

  -- a new object with bytes at an address
  pub made_here : (size at : ℕ) → (b : Option (List ℕ)) → C.bytes_at heap slot ≡ b → IsSomeAnd b (λ bytes. length bytes ≡ size) → finmap.get heap.places slot ≡ Some at
      → says heap holds number slot ≡ Some (reaching holds at size number)
  made_here size at b has sized placed = of_object (object_at heap slot) refl (subst (λ b. IsSomeAnd b (λ bytes. length bytes ≡ size)) (sym has) sized)
    where
      of_bytes : (o : Object) → object_at heap slot ≡ Some o → (c : Option (List ℕ)) → o.bytes ≡ c → IsSomeAnd c (λ bytes. length bytes ≡ size) → says heap holds number slot ≡ Some (reaching holds at size number)
      of_bytes o there None e h = absurd h
      of_bytes o there (Some bytes) e h = ap (option_map (descriptor_for heap holds number slot)) there ∙ ap (λ (c : Option (List ℕ)). Some (descriptor_for heap holds number slot (record o { bytes = c }))) e
          ∙ (λ i. Some (reaching holds (unwrap_or (placed i) 0) (h i) number))

      of_object : (p : Option Object) → object_at heap slot ≡ p → IsSomeAnd (elim p as (λ _. Option (List ℕ)) [ Some o ↦ o.bytes | None ↦ None ]) (λ bytes. length bytes ≡ size) → says heap holds number slot ≡ Some (reaching holds at size number)
      of_object None there h = absurd h
      of_object (Some o) there h = of_bytes o there o.bytes refl h

-- another heap with the same object and address at a slot
pub same_described : (holds : C.SelKind) (number : ℕ) (heap new : Heap) (q : ℕ) → object_at new q ≡ object_at heap q → finmap.get new.places q ≡ finmap.get heap.places q → says new holds number q ≡ says heap holds number q
same_described holds number heap new q object place = ap (option_map _) object ∙ mapped _
  where
    based : (b : Option (List ℕ)) → ◌≡◌ {A = Option Descriptor} (Some (elim b as (λ _. Descriptor) [ None ↦ unset holds number | Some bytes ↦ reaching holds (unwrap_or (finmap.get new.places q) 0) (length bytes) number ]))
        (Some (elim b as (λ _. Descriptor) [ None ↦ unset holds number | Some bytes ↦ reaching holds (unwrap_or (finmap.get heap.places q) 0) (length bytes) number ]))
    based None = refl
    based (Some bytes) = ap (λ a. Some (reaching holds (unwrap_or a 0) (length bytes) number)) place

    mapped : (p : Option Object) → option_map (descriptor_for new holds number q) p ≡ option_map (descriptor_for heap holds number q) p
    mapped None = refl
    mapped (Some o) = based _
