-- What a far access does: to its object's bytes, to all others, and to the order of use.
use Rattle.w16_model.proofs
use proofs.Common as C
use proofs.Common.{◌≡◌, ◌≢◌, ℕ, ◌+◌, ◌*◌, ◌≤◌, Bool, true, false, cond, IsSomeAnd, List, [], length, Option, Some, None, option_map, unwrap_or, refl, sym, ap, ◌∙◌, subst, arith, FarFault, ReadOnly, Limit, REACH, part, put_part, Heap, Object, object_at, newest, touched, after_touch}
use proofs.Common.{Handles, Gives, Part, part_of_selector, selector_in, offset_in, FarAnswer, far_fault, far_part, far_bytes, far_read, far_write, after_write, Read, Write, Fill, Bytes, Done, Fault, IsWritten, Reaches, FarEffect}
use proofs.Accesses.{Reached, reached, near}
use proofs.Parts.{length-put_part, take-put_part, part-put_part, drop-put_part}
use proofs.{Heaps.get-update_same, Heaps.get-update_other, KeptHeaps.bytes_in}

-- an access without a fault has a selector
selector_found : (handles : Handles) (selector offset n : ℕ) → far_fault handles selector offset n ≡ None → part_of_selector handles selector ≡ Some (far_part handles selector)
selector_found handles selector offset n = turn _
  where
    turn : (s : Option Part) → (elim s as (λ _. Option FarFault) [
      | None ↦ Some C.BadSelector
      | Some p ↦ elim (C.bytes_at handles.heap p.slot) [ None ↦ Some C.NotPresent | Some bytes ↦ cond (C.is_past (length bytes) p (offset + n)) (Some Limit) None ]
    ]) ≡ None → s ≡ Some (unwrap_or s (record { slot = 0; number = 0 }))
    turn None e = cc
    turn (Some p) e = refl

module _ (old : Handles) (is : C.AreHandles old) (selector offset : ℕ) where
  abbrev slot : ℕ
  slot = C.far_slot old selector

  abbrev begin : ℕ
  begin = REACH * (far_part old selector).number

  member : (b : Bool) → C.is_in_order (object_at old.heap slot) ≡ b → C.is_member slot old.heap.order ≡ b
  member b t = is.heap.in_order slot ∙ t

  -- its object has other bytes, and was used
  reaches : (n : ℕ) → far_fault old selector offset n ≡ None → (becomes : ℕ → List ℕ → List ℕ → Type 0) (heap : Heap) → heap ≡ record old.heap { objects = heap.objects }
      → ((o : Object) (bytes : List ℕ) → object_at old.heap slot ≡ Some o → o.bytes ≡ Some bytes → begin + offset + n ≤ length bytes → (after : List ℕ) × becomes begin bytes after × (object_at heap slot ≡ Some (record o { bytes = Some after })))
      → ((q : ℕ) → q ≢ slot → object_at heap q ≡ object_at old.heap q) → Reaches old selector (offset + n) becomes (record old { heap = after_touch heap slot })
  reaches n free becomes heap rest changes others =
      let r : Reached old slot (begin + offset + n) = reached old selector offset n free in
      record {
        slot = slot;
        number = (far_part old selector).number;
        near = near old selector offset n free;
        found = selector_found old selector offset n free;
        object = subst (λ p. IsSomeAnd p (λ o. IsSomeAnd o.bytes (λ bytes. (after : List ℕ) × becomes begin bytes after × (object_at heap slot ≡ Some (record o { bytes = Some after }))))) (sym r.there)
            (subst (λ b. IsSomeAnd b (λ bytes. (after : List ℕ) × becomes begin bytes after × (object_at heap slot ≡ Some (record r.object { bytes = Some after })))) (sym r.has) (changes r.object r.bytes r.there r.has r.fits));
        others = others;
        newest = λ t. ap (λ (h : Heap). touched slot h.order) rest ∙ ap (λ b. cond {A = List ℕ} b (newest slot old.heap.order) old.heap.order) (member true t);
        unlisted = λ t. ap (λ (h : Heap). touched slot h.order) rest ∙ ap (λ b. cond {A = List ℕ} b (newest slot old.heap.order) old.heap.order) (member false t);
        rest = ap (λ (h : Heap). record old { heap = record h { order = touched slot heap.order } }) rest;
      }

  -- what holds of the outcome of a read, and of a write
  read : (n : ℕ) (P : FarAnswer → Handles → Type 0) → ((fault : FarFault) → P (Fault fault) old)
      → ((bytes : List ℕ) (new : Handles) → Reaches old selector (offset + n) (λ from before after. (after ≡ before) × (bytes ≡ part before (from + offset) n)) new → P (Bytes bytes) new) → P (far_read old selector offset n).0 (far_read old selector offset n).1
  read n P fails done = turn (far_fault old selector offset n) refl
    where
      turn : (f : Option FarFault) → far_fault old selector offset n ≡ f
          → P (elim f as (λ _. FarAnswer × Handles) [ Some fault ↦ (Fault fault, old) | None ↦ (Bytes (part (far_bytes old selector) (begin + offset) n), record old { heap = after_touch old.heap slot }) ]).0
          (elim f as (λ _. FarAnswer × Handles) [ Some fault ↦ (Fault fault, old) | None ↦ (Bytes (part (far_bytes old selector) (begin + offset) n), record old { heap = after_touch old.heap slot }) ]).1
      turn (Some fault) e = fails fault
      turn None e = done (part (far_bytes old selector) (begin + offset) n) (record old { heap = after_touch old.heap slot })
          (reaches n e (λ from before after. (after ≡ before) × (part (far_bytes old selector) (begin + offset) n ≡ part before (from + offset) n)) old.heap refl
          (λ o bytes there has fits. (bytes, (refl, ap (λ p. part (unwrap_or p []) (begin + offset) n) (ap bytes_in there ∙ has)), there ∙ ap (λ b. Some (record o { bytes = b })) has)) (λ q d. refl))

  write : (slice : List ℕ) (P : FarAnswer → Handles → Type 0) → ((fault : FarFault) → P (Fault fault) old) → ((new : Handles) → Reaches old selector (offset + length slice) (λ from before after. IsWritten before (from + offset) slice after) new → P Done new)
      → P (far_write old selector offset slice).0 (far_write old selector offset slice).1
  write slice P fails done = by_code (C.refuses_write old selector)
    where
      turn : (f : Option FarFault) → far_fault old selector offset (length slice) ≡ f
          → P (elim f as (λ _. FarAnswer × Handles) [ Some fault ↦ (Fault fault, old) | None ↦ (Done, record old { heap = after_touch (after_write old.heap slot (begin + offset) slice) slot }) ]).0
          (elim f as (λ _. FarAnswer × Handles) [ Some fault ↦ (Fault fault, old) | None ↦ (Done, record old { heap = after_touch (after_write old.heap slot (begin + offset) slice) slot }) ]).1
      turn (Some fault) e = fails fault
      turn None e = done (record old { heap = after_touch (after_write old.heap slot (begin + offset) slice) slot })
          (reaches (length slice) e (λ from before after. IsWritten before (from + offset) slice after) (after_write old.heap slot (begin + offset) slice) refl
          (λ o bytes there has fits. (
            put_part bytes (begin + offset) slice,
            record {
              fits = fits;
              long = length-put_part bytes (begin + offset) slice fits;
              below = take-put_part bytes (begin + offset) slice (begin + offset) (omega arith) (omega (arith, fits));
              written = part-put_part bytes (begin + offset) slice (length slice) refl (omega (arith, fits));
              above = drop-put_part bytes (begin + offset) slice (begin + offset + length slice) (omega arith) fits;
            },
            get-update_same old.heap.objects slot (λ (o : Object). record o { bytes = option_map (λ bytes. put_part bytes (begin + offset) slice) o.bytes })
                ∙ ap (option_map (λ (o : Object). record o { bytes = option_map (λ bytes. put_part bytes (begin + offset) slice) o.bytes })) there
                ∙ ap (λ b. Some (record o { bytes = option_map (λ bytes. put_part bytes (begin + offset) slice) b })) has,
          ))
          (λ q d. get-update_other old.heap.objects slot (λ (o : Object). record o { bytes = option_map (λ bytes. put_part bytes (begin + offset) slice) o.bytes }) q d))

      by_code : (b : Bool) → P (cond {A = FarAnswer × Handles} b (Fault ReadOnly, old) (C.data_write old selector offset slice)).0 (cond {A = FarAnswer × Handles} b (Fault ReadOnly, old) (C.data_write old selector offset slice)).1
      by_code true = fails ReadOnly
      by_code false = turn (far_fault old selector offset (length slice)) refl

-- what an outcome is told by
given : (P : FarAnswer → Handles → Type 0) (outcome : FarAnswer × Handles) (answer : FarAnswer) (new : Handles) → Gives outcome answer new → P outcome.0 outcome.1 → P answer new
given P outcome answer new g h = subst (λ a. P a new) (sym g.0) (subst (P _) (sym g.1) h)

pub far_effect_law : C.FarEffectLaw
far_effect_law old new (Read pointer count) answer is step = given (FarEffect old (Read _ count)) _ _ new step
    (read old is (selector_in _) (offset_in _) count (FarEffect old (Read _ count)) (λ fault. refl) (λ bytes new r. r))
far_effect_law old new (Write pointer slice) answer is step = given (FarEffect old (Write _ slice)) _ _ new step
    (write old is (selector_in pointer) (offset_in pointer) slice (FarEffect old (Write _ slice)) (λ fault. refl) (λ new r. r))
far_effect_law old new (Fill pointer count byte) answer is step = given (FarEffect old (Fill _ count byte)) _ _ new step
    (write old is (selector_in pointer) (offset_in pointer) (C.repeated count byte) (FarEffect old (Fill _ count byte)) (λ fault. refl) (λ new r. r))
