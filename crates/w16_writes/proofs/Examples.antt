-- A byte is written, its object is moved or gets another handle, and it is read: what the law asks of a run can be met, also by a byte of a local
-- object, one beside a local heap, and one that a second selector reaches.
use Rattle.w16_machine.proofs.Common as C
use Rattle.w16_loading.proofs.Common.{REACH}
use Rattle.w16_machine.proofs.Common.{◌≡◌, ℕ, ◌+◌, ◌-◌, ◌*◌, ◌/◌, ◌==◌, ◌&&◌, nat_le, false, true, cond, List, [], ◌∷◌, Option, Some, None, is_some, option_map, refl, sym, ap, ◌∙◌, Moveable, Read, Write, object_at, Table, bytes_in, OfFar, Event, LocalHeap, World}
use Rattle.w16_model.proofs.Common.{if◌then◌else◌, slice_get, Part, far_pointer, handle_of, owner_of, part_of_selector, selector_of}
use Rattle.w16_loading.specs.Replies.Reply.{Bytes, Done, Dword, Word}
use Rattle.w16_writes.specs.LastWrite.{Access, Has, IsUndisturbed, Position, Reads, Writes, byte_at, byte_in, is_in_range, place_at, position_after}
use Rattle.std.specs.FinMap as finmap
use Rattle.w16_loading.specs.Families.AnyCommand.{any}

-- the slot has an object of three bytes, and no local heap
record HasObject (w : World) (slot : ℕ) : Type 0 where
  pub object : object_at w.loading.handles.heap slot ≡ Some (record { kind = Moveable; locks = 0; bytes = Some (0 ∷ 7 ∷ 0 ∷ []) })
  pub own : owner_of w.loading.handles.attributes slot ≡ Some slot
  pub none : finmap.get w.heaps slot ≡ None

abbrev second : Position
second = record { slot = 32; entry = None; offset = 1 }

-- steps that write, read and compact
abbrev writing : ℕ → ℕ → List ℕ → World → Event
writing selector offset bytes w = record { command = (any _ (Write (far_pointer selector offset) bytes)); reply = Done; after = w }

abbrev reading : ℕ → ℕ → List ℕ → World → Event
reading selector offset bytes w = record { command = (any _ (Read (far_pointer selector offset) (C.length bytes))); reply = Bytes bytes; after = w }

abbrev compacting : World → Event
compacting w = record { command = (any _ (C.GlobalCompact 32)); reply = Dword 32; after = w }

-- what a selector reaches
reaches : (w : World) (selector : ℕ) {slot : ℕ} → (selector == selector_of (selector / 8)) ≡ true → owner_of w.loading.handles.attributes (selector / 8) ≡ Some slot → part_of_selector w.loading.handles selector ≡ Some (record { slot = slot; number = selector / 8 - slot })
reaches w selector v e = (λ i. cond (v i) (option_map (λ slot. let p : Part = record { slot = slot; number = selector / 8 - slot } in p) (e i)) None)

-- an access has a byte that is there
has_there : {w : World} {p : Position} {byte : ℕ} {access : Access} (number index : ℕ) → byte_at w p ≡ Some byte → part_of_selector w.loading.handles (C.selector_in access.pointer) ≡ Some (record { slot = p.slot; number = number })
    → place_at w p ≡ Some (REACH * number + C.offset_in access.pointer + index) → slice_get access.bytes index ≡ Some byte → Has w p byte access
has_there number index there selected place same = record { there = ap is_some there; selected = selected; number = number; index = index; place = place; has = same }

has_byte : (w : World) → HasObject w 32 → byte_at w second ≡ Some 7
has_byte w h = (λ i. cond (is_in_range (h.none i) 1) None (byte_in (bytes_in (h.object i)) 1))

module _ (before after : World) (h : HasObject before 32) (g : HasObject after 32) where
  writes : Writes (writing 263 1 (7 ∷ []) before) second 7
  writes = has_there 0 0 (has_byte before h) (reaches before 263 refl h.own) refl refl

  undisturbed : IsUndisturbed second before (compacting after ∷ [])
  undisturbed = (ap is_some (has_byte before h), (λ byte w. w), ap is_some (has_byte after g))

  reads : Reads after (reading 263 0 (0 ∷ 7 ∷ 0 ∷ []) after) second 7
  reads = has_there 0 1 (has_byte after g) (reaches after 263 refl g.own) refl refl

  -- another write there disturbs it
  disturbed : IsUndisturbed second before (writing 263 1 (7 ∷ []) before ∷ []) → ⊥
  disturbed u = u.1 7 writes

-- the slot 40 has it, as it was in the slot 32
module _ (before after : World) (h : HasObject before 32) (g : HasObject after 40) where
  -- the handle of slot 32 is given, and that of slot 40 is answered
  abbrev resizing : Event
  resizing = record { command = (any _ (C.GlobalReAlloc 262 131104 0)); reply = Word 326; after = after }

  abbrev slot_by : ℕ → Option C.Object → Option ℕ
  slot_by handle p = elim p [ Some o ↦ if handle == handle_of o.kind (handle / 8) then Some (handle / 8) else None | None ↦ None ]

  -- so the position goes there, where its byte is read
  slot_there : (position_after before resizing second).slot ≡ 40
  slot_there = (λ i. cond (C.unwrap_or (option_map (λ q. q == 32) (slot_by 262 (h.object i))) false) (C.unwrap_or (slot_by 326 (g.object i)) 32) 32)

  byte_there : byte_at after (position_after before resizing second) ≡ Some 7
  byte_there = ap (λ s. byte_at after (record { slot = s; entry = None; offset = 1 })) slot_there ∙ (λ i. cond (is_in_range (g.none i) 1) None (byte_in (bytes_in (g.object i)) 1))

  undisturbed_there : IsUndisturbed second before (resizing ∷ [])
  undisturbed_there = (ap is_some (has_byte before h), (λ byte w. w), ap is_some byte_there)

  reads_there : Reads after (reading 327 0 (0 ∷ 7 ∷ 0 ∷ []) after) (position_after before resizing second) 7
  reads_there = has_there 0 1 byte_there (reaches after 327 refl g.own ∙ ap (λ s. Some (record { slot = s; number = 0 })) (sym slot_there)) refl refl

-- The slot 32 has an object of twelve bytes with a local heap over its middle four, which are one local object.
abbrev segment : List ℕ
segment = 0 ∷ 0 ∷ 0 ∷ 0 ∷ 1 ∷ 2 ∷ 3 ∷ 4 ∷ 0 ∷ 9 ∷ 0 ∷ 0 ∷ []

record HasHeap (w : World) (middle : Table) : Type 0 where
  pub object : object_at w.loading.handles.heap 32 ≡ Some (record { kind = Moveable; locks = 0; bytes = Some segment })
  pub own : owner_of w.loading.handles.attributes 32 ≡ Some 32
  pub heap : finmap.get w.heaps 32 ≡ Some middle
  pub from : middle.lo ≡ 4
  pub to : middle.hi ≡ 8
  pub place : finmap.get (C.heap_in middle segment).places 0 ≡ Some 4
  pub bytes : C.bytes_at (C.heap_in middle segment) 0 ≡ Some (1 ∷ 2 ∷ 3 ∷ 4 ∷ [])

-- the second byte of the local object, and one of the segment's beside the heap
abbrev inside : Position
inside = record { slot = 32; entry = Some 0; offset = 1 }

abbrev beside : Position
beside = record { slot = 32; entry = None; offset = 9 }

module _ (w : World) {middle : Table} (h : HasHeap w middle) where
  local_is : C.local_in w 32 ≡ Some (record { slot = 32; table = middle; bytes = segment })
  local_is =
      ap (λ p. elim p as (λ _. Option LocalHeap) [ None ↦ None | Some t ↦ elim (C.segment_bytes w 32) as (λ _. Option LocalHeap) [ None ↦ None | Some bytes ↦ C.local_of 32 t bytes ] ]) h.heap
      ∙ ap (λ p. elim p as (λ _. Option LocalHeap) [ None ↦ None | Some bytes ↦ C.local_of 32 middle bytes ]) (ap bytes_in h.object)
      ∙ ap (λ n. if nat_le n 12 then Some (record { slot = 32; table = middle; bytes = segment }) else None) h.to

  inside_byte : byte_at w inside ≡ Some 2
  inside_byte = ap (λ p. elim p as (λ _. Option ℕ) [ None ↦ None | Some at ↦ byte_in (C.bytes_at (C.heap_of at) 0) 1 ]) local_is ∙ ap (λ p. byte_in p 1) h.bytes

  inside_place : place_at w inside ≡ Some 5
  inside_place = ap (λ p. elim p as (λ _. Option ℕ) [ None ↦ None | Some at ↦ option_map (λ begin. begin + 1) (finmap.get (C.heap_of at).places 0) ]) local_is ∙ ap (option_map (λ begin. begin + 1)) h.place

  beside_byte : byte_at w beside ≡ Some 9
  beside_byte = ap (λ p. cond (is_in_range p 9) None (byte_in (C.segment_bytes w 32) 9)) h.heap
      ∙ (λ i. cond (nat_le (h.from i) 9 && C.nat_lt 9 (h.to i)) None (byte_in (bytes_in (h.object i)) 9))

-- A byte of a local object, and one beside the heap, read back after a compaction, wherever the segment has slid.
module _ (before after : World) (old new : Table) (h : HasHeap before old) (g : HasHeap after new) where
  abbrev reading_all : Event
  reading_all = reading 263 4 (1 ∷ 2 ∷ 3 ∷ 4 ∷ 0 ∷ 9 ∷ []) after

  writes_inside : Writes (writing 263 5 (2 ∷ []) before) inside 2
  writes_inside = has_there 0 0 (inside_byte before h) (reaches before 263 refl h.own) (inside_place before h) refl

  undisturbed_inside : IsUndisturbed inside before (compacting after ∷ [])
  undisturbed_inside = (ap is_some (inside_byte before h), (λ byte w. w), ap is_some (inside_byte after g))

  reads_inside : Reads after reading_all inside 2
  reads_inside = has_there 0 1 (inside_byte after g) (reaches after 263 refl g.own) (inside_place after g) refl

  writes_beside : Writes (writing 263 9 (9 ∷ []) before) beside 9
  writes_beside = has_there 0 0 (beside_byte before h) (reaches before 263 refl h.own) refl refl

  undisturbed_beside : IsUndisturbed beside before (compacting after ∷ [])
  undisturbed_beside = (ap is_some (beside_byte before h), (λ byte w. w), ap is_some (beside_byte after g))

  reads_beside : Reads after reading_all beside 9
  reads_beside = has_there 0 5 (beside_byte after g) (reaches after 263 refl g.own) refl refl

  -- a write to the local object disturbs it, and not what is beside the heap
  disturbed_inside : IsUndisturbed inside before (writing 263 5 (2 ∷ []) before ∷ []) → ⊥
  disturbed_inside u = u.1 2 writes_inside

-- The slot 32 has an object over two selectors, the second of which is 271.
record HasLong (w : World) (bytes : List ℕ) : Type 0 where
  pub object : object_at w.loading.handles.heap 32 ≡ Some (record { kind = Moveable; locks = 0; bytes = Some bytes })
  pub byte : slice_get bytes 65541 ≡ Some 7
  pub own : owner_of w.loading.handles.attributes 33 ≡ Some 32
  pub none : finmap.get w.heaps 32 ≡ None

abbrev far_in : Position
far_in = record { slot = 32; entry = None; offset = 65541 }

module _ (before after : World) (bytes : List ℕ) (h : HasLong before bytes) (g : HasLong after bytes) where
  long_byte : (w : World) → HasLong w bytes → byte_at w far_in ≡ Some 7
  long_byte w h = (λ i. cond (is_in_range (h.none i) 65541) None (byte_in (bytes_in (h.object i)) 65541)) ∙ h.byte

  writes_far : Writes (writing 271 5 (7 ∷ []) before) far_in 7
  writes_far = has_there 1 0 (long_byte before h) (reaches before 271 refl h.own) refl refl

  undisturbed_far : IsUndisturbed far_in before (compacting after ∷ [])
  undisturbed_far = (ap is_some (long_byte before h), (λ byte w. w), ap is_some (long_byte after g))

  reads_far : Reads after (reading 271 5 (7 ∷ []) after) far_in 7
  reads_far = has_there 1 0 (long_byte after g) (reaches after 271 refl g.own) refl refl
