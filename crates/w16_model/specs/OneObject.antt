-- The steps of a heap that ask for no room: what each leaves is determined. None changes an address or another object. A refused step leaves
-- the same heap.
use Rattle.std.specs.Prelude.{◌≡◌, ℕ, ◌+◌, ◌-◌, not, ◌&&◌, ◌||◌, ◌==◌, if◌then◌else◌, nat_lt, is_some, Option, Some, None, Result, Ok, Err}
use Rattle.w16_model.specs.Changes.{with_object, with_ordered, with_newest, newest, oldest, touched, absent, removed}
use Rattle.w16_model.specs.{declared.Kind.Kind, declared.Refusal.Refusal, Heap.Heap, Heap.object_at, Heap.is_fixed, Heap.is_discardable}
use Rattle.w16_model.specs.declared.Refusal.TheVariants as refusals

-- a new object without bytes takes an id that has none (GlobalAlloc of size 0; a segment before it is loaded)
pub record Enters (old : Heap) (id : ℕ) (kind : Kind) (new : Heap) : Type 0 where
  pub unused : object_at old id ≡ None
  pub entered : new ≡ with_object old id (record { kind = kind; locks = 0; bytes = None })

-- one lock more, and a discardable object becomes the newest (GlobalLock). An absent object isn't locked, a fixed one has no count, and a
-- count of 255 is full.
abbrev pub after_lock : Heap → ℕ → Result Heap Refusal
after_lock heap id = elim (object_at heap id) [
  | None ↦ Err refusals.Absent
  | Some o ↦ if not (is_some o.bytes) then Err refusals.Absent
      else (if is_fixed o.kind then Err refusals.Fixed
      else (if o.locks == 255 then Err refusals.LockFull
      else Ok (with_ordered heap id (record o { locks = o.locks + 1 }) (touched id))))
]

-- one lock less, if there is one (GlobalUnlock)
abbrev pub after_unlock : Heap → ℕ → Result Heap Refusal
after_unlock heap id = elim (object_at heap id) [
  | None ↦ Ok heap
  | Some o ↦ if is_fixed o.kind then Err refusals.Fixed else Ok (with_object heap id (record o { locks = o.locks - 1 }))
]

-- an object that isn't locked goes (GlobalFree)
abbrev pub after_free : Heap → ℕ → Result Heap Refusal
after_free heap id = elim (object_at heap id) [
  | None ↦ Ok heap
  | Some o ↦ if nat_lt 0 o.locks then Err refusals.Locked else Ok (removed heap id)
]

-- a discardable object that isn't locked gives up its bytes, if it has any (GlobalDiscard)
abbrev pub after_discard : Heap → ℕ → Result Heap Refusal
after_discard heap id = elim (object_at heap id) [
  | None ↦ Err refusals.NotDiscardable
  | Some o ↦ if nat_lt 0 o.locks then Err refusals.Locked
      else (if is_discardable o.kind then Ok (absent heap id)
      else Err refusals.NotDiscardable)
]

-- A moveable or discardable object becomes the other (GlobalReAlloc with GMEM_MODIFY). One that becomes discardable is the newest, one that
-- was so keeps its place, and one that isn't any more leaves the order. A fixed object stays so, and none becomes fixed.
abbrev pub after_modify : Heap → ℕ → Kind → Result Heap Refusal
after_modify heap id kind = elim (object_at heap id) [
  | None ↦ Err refusals.Absent
  | Some o ↦ if is_fixed o.kind || is_fixed kind then Err refusals.Fixed
      else Ok (with_ordered heap id (record o { kind = kind }) (λ order. if is_discardable o.kind && is_discardable kind then order else with_newest id (record o { kind = kind }) order))
]

-- an object was used: where it is in the order, it is the newest (an answered far access)
abbrev pub after_touch : Heap → ℕ → Heap
after_touch heap id = record heap { order = touched id heap.order }

-- A discardable object with bytes goes to an end of the order (GlobalLRUNewest, GlobalLRUOldest), locked or not.
abbrev pub refused_order : Heap → ℕ → Option Refusal
refused_order heap id = elim (object_at heap id) [
  | None ↦ Some refusals.Absent
  | Some o ↦ if not (is_some o.bytes) then Some refusals.Absent else (if is_discardable o.kind then None else Some refusals.NotDiscardable)
]

abbrev pub after_newest : Heap → ℕ → Result Heap Refusal
after_newest heap id = elim (refused_order heap id) [ Some refusal ↦ Err refusal | None ↦ Ok (record heap { order = newest id heap.order }) ]

abbrev pub after_oldest : Heap → ℕ → Result Heap Refusal
after_oldest heap id = elim (refused_order heap id) [ Some refusal ↦ Err refusal | None ↦ Ok (record heap { order = oldest id heap.order }) ]
