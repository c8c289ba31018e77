-- GlobalReAlloc and GlobalDiscard on handles: the cases in their order, and what each answers and leaves.
use Rattle.w16_model.specs
use Rattle.std.specs.Prelude.{◌≡◌, ℕ, ◌+◌, ◌-◌, ◌⊎◌, Bool, true, not, ◌&&◌, ◌||◌, ◌==◌, if◌then◌else◌, nat_lt, map, MatchBool, MatchOption, IsSomeAnd, Some, None, Result, Ok, Err}
use Rattle.std.specs.{Ordering.nat_cmp, FinMap.FinMap}
use specs.declared.Kind.TheVariants.{Moveable, Discardable}
use specs.declared.TheConstants.{LARGEST_SIZE, GMEM_MOVEABLE, GMEM_MODIFY, GMEM_DISCARDABLE}
use specs.Heap.{Heap, Object, object_at, is_fixed}
use specs.Handles.{Handles, IsFreeRun, HasNoRun, slots_at, slots_for, handle_of, slot_of_handle}
use specs.Calls.{has_flag, rounded_size, alloc_options}
use specs.{declared.Attributes.Attributes, declared.Kind.Kind, declared.Refusal.Refusal, declared.RoomOptions.RoomOptions, Request.Reallocates, Request.moved_bytes, OneObject.after_modify, OneObject.after_discard, Owned.owns}
use Rattle.std.specs.FinMap as finmap

-- as an allocation's flags; with GMEM_MOVEABLE the object itself may be moved too, fixed or locked
abbrev pub realloc_options : ℕ → RoomOptions
realloc_options flags = record (alloc_options flags) { may_move = has_flag flags GMEM_MOVEABLE }

-- the kind that GMEM_MODIFY asks for: GMEM_MOVEABLE isn't looked at
abbrev pub kind_modified : ℕ → Kind
kind_modified flags = if has_flag flags GMEM_DISCARDABLE then Discardable else Moveable

-- the heap with the object's kind changed; a fixed object stays as it is
abbrev pub modified : Heap → ℕ → Kind → Heap
modified heap slot kind = elim (after_modify heap slot kind) [ Ok new ↦ new | Err _ ↦ heap ]

-- NULL, and nothing was moved
abbrev pub IsNull : Handles → ℕ → Handles → Type 0
IsNull old answer new = (answer ≡ 0) × (new ≡ record old { moved = 0 })

-- the handle again, over this heap
abbrev pub AnswersHandle : Handles → ℕ → Heap → ℕ → Handles → Type 0
AnswersHandle old handle heap answer new = (answer ≡ handle) × (new ≡ record old { heap = heap; moved = moved_bytes old.heap heap })

-- what is answered to a discard: the handle again, or NULL where it is refused
abbrev pub AnswersDiscard : Handles → ℕ → ℕ → Handles → Result Heap Refusal → Type 0
AnswersDiscard old handle answer new (Ok heap) = AnswersHandle old handle heap answer new
AnswersDiscard old handle answer new (Err refusal) = IsNull old answer new

-- a size of 0: with GMEM_MOVEABLE an object that is discardable and not locked is discarded, also if it is so already (GlobalDiscard)
abbrev pub Empties : Handles → ℕ → ℕ → ℕ → ℕ → Handles → Type 0
Empties old handle slot flags answer new = MatchBool (has_flag flags GMEM_MOVEABLE)
    (AnswersDiscard old handle answer new (after_discard old.heap slot))
    (IsNull old answer new)

-- Slots.

-- the slots that an object needs beyond its own are free, directly behind them
abbrev pub CanExtend : Handles → ℕ → ℕ → Type 0
CanExtend old slot count = IsFreeRun old (slot + slots_at old.attributes slot) (count - slots_at old.attributes slot)

-- which object may get another run, and with it another handle: none that is locked, and a fixed one with GMEM_MOVEABLE alone
abbrev pub may_leave : Object → RoomOptions → Bool
may_leave o options = (o.locks == 0) && (not (is_fixed o.kind) || options.may_move)

-- where its run of so many slots begins: where it begins now, if it has as many or can be extended; else where as many are free
abbrev pub GetsRun : Handles → ℕ → Object → RoomOptions → ℕ → ℕ → Type 0
GetsRun old slot o options count first =
    (CanExtend old slot count × (first ≡ slot))
    ⊎ ((CanExtend old slot count → ⊥) × (may_leave o options ≡ true) × IsFreeRun old first count)

-- and that there is none for it
pub record LacksRun (old : Handles) (slot : ℕ) (o : Object) (options : RoomOptions) (count : ℕ) : Type 0 where
  pub here : CanExtend old slot count → ⊥
  pub elsewhere : may_leave o options ≡ true → HasNoRun old count

-- a map with what one key has under another
abbrev pub rekeyed : {X : Type 0} → FinMap nat_cmp X → ℕ → ℕ → FinMap nat_cmp X
rekeyed m from to = elim (finmap.get m from) [ Some x ↦ finmap.insert (finmap.remove m from) to x | None ↦ m ]

-- the heap with an object under another slot, which no object has; its place in the order of use is the same
abbrev pub rehoused : Heap → ℕ → ℕ → Heap
rehoused heap from to = if from == to then heap else (record heap {
  objects = rekeyed heap.objects from to;
  places = rekeyed heap.places from to;
  order = map (λ q. if q == from then to else q) heap.order;
})

-- and the attributes, with so many slots from there on
abbrev pub with_run : FinMap nat_cmp Attributes → ℕ → ℕ → ℕ → FinMap nat_cmp Attributes
with_run attributes slot first count = elim (finmap.get attributes slot) [ Some a ↦ finmap.insert (finmap.remove attributes slot) first (record a { slots = count }) | None ↦ attributes ]

-- the object's handle, over this heap, with a run that begins at a slot
abbrev pub Anew : Handles → ℕ → Kind → ℕ → ℕ → Heap → ℕ → Handles → Type 0
Anew old slot kind first count heap answer new =
    (answer ≡ handle_of kind first)
    × (new ≡ record old { heap = rehoused heap slot first; attributes = with_run old.attributes slot first count; moved = moved_bytes old.heap heap })

-- an object to a size above 0: NULL where it gets no run or the heap refuses it
abbrev pub ResizesObject : Handles → ℕ → ℕ → ℕ → ℕ → Handles → Object → Type 0
ResizesObject old slot flags size answer new o =
    let count = slots_for (rounded_size size) in
    let options = realloc_options flags in
    (LacksRun old slot o options count × IsNull old answer new)
    ⊎ ((first : ℕ) × GetsRun old slot o options count first × (answered : Bool) × (heap : Heap) × Reallocates old.heap slot (rounded_size size) options answered heap
    × MatchBool answered (Anew old slot o.kind first count heap answer new) (IsNull old answer new))

-- the same of the object of a slot; NULL over the limit
abbrev pub Resizes : Handles → ℕ → ℕ → ℕ → ℕ → Handles → Type 0
Resizes old slot flags size answer new = MatchBool (nat_lt LARGEST_SIZE size)
    (IsNull old answer new)
    (IsSomeAnd (object_at old.heap slot) (ResizesObject old slot flags size answer new))

-- GlobalReAlloc of an object that no module owns. A bad handle is NULL; with GMEM_MODIFY the size isn't looked at, and the handle is answered,
-- that of a fixed object too.
abbrev pub ReAllocsOwn : Handles → ℕ → ℕ → ℕ → ℕ → Handles → Type 0
ReAllocsOwn old handle size flags answer new = MatchOption (slot_of_handle old handle)
    (IsNull old answer new)
    (λ slot. MatchBool (has_flag flags GMEM_MODIFY)
    (AnswersHandle old handle (modified old.heap slot (kind_modified flags)) answer new)
    (MatchBool (size == 0)
    (Empties old handle slot flags answer new)
    (Resizes old slot flags size answer new)))

-- GlobalReAlloc; NULL for an object that a module owns (profile)
abbrev pub GlobalReAllocs : Handles → ℕ → ℕ → ℕ → ℕ → Handles → Type 0
GlobalReAllocs old handle size flags answer new = MatchBool (owns old handle) (IsNull old answer new) (ReAllocsOwn old handle size flags answer new)

-- GlobalDiscard is a GlobalReAlloc of size 0
abbrev pub GlobalDiscards : Handles → ℕ → ℕ → Handles → Type 0
GlobalDiscards old handle answer new = GlobalReAllocs old handle 0 GMEM_MOVEABLE answer new
