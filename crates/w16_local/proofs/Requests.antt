-- What becomes of a request for room in a heap, as it is or as it ends later.
use Rattle.w16_local.specs
use Rattle.w16_local.proofs.Common as C
use Rattle.w16_local.proofs.Common.{◌≡◌, All, ℕ, ◌<◌, ◌≤◌, inl, inr, false, List, length, Option, Some, None, sym, ap, refl, ◌∙◌, subst, arith, false≢true, Kind, Block, Heap, IsMultiple, Table, heap_in, Acted, Done, Idle, MayAct, Writes}
use Rattle.w16_model.specs.{declared.TheConstants.GRAIN, Ends.ending, Ends.is_answered, Heap.hold_of_object}
use Rattle.w16_model.proofs.{AtEnds.answer_law, Heaps.block_member, Sound.sound_law}
use Rattle.w16_machine.proofs.LocalFewest.{some_name}
use specs.Growth.{Later, MayEndLater, ServedOver, SizeTold, operation_of}
use specs.{declared.growth.Met.TheVariants.Lacks, declared.growth.Request.Request}
use specs.declared.growth.Purpose.{Purpose}
use specs.declared.growth.Purpose.TheVariants.{New, Resize}
use Rattle.std.specs.FinMap as finmap

-- the bytes of a segment are whole grains of the global heap
module _ (handles : C.Handles) (is : C.AreHandles handles) (slot : ℕ) (bytes : List ℕ) (had : C.bytes_at handles.heap slot ≡ Some bytes) where
  abbrev its : C.Object → Block
  its o = record { id = slot; at = C.unwrap_or (finmap.get handles.heap.places slot) 0; size = length bytes; hold = hold_of_object o }

  abbrev AreWhole : Block → Type 0
  AreWhole x = IsMultiple handles.heap.grain x.at × IsMultiple handles.heap.grain x.size

  pub whole : IsMultiple GRAIN (length bytes)
  whole =
      let o : (o : C.Object) × (C.object_at handles.heap slot ≡ Some o) × (o.bytes ≡ Some bytes) = C.object_of handles.heap slot bytes had in
      let block : C.IsBlockOf handles.heap (its o.0) = record { object = o.0; bytes = bytes; is_there = o.1; has_bytes = o.2; place = refl; size = refl; hold = refl } in
      rw is.grain at (C.Each-at AreWhole (C.blocks handles.heap) (C.Each-from_All _ (C.blocks handles.heap) is.heap.grained) (its o.0) (block_member handles.heap (its o.0) block)).1

-- a refused one isn't answered
pub idle_refused : (r : Request) (heap : Heap) → MayAct (operation_of r) heap → (answer : ℕ) → Idle (operation_of r) heap answer → is_answered heap r.id r.size r.options ≡ false
idle_refused r heap may answer = turn r.purpose may
  where
    turn : (p : Purpose) → MayAct (operation_of (record r { purpose = p })) heap → Idle (operation_of (record r { purpose = p })) heap answer → is_answered heap r.id r.size r.options ≡ false
    turn (New kind) m i = sym ((answer_law heap heap r.id r.size r.options false).0 kind 0 m.0.1 i.0)
    turn Resize m i = sym ((answer_law heap heap r.id r.size r.options false).1 i.0)

-- What may be asked of a heap doesn't hang on its end.
pub may_later : (r : Request) (heap : Heap) (end : ℕ) → MayAct (operation_of r) heap → MayAct (operation_of r) (ending heap end)
may_later r heap end = turn r.purpose
  where
    turn : (p : Purpose) → MayAct (operation_of (record r { purpose = p })) heap → MayAct (operation_of (record r { purpose = p })) (ending heap end)
    turn (New kind) m = m
    turn Resize m = m

-- one that is done has a name for an answer
done_named : (r : Request) (heap next : Heap) (answer : ℕ) → Done (operation_of r) heap answer next → C.name_at next r.id ≡ Some answer
done_named r heap next answer = turn r.purpose
  where
    turn : (p : Purpose) → Done (operation_of (record r { purpose = p })) heap answer next → C.name_at next r.id ≡ Some answer
    turn (New kind) d = d.1
    turn Resize d = d.1

-- which isn't 0, so that an answer of 0 is a refusal
pub idle_of : (r : Request) {table left : Table} {bytes after : List ℕ} {answer : ℕ} → Acted (operation_of r) table bytes answer left after → answer ≡ 0 → C.IsHeap (heap_in left after) → C.IsLocalTable left
    → Idle (operation_of r) (heap_in table bytes) 0 × (left ≡ table) × (after ≡ bytes)
idle_of r {table} {left} {bytes} {after} {answer} a none is is_local = elim a.act_is [
  | inl same ↦ (rw none at same.0, same.1, same.2)
  | inr done ↦ absurd (some_name (heap_in left after) is is_local.low r.id (done_named r (heap_in table bytes) (heap_in left after) answer done ∙ ap Some none))
]

-- An answered one is done where the heap ends later.
pub later_done : (r : Request) (end : ℕ) {table left : Table} {bytes before after : List ℕ} {answer : ℕ} → MayEndLater r end table bytes → heap_in (record table { hi = end }) before ≡ heap_in (record table { hi = end }) bytes
    → C.IsSameOutside table.lo end bytes before → Acted (operation_of r) (record table { hi = end }) before answer left after → Later r end table bytes answer left after
later_done r end {table} {left} {bytes} {before} {after} {answer} may same outside a = record {
  range = a.range;
  outside = record { below = a.outside.below ∙ outside.below; above = a.outside.above ∙ outside.above };
  done = elim a.act_is [
    | inl idle ↦ absurd (false≢true (sym (idle_refused r (heap_in (record table { hi = end }) bytes) may.may answer (rw same at idle.0)) ∙ may.answered))
    | inr done ↦ rw same at done
  ];
}

-- What a refused request leaves: the heap and its bytes, in which it isn't answered.
module _ (r : Request) {act : C.ByteOp} (act_is : act ≡ operation_of r) {t s : Table} {bytes after : List ℕ} {answer : ℕ} (may : C.MayActOver (operation_of r) t bytes) (a : Acted act t bytes answer s after) (long : length after ≡ length bytes)
    (is_local : C.IsLocalTable s) (are_bytes : All (λ b. b < 256) after) (none : answer ≡ 0) where
  pub request_idle : Idle (operation_of r) (heap_in t bytes) 0 × (s ≡ t) × (after ≡ bytes)
  request_idle = idle_of r (rw act_is at a) none (sound_law s after is_local.sound (omega (arith, a.range.hi, long, may.0)) are_bytes) is_local

  pub request_refused : is_answered (heap_in s after) r.id r.size r.options ≡ false
  request_refused = rw (request_idle.1, request_idle.2) (idle_refused r (heap_in t bytes) may.1 0 request_idle.0)

  pub request_done : (size : Option ℕ) → SizeTold r s after size → (before count : ℕ) → Writes act (heap_in t bytes) (heap_in s after) before count → ServedOver r t bytes (Lacks size) s after × Writes (operation_of r) (heap_in t bytes) (heap_in s after) before count
  request_done size told before count writes = (
    (request_idle.0, request_idle.1, request_idle.2, rw (request_idle.1, request_idle.2) at told),
    rw act_is at writes,
  )

-- What is asked of a heap once its end has been moved: it may be, and what becomes of it.
module _ (r : Request) {act : C.ByteOp} (act_is : act ≡ operation_of r) {end : ℕ} {t now : Table} {bytes : List ℕ} (before : List ℕ) (may : MayEndLater r end t bytes) (now_is : now ≡ record t { hi = end }) (same : heap_in now before ≡ heap_in now bytes)
    (long : length before ≡ length bytes) where
  same_heap : heap_in (record t { hi = end }) before ≡ heap_in (record t { hi = end }) bytes
  same_heap = rw now_is at same

  pub later_may : C.MayActOver act now before
  later_may = (
    rw now_is (omega (arith, may.ends, long)),
    rw (act_is, now_is, same_heap) may.may,
  )

  pub later_served : {s : Table} {after : List ℕ} {answer : ℕ} → C.IsSameOutside t.lo end bytes before → Acted act now before answer s after → (moved count written : ℕ) → moved ≡ count → Writes act (heap_in now before) (heap_in s after) moved written
      → Later r end t bytes answer s after × Writes (operation_of r) (heap_in (record t { hi = end }) bytes) (heap_in s after) count written
  later_served {s} {after} {answer} outside acted moved count written none writes = (
    later_done r end may same_heap outside (rw (act_is, now_is) at acted),
    rw (act_is, now_is, none, same_heap) at writes,
  )
