-- Objects that get another size or kind, and so segments of local heaps that grow.
use Rattle.std.specs.Prelude.{◌≡◌, ℕ, Option, option_map, unwrap_or}
use Rattle.w16_model.specs.{Handles.Handles, Handles.handle_of, Heap.Heap, Heap.Object, Heap.object_at, Resizes.GlobalReAllocs, CallLaws.ReallocFewest}
use Rattle.w16_region.specs.Bytes.{counted}
use Rattle.w16_global.specs.{Joined.Global, Joined.zeroed_behind, declared.global.Resized.Resized}

-- the handle of a slot's object, 0 where there is none
abbrev pub handle_at : Heap → ℕ → ℕ
handle_at heap slot = unwrap_or (option_map (λ (o : Object). handle_of o.kind slot) (object_at heap slot)) 0

-- what is answered, NULL where it is refused; and how many bytes were moved
abbrev pub answer_of : Heap → Option Resized → ℕ
answer_of heap resized = unwrap_or (option_map (λ (r : Resized). handle_at heap r.first) resized) 0

abbrev pub moved_of : Option Resized → ℕ
moved_of resized = unwrap_or (option_map (λ (r : Resized). r.moved) resized) 0

-- It is a GlobalReAlloc of a slot's object, except that Moved answers as before; where it answers NULL, nothing has changed.
pub record Changes (old : Global) (slot size flags : ℕ) (resized : Option Resized) (new : Global) : Type 0 where
  pub step : GlobalReAllocs old.handles (handle_at old.handles.heap slot) size flags (answer_of new.handles.heap resized) (record new.handles { moved = moved_of resized })
  pub moved : new.handles.moved ≡ old.handles.moved
  pub written : new.written ≡ counted (counted old.written (moved_of resized)) (zeroed_behind old.handles (handle_at old.handles.heap slot) size flags (answer_of new.handles.heap resized))
  pub refused : answer_of new.handles.heap resized ≡ 0 → new ≡ old

-- It is a GlobalReAlloc, but no call of a program: the bytes that it moves count as written, and Moved answers as before.
pub record Lengthens (old : Global) (handle size flags answer : ℕ) (new : Global) : Type 0 where
  pub left : Handles
  pub step : GlobalReAllocs old.handles handle size flags answer left
  pub fewest : ReallocFewest old.handles handle size flags answer left
  pub handles : new.handles ≡ record left { moved = old.handles.moved }
  pub written : new.written ≡ counted (counted old.written left.moved) (zeroed_behind old.handles handle size flags answer)
