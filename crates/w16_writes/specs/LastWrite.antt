-- What is written through far pointers reads back: where the byte of a position is, which accesses reach it, and what steps and runs leave of it.
use Rattle.std.specs.Prelude.{◌≡◌, ℕ, ◌+◌, ◌*◌, Bool, true, false, ◌&&◌, if◌then◌else◌, nat_le, nat_lt, List, [], ◌∷◌, ◌++◌, All, Option, Some, None, option_map, is_some, IsSomeAnd, slice_get}
use Rattle.w16_loading.specs.Families.{AnyCommand}
use Rattle.w16_model.specs.Commands.Family.{OfResizes, OfFar}
use Rattle.w16_model.specs.Commands.Command.{Read, Write, Fill}
use Rattle.w16_model.specs.{Bytes.repeated, declared.TheConstants.REACH, CallLaws.next_slot, Handles.Handles, Handles.part_of_selector, Handles.selector_in, Handles.offset_in, Heap.bytes_at, Table.Table}
use Rattle.w16_loading.specs.{Bystanders.call_of, File.Format, Replies.Reply, Replies.answer_in, Replies.Reply.Bytes, Replies.Reply.Done}
use Rattle.w16_machine.specs.Machine.{Event, Run, Step}
use Rattle.w16_machine.specs.{Law.IsWorld, Local.segment_bytes, Local.heap_of, Local.local_in, World.World, Law.EachStep}
use Rattle.w16_loading.specs.Law.{IsCommand}
use Rattle.std.specs.FinMap as finmap
use Rattle.w16_loading.specs.Families.AnyCommand.{any}

-- A position is an offset in an object: in that of a slot, or in that of an entry of the local heap in the slot's object.
pub record Position : Type 0 where
  pub slot : ℕ
  pub entry : Option ℕ
  pub offset : ℕ

-- the byte at an offset of these bytes, if there are any and it is inside
abbrev pub byte_in : Option (List ℕ) → ℕ → Option ℕ
byte_in None offset = None
byte_in (Some bytes) offset = slice_get bytes offset

-- whether a local heap has an offset of its segment in its range
abbrev pub is_in_range : Option Table → ℕ → Bool
is_in_range None offset = false
is_in_range (Some t) offset = nat_le t.lo offset && nat_lt offset t.hi

-- The byte at a position of a world, if the position is there: inside an object with bytes and in no local heap's range, or inside a local object
-- with bytes.
abbrev pub byte_at : World → Position → Option ℕ
byte_at w p = elim p.entry [
  | None ↦ if is_in_range (finmap.get w.heaps p.slot) p.offset then None else byte_in (segment_bytes w p.slot) p.offset
  | Some entry ↦ elim (local_in w p.slot) [ None ↦ None | Some at ↦ byte_in (bytes_at (heap_of at) entry) p.offset ]
]

abbrev pub IsThere : World → Position → Type 0
IsThere w p = is_some (byte_at w p) ≡ true

-- Where it lies in the slot's object: at its offset, or so far after the near pointer that the local object has in this world.
abbrev pub place_at : World → Position → Option ℕ
place_at w p = elim p.entry [
  | None ↦ Some p.offset
  | Some entry ↦ elim (local_in w p.slot) [ None ↦ None | Some at ↦ option_map (λ begin. begin + p.offset) (finmap.get (heap_of at).places entry) ]
]

-- Where a position goes.

-- the slot that an object has after a step: that of the handle answered, where its handle was given to a reallocation, else its own
abbrev pub slot_after_step : Handles → AnyCommand → Reply → Handles → ℕ → ℕ
slot_after_step old (any OfResizes command) reply new slot = elim (answer_in reply) [ None ↦ slot | Some answer ↦ next_slot old (call_of command) answer new slot ]
slot_after_step old command reply new slot = slot

-- a position after a step: the same offset in the same object
abbrev pub position_after : World → Event → Position → Position
position_after old event p = record p { slot = slot_after_step old.loading.handles event.command event.reply event.after.loading.handles p.slot }

-- and after steps
abbrev pub position_after_all : World → List Event → Position → Position
position_after_all old [] p = p
position_after_all old (event ∷ events) p = position_after_all event.after events (position_after old event p)

-- Accesses.

-- an answered access: its far pointer, and the bytes from there on
pub record Access : Type 0 where
  pub pointer : ℕ
  pub bytes : List ℕ

-- the bytes that an answered write or fill puts
abbrev pub written : AnyCommand → Reply → Option Access
written (any OfFar (Write pointer bytes)) Done = Some (record { pointer = pointer; bytes = bytes })
written (any OfFar (Fill pointer count byte)) Done = Some (record { pointer = pointer; bytes = repeated count byte })
written command reply = None

-- and those that an answered read gives
abbrev pub read : AnyCommand → Reply → Option Access
read (any OfFar (Read pointer count)) (Bytes bytes) = Some (record { pointer = pointer; bytes = bytes })
read command reply = None

-- an access, by any of its object's selectors, has this byte at a position, which is there in this world
pub record Has (w : World) (p : Position) (byte : ℕ) (access : Access) : Type 0 where
  pub there : IsThere w p
  pub number : ℕ
  pub selected : part_of_selector w.loading.handles (selector_in access.pointer) ≡ Some (record { slot = p.slot; number = number })
  pub index : ℕ
  pub place : place_at w p ≡ Some (REACH * number + offset_in access.pointer + index)
  pub has : slice_get access.bytes index ≡ Some byte

-- A step writes this byte to a position: located in the world after it, since a fetch may come before the write in the same step.
abbrev pub Writes : Event → Position → ℕ → Type 0
Writes event p byte = IsSomeAnd (written event.command event.reply) (Has event.after p byte)

-- or it reads it there, in the world before it
abbrev pub Reads : World → Event → Position → ℕ → Type 0
Reads old event p byte = IsSomeAnd (read event.command event.reply) (Has old p byte)

-- Steps.

pub record KeepsWritten (old : World) (event : Event) : Type 0 where
  -- what a step writes is there afterwards
  pub written : (p : Position) (byte : ℕ) → Writes event p byte → byte_at event.after p ≡ Some byte
  -- what it reads was there
  pub read : (p : Position) (byte : ℕ) → Reads old event p byte → byte_at old p ≡ Some byte
  -- and a position that it doesn't write, and that is there before and after, has its byte, wherever its object went
  pub kept : (p : Position) → IsThere old p → IsThere event.after (position_after old event p) → ((byte : ℕ) → Writes event (position_after old event p) byte → ⊥)
      → byte_at event.after (position_after old event p) ≡ byte_at old p

-- Runs.

-- each step is such
abbrev pub AllKeepWritten : World → List Event → Type 0
AllKeepWritten old events = EachStep KeepsWritten old events

-- the world after steps
abbrev pub world_after : World → List Event → World
world_after w [] = w
world_after w (event ∷ events) = world_after event.after events

-- A position is undisturbed through steps where it is there in the world before and after each, and none writes to it; it goes with its object.
abbrev pub IsUndisturbed : Position → World → List Event → Type 0
IsUndisturbed p w [] = IsThere w p
IsUndisturbed p w (event ∷ events) = IsThere w p × ((byte : ℕ) → Writes event (position_after w event p) byte → ⊥) × IsUndisturbed (position_after w event p) event.after events

-- Steps read back what they write: where one writes a byte, those between leave its position undisturbed, and then one reads there, it reads
-- that byte, also where the object has got another handle between them.
abbrev pub ReadsBack : List Event → Type 0
ReadsBack events = (before between after : List Event) (writing reading : Event) (p : Position) (byte found : ℕ)
    → events ≡ before ++ (writing ∷ (between ++ (reading ∷ after)))
    → Writes writing p byte
    → IsUndisturbed p writing.after between
    → Reads (world_after writing.after between) reading (position_after_all writing.after between p) found
    → found ≡ byte

-- The laws. Each step keeps what is written, whatever the store answers,
abbrev pub StepLaw : (honest : Type 0) → Type 0
StepLaw honest = (format : Format) (old new : World) (command : AnyCommand) (reply : Reply) → IsWorld old → IsCommand command → Step honest format old command reply new
    → KeepsWritten old (record { command = command; reply = reply; after = new })

-- and so does each step of a run,
abbrev pub RunLaw : (honest : Type 0) → Type 0
RunLaw honest = (format : Format) (old new : World) (events : List Event) → IsWorld old → All (λ e. IsCommand e.command) events → Run (Step honest format) old events new → AllKeepWritten old events

-- and then all steps together read back what they write.
abbrev pub ReadsBackLaw : Type 0
ReadsBackLaw = (old : World) (events : List Event) → AllKeepWritten old events → ReadsBack events
