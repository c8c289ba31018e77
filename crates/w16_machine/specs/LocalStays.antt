-- Which steps may take a local heap away: those that may take bytes of a global object.
use Rattle.std.specs.Prelude.{◌≡◌, ℕ, Bool, false, length, Option, option_map}
use Rattle.w16_model.specs.{declared.Kind.Kind, Heap.bytes_at, Heap.object_at, Handles.Handles}
use Rattle.w16_model.specs.Commands.{Command}
use Rattle.w16_loading.specs.Families.{AnyCommand}
use Rattle.w16_model.specs.Commands.Family.{OfFar, OfLocals}
use Rattle.w16_loading.specs.{Answers.StepOver, File.Format, Law.far_reads_file, Modules.LoadingWorld, Replies.Reply}
use Rattle.w16_machine.specs.{World.World, Rows.may_take_bytes, Law.AreLocalHeaps, LocalCalls.LocalStep, LocalLaw.may_grow, Machine.LoadingStep}
use Rattle.w16_loading.specs.Families.AnyCommand.{any}

-- A step of loading may where its line of the table says so, and a far access where it fetches. Of a call on local heaps `may_grow` says it.
abbrev pub step_may_take : LoadingWorld → AnyCommand → Bool
step_may_take old (any OfFar command) = far_reads_file old command
step_may_take old command = may_take_bytes command

-- how many bytes an object has, if it has any
abbrev pub size_at : Handles → ℕ → Option ℕ
size_at handles slot = option_map length (bytes_at handles.heap slot)

abbrev pub kind_at : Handles → ℕ → Option Kind
kind_at handles slot = option_map (λ o. o.kind) (object_at handles.heap slot)

-- Each object has its address, its selectors and whose it is as before, its kind, and as many bytes.
pub record HasSamePlaces (old new : Handles) : Type 0 where
  pub addresses : new.heap.places ≡ old.heap.places
  pub attributes : new.attributes ≡ old.attributes
  pub kinds : (slot : ℕ) → kind_at new slot ≡ kind_at old slot
  pub sizes : (slot : ℕ) → size_at new slot ≡ size_at old slot

-- The laws. A step of any other command leaves each object where it is, with as many bytes,
abbrev pub SamePlacesLaw : (honest : Type 0) → Type 0
SamePlacesLaw honest = (format : Format) (old new : LoadingWorld) (command : AnyCommand) (reply : Reply) → step_may_take old command ≡ false → StepOver honest format old command reply new → HasSamePlaces old.handles new.handles

-- and so it keeps each local heap.
abbrev pub HeapsLaw : (honest : Type 0) → Type 0
HeapsLaw honest = (format : Format) (old new : World) (command : AnyCommand) (reply : Reply) → AreLocalHeaps old → step_may_take old.loading command ≡ false → LoadingStep honest format old command reply new → new.heaps ≡ old.heaps

-- So does a local call for which no heap may grow.
abbrev pub LocalSamePlacesLaw : Type 0
LocalSamePlacesLaw = (old new : World) (command : Command OfLocals) (reply : Reply) → AreLocalHeaps old → may_grow command ≡ false → LocalStep old command reply new → HasSamePlaces old.loading.handles new.loading.handles
