-- Which steps can change what a selector tells.
use Rattle.std.specs.Prelude.{◌≡◌, ℕ, Bool, false}
use Rattle.w16_global.specs.Peek.{selector_descriptor}
use Rattle.w16_loading.specs.{Replies.Reply}
use Rattle.w16_loading.specs.Families.{AnyCommand}
use Rattle.w16_model.specs.Commands.Family.{OfLocals}
use Rattle.w16_machine.specs.{Law.AreLocalHeaps, LocalLaw.may_grow, LocalStays.step_may_take, World.World}
use Rattle.w16_kernel.specs.Parts.{KernelStep}
use Rattle.w16_loading.specs.Families.AnyCommand.{any}

-- those that may take bytes of an object, or free, load or fetch one, and local calls for which a heap may grow
abbrev pub may_change_descriptors : World → AnyCommand → Bool
may_change_descriptors old (any OfLocals command) = may_grow command
may_change_descriptors old command = step_may_take old.loading command

-- Any other leaves what each selector tells.
abbrev pub DescriptorsLaw : Type 0 → Type 0
DescriptorsLaw honest = (old new : World) (command : AnyCommand) (reply : Reply) → AreLocalHeaps old → may_change_descriptors old command ≡ false → KernelStep honest old command reply new
    → (selector : ℕ) → selector_descriptor new.loading.handles selector ≡ selector_descriptor old.loading.handles selector
