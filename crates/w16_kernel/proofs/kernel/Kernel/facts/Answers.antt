use Rattle.w16_kernel.proofs.Common.{◌≡◌, ℕ, MatchOption, None, Option, Some, World, owner_of, refl, sym, ◌∙◌}
use Rattle.w16_kernel.specs.{Facts.facts_of, Facts.heap_in, Facts.source_in, declared.kernel.facts.Source.Source}
use Rattle.w16_model.specs.{declared.Span.Span, Calls.global_flags, Handles.slot_of_handle}
use Rattle.w16_kernel.proofs.kernel.Kernel.facts.Goals as goal

known : (w : World) (handle slot flags : ℕ) (source : Option Source) (local : Option Span) → Some slot ≡ slot_of_handle w.loading.handles handle
    → flags ≡ global_flags w.loading.handles handle → source ≡ source_in (owner_of w.loading slot)
    → MatchOption (slot_of_handle w.loading.handles handle) (local ≡ None) (λ slot. local ≡ heap_in w slot) → Some (record { flags = flags; source = source; local = local }) ≡ facts_of w handle
known w handle slot flags source local e f s l = rw (f, s, ← e, (rw (← e) at l)) refl

pub returns : goal.returns
returns g c = known c.args.self.now c.args.handle c.in_ok-slot.slot _ _ _
    (rw (← c.self.view_is, ← c.self-inside.view_is, ← c.self-inside-inside.view_is) (sym c.in_ok-slot.was ∙ c.slot_of_handle.ensures))
    (rw (← c.self.view_is, ← c.self-inside.view_is, ← c.self-inside-inside.view_is) c.global_flags.ensures) c.source_of.ensures
    (rw (← c.self.view_is, ← c.self-inside.view_is, ← c.self-inside-inside.view_is) c.heap_range.ensures)
