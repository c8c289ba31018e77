-- The room of a call.
use Rattle.w16_kernel.proofs.Common.{Call, ◌≡◌, ◌≤◌, ℕ, subst, sym}
use Rattle.w16_kernel.specs.{Runs.HasRoom, Runs.IsCall, declared.call.Call.TheVariants.Read}
use Rattle.w16_machine.specs.declared.access.TheConstants.{MOST_READ}

pub has_room : (call : Call) {room : ℕ} → room ≡ MOST_READ → IsCall call → HasRoom call room
has_room (Read pointer count) most is = subst (λ n. count ≤ n) (sym most) is
has_room call most is = tt
