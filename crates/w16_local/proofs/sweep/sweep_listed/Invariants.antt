use Rattle.w16_local.proofs.Common.{tables_of, AreSwept}
use Rattle.w16_local.proofs.sweep.sweep_listed.Given as goal

-- those behind have been looked at
abbrev pub invariant-live : goal.invariant-live
invariant-live g l = AreSwept l.global.handles.heap (λ h. h.value) (tables_of l.fn.heaps.items (λ h. h.value)) l.i l.heaps.items l.live.items

-- from the end of the list to its beginning
abbrev pub decreases-live : goal.decreases-live
decreases-live g l = l.i
