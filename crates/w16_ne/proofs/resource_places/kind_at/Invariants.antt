use Rattle.w16_ne.proofs.Common.{◌≡◌, drop, kind_at}
use Rattle.w16_ne.proofs.resource_places.kind_at.Given as goal

abbrev pub invariant-loop-group : goal.invariant-loop-group
invariant-loop-group l = kind_at (drop l.group-index l.groups) l.left ≡ kind_at l.groups l.place
