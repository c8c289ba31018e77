-- The tag was seen, or is among those that are left, where it is among all.
use Rattle.std.proofs.Common.{◌≡◌, ◌==◌, ◌||◌, drop}
use Rattle.std.specs.List.{list_any}
use Rattle.w16_loader.proofs.places.is_among.Given as goal

abbrev pub invariant-loop-other : goal.invariant-loop-other
invariant-loop-other l = (l.is_there || list_any (λ t. t == l.tag) (drop l.other-index l.tags)) ≡ list_any (λ t. t == l.tag) l.tags
