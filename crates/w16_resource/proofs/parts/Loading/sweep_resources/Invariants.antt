-- What goes of all that is left is what goes of all, and no slot so far has one.
use Rattle.w16_resource.proofs.Common.{false, is_left_over, without_orphans, ℕ, ◌<◌, ◌≡◌}
use Rattle.w16_resource.proofs.parts.Loading.sweep_resources.Given as goal

abbrev pub invariant-loop-slot : goal.invariant-loop-slot
invariant-loop-slot g l = record {
  goes : without_orphans l.self ≡ without_orphans l.initial.self;
  done : (q : ℕ) → q < l.slot → is_left_over l.self q ≡ false;
  behind : (q : ℕ) → is_left_over l.initial.self q ≡ false → is_left_over l.self q ≡ false;
}
