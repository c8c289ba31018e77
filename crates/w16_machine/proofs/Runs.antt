-- Runs that go on, and what holds of each of their steps.
use Rattle.std.proofs.Common.{List, [], ◌∷◌, ◌++◌, subst}
use Rattle.w16_machine.specs.World.{World}
use Rattle.w16_machine.specs.{Law.EachStep, Machine.Event, Machine.Run, Machine.Steps}

-- one run goes on with another
pub run_append : (steps : Steps) (old mid new : World) (events more : List Event) → Run steps old events mid → Run steps mid more new → Run steps old (events ++ more) new
run_append steps old mid new [] more p q = subst (λ w. Run steps w more new) p q
run_append steps old mid new (event ∷ events) more p q = (p.0, run_append steps _ mid new events more p.1 q)

-- and what holds of each step of one and of the other holds of each step of both
pub each_append : (holds : World → Event → Type 0) (steps : Steps) (old mid : World) (events more : List Event) → Run steps old events mid → EachStep holds old events → EachStep holds mid more → EachStep holds old (events ++ more)
each_append holds steps old mid [] more run p q = subst (λ w. EachStep holds w more) run q
each_append holds steps old mid (event ∷ events) more run p q = (p.0, each_append holds steps _ mid events more run.1 p.1 q)
