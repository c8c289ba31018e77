use Rattle.w16_script.proofs.Common.{List, ◌-◌, ◌^◌, Item, IsWorldWalk}
use Rattle.w16_script.proofs.WalkLemmas.{PrintedBelow}
use Rattle.w16_script.proofs.walk.print_walk.Given as goal

-- the items of the walk up to here were printed
abbrev pub invariant-items : goal.invariant-items
invariant-items g l = record { printed : (items : List Item) → IsWorldWalk (g.K.Machine.world l.kernel) items → PrintedBelow (g.W.Write.contents l.initial.writer) (g.W.Write.contents l.writer) items l.from }

abbrev pub decreases-items : goal.decreases-items
decreases-items g l = 2 ^ 32 - l.from
