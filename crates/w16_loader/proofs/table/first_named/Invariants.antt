-- The first of the name among the places that are left is the first of all.
use Rattle.w16_loader.proofs.{Common.◌≡◌, Common.listed, Common.first_named, Listed.listed_from}
use Rattle.w16_loader.proofs.table.first_named.Given as goal

abbrev pub invariant-loop-handle : goal.invariant-loop-handle
invariant-loop-handle g l = first_named (listed_from l.handle l.entries) l.name ≡ first_named (listed l.entries) l.name
