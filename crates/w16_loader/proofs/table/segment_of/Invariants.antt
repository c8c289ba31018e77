-- The owner among the places that are left is the owner among all.
use Rattle.w16_loader.proofs.{Common.◌≡◌, Common.segment_among, Common.listed, Listed.listed_from}
use Rattle.w16_loader.proofs.table.segment_of.Given as goal

abbrev pub invariant-loop-handle : goal.invariant-loop-handle
invariant-loop-handle g l = segment_among (listed_from l.handle l.entries) l.slot ≡ segment_among (listed l.entries) l.slot
