use Rattle.w16_compact.proofs
use proofs.Common as C
use proofs.Common.{◌≡◌, ◌-◌, ◌≤◌, IsRun, contents}
use proofs.Gathering.{AreKept}
use Rattle.w16_compact.proofs.slide.gather.Given as goal

abbrev pub invariant-loop-block : goal.invariant-loop-block
invariant-loop-block g l =
    let bytes = g.S.Space.bytes in
    record {
      bounds : (l.blocks.cap ≡ l.fn.blocks.cap) × (l.blocks.lo ≡ l.fn.blocks.lo) × (l.blocks.hi ≡ l.fn.blocks.hi) × (l.blocks.grain ≡ l.fn.blocks.grain);
      ordered : C.IsOrdered l.blocks;
      -- the blocks: gathered up to here, and what is left to do gives the same
      list : C.gathered l.low l.high l.blocks.blocks ≡ C.gathered l.low l.high l.fn.blocks.blocks;
      settled : IsRun l.blocks (record { from = l.low; to = l.to });
      high : l.to ≤ l.high;
      fits : C.AllByRecursion (C.FitsGap l.low l.high) l.blocks.blocks;
      -- the count
      stay : AreKept l.to l.fn.blocks.blocks l.blocks.blocks;
      moved : l.moved ≡ C.moved_between l.fn.blocks.blocks l.blocks.blocks;
      small : l.moved ≤ l.to;
      written : g.S.Space.written l.space ≡ C.counted (g.S.Space.written l.fn.space) l.moved;
      -- the space
      contents : contents (bytes l.space) l.blocks.blocks ≡ contents (bytes l.fn.space) l.fn.blocks.blocks;
      rest : C.Leaves g.H.Holes.are_in bytes g.S.Space.lenders (C.holes_of l.blocks) (C.IsSameRest l.fn.blocks.lo l.fn.blocks.hi) l.fn.space l.space;
    }

abbrev pub decreases-loop-block : goal.decreases-loop-block
decreases-loop-block g l = l.high - l.to
