use Rattle.w16_compact.proofs.Common as C
use Rattle.w16_compact.proofs.Common.{◌≡◌, ◌+◌, ◌≤◌, IsCut, contents}
use Rattle.w16_compact.proofs.opening.raise.Given as goal

abbrev pub invariant-loop-block : goal.invariant-loop-block
invariant-loop-block g l =
    let bytes = g.S.Space.bytes in
    record {
      bounds : (l.blocks.cap ≡ l.fn.blocks.cap) × (l.blocks.lo ≡ l.fn.blocks.lo) × (l.blocks.hi ≡ l.fn.blocks.hi) × (l.blocks.grain ≡ l.fn.blocks.grain);
      ordered : C.IsOrdered l.blocks;
      -- the blocks: those that began from `from` on are raised
      list : l.blocks.blocks ≡ C.raised l.from l.high l.fn.blocks.blocks;
      low : l.low ≤ l.from;
      high : l.from ≤ l.high;
      cut : IsCut l.from l.fn.blocks.blocks;
      place : l.to + C.loose_bytes l.fn.blocks.blocks l.from l.high ≡ l.high;
      room : l.from ≤ l.to;
      grained : C.IsMultiple l.fn.blocks.grain l.to;
      -- the count
      moved : l.moved ≡ C.moved_between l.fn.blocks.blocks l.blocks.blocks;
      small : l.moved + l.to ≤ l.high;
      written : g.S.Space.written l.space ≡ C.counted (g.S.Space.written l.fn.space) l.moved;
      -- the space
      contents : contents (bytes l.space) l.blocks.blocks ≡ contents (bytes l.fn.space) l.fn.blocks.blocks;
      rest : C.Leaves g.H.Holes.are_in bytes g.S.Space.lenders (C.holes_of l.blocks) (C.IsSameRest l.fn.blocks.lo l.fn.blocks.hi) l.fn.space l.space;
    }

abbrev pub decreases-loop-block : goal.decreases-loop-block
decreases-loop-block g l = l.from
