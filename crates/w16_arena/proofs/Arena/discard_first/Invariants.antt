use Rattle.w16_arena.proofs.Common.{length, ◌≡◌, KeepsBytes, holes_in}
use Rattle.w16_arena.proofs.Oldest.{ArePartly}
use Rattle.w16_arena.proofs.Arena.discard_first.Given as goal

abbrev pub invariant-loop-i : goal.invariant-loop-i
invariant-loop-i g l = record {
  partly : ArePartly l.fn.self l.fn.k l.fn.h l.i l.self;
  end : l.i-end ≡ length l.self.discarded;
  bytes : KeepsBytes g.H.Holes.are_in g.S.Space.bytes g.S.Space.lenders g.S.Space.written (holes_in l.self.table) l.self.table.lo l.self.table.hi l.self.table.blocks l.fn.space l.space;
}
