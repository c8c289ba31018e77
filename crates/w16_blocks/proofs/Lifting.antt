-- A block that moves up, over no other.
use Rattle.w16_blocks.proofs
use proofs.Common as C
use proofs.Common.{ℕ, ◌≡◌, ◌+◌, ◌<◌, ◌≤◌, ◌⊎◌, List, Some, arith, refl, inl, inr, Block, block_end, IsApart}
use proofs.Remove.{All-all_but, All-back, each_with, others_apart, others_differ}
use proofs.{Step.lies, Step.grained_known, Sliding.named_each}

-- a block is not behind the one that moves, or behind its new place
abbrev pub IsPassed : Block → ℕ → Block → Type 0
IsPassed x to c = (c.at ≤ x.at) ⊎ (to + x.size ≤ c.at)

pub fits_lifted : (l : C.Layout) (to : ℕ) (x : Block) → C.IsOrdered l → C.block_with l.blocks x.id ≡ Some x → x.at ≤ to → to + x.size ≤ l.hi → C.AllByRecursion (IsPassed x to) l.blocks → C.IsMultiple l.grain to → C.FitsFor l (record x { at = to })
fits_lifted l to x ordered known up end all grained =
    let own = lies l x.id x known ordered in let low = own.0 in let some = own.1 in
    record {
      id = each_with (λ c. c.id < l.cap) x.id x l.blocks known (named_each l.cap _ ordered.named);
      free = others_differ x.id l.blocks;
      inside = (omega arith, some, end);
      apart = C.Each-both (IsPassed x to) (IsApart x) (IsApart (record x { at = to }))
          (λ c past apart. elim past [
            | inl under ↦ elim apart [ inl behind ↦ absurd (omega arith) | inr before ↦ inr (omega arith) ]
            | inr over ↦ inl over
          ]) (C.all_but x.id _) (All-all_but _ x.id _ all) (others_apart l.lo l.hi l.cap x.id x _ ordered.laid ordered.named known);
      grained = (grained, (grained_known l x.id x known ordered).1);
    }

-- each block ends before another, begins behind it, or is it
pub around : (lo hi cap : ℕ) (x : Block) (bs : List Block) → C.IsLaid lo hi bs → C.AreNamed cap bs → C.block_with bs x.id ≡ Some x → C.AllByRecursion (λ c. (block_end c ≤ x.at) ⊎ ((block_end x ≤ c.at) ⊎ (c ≡ x))) bs
around lo hi cap x bs laid named known =
    All-back cap (λ c. (block_end c ≤ x.at) ⊎ ((block_end x ≤ c.at) ⊎ (c ≡ x))) x.id x bs named known (inr (inr refl))
    (C.Each-map (IsApart x) (λ c. (block_end c ≤ x.at) ⊎ ((block_end x ≤ c.at) ⊎ (c ≡ x))) (λ c apart. elim apart [ inl behind ↦ inr (inl behind) | inr before ↦ inl before ]) (C.all_but x.id bs) (others_apart lo hi cap x.id x bs laid named known))
