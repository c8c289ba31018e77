-- What a step on blocks leaves of the bytes, where it keeps those that no hole has: each block's, and all outside the bounds.
use Rattle.w16_blocks.proofs
use proofs.Common as C
use proofs.Common.{Range, ap, ℕ, ◌≡◌, ◌+◌, ◌-◌, ◌<◌, ◌≤◌, List, [], ◌∷◌, length, drop, arith, sym, ◌∙◌, inl, inr, AllByRecursion, Block, Span, part, IsLaid, block_end, holes, IsUsed}
use proofs.Free.{Lacks, AreHoles-holes, free_lacks, used_of}

-- each block's bytes are used
pub used_each : (lo hi : ℕ) (bs : List Block) → IsLaid lo hi bs → AllByRecursion (λ c. IsUsed c.at (block_end c) (holes lo hi bs)) bs
used_each lo hi bs laid = each bs (C.laid_each lo hi bs laid) (λ p all. all)
  where
    each : (cs : List Block) → AllByRecursion (λ y. (lo ≤ y.at) × (0 < y.size) × (block_end y ≤ hi)) cs → ((p : ℕ) → AllByRecursion (Lacks p) bs → AllByRecursion (Lacks p) cs)
        → AllByRecursion (λ c. IsUsed c.at (block_end c) (holes lo hi bs)) cs
    each [] lies among = tt
    each (c ∷ cs) lies among =
        let some = lies.0.1 in (
          used_of c.at _ lo hi _ (omega arith) (AreHoles-holes lo lo hi bs (omega arith) laid)
              (λ p from to is. elim (among p (free_lacks p lo hi bs laid is).2).0 [ inl before ↦ omega arith | inr behind ↦ omega arith ]),
          each cs lies.1 (λ p all. (among p all).1),
        )

used_below : (a b lo hi : ℕ) (hs : List Span) → b ≤ lo → C.AreHoles lo hi hs → IsUsed a b hs
used_below a b lo hi [] le are = tt
used_below a b lo hi (h ∷ hs) le are = let from = are.0 in let some = are.1 in (inr (omega arith), used_below a b _ hi hs (omega arith) are.3)

used_above : (a b lo hi : ℕ) (hs : List Span) → hi ≤ a → C.AreHoles lo hi hs → IsUsed a b hs
used_above a b lo hi [] le are = tt
used_above a b lo hi (h ∷ hs) le are = let to = are.2 in (inl (omega arith), used_above a b _ hi hs le are.3)

-- what is outside the bounds is used
module _ (lo hi : ℕ) (bs : List Block) (laid : IsLaid lo hi bs) where
  pub used_low : IsUsed 0 (0 + lo) (holes lo hi bs)
  used_low = used_below 0 (0 + lo) lo hi (holes lo hi bs) (omega arith) (AreHoles-holes lo lo hi bs (omega arith) laid)

  pub used_high : (n : ℕ) → IsUsed hi (hi + n) (holes lo hi bs)
  used_high n = used_above hi (hi + n) lo hi (holes lo hi bs) (omega arith) (AreHoles-holes lo lo hi bs (omega arith) laid)

-- two lists with one part up to their ends
rest_of : (old new : List ℕ) (hi : ℕ) → length new ≡ length old → part new hi (length old - hi) ≡ part old hi (length old - hi) → drop hi new ≡ drop hi old
rest_of old new hi long same =
    let a = C.length-drop hi new in let b = C.length-drop hi old in
    sym (C.take_all _ _ (omega arith)) ∙ same ∙ C.take_all _ _ (omega arith)

-- where only bytes of holes change, those outside the bounds stay
pub outside_holes : (lo hi : ℕ) (bs : List Block) (old new : List ℕ) → IsLaid lo hi bs → C.AreSameOutside (holes lo hi bs) old new → C.IsSameOutside lo hi old new
outside_holes lo hi bs old new laid same = record {
  below = same.same 0 lo (used_low lo hi bs laid);
  above = rest_of old new hi same.long (same.same hi _ (used_high lo hi bs laid _));
}

-- the same where a place inside the bounds is written too
pub outside_but : (lo hi place n : ℕ) (bs cs : List Block) (old new : List ℕ) → IsLaid lo hi bs → IsLaid lo hi cs → lo ≤ place → place + n ≤ hi → C.AreSameBut place n (holes lo hi bs) (holes lo hi cs) old new → C.IsSameOutside lo hi old new
outside_but lo hi place n bs cs old new one two from to same = record {
  below = same.same 0 lo (used_low lo hi bs one) (used_low lo hi cs two) (inl (omega arith));
  above = rest_of old new hi same.long (same.same hi _ (used_high lo hi bs one _) (used_high lo hi cs two _) (inr to));
}

-- a part of a layout's range lies in each memory that has the range
pub part_inside : {range then : Range} {now l : C.Layout} {at n a b d : ℕ} → C.IsPart then at n → then ≡ range → range ≡ C.range_of now → now ≡ l → l.hi ≤ a → b ≡ a → d ≡ b → at + n ≤ d
part_inside part same ranged is high long longer =
    let to = part.to in let one = ap (λ r. r.hi) (same ∙ ranged) in let two = ap (λ m. m.hi) is in omega arith
