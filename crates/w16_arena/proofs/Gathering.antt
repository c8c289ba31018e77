-- A gap that was gathered: the blocks that slid, and the place that they leave.
use Rattle.w16_arena.proofs
use proofs.Common as C
use Rattle.std.specs.List.{AllByRecursion as Each}
use proofs.Common.{◌≡◌, ℕ, ◌+◌, ◌<◌, ◌≤◌, ◌⊎◌, inl, inr, Bool, true, false, cond, ◌&&◌, IsTrue, List, [], ◌∷◌, All, refl, sym, ap, ◌∙◌, subst, arith, Block, is_any, loose_bytes, Misses, IsMultiple, FitsGap, Layout, Gap}
use proofs.Pairs.{Stands, two_gathered, two_slides}
use Rattle.w16_blocks.specs.Runs.{IsRun}
use Rattle.w16_compact.proofs.Packed.{gathered_past}

-- at multiples of the grain
pub sum_grains : (g a b : ℕ) → IsMultiple g a → IsMultiple g b → IsMultiple g (a + b)
sum_grains g a b p q = (p.0 + q.0, let e = p.1 in let f = q.1 in omega (arith, e, f))

pub loose_grains : (g : ℕ) (xs : List Block) (a b : ℕ) → Each (C.IsGrained g) xs → IsMultiple g (loose_bytes xs a b)
loose_grains g [] a b all = (0, omega arith)
loose_grains g (x ∷ xs) a b all = subst (IsMultiple g) (sym (C.loose_one x xs a b)) (turn (C.is_loose x && C.begins_in a b x) (loose_grains g xs a b all.1))
  where
    turn : (t : Bool) → IsMultiple g (loose_bytes xs a b) → IsMultiple g (cond t x.size 0 + loose_bytes xs a b)
    turn true r = sum_grains g x.size _ all.0.1 r
    turn false r = subst (IsMultiple g) (let e : loose_bytes xs a b ≡ 0 + loose_bytes xs a b = omega arith in e) r

module _ {l : Layout} {n : ℕ} {gap : Gap} (ordered : C.IsOrdered l) (has : C.HasRoom l n gap) where
  abbrev after_gather : Layout
  after_gather = record l { blocks = C.gathered gap.low gap.high l.blocks }

  -- what stands packed from the low end on stays
  module _ {from : ℕ} (run : IsRun l (record { from = gap.low; to = from })) (top : from ≤ gap.high) where
    fits : Each (FitsGap from gap.high) l.blocks
    fits = C.Each-both (FitsGap gap.low gap.high) (λ b. (C.block_end b ≤ from) ⊎ (from ≤ b.at)) (FitsGap from gap.high)
        (λ b fit cut. elim fit [
          | inl below ↦ let le = run.inside.1 in inl (omega arith)
          | inr other ↦ elim other [
            | inl above ↦ inr (inl above)
            | inr inside ↦ elim cut [ inl before ↦ inl before | inr behind ↦ inr (inr (behind, inside.1, inside.2)) ]
          ]
        ]) l.blocks has.may.loose run.whole.1

    past : after_gather.blocks ≡ C.gathered from gap.high l.blocks
    past =
        let low = run.inside.0 in let high = run.inside.2 in
        gathered_past gap.high from top gap.low l.lo l.hi l.blocks run.inside.1 ordered.laid run.whole.0 run.whole.1 (λ p at end lacks. run.full p at end (C.lacks_free p l.lo l.hi l.blocks ordered.laid (omega arith) (omega arith) lacks))

    module _ {new : Layout} (value : new ≡ after_gather) where
      pub gathered_moved : {memory after : List ℕ} → C.contents after new.blocks ≡ C.contents memory l.blocks → C.length after ≡ C.length memory → C.IsOrdered new → All (λ b. b < 256) after → C.AreMoved from gap.high l memory new after
      gathered_moved {memory} {after} bytes size laid all = record {
        same = value ∙ ap (λ bs. record l { blocks = bs }) (sym (ap (λ (x : Layout). x.blocks) value));
        blocks = two_slides from gap.high memory after l.blocks new.blocks
            (subst (C.EachTwo (Stands from gap.high) l.blocks) (sym (ap (λ (x : Layout). x.blocks) value ∙ past)) (two_gathered from gap.high l.lo l.hi l.blocks ordered.laid fits)) bytes;
        unpinned = λ _. record {
          above = let low = run.inside.0 in let le = run.inside.1 in omega arith;
          below = has.gap.clear.below;
          misses = C.All-from_Each _ l.blocks (C.Each-map (λ x. IsTrue (C.is_pinned x) → Misses x.at x.size gap.low gap.high) (λ x. IsTrue (C.is_pinned x) → Misses x.at x.size from gap.high)
              (λ x f pinned. elim (f pinned) [ inl e ↦ let le = run.inside.1 in inl (omega arith) | inr e ↦ inr e ]) l.blocks (C.Each-from_All _ l.blocks has.gap.clear.misses));
        };
        ordered = laid;
        size = size;
        bytes = λ _. all;
      }

  module _ {new : Layout} (value : new ≡ after_gather) where
    pub gathered_free : C.IsClear is_any l.lo l.hi new.blocks (gap.low + loose_bytes l.blocks gap.low gap.high) gap.high → C.AreFreeBytes new n (gap.low + gap.loose)
    gathered_free clear =
        let lo : new.lo ≡ l.lo = ap (λ (x : Layout). x.lo) value in
        let hi : new.hi ≡ l.hi = ap (λ (x : Layout). x.hi) value in
        let loose = has.loose in let room = has.room in let end = clear.below in let from = clear.above in
        record {
          above = omega arith;
          below = omega arith;
          grained = subst (λ k. IsMultiple k (gap.low + gap.loose)) (sym (ap (λ (x : Layout). x.grain) value)) (sum_grains l.grain gap.low gap.loose has.grained (subst (IsMultiple l.grain) (sym has.loose) (loose_grains l.grain l.blocks gap.low gap.high ordered.grained)));
          misses = C.Each-map (λ x. IsTrue (is_any x) → Misses x.at x.size (gap.low + loose_bytes l.blocks gap.low gap.high) gap.high) (λ x. Misses x.at x.size (gap.low + gap.loose) (gap.low + gap.loose + n))
              (λ x f. elim (f refl) [ inl e ↦ inl (omega arith) | inr e ↦ inr (omega arith) ]) new.blocks (C.Each-from_All (λ x. IsTrue (is_any x) → Misses x.at x.size (gap.low + loose_bytes l.blocks gap.low gap.high) gap.high) new.blocks clear.misses);
        }
