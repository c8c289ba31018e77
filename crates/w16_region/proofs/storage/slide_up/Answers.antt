use Rattle.w16_region.proofs.Common.{◌≡◌, ◌+◌, ◌-◌, ◌∙◌, ℕ, part, put_part, arith, sym, ap, subst}
use Rattle.w16_region.proofs.Slides.{slide_none, lift_more}
use Rattle.w16_region.proofs.storage.slide_up.Goals as goal

pub loop-left-init : goal.loop-left-init
loop-left-init c = let none : c.args.size - c.args.size ≡ 0 = omega arith in
    record { left = omega arith; is = sym (ap (λ k. put_part c.args.bytes.now (c.args.to + c.args.size) (part c.args.bytes.now (c.args.from + c.args.size) k)) none ∙ slide_none _ (c.args.from + c.args.size) (c.args.to + c.args.size)) }

pub loop-left-preserved : goal.loop-left-preserved
loop-left-preserved c =
    let inv = c.loop-left.invariant in let short = c.min-piece.ensures in let target = c.requires.target in let low = inv.left in
    let n = c.min-piece.result in let a = c.loop-left.left - n in let b = c.args.size - c.loop-left.left in
    let left : c.loop-left.left ≡ a + n = omega arith in let rest : c.args.size - a ≡ n + b = omega arith in
    record {
      left = omega arith;
      is = c.slide_piece.ensures ∙ lift_more c.args.bytes.now _ _ a n b (omega arith) c.requires.up _ (subst (λ k. c.loop-left.bytes ≡ put_part c.args.bytes.now (c.args.to + k) (part c.args.bytes.now (c.args.from + k) b)) left inv.is)
          ∙ ap (λ k. put_part c.args.bytes.now (c.args.to + a) (part c.args.bytes.now (c.args.from + a) k)) (sym rest);
    }

pub returns : goal.returns
returns c = let none = c.loop-left-test.false in let is : c.loop-left.left ≡ 0 = omega arith in
    let to : c.args.to + 0 ≡ c.args.to = omega arith in let from : c.args.from + 0 ≡ c.args.from = omega arith in let size : c.args.size - 0 ≡ c.args.size = omega arith in
    subst (λ k. c.loop-left.bytes ≡ put_part c.args.bytes.now (c.args.to + k) (part c.args.bytes.now (c.args.from + k) (c.args.size - k))) is c.loop-left.invariant.is ∙ (λ i. put_part c.args.bytes.now (to i) (part c.args.bytes.now (from i) (size i)))
