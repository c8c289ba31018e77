use Rattle.std.proofs.Common.{◌+◌, ◌-◌, ◌<◌, ◌≤◌, ◌≡◌, ◌*◌, ◌%◌, ◌^◌, ◌∙◌, sym, subst, slice_index, arith}
use Rattle.std.proofs.Math.Pow.{shl_exact}
use Rattle.w16_tree.proofs.Bits.{highest_bit, reached, not_reached}
use Rattle.w16_tree.proofs.rows.last_in_row.Goals as goal

pub returns : goal.returns
returns c =
    let at = c.args.at in let numbers = c.args.nodes.now in let bits = c.reaching.result in let last = c.ilog2.result in let within = c.requires.end in
    let e : 1 * 2 ^ c.args.end % 2 ^ 32 ≡ 2 ^ c.args.end = shl_exact {a = 1} 1 _ 32 (omega arith) (omega arith) ∙ omega arith in
    let h = highest_bit bits _ last (subst (λ p. 2 ^ last ≤ 2 * (bits % p) + 1) e c.ilog2.ensures.power_le) (subst (λ p. 2 * (bits % p) + 1 < 2 * 2 ^ last) e c.ilog2.ensures.next_power_gt) in
    let i = h.inside in record {
      inside = h.inside;
      found = λ some. let is : at + (last - 1) ≡ at + last - 1 = omega arith in
          subst (λ q. 0 < slice_index numbers q) is (reached 1 _ (sym (c.reaching.ensures.bits _ (omega arith)) ∙ h.here some));
      behind = λ p from to. let is : at + (p - at) ≡ p = omega arith in
          let none = subst (λ q. slice_index numbers q < 1) is (not_reached 1 _ (sym (c.reaching.ensures.bits _ (omega arith)) ∙ h.above (p - at) (omega arith) (omega arith))) in omega arith;
    }
