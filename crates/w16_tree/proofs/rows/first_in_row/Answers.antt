use Rattle.std.proofs.Common.{◌+◌, ◌-◌, ◌<◌, ◌≡◌, ◌∙◌, sym, subst, slice_index, arith}
use Rattle.w16_tree.proofs.Bits.{lowest_bit, reached, not_reached}
use Rattle.w16_tree.proofs.rows.first_in_row.Goals as goal

pub returns : goal.returns
returns c = let l = lowest_bit _ c.reaching.ensures.small in record {
  inside = l.inside;
  before = λ p from to. let i = l.inside in let e : c.args.at + (p - c.args.at) ≡ p = omega arith in
      subst (λ q. slice_index c.args.nodes.now q < c.args.n) e (not_reached _ _ (sym (c.reaching.ensures.bits _ (omega arith)) ∙ l.below (p - c.args.at) (omega arith)));
  found = λ lt. reached _ _ (sym (c.reaching.ensures.bits _ lt) ∙ l.here lt);
}
