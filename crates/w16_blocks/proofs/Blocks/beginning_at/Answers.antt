use Rattle.w16_blocks.proofs
use Rattle.std.specs.Prelude.{◌%◌}
use proofs.Common.{false≢true, ◌≡◌, ◌≢◌, ◌∙◌, ap, arith, sym, subst, Some, MatchOption, List, ℕ, AllByRecursion, Block, Span, Layout, block_with, blocks_in}
use proofs.Tagged.{none_off}
use proofs.Blocks.beginning_at.Goals.{then-place-bounds-via-then-place-bounds, then-place-bounds-via-else-place-bounds+then-place-bounds-2, then-place-bounds-via-else-place-bounds+else-place-bounds-2+then-not-is_whole}
use Rattle.w16_blocks.proofs.Blocks.beginning_at.Goals as goal

pub returns-then-place-bounds-clause-value : goal.returns-then-place-bounds-clause-value
returns-then-place-bounds-clause-value g c =
    let bounds = c.bounds-bounds.ensures in let from = ap (λ s. s.from) bounds.value in let to = ap (λ s. s.to) bounds.value in
    let grain = ap (λ l. l.grain) c.self.view_is in let some = c.self.invariant.0.tables.some in
    none_off c.args.self.now c.args.place bounds.ordered (omega arith) (λ low high whole. elim c.then-place-bounds.branch [
      | then-place-bounds-via-then-place-bounds w ↦ let below = w.if-place-bounds.true in omega arith
      | then-place-bounds-via-else-place-bounds+then-place-bounds-2 w ↦ let above = w.if-place-bounds-2.true in omega arith
      | then-place-bounds-via-else-place-bounds+else-place-bounds-2+then-not-is_whole w ↦ false≢true (sym w.if-not-is_whole.true ∙ w.is_whole.ensures.1 (subst (λ k. c.args.place % k ≡ 0) (sym grain) whole))
    ])

pub returns-clause-value : goal.returns-clause-value
returns-clause-value g c =
    let told : blocks_in c.deref.result.now c.deref-2.result.now ≡ c.args.self.now.blocks =
    ap (λ slots. blocks_in slots c.deref-2.result.now) c.deref.ensures.value ∙ ap (λ cells. blocks_in c.self.inside.slots.items cells) c.deref-2.ensures.value ∙ ap (λ l. l.blocks) c.self.view_is in
    subst (λ bs. MatchOption c.block_at.result (AllByRecursion (λ b. b.at ≢ c.args.place) bs) (λ b. (b.at ≡ c.args.place) × (block_with bs b.id ≡ Some b))) told c.block_at.ensures
