use Rattle.w16_compact.proofs.Common.{◌<◌, ◌≤◌, ◌⊎◌, inl, inr, arith, Block, Each-map}
use Rattle.w16_compact.proofs.opening.last_between.Goals as goal

pub returns-else-low-block-clause-value : goal.returns-else-low-block-clause-value
returns-else-low-block-clause-value g c =
    let found = c.in_ok-block.block in let lower = c.if-low-block.false in
    Each-map (λ b. (b.at ≤ found.at) ⊎ (c.args.below ≤ b.at)) (λ b. (b.at < c.args.low) ⊎ (c.args.below ≤ b.at))
    (λ b h. elim h [ inl le ↦ inl (omega arith) | inr above ↦ inr above ])
    _ c.in_ok-block.ensures.value.last
