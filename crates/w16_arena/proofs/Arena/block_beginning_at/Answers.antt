use Rattle.w16_arena.proofs.Common.{◌≡◌, ◌≢◌, ℕ, Some, IfSome, IfNone, block_with}
use Rattle.w16_arena.proofs.{Shown.told, Next.beginning_found, Next.beginning_none}
use Rattle.w16_arena.proofs.Arena.block_beginning_at.Goals as goal

pub returns-clause-found : goal.returns-clause-found
returns-clause-found g c =
    told c.self.invariant c.self.view_is (λ t. IfSome c.beginning_at.result (λ b. (b.at ≡ c.args.place) × (block_with t.blocks b.id ≡ Some b)))
    (beginning_found _ _ _ c.beginning_at.ensures.value)

pub returns-clause-none : goal.returns-clause-none
returns-clause-none g c =
    told c.self.invariant c.self.view_is (λ t. IfNone c.beginning_at.result ((q : ℕ) → IfSome (block_with t.blocks q) (λ d. d.at ≢ c.args.place)))
    (beginning_none _ _ _ c.beginning_at.ensures.value)
