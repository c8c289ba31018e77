use Rattle.w16_arena.proofs.Common.{◌≡◌, ◌<◌, ◌≤◌, ◌⊎◌, ℕ, Some, IfSome, IfNone, block_with, table_of}
use Rattle.w16_arena.proofs.{Shown.told, Next.next_found, Next.next_lowest, Next.next_none}
use Rattle.w16_arena.proofs.Arena.next_block.Goals as goal

pub returns-clause-found : goal.returns-clause-found
returns-clause-found g c =
    let s = c.self.inside in
    told c.self.invariant c.self.view_is (λ t. IfSome c.next_from.result (λ b. (c.args.from ≤ b.at) × (block_with t.blocks b.id ≡ Some b)))
    (next_found (table_of _ s.blocks _) c.self.invariant.sound _ c.next_from.ensures.value)

pub returns-clause-lowest : goal.returns-clause-lowest
returns-clause-lowest g c =
    let s = c.self.inside in
    told c.self.invariant c.self.view_is (λ t. IfSome c.next_from.result (λ b. (q : ℕ) → IfSome (block_with t.blocks q) (λ d. (d.at < c.args.from) ⊎ (b.at ≤ d.at))))
    (next_lowest (table_of _ s.blocks _) c.self.invariant.sound _ c.next_from.ensures.value)

pub returns-clause-none : goal.returns-clause-none
returns-clause-none g c =
    let s = c.self.inside in
    told c.self.invariant c.self.view_is (λ t. IfNone c.next_from.result ((q : ℕ) → IfSome (block_with t.blocks q) (λ d. d.at < c.args.from)))
    (next_none (table_of _ s.blocks _) c.self.invariant.sound _ c.next_from.ensures.value)
