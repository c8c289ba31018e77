use Rattle.w16_ne.proofs.Common.{◌≡◌, ◌≤◌, ◌-◌, ◌+◌, ◌*◌, Ok, All, file_of, length_at, IsPiece, blocks_from}
use Rattle.w16_ne.proofs.Each.{with_front}
use Rattle.w16_ne.proofs.resource_blocks.blocks_before.Given as goal

abbrev pub invariant-loop : goal.invariant-loop
invariant-loop g l =
    let file = file_of (g.S.Store.files l.fn.store) l.name in
    (g.S.Store.files l.store ≡ g.S.Store.files l.fn.store) × (g.S.Store.failures l.fn.store ≤ g.S.Store.failures l.store)
    × (All (λ b. b.at + 12 * b.count ≤ l.len) l.blocks.items)
    × (g.S.Store.is_honest → length_at file ≡ Ok l.len → IsPiece file l.len l.piece)
    × (g.S.Store.is_honest → length_at file ≡ Ok l.len → with_front (l.blocks.items) (blocks_from file (l.len - l.counter) l.place) ≡ blocks_from file l.len l.at)
