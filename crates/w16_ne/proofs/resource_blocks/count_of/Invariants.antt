use Rattle.w16_ne.proofs.Common.{◌≡◌, ◌≤◌, ◌-◌, Ok, Err, file_of, NeFault, length_at, IsPiece, blocks_from}
use Rattle.w16_ne.proofs.resource_blocks.count_of.Given as goal

abbrev pub invariant-loop : goal.invariant-loop
invariant-loop g l =
    let file = file_of (g.S.Store.files l.fn.store) l.name in
    (g.S.Store.files l.store ≡ g.S.Store.files l.fn.store) × (g.S.Store.failures l.fn.store ≤ g.S.Store.failures l.store)
    × (g.S.Store.is_honest → length_at file ≡ Ok l.len → IsPiece file l.len l.piece)
    × (g.S.Store.is_honest → length_at file ≡ Ok l.len → (e : NeFault) → blocks_from file (l.len - l.counter) l.place ≡ Err e → blocks_from file l.len l.at ≡ Err e)
