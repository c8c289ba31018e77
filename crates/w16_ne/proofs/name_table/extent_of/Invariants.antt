use Rattle.w16_ne.proofs.Common.{◌≡◌, ◌≤◌, ◌-◌, Ok, Err, file_of, NeFault, length_at, names_from, piece_at}
use Rattle.w16_ne.proofs.name_table.extent_of.Given as goal

abbrev pub invariant-loop : goal.invariant-loop
invariant-loop g l =
    let file = file_of (g.S.Store.files l.fn.store) l.name in
    (g.S.Store.files l.store ≡ g.S.Store.files l.fn.store) × (g.S.Store.failures l.fn.store ≤ g.S.Store.failures l.store)
    × (g.S.Store.is_honest → length_at file ≡ Ok l.len → piece_at file l.piece.at ≡ Ok l.piece.bytes.items)
    × (g.S.Store.is_honest → length_at file ≡ Ok l.len → (e : NeFault) → names_from file (l.len - l.counter) l.place ≡ Err e → names_from file l.len l.at ≡ Err e)
