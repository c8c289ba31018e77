use Rattle.w16_ne.proofs.Common.{◌≡◌, ◌≤◌, ◌-◌, List, [], Ok, file_of, length_at, Entry, names_from, piece_at, IsListing}
use Rattle.w16_ne.proofs.Each.{with_front}
use Rattle.w16_ne.proofs.name_table.add_names.Given as goal

abbrev pub invariant-loop : goal.invariant-loop
invariant-loop g l =
    let file = file_of (g.S.Store.files l.fn.store) l.name in
    (g.S.Store.files l.store ≡ g.S.Store.files l.fn.store) × (g.S.Store.failures l.fn.store ≤ g.S.Store.failures l.store)
    × (g.S.Store.is_honest → length_at file ≡ Ok l.len → piece_at file l.piece.at ≡ Ok l.piece.bytes.items)
    × ((before : List Entry) → g.S.Store.is_honest → length_at file ≡ Ok l.len → IsListing before [] l.fn.listing
    → (front : List Entry) × IsListing before front l.listing × (with_front front (names_from file (l.len - l.counter) l.place) ≡ names_from file l.len l.at))
