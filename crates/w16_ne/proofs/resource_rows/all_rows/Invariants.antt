use Rattle.w16_ne.proofs
use proofs.Common as C
use proofs.Common.{◌≡◌, ◌≤◌, ℕ, Ok, drop, List, Typed}
use proofs.Each.{with_front}
use Rattle.w16_ne.proofs.resource_rows.all_rows.Given as goal

abbrev pub invariant-loop-block : goal.invariant-loop-block
invariant-loop-block g l =
    let file = C.file_of (g.S.Store.files l.fn.store) l.name in
    (g.S.Store.files l.store ≡ g.S.Store.files l.fn.store) × (g.S.Store.failures l.fn.store ≤ g.S.Store.failures l.store)
    × C.AreRows l.texts l.rows
    × (g.S.Store.is_honest → C.length_at file ≡ Ok l.len → C.IsPiece file l.len l.piece)
    × ((table shift : ℕ) → g.S.Store.is_honest → C.length_at file ≡ Ok l.len → C.texts_behind file table ≡ Ok l.texts
    → (front : List Typed) × (C.grouped l.texts shift l.rows.groups.items l.rows.rows.items ≡ C.filled front)
    × (with_front front (C.all_typed file table shift (drop l.block-index l.blocks)) ≡ C.all_typed file table shift l.blocks))
