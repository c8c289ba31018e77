use Rattle.w16_ne.proofs
use proofs.Common as C
use proofs.Common.{◌≡◌, ◌≤◌, ◌-◌, ◌*◌, ◌+◌, ◌++◌, ℕ, List, All, Ok, map, Row, each, IsPiece}
use proofs.Each.{with_front}
use Rattle.w16_ne.proofs.resource_rows.add_rows.Given as goal

abbrev pub invariant-loop-i : goal.invariant-loop-i
invariant-loop-i g l =
    let file = C.file_of (g.S.Store.files l.fn.store) l.name in
    (g.S.Store.files l.store ≡ g.S.Store.files l.fn.store) × (g.S.Store.failures l.fn.store ≤ g.S.Store.failures l.store)
    × (g.S.Store.is_honest → IsPiece file l.len l.fn.piece → IsPiece file l.len l.piece)
    × ((rows : List Row) × (l.rows.items ≡ l.fn.rows.items ++ rows) × (C.length rows ≡ l.i) × (All (λ r. C.HasLabel l.texts r.id) rows)
    × ((table shift : ℕ) → g.S.Store.is_honest → IsPiece file l.len l.fn.piece → C.texts_behind file table ≡ Ok l.texts
    → with_front (map (C.entry_in l.texts shift) rows) (each (λ i. C.resource_at file table shift (l.block.at + 12 * i)) (l.block.count - l.i) l.i) ≡ C.resources_of file table shift l.block))
