use Rattle.w16_ne.proofs.Common.{◌≡◌, ◌≤◌, ◌-◌, ◌*◌, ℕ, Result, All, vec_len, file_of, NeFault, Segment, each, IsSized, segment_at, entries_at}
use Rattle.w16_ne.proofs.Each.{with_front}
use Rattle.w16_ne.proofs.segment_table.entries.Given as goal

abbrev pub invariant-loop-i : goal.invariant-loop-i
invariant-loop-i g l =
    let entry : ℕ → Result Segment NeFault = λ i. segment_at (file_of (g.S.Store.files l.fn.store) l.name) l.shift l.table (8 * i) in
    (g.S.Store.files l.store ≡ g.S.Store.files l.fn.store) × (g.S.Store.failures l.fn.store ≤ g.S.Store.failures l.store)
    × (g.S.Store.is_honest → with_front l.segments.items (each entry (l.count - l.i) l.i) ≡ entries_at (file_of (g.S.Store.files l.fn.store) l.name) l.shift l.table l.count)
    × All IsSized l.segments.items × (vec_len l.segments ≡ l.i)
