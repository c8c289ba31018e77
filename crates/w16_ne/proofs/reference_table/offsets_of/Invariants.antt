use Rattle.w16_ne.proofs
use proofs.Common as C
use proofs.Common.{◌≡◌, ◌-◌, ◌*◌, ◌+◌, ℕ, List, Ok, All, map, each}
use proofs.Each.{with_front}
use Rattle.w16_ne.proofs.reference_table.offsets_of.Given as goal

abbrev pub invariant-loop-i : goal.invariant-loop-i
invariant-loop-i g l = (All (C.HasText l.texts) l.offsets.items)
    × ((file : C.Option (List ℕ)) (names : ℕ) → C.texts_behind file names ≡ Ok l.texts
    → with_front (map (C.text_in l.texts) l.offsets.items) (each (λ i. C.text_at C.Truncated file (names + C.word_of l.table (2 * i))) (l.count - l.i) l.i) ≡ C.texts_at file names l.table l.count)
