-- By what a proof tells tables apart, so that a map of them can be the value of a model.
use Rattle.std.specs.Prelude.{◌≡◌, ℕ, zero, suc, List, Option, refl}
use Rattle.std.specs.Coded.{Coded, code_by, coded×, coded_ℕ, coded_list, coded_option}
use Rattle.std.specs.{Ordering.nat_cmp, FinMap.FinMap}
use Rattle.w16_model.specs.{declared.Block.Block, declared.Entry.Entry, declared.Hold.Hold, declared.Hold.TheVariants.Pinned, declared.Hold.TheVariants.Loose, declared.Kind.Kind, Codes.kind_code, Table.Table}
use Rattle.std.specs.FinMap as finmap

abbrev pub number_of_hold : Hold → ℕ
number_of_hold Pinned = 0
number_of_hold Loose = 1

abbrev pub hold_of_number : ℕ → Hold
hold_of_number zero = Pinned
hold_of_number (suc n) = Loose

pub hold_back : (h : Hold) → hold_of_number (number_of_hold h) ≡ h
hold_back Pinned = refl
hold_back Loose = refl

abbrev pub hold_code : Coded Hold
hold_code = code_by ℕ coded_ℕ number_of_hold hold_of_number hold_back

abbrev pub entry_code : Coded Entry
entry_code = code_by (Kind × ℕ) (coded× kind_code coded_ℕ) (λ e. (e.kind, e.locks)) (λ p. record { kind = p.0; locks = p.1 }) (λ _. refl)

abbrev pub block_code : Coded Block
block_code = code_by (ℕ × (ℕ × (ℕ × Hold))) (coded× coded_ℕ (coded× coded_ℕ (coded× coded_ℕ hold_code))) (λ b. (b.id, (b.at, (b.size, b.hold)))) (λ p. record { id = p.0; at = p.1.0; size = p.1.1.0; hold = p.1.1.1 }) (λ _. refl)

abbrev pub table_code : Coded Table
table_code = code_by (ℕ × (ℕ × (ℕ × (List (Option Entry) × (List Block × List ℕ)))))
    (coded× coded_ℕ (coded× coded_ℕ (coded× coded_ℕ (coded× (coded_list (coded_option entry_code)) (coded× (coded_list block_code) (coded_list coded_ℕ))))))
    (λ t. (t.lo, (t.hi, (t.grain, (t.entries, (t.blocks, t.order)))))) (λ p. record { lo = p.0; hi = p.1.0; grain = p.1.1.0; entries = p.1.1.1.0; blocks = p.1.1.1.1.0; order = p.1.1.1.1.1 }) (λ _. refl)

abbrev pub tables_code : Coded (FinMap nat_cmp Table)
tables_code = finmap.code coded_ℕ table_code
