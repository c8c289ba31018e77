-- How many bytes there can be in a row, by where a range ends.
use Rattle.std.specs.Prelude.{ℕ, ◌-◌, max, option_map, unwrap_or}
use Rattle.w16_compact.specs.declared.stretch.Stretch.{Stretch}

-- as many at an end, the present one or a later one
abbrev pub stretch_at : Stretch → ℕ → ℕ
stretch_at s end = max s.most (unwrap_or (option_map (λ place. end - place) s.last) 0)
