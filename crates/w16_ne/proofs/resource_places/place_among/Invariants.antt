use Rattle.std.specs.List.{position_from}
use Rattle.w16_ne.proofs.Common.{◌≡◌, ◌≤◌, ℕ, length, drop, label_of, grouped, total, listed_resources}
use Rattle.w16_ne.proofs.Firsts.{is_wanted}
use Rattle.w16_ne.proofs.resource_places.place_among.Given as goal

abbrev pub invariant-loop-group : goal.invariant-loop-group
invariant-loop-group l = (l.start ≤ length l.rows) × (total (drop l.group-index l.groups) ≡ length (drop l.start l.rows))
    × ((shift : ℕ) → position_from (is_wanted l.texts shift (label_of l.kind) (label_of l.id)) 0 (listed_resources (grouped l.texts shift l.groups l.rows))
    ≡ position_from (is_wanted l.texts shift (label_of l.kind) (label_of l.id)) l.start (listed_resources (grouped l.texts shift (drop l.group-index l.groups) (drop l.start l.rows))))
