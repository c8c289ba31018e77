-- What an arena keeps where its range ends later.
use Rattle.w16_arena.proofs.Common.{◌≡◌, ℕ, ◌≤◌, List, Option, sym, ap, subst, arith, Entry, Table, IsSound, Layout, laid_later, ArenaState, Uses}
use Rattle.w16_arena.specs.{State.table_of, Representation.ArenaInvariant}

pub sound_later : (t : Table) (end : ℕ) → IsSound t → t.hi ≤ end → IsSound (record t { hi = end })
sound_later t end sound later = record {
  table = record { laid = laid_later t.lo t.hi end _ sound.table.laid later; ids = sound.table.ids; holds = sound.table.holds };
  grained = sound.grained;
  low_grained = sound.low_grained;
  in_order = sound.in_order;
  no_repeats = sound.no_repeats;
  counted = sound.counted;
}

pub kept_later : {entries : List (Option Entry)} {layout new : Layout} {uses : Uses} {gap_rooms room : ℕ} {discarded : List ℕ} {old : ArenaState} → ArenaInvariant entries layout uses gap_rooms room
    → record { table = table_of entries layout uses.ids; discarded = discarded } ≡ old → (end : ℕ) → old.table.hi ≤ end → new ≡ record layout { hi = end } → ArenaInvariant entries new uses gap_rooms room
kept_later {entries} {layout} {new} {uses} {gap_rooms} {room} kept view end later is =
    let top = ap (λ a. a.table.hi) view in
    subst (λ l. ArenaInvariant entries l uses gap_rooms room) (sym is) (record {
      sound = sound_later (table_of entries layout _) end kept.sound (omega arith);
      ids = kept.ids;
      ordered = kept.ordered;
      told = kept.told;
      enough = kept.enough;
    })
