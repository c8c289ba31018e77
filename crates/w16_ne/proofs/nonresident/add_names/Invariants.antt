use Rattle.w16_ne.proofs.Common.{◌≡◌, ◌≤◌, ◌-◌, List, [], length, Entry, names_in, table_names, IsListing}
use Rattle.w16_ne.proofs.Each.{with_front}
use Rattle.w16_ne.proofs.nonresident.add_names.Given as goal

abbrev pub invariant-loop : goal.invariant-loop
invariant-loop g l =
    (l.at ≤ length l.table)
    × ((before : List Entry) → IsListing before [] l.fn.listing
    → (front : List Entry) × IsListing before front l.listing × (with_front front (names_in l.table (length l.table - l.counter) l.at) ≡ table_names l.table))
