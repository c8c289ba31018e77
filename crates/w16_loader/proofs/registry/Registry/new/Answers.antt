-- A table of free places is one, and names nothing.
use Rattle.w16_loader.proofs.{Common.◌+◌, Common.FIRST_MODULE, Common.MOST_MODULES, Counting.new_counts, Registered.new_table, Registered.none_registered}
use Rattle.std.proofs.Common.{rules}
use Rattle.w16_loader.proofs.registry.Registry.new.Goals as goal

pub invariant_of-result : goal.invariant_of-result
invariant_of-result g c = (new_table _ c.in_ok-entries.ensures, new_counts _ _ c.in_ok-entries.ensures (c.in_ok-counts.ensures.items_if_clones_equal (λ y e. search rules)))

pub returns : goal.returns
returns g c = none_registered c.in_ok-entries.entries (FIRST_MODULE + MOST_MODULES) c.in_ok-entries.ensures
