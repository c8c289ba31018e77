use Rattle.std.proofs.Common.{◌≡◌, ◌++◌, ◌-◌, length}
use Rattle.w16_reloc.specs.Naming.{chain_from}
use Rattle.w16_show.proofs.sites.push_chain.Given as goal

abbrev pub invariant-loop : goal.invariant-loop
invariant-loop l = l.sites.items ++ chain_from l.bytes (length l.bytes - l.counter) l.at ≡ l.initial.sites.items ++ chain_from l.bytes (length l.bytes) l.head
