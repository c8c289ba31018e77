use Rattle.std.proofs.Common.{◌≤◌, drop}
use Rattle.w16_picture.specs.Layout.{Fills}
use Rattle.w16_picture.proofs.layout.covers.Given as goal

-- what is read so far fills the memory up to an address, so all parts fill it exactly if the rest does from there on
abbrev pub invariant-loop-item : goal.invariant-loop-item
invariant-loop-item l = record {
  within : l.at ≤ l.memory;
  onward : Fills 0 l.memory l.items → Fills l.at l.memory (drop l.item-index l.items);
  back : Fills l.at l.memory (drop l.item-index l.items) → Fills 0 l.memory l.items;
}
