use Rattle.w16_blocks.proofs
use proofs.Common.{◌+◌, arith, refl, sym}
use proofs.Keeping.{lies_in, place_grained, unit_inside}
use proofs.Renamed.{same_layout, layout_renamed, BlocksInvariant-renamed}
use Rattle.w16_blocks.proofs.Blocks.rename.Goals as goal

pub returns-in_default-clause-value : goal.returns-in_default-clause-value
returns-in_default-clause-value g c = same_layout c.self.invariant.0 c.self.inside.slots.ok.0 c.self.view_is _ _ c.in_default.ensures.value

pub unit_of-unit-requires-clause-from : goal.unit_of-unit-requires-clause-from
unit_of-unit-requires-clause-from g c = (lies_in c.self.invariant.0 c.self.inside.slots.ok.0 c.self.view_is c.args.id (sym c.in-Some.ensures.value)).0

pub unit_of-unit-requires-clause-grained : goal.unit_of-unit-requires-clause-grained
unit_of-unit-requires-clause-grained g c = place_grained c.self.invariant.0 c.self.inside.slots.ok.0 c.self.view_is c.args.id (sym c.in-Some.ensures.value)

pub index_mut-requires-3 : goal.index_mut-requires-3
index_mut-requires-3 g c =
    let lt = unit_inside c.self.invariant.0 c.self.inside.slots.ok.0 c.self.view_is c.args.id (sym c.in-Some.ensures.value) c.unit_of-unit.result c.unit_of-unit.ensures in let length_is = c.self.inside.begins.ok.0 in omega arith

pub invariant_of-self : goal.invariant_of-self
invariant_of-self g c =
    (BlocksInvariant-renamed c.self.invariant.0 c.self.inside.slots.ok.0 c.self.view_is _ _ c.in-Some.ensures.value c.requires.to c.requires.free _ c.unit_of-unit.ensures _ refl, c.self.invariant.1)

pub returns-clause-value : goal.returns-clause-value
returns-clause-value g c =
    layout_renamed c.self.invariant.0 c.self.inside.slots.ok.0 c.self.view_is _ _ c.in-Some.ensures.value c.requires.to c.requires.free c.unit_of-unit.result c.unit_of-unit.ensures _ refl

pub returns-clause-ordered : goal.returns-clause-ordered
returns-clause-ordered g c = (invariant_of-self g c).0.tables.ordered
