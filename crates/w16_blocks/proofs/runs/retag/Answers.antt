use Rattle.w16_blocks.proofs
use proofs.Common.{ℕ, ◌∙◌, ap, set, refl, sym, subst, add-one, length, blocks_in, AreTables}
use proofs.Tables.{unit_told, AreTables-move, blocks_in-move}
use Rattle.w16_blocks.proofs.runs.retag.Goals as goal

pub bounds-begins-unit : goal.bounds-begins-unit
bounds-begins-unit c = unit_told c.requires.tables refl _ c.requires.told

pub returns-clause-tables : goal.returns-clause-tables
returns-clause-tables c =
    let u = c.args.unit in let v = c.unit_of.result in let x = c.args.block in
    subst (λ i. AreTables (length c.args.slots.now) c.args.bounds.from c.args.bounds.to c.args.grain (set c.args.slots.now x.id x) (set (set c.args.begins.now u 0) v i)) (sym (add-one x.id))
    (AreTables-move c.requires.tables refl u v c.requires.told c.requires.fits c.unit_of.ensures)

pub returns-clause-blocks : goal.returns-clause-blocks
returns-clause-blocks c =
    let u = c.args.unit in let v = c.unit_of.result in let x = c.args.block in
    ap (λ i. blocks_in (set c.args.slots.now x.id x) (set (set c.args.begins.now u 0) v i)) (add-one x.id)
    ∙ blocks_in-move c.requires.tables refl u v c.requires.told c.requires.fits c.unit_of.ensures
