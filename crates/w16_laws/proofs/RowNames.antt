-- What a row of the table makes has the row's name.
use Rattle.std.proofs.Common.{refl}
use Rattle.w16_laws.specs.Runs.{RowNamesLaw}
use Rattle.w16_machine.specs.declared.name.Name.TheVariants as name

pub row_names_law : RowNamesLaw
row_names_law name.GlobalAlloc arguments = refl
row_names_law row arguments = refl
