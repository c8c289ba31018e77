use Rattle.w16_format.proofs.Lookups.{entry_law, name_law, place_law}
use Rattle.w16_format.proofs.laws.tables_answer_by_number_and_name.Goals as goal

pub returns-clause-entries : goal.returns-clause-entries
returns-clause-entries c = entry_law

pub returns-clause-names : goal.returns-clause-names
returns-clause-names c = name_law

pub returns-clause-places : goal.returns-clause-places
returns-clause-places c = place_law
