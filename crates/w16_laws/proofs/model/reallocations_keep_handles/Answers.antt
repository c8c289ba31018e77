use Rattle.w16_laws.proofs.{NewHandles.extended_law, NewHandles.shared_law, NewHandles.place_law}
use Rattle.w16_model.proofs.ResizedHandles.{resize_law, resize_fewest_law, one_slot_law}
use Rattle.w16_laws.proofs.model.reallocations_keep_handles.Goals as goal
use Rattle.w16_laws.proofs.OldHandles.{null_law, old_handle_law}

pub returns-clause-handles : goal.returns-clause-handles
returns-clause-handles c = resize_law

pub returns-clause-null : goal.returns-clause-null
returns-clause-null c = null_law

pub returns-clause-fewest : goal.returns-clause-fewest
returns-clause-fewest c = resize_fewest_law

pub returns-clause-one : goal.returns-clause-one
returns-clause-one c = one_slot_law

pub returns-clause-old : goal.returns-clause-old
returns-clause-old c = old_handle_law

pub returns-clause-extended : goal.returns-clause-extended
returns-clause-extended c = extended_law

pub returns-clause-shared : goal.returns-clause-shared
returns-clause-shared c = shared_law

pub returns-clause-place : goal.returns-clause-place
returns-clause-place c = place_law
