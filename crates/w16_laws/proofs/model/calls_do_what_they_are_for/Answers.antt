use Rattle.w16_model.proofs.NewSize.{size_law}
use Rattle.w16_laws.proofs.CallEffects.{lock_law, unlock_law, free_law, modify_law, discard_law, answered_law}
use Rattle.w16_laws.proofs.model.calls_do_what_they_are_for.Goals as goal

pub returns-clause-locks : goal.returns-clause-locks
returns-clause-locks c = lock_law

pub returns-clause-unlocks : goal.returns-clause-unlocks
returns-clause-unlocks c = unlock_law

pub returns-clause-frees : goal.returns-clause-frees
returns-clause-frees c = free_law

pub returns-clause-kinds : goal.returns-clause-kinds
returns-clause-kinds c = modify_law

pub returns-clause-discards : goal.returns-clause-discards
returns-clause-discards c = discard_law

pub returns-clause-sizes : goal.returns-clause-sizes
returns-clause-sizes c = size_law

pub returns-clause-accesses : goal.returns-clause-accesses
returns-clause-accesses c = answered_law
