use Rattle.w16_format.proofs.Files.{plain, accepted, refused, missing}
use Rattle.w16_format.proofs.laws.bytes_are_themselves.Goals as goal

pub returns-clause-plain : goal.returns-clause-plain
returns-clause-plain c = plain

pub returns-clause-accepted : goal.returns-clause-accepted
returns-clause-accepted c = accepted

pub returns-clause-refused : goal.returns-clause-refused
returns-clause-refused c = refused

pub returns-clause-missing : goal.returns-clause-missing
returns-clause-missing c = missing
