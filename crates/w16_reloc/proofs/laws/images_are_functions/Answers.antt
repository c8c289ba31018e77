use Rattle.w16_reloc.proofs.NamingLemmas.{naming_is, image_is_of, image_of_is, image_bytes}
use Rattle.w16_reloc.proofs.laws.images_are_functions.Goals as goal

pub returns-clause-naming : goal.returns-clause-naming
returns-clause-naming c = naming_is

pub returns-clause-image : goal.returns-clause-image
returns-clause-image c = image_is_of

pub returns-clause-room : goal.returns-clause-room
returns-clause-room c = image_of_is

pub returns-clause-bytes : goal.returns-clause-bytes
returns-clause-bytes c = image_bytes
