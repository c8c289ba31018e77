use Rattle.w16_laws.proofs.Apart.{uses_apart_law}
use Rattle.w16_laws.proofs.loading.uses_and_importers_are_apart.Goals as goal

pub returns : goal.returns
returns c = uses_apart_law
