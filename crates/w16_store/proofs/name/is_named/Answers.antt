use Rattle.w16_store.proofs.Naming.{named_by_lowers}
use Rattle.w16_store.proofs.name.is_named.Goals as goal

pub returns : goal.returns
returns c = named_by_lowers _ c.args.name.now c.args.other.now c.eq_ignore_ascii_case.ensures.test
