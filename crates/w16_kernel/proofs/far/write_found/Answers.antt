use Rattle.w16_kernel.proofs.Lent.{left_written}
use Rattle.w16_kernel.proofs.far.write_found.Goals as goal

pub returns : goal.returns
returns g c = left_written _ _ c.loading.view_is c.args.place c.requires.there _ _ c.put.ensures.value c.requires.long c.put.ensures.bytes
