-- The places that are taken are the handles that name something.
use Rattle.w16_loader.proofs.{Common.arith, Registered.len_is, Registered.few}
use Rattle.w16_loader.proofs.registry.Registry.free_count.Goals as goal

pub overflow_sub-result : goal.overflow_sub-result
overflow_sub-result g c = omega (arith, few c.self.inside.entries c.self.invariant.0, c.taken.ensures, c.from.ensures)

pub returns : goal.returns
returns g c = rw (← c.self.view_is) (omega (arith, len_is c.self.inside.entries, c.taken.ensures, c.from.ensures))
