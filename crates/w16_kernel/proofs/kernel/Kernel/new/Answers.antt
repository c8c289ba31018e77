use Rattle.w16_machine.proofs.Worlds.{empty_world_law}
use Rattle.w16_kernel.proofs.Common.{ne_format}
use Rattle.w16_kernel.proofs.kernel.Kernel.new.Goals as goal

pub invariant_of-result : goal.invariant_of-result
invariant_of-result g c =
    let law = empty_world_law ne_format c.args.memory c.args.slots (g.S.Store.files c.args.store) (g.S.Store.failures c.args.store) c.requires.few in
    rw (c.in_ok-global.ensures, c.in_ok-locals.ensures, c.in_ok-registry.ensures, c.in_ok-resources.ensures) (law.0, λ _. law.1)
