use Rattle.w16_kernel.proofs.{Common.world_of, Files.kept_grown, Modules.seen_world}
use Rattle.w16_kernel.proofs.kernel.Kernel+GrowingStore+A.add_file.Goals as goal

pub invariant_of-self : goal.invariant_of-self
invariant_of-self g c =
    kept_grown (Unit {0}) (seen_world (λ i. world_of (c.self-inside-inside.view_is i).0.0.loading (c.self-inside-inside.view_is i).0.0.locals (c.self-inside-inside.view_is i).0.0.ds)) _
    c.add.new.self c.args.name.now c.args.bytes.now c.add.result
    (rw (← c.self-inside.view_is, ← c.self-inside-inside.view_is) at c.self.invariant) c.add.ensures.fresh c.add.ensures.added c.add.ensures.same
