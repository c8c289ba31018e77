use Rattle.w16_kernel.proofs.{Common.refl, Common.world_of, Files.kept_removed, Files.none_had, Files.removes, Modules.seen_world}
use Rattle.w16_kernel.proofs.kernel.Kernel+GrowingStore+A.remove_file.Goals as goal

pub returns-then-is_loaded_from-clause-fault : goal.returns-then-is_loaded_from-clause-fault
returns-then-is_loaded_from-clause-fault g c = rw (← c.self.view_is, ← c.self-inside.view_is, ← c.self-inside-inside.view_is) (c.if-is_loaded_from.ensures.yes refl)

pub invariant_of-self : goal.invariant_of-self
invariant_of-self g c =
    kept_removed (Unit {0}) (seen_world (λ i. world_of (c.self-inside-inside.view_is i).0.0.loading (c.self-inside-inside.view_is i).0.0.locals (c.self-inside-inside.view_is i).0.0.ds)) _
    c.remove.new.self c.args.name.now c.remove.result (rw (← c.self-inside.view_is, ← c.self-inside-inside.view_is) at c.self.invariant)
    c.remove.ensures.gone c.remove.ensures.kept (c.if-is_loaded_from.ensures.no refl)

pub returns-then-remove-clause-removed : goal.returns-then-remove-clause-removed
returns-then-remove-clause-removed g c = rw (← c.self.view_is, ← c.self-inside.view_is, ← c.self-inside-inside.view_is)
    (removes (Unit {0}) (seen_world (λ i. world_of (c.self-inside-inside.view_is i).0.0.loading (c.self-inside-inside.view_is i).0.0.locals (c.self-inside-inside.view_is i).0.0.ds)) _
    c.remove.new.self.files c.args.name.now (rw (← c.self-inside.view_is, ← c.self-inside-inside.view_is) at c.self.invariant)
    c.if-remove.ensures.had (c.if-remove.ensures.gone refl) (c.if-is_loaded_from.ensures.no refl))

pub returns-else-remove-clause-fault : goal.returns-else-remove-clause-fault
returns-else-remove-clause-fault g c = rw (← c.self.view_is, ← c.self-inside.view_is, ← c.self-inside-inside.view_is) (none_had _ c.if-remove.ensures.had)
