use Rattle.std.proofs.Common.{sym, ◌∙◌, arith}
use Rattle.w16_global.proofs.Written.{in_memory, no_part, seen}
use Rattle.w16_global.proofs.objects.Objects.part.Goals as goal

pub unreachable-requires : goal.unreachable-requires
unreachable-requires g c = no_part c.self.invariant c.args.id c.self.view_is (sym c.block.ensures.value ∙ c.in_default.is) c.args.at c.args.n c.requires

pub overflow_add-block : goal.overflow_add-block
overflow_add-block g c =
    let room = in_memory c.self.invariant c.args.id c.self.view_is (sym c.block.ensures.value ∙ c.in-Some.is) c.args.at c.args.n c.requires in
    omega (arith, room, c.self.inside.memory.small)

pub view-requires : goal.view-requires
view-requires g c = in_memory c.self.invariant c.args.id c.self.view_is (sym c.block.ensures.value ∙ c.in-Some.is) _ _ c.requires

pub returns : goal.returns
returns g c = c.view.ensures ∙ seen c.self.invariant _ c.self.view_is (sym c.block.ensures.value ∙ c.in-Some.is) _ _ c.requires
