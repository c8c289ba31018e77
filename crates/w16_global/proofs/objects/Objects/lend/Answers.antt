use Rattle.std.proofs.Common.{refl, sym, ◌∙◌, arith}
use Rattle.w16_global.proofs.{Loans.lent_shown, Loans.lent_sound, Written.in_memory, Written.no_part, Written.seen}
use Rattle.w16_global.proofs.objects.Objects.lend.Goals as goal

pub unreachable-requires : goal.unreachable-requires
unreachable-requires g c = no_part c.self.invariant _ c.self.view_is (sym c.block.ensures.value ∙ c.in_default.is) _ _ c.requires

pub overflow_add-block : goal.overflow_add-block
overflow_add-block g c = let room = in_memory c.self.invariant _ c.self.view_is (sym c.block.ensures.value ∙ c.in-Some.is) _ _ c.requires in omega (arith, room, c.self.inside.memory.small)

pub lend_part-requires : goal.lend_part-requires
lend_part-requires g c = in_memory c.self.invariant _ c.self.view_is (sym c.block.ensures.value ∙ c.in-Some.is) _ _ c.requires

pub invariant_of-self-lent : goal.invariant_of-self-lent
invariant_of-self-lent g c = lent_sound c.self.inside.memory.bytes c.self.invariant c.self.view_is c.args.id c.args.at c.args.n (sym c.block.ensures.value ∙ c.in-Some.is) c.requires

pub returns : goal.returns
returns g c = (
  (refl, lent_shown c.self.inside.memory.bytes c.self.invariant c.self.view_is _ _ _ (sym c.block.ensures.value ∙ c.in-Some.is) c.requires),
  record { value = c.lend_part.ensures.value ∙ seen c.self.invariant _ c.self.view_is (sym c.block.ensures.value ∙ c.in-Some.is) _ _ c.requires; writes_back = tt },
)
