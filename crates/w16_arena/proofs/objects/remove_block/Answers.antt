use Rattle.w16_arena.proofs.Common.{◌≡◌, false, Option, Some, None, is_some, refl, sym, ◌∙◌, Block}
use Rattle.w16_arena.proofs.{With.without_absent, Keeping.keeps_same, Keeping.keeps_holes}
use Rattle.w16_arena.proofs.objects.remove_block.Goals as goal

-- what isn't there is nothing
nothing : (b : Option Block) → is_some b ≡ false → b ≡ None
nothing None h = refl
nothing (Some x) h = cc

pub returns-then-is_some-clause-bytes : goal.returns-then-is_some-clause-bytes
returns-then-is_some-clause-bytes g c = let l = c.remove.new.self in keeps_holes l.lo l.hi _ _ _ c.remove.ensures.ordered.laid c.remove.ensures.rest c.remove.ensures.written

pub returns-else-is_some-clause-bytes : goal.returns-else-is_some-clause-bytes
returns-else-is_some-clause-bytes g c = keeps_same _ _ _ _ c.requires.memory.kept

pub returns-else-is_some-clause-value : goal.returns-else-is_some-clause-value
returns-else-is_some-clause-value g c =
    let none = without_absent _ _ (sym c.find.ensures.value ∙ nothing _ (sym c.is_some.ensures ∙ c.if-is_some.false)) in
    λ i. record c.args.blocks.now { blocks = sym none i }
