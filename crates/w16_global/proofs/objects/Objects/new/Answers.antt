use Rattle.w16_global.proofs.Common.{◌/◌, arith, refl, sym, ◌∙◌, subst, Free, AreThreaded, ArenaState, AreParts, holding_of}
use Rattle.w16_global.proofs.Fresh.{fresh_parts, fresh_holding}
use Rattle.w16_global.proofs.objects.Objects.new.Goals as goal

pub new-requires-2-clause-high : goal.new-requires-2-clause-high
new-requires-2-clause-high g c = let whole = c.requires.grained in (c.args.size / 32, omega arith)

pub new-requires-2-clause-wide : goal.new-requires-2-clause-wide
new-requires-2-clause-wide g c = (4, refl)

pub invariant_of-result : goal.invariant_of-result
invariant_of-result g c =
    subst (λ s. AreParts s c.new-2.new.space.bytes.items) (sym c.in_ok-arena.ensures)
    (fresh_parts c.args.cap _ c.requires.few _ (c.in_ok-holes.ensures.length ∙ c.in_ok-memory.ensures.length) c.reveal_bytes.ensures
    (subst (λ f. AreThreaded f.holes c.new-2.new.space.bytes.items) c.in_ok-holes.ensures.value c.in_ok-holes.ensures.kept))

pub returns : goal.returns
returns g c =
    (λ i. holding_of (c.in_ok-arena.ensures i) c.new-2.new.space.bytes.items ((c.in_ok-holes.ensures.written ∙ c.in_ok-memory.ensures.written) i))
    ∙ fresh_holding _ _ c.requires.few _ (c.in_ok-holes.ensures.length ∙ c.in_ok-memory.ensures.length) c.reveal_bytes.ensures
    (subst (λ f. AreThreaded f.holes c.new-2.new.space.bytes.items) c.in_ok-holes.ensures.value c.in_ok-holes.ensures.kept)
