use Rattle.w16_arena.proofs
use proofs.Common.{◌≡◌, IfSome, IsMultiple, subst, sym, arith, Block, block_end, hole_after, Layout}
use proofs.ends.stretch_behind.Goals.{in-Some, in-None}
use proofs.{Fitting.spare_small, Fitting.ends_inside, Behind.behind_is, ButFor.own_grained}
use Rattle.w16_arena.proofs.ends.stretch_behind.Goals as goal

pub overflow_add-block : goal.overflow_add-block
overflow_add-block g c =
    let l = c.args.blocks.now in
    let end = ends_inside l c.args.block c.requires.known c.bounds.ensures.ordered in let small = c.bounds.ensures.ordered.small in record { fits = omega arith }

pub overflow_add-result : goal.overflow_add-result
overflow_add-result g c =
    let l = c.args.blocks.now in
    let free = subst (λ p. IfSome p (λ b. c.free_after-free.result ≡ hole_after l.hi l.blocks (block_end b))) c.requires.known c.free_after-free.ensures.value in
    let least = spare_small l c.args.block c.requires.known c.bounds.ensures.ordered in let small = c.bounds.ensures.ordered.small in record { fits = omega arith }

pub returns-clause-value : goal.returns-clause-value
returns-clause-value g c =
    let l = c.args.blocks.now in let b = c.args.block in
    let free = subst (λ p. IfSome p (λ b. c.free_after-free.result ≡ hole_after l.hi l.blocks (block_end b))) c.requires.known c.free_after-free.ensures.value in
    let inside = ends_inside l b c.requires.known c.bounds.ensures.ordered in
    elim c.match-next_from.branch [
      | in-Some w ↦ behind_is l c.bounds.ensures.ordered.laid b inside _ (sym w.in-Some.ensures.value) _ free _ w.last-is
      | in-None w ↦ behind_is l c.bounds.ensures.ordered.laid b inside _ (sym w.in-None.ensures.value) _ free _ w.last-is
    ]

pub returns-clause-grained : goal.returns-clause-grained
returns-clause-grained g c =
    let fits = own_grained c.bounds.ensures.ordered c.args.block c.requires.known in
    elim c.match-next_from.branch [
      | in-Some w ↦ subst (λ p. IfSome p (IsMultiple c.args.blocks.now.grain)) (sym w.last-is) tt
      | in-None w ↦ subst (λ p. IfSome p (IsMultiple c.args.blocks.now.grain)) (sym w.last-is) fits.0
    ]
