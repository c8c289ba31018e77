use Rattle.w16_arena.proofs
use proofs.Ways as M
use proofs.Common.{false≢true, ◌≡◌, ◌+◌, inr, IfSome, refl, sym, ◌∙◌, subst, arith, inl, Block, block_end, hole_after, is_any, IsClear}
use proofs.{Written.counted_none, ButFor.free_but, ButFor.own_below, Fitting.fits_more, Grown.grown_there, Replaced.but_same, Keeping.leaves_same, Rooms.hole_free}
use Rattle.w16_arena.proofs.growth.grow_block.Goals as goal

pub free_after-requires-clause-id : goal.free_after-requires-clause-id
free_after-requires-clause-id g c = own_below c.bounds.ensures.ordered c.args.block c.requires.known

-- where it stands
pub resize-requires-clause-id : goal.resize-requires-clause-id
resize-requires-clause-id g c = own_below c.bounds.ensures.ordered c.args.block c.requires.known

pub resize-requires-clause-fits : goal.resize-requires-clause-fits
resize-requires-clause-fits g c =
    let l = c.args.blocks.now in let long = c.if-size-block.true in let more = c.requires.more in
    let behind = subst (λ o. IfSome o (λ b. c.free_after.result ≡ hole_after l.hi l.blocks (block_end b))) c.requires.known c.free_after.ensures.value in
    fits_more l c.args.block c.requires.known c.bounds.ensures.ordered _ c.requires.more (omega arith) c.requires.rounded

pub returns-then-size-block-clause-grown : goal.returns-then-size-block-clause-grown
returns-then-size-block-clause-grown g c =
    let l = c.args.blocks.now in let e = c.resize.ensures in let memory = g.S.Space.bytes _ in
    let behind = subst (λ o. IfSome o (λ b. c.free_after.result ≡ hole_after l.hi l.blocks (block_end b))) c.requires.known c.free_after.ensures.value in
    grown_there _ _ l l _ memory memory _ _
    (M.way_here c.bounds.ensures.ordered _ c.requires.known _ c.requires.more _ behind c.if-size-block.true memory)
    c.requires.more e.value e.ordered e.own e.bytes.contents e.bytes.rest.bytes.long e.small

pub returns-then-size-block-clause-enough : goal.returns-then-size-block-clause-enough
returns-then-size-block-clause-enough g c =
    let l = c.args.blocks.now in
    let behind = subst (λ o. IfSome o (λ b. c.free_after.result ≡ hole_after l.hi l.blocks (block_end b))) c.requires.known c.free_after.ensures.value in
    M.enough_here c.bounds.ensures.ordered c.args.block c.requires.known c.args.size c.requires.more c.free_after.result behind c.if-size-block.true c.args.compact

-- in a hole
pub move_to_hole-requires-clause-free : goal.move_to_hole-requires-clause-free
move_to_hole-requires-clause-free g c = hole_free c.bounds.ensures.ordered _ _ (sym c.in-Some.is ∙ c.hole_for.ensures.value)

pub returns-in-Some-clause-enough : goal.returns-in-Some-clause-enough
returns-in-Some-clause-enough g c =
    let found = sym c.in-Some.is ∙ c.hole_for.ensures.value in
    M.enough_hole c.bounds.ensures.ordered c.args.block c.requires.known c.args.size c.in-Some.at found
    (free_but c.args.block.id _ _ (hole_free c.bounds.ensures.ordered _ _ found)) c.args.compact

pub returns-in-Some-clause-still : goal.returns-in-Some-clause-still
returns-in-Some-clause-still g c = λ off.
    let l = c.args.blocks.now in
    let clear = M.clear_bytes c.args.size c.in-Some.at (hole_free c.bounds.ensures.ordered _ _ (sym c.in-Some.is ∙ c.hole_for.ensures.value)) in
    (c.move_to_hole.ensures.still, inr (subst (λ a. IsClear is_any l.lo l.hi l.blocks a (a + c.args.size)) (sym c.move_to_hole.ensures.at) clear))

-- in a gap
pub returns-then-compact-clause-enough : goal.returns-then-compact-clause-enough
returns-then-compact-clause-enough g c = M.slid_enough c.bounds.ensures.ordered c.args.block c.requires.known c.args.size _ _ _ _ c.slide_for.ensures.grown c.args.compact c.if-compact.true

-- nowhere
pub returns-else-compact-clause-refused : goal.returns-else-compact-clause-refused
returns-else-compact-clause-refused g c =
    let l = c.args.blocks.now in let more = c.requires.more in
    let behind = subst (λ o. IfSome o (λ b. c.free_after.result ≡ hole_after l.hi l.blocks (block_end b))) c.requires.known c.free_after.ensures.value in (
      M.none_still c.bounds.ensures.ordered c.args.block c.requires.known c.args.size (omega arith) c.free_after.result behind c.if-size-block.false (sym c.in_default.is ∙ c.hole_for.ensures.value) c.args.compact c.if-compact.false,
      refl,
      refl,
    )

pub returns-then-size-block-clause-still : goal.returns-then-size-block-clause-still
returns-then-size-block-clause-still g c = λ off. (but_same c.args.blocks.now _ c.resize.ensures.value, inl refl)

pub returns-then-size-block-clause-written : goal.returns-then-size-block-clause-written
returns-then-size-block-clause-written g c = c.resize.ensures.bytes.count ∙ sym (counted_none _)

pub returns-then-compact-clause-still : goal.returns-then-compact-clause-still
returns-then-compact-clause-still g c = λ off. absurd (false≢true (sym off ∙ c.if-compact.true))

pub returns-else-compact-clause-rest : goal.returns-else-compact-clause-rest
returns-else-compact-clause-rest g c = leaves_same _ _ _ c.requires.memory.kept
