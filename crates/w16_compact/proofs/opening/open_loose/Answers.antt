use Rattle.w16_compact.proofs
use proofs.Common as C
use proofs.Opened as M
use proofs.Common.{ℕ, ◌≡◌, ◌+◌, ◌≤◌, ◌∙◌, Some, arith, sym, ap, subst, Block, block_end, block_with, Layout, gathered, moved_between, opened, end_in, spare_in}
use proofs.Opened.{known_by}
use Rattle.w16_compact.proofs.opening.open_loose.Given as Given
use Rattle.w16_compact.proofs.opening.open_loose.Goals as goal

within : (l : Layout) (id low high : ℕ) (x : Block) → block_with l.blocks id ≡ Some x → C.IfSome (block_with l.blocks id) (λ b. (low ≤ b.at) × (block_end b ≤ high)) → (low ≤ x.at) × (block_end x ≤ high)
within l id low high x e is = M.of_known (λ b. (low ≤ b.at) × (block_end b ≤ high)) _ x e is

pub gather-down-requires-clause-gap : goal.gather-down-requires-clause-gap
gather-down-requires-clause-gap g c =
    let l = c.args.blocks.now in let x = c.in-Some.block in let e = c.in-Some.ensures.value in let at = within l _ _ c.args.high x (sym e) c.requires.within in
    M.may_low l c.in-Some.ensures.ordered _ _ c.requires.gap x (known_by l _ x (sym e)) at.0 at.1

pub raise-requires-clause-gap : goal.raise-requires-clause-gap
raise-requires-clause-gap g c =
    let l = c.args.blocks.now in let x = c.in-Some.block in let e = c.in-Some.ensures.value in let at = within l _ c.args.low _ x (sym e) c.requires.within in
    M.may_high l c.in-Some.ensures.ordered _ _ c.requires.gap x (known_by l _ x (sym e)) at.0 at.1 _ c.gather-down.ensures.blocks

pub overflow_add-result : goal.overflow_add-result
overflow_add-result g c =
    let l = c.args.blocks.now in let m = c.gather-down.new.blocks in
    let one = M.moved_most l.blocks m.blocks in let two = M.moved_most m.blocks c.raise.new.blocks.blocks in
    let down = c.gather-down.ensures.moved in let up = c.raise.ensures.moved in
    let all = C.sum_fits l.lo l.hi l.blocks c.find.ensures.ordered.laid in let all' = C.sum_fits m.lo m.hi m.blocks c.gather-down.ensures.ordered.laid in
    let small = c.find.ensures.ordered.small in let small' = c.gather-down.ensures.ordered.small in
    record { fits = omega (arith, one, two, down, up, all, all', small, small') }

pub returns-clause-slid : goal.returns-clause-slid
returns-clause-slid g c = M.slid_more _ c.gather-down.new.blocks.blocks _ c.gather-down.ensures.slid c.raise.ensures.slid

module _ (g : Given.Over) (c : goal.After-raise g) where
  abbrev l : Layout
  l = c.args.blocks.now

  abbrev x : Block
  x = c.in-Some.block

  at : (c.args.low ≤ x.at) × (block_end x ≤ c.args.high)
  at = within l c.args.id c.args.low c.args.high x (sym c.in-Some.ensures.value) c.requires.within

  known : block_with l.blocks x.id ≡ Some x
  known = known_by l c.args.id x (sym c.in-Some.ensures.value)

  mid : c.gather-down.new.blocks.blocks ≡ gathered c.args.low (block_end x) l.blocks
  mid = ap (λ (m : Layout). m.blocks) c.gather-down.ensures.blocks

  list : c.raise.new.blocks.blocks ≡ opened c.args.low (block_end x) c.args.high l.blocks
  list = ap (λ (m : Layout). m.blocks) c.raise.ensures.blocks ∙ ap (C.raised (block_end x) c.args.high) mid

  slid : C.AreSlid l.blocks (opened c.args.low (block_end x) c.args.high l.blocks)
  slid = subst (C.AreSlid l.blocks) list (M.slid_more l.blocks c.gather-down.new.blocks.blocks c.raise.new.blocks.blocks c.gather-down.ensures.slid c.raise.ensures.slid)

  laid_mid : C.IsLaid l.lo l.hi (gathered c.args.low (block_end x) l.blocks)
  laid_mid = subst (λ (m : Layout). C.IsLaid m.lo m.hi m.blocks) c.gather-down.ensures.blocks c.gather-down.ensures.ordered.laid

  left : C.LeavesFree c.args.low c.args.high (end_in l.blocks c.args.low x) (end_in l.blocks c.args.low x + spare_in l.blocks c.args.low c.args.high) l c.raise.new.blocks
  left = record {
    clear = subst (λ bs. C.IsClear C.is_any l.lo l.hi bs (end_in l.blocks c.args.low x) (end_in l.blocks c.args.low x + spare_in l.blocks c.args.low c.args.high)) (sym list)
        (M.clear_opened l c.find.ensures.ordered c.args.low c.args.high c.requires.gap x known at.0 at.1);
    hole = λ gap some. subst (λ bs. C.IsHole l.lo l.hi bs (end_in l.blocks c.args.low x) (end_in l.blocks c.args.low x + spare_in l.blocks c.args.low c.args.high)) (sym list)
        (M.hole_opened l c.find.ensures.ordered c.args.low c.args.high c.requires.gap x known at.0 at.1 gap slid laid_mid (omega arith));
    alone = λ gap p q hole. M.alone_opened l c.find.ensures.ordered c.args.low c.args.high c.requires.gap x known at.0 at.1 gap slid laid_mid p q (subst (λ bs. C.IsHole l.lo l.hi bs p q) list hole);
  }

pub returns-clause-place : goal.returns-clause-place
returns-clause-place g c =
    M.if_known (λ b. block_with c.raise.new.blocks.blocks c.args.id ≡ Some (record b { at = c.args.low + C.loose_bytes c.args.blocks.now.blocks c.args.low b.at })) _ c.in-Some.block (sym c.in-Some.ensures.value)
    (ap (block_with c.raise.new.blocks.blocks) (sym (C.with_id _ c.in-Some.block c.args.blocks.now.blocks (sym c.in-Some.ensures.value))) ∙ ap (λ bs. block_with bs c.in-Some.block.id) (list g c)
    ∙ M.with_opened c.args.blocks.now c.find.ensures.ordered _ _ c.requires.gap c.in-Some.block (known g c) (at g c).0 (at g c).1)

pub returns-clause-moved : goal.returns-clause-moved
returns-clause-moved g c =
    let l = c.args.blocks.now in
    let down = c.gather-down.ensures.moved in let up = c.raise.ensures.moved in
    let both = M.moved_opened c.args.blocks.now c.find.ensures.ordered c.args.low c.args.high c.requires.gap c.in-Some.block (known g c) (at g c).0 (at g c).1 in
    let first = ap (moved_between l.blocks) (mid g c) in let second : moved_between c.gather-down.new.blocks.blocks
    c.raise.new.blocks.blocks ≡ moved_between (gathered c.args.low (block_end c.in-Some.block) l.blocks)
    (opened c.args.low (block_end c.in-Some.block) c.args.high l.blocks) = λ i. moved_between (mid g c i)
    (list g c i) in
    let all = ap (moved_between l.blocks) (list g c) in
    omega (arith, down, up, both, first, second, all)

pub returns-clause-left : goal.returns-clause-left
returns-clause-left g c =
    let l = c.args.blocks.now in
    M.if_known (λ b. C.LeavesFree _ _ _ _ l _) _ c.in-Some.block (sym c.in-Some.ensures.value) (left g c)
