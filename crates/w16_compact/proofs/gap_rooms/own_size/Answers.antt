use Rattle.w16_compact.proofs.Common.{◌≡◌, ◌+◌, ℕ, List, [], Option, Some, None, sum_by, arith, sym, subst, Block, blocks_without}
use Rattle.w16_compact.proofs.AllLoose.{left_none, left_other, left_known}
use Rattle.w16_compact.proofs.gap_rooms.own_size.Goals as goal

abbrev IsLeft : List Block → ℕ → Option ℕ → Type 0
IsLeft bs own h = own + sum_by (λ (b : Block). b.size) (blocks_without bs [] h) ≡ sum_by (λ (b : Block). b.size) bs

pub returns-in_default : goal.returns-in_default
returns-in_default g c = subst (IsLeft c.args.blocks.now.blocks 0) (sym c.in_default.is) (left_none c.args.blocks.now.blocks)

pub returns-then-cap-id : goal.returns-then-cap-id
returns-then-cap-id g c =
    let l = c.args.blocks.now in let cap = c.cap.ensures in let le = c.if-cap-id.true in
    subst (IsLeft l.blocks 0) (sym c.in-Some.is) (left_other l.cap c.in-Some.id l.blocks c.reveal_order.ensures.named (omega arith))

pub returns-in-Some-find : goal.returns-in-Some-find
returns-in-Some-find g c =
    let l = c.args.blocks.now in
    subst (IsLeft l.blocks _) (sym c.in-Some.is) (left_known l.cap c.in-Some.id l.blocks c.reveal_order.ensures.named (Some _) c.in-Some-find.ensures.value)

pub returns-in-None : goal.returns-in-None
returns-in-None g c =
    let l = c.args.blocks.now in
    subst (IsLeft l.blocks 0) (sym c.in-Some.is) (left_known l.cap c.in-Some.id l.blocks c.reveal_order.ensures.named None c.in-None.ensures.value)
