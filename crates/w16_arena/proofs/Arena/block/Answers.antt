use Rattle.w16_arena.proofs.Common.{◌≡◌, None, sym, arith, block_with}
use Rattle.w16_arena.proofs.Shown.{told, block_past}
use Rattle.w16_arena.proofs.Arena.block.Goals as goal

pub returns-then-id-cap-clause-value : goal.returns-then-id-cap-clause-value
returns-then-id-cap-clause-value g c =
    let past = block_past c.self.invariant c.args.id (let ids = c.self.invariant.ids in let le = c.if-id-cap.true in let cap = c.cap.ensures in omega arith) in
    sym (told c.self.invariant c.self.view_is (λ t. block_with t.blocks c.args.id ≡ None) past)
