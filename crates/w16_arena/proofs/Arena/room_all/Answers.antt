use Rattle.w16_arena.proofs.Common.{◌≡◌, ◌≤◌, ℕ, List, length, ◌∙◌, subst, arith, most_room, heap_in, ArenaState, table_of}
use Rattle.w16_arena.proofs.Answering.{room_most}
use Rattle.w16_arena.proofs.Arena.room_all.Goals as goal

pub returns-clause-value : goal.returns-clause-value
returns-clause-value g c =
    let s : ArenaState = record { table = table_of c.self.inside.entries.items c.self.inside.blocks c.self.inside.order.ids; discarded = c.self.inside.discarded.items } in
    subst (λ s. (memory : List ℕ) → s.table.hi ≤ length memory → c.room_after.result ≡ most_room (heap_in s.table memory)) c.self.view_is
    (λ memory high. c.room_after.ensures.value ∙ room_most s c.self.invariant.sound memory high c.len-all.result (let e = c.len-all.ensures in omega arith))
