use Rattle.w16_arena.proofs.Common.{◌≡◌, IsSomeAnd, sym, ◌∙◌, subst, Block, entry_at, hold_of_entry, Each-at, Each-from_All}
use Rattle.w16_arena.proofs.Walks.{get_member}
use Rattle.w16_arena.proofs.Arena.item_of.Goals as goal

pub unreachable-requires : goal.unreachable-requires
unreachable-requires g c =
    let t = c.args.self.now.table in
    let Held : Block → Type 0 = λ x. IsSomeAnd (entry_at t x.id) (λ e. x.hold ≡ hold_of_entry e) in
    let held = Each-at Held t.blocks (Each-from_All Held _ c.entry.ensures.sound.table.holds) c.args.block (get_member _ c.requires.0 _ c.requires.1) in
    subst (λ o. IsSomeAnd o (λ e. c.args.block.hold ≡ hold_of_entry e)) (sym c.entry.ensures.value ∙ c.in_default.is) held
