use Rattle.std.proofs.Common.{sym, ◌∙◌}
use Rattle.w16_compact.proofs.PinnedIds.{is_pinned_id-none, is_pinned_id-some}
use Rattle.w16_compact.proofs.prefix.is_pinned_id.Goals as goal

pub returns-in-Some : goal.returns-in-Some
returns-in-Some g c =
    let l = c.args.blocks.now in
    c.is_pinned.ensures ∙ sym (is_pinned_id-some l.cap l.blocks c.args.id c.in-Some.block c.in-Some.ensures.ordered.named (sym c.in-Some.ensures.value))

pub returns-in-None : goal.returns-in-None
returns-in-None g c = sym (is_pinned_id-none c.args.blocks.now.blocks c.args.id (sym c.in-None.ensures.value))
