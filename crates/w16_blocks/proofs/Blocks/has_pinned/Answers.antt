use Rattle.w16_blocks.proofs.Common.{nat_lt, ap, sym, ◌∙◌, list_any, is_pinned, Layout, blocks_in}
use Rattle.w16_blocks.proofs.Ordered.{counted_any}
use Rattle.w16_blocks.proofs.Blocks.has_pinned.Goals as goal

pub returns : goal.returns
returns g c = let s = c.self.inside in ap (nat_lt 0) c.self.invariant.0.pins ∙ sym (counted_any (blocks_in s.slots.items s.begins.items)) ∙ ap (λ l. list_any is_pinned l.blocks) c.self.view_is
