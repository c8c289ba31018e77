use Rattle.std.proofs.Common.{sym, ◌∙◌, arith}
use Rattle.w16_store.proofs.Listing.{name_cmp-end}
use Rattle.w16_store.proofs.name.compare_names.Goals as goal

pub returns : goal.returns
returns c = c.cmp.ensures ∙ sym (name_cmp-end c.args.name.now c.args.other.now c.loop-i.i (omega arith)) ∙ c.loop-i.invariant
