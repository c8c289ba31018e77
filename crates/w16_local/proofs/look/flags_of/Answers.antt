use Rattle.w16_local.proofs.Common.{None, if◌then◌else◌, sym, ap, ◌∙◌, LMEM_DISCARDABLE, LMEM_DISCARDED}
use Rattle.w16_local.proofs.Looks.{flags_in, flags_told}
use Rattle.w16_local.proofs.look.flags_of.Goals as goal

pub returns-in_default : goal.returns-in_default
returns-in_default g c bytes over = flags_in over c.args.id None (sym c.entry.ensures.value ∙ c.in_default.is)

pub returns : goal.returns
returns g c bytes over =
    flags_told over c.args.id c.in-Some.entry (sym c.entry.ensures.value ∙ c.in-Some.is) c.bit_if-discardable.result c.bit_if-absent.result
    (c.bit_if-discardable.ensures ∙ ap (λ b. if b then LMEM_DISCARDABLE else 0) c.is_discardable.ensures)
    (c.bit_if-absent.ensures ∙ ap (λ b. if b then LMEM_DISCARDED else 0) c.is_absent.ensures)
