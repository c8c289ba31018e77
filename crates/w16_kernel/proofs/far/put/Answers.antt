use Rattle.w16_kernel.proofs.Common.{ap, length, repeated, sym, ◌∙◌}
use Rattle.w16_model.proofs.Parts.{length-repeated}
use Rattle.w16_kernel.specs.Runs.{bytes_written}
use Rattle.w16_kernel.proofs.far.put.Goals as goal

pub returns-in-Repeated-clause-value : goal.returns-in-Repeated-clause-value
unfolding repeated
returns-in-Repeated-clause-value c =
    c.fill.ensures.after (λ y e. e)
    ∙ ap (λ k. repeated k c.in-Repeated.byte) (c.requires ∙ ap (λ w. length (bytes_written w)) c.in-Repeated.is ∙ length-repeated c.in-Repeated.count c.in-Repeated.byte)
    ∙ sym (ap bytes_written c.in-Repeated.is)
