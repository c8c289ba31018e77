use Rattle.w16_kernel.proofs.Common.{ap, length, sym, ◌∙◌}
use Rattle.w16_model.proofs.Parts.{length-repeated}
use Rattle.w16_kernel.specs.Runs.{bytes_written}
use Rattle.w16_kernel.proofs.far.count_of.Goals as goal

pub returns-in-Repeated : goal.returns-in-Repeated
returns-in-Repeated c = sym (ap (λ w. length (bytes_written w)) c.in-Repeated.is ∙ length-repeated c.in-Repeated.count c.in-Repeated.byte)
