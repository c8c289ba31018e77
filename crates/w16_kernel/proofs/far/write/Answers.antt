use Rattle.w16_kernel.proofs.Common.{refl, sym, ◌∙◌}
use Rattle.w16_kernel.proofs.Lent.{as_written, put_back}
use Rattle.w16_kernel.specs.Runs.{bytes_written}
use Rattle.w16_kernel.proofs.far.write.Goals as goal

pub returns-in-Err-clause-step : goal.returns-in-Err-clause-step
returns-in-Err-clause-step g c = as_written _ _ _ c.args.pointer c.args.written (c.in-Err.ensures.found (bytes_written c.args.written) (sym c.count_of.ensures)).step

pub returns-clause-step : goal.returns-clause-step
returns-clause-step g c = put_back c.parts.view_is c.in-Ok.place c.args.written (c.in-Ok.ensures.found.2 refl) (sym (c.in-Ok.ensures.found.1.1 ∙ c.count_of.ensures)) _ c.write_found.ensures
