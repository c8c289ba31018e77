-- One went, and what goes from there on goes after it.
use Rattle.w16_loader.proofs.{Common.◌∙◌, Common.with_handles, Common.in_world, Endings.goes_first}
use Rattle.w16_loader.proofs.ending.release_idle.Goals as goal

pub loop-handle-preserved : goal.loop-handle-preserved
loop-handle-preserved g c = record {
  goes = λ rest end later. c.loop-handle.invariant.goes rest end
      (goes_first _ _ end c.in-Some.handle
      c.in-Some.ensures.found (c.release_module.ensures.gone rest) later);
  written = c.release_module.ensures.written ∙ c.loop-handle.invariant.written;
}
