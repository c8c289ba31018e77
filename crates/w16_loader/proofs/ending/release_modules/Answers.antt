-- A module more is gone.
use Rattle.w16_loader.proofs.Common.{◌<◌, ◌≤◌, length, fold, ap, sym, ◌∙◌, arith, drop_all, with_handles, without_module, in_world}
use Rattle.w16_loader.proofs.Undoing.{next_module}
use Rattle.w16_loader.proofs.ending.release_modules.Goals as goal

pub loop-handle-preserved : goal.loop-handle-preserved
loop-handle-preserved g c =
    let inside : c.loop-handle.handle-index < length c.args.handles.now = omega arith in
    record {
      gone = λ rest. next_module _ _ _ _ inside
          (c.release_module.ensures.gone rest) ∙ c.loop-handle.invariant.gone rest;
      written = c.release_module.ensures.written ∙ c.loop-handle.invariant.written;
    }

pub returns-clause-gone : goal.returns-clause-gone
returns-clause-gone g c = λ rest.
    let all : length c.args.handles.now ≤ c.loop-handle.handle-index = omega arith in
    sym (ap (fold _ _) (drop_all _ _ all)) ∙ c.loop-handle.invariant.gone rest
