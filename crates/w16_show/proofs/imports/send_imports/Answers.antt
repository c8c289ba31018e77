use Rattle.w16_show.specs.Text.{import_text}
use Rattle.w16_show.proofs.Sending.{leaves-all, leaves-less, leaves-none}
use Rattle.w16_show.proofs.imports.send_imports.Goals as goal

pub loop-import-init : goal.loop-import-init
loop-import-init g c = rw (c.into_iter-import-iterator.ensures.into_iter_gives, c.values-import-items.ensures.rest) (leaves-all _ _)

pub loop-import-preserved : goal.loop-import-preserved
loop-import-preserved g c =
    leaves-less _ _ _ (import_text c.args.file.now c.args.tables.now c.in-Some.import.now) _ _ (rw c.in-Some.ensures.steps at c.loop-import.invariant) (rw (c.as_bytes.ensures.value, c.in_ok-push_import.ensures, c.clear.ensures.bytes) at c.in_ok-write_all.ensures.bytes)

pub returns : goal.returns
returns g c = leaves-none _ _ _ (rw c.in-None.ensures.steps.0 at c.loop-import.invariant)
