-- The tables are those that are kept, with their header.
use Rattle.w16_kernel.proofs.Common.{refl, sym}
use Rattle.w16_kernel.proofs.kernel.modules.start_in.Goals as goal

pub returns : goal.returns
returns g c = (
  c.module.result.now,
  sym c.module.ensures,
  rw (
    c.pointer_in.ensures,
    c.pointer_in-2.ensures,
    c.unwrap_or.ensures,
    c.selector_in.ensures,
    c.word.ensures,
    c.word-2.ensures,
    c.word-3.ensures,
    c.word-4.ensures,
    c.word-5.ensures,
    c.word-6.ensures,
    c.word-7.ensures,
    c.word-8.ensures,
    c.header-header.ensures,
  ) refl,
)
