-- The module and its table.
use Rattle.w16_resource.proofs.Common.{ap, label_of, sym, ◌∙◌}
use Rattle.w16_ne.specs.Modules.{resource_at}
use Rattle.w16_resource.proofs.finding.source_of.Goals as goal

pub returns-clause-found : goal.returns-clause-found
returns-clause-found g c = record {
  m = c.in_ok-loaded.loaded.now;
  loaded = sym (rw c.in_ok-loaded.was at c.module.ensures);
  named = sym c.file.ensures;
  t = c.module-2.result.now;
  tables = sym c.module-2.ensures;
  kind = label_of c.in_ok-resource.field-0-0;
  there = ap (resource_at c.module-2.result.now.resources) (sym c.from.ensures) ∙ sym c.in_ok-resource.ensures.found;
  inside = λ bytes e. c.in_ok-resource.ensures.inside bytes e;
}
