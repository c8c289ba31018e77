-- An import is looked for by the handle of its reference.
use Rattle.w16_loader.proofs.Common.{ap, sym, ◌∙◌, address_at}
use Rattle.std.specs.FinMap as finmap
use Rattle.w16_ne.specs.Texts.{text_in}
use Rattle.w16_format.specs.Data.{target_by}
use Rattle.w16_loading.specs.Modules.{address_named, value_of}
use Rattle.w16_loader.proofs.binding.target_value.Goals as goal

pub returns-in-ByOrdinal : goal.returns-in-ByOrdinal
returns-in-ByOrdinal g c = c.proc_address_by_ordinal.ensures ∙ ap (λ h. address_at (finmap.get c.args.registry.now) h c.in-ByOrdinal.ordinal) c.imported-handle.ensures
    ∙ ap (λ x. value_of (finmap.get c.args.registry.now) c.args.loaded.now (target_by (text_in c.args.scratch.now.texts) x)) (sym c.in-ByOrdinal.is)

pub returns-in-ByName : goal.returns-in-ByName
returns-in-ByName g c = c.proc_address_by_name.ensures ∙ (λ i. address_named (finmap.get c.args.registry.now) (c.imported-handle-in-ByName.ensures i) (c.imported_name.ensures i))
    ∙ ap (λ x. value_of (finmap.get c.args.registry.now) c.args.loaded.now (target_by (text_in c.args.scratch.now.texts) x)) (sym c.in-ByName.is)
