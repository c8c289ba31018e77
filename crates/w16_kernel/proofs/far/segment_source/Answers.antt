-- The segment's module is looked up, and it is one.
use Rattle.w16_kernel.proofs.Common.{sym, ap, ◌∙◌, option_map, owner_in}
use Rattle.w16_kernel.proofs.Refetching.{none_so, no_module, segment_there, source_for, unowned}
use Rattle.w16_kernel.proofs.far.segment_source.Goals as goal

pub returns-in_err-place-clause-none : goal.returns-in_err-place-clause-none
returns-in_err-place-clause-none g c = none_so c.from_residual.result c.from_residual.ensures (λ rest is unloaded. unowned _ is unloaded (ap owner_in (sym c.in_err-place.was) ∙ c.segment_of.ensures))

pub returns-in_err-loaded-clause-none : goal.returns-in_err-loaded-clause-none
returns-in_err-loaded-clause-none g c = none_so c.from_residual-in_err-loaded.result c.from_residual-in_err-loaded.ensures (λ rest is unloaded.
    let s = segment_there _ is unloaded c.in_ok-place.place (ap owner_in (sym c.in_ok-place.was) ∙ c.segment_of.ensures) in absurd
    (no_module (ap (option_map _) (sym c.in_err-loaded.was) ∙ c.module.ensures ∙ s.1.loaded)))

pub returns-clause-found : goal.returns-clause-found
returns-clause-found g c = λ rest is unloaded.
    source_for (segment_there _ is unloaded c.in_ok-place.place (ap owner_in (sym c.in_ok-place.was) ∙ c.segment_of.ensures)).1
    (sym c.module.ensures ∙ ap (option_map _) c.in_ok-loaded.was) (sym c.source.ensures.number) c.source.ensures.source (sym c.source.ensures.tables)
