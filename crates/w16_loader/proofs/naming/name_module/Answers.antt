-- The module has its objects, and is put; or they go again.
use Rattle.w16_loader.proofs
use proofs.Common as C
use proofs.Common.{◌≡◌, [], map, sym, ap, ◌∙◌, arith, segment_in}
use proofs.NameSteps.{module_named, all_back, same_global}
use Rattle.std.specs.FinMap as finmap
use Rattle.w16_loader.proofs.naming.name_module.Goals as goal

pub returns-clause-named : goal.returns-clause-named
returns-clause-named g c = λ rest. (
  c.in_ok-slots.slots.items,
  module_named rest _ _ _ _ _ _
      (record { file = c.args.found.file.items; tables = C.tables_in _; uses = c.args.uses; slots = c.in_ok-slots.slots.items; values = []; imports = c.args.imports.items })
      (c.in_ok-slots.ensures.many ∙ sym (C.length-map _ _)) c.in_ok-slots.ensures.fit c.in_ok-slots.ensures.taken (ap (λ x. x.handles) c.in_ok-put_module.ensures.put.1)
      (c.in_ok-put_module.ensures.put.0 ∙ ap (λ m. finmap.insert c.args.registry.now c.args.handle (C.Loaded m)) (c.new-loaded.ensures
      ∙ (λ i. record { file = c.args.found.file.items; tables = C.tables_in c.args.found.module; uses = c.args.uses; slots = c.in_ok-slots.slots.items; values = map (λ v. map C.far_of v.items) (c.new.ensures.items i); imports = c.args.imports.items }))),
)

pub returns-in_err-put_module-clause-same : goal.returns-in_err-put_module-clause-same
returns-in_err-put_module-clause-same g c =
    let many = C.length-map c.args.found.module.segments segment_in in
    let p = C.err_from_is_err_and c.from_residual-in_err-put_module.result c.from_residual-in_err-put_module.ensures.1 in rw p.1 (
      c.in_err-put_module.ensures.same,
      same_global _ _
          (all_back _ c.take_slots.new.global.handles _ c.in_ok-slots.slots.items (map _ _) c.reveal_handles.ensures
          (omega (arith, c.in_ok-slots.ensures.many, many)) c.in_ok-slots.ensures.taken
          (λ rest. c.in_err-put_module.ensures.gone rest ∙ ap (λ m. C.without_objects (λ q. C.is_member q m.slots) (C.with_handles rest c.take_slots.new.global.handles)) c.new-loaded.ensures))
          (c.put_module.ensures.written ∙ c.take_slots.ensures.written),
    )
