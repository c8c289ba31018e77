-- A file that is there has its tables, or its fault.
use Rattle.w16_store.specs.Files.{file_of}
use Rattle.w16_loader.proofs.{Files.is_read, Files.is_refused, Common.sym, Common.ap, Common.◌∙◌, Common.arith, Tellings.length_told, Tellings.read_told, Tellings.refuses_told}
use Rattle.w16_loader.specs.Devices.{is_fault_device}
use Rattle.w16_loader.proofs.found.read_file.Goals as goal

pub returns-in-Err-clause-says : goal.returns-in-Err-clause-says
returns-in-Err-clause-says g c = rw c.fault_of_length.ensures.fault
    (length_told _ _ _ _ _ _ c.in-Err.ensures.missing c.in-Err.ensures.honest c.in-Err.ensures.device)

pub returns-in-Err-read_module-clause-says : goal.returns-in-Err-read_module-clause-says
returns-in-Err-read_module-clause-says g c = refuses_told _ _ _ _ _ _ c.fault_of_tables.ensures.refuses
    (λ honest. rw c.fault_of_tables.ensures.fault
    (is_refused (file_of _ _) c.in-Ok.field-0 _ _ _ _ c.in-Ok.ensures.stays.counted
    (c.in-Ok.ensures.honest honest) (c.in-Ok.ensures.bytes honest) (rw c.in-Ok.ensures.stays.same at c.in-Err-read_module.ensures.exact honest)))
    (λ e. let rose = c.in-Err-read_module.ensures.device (sym c.fault_of_tables.ensures.device ∙ ap is_fault_device e) in omega (arith, rose, c.in-Ok.ensures.stays.counted))

pub returns-in-Ok-read_module-clause-says : goal.returns-in-Ok-read_module-clause-says
returns-in-Ok-read_module-clause-says g c = (
  tt,
  λ honest. read_told (file_of _ _) c.in-Ok-read_module.module (is_read _ c.in-Ok.field-0 _
      (c.in-Ok.ensures.honest honest) (c.in-Ok.ensures.bytes honest) (rw c.in-Ok.ensures.stays.same at c.in-Ok-read_module.ensures.exact honest)),
)
