-- Which faults of a load, and which answers, tell that the store's device failed.
use Rattle.std.specs.Prelude.{Bool, true, false}
use Rattle.w16_loading.specs.declared.FetchFault.{FetchFault}
use Rattle.w16_loader.specs.{declared.fault.LoadFault.LoadFault, declared.loading.LoadAnswer.LoadAnswer}
use Rattle.w16_loading.specs.declared.FetchFault.TheVariants as fetches
use Rattle.w16_loader.specs.declared.fault.LoadFault.TheVariants as files
use Rattle.w16_loader.specs.declared.loading.LoadAnswer.TheVariants as answers

abbrev pub is_of_device : FetchFault → Bool
is_of_device fetches.Store = true
is_of_device other = false

abbrev pub is_fault_device : LoadFault → Bool
is_fault_device files.Device = true
is_fault_device other = false

abbrev pub is_load_device : LoadAnswer → Bool
is_load_device answers.StoreFails = true
is_load_device other = false
