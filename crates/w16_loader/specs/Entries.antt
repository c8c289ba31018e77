-- What the code keeps under a module handle, as the meaning of modules has it.
use Rattle.w16_loading.specs.{Modules.Named, Modules.Named.Loaded, Modules.Named.BuiltIn}
use Rattle.w16_loader.specs.declared.entry.Entry.{Entry}
use Rattle.w16_loader.specs.declared.entry.Entry.TheVariants as kept

module _ {A : Type 0} where
  abbrev pub named_of : Entry A → Named
  named_of (kept.Loaded m) = Loaded m.value
  named_of (kept.BuiltIn name) = BuiltIn name.items
