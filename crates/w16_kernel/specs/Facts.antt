-- What is known of an object.
use Rattle.std.specs.Prelude.{ℕ, Option, Some, None, option_map}
use Rattle.w16_model.specs.{declared.Span.Span, Calls.global_flags, Handles.slot_of_handle}
use Rattle.w16_loading.specs.Owner.{Owner, owner_of}
use Rattle.w16_loading.specs.Owner.Owner.{Script, OfSegment, OfResource}
use Rattle.w16_machine.specs.World.{World}
use Rattle.w16_kernel.specs.declared.kernel.facts.Source.TheVariants.{Segment, Resource}
use Rattle.w16_kernel.specs.{declared.kernel.facts.Facts.Facts, declared.kernel.facts.Source.Source}
use Rattle.std.specs.FinMap as finmap

-- of which module it is
abbrev pub source_in : Owner → Option Source
source_in Script = None
source_in (OfSegment handle number) = Some (Segment handle number)
source_in (OfResource handle place) = Some (Resource handle place)

-- the range of the local heap in a slot's object
abbrev pub heap_in : World → ℕ → Option Span
heap_in w slot = option_map (λ t. record { from = t.lo; to = t.hi }) (finmap.get w.heaps slot)

-- of the object that has a handle: its flags, its module, and the range of the local heap in it
abbrev pub facts_of : World → ℕ → Option Facts
facts_of w handle = option_map (λ slot. record {
  flags = global_flags w.loading.handles handle;
  source = source_in (owner_of w.loading slot);
  local = heap_in w slot;
}) (slot_of_handle w.loading.handles handle)
