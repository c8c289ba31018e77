-- What selectors tell of their objects.
use Rattle.std.specs.Prelude.{ℕ, is_some, Option, option_map}
use Rattle.w16_model.specs.{Calls.global_handle, Calls.selector_base, Calls.selector_limit, Handles.Handles, Handles.Part, Handles.offset_in, Handles.part_of_selector, Heap.bytes_at, Owned.is_code}
use Rattle.w16_global.specs.declared.peek.Descriptor.{Descriptor}

-- What GetSelectorBase and GetSelectorLimit answer, the handle that GlobalHandle answers, whether the object has bytes, and whether it is code; none
-- where no object has the selector.
abbrev pub selector_descriptor : Handles → ℕ → Option Descriptor
selector_descriptor handles selector = option_map (λ (p : Part). record {
  base = selector_base handles selector;
  limit = selector_limit handles selector;
  object = offset_in (global_handle handles selector);
  present = is_some (bytes_at handles.heap p.slot);
  code = is_code handles p.slot;
}) (part_of_selector handles selector)
