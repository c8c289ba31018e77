-- What is asked of modules that are loaded: where a program begins, and what there is.
use Rattle.std.specs.Prelude.{◌≡◌, ◌<◌, ◌≤◌, ℕ, List, Option, Some, None, IsSome, option_map, option_and_then, slice_get, unwrap_or}
use Rattle.w16_model.specs.Handles.{dword_of, selector_of}
use Rattle.w16_ne.specs.{Modules.Tables, Reading.word_of, Header.flags_of}
use Rattle.w16_loading.specs.{Families.pointer_to, File.numbered, Modules.Module, Modules.Modules, Modules.address_at, Modules.module_at}
use Rattle.w16_format.specs.Tables.{tables_in}
use Rattle.w16_kernel.specs.declared.kernel.modules.Start.{Start}
use Rattle.std.specs.FinMap as finmap

-- the selector of a segment, by its number, where the segments' objects have these slots
abbrev pub segment_selector : List ℕ → ℕ → Option ℕ
segment_selector slots number = option_map selector_of (numbered slots number)

-- a far pointer into a segment; 0 where no segment has the number
abbrev pub segment_pointer : List ℕ → ℕ → ℕ → ℕ
segment_pointer slots number offset = unwrap_or (option_map (λ selector. dword_of selector offset) (segment_selector slots number)) 0

-- where a program begins, by its header: cs:ip, ss:sp, the automatic data segment, and the header's words
abbrev pub start_of : List ℕ → List ℕ → Start
start_of header slots = record {
  entry = segment_pointer slots (word_of header 0x16) (word_of header 0x14);
  stack = segment_pointer slots (word_of header 0x1a) (word_of header 0x18);
  automatic_data = unwrap_or (segment_selector slots (word_of header 0x0e)) 0;
  heap = word_of header 0x10;
  stack_size = word_of header 0x12;
  flags = flags_of header;
}

-- A module begins where the header of its file says, which its tables tell.
abbrev pub IsStart : Option Module → Option Start → Type 0
IsStart None start = start ≡ None
IsStart (Some m) start = (t : Tables) × (m.tables ≡ tables_in t) × (start ≡ Some (start_of t.header m.slots))

-- the first handle from a number on that names a module or a built-in
abbrev pub IsFirstModule : Modules → ℕ → Option ℕ → Type 0
IsFirstModule modules from None = (handle : ℕ) → from ≤ handle → finmap.get modules handle ≡ None
IsFirstModule modules from (Some first) =
    (from ≤ first) × IsSome (finmap.get modules first) × ((handle : ℕ) → from ≤ handle → handle < first → finmap.get modules handle ≡ None)

-- a name of an entry of a module, by its index from 0, with its ordinal and the far pointer that this leads to
abbrev pub export_in : Modules → ℕ → ℕ → Option (List ℕ × (ℕ × ℕ))
export_in modules handle index = option_map (λ e. (e.0, (e.1, pointer_to (address_at (finmap.get modules) handle e.1))))
    (option_and_then (λ m. slice_get m.tables.names index) (module_at modules handle))
