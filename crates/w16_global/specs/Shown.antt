-- A memory that is looked at as a whole.
use Rattle.std.specs.Prelude.{◌≡◌, ℕ, ◌+◌, List, None, unwrap_or}
use Rattle.w16_model.specs.{Bytes.part, Calls.selector_base, Far.far_at, Far.far_bytes, Far.far_fault, Handles.Handles, Heap.Heap}
use Rattle.w16_global.specs.{Loans.bytes_from, Parts.HasPart}
use Rattle.std.specs.FinMap as finmap

-- each object's bytes begin in it at the object's place
abbrev pub ShowsObjects : List ℕ → Heap → Type 0
ShowsObjects memory heap = (id at n : ℕ) → HasPart heap id at n → part memory (unwrap_or (finmap.get heap.places id) 0 + at) n ≡ bytes_from heap id at n

-- and what each selector reaches begins in it at the selector's base: a read by the selector gives the bytes that are there
abbrev pub ShowsBytes : List ℕ → Handles → Type 0
ShowsBytes memory handles = (selector offset n : ℕ) → far_fault handles selector offset n ≡ None
    → part memory (selector_base handles selector + offset) n ≡ part (far_bytes handles selector) (far_at handles selector offset) n
