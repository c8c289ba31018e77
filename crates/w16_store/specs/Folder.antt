-- The files of a folder.
use Rattle.std.specs.Prelude.{◌≡◌, ℕ, ◌+◌, ◌<◌, ◌≤◌, List, [], length, map, take, drop, Option, Some, Result, Ok, Err, option_map, unwrap_or}
use Rattle.std.specs.{List.find, Str.bytes_eq}
use Rattle.w16_store.specs.declared.disk.DiskFailure.{DiskFailure}

-- the bytes of the file of exactly this name
unfoldable pub content_of : List (List ℕ × List ℕ) → List ℕ → Option (List ℕ)
content_of held name = option_map (λ f. f.1) (find (λ f. bytes_eq f.0 name) held)

-- The files that a folder holds under these names, in their order. A name is listed whatever becomes of its file: one that is gone has no bytes.
unfoldable pub listed : List (List ℕ) → List (List ℕ × List ℕ) → List (List ℕ × List ℕ)
listed names held = map (λ n. (n, unwrap_or (content_of held n) [])) names

-- Reading a file of a folder is honest: the answer is its length, and where the file has bytes for all of the buffer these are they; or the
-- system failed, and then the count of failures rose.
abbrev pub IsHonestRead : ℕ → ℕ → Result ℕ DiskFailure → Option (List ℕ) → ℕ → List ℕ → List ℕ → Type 0
IsHonestRead before after (Ok len) file at old new =
    (bytes : List ℕ) × (file ≡ Some bytes) × (len ≡ length bytes) × (at + length old ≤ length bytes → new ≡ take (length old) (drop at bytes))
IsHonestRead before after (Err failure) file at old new = before < after
