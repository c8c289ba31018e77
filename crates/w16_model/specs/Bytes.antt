-- Words on a list of bytes.
use Rattle.std.specs.Prelude.{ℕ, List, ◌++◌, take, drop, length, replicate}

-- the part of `size` bytes that begins at `at`
abbrev pub part : List ℕ → ℕ → ℕ → List ℕ
part bytes at size = take size (drop at bytes)

-- the bytes with the part that begins at `at` replaced by `new`
abbrev pub put_part : List ℕ → ℕ → List ℕ → List ℕ
put_part bytes at new = take at bytes ++ (new ++ drop (length new) (drop at bytes))

-- `size` copies of one byte; a proof does not look inside unless it says so, or a literal size would be written out there
unfoldable pub repeated : ℕ → ℕ → List ℕ
repeated size byte = replicate size byte
