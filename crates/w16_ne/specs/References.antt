-- Module references: words, each the offset of a length byte and a text from the start of the imported names (volume 4).
use Rattle.w16_ne.specs
use Rattle.std.specs.Prelude.{ℕ, ◌+◌, ◌*◌, List, [], length, Option, Ok, Err, ◌==◌, if◌then◌else◌, slice_index}
use Rattle.std.specs.List.{list_any}
use specs.declared.fault.NeFault.{NeFault}
use specs.declared.fault.NeFault.TheVariants.{Truncated, BadTable}
use specs.Reading.{Reading, ◌>>=◌, bytes_or, word_of, each}
use specs.Header.{reference_count, reference_table, imported_names}

-- a length byte and so many bytes of text
unfoldable pub text_at : NeFault → Option (List ℕ) → ℕ → Reading (List ℕ)
text_at short file at = do
  len ← bytes_or short file at 1
  bytes_or short file (at + 1) (slice_index len 0)

-- so many texts, by the words of a table
unfoldable pub texts_at : Option (List ℕ) → ℕ → List ℕ → ℕ → Reading (List (List ℕ))
texts_at file names table count = each (λ i. text_at Truncated file (names + word_of table (2 * i))) count 0

-- the references: a table of none is nowhere past the file's end, and no name may be empty, which is asked once all were read
unfoldable pub references_at : Option (List ℕ) → ℕ → List ℕ → Reading (List (List ℕ))
references_at file ne header = if reference_count header == 0 then Ok [] else do
  table ← bytes_or Truncated file (ne + reference_table header) (2 * reference_count header)
  texts ← texts_at file (ne + imported_names header) table (reference_count header)
  if list_any (λ text. length text == 0) texts then Err BadTable else Ok texts
