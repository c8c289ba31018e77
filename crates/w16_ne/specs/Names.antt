-- Tables of names: an entry is a length byte, the text and an ordinal word; a length of 0 ends the table (volume 4).
use Rattle.w16_ne.specs
use Rattle.std.specs.Prelude.{◌≡◌, ℕ, zero, suc, ◌+◌, List, [], ◌∷◌, length, take, drop, Vec, Option, Some, None, Ok, Err, ◌==◌, nat_lt, nat_le, ◌||◌, if◌then◌else◌, slice_index, option_map, unwrap_or}
use Rattle.std.specs.{List.find, Str.bytes_eq, Str.str_to_ascii_uppercase}
use Rattle.indexmap.specs.IndexMap.{IndexMap, get_by}
use Rattle.w16_store.specs.Names.{is_named}
use specs.declared.fault.NeFault.TheVariants.{Truncated, BadTable}
use specs.Reading.{Reading, ◌>>=◌, bytes_or, front_at, length_at, word_of}
use specs.{declared.name_piece.TheConstants.PIECE, declared.name_piece.Found.Found, declared.name_piece.Piece.Piece, declared.names.Place.Place, Header.resident_names, Header.nonresident_names, Header.nonresident_length}

-- a text and its ordinal
abbrev pub Entry : Type 0
Entry = List ℕ × ℕ

-- how many bytes it takes
abbrev pub size : Entry → ℕ
size e = length e.0 + 3

-- The resident names go on to a length of 0.

-- the entry at an offset, or none where the table ends
unfoldable pub name_at : Option (List ℕ) → ℕ → Reading (Option Entry)
name_at file at = do
  len ← bytes_or Truncated file at 1
  if slice_index len 0 == 0 then Ok None else do
    rest ← bytes_or Truncated file (at + 1) (slice_index len 0 + 2)
    Ok (Some (take (slice_index len 0) rest, word_of rest (slice_index len 0)))

-- at most so many entries from an offset on: as many as the file has bytes are enough
abbrev pub names_from : Option (List ℕ) → ℕ → ℕ → Reading (List Entry)
names_from file zero at = Err Truncated
names_from file (suc n) at = do
  found ← name_at file at
  elim found [ None ↦ Ok [] | Some e ↦ names_from file n (at + size e) >>= λ others. Ok (e ∷ others) ]

-- a piece of the file: its bytes from an offset on, up to its end or to 1,024 of them
abbrev pub piece_at : Option (List ℕ) → ℕ → Reading (List ℕ)
piece_at file at = front_at PIECE file at

-- a piece of a file of so many bytes
abbrev pub IsPiece : {A : Type 0} → Option (List ℕ) → ℕ → Piece A → Type 0
IsPiece file len p = (length_at file ≡ Ok len) × (piece_at file p.at ≡ Ok p.bytes.items)

-- the entry that was found in such bytes
abbrev pub found_in : List ℕ → Found → Entry
found_in bytes f = (take f.len (drop f.start bytes), f.ordinal)

unfoldable pub names_at : Option (List ℕ) → ℕ → Reading (List Entry)
names_at file at = do
  len ← length_at file
  names_from file len at

-- the first is the module's name, and the others are names of entries
unfoldable pub resident_at : Option (List ℕ) → ℕ → List ℕ → Reading (List Entry)
resident_at file ne header = do
  names ← names_at file (ne + resident_names header)
  if length names == 0 then Err BadTable else Ok names

-- The nonresident names end at a length of 0 or at their length.

-- at most so many entries in bytes, from an index on
abbrev pub names_in : List ℕ → ℕ → ℕ → Reading (List Entry)
names_in table zero at = Ok []
names_in table (suc n) at =
    let len = slice_index table at in
    if nat_le (length table) at || len == 0 then Ok [] else
    if nat_lt (length table) (at + 3 + len) then Err BadTable else do
      others ← names_in table n (at + 3 + len)
      Ok ((take len (drop (at + 1) table), word_of table (at + 1 + len)) ∷ others)

-- there are fewer entries than bytes
unfoldable pub table_names : List ℕ → Reading (List Entry)
table_names table = names_in table (length table) 0

-- the first is the module's description, and the others are names of entries
unfoldable pub nonresident_at : Option (List ℕ) → List ℕ → Reading (List Entry)
nonresident_at file header = if nonresident_length header == 0 then Ok [] else do
  table ← bytes_or Truncated file (nonresident_names header) (nonresident_length header)
  table_names table

-- Of equal names the first counts, also where its ordinal is 0; 0 where no name is equal.
abbrev pub ordinal_in : List Entry → List ℕ → ℕ
ordinal_in names name = unwrap_or (option_map (λ e. e.1) (find (λ e. is_named e.0 name) names)) 0

-- A map from texts finds the names: under a name, upper-cased, it has the ordinal of the first that is equal.
abbrev pub Finds : {Z S : Type 0} → IndexMap (Vec ℕ Z) ℕ S → List Entry → Type 0
Finds map names = (name : List ℕ) → get_by (λ text. bytes_eq (str_to_ascii_uppercase name) text.items) map ≡ option_map (λ e. e.1) (find (λ e. is_named e.0 name) names)

-- the text of a table's first name; empty where it has none
abbrev pub first_text : List Entry → List ℕ
first_text [] = []
first_text (e ∷ es) = e.0

-- the name at a place among texts
abbrev pub at_place : List ℕ → Place → Entry
at_place texts p = (take p.len (drop p.start texts), p.ordinal)
