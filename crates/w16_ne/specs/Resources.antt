-- The resource table: a shift word; blocks of a type, each a type word, a count word and a reserved double word, then 12 bytes for each resource:
-- offset, length, flags, id and two reserved words; a type of 0 ends it (volume 4).
use Rattle.w16_ne.specs
use Rattle.std.specs.Prelude.{ℕ, zero, suc, ◌+◌, ◌-◌, ◌*◌, ◌^◌, Bool, false, List, [], ◌∷◌, length, Option, Some, None, Ok, Err, ◌==◌, nat_lt, if◌then◌else◌}
use Rattle.std.specs.List.{sum_by, filter}
use specs.declared.fault.NeFault.TheVariants.{Truncated, BadTable, Unsupported}
use specs.Reading.{Reading, ◌>>=◌, bytes_or, length_at, reaches, word_of, each}
use specs.{declared.resource_places.Resource.Resource, declared.resource_places.ResourceName.ResourceName, declared.resource_blocks.Block.Block, References.text_at, Header.resource_table, Header.resident_names}
use Rattle.w16_store.specs.Names.{is_named}
use Rattle.w16_ne.specs.declared.resource_places.ResourceName.TheVariants as names

-- a type or an id: a number, or a text
pub data Label : Type 0 where
  Number : (value : ℕ) → Label
  Text : (text : List ℕ) → Label

abbrev pub label_of : ResourceName → Label
label_of (names.Number value) = Number value
label_of (names.Text text) = Text text.now

-- whether one is another: the same number, or in any case of letters the same text
abbrev pub is_label : Label → Label → Bool
is_label (Number m) (Number n) = m == n
is_label (Text s) (Text t) = is_named s t
is_label other label = false

-- a resource: its id, the offset and the length of its bytes, and its flags
pub record Entry : Type 0 where
  pub id : Label
  pub place : ℕ
  pub len : ℕ
  pub flags : ℕ

abbrev pub entry_of : Resource → Entry
entry_of r = record { id = label_of r.id; place = r.place; len = r.len; flags = r.flags.0 }

-- the block at an offset, whose resources have to be there, or none where the table ends
unfoldable pub block_at : Option (List ℕ) → ℕ → Reading (Option Block)
block_at file at = do
  kind ← bytes_or Truncated file at 2
  if word_of kind 0 == 0 then Ok None else do
    head ← bytes_or Truncated file at 8
    _ ← reaches file (at + 8 + 12 * word_of head 2)
    Ok (Some (record { kind = word_of head 0; count = word_of head 2; at = at + 8 }))

-- at most so many blocks from an offset on: as many as the file has bytes are enough
abbrev pub blocks_from : Option (List ℕ) → ℕ → ℕ → Reading (List Block)
blocks_from file zero at = Err Truncated
blocks_from file (suc n) at = do
  found ← block_at file at
  elim found [ None ↦ Ok [] | Some b ↦ blocks_from file n (b.at + 12 * b.count) >>= λ others. Ok (b ∷ others) ]

unfoldable pub blocks_at : Option (List ℕ) → ℕ → Reading (List Block)
blocks_at file at = do
  len ← length_at file
  blocks_from file len at

-- Bit 15 says that the other bits are a number; without it they are the offset of a length byte and a text from the table's start.
unfoldable pub label_at : Option (List ℕ) → ℕ → ℕ → Reading Label
label_at file table word = if nat_lt word 0x8000 then (text_at BadTable file (table + word) >>= (λ text. Ok (Text text))) else Ok (Number (word - 0x8000))

-- the resource at an offset; its offset and length are in units (the length so: profile)
unfoldable pub resource_at : Option (List ℕ) → ℕ → ℕ → ℕ → Reading Entry
resource_at file table shift at = do
  bytes ← bytes_or Truncated file at 12
  id ← label_at file table (word_of bytes 6)
  Ok (record { id = id; place = word_of bytes 0 * 2 ^ shift; len = word_of bytes 2 * 2 ^ shift; flags = word_of bytes 4 })

-- the resources of a block
unfoldable pub resources_of : Option (List ℕ) → ℕ → ℕ → Block → Reading (List Entry)
resources_of file table shift block = each (λ i. resource_at file table shift (block.at + 12 * i)) block.count 0

-- A block's type with its resources. The type's text has to be there even where it has none.
abbrev pub Typed : Type 0
Typed = Label × List Entry

unfoldable pub typed_at : Option (List ℕ) → ℕ → ℕ → Block → Reading Typed
typed_at file table shift block = do
  kind ← label_at file table block.kind
  resources ← resources_of file table shift block
  Ok (kind, resources)

-- the resources of all blocks, in the table's order
abbrev pub all_typed : Option (List ℕ) → ℕ → ℕ → List Block → Reading (List Typed)
all_typed file table shift [] = Ok []
all_typed file table shift (b ∷ bs) = do
  first ← typed_at file table shift b
  others ← all_typed file table shift bs
  Ok (first ∷ others)

-- A resource's bytes may end past the file's end by less than a unit; what is missing reads as zeros (profile). One of no bytes is nowhere.
abbrev pub is_placed : Option (List ℕ) → ℕ → Entry → Reading (Unit {0})
is_placed file unit r = if r.len == 0 then Ok tt else reaches file (r.place + r.len - unit + 1)

abbrev pub are_placed : Option (List ℕ) → ℕ → List Entry → Reading (Unit {0})
are_placed file unit [] = Ok tt
are_placed file unit (r ∷ rs) = is_placed file unit r >>= λ _. are_placed file unit rs

abbrev pub are_all_placed : Option (List ℕ) → ℕ → List Typed → Reading (Unit {0})
are_all_placed file unit [] = Ok tt
are_all_placed file unit (t ∷ ts) = are_placed file unit t.1 >>= λ _. are_all_placed file unit ts

abbrev pub resource_count : List Typed → ℕ
resource_count types = sum_by (λ t. length t.1) types

-- Blocks without resources say nothing.
abbrev pub filled : List Typed → List Typed
filled types = filter (λ t. nat_lt 0 (length t.1)) types

-- The faults come kind by kind, over the whole table: what is missing of it, its shift, its texts, the number of resources, their bytes.
unfoldable pub typed_in : Option (List ℕ) → ℕ → ℕ → List Block → Reading (List Typed)
typed_in file table shift blocks = if nat_lt 15 shift then Err BadTable else do
  types ← all_typed file table shift blocks
  if nat_lt 65535 (resource_count types) then Err Unsupported else do
    _ ← are_all_placed file (2 ^ shift) types
    Ok (filled types)

-- the types that have resources, with these; there is no table where its offset is that of the resident names
unfoldable pub resources_at : Option (List ℕ) → ℕ → List ℕ → Reading (List Typed)
resources_at file ne header = if resource_table header == resident_names header then Ok [] else do
  shift ← bytes_or Truncated file (ne + resource_table header) 2
  blocks ← blocks_at file (ne + resource_table header + 2)
  typed_in file (ne + resource_table header) (word_of shift 0) blocks
