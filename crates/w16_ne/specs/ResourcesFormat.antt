-- Where resources lie, their types and their ids (volume 4).
use Rattle.std.specs.Prelude.{◌≡◌, ◌≢◌, ◌<◌, ◌≤◌, ℕ, ◌+◌, ◌*◌, ◌^◌, ◌⊎◌, List, [], ◌∷◌, length}
use Rattle.w16_ne.specs.Resources.{Label, Number, Text, Entry, Typed, resource_count, filled}
use Rattle.w16_ne.specs.{Reading.word_of, Header.resource_table, Header.resident_names, ReferencesFormat.IsText}

-- what a type word or an id word says: with bit 15 a number, and without it the offset of a text from the table's start
abbrev pub IsLabel : List ℕ → ℕ → ℕ → Label → Type 0
IsLabel file table word (Number value) = word ≡ 0x8000 + value
IsLabel file table word (Text text) = (word < 0x8000) × IsText file (table + word) text

-- A resource by its 12 bytes at an offset: where its bytes lie and how many they are stands in units. Less than a unit of them may be missing
-- at the file's end (profile).
pub record IsResource (file : List ℕ) (table shift at : ℕ) (r : Entry) : Type 0 where
  pub inside : at + 12 ≤ length file
  pub place : r.place ≡ word_of file at * 2 ^ shift
  pub len : r.len ≡ word_of file (at + 2) * 2 ^ shift
  pub flags : r.flags ≡ word_of file (at + 4)
  pub id : IsLabel file table (word_of file (at + 6)) r.id
  pub placed : (r.len ≡ 0) ⊎ (r.place + r.len < length file + 2 ^ shift)

-- resources one directly after the other
abbrev pub AreResources : List ℕ → ℕ → ℕ → ℕ → List Entry → Type 0
AreResources file table shift at [] = Unit {0}
AreResources file table shift at (r ∷ rs) = IsResource file table shift at r × AreResources file table shift (at + 12) rs

-- a block at an offset: a type word, which isn't 0, a count, a reserved double word, and so many resources
pub record IsBlock (file : List ℕ) (table shift at : ℕ) (t : Typed) : Type 0 where
  pub some : word_of file at ≢ 0
  pub count : word_of file (at + 2) ≡ length t.1
  pub inside : at + 8 + 12 * length t.1 ≤ length file
  pub kind : IsLabel file table (word_of file at) t.0
  pub are : AreResources file table shift (at + 8) t.1

-- blocks one directly after the other, and a type of 0 after the last
abbrev pub AreBlocks : List ℕ → ℕ → ℕ → ℕ → List Typed → Type 0
AreBlocks file table shift at [] = (at + 2 ≤ length file) × (word_of file at ≡ 0)
AreBlocks file table shift at (t ∷ ts) = IsBlock file table shift at t × AreBlocks file table shift (at + 8 + 12 * length t.1) ts

-- A table at an offset: the shift of its units, and blocks, of which those without resources say nothing. There are few enough resources for a
-- word.
pub record IsResourceTable (file : List ℕ) (at : ℕ) (types : List Typed) : Type 0 where
  pub shift : word_of file at ≤ 15
  pub blocks : List Typed
  pub are : AreBlocks file at (word_of file at) (at + 2) blocks
  pub few : resource_count blocks ≤ 65535
  pub filled : types ≡ filled blocks

-- a module has no table where its offset is that of the resident names
abbrev pub HasResources : List ℕ → ℕ → List ℕ → List Typed → Type 0
HasResources file ne header types =
    (resource_table header ≡ resident_names header) × (types ≡ [])
    ⊎ (resource_table header ≢ resident_names header) × IsResourceTable file (ne + resource_table header) types
