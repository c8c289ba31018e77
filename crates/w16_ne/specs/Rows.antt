-- Resources as a module keeps them: words, and texts that words lead to.
use Rattle.std.specs.Prelude.{◌≡◌, ◌<◌, ℕ, ◌-◌, ◌*◌, ◌^◌, ◌++◌, List, [], ◌∷◌, length, map, take, drop, All, nat_lt, if◌then◌else◌}
use Rattle.std.specs.List.{sum_by}
use Rattle.w16_ne.specs.Resources.{Label, Number, Text, Entry, Typed}
use Rattle.w16_ne.specs.{declared.resource_rows.Row.Row, declared.resource_rows.Group.Group, declared.resource_rows.Rows.Rows, Texts.HasText, Texts.text_in}

-- what a type word or an id word says, and that its text is there
abbrev pub label_in : List ℕ → ℕ → Label
label_in texts word = if nat_lt word 0x8000 then Text (text_in texts word) else Number (word - 0x8000)

abbrev pub HasLabel : List ℕ → ℕ → Type 0
HasLabel texts word = word < 0x8000 → HasText texts word

-- the resource of a row, whose offset and length are in units
abbrev pub entry_in : List ℕ → ℕ → Row → Entry
entry_in texts shift r = record { id = label_in texts r.id; place = r.place * 2 ^ shift; len = r.len * 2 ^ shift; flags = r.flags }

-- the rows of each block, under its type
abbrev pub grouped : List ℕ → ℕ → List Group → List Row → List Typed
grouped texts shift [] rows = []
grouped texts shift (g ∷ gs) rows = (label_in texts g.kind, map (entry_in texts shift) (take g.count rows)) ∷ grouped texts shift gs (drop g.count rows)

abbrev pub total : List Group → ℕ
total groups = sum_by (λ g. g.count) groups

-- the type word of a row's block
abbrev pub kind_at : List Group → ℕ → ℕ
kind_at [] i = 0
kind_at (g ∷ gs) i = if nat_lt i g.count then g.kind else kind_at gs (i - g.count)

-- rows with their blocks, whose texts are there
pub record AreRows {A : Type 0} (texts : List ℕ) (rows : Rows A) : Type 0 where
  pub counted : total rows.groups.items ≡ length rows.rows.items
  pub ids : All (λ r. HasLabel texts r.id) rows.rows.items
  pub kinds : All (λ g. HasLabel texts g.kind) rows.groups.items

-- so many rows more, and what they say
pub record AreAdded (texts : List ℕ) (count : ℕ) (before after : List Row) : Type 0 where
  pub rows : List Row
  pub added : after ≡ before ++ rows
  pub counted : length rows ≡ count
  pub ids : All (λ r. HasLabel texts r.id) rows

pub record AreEntries (texts : List ℕ) (shift : ℕ) (before after : List Row) (entries : List Entry) : Type 0 where
  pub rows : List Row
  pub added : after ≡ before ++ rows
  pub are : entries ≡ map (entry_in texts shift) rows
