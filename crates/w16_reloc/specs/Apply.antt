-- How values are written, one after another, over bytes that were the file's.
use Rattle.w16_reloc.specs
use Rattle.std.specs.Prelude.{◌≡◌, ℕ, ◌+◌, ◌-◌, ◌≤◌, List, [], ◌∷◌, length, nat_lt, nat_le, ◌&&◌, false, if◌then◌else◌, slice_index}
use Rattle.std.specs.List.{list_any}
use specs.Sound.{IsChain, Names, AreNamed, of_width, width_of, all_sites}
use specs.Images.{Patch, byte, stored_at, patches_of, patches}
use specs.{declared.record.Record.Record, declared.value.Far.Far, Sites.Site, Sites.covers, Sites.AreSound}

-- bytes by offset, with a patch written over them, and with several
abbrev pub over : Patch → (ℕ → ℕ) → ℕ → ℕ
over p old o = if nat_le p.at o && nat_lt o (p.at + length p.value) then slice_index p.value (o - p.at) else old o

abbrev pub over_each : List Patch → (ℕ → ℕ) → ℕ → ℕ
over_each [] old o = old o
over_each (p ∷ ps) old o = over_each ps (over p old) o

-- these sites, and before them those
abbrev pub joined : List Site → List Site → List Site
joined before [] = before
joined before (site ∷ sites) = joined (site ∷ before) sites

-- outside these sites the bytes are still the file's
abbrev pub IsFileOutside : List Site → List ℕ → List ℕ → Type 0
IsFileOutside sites file bytes = (o : ℕ) → list_any (covers o) sites ≡ false → byte bytes o ≡ byte file o

-- A record names these offsets, its sites there are sound beside those before it, and nothing was written but there.
pub record IsReady (file bytes : List ℕ) (before : List Site) (r : Record) (ats : List ℕ) : Type 0 where
  pub room : length file ≤ length bytes
  pub names : Names file r ats
  pub sound : AreSound (length file) before (of_width (width_of r) ats)
  pub outside : IsFileOutside before file bytes

-- Its values were written there, and nothing else.
pub record IsWritten (file old new : List ℕ) (before : List Site) (r : Record) (far : Far) (ats : List ℕ) : Type 0 where
  pub each : (o : ℕ) → byte new o ≡ over_each (patches_of file r far ats) (byte old) o
  pub outside : IsFileOutside (joined before (of_width (width_of r) ats)) file new

-- A chain is still to be walked from an offset on, in so many turns at most: it goes on so in the file, outside the sites before it the bytes
-- are the file's, and with its value at each offset to come they are as they shall be.
pub record IsWalked (file : List ℕ) (width : ℕ) (value : List ℕ) (last : List Site) (total : ℕ → ℕ) (turns at : ℕ) (bytes : List ℕ) : Type 0 where
  pub before : List Site
  pub ats : List ℕ
  pub room : length file ≤ length bytes
  pub few : length ats ≤ turns
  pub chain : IsChain file at ats
  pub sound : AreSound (length file) before (of_width width ats)
  pub ends : joined before (of_width width ats) ≡ last
  pub outside : IsFileOutside before file bytes
  pub each : (o : ℕ) → over_each (stored_at value ats) (byte bytes) o ≡ total o

-- Records are still to be written, with the same said of them all.
pub record IsOpen (file : List ℕ) (total : ℕ → ℕ) (records : List Record) (values : List Far) (bytes : List ℕ) : Type 0 where
  pub before : List Site
  pub named : List (List ℕ)
  pub room : length file ≤ length bytes
  pub names : AreNamed file records named
  pub sound : AreSound (length file) before (all_sites records named)
  pub outside : IsFileOutside before file bytes
  pub each : (o : ℕ) → over_each (patches file records values named) (byte bytes) o ≡ total o
