-- Files by name, and what an honest store answers about them.
use Rattle.std.specs.Prelude.{◌≡◌, ℕ, ◌+◌, ◌<◌, List, length, take, drop, nat_lt, if◌then◌else◌, Option, Some, None, IfSome, All, Result, Ok, Err, option_map}
use Rattle.std.specs.List.{find}
use Rattle.w16_store.specs.declared.store.StoreFault.TheVariants.{Missing, Short, Device}
use Rattle.w16_store.specs.{declared.store.StoreFault.StoreFault, Names.is_named}

-- the bytes of the file of a name, if there is one; of equal names the first counts
unfoldable pub file_of : List (List ℕ × List ℕ) → List ℕ → Option (List ℕ)
file_of files name = option_map (λ f. f.1) (find (λ f. is_named f.0 name) files)

-- What is to be answered about a file, if there is one: n bytes at an offset, its length.
abbrev pub bytes_of : Option (List ℕ) → ℕ → ℕ → Result (List ℕ) StoreFault
bytes_of None at n = Err Missing
bytes_of (Some file) at n = if nat_lt (length file) (at + n) then Err Short else Ok (take n (drop at file))

abbrev pub length_of : Option (List ℕ) → Result ℕ StoreFault
length_of None = Err Missing
length_of (Some file) = Ok (length file)

-- An answer, its value seen by view, is honest: it is what is to be answered, or the device failed, and then the count of failures rose.
abbrev pub IsHonestFault : {Y : Type 0} → ℕ → ℕ → StoreFault → Result Y StoreFault → Type 0
IsHonestFault before after Device said = before < after
IsHonestFault before after Missing said = said ≡ Err Missing
IsHonestFault before after Short said = said ≡ Err Short

abbrev pub IsHonestAnswer : {X Y : Type 0} → (X → Y) → ℕ → ℕ → Result X StoreFault → Result Y StoreFault → Type 0
IsHonestAnswer view before after (Ok x) said = said ≡ Ok (view x)
IsHonestAnswer view before after (Err fault) said = IsHonestFault before after fault said

-- a fault says that there is no file only where there is none
abbrev pub IsMissing : Option (List ℕ) → StoreFault → Type 0
IsMissing file fault = fault ≡ Missing → file ≡ None

-- the new files are the old ones, but that the file of this name has these bytes
abbrev pub AreWith : List ℕ → List ℕ → List (List ℕ × List ℕ) → List (List ℕ × List ℕ) → Type 0
AreWith name bytes old new = (n : List ℕ) → file_of new n ≡ (if is_named name n then Some bytes else file_of old n)

-- the new files are the old ones without that of this name
abbrev pub AreWithout : List ℕ → List (List ℕ × List ℕ) → List (List ℕ × List ℕ) → Type 0
AreWithout name old new = (n : List ℕ) → file_of new n ≡ (if is_named name n then None else file_of old n)

-- a file, if there is one, has bytes
abbrev pub HasBytes : Option (List ℕ) → Type 0
HasBytes file = IfSome file (λ bytes. All (λ b. b < 256) bytes)
