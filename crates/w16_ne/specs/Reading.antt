-- Parts of a file, and the first fault that is met where one isn't there. A file is none where the store has no such file.
use Rattle.std.specs.Prelude.{◌≡◌, ℕ, zero, suc, ◌+◌, ◌*◌, ◌<◌, Bool, false, List, [], ◌∷◌, length, take, drop, Option, Some, None, Result, Ok, Err, nat_lt, if◌then◌else◌, slice_index}
use Rattle.w16_store.specs.{declared.store.StoreFault.StoreFault, Later.is_device}
use Rattle.w16_ne.specs.declared.fault.NeFault.{NeFault}
use Rattle.w16_store.specs.declared.store.StoreFault.TheVariants as stores
use Rattle.w16_ne.specs.declared.fault.NeFault.TheVariants as faults

-- a fault of the store's device
abbrev pub is_ne_device : NeFault → Bool
is_ne_device (faults.Store e) = is_device e
is_ne_device other = false

-- what is read, or the first fault
abbrev pub Reading : Type 0 → Type 0
Reading Y = Result Y NeFault

infixl 10 ◌>>=◌
abbrev pub ◌>>=◌ : {A B : Type 0} → Reading A → (A → Reading B) → Reading B
(Ok x) >>= f = f x
(Err e) >>= f = Err e

-- a fault of the file, and none of the store
abbrev pub IsOfFile : NeFault → Type 0
IsOfFile (faults.Store e) = ⊥
IsOfFile faults.OutOfMemory = ⊥
IsOfFile e = Unit {0}

-- What a function answered, seen by view, is what is read of the file. A fault of the store is answered only where there is no such file, or
-- where the device failed in the call, which its count of failures before and after tells. Want of memory says nothing of the file.
abbrev pub IsStoreFault : Option (List ℕ) → ℕ → ℕ → StoreFault → Type 0
IsStoreFault file before after stores.Device = before < after
IsStoreFault file before after stores.Missing = file ≡ None
IsStoreFault file before after stores.Short = ⊥

abbrev pub Refuses : {Y : Type 0} → Option (List ℕ) → ℕ → ℕ → NeFault → Reading Y → Type 0
Refuses file before after faults.OutOfMemory read = Unit {0}
Refuses file before after (faults.Store e) read = IsStoreFault file before after e
Refuses file before after e read = read ≡ Err e

abbrev pub Gives : {X Y : Type 0} → (X → Y) → Option (List ℕ) → ℕ → ℕ → Result X NeFault → Reading Y → Type 0
Gives view file before after (Ok x) read = read ≡ Ok (view x)
Gives view file before after (Err e) read = Refuses file before after e read

-- A fault that says nothing of the file: there was no memory, or the device failed.
abbrev pub IsFailure : ℕ → ℕ → NeFault → Type 0
IsFailure before after faults.OutOfMemory = Unit {0}
IsFailure before after (faults.Store stores.Device) = before < after
IsFailure before after other = ⊥

-- the same, where what a function answered and what is read are related
abbrev pub GivesSuch : {X Y : Type 0} → (X → Y → Type 0) → Option (List ℕ) → ℕ → ℕ → Result X NeFault → Reading Y → Type 0
GivesSuch {X} {Y} IsSuch file before after (Ok x) read = (y : Y) × (read ≡ Ok y) × IsSuch x y
GivesSuch IsSuch file before after (Err e) read = Refuses file before after e read

-- the same of a function over bytes that were read: it may want memory
abbrev pub Refused : {Y : Type 0} → NeFault → Reading Y → Type 0
Refused faults.OutOfMemory read = Unit {0}
Refused (faults.Store e) read = ⊥
Refused e read = read ≡ Err e

abbrev pub Tells : {X Y : Type 0} → (X → Y) → Result X NeFault → Reading Y → Type 0
Tells view (Ok x) read = read ≡ Ok (view x)
Tells view (Err e) read = Refused e read

abbrev pub TellsSuch : {X Y : Type 0} → (X → Y → Type 0) → Result X NeFault → Reading Y → Type 0
TellsSuch {X} {Y} IsSuch (Ok x) read = (y : Y) × (read ≡ Ok y) × IsSuch x y
TellsSuch IsSuch (Err e) read = Refused e read

-- n bytes at an offset, or this fault where the file ends before
abbrev pub bytes_or : NeFault → Option (List ℕ) → ℕ → ℕ → Reading (List ℕ)
bytes_or short None at n = Err (faults.Store stores.Missing)
bytes_or short (Some file) at n = if nat_lt (length file) (at + n) then Err short else Ok (take n (drop at file))

-- its bytes from an offset on, up to its end or to so many of them
abbrev pub front_at : ℕ → Option (List ℕ) → ℕ → Reading (List ℕ)
front_at most None at = Err (faults.Store stores.Missing)
front_at most (Some file) at = Ok (take most (drop at file))

-- the file's length; its bytes up to an end are there
abbrev pub length_at : Option (List ℕ) → Reading ℕ
length_at None = Err (faults.Store stores.Missing)
length_at (Some file) = Ok (length file)

abbrev pub reaches : Option (List ℕ) → ℕ → Reading (Unit {0})
reaches None end = Err (faults.Store stores.Missing)
reaches (Some file) end = if nat_lt (length file) end then Err faults.Truncated else Ok tt

-- little-endian numbers at an index of bytes that were cut from the file
abbrev pub word_of : List ℕ → ℕ → ℕ
word_of bytes at = slice_index bytes at + 256 * slice_index bytes (at + 1)

abbrev pub dword_of : List ℕ → ℕ → ℕ
dword_of bytes at = word_of bytes at + 65536 * word_of bytes (at + 2)

-- n items by number, from number i on: all of them, or the first fault
abbrev pub each : {T : Type 0} → (ℕ → Reading T) → ℕ → ℕ → Reading (List T)
each item zero i = Ok []
each item (suc n) i = do
  first ← item i
  others ← each item n (i + 1)
  Ok (first ∷ others)
