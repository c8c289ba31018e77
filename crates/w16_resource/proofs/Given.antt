-- How the object of a resource gets the bytes of a file.
use Rattle.w16_resource.proofs.Common as C
use Rattle.w16_resource.proofs.Common.{Bool, GRAIN, Held, IsWritten, LARGEST_OWNED, List, Ok, [], ap, arith, drop, false, false≢true, length, refl, rounded_size, subst, suc, sym}
use Rattle.w16_resource.proofs.Common.{take, true, zero, ℕ, ◌<◌, ◌==◌, ◌||◌, ◌∙◌, ◌≡◌, ◌≤◌, Store, Owned, Entry, is_long}
use Rattle.w16_reloc.specs.Sound.{IsSound}
use Rattle.w16_loader.specs.Fetching.{GivesOwned}
use Rattle.w16_reloc.specs.declared.fault.RelocFault.TheVariants as relocs
use Rattle.w16_store.specs.declared.store.StoreFault.TheVariants as stores

-- what a file of bytes gives to the object of a resource
abbrev pub bytes_in : List ℕ → Entry → List ℕ
bytes_in file entry = C.padded (take entry.len (drop entry.place file)) (rounded_size entry.len)

-- Where the store is honest: the file of this name has bytes of a resource that may be loaded, and a slot's object is of its size.
pub record IsSourceOf (honest : Type 0) (world : C.LoadingWorld) (name : List ℕ) (slot : ℕ) (entry : Entry) : Type 0 where
  pub truly : honest
  pub file : List ℕ
  pub stored : C.file_of world.files name ≡ C.Some file
  pub short : is_long entry.len ≡ false
  pub inside : entry.place < length file
  pub sized : C.owned_at world.handles slot ≡ C.Some (record { size = rounded_size entry.len; code = false })

-- The object of a resource gets what its file gives it.
abbrev pub GivesSource : Type 0 → C.LoadingWorld → List ℕ → Entry → ℕ → ℕ → C.Option C.FetchFault → C.Handles → Type 0
GivesSource honest old name entry later slot fault new = GivesOwned (IsSourceOf honest old name slot entry)
    (λ bytes. (s : IsSourceOf honest old name slot entry) → bytes ≡ bytes_in s.file entry) old.failures later old.handles slot fault new

-- what was written with no records is the data, and zeros after them
plain_image : (source bytes : List ℕ) (n : ℕ) → length source ≤ length bytes → length bytes ≡ n → IsWritten source [] [] bytes → C.padded source n ≡ bytes
plain_image source bytes n room long is = C.same_lists (C.padded source n) bytes (C.padded_length source n ∙ sym long) (λ k d lt.
    let same = C.padded_length source n in
    let inside : k < length bytes = omega (arith, same, long, lt) in
    C.get_or-map-range_with_len (λ o. C.get_or source o 0) 0 n k k d (omega (arith, same, lt)) (omega arith) ∙ sym (is.image [] sound room k) ∙ C.get_or_default bytes k 0 d inside)
  where
    sound : IsSound source [] []
    sound = (tt, record { inside = C.All-nil _; once = λ o. omega arith })

pub some_bytes : (n : ℕ) → is_long n ≡ false → 0 < n
some_bytes zero e = absurd (false≢true (sym e))
some_bytes (suc n) e = omega arith

pub no_more : (n : ℕ) → is_long n ≡ false → n ≤ 65536
no_more n e = by (C.nat_eq n 0) e
  where
    by : (b : Bool) → (b || C.nat_lt LARGEST_OWNED n) ≡ false → n ≤ 65536
    by true f = absurd (false≢true (sym f))
    by false f = let le = C.ltb-false LARGEST_OWNED n f in let most : LARGEST_OWNED ≡ 65536 = refl in omega (arith, le, most)

pub rounded_up : (n : ℕ) → n ≤ rounded_size n
rounded_up n = let unit : GRAIN ≡ 32 = refl in omega (arith, unit)

-- a file that reaches past the place of a resource has some byte of it
pub has_some : (file : List ℕ) (place n : ℕ) → is_long n ≡ false → place < length file → 0 < length (take n (drop place file))
has_some file place n short inside =
    let some = some_bytes n short in
    let cut = C.length-take n (drop place file) in
    let rest = C.length-drop place file in
    omega (arith, some, cut, rest, inside)

-- what was written is what its file gives it
pub written_resource : {honest : Type 0} {world : C.LoadingWorld} {name : List ℕ} {slot : ℕ} {entry : Entry} (s : IsSourceOf honest world name slot entry) (read : List ℕ)
    → read ≡ take entry.len (drop entry.place s.file) → (bytes : List ℕ) → IsWritten read [] [] bytes
    → C.IsSomeAnd (C.owned_at world.handles slot) (λ w. length bytes ≡ w.size) → bytes ≡ bytes_in s.file entry
written_resource {entry = entry} s read same bytes are sized =
    let long = subst (λ p. C.IsSomeAnd p (λ w. length bytes ≡ w.size)) s.sized sized in
    let cut = C.length-take entry.len (drop entry.place s.file) in
    let up = rounded_up entry.len in
    sym (plain_image (take entry.len (drop entry.place s.file)) bytes (rounded_size entry.len) (omega (arith, cut, up, long)) long (subst (λ bs. IsWritten bs [] [] bytes) same are))

-- a failed read of what is there is the device's
pub failed : {Y : Type 0} (before after : ℕ) (y : Y) (fault : C.RelocFault) → C.Refuses before after fault (Ok y) → C.fetch_fault fault ≡ Store
failed before after y (relocs.Store stores.Device) h = refl
failed before after y (relocs.Store stores.Missing) h = absurd h
failed before after y (relocs.Store stores.Short) h = absurd h
failed before after y relocs.BadRecord h = cc
failed before after y relocs.SiteOutside h = cc
failed before after y relocs.Overlap h = cc

pub read_held : (held now : Held) → ◌≡◌ {A = C.Result Held C.RelocFault} (Ok held) (Ok now) → now.bytes ≡ held.bytes
read_held held now e = let same : held ≡ now = cc in ap (λ (h : Held). h.bytes) (sym same)

-- some bytes that are none
pub none_empty : {A : Type 0} (bytes : List ℕ) → (length bytes == 0) ≡ true → 0 < length bytes → A
none_empty bytes e lt = absurd (let none = C.eqb-true (length bytes) 0 e in omega (arith, none, lt))
