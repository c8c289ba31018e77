-- What the definitions of relocation come to.
use Rattle.std.specs.Prelude.{◌≡◌, ℕ, ◌<◌, ◌≤◌, List, [], length, Ok, Err, All}
use Rattle.w16_reloc.specs.Images.{byte, patches, image_at, IsImage}
use Rattle.w16_reloc.specs.{declared.fault.RelocFault.RelocFault, declared.record.Record.Record, declared.value.Far.Far, Records.Offer, Sound.IsSound, Sound.IsSoundSegment, Faults.IsFirstFault, Check.check_from, Naming.naming, Naming.image_of, Apply.over_each}

-- A check that passes has found a sound segment, and passes every sound one.
abbrev pub PassedLaw : Type 0
PassedLaw = (offer : Offer) (bytes table : List ℕ) (count : ℕ) (records : List Record) → check_from offer bytes table count 0 [] ≡ Ok records → IsSoundSegment offer bytes table count records

abbrev pub SoundLaw : Type 0
SoundLaw = (offer : Offer) (bytes table : List ℕ) (count : ℕ) (records : List Record) → IsSoundSegment offer bytes table count records → check_from offer bytes table count 0 [] ≡ Ok records

-- A check that fails has found the first fault.
abbrev pub FaultLaw : Type 0
FaultLaw = (offer : Offer) (bytes table : List ℕ) (count : ℕ) (e : RelocFault) → check_from offer bytes table count 0 [] ≡ Err e → IsFirstFault offer bytes table count e

-- The values of a sound segment, written one after another, are the image offset by offset.
abbrev pub WrittenLaw : Type 0
WrittenLaw = (file : List ℕ) (records : List Record) (values : List Far) (named : List (List ℕ)) (o : ℕ) → length records ≡ length values → IsSound file records named
    → over_each (patches file records values named) (byte file) o ≡ image_at (patches file records values named) (byte file) o

-- A segment that is fetched twice has the same bytes.
abbrev pub FetchedLaw : Type 0
FetchedLaw = (file : List ℕ) (records : List Record) (values : List Far) (named others : List (List ℕ)) (first second : List ℕ) → IsSound file records named → IsSound file records others
    → IsImage file records values named first → IsImage file records values others second → length first ≡ length second → first ≡ second

-- A sound segment names what the function says, and nothing else.
abbrev pub NamingLaw : Type 0
NamingLaw = (file : List ℕ) (records : List Record) (named : List (List ℕ)) → IsSound file records named → named ≡ naming file records

-- Bytes that are its image are those of the function.
abbrev pub ImageLaw : Type 0
ImageLaw = (file : List ℕ) (records : List Record) (values : List Far) (named : List (List ℕ)) (bytes : List ℕ) → IsSound file records named → IsImage file records values named bytes
    → bytes ≡ image_of file records values (length bytes)

-- And those of the function are its image, where the data have room.
abbrev pub ImageOfLaw : Type 0
ImageOfLaw = (file : List ℕ) (records : List Record) (values : List Far) (named : List (List ℕ)) (size : ℕ) → length records ≡ length values → IsSound file records named → length file ≤ size
    → IsImage file records values named (image_of file records values size)

-- a value of words
abbrev pub IsFar : Far → Type 0
IsFar far = (far.selector < 65536) × (far.offset < 65536)

-- An image of bytes and words has bytes.
abbrev pub ImageBytesLaw : Type 0
ImageBytesLaw = (file : List ℕ) (records : List Record) (values : List Far) (size : ℕ) → All (λ b. b < 256) file → All IsFar values → All (λ b. b < 256) (image_of file records values size)
