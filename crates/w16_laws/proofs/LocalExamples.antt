-- Local heaps worked out by hand: where they may begin, names, flags, and the room of small heaps.
use Rattle.w16_machine.proofs
use proofs.Common as C
use proofs.Common.{◌≡◌, ℕ, true, false, [], ◌∷◌, Some, None, refl, Block, Hold, Pinned, Loose, Kind, Fixed, Moveable, Discardable, Snapshot, snapshot, prefix_for, room, Heap, range_in, rounded_up, name_of, local_kind, local_options, local_flags_of, lock_refused, is_absent_asked}
use Rattle.std.specs.FinMap as finmap
use Rattle.w16_model.specs.declared.Refusal.TheVariants as refusals

-- Where a heap may begin in a segment of 64 bytes.

whole : range_in 64 4 64 ≡ Some (record { from = 4; to = 64 })
whole = refl

-- start and end are tested as given, and then rounded into the segment
inner : range_in 64 5 63 ≡ Some (record { from = 8; to = 60 })
inner = refl

low : range_in 64 3 64 ≡ None
low = refl

zero : range_in 64 0 64 ≡ None
zero = refl

over : range_in 64 4 65 ≡ None
over = refl

-- one grain is a range, and none isn't
one_grain : range_in 64 60 64 ≡ Some (record { from = 60; to = 64 })
one_grain = refl

no_grain : range_in 64 61 64 ≡ None
no_grain = refl

less_than_one : range_in 64 4 7 ≡ None
less_than_one = refl

backwards : range_in 64 32 16 ≡ None
backwards = refl

-- near pointers are words, however long the segment is
last : range_in 65536 4 65536 ≡ Some (record { from = 4; to = 65536 })
last = refl

past_words : range_in 131072 4 65537 ≡ None
past_words = refl

-- Sizes, names and flags.

sizes : (rounded_up 0 ≡ 0) × (rounded_up 1 ≡ 4) × (rounded_up 10 ≡ 12) × (rounded_up 65535 ≡ 65536)
sizes = (refl, refl, refl, refl)

abbrev object_of : Kind → C.Object
object_of kind = record { kind = kind; locks = 0; bytes = Some (7 ∷ []) }

-- a moveable or discardable object is named by its entry, wherever it stands, and a fixed one by its place
first_entry : (heap : Heap) → name_of heap 0 (object_of Moveable) ≡ Some 2
first_entry heap = refl

third_entry : (heap : Heap) → name_of heap 2 (object_of Discardable) ≡ Some 10
third_entry heap = refl

last_entry : (heap : Heap) → name_of heap 1023 (object_of Moveable) ≡ Some 4094
last_entry heap = refl

by_place : (heap : Heap) (id : ℕ) → name_of heap id (object_of Fixed) ≡ finmap.get heap.places id
by_place heap id = refl

-- any of the four bits makes an object discardable, beside LMEM_MOVEABLE; LMEM_DISCARDED isn't looked at
kinds : (local_kind 3906 ≡ Discardable) × (local_kind 2050 ≡ Discardable) × (local_kind 16386 ≡ Moveable) × (local_kind 3840 ≡ Fixed)
kinds = (refl, refl, refl, refl)

modified : (C.moveable_or_discardable 256 ≡ Discardable) × (C.moveable_or_discardable 2 ≡ Moveable)
modified = (refl, refl)

ways : (local_options 66 ≡ record { compact = true; discard = true; zero = true; may_move = true }) × (local_options 48 ≡ record { compact = false; discard = false; zero = false; may_move = false })
ways = (refl, refl)

flags : (local_flags_of (record { kind = Discardable; locks = 3; bytes = Some (7 ∷ []) }) ≡ 3843) × (local_flags_of (record { kind = Discardable; locks = 0; bytes = None }) ≡ 20224) × (local_flags_of (object_of Fixed) ≡ 0)
flags = (refl, refl, refl)

absent : (is_absent_asked 2 0 ≡ true) × (is_absent_asked 0 0 ≡ false) × (is_absent_asked 2 1 ≡ false)
absent = (refl, refl, refl)

-- a fixed object's pointer is answered without a lock; a full count and an object without bytes have none
locks : (lock_refused 28 refusals.Fixed ≡ 28) × (lock_refused 28 refusals.LockFull ≡ 0) × (lock_refused 28 refusals.Absent ≡ 0)
locks = (refl, refl, refl)

-- Room over [16, 128), where an object of 12 bytes was freed below two of 8.

abbrev block : ℕ → ℕ → ℕ → Hold → Block
block id at size hold = record { id = id; at = at; size = size; hold = hold }

-- the second is locked: the gap behind it is the longest, less the third
locked_room : room 16 128 (block 1 28 8 Pinned ∷ block 2 36 8 Loose ∷ []) ≡ 84
locked_room = refl

-- none is: all that isn't theirs
unlocked_room : room 16 128 (block 1 28 8 Loose ∷ block 2 36 8 Loose ∷ []) ≡ 96
unlocked_room = refl

-- Over [4, 64) a fixed object of 12 bytes, a discardable one of 8 and a moveable one of 40, with no byte free.

abbrev full : Snapshot
full = snapshot 4 64 (block 0 4 12 Pinned ∷ block 1 16 8 Loose ∷ block 2 24 40 Loose ∷ []) (1 ∷ [])

-- 4 bytes more cost the discard, and without one there is no room
one_discard : (C.needed full 4 None ≡ Some 1) × (prefix_for full 4 None (local_options 34) ≡ None) × (prefix_for full 4 None (local_options 18) ≡ None)
one_discard = (refl, refl, refl)

-- what no discard makes free is refused
too_much : C.needed full 52 None ≡ None
too_much = refl

-- Once the new object stands behind it the fixed one doesn't grow where it stands. With LMEM_MOVEABLE it gets the 4 bytes that are free,
-- since all may slide, and no more.
abbrev after : Snapshot
after = snapshot 4 64 (block 0 4 12 Pinned ∷ block 3 16 4 Loose ∷ block 2 24 40 Loose ∷ []) []

no_growth : (C.fits_in_place after 16 0 ≡ false) × (C.growth_for after 16 0 (local_options 2) ≡ Some 0) × (C.growth_for after 20 0 (local_options 2) ≡ None)
no_growth = (refl, refl, refl)

-- A heap with a moveable object of 40 bytes, which ends at 64 where its segment does: 40 more have no room in it, and have some where it ends at 96.
-- Behind a fixed object of that size 96 more have none where it ends at 160, and have some where it ends at 192.

abbrev one : ℕ → Snapshot
one end = snapshot 4 end (block 0 4 40 Loose ∷ []) []

grown_once : (prefix_for (one 64) 40 (Some 1) (local_options 32) ≡ None) × (prefix_for (one 96) 40 (Some 1) (local_options 32) ≡ Some 0)
grown_once = (refl, refl)

abbrev two : ℕ → Snapshot
two end = snapshot 4 end (block 0 4 40 Loose ∷ block 1 44 40 Pinned ∷ []) []

grown_twice : (prefix_for (two 96) 96 (Some 2) (local_options 0) ≡ None) × (prefix_for (two 160) 96 (Some 2) (local_options 0) ≡ None) × (prefix_for (two 192) 96 (Some 2) (local_options 0) ≡ Some 0)
grown_twice = (refl, refl, refl)

-- with LMEM_NODISCARD no object of the global heap is discarded for it either
growths : (C.growth_flags (local_options 0) ≡ 0) × (C.growth_flags (local_options 32) ≡ 32)
growths = (refl, refl)
