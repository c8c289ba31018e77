-- How many discards make room: over the blocks of a heap and its order of use. A request is about an object h, or about none.
use Rattle.std.specs.Prelude.{ℕ, ◌+◌, Bool, true, false, not, ◌&&◌, ◌||◌, ◌==◌, if◌then◌else◌, nat_le, List, length, take, filter, find, Option, Some, None}
use Rattle.std.specs.List.{list_any, range_with_len}
use Rattle.w16_model.specs.{declared.Block.Block, declared.RoomOptions.RoomOptions, Gap.is_pinned, Gap.room, Gap.longest_hole, Gap.hole_after, Gap.block_end}

abbrev pub is_member : ℕ → List ℕ → Bool
is_member id ids = list_any (λ q. q == id) ids

-- whether the request is about this object
abbrev pub is_about : Option ℕ → ℕ → Bool
is_about (Some h) id = id == h
is_about None id = false

abbrev pub is_pinned_id : List Block → ℕ → Bool
is_pinned_id xs id = list_any (λ x. x.id == id && is_pinned x) xs

-- what a request about h may discard, oldest first: the members of the order of use that aren't locked, h left out
-- (GlobalAlloc: discardable objects are discarded by least recent use; GlobalLock keeps one from it)
abbrev pub eligible : List Block → List ℕ → Option ℕ → List ℕ
eligible xs order h = filter (λ id. not (is_pinned_id xs id) && not (is_about h id)) order

-- the blocks without these and without h
abbrev pub blocks_without : List Block → List ℕ → Option ℕ → List Block
blocks_without xs ids h = filter (λ x. not (is_member x.id ids || is_about h x.id)) xs

-- A heap's bounds, its blocks and its order of use.
pub record Snapshot : Type 0 where
  pub lo : ℕ
  pub hi : ℕ
  pub blocks : List Block
  pub order : List ℕ

abbrev pub snapshot : ℕ → ℕ → List Block → List ℕ → Snapshot
snapshot lo hi blocks order = record { lo = lo; hi = hi; blocks = blocks; order = order }

-- the room where h and the first k eligible aren't counted
abbrev pub room_for : Snapshot → ℕ → Option ℕ → ℕ
room_for s k h = room s.lo s.hi (blocks_without s.blocks (take k (eligible s.blocks s.order h)) h)

-- the least number of discards that makes room for n bytes, if there is one (profile: no more is discarded than has to be)
abbrev pub needed : Snapshot → ℕ → Option ℕ → Option ℕ
needed s n h = find (λ k. nat_le n (room_for s k h)) (range_with_len 0 (length (eligible s.blocks s.order h) + 1))

abbrev pub none_discarded_if : Bool → Option ℕ
none_discarded_if true = Some 0
none_discarded_if false = None

-- The number of discards by which a request of n bytes is answered, if it is. GMEM_NOCOMPACT: nothing moves or is discarded, a hole has
-- to be there; it decides over GMEM_NODISCARD, under which others may slide but none is discarded.
abbrev pub prefix_for : Snapshot → ℕ → Option ℕ → RoomOptions → Option ℕ
prefix_for s n h options =
    if not options.compact then none_discarded_if (nat_le n (longest_hole s.lo s.hi s.blocks))
    else (if not options.discard then none_discarded_if (nat_le n (room_for s 0 h)) else needed s n h)

-- Growth of an object h that has bytes, to n.

-- whether the hole directly after it is long enough
abbrev pub fits_in_place : Snapshot → ℕ → ℕ → Bool
fits_in_place s n h = elim (find (λ x. x.id == h) s.blocks) [
  | Some x ↦ nat_le n (x.size + hole_after s.hi s.blocks (block_end x))
  | None ↦ false
]

-- The number of discards by which it grows, if it may move and does: h is loose for this, and not counted. With GMEM_NOCOMPACT it fits where
-- it stands, or in a hole of the new size.
abbrev pub growth_for : Snapshot → ℕ → ℕ → RoomOptions → Option ℕ
growth_for s n h options =
    if options.compact then prefix_for s n (Some h) options
    else none_discarded_if (fits_in_place s n h || nat_le n (longest_hole s.lo s.hi s.blocks))
