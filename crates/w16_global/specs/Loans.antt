-- What a borrower of an object's bytes leaves there.
use Rattle.std.specs.Prelude.{ℕ, ◌%◌, ◌^◌, ◌<◌, List, [], map, unwrap_or}
use Rattle.std.specs.Vec.{with_items}
use Rattle.std.proofs.Common.{subst, sym}
use Rattle.w16_model.specs.{Bytes.part, Bytes.put_part, Far.after_write, Handles.Handles, Heap.Heap, Heap.bytes_at}
use Rattle.w16_region.specs.{Bytes.counted, Bytes.fitted, Bytes.length-with_items, declared.region.Region.Region}
use Rattle.w16_global.specs.{Joined.Global, Parts.HasPart, Parts.Holding, declared.loan.Place.Place}

-- As many bytes as were lent, each below 256: what a slice of bytes can hold is just that.
abbrev pub left_of : List ℕ → List ℕ → List ℕ
left_of old new = map (λ b. b % 256) (fitted old new)

-- a memory of which so many bytes were lent from a place on, with others there
abbrev pub region_after : {Z : Type 0} → ℕ → Region Z → ℕ → List ℕ → Region Z
region_after size r at new = record {
  bytes = with_items r.bytes (put_part r.bytes.items at new);
  written = counted r.written size;
  small = subst (λ k. k < 2 ^ 32) (sym (length-with_items r.bytes (put_part r.bytes.items at new))) r.small;
}

-- so many bytes of an object, from an offset on
abbrev pub bytes_from : Heap → ℕ → ℕ → ℕ → List ℕ
bytes_from heap id at n = part (unwrap_or (bytes_at heap id) []) at n

-- the objects once these are lent, and others are left there
abbrev pub after_lent : ℕ → ℕ → ℕ → Holding → List ℕ → Holding
after_lent id at n h new = record h { heap = after_write h.heap id at (left_of (bytes_from h.heap id at n) new); written = counted h.written n }

-- a place of bytes that are there
abbrev pub IsPlaceIn : Handles → Place → Type 0
IsPlaceIn handles place = HasPart handles.heap place.slot place.at place.count

abbrev pub lent_bytes : Handles → Place → List ℕ
lent_bytes handles place = bytes_from handles.heap place.slot place.at place.count

-- the handles with other bytes at a place
abbrev pub with_bytes_there : Handles → Place → List ℕ → Handles
with_bytes_there handles place new = record handles { heap = after_write handles.heap place.slot place.at new }

-- the global heap once a place is lent, and others are left there
abbrev pub after_loan : Place → Global → List ℕ → Global
after_loan place g new = record g { handles = with_bytes_there g.handles place (left_of (lent_bytes g.handles place) new); written = counted g.written place.count }
