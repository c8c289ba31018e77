-- The holes between two bounds, by address: what is asked of them, and what taking and putting makes of them.
use Rattle.std.specs.Prelude.{◌⊎◌, ℕ, suc, ◌<◌, ◌≤◌, ◌≡◌, ◌+◌, ◌-◌, max, min, nat_lt, nat_le, if◌then◌else◌, ◌==◌, List, [], ◌∷◌, length, map, Option, Some, None, option_map, unwrap_or}
use Rattle.std.specs.List.{find, fold}
use Rattle.w16_model.specs.{declared.Span.Span, Heap.IsMultiple, Bytes.part}

-- between which bounds the holes lie, and of what each place and size is a multiple
pub record Range : Type 0 where
  pub lo : ℕ
  pub hi : ℕ
  pub grain : ℕ

-- the holes of a range
pub record Free : Type 0 where
  pub range : Range
  pub holes : List Span

-- the holes lie in [lo, hi) by address, each has a byte, and no two touch
abbrev pub AreHoles : ℕ → ℕ → List Span → Type 0
AreHoles lo hi [] = Unit {0}
AreHoles lo hi (h ∷ hs) = (lo ≤ h.from) × (h.from < h.to) × (h.to ≤ hi) × AreHoles (suc h.to) hi hs

-- [a, b) lies in one hole
abbrev pub IsFree : ℕ → ℕ → List Span → Type 0
IsFree a b [] = ⊥
IsFree a b (h ∷ hs) = ((h.from ≤ a) × (b ≤ h.to)) ⊎ IsFree a b hs

-- [a, b) meets no hole
abbrev pub IsUsed : ℕ → ℕ → List Span → Type 0
IsUsed a b [] = Unit {0}
IsUsed a b (h ∷ hs) = ((h.to ≤ a) ⊎ (b ≤ h.from)) × IsUsed a b hs

-- What is asked.

abbrev pub size_of : Span → ℕ
size_of h = h.to - h.from

-- where the lowest hole of at least n bytes begins
abbrev pub lowest : ℕ → List Span → Option ℕ
lowest n hs = option_map (λ h. h.from) (find (λ h. nat_le n (size_of h)) hs)

-- the length of the hole that begins at a place, 0 where none does
abbrev pub length_at : ℕ → List Span → ℕ
length_at a [] = 0
length_at a (h ∷ hs) = if h.from == a then size_of h else length_at a hs

-- the length of the hole that ends at a place, 0 where none does
abbrev pub length_to : ℕ → List Span → ℕ
length_to a [] = 0
length_to a (h ∷ hs) = if h.to == a then size_of h else length_to a hs

-- where the last hole begins that begins below a place
abbrev pub last_before : ℕ → List Span → Option ℕ
last_before a [] = None
last_before a (h ∷ hs) = if nat_lt h.from a then Some (unwrap_or (last_before a hs) h.from) else last_before a hs

-- the length of the longest hole, 0 where there is none
abbrev pub longest : List Span → ℕ
longest hs = fold max 0 (map size_of hs)

-- What changes.

-- a list after one more span, if it is not empty
abbrev pub add_span : ℕ → ℕ → List Span → List Span
add_span from to rest = if nat_lt from to then record { from = from; to = to } ∷ rest else rest

-- the holes without [a, b), which lies in one of them
abbrev pub taken : ℕ → ℕ → List Span → List Span
taken a b [] = []
taken a b (h ∷ hs) = if nat_lt a h.to then add_span h.from a (add_span b h.to hs) else h ∷ taken a b hs

-- the holes with [a, b), joined with those that it touches
abbrev pub joined : ℕ → ℕ → List Span → List Span
joined a b [] = record { from = a; to = b } ∷ []
joined a b (h ∷ hs) = if nat_lt h.to a then h ∷ joined a b hs else if nat_lt b h.from then record { from = a; to = b } ∷ h ∷ hs else joined (min a h.from) (max b h.to) hs

-- the holes once n used bytes slid down over free ones: what their new place has beyond the old one is taken, and what the old one has beyond the new is put
abbrev pub slid_down : ℕ → ℕ → ℕ → List Span → List Span
slid_down from to n hs = joined (from + n - min n (from - to)) (from + n) (taken to (to + min n (from - to)) hs)

-- What is asked for: a part of a range, at multiples of its grain.

-- a place in a range, or its end
pub record IsPlace (r : Range) (place : ℕ) : Type 0 where
  pub from : r.lo ≤ place
  pub to : place ≤ r.hi
  pub grained : IsMultiple r.grain place

-- [place, place + n) is a part of a range, and has a byte
pub record IsPart (r : Range) (place n : ℕ) : Type 0 where
  pub some : 0 < n
  pub from : r.lo ≤ place
  pub to : place + n ≤ r.hi
  pub grained : IsMultiple r.grain place
  pub rounded : IsMultiple r.grain n

-- What stays of the bytes.

-- two memories have the same bytes in the holes
pub record AreSameIn (hs : List Span) (old new : List ℕ) : Type 0 where
  pub long : length new ≡ length old
  pub same : (at n : ℕ) → IsFree at (at + n) hs → part new at n ≡ part old at n

-- two memories have the same bytes wherever there is no hole
pub record AreSameOutside (hs : List Span) (old new : List ℕ) : Type 0 where
  pub long : length new ≡ length old
  pub same : (at n : ℕ) → IsUsed at (at + n) hs → part new at n ≡ part old at n

-- two memories have the same bytes wherever there is no hole before and none after, but for the n bytes at a place
pub record AreSameBut (place n : ℕ) (before after : List Span) (old new : List ℕ) : Type 0 where
  pub long : length new ≡ length old
  pub same : (at m : ℕ) → IsUsed at (at + m) before → IsUsed at (at + m) after → (at + m ≤ place) ⊎ (place + n ≤ at) → part new at m ≡ part old at m
