-- Segments of an NE file have sizes and images that go together.
use Rattle.w16_format.proofs
use proofs.Common as C
use proofs.Common.{◌≡◌, ℕ, zero, suc, ◌+◌, ◌/◌, ◌<◌, ◌≤◌, ◌%◌, max, Bool, true, false, cond, List, [], ◌∷◌, length, map, drop, refl, sym, ◌∙◌, subst, arith, inl, inr, All, Some, min, GRAIN, Segment, word_of, or_64k, rounded, IsSegment, data_of, byte, IsFar, Far, far_in}
use proofs.Bytes.{AreBytes, word_small}

-- Sizes.

full_by : (b : Bool) (n : ℕ) → C.nat_eq n 0 ≡ b → n < 65536 → (0 < cond b 65536 n) × (cond b 65536 n ≤ 65536)
full_by true n e lt = (omega arith, omega arith)
full_by false n e lt = (grind arith, omega arith)

full : (n : ℕ) → n < 65536 → (0 < or_64k n) × (or_64k n ≤ 65536)
full n lt = full_by _ n refl lt

len_small : (file : List ℕ) (shift at : ℕ) (s : Segment) → AreBytes file → C.IsData file shift at s → s.len ≤ 65536
len_small file shift at s all (inl none) = let e = none.2 in omega (arith, e)
len_small file shift at s all (inr some) = let e = some.2 in let f = (full (word_of file (at + 2)) (word_small file all (at + 2))).1 in omega (arith, e, f)

larger : (m n : ℕ) → 0 < n → n ≤ 65536 → m ≤ 65536 → (0 < max m n) × (max m n ≤ 65536)
larger m n some few less = (grind arith, grind arith)

round_fits : (n : ℕ) → 0 < n → n ≤ 65536 → (0 < rounded n) × (rounded n ≤ 65536)
round_fits n some few = (omega arith, omega arith)

size_fits : (file : List ℕ) (shift at : ℕ) (s : Segment) → AreBytes file → IsSegment file shift at s → (0 < s.size) × (s.size ≤ C.LARGEST_OWNED) × C.IsMultiple GRAIN s.size
size_fits file shift at s all is =
    let least = full (word_of file _) (word_small file all _) in
    let larger_one = larger s.len _ least.0 least.1 (len_small file shift at s all is.placed) in
    let fits = round_fits _ larger_one.0 larger_one.1 in
    let same : rounded (max s.len (or_64k (word_of file (at + 6)))) ≡ s.size = sym is.size in (
      subst (λ n. 0 < n) same fits.0,
      subst (λ n. n ≤ 65536) same fits.1,
      ((max s.len (or_64k (word_of file (at + 6))) + 31) / 32, is.size ∙ omega arith),
    )

-- Images.

narrow : (n : ℕ) → n % 65536 < 65536
narrow n = omega arith

far_is : (far : Far) → IsFar (far_in far)
far_is far = (narrow _, narrow _)

fars_are : (values : List Far) → All IsFar (map far_in values)
fars_are values = C.All-map IsFar far_in values (λ k d lt. far_is _)

pub segment_fits : (file : List ℕ) (t : C.Tables) (shift at : ℕ) (s : Segment) → AreBytes file → IsSegment file shift at s → C.IsSegmentData (C.segment_in s) (C.data_in file t s)
segment_fits file t shift at s all is =
    let size = size_fits file shift at s all is in record {
      some = size.0;
      small = size.1;
      rounded = size.2;
      image = λ values.
          let records = C.records_in (C.checked file t s) in (
            C.length-map-range_with_len (C.image_at (C.patches (data_of file s) records (map far_in values) (C.naming (data_of file s) records)) (byte _)) 0 s.size,
            C.image_bytes _ records (map far_in values) s.size (C.All-take (λ b. b < 256) s.len _ (C.All-drop (λ b. b < 256) s.place file all)) (fars_are values),
          );
    }

pub segments_fit : (file : List ℕ) (t : C.Tables) (shift at : ℕ) (ss : List Segment) → AreBytes file → C.AreSegments file shift at ss → C.AllZip C.IsSegmentData (map C.segment_in ss) (map (C.data_in file t) ss)
segments_fit file t shift at [] all are = tt
segments_fit file t shift at (s ∷ ss) all are = (segment_fits file t shift at s all are.0, segments_fit file t shift (at + 8) ss all are.1)

-- Room.

less : (m n len size least : ℕ) → m ≡ min len n → size ≡ rounded (max len least) → m ≤ size
less m n len size least e f =
    let a : m ≤ len = grind arith in
    let b : len ≤ max len least = grind arith in
    omega (arith, a, b, f)

room_one : (file : List ℕ) (shift at : ℕ) (s : Segment) → IsSegment file shift at s → length (data_of file s) ≤ s.size
room_one file shift at s is = less _ (length _) s.len s.size _ (C.length-take s.len _) is.size

pub room : (file : List ℕ) (shift at : ℕ) (ss : List Segment) (k : ℕ) (s : Segment) → C.AreSegments file shift at ss → C.slice_get ss k ≡ Some s → length (data_of file s) ≤ s.size
room file shift at [] k s are found = cc
room file shift at (x ∷ xs) zero s are found = let same : x ≡ s = cc in subst (λ y. length (data_of file y) ≤ y.size) same (room_one file shift at x are.0)
room file shift at (x ∷ xs) (suc k) s are found = room file shift (at + 8) xs k s are.1 found
