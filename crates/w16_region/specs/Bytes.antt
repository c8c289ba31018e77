-- What a memory does with bytes: it takes those that fit, and counts those that it wrote.
use Rattle.std.specs.Vec.{with_items}
use Rattle.std.specs.Prelude.{Vec, ℕ, ◌+◌, ◌^◌, ◌-◌, ◌≤◌, ◌≡◌, List, ◌++◌, take, drop, min, max, length}
use Rattle.std.proofs.Common.{arith, length-append, length-drop, ◌∙◌, ap}
use Rattle.std.proofs.lemmas.List.{length-take-le, take_at}
use Rattle.byteorder.specs.Endian.{little_number, little_bytes}
use Rattle.w16_model.specs.Bytes.{part, put_part}
use Rattle.w16_model.proofs.Parts.{length-put_part, length-repeated}

-- the new bytes, cut or filled up from the old ones to their length
abbrev pub fitted : List ℕ → List ℕ → List ℕ
fitted old new = take (length old) (new ++ drop (length new) old)

-- the count after `size` more bytes: it stops at the largest u64, and never falls
abbrev pub counted : ℕ → ℕ → ℕ
counted count size = max count (min (count + size) (2 ^ 64 - 1))

-- the double word of the four bytes at a place, the lowest first; a proof does not look inside unless it says so, or the four would be written out there
unfoldable pub word_in : List ℕ → ℕ → ℕ
word_in bytes at = little_number 4 (part bytes at 4)

-- the bytes with a double word put at a place, its lowest byte first
unfoldable pub put_word : List ℕ → ℕ → ℕ → List ℕ
put_word bytes at value = put_part bytes at (little_bytes 4 value)

-- what shows that the length stays where a part is filled or slid over
pub ruleset lengths = (length-put_part, length-repeated)

pub length-fitted : (old new : List ℕ) → length (fitted old new) ≡ length old
length-fitted old new =
    let whole = length-append new (drop (length new) old) in
    let behind = length-drop (length new) old in
    length-take-le (length old) (new ++ drop (length new) old) (omega arith)

-- bytes of the right length fit as they are
pub fitted-same : (old new : List ℕ) → length new ≡ length old → fitted old new ≡ new
fitted-same old new same = take_at new (drop (length new) old) (length old) same

pub fitted-put_part : (bytes : List ℕ) (at : ℕ) (new : List ℕ) → at + length new ≤ length bytes
    → fitted bytes (put_part bytes at new) ≡ put_part bytes at new
fitted-put_part bytes at new le = fitted-same bytes (put_part bytes at new) (length-put_part bytes at new le)

-- a vector that is given other items keeps its length, and takes those whose length is right as they are
module _ {Z : Type 0} (v : Vec ℕ Z) where
  pub length-with_items : (new : List ℕ) → length (with_items v new).items ≡ length v.items
  length-with_items new = ap (λ (k : ℕ). length (take k (new ++ drop (length new) v.items))) v.ok.0 ∙ length-fitted v.items new

  pub with_items-put_part : (at : ℕ) (new : List ℕ) → at + length new ≤ length v.items
      → (with_items v (put_part v.items at new)).items ≡ put_part v.items at new
  with_items-put_part at new le =
      let put : List ℕ = put_part v.items at new in
      ap (λ (k : ℕ). take k (put ++ drop (length put) v.items)) v.ok.0 ∙ fitted-put_part v.items at new le
