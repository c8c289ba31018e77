-- One step of a chain, as the loop goes.
use Rattle.w16_reloc.proofs.Common.{◌≡◌, ℕ, suc, ◌+◌, ◌-◌, ◌<◌, ◌≤◌, List, ◌∷◌, length, true, false, Ok, Err, refl, arith, nat_lt, nat_eq, list_any, word_of, RelocFault, Overlap, Site, meets, site_at, chain_at}

pub overlaps : (len : ℕ) (sites : List Site) (at width : ℕ) → at + width ≤ len → list_any (meets (record { at = at; width = width })) sites ≡ true → site_at len sites (record { at = at; width = width }) ≡ Err Overlap
unfolding site_at
overlaps len sites at width inside h = let t : nat_lt len (at + width) ≡ false = grind arith in rw (t, h) refl

pub fits : (len : ℕ) (sites : List Site) (at width : ℕ) → at + width ≤ len → list_any (meets (record { at = at; width = width })) sites ≡ false → site_at len sites (record { at = at; width = width }) ≡ Ok (record { at = at; width = width } ∷ sites)
unfolding site_at
fits len sites at width inside h = let t : nat_lt len (at + width) ≡ false = grind arith in rw (t, h) refl

pub chain_is_done : (bytes : List ℕ) (width count i : ℕ) (sites : List Site) (at : ℕ) → i < count → at ≡ 65535 → chain_at bytes width (count - i) sites at ≡ Ok sites
unfolding chain_at
chain_is_done bytes width count i sites at lt h = let k : count - i ≡ suc (count - (i + 1)) = omega arith in rw (k, h) refl

pub chain_goes_on : (bytes : List ℕ) (width count i : ℕ) (sites more : List Site) (at : ℕ) → i < count → nat_eq at 65535 ≡ false → site_at (length bytes) sites (record { at = at; width = width }) ≡ Ok more
    → chain_at bytes width (count - i) sites at ≡ chain_at bytes width (count - (i + 1)) more (word_of bytes at)
unfolding chain_at
chain_goes_on bytes width count i sites more at lt on h =
    let k : count - i ≡ suc (count - (i + 1)) = omega arith in rw (k, on, h) refl

pub chain_stops : (bytes : List ℕ) (width count i : ℕ) (sites : List Site) (at : ℕ) (e : RelocFault) → i < count → nat_eq at 65535 ≡ false → site_at (length bytes) sites (record { at = at; width = width }) ≡ Err e
    → chain_at bytes width (count - i) sites at ≡ Err e
unfolding chain_at
chain_stops bytes width count i sites at e lt on h =
    let k : count - i ≡ suc (count - (i + 1)) = omega arith in rw (k, on, h) refl

pub chain_returns : (bytes : List ℕ) (width count i : ℕ) (sites : List Site) (at : ℕ) → count ≤ i → chain_at bytes width (count - i) sites at ≡ Err Overlap
unfolding chain_at
chain_returns bytes width count i sites at le =
    let k : count - i ≡ 0 = omega arith in rw k refl

-- The same of a chain's first site.
pub chain_is_empty : (bytes : List ℕ) (width n : ℕ) (sites : List Site) (at : ℕ) → at ≡ 65535 → chain_at bytes width (n + 1) sites at ≡ Ok sites
unfolding chain_at
chain_is_empty bytes width n sites at h = let k : n + 1 ≡ suc n = omega arith in rw (k, h) refl

pub chain_begins : (bytes : List ℕ) (width n : ℕ) (sites more : List Site) (at : ℕ) → nat_eq at 65535 ≡ false → site_at (length bytes) sites (record { at = at; width = width }) ≡ Ok more
    → chain_at bytes width (n + 1) sites at ≡ chain_at bytes width n more (word_of bytes at)
unfolding chain_at
chain_begins bytes width n sites more at on h = let k : n + 1 ≡ suc n = omega arith in rw (k, on, h) refl

pub chain_fails : (bytes : List ℕ) (width n : ℕ) (sites : List Site) (at : ℕ) (e : RelocFault) → nat_eq at 65535 ≡ false → site_at (length bytes) sites (record { at = at; width = width }) ≡ Err e
    → chain_at bytes width (n + 1) sites at ≡ Err e
unfolding chain_at
chain_fails bytes width n sites at e on h = let k : n + 1 ≡ suc n = omega arith in rw (k, on, h) refl
