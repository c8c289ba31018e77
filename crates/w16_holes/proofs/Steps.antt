-- The cells of a range after a part was taken or put.
use Rattle.w16_holes.proofs
use proofs.Common.{ℕ, zero, suc, [], ◌∷◌, refl, ◌≡◌, ◌<◌, ◌+◌, ◌*◌, ◌-◌, List, set, Some, arith, sym, ap, ◌∙◌, subst, slice_index, length-set, last_below, Range, Free, AreHoles, IsPart, IsFree, IsUsed, spans, LAST_END, AreCells, IsApart, IsInside, IsBeginOf}
use proofs.Told.{IsTake, IsPut, take_apart, take_kept, put_apart, put_kept}
use proofs.Look.{are_holes}

pub AreHoles-cells : (r : Range) (ns : List ℕ) → AreCells r ns → AreHoles r.lo r.hi (spans r.grain r.lo ns)
AreHoles-cells r ns cells = are_holes r.grain ns r.lo r.hi cells.ordered cells.apart cells.inside

-- two cells may be set in either order
pub sets_apart : (ns : List ℕ) (i j x y : ℕ) → (i ≡ j → ⊥) → set (set ns i x) j y ≡ set (set ns j y) i x
sets_apart [] i j x y other = refl
sets_apart (n ∷ ns) zero zero x y other = absurd (other refl)
sets_apart (n ∷ ns) zero (suc j) x y other = refl
sets_apart (n ∷ ns) (suc i) zero x y other = refl
sets_apart (n ∷ ns) (suc i) (suc j) x y other = ap (λ l. n ∷ l) (sets_apart ns i j x y (λ e. other (ap (λ k. suc k) e)))

-- two cells set, in other words
pub two_sets : (ns one two : List ℕ) (i j x y v w : ℕ) → one ≡ set ns i x → two ≡ set one j y → x ≡ v → y ≡ w → two ≡ set (set ns i v) j w
two_sets ns one two i j x y v w first second is there =
    second ∙ ap (λ n. set one j n) there ∙ ap (λ ms. set ms j w) (first ∙ ap (λ n. set ns i n) is)

-- two cells changed
AreCells-sets : (r : Range) (ns : List ℕ) (i j v w : ℕ) → AreCells r ns → IsApart r.grain (set (set ns i v) j w) → IsInside r.grain (r.hi - r.lo) (set (set ns i v) j w) → AreCells r (set (set ns i v) j w)
AreCells-sets r ns i j v w cells apart inside = record {
  some = cells.some;
  from = cells.from;
  ordered = cells.ordered;
  small = cells.small;
  long = subst (λ n. r.hi - r.lo < r.grain * n) (sym (length-set _ j w ∙ length-set ns i v)) cells.long;
  reserved = subst (λ n. LAST_END - r.lo < r.grain * n) (sym (length-set _ j w ∙ length-set ns i v)) cells.reserved;
  apart = apart;
  inside = inside;
}

module _ {r : Range} {ns : List ℕ} {now : Free} (cells : AreCells r ns) (is : record { range = r; holes = spans r.grain r.lo ns } ≡ now) {a n : ℕ} (p q : ℕ)
    (asked : IsPart now.range a n) (at : r.grain * p ≡ a - r.lo) (end : r.grain * q ≡ a + n - r.lo) where
  part : IsPart r a n
  part = subst (λ (f : Free). IsPart f.range a n) (sym is) asked

  pub is_take : IsFree a (a + n) now.holes → IsTake r.grain r.lo (r.hi - r.lo) ns a (a + n) p q
  is_take free = let from = part.from in let some = part.some in record {
    wide = cells.some;
    apart = cells.apart;
    inside = cells.inside;
    long = cells.long;
    at = omega arith;
    end = omega arith;
    some = omega arith;
    free = subst (λ (f : Free). IsFree a (a + n) f.holes) (sym is) free;
  }

  pub is_put : (k : ℕ) → IsBeginOf r.grain p ns k → IsUsed a (a + n) now.holes → IsPut r.grain r.lo (r.hi - r.lo) ns a (a + n) p q k
  is_put k begin used = let from = part.from in let some = part.some in let to = part.to in record {
    wide = cells.some;
    apart = cells.apart;
    inside = cells.inside;
    long = cells.long;
    at = omega arith;
    end = omega arith;
    some = omega arith;
    last = omega arith;
    used = subst (λ (f : Free). IsUsed a (a + n) f.holes) (sym is) used;
    begin = begin;
  }

module _ (r : Range) (ns : List ℕ) (a b p q : ℕ) (cells : AreCells r ns) where
  pub AreCells-take : (t : IsTake r.grain r.lo (r.hi - r.lo) ns a b p q) (k : ℕ) → Some k ≡ last_below ns (p + 1)
      → AreCells r (set (set ns k (r.grain * p - r.grain * k)) q (r.grain * k + slice_index ns k - r.grain * q))
  AreCells-take t k is = AreCells-sets r ns k q (r.grain * p - r.grain * k) (r.grain * k + slice_index ns k - r.grain * q) cells (take_apart t k is) (take_kept t k is)

  pub AreCells-put : (k : ℕ) → IsPut r.grain r.lo (r.hi - r.lo) ns a b p q k → AreCells r (set (set ns q 0) k (r.grain * q + slice_index ns q - r.grain * k))
  AreCells-put k t = AreCells-sets r ns q k 0 (r.grain * q + slice_index ns q - r.grain * k) cells (put_apart t) (put_kept t)
