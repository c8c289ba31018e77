-- A range that ends later: its new part joins the holes.
use Rattle.w16_blocks.proofs
use proofs.Common as C
use proofs.Common.{◌≡◌, ℕ, ◌+◌, ◌-◌, ◌/◌, ◌<◌, ◌≤◌, min, max, Bool, true, false, List, [], ◌∷◌, ◌++◌, length, replicate, slice_index, zero, suc, ◌*◌, refl, sym, ap, ◌∙◌, subst, arith, inl, inr, lt-ltb, le-ltb, IsMultiple, below, up, Block, Span, IsLaid, block_end, holes, add_span, joined}
use proofs.Common.{Range, Layout, layout_in, blocks_in}
use proofs.{Outside.used_high, Tables.blocks_in-none, Tables.get_or-replicate_same}
use Rattle.std.proofs.Common.{cond}

pub laid_later : (lo hi end : ℕ) (bs : List Block) → IsLaid lo hi bs → hi ≤ end → IsLaid lo end bs
laid_later lo hi end [] laid le = omega (arith, laid, le)
laid_later lo hi end (x ∷ xs) laid le = (laid.0, laid.1, laid_later (block_end x) hi end xs laid.2 le)

abbrev span : ℕ → ℕ → Span
span from to = record { from = from; to = to }

joined_end : (lo hi end : ℕ) → lo ≤ hi → hi < end → add_span lo end [] ≡ joined hi end (add_span lo hi [])
joined_end lo hi end le l = elim (C.cases_lt lo hi) [
  | inl some ↦
      let low : min hi lo ≡ lo = omega arith in let high : max end hi ≡ end = omega arith in
      rw (lt-ltb lo end (omega arith), lt-ltb lo hi some, le-ltb hi hi (omega arith), le-ltb end lo (omega arith)) (λ i. span (sym low i) (sym high i) ∷ [])
  | inr none ↦
      let same : lo ≡ hi = omega arith in
      rw (lt-ltb lo end (omega arith), le-ltb lo hi none) (λ i. span (same i) end ∷ [])
]

joined_behind : (lo at hi end : ℕ) (rest : List Span) → at < hi → joined hi end (add_span lo at rest) ≡ add_span lo at (joined hi end rest)
joined_behind lo at hi end rest l = turn _
  where
    turn : (b : Bool) → joined hi end (cond {A = List Span} b (span lo at ∷ rest) rest) ≡ cond {A = List Span} b (span lo at ∷ joined hi end rest) (joined hi end rest)
    turn true = rw (lt-ltb at hi l) refl
    turn false = refl

holes_later : (lo hi end : ℕ) (bs : List Block) → IsLaid lo hi bs → hi < end → holes lo end bs ≡ joined hi end (holes lo hi bs)
holes_later lo hi end [] laid l = joined_end lo hi end laid l
holes_later lo hi end (x ∷ xs) laid l =
    let below = C.laid_le _ hi xs laid.2 in
    C.holes-cons lo end x xs (laid_later lo hi end (x ∷ xs) laid (omega arith))
    ∙ ap (add_span lo x.at) (holes_later (block_end x) hi end xs laid.2 l)
    ∙ sym (ap (joined hi end) (C.holes-cons lo hi x xs laid) ∙ joined_behind lo x.at hi end _ (omega (arith, below, laid.1)))

-- cells of 0 behind the others tell no block
blocks_in-longer : (slots : List Block) (cells : List ℕ) (n : ℕ) → blocks_in slots (cells ++ replicate n 0) ≡ blocks_in slots cells
blocks_in-longer slots [] n = blocks_in-none slots _ (λ k. get_or-replicate_same n k 0)
blocks_in-longer slots (zero ∷ cells) n = blocks_in-longer slots cells n
blocks_in-longer slots (suc id ∷ cells) n = ap (λ bs. C.slot_of slots id ∷ bs) (blocks_in-longer slots cells n)

slice_index-longer : (cells : List ℕ) (n k : ℕ) → slice_index (cells ++ replicate n 0) k ≡ slice_index cells k
slice_index-longer [] n k = get_or-replicate_same n k 0
slice_index-longer (x ∷ cells) n zero = refl
slice_index-longer (x ∷ cells) n (suc k) = slice_index-longer cells n k

-- p / g + 1 cells reach over an end that lies p bytes behind the begin of the range
pub cells_reach : (g p : ℕ) → 0 < g → p < g * (p / g + 1)
cells_reach g p some = omega arith

-- and so do cells that are lengthened to so many
longer_reach : (g p : ℕ) (cells : List ℕ) → 0 < g → p < g * length (cells ++ replicate (p / g + 1 - length cells) 0)
longer_reach g p cells some =
    let n = p / g + 1 - length cells in let sum = C.length-append cells (replicate n 0) in let more = C.length-replicate {A = ℕ} n 0 in
    let many = up g (p / g + 1) (length (cells ++ replicate n 0)) (omega arith) in let reach = cells_reach g p some in omega arith

-- capacity that reaches over a later end is enough for them
pub cells_fit : {g p q room n : ℕ} → 0 < g → n ≡ p / g + 1 → p ≤ q → q < g * room → n ≤ room
cells_fit {g} {p} {q} {room} some is le reach = let less = below g (p / g) room (omega arith) in omega arith

-- capacity for the cells to a later end reaches over an end before it
pub cells_reserved : {g n room : ℕ} (p q : ℕ) → 0 < g → n ≡ q / g + 1 → p ≤ q → n ≤ room → p < g * room
cells_reserved {g} {n} {room} p q some is le many = let reach = cells_reach g q some in let all = up g (q / g + 1) room (omega arith) in omega arith

-- tables that have more capacity have still enough
pub AreReserved-more : {lo g a b a' b' : ℕ} → C.AreReserved lo g a b → a ≤ a' → b ≤ b' → C.AreReserved lo g a' b'
AreReserved-more {lo} {g} {a} {b} {a'} {b'} r begins ends = record {
  begins = let old = r.begins in let more = up g a a' begins in omega arith;
  ends = let old = r.ends in let more = up g b b' ends in omega arith;
}

-- what is kept of blocks whose range ends later
module _ {cap lo hi g : ℕ} {slots : List Block} {cells : List ℕ} {free pinned : ℕ} {range : Range} {kept : List Span} (k : C.BlocksInvariant cap lo hi g slots cells free pinned range kept)
    (end : ℕ) (later : hi < end) {range' : Range} (moved : range' ≡ record range { hi = end }) where
  sum_end : hi + (end - hi) ≡ end
  sum_end = omega arith

  ranged_later : range' ≡ C.range_of (layout_in cap lo end g slots cells)
  ranged_later = moved ∙ ap (λ (r : Range). record r { hi = end }) k.ranged

  pub used_later : {kept' : List Span} → kept' ≡ kept → C.IsUsed hi (hi + (end - hi)) kept'
  used_later same = subst (C.IsUsed hi (hi + (end - hi))) (sym (same ∙ k.between)) (used_high lo hi (blocks_in slots cells) k.tables.ordered.laid (end - hi))

  pub part_later : {l : Layout} → layout_in cap lo hi g slots cells ≡ l → IsMultiple l.grain l.hi → IsMultiple l.grain end → C.IsPart range' hi (end - hi)
  part_later {l} is low high =
      let grain = ap (λ (m : Layout). m.grain) is in let top = ap (λ (m : Layout). m.hi) is in
      let some = k.tables.some in let le = C.laid_le lo hi (blocks_in slots cells) k.tables.ordered.laid in
      let from : IsMultiple g hi = subst (λ (n : ℕ). IsMultiple g n) (sym top) (subst (λ (n : ℕ). IsMultiple n l.hi) (sym grain) low) in
      let to : IsMultiple g end = subst (λ (n : ℕ). IsMultiple n end) (sym grain) high in
      subst (λ (r : Range). C.IsPart r hi (end - hi)) (sym ranged_later) (record {
        some = omega arith;
        from = le;
        to = omega arith;
        grained = from;
        rounded = ((end - hi) / g, sym (C.whole_units g hi end some (omega arith) from to));
      })

  ordered_later : end ≤ C.LAST_END → C.IsOrdered (layout_in cap lo end g slots cells)
  ordered_later low = record {
    laid = laid_later lo hi end (blocks_in slots cells) k.tables.ordered.laid (omega arith);
    named = k.tables.ordered.named;
    grained = k.tables.ordered.grained;
    from = k.tables.ordered.from;
    small = omega arith;
    few = k.tables.ordered.few;
  }

  -- the cells are lengthened to the later end
  module _ {cells' : List ℕ} (longer : cells' ≡ cells ++ replicate ((end - lo) / g + 1 - length cells) 0) where
    abbrev more : ℕ
    more = (end - lo) / g + 1 - length cells

    told_later : blocks_in slots cells' ≡ blocks_in slots cells
    told_later = ap (blocks_in slots) longer ∙ blocks_in-longer slots cells more

    cells_later : (u : ℕ) → slice_index cells' u ≡ slice_index cells u
    cells_later u = ap (λ (ns : List ℕ). slice_index ns u) longer ∙ slice_index-longer cells more u

    pub layout_later : {l : Layout} → layout_in cap lo hi g slots cells ≡ l → layout_in cap lo end g slots cells' ≡ record l { hi = end }
    layout_later is =
        ap (λ (bs : List Block). record { cap = cap; lo = lo; hi = end; grain = g; blocks = bs }) told_later ∙ ap (λ (m : Layout). record m { hi = end }) is

    pub BlocksInvariant-later : {kept' : List Span} → end ≤ C.LAST_END → kept' ≡ joined hi (hi + (end - hi)) kept → C.BlocksInvariant cap lo end g slots cells' (free + (end - hi)) pinned range' kept'
    BlocksInvariant-later low joins = record {
      tables = record {
        some = k.tables.some;
        ids = k.tables.ids;
        long = subst (λ (ns : List ℕ). end - lo < g * length ns) (sym longer) (longer_reach g (end - lo) cells k.tables.some);
        ordered = subst (λ (bs : List Block). C.IsOrdered (record { cap = cap; lo = lo; hi = end; grain = g; blocks = bs })) (sym told_later) (ordered_later low);
        begun = λ u id e. k.tables.begun u id (sym (cells_later u) ∙ e);
        found = λ id has. let cell = k.tables.found id has in (cell.0, cells_later cell.0 ∙ cell.1);
      };
      counted = let sum = ap (C.sum_by (λ (b : Block). b.size)) told_later in let counted = k.counted in omega arith;
      pins = k.pins ∙ ap (C.sum_by C.pins_in) (sym told_later);
      ranged = ranged_later;
      between =
          joins ∙ ap (λ (b : ℕ). joined hi b kept) sum_end ∙ ap (joined hi end) k.between
          ∙ sym (holes_later lo hi end (blocks_in slots cells) k.tables.ordered.laid later) ∙ ap (holes lo end) (sym told_later);
    }
