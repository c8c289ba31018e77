-- The first part at or above a place, by the units in which none begins.
use Rattle.w16_blocks.proofs
use proofs.Common as C
use proofs.Next as M
use proofs.Common.{ℕ, ◌≡◌, ◌+◌, ◌-◌, ◌*◌, ◌/◌, ◌<◌, ◌≤◌, ◌⊎◌, List, [], ◌∷◌, drop, suc, arith, refl, sym, ap, ◌∙◌, subst, inl, inr, slice_index, slice_get, cases_lt, AllByRecursion, div_ceil, Block, Span, IsHole, Misses, holes, is_any, IsMultiple, Member, length_at, up, rank, slot_of}
use proofs.Common.{blocks_in, layout_in}
use proofs.{Cells.All-told, Cells.each_told, Free.AreHoles-holes, Next.pass}

-- holes begin at multiples of the grain
from_grained : (g lo hi : ℕ) (bs : List Block) → C.IsLaid lo hi bs → IsMultiple g lo → AllByRecursion (C.IsGrained g) bs → AllByRecursion (λ s. IsMultiple g s.from) (holes lo hi bs)
from_grained g lo hi [] laid low all = elim (cases_lt lo hi) [
  | inl some ↦ rw (C.lt-ltb lo hi some) (low, tt)
  | inr none ↦ rw (C.le-ltb lo hi none) tt
]
from_grained g lo hi (b ∷ bs) laid low all =
    let rest = from_grained g (C.block_end b) hi bs laid.2 (C.multiple_sum g b.at b.size all.0.0 all.0.1) all.1 in
    subst (AllByRecursion (λ s. IsMultiple g s.from)) (sym (C.holes-cons lo hi b bs laid)) (elim (cases_lt lo b.at) [
      | inl some ↦ rw (C.lt-ltb lo b.at some) (low, rest)
      | inr none ↦ rw (C.le-ltb lo b.at none) rest
    ])

-- a hole has a length where it begins, and what has one there is a hole
length_some : (lo hi a e : ℕ) (hs : List Span) → C.AreHoles lo hi hs → Member (record { from = a; to = e }) hs → 0 < length_at a hs
length_some lo hi a e [] are m = absurd m
length_some lo hi a e (h ∷ hs) are m = elim (C.eqb_tells h.from a) [
  | inl same ↦ rw same.0 (let some = are.1 in omega arith)
  | inr other ↦ rw other.0 (elim m [
    | inl first ↦ absurd (other.1 (ap (λ s. s.from) (sym first)))
    | inr rest ↦ length_some _ hi a e hs are.3 rest
  ])
]

some_member : (a : ℕ) (hs : List Span) → 0 < length_at a hs → Member (record { from = a; to = a + length_at a hs }) hs
some_member a [] some = absurd (omega arith)
some_member a (h ∷ hs) some = elim (C.eqb_tells h.from a) [
  | inl same ↦ inl (let long = rw same.0 at some in rw same.0 (whole long same.1))
  | inr other ↦ let past : length_at a (h ∷ hs) ≡ length_at a hs = rw other.0 refl in inr (subst (λ (n : ℕ). Member (record { from = a; to = a + n }) hs) (sym past) (some_member a hs (omega arith)))
]
  where
    whole : 0 < h.to - h.from → h.from ≡ a → ◌≡◌ {A = Span} (record { from = a; to = a + (h.to - h.from) }) h
    whole long same = let end : a + (h.to - h.from) ≡ h.to = omega arith in λ i. record { from = sym same i; to = end i }

-- in the units below u no block and no hole begins at a place or above it
abbrev pub ArePassed : (lo hi g at : ℕ) → List Block → List ℕ → ℕ → Type 0
ArePassed lo hi g at slots cells u = (k : ℕ) → k < u → at ≤ lo + g * k → (slice_index cells k ≡ 0) × (length_at (lo + g * k) (holes lo hi (blocks_in slots cells)) ≡ 0)

module _ {cap lo hi g : ℕ} {slots : List Block} {cells : List ℕ} (t : C.AreTables cap lo hi g slots cells) where
  all_holes : C.AreAllOf is_any lo hi (blocks_in slots cells) (holes lo hi (blocks_in slots cells))
  all_holes = (C.gap_list_law lo hi (blocks_in slots cells) (C.laid_placed lo hi (blocks_in slots cells) t.ordered.laid)).1

  -- a hole has a length at a place that begins a unit
  listed : (a e : ℕ) → IsHole lo hi (blocks_in slots cells) a e → (0 < length_at a (holes lo hi (blocks_in slots cells))) × (a ≡ lo + g * ((a - lo) / g))
  listed a e hole =
      let m = C.member_contained (holes lo hi (blocks_in slots cells)) (record { from = a; to = e }) (all_holes.each a e hole) in
      let grained = C.Each-at (λ (s : Span). IsMultiple g s.from) (holes lo hi (blocks_in slots cells)) (from_grained g lo hi (blocks_in slots cells) t.ordered.laid t.ordered.from t.ordered.grained) (record { from = a; to = e }) m in
      let low = hole.clear.above in let whole = C.whole_units g lo a t.some low t.ordered.from grained in
      (length_some lo hi a e (holes lo hi (blocks_in slots cells)) (AreHoles-holes lo lo hi (blocks_in slots cells) (omega arith) t.ordered.laid) m, omega arith)

  -- and where there is one, that is a hole
  pub hole_at : (place n : ℕ) {kept : List Span} → kept ≡ holes lo hi (blocks_in slots cells) → n ≡ length_at place kept → 0 < n → IsHole lo hi (blocks_in slots cells) place (place + n)
  hole_at place n between long some =
      let is = long ∙ ap (length_at place) between in
      let m : Member (record { from = place; to = place + n }) (holes lo hi (blocks_in slots cells)) = rw is (some_member place (holes lo hi (blocks_in slots cells)) (omega arith)) in
      C.Each-at (λ (s : Span). IsHole lo hi (blocks_in slots cells) s.from s.to) (holes lo hi (blocks_in slots cells)) (C.Each-from_All (λ (s : Span). IsHole lo hi (blocks_in slots cells) s.from s.to) (holes lo hi (blocks_in slots cells)) all_holes.only) (record { from = place; to = place + n }) m

  -- it misses the block of each cell
  missed : (a e : ℕ) → IsHole lo hi (blocks_in slots cells) a e → (k id : ℕ) → slice_index cells k ≡ suc id → Misses (slot_of slots id).at (slot_of slots id).size a e
  missed a e hole k id tells = each_told (λ x. C.IsTrue (is_any x) → Misses x.at x.size a e) slots cells k id tells (C.Each-from_All (λ x. C.IsTrue (is_any x) → Misses x.at x.size a e) (blocks_in slots cells) hole.clear.misses) refl

  -- none below the first unit at or above a place is at or above it
  pub passed_first : (at less first : ℕ) → less ≡ at - lo → first ≡ div_ceil less g → ArePassed lo hi g at slots cells first
  passed_first at less first less_is first_is = λ k under from.
      let below = M.units_below lo g at first t.some (first_is ∙ ap (λ (n : ℕ). div_ceil n g) less_is) k under in absurd (omega arith)

  -- one unit more, in which neither begins
  pub passed_more : (at u : ℕ) → ArePassed lo hi g at slots cells u → (place n : ℕ) {kept : List Span} → place ≡ lo + g * u → slice_index cells u ≡ 0 → kept ≡ holes lo hi (blocks_in slots cells) → n ≡ length_at place kept → n ≡ 0
      → ArePassed lo hi g at slots cells (u + 1)
  passed_more at u passed place n {kept} here clear between long none = λ k under from. elim (cases_lt k u) [
    | inl below ↦ passed k below from
    | inr over ↦
        let same : k ≡ u = omega arith in
        let length : length_at (lo + g * u) (holes lo hi (blocks_in slots cells)) ≡ 0 = ap (length_at (lo + g * u)) (sym between) ∙ ap (λ (p : ℕ). length_at p kept) (sym here) ∙ sym long ∙ none in
        subst (λ (k : ℕ). (slice_index cells k ≡ 0) × (length_at (lo + g * k) (holes lo hi (blocks_in slots cells)) ≡ 0)) (sym same) (clear, length)
  ]

  -- where the units below u are passed, from the first at or above the place on
  module _ (at u : ℕ) (passed : ArePassed lo hi g at slots cells u) (less first : ℕ) (less_is : less ≡ at - lo) (first_is : first ≡ div_ceil less g) (reached : first ≤ u) where
    from_first : (k : ℕ) → first ≤ k → at ≤ lo + g * k
    from_first = M.units_above lo g at first t.some (first_is ∙ ap (λ (n : ℕ). div_ceil n g) less_is)

    next_told : slice_get (blocks_in slots cells) (rank at (blocks_in slots cells)) ≡ slice_get (blocks_in slots (drop u cells)) 0
    next_told =
        let sum : first + (u - first) ≡ u = omega arith in
        M.first_by_unit lo g at slots cells first t.begun (M.units_below lo g at first t.some (first_is ∙ ap (λ (n : ℕ). div_ceil n g) less_is)) from_first
        ∙ ap (λ (bs : List Block). slice_get bs 0) (pass slots cells first (u - first) (λ k from to. (passed k (omega arith) (from_first k from)).0))
        ∙ ap (λ (m : ℕ). slice_get (blocks_in slots (drop m cells)) 0) sum

    -- a hole at or above the place begins in no unit passed
    not_passed : (a e : ℕ) → IsHole lo hi (blocks_in slots cells) a e → at ≤ a → lo + g * u ≤ a
    not_passed a e hole le = let is = listed a e hole in let some = is.0 in let here = is.1 in elim (cases_lt ((a - lo) / g) u) [
      | inl under ↦
          let none = (passed ((a - lo) / g) under (omega arith)).1 in
          let same = ap (λ (p : ℕ). length_at p (holes lo hi (blocks_in slots cells))) here in absurd (omega arith)
      | inr over ↦ let r = up g u ((a - lo) / g) over in omega arith
    ]

    -- the block that begins in the next unit is the first part
    pub block_first : (id : ℕ) → slice_index cells u ≡ suc id → C.IsFirstBlock (layout_in cap lo hi g slots cells) at (slot_of slots id)
    block_first id tells = record {
      block = next_told ∙ M.first_here slots cells u id tells;
      first = λ a e hole le.
          let place = (t.begun u id tells).at in let size = (t.begun u id tells).some in let from = not_passed a e hole le in let some = hole.some in
          elim (missed a e hole u id tells) [ inl before ↦ omega arith | inr behind ↦ absurd (omega arith) ];
    }

    -- the hole that begins there is
    pub hole_first : (place n : ℕ) {kept : List Span} → place ≡ lo + g * u → slice_index cells u ≡ 0 → kept ≡ holes lo hi (blocks_in slots cells) → n ≡ length_at place kept → 0 < n
        → C.IsFirstHole (layout_in cap lo hi g slots cells) at (record { from = place; to = place + n })
    hole_first place n here clear between long some = record {
      hole = hole_at place n between long some;
      above = let low = from_first u reached in omega arith;
      first = C.All-from_Each (λ b. (b.at < at) ⊎ (place + n ≤ b.at)) (blocks_in slots cells) (All-told (λ b. (b.at < at) ⊎ (place + n ≤ b.at)) slots cells beside);
    }
      where
        beside : (k id : ℕ) → slice_index cells k ≡ suc id → ((slot_of slots id).at < at) ⊎ (place + n ≤ (slot_of slots id).at)
        beside k id tells =
            let begin = (t.begun k id tells).at in let size = (t.begun k id tells).some in
            elim (cases_lt (slot_of slots id).at at) [
              | inl below ↦ inl below
              | inr from ↦ elim (cases_lt k u) [
                | inl under ↦ let none = (passed k under (omega arith)).0 in absurd (omega arith)
                | inr over ↦ let r = up g u k over in elim (missed place (place + n) (hole_at place n between long some) k id tells) [
                  | inl before ↦ absurd (omega arith)
                  | inr behind ↦ inr behind
                ]
              ]
            ]

    -- behind the last unit there is no part
    pub none_first : {now : C.Layout} → layout_in cap lo hi g slots cells ≡ now → (units : ℕ) → units ≡ div_ceil (now.hi - now.lo) now.grain → units ≤ u → C.IsBehindAll (layout_in cap lo hi g slots cells) at
    none_first view units told past = record {
      no_block = next_told ∙ M.none_behind t view units u told past;
      no_hole = λ a e hole le.
          let from = not_passed a e hole le in let some = hole.some in let to = hole.clear.below in
          let high = M.behind_all t view units u told past in omega arith;
    }
