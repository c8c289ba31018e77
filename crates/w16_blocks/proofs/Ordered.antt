-- A layout stays ordered where a block is added or taken away.
use Rattle.w16_blocks.proofs
use proofs.Common as C
use proofs.Common.{ℕ, ◌≡◌, ◌≢◌, ◌+◌, ◌<◌, ◌≤◌, ◌^◌, Bool, List, [], ◌∷◌, map, eqb, true, false, ◌||◌, nat_lt, sum_by, refl, arith, sym, ap, ◌∙◌, inl, inr, false≢true, sum_by-cons, list_any, IsDistinct, Block, Hold, Pinned, Loose, AreNamed, IsOrdered, Fits, pins_in}
use proofs.Place.{All-placed, IsLaid-placed, AreNamed-placed}
use proofs.Remove.{All-all_but, IsLaid-all_but, AreNamed-all_but}
use Rattle.std.proofs.Common.{lt-ltb}

abbrev ids : List Block → List ℕ
ids bs = map (λ b. b.id) bs

others : (id : ℕ) (bs : List Block) → C.AllByRecursion (λ c. c.id ≢ id) bs → C.AllByRecursion (λ y. eqb id y ≡ false) (ids bs)
others id [] all = tt
others id (b ∷ bs) all = (C.ne_eqb id b.id (λ e. all.0 (sym e)), others id bs all.1)

distinct : (cap : ℕ) (bs : List Block) → AreNamed cap bs → IsDistinct eqb (ids bs)
unfolding IsDistinct
distinct cap [] named = tt
distinct cap (b ∷ bs) named = (others b.id bs named.1, distinct cap bs named.2)

below : (cap : ℕ) (bs : List Block) → AreNamed cap bs → (q : ℕ) → list_any (eqb q) (ids bs) ≡ true → q < cap
below cap [] named q e = absurd (false≢true e)
below cap (b ∷ bs) named q e =
    let lt = named.0 in
    elim (C.or_cases _ _ e) [
      | inl here ↦ let same = C.eqb-true q b.id here in omega arith
      | inr there ↦ below cap bs named.2 q there
    ]

-- there are no more blocks than ids
no_more : (cap : ℕ) (bs : List Block) → AreNamed cap bs → C.length bs ≤ cap
unfolding IsDistinct
no_more cap bs named =
    let all = C.length-le_from_distinct_below _ cap (distinct cap bs named) (λ q e. below cap bs named q e) in
    let n = C.length-map bs (λ b. b.id) in
    omega arith

pub IsOrdered-placed : (l : C.Layout) (b : Block) → l.cap < 2 ^ 32 → Fits l b → IsOrdered l → IsOrdered (record l { blocks = C.placed b l.blocks })
IsOrdered-placed l b ids fits ordered =
    let named = AreNamed-placed l.cap b _ fits.id fits.free ordered.named in record {
      laid = IsLaid-placed l.lo l.hi b _ fits.inside.0 fits.inside.1 fits.inside.2 fits.apart ordered.laid;
      named = named;
      grained = All-placed _ b _ fits.grained ordered.grained;
      from = ordered.from;
      small = ordered.small;
      few = let few = no_more l.cap _ named in omega arith;
    }

pub IsOrdered-all_but : (l : C.Layout) (id : ℕ) → l.cap < 2 ^ 32 → IsOrdered l → IsOrdered (record l { blocks = C.all_but id l.blocks })
IsOrdered-all_but l id ids ordered =
    let named = AreNamed-all_but l.cap id _ ordered.named in record {
      laid = IsLaid-all_but l.lo l.hi id _ ordered.laid;
      named = named;
      grained = All-all_but _ id _ ordered.grained;
      from = ordered.from;
      small = ordered.small;
      few = let few = no_more l.cap _ named in omega arith;
    }

-- the bounds hold all blocks
pub sum_fits : (lo hi : ℕ) (bs : List Block) → C.IsLaid lo hi bs → lo + sum_by (λ b. b.size) bs ≤ hi
sum_fits lo hi [] laid = let none : sum_by (λ (b : Block). b.size) [] ≡ 0 = refl in omega arith
sum_fits lo hi (b ∷ bs) laid =
    let from = laid.0 in let rest = sum_fits (C.block_end b) hi bs laid.2 in let sum = sum_by-cons (λ c. c.size) b bs in omega arith

pub pins_small : (h : Hold) → C.pins_of h ≤ 1
pins_small Pinned = omega arith
pins_small Loose = omega arith

-- each block has a byte, so no more are counted than there are bytes
pub pins_fit : (lo hi : ℕ) (bs : List Block) → C.IsLaid lo hi bs → sum_by pins_in bs ≤ sum_by (λ (b : Block). b.size) bs
pins_fit lo hi [] laid = let none : sum_by pins_in [] ≡ 0 = refl in omega arith
pins_fit lo hi (b ∷ bs) laid =
    let one = pins_small b.hold in let some = laid.1 in let rest = pins_fit (C.block_end b) hi bs laid.2 in
    let pins = sum_by-cons pins_in b bs in let sum = sum_by-cons (λ c. c.size) b bs in omega arith

-- where none is counted, each block is loose
pub counted_any : (bs : List Block) → list_any C.is_pinned bs ≡ nat_lt 0 (sum_by pins_in bs)
counted_any [] = refl
counted_any (b ∷ bs) = ap (λ t. C.is_pinned b || t) (counted_any bs) ∙ more b.hold ∙ ap (nat_lt 0) (sym (sum_by-cons pins_in b bs))
  where
    more : (h : Hold) → (C.holds_still h || nat_lt 0 (sum_by pins_in bs)) ≡ nat_lt 0 (C.pins_of h + sum_by pins_in bs)
    more Pinned = sym (lt-ltb 0 _ (omega arith))
    more Loose = ap (nat_lt 0) (omega arith)
