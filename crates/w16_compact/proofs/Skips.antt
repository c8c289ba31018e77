-- One pass over the counted blocks.
use Rattle.w16_compact.proofs
use proofs.Common.{◌≡◌, ℕ, ◌+◌, ◌-◌, ◌^◌, ◌<◌, ◌≤◌, zero, suc, max, Bool, true, false, cond, filter, List, [], ◌∷◌, drop, sym, ap, ◌∙◌, subst, arith, add-one, AllByRecursion, cond-true, cond-false, Block, IsLaid, room, is_pinned, block_end, AreNamed, IsLaid-from, laid_le, Reached}
use proofs.Common.{IsGrained, IsMultiple, multiple_sum}
use proofs.OnePass.{scan, scan-room}

-- the pass with one more block
abbrev pub passed : Reached → Block → Reached
passed r x = cond (is_pinned x) (record { low = block_end x; loose = 0 }) (record { low = r.low; loose = r.loose + x.size })

-- what it has reached stays a multiple of the grain
abbrev pub IsReachedGrained : ℕ → Reached → Type 0
IsReachedGrained g r = IsMultiple g r.low × IsMultiple g r.loose

pub no_grain : (g : ℕ) → IsMultiple g 0
no_grain g = (0, omega arith)

pub passed_grained : (g : ℕ) (r next : Reached) (x : Block) → IsGrained g x → IsReachedGrained g r → next ≡ passed r x → IsReachedGrained g next
passed_grained g r next x fits reached is = subst (IsReachedGrained g) (sym is) (turn _)
  where
    turn : (b : Bool) → IsReachedGrained g (cond b (record { low = block_end x; loose = 0 }) (record { low = r.low; loose = r.loose + x.size }))
    turn true = (multiple_sum g x.at x.size fits.0 fits.1, no_grain g)
    turn false = (reached.0, multiple_sum g r.loose x.size reached.1 fits.1)

-- what is behind the i-th
pub rest_after : {A : Type 0} (xs : List A) (i : ℕ) (x : A) (rest : List A) → drop i xs ≡ x ∷ rest → drop (suc i) xs ≡ rest
rest_after [] zero x rest here = cc
rest_after [] (suc i) x rest here = cc
rest_after (y ∷ ys) zero x rest here = cc
rest_after (y ∷ ys) (suc i) x rest here = rest_after ys i x rest here

pub rest_is : (xs : List Block) (x : Block) (rest : List Block) (i : ℕ) → drop i xs ≡ x ∷ rest → drop (i + 1) xs ≡ rest
rest_is xs x rest i here = rw add-one (rest_after xs i x rest here)

-- what holds of each block holds of the i-th
pub each_here : (P : Block → Type 0) (xs : List Block) (x : Block) (rest : List Block) (i : ℕ) → drop i xs ≡ x ∷ rest → AllByRecursion P xs → P x
each_here P xs x rest zero here each = (subst (AllByRecursion P) here each).0
each_here P [] x rest (suc i) here each = cc
each_here P (y ∷ ys) x rest (suc i) here each = each_here P ys x rest i here each.1

-- some of the laid blocks are laid
pub laid_filter : (p : Block → Bool) (lo hi : ℕ) (xs : List Block) → IsLaid lo hi xs → IsLaid lo hi (filter p xs)
laid_filter p lo hi [] h = h
laid_filter p lo hi (x ∷ xs) h =
    let rest = laid_filter p (block_end x) hi xs h.2 in
    let one = h.0 in let two = h.1 in
    turn (p x) rest (IsLaid-from lo _ hi _ (omega arith) rest)
  where
    turn : (t : Bool) → IsLaid (block_end x) hi (filter p xs) → IsLaid lo hi (filter p xs) → IsLaid lo hi (cond t (x ∷ filter p xs) (filter p xs))
    turn true a b = (h.0, h.1, a)
    turn false a b = b

module _ (p : Block → Bool) (hi : ℕ) (xs : List Block) (total : ℕ) where
  -- what holds before the i-th block
  pub record IsPassed (i most low loose : ℕ) : Type 0 where
    pub laid : IsLaid (low + loose) hi (drop i xs)
    pub same : scan hi most low loose (filter p (drop i xs)) ≡ total

  -- a turn of the pass, at the i-th block
  module _ (x : Block) (rest : List Block) (i : ℕ) (here : drop i xs ≡ x ∷ rest) (most : ℕ) (r : Reached) (now : IsPassed i most r.low r.loose) where
    cut : drop i xs ≡ x ∷ drop (i + 1) xs
    cut = here ∙ ap (λ (ys : List Block). x ∷ ys) (sym (rest_is xs x rest i here))

    pub laid_now : (r.low + r.loose ≤ x.at) × (0 < x.size) × IsLaid (block_end x) hi (drop (i + 1) xs)
    laid_now = subst (IsLaid (r.low + r.loose) hi) cut now.laid

    pub reaches_now : r.low + r.loose ≤ x.at
    reaches_now = laid_now.0

    pub ends_now : block_end x ≤ hi
    ends_now = laid_le _ hi (drop (i + 1) xs) laid_now.2

    pub fits_now : hi < 2 ^ 32 → (block_end x < 2 ^ 32) × (r.loose + x.size < 2 ^ 32)
    fits_now small = let end = ends_now in let above = laid_now.0 in (omega arith, omega arith)

    scan_here : (b : Bool) → p x ≡ b → scan hi most r.low r.loose (cond b (x ∷ filter p (drop (i + 1) xs)) (filter p (drop (i + 1) xs))) ≡ total
    scan_here b e =
        sym (ap (λ ys. scan hi most r.low r.loose (filter p ys)) cut ∙ ap (λ v. scan hi most r.low r.loose (cond v (x ∷ filter p (drop (i + 1) xs)) (filter p (drop (i + 1) xs)))) e) ∙ now.same

    pub turn_skipped : p x ≡ false → IsPassed (i + 1) most r.low r.loose
    turn_skipped e = record {
      laid = let one = laid_now.0 in let two = laid_now.1 in IsLaid-from _ _ hi (drop (i + 1) xs) (omega arith) laid_now.2;
      same = scan_here false e;
    }

    pub turn_pinned : p x ≡ true → is_pinned x ≡ true → (most' : ℕ) → most' ≡ max most (x.at - r.low - r.loose) → (r' : Reached) → r' ≡ passed r x → IsPassed (i + 1) most' r'.low r'.loose
    turn_pinned e k most' m r' q =
        let now' : IsPassed (i + 1) (max most (x.at - r.low - r.loose)) (block_end x) 0 = record {
          laid = subst (λ v. IsLaid v hi (drop (i + 1) xs)) (omega arith) laid_now.2;
          same = sym (cond-true (is_pinned x) _ _ k) ∙ scan_here true e;
        } in
        let is : r' ≡ record { low = block_end x; loose = 0 } = q ∙ cond-true (is_pinned x) _ _ k in
        subst (λ (v : Reached). IsPassed (i + 1) most' v.low v.loose) (sym is) (subst (λ (v : ℕ). IsPassed (i + 1) v (block_end x) 0) (sym m) now')

    pub turn_loose : p x ≡ true → is_pinned x ≡ false → (most' : ℕ) → most' ≡ most → (r' : Reached) → r' ≡ passed r x → IsPassed (i + 1) most' r'.low r'.loose
    turn_loose e k most' m r' q =
        let now' : IsPassed (i + 1) most r.low (r.loose + x.size) = record {
          laid = let one = laid_now.0 in IsLaid-from (r.low + (r.loose + x.size)) _ hi (drop (i + 1) xs) (omega arith) laid_now.2;
          same = sym (cond-false (is_pinned x) _ _ k) ∙ scan_here true e;
        } in
        let is : r' ≡ record { low = r.low; loose = r.loose + x.size } = q ∙ cond-false (is_pinned x) _ _ k in
        subst (λ (v : Reached). IsPassed (i + 1) most' v.low v.loose) (sym is) (subst (λ (v : ℕ). IsPassed (i + 1) v r.low (r.loose + x.size)) (sym m) now')

  -- behind the last block
  module _ (i : ℕ) (none : drop i xs ≡ []) (most : ℕ) (r : Reached) (now : IsPassed i most r.low r.loose) where
    pub ends_now_all : r.low + r.loose ≤ hi
    ends_now_all = subst (IsLaid (r.low + r.loose) hi) none now.laid

    pub passed_end : (result : ℕ) → result ≡ max most (hi - r.low - r.loose) → result ≡ total
    passed_end result is = is ∙ subst (λ (ys : List Block). scan hi most r.low r.loose (filter p ys) ≡ total) none now.same

pub passed_start : (p : Block → Bool) (lo hi : ℕ) (xs : List Block) → IsLaid lo hi xs → IsPassed p hi xs (room lo hi (filter p xs)) 0 0 lo 0
passed_start p lo hi xs laid = record {
  laid = subst (λ v. IsLaid v hi xs) (omega arith) laid;
  same = scan-room lo hi (filter p xs) (laid_filter p lo hi xs laid);
}

pub ids_below : (cap : ℕ) (xs : List Block) → AreNamed cap xs → AllByRecursion (λ x. x.id < cap) xs
ids_below cap [] named = tt
ids_below cap (x ∷ xs) named = (named.0, ids_below cap xs named.2)

pub id_here : (cap : ℕ) (xs : List Block) (x : Block) (rest : List Block) (i : ℕ) → drop i xs ≡ x ∷ rest → AreNamed cap xs → x.id < cap
id_here cap xs x rest i here named = each_here (λ y. y.id < cap) xs x rest i here (ids_below cap xs named)
