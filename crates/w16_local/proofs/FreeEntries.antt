-- Entries, of which those up to a number are kept.
use Rattle.std.proofs.lemmas.List as M
use Rattle.std.proofs.Common.{ℕ, ◌≡◌, ◌<◌, ◌≤◌, ◌+◌, ◌-◌, ◌++◌, ◌∷◌, List, [], suc, length, take, replicate, set, get_or, nat_le, max, ◌⊎◌, true, false, Option, Some, None, if◌then◌else◌, arith, refl, sym, ap, ◌∙◌, inl, inr}
use Rattle.std.proofs.{lemmas.Bool.cases_lt, lemmas.Bool.lt-ltb, lemmas.List.Sums.position_or_len_is, Math.Seq.take-set-lt, Math.Seq.take-suc-set, Math.Seq.set-append_seam}
use Rattle.std.specs.List.{position, position_or_len}
use Rattle.w16_local.specs.FreeEntries.{all_of, AreKept}
use Rattle.w16_local.proofs.Common as C

module _ {used : ℕ} {kept : List ℕ} (is : AreKept used kept) where
  front : length (take used kept) ≡ used
  front = let a = M.length-take used kept in let m = is.many in let f = is.few in omega arith

  pub all_length : length (all_of used kept) ≡ 1024
  all_length = let zs : List ℕ = replicate (1024 - used) 1 in let e : length zs ≡ 1024 - used = M.length-replicate (1024 - used) 1 in let a = M.length-append (take used kept) zs in let b = front in let f = is.few in omega arith

  below : (k : ℕ) → k < used → get_or (all_of used kept) k 0 ≡ get_or kept k 0
  below k lt = let b = front in M.get_or_append_left (take used kept) (replicate (1024 - used) 1) 0 k (omega arith) ∙ M.get_or-take used kept k 0 lt

  first_used : used < 1024 → get_or (all_of used kept) used 0 ≡ 1
  first_used lt =
      let b = front in let e : length (take used kept) + 0 ≡ used = omega arith in
      ap (λ k. get_or (all_of used kept) k 0) (sym e) ∙ M.get_or-append-add (take used kept) (replicate (1024 - used) 1) 0 0 ∙ M.get_or-replicate (1024 - used) 0 1 0 (omega arith)

  at : (i : ℕ) → i < 1024 → nat_le 1 (get_or (all_of used kept) i 0) ≡ true → ((k : ℕ) → k < i → nat_le 1 (get_or (all_of used kept) k 0) ≡ false) → Some i ≡ position (nat_le 1) (all_of used kept)
  at i lt here before =
      let n = all_length in
      rw (position_or_len_is (nat_le 1) (all_of used kept) i 0 (omega arith) before (λ _. here), lt-ltb i (length (all_of used kept)) (omega arith)) refl

  pub found : (i : ℕ) → position (nat_le 1) kept ≡ Some i → Some i ≡ position (nat_le 1) (all_of used kept)
  found i e =
      let p : (i < length kept) × (nat_le 1 (get_or kept i 0) ≡ true) × ((k : ℕ) → k < i → nat_le 1 (get_or kept k 0) ≡ false) = C.position-Some (nat_le 1) kept i 0 e in
      let m = is.many in
      elim (cases_lt i used) [
        | inl lt ↦ at i (let f = is.few in omega arith) (ap (nat_le 1) (below i lt) ∙ p.1) (λ k less. ap (nat_le 1) (below k (omega arith)) ∙ p.2 k less)
        | inr le ↦ absurd (C.false≢true (sym (ap (nat_le 1) (is.rest i le)) ∙ p.1))
      ]

  none_kept : position (nat_le 1) kept ≡ None → (k : ℕ) → k < used → nat_le 1 (get_or (all_of used kept) k 0) ≡ false
  none_kept e k lt = ap (nat_le 1) (below k lt) ∙ C.fails_before_first (nat_le 1) kept k 0 (elim (cases_lt (position_or_len (nat_le 1) kept) (length kept)) [
    | inl less ↦ absurd (some (sym (ap (λ b. if b then Some (position_or_len (nat_le 1) kept) else None) (lt-ltb (position_or_len (nat_le 1) kept) (length kept) less)) ∙ e))
    | inr not ↦ let m = is.many in let f = is.few in omega arith
  ])
    where
      some : {x : ℕ} → ◌≡◌ {A = Option ℕ} (Some x) None → ⊥
      some e = cc

  pub next : position (nat_le 1) kept ≡ None → used < 1024 → Some used ≡ position (nat_le 1) (all_of used kept)
  next e lt = at used lt (ap (nat_le 1) (first_used lt)) (none_kept e)

  pub nothing : position (nat_le 1) kept ≡ None → 1024 ≤ used → None ≡ position (nat_le 1) (all_of used kept)
  nothing e le =
      let n = all_length in let f = is.few in let a : used ≡ 1024 = omega arith in
      rw (position_or_len_is (nat_le 1) (all_of used kept) 1024 0 (omega arith) (λ k lt. none_kept e k (omega arith)) (λ lt. absurd (omega arith)), C.le-ltb 1024 (length (all_of used kept)) (omega arith)) refl

-- the rest of the entries begins with one
ones : (used : ℕ) → used < 1024 → replicate {A = ℕ} (1024 - used) 1 ≡ 1 ∷ replicate (1024 - (used + 1)) 1
ones used lt = ap (λ n. replicate {A = ℕ} n 1) (let e : 1024 - used ≡ suc (1024 - (used + 1)) = omega arith in e)

-- one more is kept
pub kept_more : (used y : ℕ) (kept : List ℕ) → length kept ≡ 1024 → used < 1024 → all_of (used + 1) (set kept used y) ≡ take used kept ++ y ∷ replicate (1024 - (used + 1)) 1
kept_more used y kept many lt =
    ap (λ n. take n (set kept used y) ++ replicate (1024 - (used + 1)) 1) (let e : used + 1 ≡ suc used = omega arith in e)
    ∙ ap (λ xs. xs ++ replicate (1024 - (used + 1)) 1) (take-suc-set kept used y (omega arith))
    ∙ M.append_assoc (take used kept) (y ∷ []) (replicate (1024 - (used + 1)) 1)

pub kept_free : (used : ℕ) (kept : List ℕ) → length kept ≡ 1024 → used < 1024 → all_of (used + 1) (set kept used 1) ≡ all_of used kept
kept_free used kept many lt = kept_more used 1 kept many lt ∙ ap (λ xs. take used kept ++ xs) (sym (ones used lt))

pub set_last : (used y : ℕ) (kept : List ℕ) → length kept ≡ 1024 → used < 1024 → all_of (used + 1) (set kept used y) ≡ set (all_of used kept) used y
set_last used y kept many lt =
    let a = M.length-take used kept in let e : length (take used kept) ≡ used = omega arith in
    kept_more used y kept many lt
    ∙ sym (set-append_seam (take used kept) 1 (replicate (1024 - (used + 1)) 1) y)
    ∙ ap (λ n. set (take used kept ++ 1 ∷ replicate (1024 - (used + 1)) 1) n y) e
    ∙ ap (λ xs. set (take used kept ++ xs) used y) (sym (ones used lt))

pub set_kept : (used i y : ℕ) (kept : List ℕ) → length kept ≡ 1024 → used ≤ 1024 → i < used → all_of used (set kept i y) ≡ set (all_of used kept) i y
set_kept used i y kept many few lt =
    let a = M.length-take used kept in
    ap (λ xs. xs ++ replicate (1024 - used) 1) (take-set-lt used kept i y lt)
    ∙ sym (M.set-append_left (take used kept) (replicate (1024 - used) 1) i y (omega arith))

-- an entry is changed, where those up to it are kept, or none after it is
pub set_at : (used free entry y : ℕ) (kept : List ℕ) → length kept ≡ 1024 → used ≤ free → entry ≤ free → (free ≤ entry) ⊎ (free ≡ used) → entry < 1024 → used ≤ 1024 → all_of (max used (entry + 1)) (set kept entry y) ≡ set (all_of free kept) entry y
set_at used free entry y kept many low ends upto inside few = elim (cases_lt entry free) [
  | inl lt ↦ elim upto [
    | inl le ↦ absurd (omega arith)
    | inr same ↦ ap (λ n. all_of n (set kept entry y)) (let e : max used (entry + 1) ≡ free = omega arith in e) ∙ set_kept free entry y kept many (omega arith) lt
  ]
  | inr ge ↦
      let e : free ≡ entry = omega arith in
      ap (λ n. all_of n (set kept entry y)) (let m : max used (entry + 1) ≡ entry + 1 = omega arith in m)
      ∙ set_last entry y kept many inside ∙ ap (λ n. set (all_of n kept) entry y) (sym e)
]

pub zeros_kept : AreKept 0 (replicate 1024 0)
zeros_kept = let zs : List ℕ = replicate 1024 0 in let e : length zs ≡ 1024 = M.length-replicate {A = ℕ} 1024 0 in record {
  many = e;
  few = omega arith;
  rest = λ k le. elim (cases_lt k 1024) [ inl lt ↦ M.get_or-replicate 1024 k 0 0 lt | inr ge ↦ M.get_or_past zs k 0 (omega arith) ];
}
