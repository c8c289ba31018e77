-- The order of use with an object taken out and put at its end.
use Rattle.w16_model.proofs.Gaps as M
use Rattle.w16_model.proofs.Common.{◌≡◌, ℕ, Bool, true, false, cond, not, ◌&&◌, ◌||◌, ◌==◌, List, [], ◌∷◌, ◌++◌, refl, sym, ap, ◌∙◌, AllPairs, inl, inr, eqb-true, eq-eqb, ne_eqb, false≢true, cases_eq, not-true, or_parts, all_pairs_push, is_member, without}

member_end : (q id : ℕ) (ids : List ℕ) → is_member q (ids ++ id ∷ []) ≡ (is_member q ids || (id == q))
member_end q id [] = or_none _
  where
    or_none : (b : Bool) → (b || false) ≡ b
    or_none true = refl
    or_none false = refl
member_end q id (x ∷ ids) = ap (λ b. (x == q) || b) (member_end q id ids) ∙ or_assoc (x == q) (is_member q ids) (id == q)
  where
    or_assoc : (a b c : Bool) → (a || (b || c)) ≡ ((a || b) || c)
    or_assoc true b c = refl
    or_assoc false b c = refl

truth : (a b c d e : Bool) → c ≡ (d && not e) → (a ≡ true → b ≡ true → e ≡ true) → (b ≡ true → e ≡ true → a ≡ true) → cond (not a) (b || c) c ≡ ((b || d) && not e)
truth true true c d e h f g = h ∙ ap (λ v. d && not v) (f refl refl) ∙ none d ∙ sym (ap not (f refl refl))
  where
    none : (d : Bool) → (d && not true) ≡ false
    none true = refl
    none false = refl
truth true false c d e h f g = h
truth false true c d true h f g = absurd (false≢true (g refl refl))
truth false true c d false h f g = refl
truth false false c d e h f g = h

member_choice : (q x : ℕ) (w : List ℕ) (t : Bool) → is_member q (cond {A = List ℕ} t (x ∷ w) w) ≡ cond t ((x == q) || is_member q w) (is_member q w)
member_choice q x w true = refl
member_choice q x w false = refl

pub member_without : (q id : ℕ) (ids : List ℕ) → is_member q (without id ids) ≡ (is_member q ids && not (q == id))
member_without q id [] = refl
member_without q id (x ∷ ids) =
    member_choice q x _ _
    ∙ truth _ (x == q) (is_member q _) (is_member q ids) _ (member_without q id ids)
    (λ e f. eq-eqb q id (sym (eqb-true x q f) ∙ eqb-true x id e)) (λ e f. eq-eqb x id (eqb-true x q e ∙ eqb-true q id f))

-- an id that isn't in the order need not be taken out
pub without_absent : (id : ℕ) (ids : List ℕ) → is_member id ids ≡ false → without id ids ≡ ids
without_absent id [] out = refl
without_absent id (x ∷ xs) out = let parts : ((x == id) ≡ false) × (is_member id xs ≡ false) = or_parts _ _ out in rw parts.0 (ap (λ ys. x ∷ ys) (without_absent id xs parts.1))

-- what is taken out isn't in it
pub member_gone : (id : ℕ) (ids : List ℕ) → is_member id (without id ids) ≡ false
member_gone id ids = member_without id id ids ∙ ap (λ b. is_member id ids && not b) (eq-eqb id id refl) ∙ none _
  where
    none : (b : Bool) → (b && false) ≡ false
    none true = refl
    none false = refl

-- at the end of the order, and only there
pub member_newest : (q id : ℕ) (ids : List ℕ) → is_member q (without id ids ++ id ∷ []) ≡ ((is_member q ids && not (q == id)) || (id == q))
member_newest q id ids = member_end q id _ ∙ ap (λ b. b || (id == q)) (member_without q id ids)

-- taken out and put at the end, none stands twice
pub newest_differ : (id : ℕ) (ids : List ℕ) → AllPairs (λ a b. a ≡ b → ⊥) ids → AllPairs (λ a b. a ≡ b → ⊥) (without id ids ++ id ∷ [])
newest_differ id ids h =
    all_pairs_push (λ a b. a ≡ b → ⊥) _ id
    (M.AllPairs-from_EachPair (λ a b. a ≡ b → ⊥) _ (M.pairs_filter (λ a b. a ≡ b → ⊥) (λ q. not _) ids (M.EachPair-from_AllPairs (λ a b. a ≡ b → ⊥) ids h)))
    (M.All-from_Each (λ q. q ≡ id → ⊥) _ (M.Each-from (λ q. q ≡ id → ⊥) _ (λ q m e.
    false≢true (sym (not-true _ (M.member_filter (λ q. not _) ids q m).1) ∙ eq-eqb q id e))))

-- at the begin of the order, and only there
pub member_oldest : (q id : ℕ) (ids : List ℕ) → is_member q (id ∷ without id ids) ≡ ((is_member q ids && not (q == id)) || (id == q))
member_oldest q id ids = ap (λ b. (id == q) || b) (member_without q id ids) ∙ swapped (id == q) (is_member q ids && not _)
  where
    swapped : (a b : Bool) → (a || b) ≡ (b || a)
    swapped true true = refl
    swapped true false = refl
    swapped false true = refl
    swapped false false = refl

-- taken out and put at the begin, none stands twice
pub oldest_differ : (id : ℕ) (ids : List ℕ) → AllPairs (λ a b. a ≡ b → ⊥) ids → AllPairs (λ a b. a ≡ b → ⊥) (id ∷ without id ids)
oldest_differ id ids h =
    M.AllPairs-from_EachPair (λ a b. a ≡ b → ⊥) (id ∷ without id ids) (
      M.Each-from (λ q. id ≡ q → ⊥) _ (λ q m e. false≢true (sym (not-true _ (M.member_filter (λ q. not _) ids q m).1) ∙ eq-eqb q id (sym e))),
      M.pairs_filter (λ a b. a ≡ b → ⊥) (λ q. not _) ids (M.EachPair-from_AllPairs (λ a b. a ≡ b → ⊥) ids h),
    )

-- a member that is taken out and put back leaves the members as they were
pub member_back : (id : ℕ) (ids : List ℕ) (q : ℕ) → is_member id ids ≡ true → ((is_member q ids && not (q == id)) || (id == q)) ≡ is_member q ids
member_back id ids q there = elim (cases_eq q id) [
  | inl e ↦ kept _ _ _ (λ _. ap (λ k. is_member k ids) e ∙ there) (eq-eqb q id e ∙ sym (eq-eqb id q (sym e)))
  | inr d ↦ kept _ _ _ (λ f. absurd (false≢true (sym (ne_eqb q id d) ∙ f))) (ne_eqb q id d ∙ sym (ne_eqb id q (λ e. d (sym e))))
]
  where
    kept : (m e f : Bool) → (e ≡ true → m ≡ true) → (e ≡ f) → ((m && not e) || f) ≡ m
    kept m true true h k = (λ i. (h refl i && false) || true) ∙ sym (h refl)
    kept m true false h k = cc
    kept m false true h k = cc
    kept true false false h k = refl
    kept false false false h k = refl
