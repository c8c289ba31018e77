-- What the search for a hole tells of the table's heap.
use Rattle.w16_arena.proofs
use proofs.Common as C
use proofs.Common.{find, ◌≡◌, ℕ, ◌+◌, ◌-◌, ◌*◌, ◌<◌, ◌≤◌, inl, inr, Bool, true, false, cond, nat_le, IsTrue, List, [], ◌∷◌, map, Some, None, option_map, refl, sym, ap, subst, arith, zero, suc, Block, Span, block_end, is_any, starts, holes, longest_hole, Misses, IsMultiple, Member, Each-at}
use Rattle.std.specs.List.{AllByRecursion as Each}

-- what passes, where it is found; and where nothing is, none passes
found_member : (p : Span → Bool) (ss : List Span) (s : Span) → find p ss ≡ Some s → Member s ss × IsTrue (p s)
found_member p [] s e = cc
found_member p (x ∷ ss) s e =
    elim (p x) as (λ b. p x ≡ b → cond b (Some x) (find p ss) ≡ Some s → Member s (x ∷ ss) × IsTrue (p s)) [
      | true ↦ λ t h. let same : x ≡ s = cc in (inl (sym same), subst (λ (y : Span). IsTrue (p y)) same t)
      | false ↦ λ t h. let r = found_member p ss s h in (inr r.0, r.1)
    ] refl e

none_passes : (p : Span → Bool) (ss : List Span) → find p ss ≡ None → Each (λ s. p s ≡ false) ss
none_passes p [] e = tt
none_passes p (x ∷ ss) e =
    elim (p x) as (λ b. p x ≡ b → cond b (Some x) (find p ss) ≡ None → Each (λ s. p s ≡ false) (x ∷ ss)) [
      | true ↦ λ t h. cc
      | false ↦ λ t h. (t, none_passes p ss h)
    ] refl e

member_at : (ss : List Span) (s : Span) (k : ℕ) → k < C.length ss → C.get_or ss k s ≡ s → Member s ss
member_at [] s k lt e = absurd (omega arith)
member_at (x ∷ ss) s zero lt e = inl (sym e)
member_at (x ∷ ss) s (suc k) lt e = inr (member_at ss s k (omega arith) e)

member_of : (ss : List Span) (s : Span) → C.Contains ss s → Member s ss
member_of ss s c = member_at ss s c.0 c.1 c.2

member_mapped : {X Y : Type 0} (f : X → Y) (xs : List X) (y : Y) → Member y (map f xs) → (x : X) × Member x xs × (f x ≡ y)
member_mapped f [] y m = absurd m
member_mapped f (x ∷ xs) y (inl e) = (x, inl refl, sym e)
member_mapped {X} f (x ∷ xs) y (inr m) = let r = member_mapped f xs y m in (r.0, inr r.1, r.2)

module _ (lo hi grain : ℕ) (xs : List Block) (placed : C.ArePlaced lo hi xs) (low : IsMultiple grain lo) (grained : Each (λ x. IsMultiple grain x.at × IsMultiple grain x.size) xs) where
  -- a hole begins at a multiple of the grain
  end_grained : (x : Block) → IsMultiple grain x.at × IsMultiple grain x.size → IsMultiple grain (block_end x)
  end_grained x g = (g.0.0 + g.1.0, sum g.0.0 g.1.0 g.0.1 g.1.1)
    where
      sum : (m n : ℕ) → x.at ≡ grain * m → x.size ≡ grain * n → block_end x ≡ grain * (m + n)
      sum m n e f = omega (arith, e, f)

  starts_grained : Each (IsMultiple grain) (starts is_any lo xs)
  starts_grained = (
    low,
    C.Each-of_map (IsMultiple grain) block_end (C.filter is_any xs) (C.Each-from (λ x. IsMultiple grain (block_end x)) (C.filter is_any xs) (λ x m.
        end_grained x (Each-at (λ y. IsMultiple grain y.at × IsMultiple grain y.size) xs grained x (C.member_filter is_any xs x m).0))),
  )

  hole_grained : (s : Span) → Member s (holes lo hi xs) → IsMultiple grain s.from
  hole_grained s m =
      let listed = C.member_filter (λ (t : Span). C.nat_lt t.from t.to) (map (λ (a : ℕ). let t : Span = record { from = a; to = C.first_from is_any hi xs a } in t) (starts is_any lo xs)) s m in
      let start = member_mapped (λ (a : ℕ). let t : Span = record { from = a; to = C.first_from is_any hi xs a } in t) (starts is_any lo xs) s listed.0 in
      subst (IsMultiple grain) (ap (λ (t : Span). t.from) start.2) (Each-at (IsMultiple grain) (starts is_any lo xs) starts_grained start.0 start.1)

  -- where one is found it is clear, and begins at a multiple of the grain
  pub hole_found : (n at : ℕ) → Some at ≡ option_map (λ (s : Span). s.from) (find (λ s. nat_le n (s.to - s.from)) (holes lo hi xs))
      → (lo ≤ at) × (at + n ≤ hi) × IsMultiple grain at × Each (λ x. Misses x.at x.size at (at + n)) xs × (n ≤ longest_hole lo hi xs)
  hole_found n at e = from (find (λ s. nat_le n (s.to - s.from)) (holes lo hi xs)) refl e
    where
      shorter : (p size a b c : ℕ) → c ≤ b → a ≤ c → Misses p size a b → Misses p size a c
      shorter p size a b c h k m = grind arith

      from : (o : C.Option Span) → find (λ s. nat_le n (s.to - s.from)) (holes lo hi xs) ≡ o → Some at ≡ option_map (λ (s : Span). s.from) o
          → (lo ≤ at) × (at + n ≤ hi) × IsMultiple grain at × Each (λ x. Misses x.at x.size at (at + n)) xs × (n ≤ longest_hole lo hi xs)
      from None f g = cc
      from (Some s) f g =
          let same : at ≡ s.from = cc in
          let there : Member s (holes lo hi xs) × IsTrue (nat_le n (s.to - s.from)) = found_member (λ s. nat_le n (s.to - s.from)) (holes lo hi xs) s f in
          let long : n ≤ s.to - s.from = C.leb-true n (s.to - s.from) there.1 in
          let hole : C.IsHole lo hi xs s.from s.to = Each-at (λ (t : Span). C.IsHole lo hi xs t.from t.to) (holes lo hi xs) (C.Each-from_All _ (holes lo hi xs) (C.spans_are lo hi xs placed is_any).only) s there.0 in
          let some = hole.some in let above = hole.clear.above in let below = hole.clear.below in
          let most : s.to - s.from ≤ longest_hole lo hi xs = (C.hole_is_longest lo hi xs placed).none_longer s.from s.to hole in
          subst (λ a. (lo ≤ a) × (a + n ≤ hi) × IsMultiple grain a × Each (λ x. Misses x.at x.size a (a + n)) xs × (n ≤ longest_hole lo hi xs)) (sym same) (
            omega arith,
            omega arith,
            hole_grained s there.0,
            C.Each-map (λ x. IsTrue (is_any x) → Misses x.at x.size s.from s.to) (λ x. Misses x.at x.size s.from (s.from + n)) (λ x m. shorter x.at x.size s.from s.to (s.from + n) (omega arith) (omega arith) (m refl)) xs (C.Each-from_All _ xs hole.clear.misses),
            omega arith,
          )

  -- where none is, none is as long
  pub hole_none : (n : ℕ) → 0 < n → None ≡ option_map (λ (s : Span). s.from) (find (λ s. nat_le n (s.to - s.from)) (holes lo hi xs)) → longest_hole lo hi xs < n
  hole_none n some e = elim (C.cases_lt 0 (longest_hole lo hi xs)) [
    | inr none ↦ omega arith
    | inl long ↦
        let best = (C.hole_is_longest lo hi xs placed).one_as_long long in
        let listed : Member (record { from = best.0; to = best.1 }) (holes lo hi xs) = member_of (holes lo hi xs) (record { from = best.0; to = best.1 }) ((C.spans_are lo hi xs placed is_any).each best.0 best.1 best.2) in
        let short : nat_le n (best.1 - best.0) ≡ false = Each-at (λ (s : Span). nat_le n (s.to - s.from) ≡ false)
        (holes lo hi xs) (none_passes (λ s. nat_le n (s.to - s.from)) (holes lo hi xs)
        (nothing (find (λ s. nat_le n (s.to - s.from)) (holes lo hi xs)) e)) (record { from = best.0; to = best.1 })
        listed in
        omega (arith, C.leb-false n (best.1 - best.0) short, best.3)
  ]
    where
      nothing : (o : C.Option Span) → None ≡ option_map (λ (s : Span). s.from) o → o ≡ None
      nothing None h = refl
      nothing (Some s) h = cc
