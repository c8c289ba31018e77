use Rattle.w16_loader.proofs.Common as C
use Rattle.w16_loader.proofs.Common.{◌≡◌, ◌-◌, ◌≤◌, inl, inr, ℕ, List, [], ◌++◌, length, take, drop, get_or, refl, sym, ◌∙◌, ap, arith, replicate, min}
use Rattle.std.proofs.Common.{take_all, length-drop}
use borrow.Rule.Slice.PartMut.{put_mid}
use Rattle.w16_loader.proofs.segment_work.copy_padded.Goals as goal

zero_at : (k i : ℕ) → get_or {A = ℕ} (replicate {A = ℕ} k 0) i 0 ≡ 0
zero_at k i = elim (C.cases_lt i k) [
  | inl lt ↦ C.get_or-replicate k i 0 0 lt
  | inr le ↦ C.get_or_past _ i 0 (omega (arith, le, length_zeros k))
]
  where
    length_zeros : (k : ℕ) → length (replicate {A = ℕ} k 0) ≡ k
    length_zeros k = C.length-replicate k 0

-- bytes over which a whole list was put, and zeros after it
placed : (source b s z : List ℕ) (n m : ℕ) → n ≡ length source → s ≡ take n source → z ≡ replicate m 0 → (o : ℕ)
    → get_or (put_mid n (length (s ++ drop n b) - n) (s ++ drop n b) z) o 0 ≡ get_or source o 0
placed source b s z n m e is zeros o =
    let whole = is ∙ take_all n source (omega (arith, e)) in
    let long = ap length whole ∙ sym e in
    let xs = s ++ drop n b in
    let front = C.take_at s _ n long in
    let back = C.drop_all (length xs - n) (drop n xs) (omega (arith, length-drop n xs)) in
    let all = (λ i. front i ++ (z ++ back i)) ∙ (λ i. whole i ++ C.append-nil z i) in
    ap (λ l. get_or l o 0) all ∙ elim (C.cases_lt o _) [
      | inl lt ↦ C.get_or_append_left source z 0 o lt
      | inr le ↦ C.get_or-append_right source z _ o 0 refl le ∙ ap (λ l. get_or l (o - length source) 0) zeros ∙ zero_at m _ ∙ sym (C.get_or_past source o 0 le)
    ]

shorter : (m n k : ℕ) → k ≡ min m n → m ≤ n → k ≡ m
shorter m n k e le = grind arith

pub returns-clause-placed : goal.returns-clause-placed
returns-clause-placed c = λ le o.
    placed _ c.args.bytes.now c.copy_from_slice.new.self _ c.min-len.result _ (shorter _ _ _ c.min-len.ensures le) c.copy_from_slice.ensures.after
    (c.fill.ensures.after (λ y same. same)) o
