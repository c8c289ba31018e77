use Rattle.w16_reloc.proofs.Common.{◌≡◌, ℕ, suc, zero, ◌+◌, ◌-◌, ◌%◌, ◌/◌, ◌∙◌, ap, ◌<◌, [], ◌∷◌, cond, refl, arith, get_or, nat_lt, nat_le, ◌&&◌, nat_tests}
use Rattle.w16_reloc.proofs.value.write.Goals as goal

four : (a b c d k : ℕ) → k < 4 → get_or (a ∷ b ∷ c ∷ d ∷ []) k 0 ≡ cond (nat_lt k 2) (get_or (a ∷ b ∷ []) k 0) (get_or (c ∷ d ∷ []) (k - 2) 0)
four a b c d zero lt = refl
four a b c d (suc zero) lt = refl
four a b c d (suc (suc zero)) lt = refl
four a b c d (suc (suc (suc zero))) lt = refl
four a b c d (suc (suc (suc (suc k)))) lt = absurd (omega arith)

-- two words, one after the other, are four bytes
two_words : (a b c d at o old : ℕ) → cond (nat_le (at + 2) o && nat_lt o (at + 2 + 2)) (get_or (c ∷ d ∷ []) (o - (at + 2)) 0) (cond (nat_le at o && nat_lt o (at + 2)) (get_or (a ∷ b ∷ []) (o - at) 0) old)
    ≡ cond (nat_le at o && nat_lt o (at + 4)) (get_or (a ∷ b ∷ c ∷ d ∷ []) (o - at) 0) old
two_words a b c d at o old =
    let same : o - (at + 2) ≡ o - at - 2 = omega arith in
    rw same (grind (arith, nat_tests, four a b c d (o - at)))

pointer_written : (offset selector at o new mid old : ℕ) → new ≡ cond (nat_le (at + 2) o && nat_lt o (at + 2 + 2)) (get_or (selector % 256 ∷ selector / 256 ∷ []) (o - (at + 2)) 0) mid
    → mid ≡ cond (nat_le at o && nat_lt o (at + 2)) (get_or (offset % 256 ∷ offset / 256 ∷ []) (o - at) 0) old
    → new ≡ cond (nat_le at o && nat_lt o (at + 4)) (get_or (offset % 256 ∷ offset / 256 ∷ selector % 256 ∷ selector / 256 ∷ []) (o - at) 0) old
pointer_written offset selector at o new mid old second first = second ∙ ap (λ m. cond (nat_le (at + 2) o && nat_lt o (at + 2 + 2)) (get_or (selector % 256 ∷ selector / 256 ∷ []) (o - (at + 2)) 0) m) first
    ∙ two_words (offset % 256) (offset / 256) (selector % 256) (selector / 256) at o old

pub returns-in-Pointer : goal.returns-in-Pointer
returns-in-Pointer c = λ o. rw c.in-Pointer.is (pointer_written c.args.far.offset c.args.far.selector c.args.at o _ _ _ (c.set_word-in-Pointer-2.ensures o) (c.set_word-in-Pointer.ensures o))
