-- The bytes of an object that got longer: those that it had came along, and those behind them are new.
use Rattle.w16_arena.proofs
use proofs.Common as C
use proofs.Common.{◌≡◌, ℕ, ◌+◌, ◌-◌, ◌<◌, ◌≤◌, inl, inr, Bool, if◌then◌else◌, List, ◌++◌, take, drop, slice_range, All, Some, refl, sym, ap, ◌∙◌, subst, arith, Kind, part, range_part}
use proofs.Cleared.{Makes, makes, fresh}

-- a part by two
part_two : (xs : List ℕ) (at k m : ℕ) → part xs at (k + m) ≡ part xs at k ++ part xs (at + k) m
part_two xs at k m =
    sym (C.take-append-drop k _)
    ∙ (λ i. C.take-take k (k + m) (drop at xs) (omega arith) i ++ C.drop-take k m (drop at xs) i)
    ∙ ap (λ ys. take k (drop at xs) ++ take m ys) (C.drop-drop k at xs)

module _ (at k n : ℕ) (mid after : List ℕ) (more : k < n) (le : at + n ≤ C.length mid) (are : All (λ b. b < 256) mid) (zero : Bool)
    (filled : after ≡ (if zero then C.put_part mid (at + k) (C.repeated (n - k) 0) else mid)) where
  end : at + k + (n - k) ≡ at + n
  end = omega arith

  behind : Makes (at + k) (n - k) mid after
  behind = makes (at + k) (n - k) mid after (omega arith) are zero filled

  -- all but the longer place is as it was
  pub made : Makes at n mid after
  made = record { long = behind.long; bytes = behind.bytes; others = λ p s m. behind.others p s (wider p s m) }
    where
      wider : (p s : ℕ) → C.Misses p s at (at + n) → C.Misses p s (at + k) (at + k + (n - k))
      wider p s (inl below) = inl (omega arith)
      wider p s (inr above) = inr (omega (arith, end))

  -- the object's own bytes, and new ones
  module _ (own : List ℕ) (size : C.length own ≡ k) (came : part mid at k ≡ own) where
    abbrev new : List ℕ
    new = slice_range after (at + k) (at + k + (n - k))

    bytes_are : slice_range after at (at + n) ≡ own ++ new
    bytes_are =
        range_part after at n ∙ ap (part after at) (let e : n ≡ k + (n - k) = omega arith in e) ∙ part_two after at k (n - k)
        ∙ (λ i. (sym (range_part after at k) ∙ behind.others at k (inl (omega arith)) ∙ range_part mid at k ∙ came) i ++ sym (range_part after (at + k) (n - k)) i)

    pub is_grown : (kind : Kind) (locks : ℕ) → C.IsGrown zero n (record { kind = kind; locks = locks; bytes = Some own }) (record { kind = kind; locks = locks; bytes = Some (slice_range after at (at + n)) })
    is_grown kind locks = record {
      same_kind = refl;
      same_locks = refl;
      grown = (new, subst (λ s. C.AreNew zero (n - s) new) (sym size) (fresh (at + k) (n - k) mid after (omega arith) are zero filled), ap Some bytes_are);
    }
