use Rattle.w16_arena.proofs.Common.{◌≡◌, ℕ, inl, inr, Some, IfSome, IsMultiple, subst, sym, arith, cases_lt}
use Rattle.std.specs.Prelude.{max}
use Rattle.w16_holes.proofs.Units.{multiple_sum}
use Rattle.w16_arena.proofs.ends.end_for.Goals as goal
use Rattle.w16_arena.proofs.ends.end_for.Goals.{then-n-stretch, else-n-stretch+in_ok-stretch+in_ok-checked_add}

multiple_max : (g a b : ℕ) → IsMultiple g a → IsMultiple g b → IsMultiple g (max a b)
multiple_max g a b one two = elim (cases_lt a b) [ inl less ↦ subst (IsMultiple g) (omega arith) two | inr ge ↦ subst (IsMultiple g) (omega arith) one ]

pub returns-then-end-le-LAST_END-clause-grained : goal.returns-then-end-le-LAST_END-clause-grained
returns-then-end-le-LAST_END-clause-grained c = λ grain hi n last. elim c.if-n-stretch.branch [
  | then-n-stretch w ↦ subst (IsMultiple grain) (sym w.end-is) hi
  | else-n-stretch+in_ok-stretch+in_ok-checked_add w ↦
      let place = w.in_ok-stretch.field-0 in
      let at = subst (λ p. IfSome p (IsMultiple grain)) (w.in_ok-stretch.was) last in
      let sum = subst (IsMultiple grain) (sym w.in_ok-checked_add.ensures.1) (multiple_sum grain place _ at n) in
      subst (IsMultiple grain) (sym w.end-is) (subst (IsMultiple grain) (sym w.max-end.ensures) (multiple_max grain _ _ sum hi))
]
