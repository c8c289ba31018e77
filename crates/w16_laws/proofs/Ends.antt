-- A closure ends: each new module takes one of the free handles, and each reference is followed once.
use Rattle.w16_loading.proofs.Common.{◌≡◌, ℕ, zero, suc, ◌+◌, ◌<◌, ◌≤◌, inl, inr, ◌⊎◌, List, [], ◌∷◌, length, OrRefused, Ok, Err, IfOk, refl, sym, ap, subst, arith, length-append, Saying, Around, Closure}
use Rattle.w16_laws.proofs.Readings.{follow_cases}
use Rattle.w16_laws.specs.{Closing.followed, Closing.Closes, Loading.ClosureEndsLaw}
use Rattle.w16_laws.proofs.Readings as loads

module _ (says : Saying) (around : Around) where
  -- a reference that is followed finds no module, or takes a handle
  abbrev IsNext : Closure → Closure → Type 0
  IsNext closure next = ((next.pending ≡ closure.pending) × (length next.found ≡ length closure.found)) ⊎ ((length closure.found < around.free) × (length next.found ≡ length closure.found + 1))

  next : (closure : Closure) (place : ℕ) (name : List ℕ) → IfOk (followed says around closure place name) (IsNext closure)
  next closure place name = follow_cases says around (λ r. IfOk r (IsNext closure)) closure place name (λ referent. inl (refl, refl)) (λ b. tt) (λ read few. inr (few, length-append closure.found _))

  -- so it ends
  abbrev Ends : Closure → Type 0
  Ends closure = (outcome : OrRefused Closure) × Closes says around closure outcome

  abbrev EndsFrom : OrRefused Closure → Type 0
  EndsFrom r = (n : ℕ) × IfOk (loads.from_next says around n r) (λ c. c.pending ≡ [])

  -- d handles are left, and these references are pending
  abbrev Bounded : ℕ → Type 0
  Bounded d = (closure : Closure) → around.free ≤ d + length closure.found → Ends closure

  from_next : (closure : Closure) (x : ℕ × List ℕ) (rest : List (ℕ × List ℕ)) → closure.pending ≡ x ∷ rest → EndsFrom (followed says around (record closure { pending = rest }) x.0 x.1) → Ends closure
  from_next closure x rest e (n, ends) =
      (loads.from_next says around n (followed says around (record closure { pending = rest }) x.0 x.1), (suc n, ap (loads.from_list says around n closure) e, ends))

  by_list : (d : ℕ) → ((d' : ℕ) → d ≡ suc d' → Bounded d') → (p : List (ℕ × List ℕ)) (closure : Closure) → closure.pending ≡ p → around.free ≤ d + length closure.found → Ends closure
  by_list d less [] closure e bound = (Ok closure, (0, refl, e))
  by_list d less (x ∷ rest) closure e bound =
      from_next closure x rest e (turn (λ c same le. by_list d less rest c same le) (followed says around (record closure { pending = rest }) x.0 x.1) (next (record closure { pending = rest }) x.0 x.1))
    where
      ended : (c : Closure) → Ends c → EndsFrom (Ok c)
      ended c ends = (ends.1.0, subst (λ r. IfOk r (λ c. c.pending ≡ [])) (sym ends.1.1) ends.1.2)

      one_less : (k : ℕ) → d ≡ k → (c : Closure) → length closure.found < around.free → length c.found ≡ length closure.found + 1 → EndsFrom (Ok c)
      one_less zero same c lt long = absurd (omega (arith, bound, lt, same))
      one_less (suc k) same c lt long = ended c (less k same c (omega (arith, bound, long, same)))

      turn : ((c : Closure) → c.pending ≡ rest → around.free ≤ d + length c.found → Ends c) → (r : OrRefused Closure) → IfOk r (IsNext (record closure { pending = rest })) → EndsFrom r
      turn again (Err refusal) h = (0, tt)
      turn again (Ok c) (inl h) = ended c (again c h.0 (omega (arith, bound, h.1)))
      turn again (Ok c) (inr h) = one_less d refl c h.0 h.1

  bounded : (d : ℕ) → Bounded d
  bounded zero closure bound = by_list zero (λ d' e. absurd (omega (arith, e))) closure.pending closure refl bound
  bounded (suc d) closure bound = by_list (suc d) (λ d' e. subst Bounded (omega (arith, e)) (bounded d)) closure.pending closure refl bound

pub ends_law : ClosureEndsLaw
ends_law says around closure = bounded says around (around.free) closure (omega arith)
