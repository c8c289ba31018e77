-- Local heaps go with their segments.
use Rattle.w16_machine.proofs
use proofs.Common as C
use proofs.Common.{◌≡◌, ℕ, ◌≤◌, Bool, true, false, cond, List, length, Option, Some, None, refl, sym, ap, ◌∙◌, subst, bytes_at, Table}
use proofs.{LocalLeft.left_over, LocalLeft.left_is}
use Rattle.std.specs.FinMap as finmap

-- a heap is left exactly where its range is inside
pub left_inside : (p : Option Table) (b : Option (List ℕ)) (t : Table) → left_over p b ≡ Some t → (p ≡ Some t) × C.IsSomeAnd b (λ bytes. t.hi ≤ length bytes)
left_inside None b t e = cc
left_inside (Some s) None t e = cc
left_inside (Some s) (Some bytes) t e = turn _ refl e
  where
    turn : (l : Bool) → C.nat_le s.hi (length bytes) ≡ l → ◌≡◌ {A = Option Table} (cond l (Some s) None) (Some t) → (Some s ≡ Some t) × (t.hi ≤ length bytes)
    turn true l e = let same : s ≡ t = cc in (e, subst (λ (t : Table). t.hi ≤ length bytes) same (C.leb-true _ _ l))
    turn false l e = cc

inside_left : (b : Option (List ℕ)) (t : Table) → C.IsSomeAnd b (λ bytes. t.hi ≤ length bytes) → left_over (Some t) b ≡ Some t
inside_left None t h = absurd h
inside_left (Some bytes) t h = ap (λ l. cond {A = Option _} l (Some t) None) (C.le-leb _ _ h)

pub goes_law : (honest : Type 0) → C.GoesLaw honest
goes_law honest format old new command reply step slot t = (
  (λ e. left_inside _ _ t (sym is ∙ e)),
  (λ h. is ∙ ap (λ p. left_over p (bytes_at new.loading.handles.heap slot)) h.0 ∙ inside_left _ t h.1),
)
  where
    is : finmap.get new.heaps slot ≡ left_over (finmap.get old.heaps slot) (bytes_at new.loading.handles.heap slot)
    is = ap (λ w. finmap.get w.heaps slot) step.1 ∙ left_is new.loading.handles.heap _ slot
