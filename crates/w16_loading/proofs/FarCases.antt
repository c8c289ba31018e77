-- A far access, by cases: it is refused, or it touches its object, and a write puts its bytes there first.
use Rattle.w16_loading.proofs.Common as C
use Rattle.w16_loading.proofs.Common.{◌≡◌, ℕ, Bool, true, false, cond, List, length, Some, None, refl, part, after_touch, Handles, refuses_write, FarAnswer, far_fault, far_slot, far_at}
use Rattle.w16_model.specs.declared.FarFault.TheVariants as faults
use Rattle.w16_model.specs.Far as far_access

module _ (P : C.LoadingWorld → Type 0) (world : C.LoadingWorld) (good : P world) (selector offset : ℕ) where
  abbrev slot : ℕ
  slot = far_slot world.handles selector

  pub read_cases : (n : ℕ) → P (C.with_heap world (after_touch world.handles.heap (far_slot world.handles selector))) → P (C.far_read selector offset n world).1
  read_cases n touched = turn (far_fault world.handles selector offset n)
    where
      turn : (p : C.Option C.FarFault) → P (record world {
        handles = (elim p as (λ _. FarAnswer × Handles) [
          | Some fault ↦ (FarAnswer.Fault fault, world.handles)
          | None ↦ (FarAnswer.Bytes (part (C.far_bytes world.handles selector) (far_at world.handles selector offset) n), record world.handles { heap = after_touch world.handles.heap (far_slot world.handles selector) })
        ]).1;
      })
      turn (Some fault) = good
      turn None = touched

  pub write_cases : (slice : List ℕ) → (refuses_write world.handles selector ≡ false → far_fault world.handles selector offset (length slice) ≡ None → P (C.with_heap world (after_touch (C.after_write world.handles.heap slot (far_at world.handles selector offset) slice) slot)))
      → P (C.far_write selector offset slice world).1
  write_cases slice written = by_test (refuses_write world.handles selector) refl
    where
      turn : refuses_write world.handles selector ≡ false → (p : C.Option C.FarFault) → far_fault world.handles selector offset (length slice) ≡ p → P (record world {
        handles = (elim p as (λ _. FarAnswer × Handles) [
          | Some fault ↦ (FarAnswer.Fault fault, world.handles)
          | None ↦ (FarAnswer.Done, record world.handles { heap = after_touch (C.after_write world.handles.heap (far_slot world.handles selector) (far_at world.handles selector offset) slice) (far_slot world.handles selector) })
        ]).1;
      })
      turn t (Some fault) e = good
      turn t None e = written t e

      by_test : (b : Bool) → refuses_write world.handles selector ≡ b → P (record world { handles = (cond {A = FarAnswer × Handles} b (FarAnswer.Fault faults.ReadOnly, world.handles) (far_access.data_write world.handles selector offset slice)).1 })
      by_test true t = good
      by_test false t = turn t (far_fault world.handles selector offset (length slice)) refl
