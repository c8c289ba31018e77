-- What the end of a load comes to.
use Rattle.w16_resource.proofs
use proofs.Common as C
use proofs.Common.{Bool, LoadingWorld, None, Some, ap, arith, cond, false, freed_by, is_shared, locks_at, option_map, refl, sym, true, unwrap_or, without_load, ℕ, ◌%◌, ◌+◌, ◌-◌, ◌∙◌, ◌≡◌, ◌≤◌}
use proofs.Taken.{slot_gone}
use Rattle.std.specs.FinMap as finmap
use Rattle.w16_loading.specs.Modules as loading

module _ (old : LoadingWorld) (handle : ℕ) where
  module _ (x : ℕ × loading.Load) (e : C.slot_of_resource old handle ≡ Some x) where
    module _ (le : x.1.loads ≤ 1) where
      last : C.free_resource old handle ≡ cond {A = ℕ × LoadingWorld} (C.nat_lt 0 (locks_at old.handles.heap x.0)) (1, old) (0, without_load old x.0)
      last = ap (freed_by old) e ∙ ap (λ b. cond {A = ℕ × LoadingWorld} b (0, C.with_count old x.0 x.1 (x.1.loads - 1))
          (cond {A = ℕ × LoadingWorld} (C.nat_lt 0 (locks_at old.handles.heap x.0)) (1, old) (0, without_load old x.0))) (C.le-ltb 1 x.1.loads le)

      pub last_gone : locks_at old.handles.heap x.0 ≤ 0 → (0, record (C.with_handles old (C.without_slot old.handles x.0)) { loads = finmap.remove old.loads x.0 }) ≡ C.free_resource old handle
      last_gone none = (λ i. (0, record (slot_gone old x.0 i) { loads = finmap.remove old.loads x.0 }))
          ∙ sym (last ∙ ap (λ b. cond {A = ℕ × LoadingWorld} b (1, old) (0, without_load old x.0)) (C.le-ltb 0 (locks_at old.handles.heap x.0) none))

-- The low byte of GlobalFlags counts locks.
pub lock_count : (h : C.Handles) → C.AreHandles h → (handle slot : ℕ) → C.slot_of_handle h handle ≡ Some slot → C.global_flags h handle % 256 ≡ locks_at h.heap slot
lock_count h is handle slot e = ap (λ p. elim p as (λ _. ℕ) [ None ↦ 0 | Some s ↦ unwrap_or (option_map (C.flags_of (is_shared h s)) (C.object_at h.heap s)) 0 ] % 256) e
    ∙ by (C.object_at h.heap slot) (is.heap.counted slot)
  where
    low : (n : ℕ) → n ≤ 255 → (a b c : Bool) → (n + cond a 256 0 + cond b 8192 0 + cond c 0 16384) % 256 ≡ n
    low n le true true true = omega arith
    low n le true true false = omega arith
    low n le true false true = omega arith
    low n le true false false = omega arith
    low n le false true true = omega arith
    low n le false true false = omega arith
    low n le false false true = omega arith
    low n le false false false = omega arith

    by : (p : C.Option C.Object) → C.IfSome p C.IsCounted → unwrap_or (option_map (C.flags_of (is_shared h slot)) p) 0 % 256 ≡ unwrap_or (option_map (λ o. o.locks) p) 0
    by None c = refl
    by (Some o) c = low o.locks c.0 (C.is_discardable o.kind) (is_shared h slot) (C.is_some o.bytes)
