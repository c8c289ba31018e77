-- Far accesses keep what holds of every world.
use Rattle.w16_loading.proofs
use proofs.Common as C
use proofs.Common.{◌≡◌, ◌≢◌, ℕ, ◌+◌, ◌<◌, ◌≤◌, inl, inr, ◌⊎◌, List, length, All, Some, None, IfSome, IsSomeAnd, option_map, refl, sym, ◌∙◌, subst, Kind, far_slot, after_write, LoadingWorld, far_read, far_write, IsLoadingWorld, far_at}
use proofs.{OwnedKept.SameOwned, FarCases.read_cases, FarCases.write_cases, KeptWorlds.IsOwned, KeptWorlds.world_stays}

-- what an access leaves of what modules own
abbrev LeavesOwned : LoadingWorld → LoadingWorld → Type 0
LeavesOwned old new = SameOwned old.handles new.handles × ((q : ℕ) (kind : Kind) (size : ℕ) → IsOwned old.handles.heap q kind size → IsOwned new.handles.heap q kind size)

all_left : (world : LoadingWorld) → LeavesOwned world world
all_left world = (λ q. refl, λ q kind size h. h)

pub read_world : (selector offset n : ℕ) (world : LoadingWorld) → IsLoadingWorld world → IsLoadingWorld (far_read selector offset n world).1
read_world selector offset n world is =
    let l = read_cases (LeavesOwned world) world (all_left world) selector offset n (λ q. refl, λ q kind size h. h) in
    world_stays world is (far_read selector offset n world).1.handles (C.read_handles world.handles is.handles selector offset n) l.0 (λ q kind size code h. l.1 q kind size h.object)

-- an object's bytes with a slice replaced
abbrev replaced : ℕ → List ℕ → C.Object → C.Object
replaced offset slice o = record o { bytes = option_map (λ bytes. C.put_part bytes offset slice) o.bytes }

write_owned : (old : C.Handles) (selector offset : ℕ) (slice : List ℕ) (q : ℕ) (kind : Kind) (size : ℕ) → IsOwned old.heap q kind size → C.far_fault old selector offset (length slice) ≡ None
    → IsOwned (C.after_touch (after_write old.heap (far_slot old selector) (far_at old selector offset) slice) (far_slot old selector)) q kind size
write_owned old selector offset slice q kind size h e = by_id (C.cases_eq q (far_slot old selector))
  where
    r : C.Reached old (far_slot old selector) (far_at old selector offset + length slice)
    r = C.reached old selector offset (length slice) e

    written : IsSomeAnd (C.object_at old.heap (far_slot old selector))
        (λ o. (o.kind ≡ kind) × IfSome o.bytes (λ b. length b ≡ size)) → IsSomeAnd
        (option_map (replaced (far_at old selector offset) slice) (C.object_at old.heap (far_slot old selector)))
        (λ o. (o.kind ≡ kind) × IfSome o.bytes (λ b. length b ≡ size))
    written k = subst (λ p. IsSomeAnd (option_map (replaced (far_at old selector offset) slice) p) (λ o. (o.kind ≡ kind) × IfSome o.bytes (λ b. length b ≡ size))) (sym r.there) (same.0, sized r.object.bytes r.has same.1)
      where
        same : (r.object.kind ≡ kind) × IfSome r.object.bytes (λ b. length b ≡ size)
        same = subst (λ p. IsSomeAnd p (λ o. (o.kind ≡ kind) × IfSome o.bytes (λ b. length b ≡ size))) r.there k

        sized : (p : C.Option (List ℕ)) → p ≡ Some r.bytes → IfSome p (λ b. length b ≡ size) → IfSome (option_map (λ bytes. C.put_part bytes (far_at old selector offset) slice) p) (λ b. length b ≡ size)
        sized None e h = tt
        sized (Some b) e h = let is_b : b ≡ r.bytes = cc in C.length-put_part b (far_at old selector offset) slice (subst (λ x. far_at old selector offset + length slice ≤ length x) (sym is_b) r.fits) ∙ h

    by_id : (q ≡ far_slot old selector) ⊎ (q ≢ far_slot old selector) → IsOwned (C.after_touch (after_write old.heap (far_slot old selector) (far_at old selector offset) slice) (far_slot old selector)) q kind size
    by_id (inl same) = subst (λ x. IsOwned (after_write old.heap (far_slot old selector) (far_at old selector offset) slice) x kind size) (sym same)
        (subst (λ p. IsSomeAnd p (λ o. (o.kind ≡ kind) × IfSome o.bytes (λ b. length b ≡ size))) (sym (C.get-update_same old.heap.objects (far_slot old selector) (replaced (far_at old selector offset) slice)))
        (written (subst (λ x. IsOwned old.heap x kind size) same h)))
    by_id (inr other) = subst (λ p. IsSomeAnd p (λ o. (o.kind ≡ kind) × IfSome o.bytes (λ b. length b ≡ size))) (sym (C.get-update_other old.heap.objects (far_slot old selector) (replaced (far_at old selector offset) slice) q other)) h

pub write_world : (selector offset : ℕ) (slice : List ℕ) → All (λ b. b < 256) slice → (world : LoadingWorld) → IsLoadingWorld world → IsLoadingWorld (far_write selector offset slice world).1
write_world selector offset slice ours world is =
    let l = write_cases (LeavesOwned world) world (all_left world) selector offset slice (λ t e. (λ q. refl, λ q kind size h. write_owned world.handles selector offset slice q kind size h e)) in
    world_stays world is (far_write selector offset slice world).1.handles (C.write_handles world.handles is.handles selector offset slice ours) l.0 (λ q kind size code h. l.1 q kind size h.object)
