-- What a lock of a resource comes to.
use Rattle.w16_resource.proofs.Common as C
use Rattle.w16_resource.proofs.Common.{List, LoadingWorld, MatchOption, None, Option, Some, subst, sym, ℕ, ◌≡◌, bytes_at, Reply, Dword, LocksResource, locked, Gives}
use Rattle.w16_model.specs.Calls as calls
use Rattle.w16_loading.specs.Modules as loading

module _ (F : C.Fetching) (old : LoadingWorld) (handle : ℕ) (reply : Reply) (new : LoadingWorld) where
  abbrev Locked : ℕ × loading.Load → Option (List ℕ) → Type 0
  Locked x p = MatchOption p ((fault : Option C.FetchFault) × (next : LoadingWorld) × F old x.0 fault next × ((reply, new) ≡ C.lock_outcome fault handle next)) (λ _. (reply, new) ≡ locked old handle)

  pub none_named : C.slot_of_resource old handle ≡ None → reply ≡ Dword 0 → new ≡ old → LocksResource F old handle reply new
  none_named e answered same = subst (λ p. MatchOption p ((reply ≡ Dword 0) × (new ≡ old)) (λ (x : ℕ × loading.Load). Locked x (bytes_at old.handles.heap x.0))) (sym e) (answered, same)

  module _ (x : ℕ × loading.Load) (e : C.slot_of_resource old handle ≡ Some x) where
    pub has_bytes : (bytes : List ℕ) → bytes_at old.handles.heap x.0 ≡ Some bytes → (reply, new) ≡ locked old handle → LocksResource F old handle reply new
    has_bytes bytes some h = subst (λ p. MatchOption p ((reply ≡ Dword 0) × (new ≡ old)) (λ (x : ℕ × loading.Load). Locked x (bytes_at old.handles.heap x.0))) (sym e) (subst (Locked x) (sym some) h)

    pub is_fetched : bytes_at old.handles.heap x.0 ≡ None → (fault : Option C.FetchFault) (next : LoadingWorld)
        → F old x.0 fault next → (reply, new) ≡ C.lock_outcome fault handle next → LocksResource F old handle reply new
    is_fetched none fault next f h = subst (λ p. MatchOption p ((reply ≡ Dword 0) × (new ≡ old)) (λ (x : ℕ × loading.Load). Locked x (bytes_at old.handles.heap x.0)))
        (sym e) (subst (Locked x) (sym none) (fault, next, f, h))

-- GlobalLock's outcome is the lock's
pub lock_is : (world : LoadingWorld) (handle answer : ℕ) (next : C.Handles) → Gives (C.global_lock world.handles handle) (calls.Answer.Dword answer) next
    → (Dword answer, C.with_handles world next) ≡ locked world handle
lock_is world handle answer next g = λ i. (C.reply_of_call (g.0 i), C.with_handles world (g.1 i))
