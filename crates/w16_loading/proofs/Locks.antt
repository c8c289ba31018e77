-- What a GlobalLock, as a lock of a resource makes it, leaves of any handles.
use Rattle.w16_loading.proofs.Common as C
use Rattle.w16_loading.proofs.Common.{ℕ, refl, Calls, GlobalLock, Handles, global_lock}

pub lock_outcome : (old : Handles) (handle : ℕ) → C.Outcome old (Calls (GlobalLock handle)) (global_lock old handle).0 (global_lock old handle).1
lock_outcome old handle = C.call_outcome old (global_lock old handle).1 (GlobalLock handle) (global_lock old handle).0 (refl, refl)

-- it moves nothing, and each object keeps its bytes
pub lock_contents : (old : Handles) (handle : ℕ) → C.KeepsContents old (global_lock old handle).1
lock_contents old handle = C.contents old (global_lock old handle).1 _ (global_lock old handle).0 (lock_outcome old handle) refl
