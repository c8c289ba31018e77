-- Bytes that are kept: an object has those that it had, or none.
use Rattle.w16_loading.proofs.Common as C
use Rattle.w16_loading.proofs.Common.{◌≡◌, ℕ, inl, inr, true, List, Option, Some, None, IfSome, refl, sym, ap, Heap, object_at, bytes_at, Handles, global_lock, Calls, bytes_in}
use Rattle.w16_loading.proofs.Locks.{lock_contents}

abbrev pub KeepsBytes : Heap → Heap → ℕ → Type 0
KeepsBytes old new q = IfSome (bytes_at new q) (λ b. bytes_at old q ≡ Some b)

from_same : (p r : Option (List ℕ)) → p ≡ r → IfSome p (λ b. r ≡ Some b)
from_same None r e = tt
from_same (Some b) r e = sym e

from_none : (P : List ℕ → Type 0) (p : Option (List ℕ)) → p ≡ None → IfSome p P
from_none P None e = tt
from_none P (Some b) e = cc

pub same_bytes : (old new : Heap) (q : ℕ) → bytes_at new q ≡ bytes_at old q → KeepsBytes old new q
same_bytes old new q e = from_same _ _ e

pub same_object : (old new : Heap) (q : ℕ) → object_at new q ≡ object_at old q → KeepsBytes old new q
same_object old new q e = same_bytes old new q (ap bytes_in e)

pub no_bytes : (old new : Heap) (q : ℕ) → bytes_at new q ≡ None → KeepsBytes old new q
no_bytes old new q e = from_none (λ b. bytes_at old q ≡ Some b) _ e

pub no_object : (old new : Heap) (q : ℕ) → object_at new q ≡ None → KeepsBytes old new q
no_object old new q e = no_bytes old new q (ap bytes_in e)

pub kept_bytes : (old new : Heap) (q : ℕ) → C.IsKeptOrDiscarded old new q → KeepsBytes old new q
kept_bytes old new q (inl e) = same_object old new q e
kept_bytes old new q (inr h) = turn _ h
  where
    turn : (p : Option C.Object) → C.IsSomeAnd p (λ o. (o.kind ≡ C.Discardable) × (o.locks ≡ 0) × (C.is_some o.bytes ≡ true) × (object_at new q ≡ Some (record o { bytes = None }))) → KeepsBytes old new q
    turn None h = absurd h
    turn (Some o) h = no_bytes old new q (ap bytes_in h.3)

-- a lock keeps them in any handles
pub locked : (old : Handles) (q handle : ℕ) → KeepsBytes old.heap (global_lock old handle).1.heap q
locked old q handle = same_bytes old.heap (global_lock old handle).1.heap q ((lock_contents old handle).bytes q)
