-- Faults of the store and of the file.
use Rattle.w16_ne.proofs.Common.{◌≡◌, ℕ, ◌+◌, List, length, take, drop, Option, Some, None, Result, Ok, Err, Bool, true, false, cond, refl, nat_lt, bytes_of, NeFault, Refuses, IsOfFile, bytes_or}
use Rattle.w16_store.specs.declared.store.StoreFault.TheVariants as stores
use Rattle.w16_ne.specs.declared.fault.NeFault.TheVariants as faults

pub fails_of_file : {Y : Type 0} (file : Option (List ℕ)) (before after : ℕ) (e : NeFault) (read : Result Y NeFault) → IsOfFile e → read ≡ Err e → Refuses file before after e read
fails_of_file file before after faults.NotMz read plain h = h
fails_of_file file before after faults.NotNe read plain h = h
fails_of_file file before after (faults.Target t) read plain h = h
fails_of_file file before after faults.Unsupported read plain h = h
fails_of_file file before after faults.Truncated read plain h = h
fails_of_file file before after faults.BadTable read plain h = h
fails_of_file file before after (faults.Store e) read plain h = absurd plain
fails_of_file file before after faults.OutOfMemory read plain h = absurd plain

short_cases : (b : Bool) (short : NeFault) (bytes : List ℕ) → cond b (Err stores.Short) (Ok bytes) ≡ Err stores.Short → cond b (Err short) (Ok bytes) ≡ Err short
short_cases true short bytes h = refl
short_cases false short bytes h = cc

pub short_read : (short : NeFault) (file : Option (List ℕ)) (at n : ℕ) → bytes_of file at n ≡ Err stores.Short → bytes_or short file at n ≡ Err short
short_read short None at n h = cc
short_read short (Some file) at n h = short_cases (nat_lt (length file) (at + n)) short (take n (drop at file)) h
