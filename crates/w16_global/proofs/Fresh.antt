-- The objects before anything is allocated.
use Rattle.w16_global.proofs
use proofs.Common as C
use proofs.Common.{◌≡◌, ℕ, ◌<◌, ◌≤◌, All, List, [], None, refl, sym, ap, ◌∙◌, arith, Entry, GRAIN, empty_heap, empty_table, sound}
use proofs.Written.{beside}

-- all of a memory is a hole
module _ (cap memory : ℕ) (few : cap ≤ 8192) (bytes : List ℕ) (long : C.length bytes ≡ memory) (ours : All (λ b. b < 256) bytes) (kept : C.AreThreaded (C.add_span 0 memory []) bytes) where
  abbrev fresh : C.ArenaState
  fresh = record { table = empty_table cap 0 memory GRAIN; discarded = [] }

  pub fresh_parts : C.AreParts (record { table = empty_table cap 0 memory GRAIN; discarded = [] }) bytes
  fresh_parts = record {
    sound = sound cap 0 memory GRAIN (omega arith) (0, refl);
    low = refl;
    grain = refl;
    high = sym long;
    bytes = ours;
    kept = kept;
    few = let n = C.length-replicate {A = C.Option Entry} cap None in omega arith;
  }

  fresh_heap : C.heap_in (empty_table cap 0 memory GRAIN) bytes ≡ empty_heap 0 memory GRAIN
  fresh_heap = C.same_heap (C.heap_in (empty_table cap 0 memory GRAIN) bytes) (empty_heap 0 memory GRAIN) refl refl refl refl
      (λ q. C.object_here (beside fresh_parts) q ∙ ap (C.option_map (C.object_in [] bytes q)) (C.no_entry cap q) ∙ sym (C.get-empty C.nat_cmp q))
      (λ q. C.place_here (beside fresh_parts) q ∙ sym (C.get-empty C.nat_cmp q))

  pub fresh_holding : C.holding_of (record { table = empty_table cap 0 memory GRAIN; discarded = [] }) bytes 0 ≡ record { cap = cap; heap = empty_heap 0 memory GRAIN; discarded = []; written = 0 }
  fresh_holding = λ i. record { cap = C.length-replicate {A = C.Option Entry} cap None i; heap = fresh_heap i; discarded = []; written = 0 }
