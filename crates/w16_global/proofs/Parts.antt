-- The objects' arena and memory, and the heap that they stand for.
use Rattle.w16_global.proofs
use proofs.Common as C
use proofs.Common.{◌≡◌, ℕ, ◌+◌, ◌^◌, ◌<◌, ◌≤◌, ◌⊎◌, IfSome, IfNone, List, length, Option, Some, None, Result, Ok, Err, OnOk, IfErr, option_map, refl, sym, ap, ◌∙◌, subst, arith, is_some, true, Block, Heap, object_at, bytes_at, block_with, entry_at, heap_in, Refusal, contents, removed}
use proofs.Common.{ArenaState, Steps, entry_of, heap_kept, Holding, holding_of}
use proofs.Written.{beside}
use Rattle.std.proofs.lemmas.Option.{IfSome_then}
use Rattle.w16_arena.proofs.Lookups.{no_entry}
use Rattle.std.specs.FinMap as finmap

module _ {s : ArenaState} {memory : List ℕ} (parts : C.AreParts s memory) where
  pub whole : s.table.hi ≤ length memory
  whole = let e = parts.high in omega arith

  -- what ends in the heap ends where a double word can tell
  pub ends_low : (k n : ℕ) → length memory < 2 ^ 32 → k + n ≤ s.table.hi → (k + n < 2 ^ 32) × (n < 2 ^ 32)
  ends_low k n small inside = let e = parts.high in (omega arith, omega arith)

  module _ {count : ℕ} {h : Holding} (shown : holding_of s memory count ≡ h) where
    -- what the parts have, the value has, and the other way round
    pub told : (P : Heap → Type 0) → P (heap_in s.table memory) → P h.heap
    told P k = subst (λ (h : Holding). P h.heap) shown k

    pub known : (P : Heap → Type 0) → P h.heap → P (heap_in s.table memory)
    known P k = subst (λ (h : Holding). P h.heap) (sym shown) k

    pub is_heap_shown : C.IsHeap h.heap
    is_heap_shown = told C.IsHeap (C.is_heap (beside parts) parts.bytes)

    pub entry_shown : (id : ℕ) → entry_at s.table id ≡ option_map entry_of (object_at h.heap id)
    entry_shown id = sym (C.entry_is (beside parts) id) ∙ ap (λ (h : Holding). option_map entry_of (object_at h.heap id)) shown

    pub size_shown : (id : ℕ) → option_map (λ (x : Block). x.size) (block_with s.table.blocks id) ≡ option_map (length {A = ℕ}) (bytes_at h.heap id)
    size_shown id = sym (C.size_here (beside parts) id) ∙ ap (λ (h : Holding). option_map (length {A = ℕ}) (bytes_at h.heap id)) shown

    pub place_shown : (id : ℕ) → finmap.get h.heap.places id ≡ option_map (λ (x : Block). x.at) (block_with s.table.blocks id)
    place_shown id = told (λ heap. finmap.get heap.places id ≡ option_map (λ (x : Block). x.at) (block_with s.table.blocks id)) (C.place_here (beside parts) id)

    -- an object that is there has an entry
    pub entry_known : (id : ℕ) → is_some (object_at h.heap id) ≡ true → is_some (entry_at s.table id) ≡ true
    entry_known id there = ap is_some (entry_shown id) ∙ mapped (object_at h.heap id) ∙ there
      where
        mapped : (p : Option C.Object) → is_some (option_map entry_of p) ≡ is_some p
        mapped None = refl
        mapped (Some o) = refl

    -- an id without an object has no entry and no block
    pub no_entry_known : (id : ℕ) → object_at h.heap id ≡ None → entry_at s.table id ≡ None
    no_entry_known id free = no_entry (beside parts) id (known (λ heap. object_at heap id ≡ None) free)

    pub no_block_known : (id : ℕ) → object_at h.heap id ≡ None → block_with s.table.blocks id ≡ None
    no_block_known id free = C.no_block (beside parts) id (no_entry_known id free)

    -- the value after a step whose heap is known
    pub holding_stepped : {new : ArenaState} {step : Heap → Heap → Type 0} → Steps s new step → (heap : Heap) → heap_in new.table memory ≡ heap → holding_of new memory count ≡ record h { heap = heap }
    holding_stepped {new} p heap is =
        (λ i. record { cap = p.range.ids i; heap = is i; discarded = ap (λ (z : ArenaState). z.discarded) p.rest i; written = count }) ∙ ap (λ (h : Holding). record h { heap = heap }) shown

    -- The lowest block at or above an address.
    module _ (from : ℕ) (small : length memory < 2 ^ 32) (found : Option Block) where
      pub next_found : IfSome found (λ b. (from ≤ b.at) × (block_with s.table.blocks b.id ≡ Some b))
          → IfSome found (λ b. (from ≤ b.at) × (finmap.get h.heap.places b.id ≡ Some b.at) × (option_map (length {A = ℕ}) (bytes_at h.heap b.id) ≡ Some b.size))
      next_found known = IfSome_then found known (λ b f. (f.0, place_shown b.id ∙ ap (option_map (λ (x : Block). x.at)) f.1, sym (size_shown b.id) ∙ ap (option_map (λ (x : Block). x.size)) f.1))

      each_place : (P : ℕ → Type 0) → ((q : ℕ) → IfSome (block_with s.table.blocks q) (λ c. P c.at)) → (q : ℕ) → IfSome (finmap.get h.heap.places q) P
      each_place P f q = subst (λ p. IfSome p P) (sym (place_shown q)) (turn (block_with s.table.blocks q) (f q))
        where
          turn : (b : Option Block) → IfSome b (λ c. P c.at) → IfSome (option_map (λ (x : Block). x.at) b) P
          turn None k = tt
          turn (Some x) k = k

      pub next_lowest : IfSome found (λ b. (q : ℕ) → IfSome (block_with s.table.blocks q) (λ c. (c.at < from) ⊎ (b.at ≤ c.at))) → IfSome found (λ b. (q : ℕ) → IfSome (finmap.get h.heap.places q) (λ at. (at < from) ⊎ (b.at ≤ at)))
      next_lowest known = IfSome_then found known (λ b. each_place (λ at. (at < from) ⊎ (b.at ≤ at)))

      pub next_none : IfNone found ((q : ℕ) → IfSome (block_with s.table.blocks q) (λ c. c.at < from)) → IfNone found ((q : ℕ) → IfSome (finmap.get h.heap.places q) (λ at. at < from))
      next_none = turn found
        where
          turn : (p : Option Block) → IfNone p ((q : ℕ) → IfSome (block_with s.table.blocks q) (λ c. c.at < from)) → IfNone p ((q : ℕ) → IfSome (finmap.get h.heap.places q) (λ at. at < from))
          turn None f = each_place (λ at. at < from) f
          turn (Some b) f = tt

      pub next_inside : IfSome found (λ b. (from ≤ b.at) × (block_with s.table.blocks b.id ≡ Some b)) → IfSome found (λ b. (0 < b.size) × (b.at + b.size < 2 ^ 32))
      next_inside known = IfSome_then found known (λ b f. let end = C.ends_in_memory (beside parts) b.id b f.1 in (end.0, omega (arith, end.1, small)))

    -- an object that was taken away, where the bytes of the others stay
    pub released_shown : (new : ArenaState) (after : List ℕ) (id : ℕ) {later : ℕ} → later ≡ count → contents after new.table.blocks ≡ contents memory new.table.blocks → Steps s new (λ a b. b ≡ C.after_release a id)
        → holding_of new after later ≡ record h { heap = removed h.heap id }
    released_shown new after id {later} none same p =
        (λ i. record { cap = length new.table.entries; heap = heap_kept memory after new.table same i; discarded = new.discarded; written = none i })
        ∙ holding_stepped p (removed (heap_in s.table memory) id) (p.heaps memory whole) ∙ ap (λ (k : Holding). record h { heap = removed k.heap id }) shown

    -- a step that takes an object's bytes away, or is refused, where the bytes of the others stay
    module _ (leaves : Heap → ℕ → Result Heap Refusal) (new : ArenaState) (after : List ℕ) (id : ℕ) (same : contents after new.table.blocks ≡ contents memory new.table.blocks) where
      pub given_ok : {X : Type 0} (r : Result X Refusal) → OnOk r (Steps s new (λ a b. leaves a id ≡ Ok b)) → OnOk r (leaves h.heap id ≡ Ok (heap_in new.table after))
      given_ok (Ok x) p = told (λ heap. leaves heap id ≡ Ok (heap_in new.table after)) (p.heaps memory whole ∙ ap Ok (sym (heap_kept memory after new.table same)))
      given_ok (Err e) p = tt

      pub given_err : {X : Type 0} (r : Result X Refusal) {later : ℕ} → later ≡ count → IfErr r (λ e. (new ≡ s) × Steps s new (λ a b. leaves a id ≡ Err e))
          → IfErr r (λ e. (leaves h.heap id ≡ Err e) × (holding_of new after later ≡ h))
      given_err (Ok x) none p = tt
      given_err (Err e) {later} none p =
          let still : contents after s.table.blocks ≡ contents memory s.table.blocks = subst (λ (x : ArenaState). contents after x.table.blocks ≡ contents memory x.table.blocks) p.0 same in (
            told (λ heap. leaves heap id ≡ Err e) (p.1.heaps memory whole),
            ap (λ (x : ArenaState). holding_of x after later) p.0 ∙ (λ i. record { cap = length s.table.entries; heap = heap_kept memory after s.table still i; discarded = s.discarded; written = none i }) ∙ shown,
          )
