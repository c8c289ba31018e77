-- Calls on resources as steps.
use Rattle.w16_resource.proofs
use proofs.Common as C
use proofs.Common.{ne_format, FinMap, Handles, List, LoadingWorld, None, Option, Some, arith, false, nat_cmp, refl, subst, sym, true, ℕ, ◌/◌, ◌≡◌, told, Reply, Dword, Word, Gives, Entry}
use proofs.Loaded.{no_resource, long_resource, made_resource}
use proofs.Locked.{none_named, has_bytes, is_fetched, lock_is}
use proofs.{Fetched.source_resource, Named.here}
use Rattle.w16_model.specs.Calls as calls
use Rattle.w16_loading.specs.Modules as loading
use Rattle.w16_loading.specs.Families.AnyCommand.{any}

-- the value of parts that are open
abbrev pub seen : {opened closed : LoadingWorld} → opened ≡ closed → LoadingWorld
seen {opened = opened} e = opened

pub first_load : (old : LoadingWorld) {handle place : ℕ} {name : List ℕ} {entry : Entry} (s : C.IsSourceAt old.modules handle place name entry)
    → None ≡ C.load_of old handle place → C.IsFirstLoad old handle place (C.resource_in (s.kind, entry))
first_load old {handle = handle} {place = place} {name = name} {entry = entry} s none = record { there = source_resource old handle place name entry s; unloaded = sym none }

module _ (honest : Type 0) (old : LoadingWorld) where
  abbrev fetching : ℕ → C.Fetching
  fetching later = C.FetchesFrom C.FillsFewest (told honest ne_format old.files old.failures later)

  module _ (handle place : ℕ) where
    abbrev Loads : Reply → LoadingWorld → Type 0
    Loads reply new = C.FewestOver honest ne_format old (any _ (C.LoadResource handle place)) reply new

    -- Loads that read no file.
    plain : (n : ℕ) (left : FinMap nat_cmp loading.Load) → C.LoadsResource (fetching old.failures) old handle place (Word n) (record old { loads = left })
        → Loads (Word n) (record old { loads = left })
    plain n left step = record { counted = omega arith; files = refl; step = step }

    pub no_source : C.resource_at old handle place ≡ None → Loads (Word 0) old
    no_source none = plain 0 old.loads (no_resource (fetching old.failures) old handle place (Word 0) old none (refl, refl))

    -- no slot is free for the object of a first load
    pub no_slot : (r : C.Resource) → C.IsFirstLoad old handle place r → C.is_too_long r ≡ false → C.HasNoSlot old.handles → Loads (Word 0) old
    no_slot r first short none = plain 0 old.loads
        (made_resource (fetching old.failures) old handle place (Word 0) old r first.there short None first.unloaded (C.inl (none, (refl, refl))))

    module _ (name : List ℕ) (entry : Entry) (s : C.IsSourceAt old.modules handle place name entry) where
      abbrev r : C.Resource
      r = C.resource_in (s.kind, entry)

      pub long_source : C.is_long entry.len ≡ true → Loads (Word 0) old
      long_source long = plain 0 old.loads
          (long_resource (fetching old.failures) old handle place (Word 0) old r (source_resource old handle place name entry s) long (refl, refl))

      pub again : C.is_long entry.len ≡ false → (x : ℕ × loading.Load) → Some x ≡ C.load_of old handle place → (n : ℕ) (left : FinMap nat_cmp loading.Load)
          → ◌≡◌ {A = Reply × LoadingWorld} (Word n, record old { loads = left }) (C.loaded_again old r x) → Loads (Word n) (record old { loads = left })
      again short x e n left more = plain n left
          (made_resource (fetching old.failures) old handle place (Word n) (record old { loads = left }) r (source_resource old handle place name entry s) short (Some x) (sym e) more)

  -- Locks.
  module _ (handle : ℕ) where
    abbrev Locks : Reply → LoadingWorld → Type 0
    Locks reply new = C.FewestOver honest ne_format old (any _ (C.LockResource handle)) reply new

    pub unnamed : None ≡ C.slot_of_resource old handle → Locks (Dword 0) old
    unnamed none = record { counted = omega arith; files = refl; step = none_named (fetching old.failures) old handle (Dword 0) old (sym none) refl refl }

    module _ (x : ℕ × loading.Load) (found : C.slot_of_resource old handle ≡ Some x) where
      pub at_once : (bytes : List ℕ) → C.bytes_at old.handles.heap x.0 ≡ Some bytes → (n : ℕ) (next : Handles) → Gives (C.global_lock old.handles handle) (calls.Answer.Dword n) next
          → Locks (Dword n) (C.with_handles old next)
      at_once bytes some n next g = record {
        counted = omega arith;
        files = refl;
        step = has_bytes (fetching old.failures) old handle (Dword n) (C.with_handles old next) x found bytes some (lock_is old handle n next g);
      }

      -- one that fetches
      module _ (none : C.bytes_at old.handles.heap x.0 ≡ None) {fault : Option C.FetchFault} {mid : LoadingWorld} (stays : C.IsLater old.files old.failures mid.files mid.failures)
          (f : C.FetchesResource honest old (handle / 8) fault mid) where
        abbrev left : LoadingWorld
        left = record mid { failures = old.failures }

        fetched : (reply : Reply) (next : Handles) → (reply, C.with_handles left next) ≡ C.lock_outcome fault handle left → Locks reply (C.with_handles mid next)
        fetched reply next outcome = record {
          counted = stays.counted;
          files = stays.same;
          step = is_fetched (fetching mid.failures) old handle reply (C.with_handles left next) x found none fault left
              (subst (λ q. fetching mid.failures old q fault left) (here old handle x found) f) outcome;
        }

      pub locked_then : C.bytes_at old.handles.heap x.0 ≡ None → {mid : LoadingWorld} → C.IsLater old.files old.failures mid.files mid.failures
          → C.FetchesResource honest old (handle / 8) None mid → (n : ℕ) (next : Handles) → Gives (C.global_lock mid.handles handle) (calls.Answer.Dword n) next
          → Locks (Dword n) (C.with_handles mid next)
      locked_then none {mid = mid} stays f n next g = fetched none stays f (Dword n) next (lock_is (record mid { failures = old.failures }) handle n next g)

      pub refused : C.bytes_at old.handles.heap x.0 ≡ None → {mid : LoadingWorld} → C.IsLater old.files old.failures mid.files mid.failures
          → (fault : C.FetchFault) → C.FetchesResource honest old (handle / 8) (Some fault) mid
          → (reply : Reply) → ((handle : ℕ) (world : LoadingWorld) → (reply, world) ≡ C.lock_outcome (Some fault) handle world) → Locks reply mid
      refused none {mid = mid} stays fault f reply says = fetched none stays f reply mid.handles (says handle (record mid { failures = old.failures }))
