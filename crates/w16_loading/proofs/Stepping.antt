-- What the parts of a step do to a world, the step does: fetches, loads, and changes of what is kept beside them.
use Rattle.w16_loading.proofs
use proofs.Common as C
use proofs.Common.{◌≡◌, ℕ, ◌+◌, ◌-◌, ◌<◌, ◌≤◌, inl, inr, Bool, true, false, cond, ◌&&◌, ◌==◌, nat_lt, List, Option, Some, None, refl, sym, ap, ◌∙◌, subst, arith, handle_of, selector_in, offset_in, repeated, MOST_USES, FetchFault, Resource, LoadingWorld, Load, Reply, Word}
use Rattle.w16_model.specs.Commands.{Command}
use Rattle.w16_loading.specs.Families.{AnyCommand}
use Rattle.w16_model.specs.Commands.Family.{OfHandles, OfResizes, OfLocals, OfFar, OfModules, OfResources}
use proofs.Common.{far_write, gives, Frees, load_of, slot_of_resource}
use proofs.Importers.{entry_there, found_passes}
use proofs.Cases.{IsLoadable, access_cases, by_option, lock_cases, resource_cases}
use Rattle.std.specs.FinMap as finmap
use Rattle.w16_loading.specs.declared.FetchFault.TheVariants as faults
use Rattle.w16_loading.specs.Families.AnyCommand.{any}

-- what is found among entries is there
pub found_load : (old : LoadingWorld) (handle place : ℕ) (x : ℕ × Load) → load_of old handle place ≡ Some x → finmap.get old.loads x.0 ≡ Some x.1
found_load old handle place x e = entry_there _ x.0 x.1 (found_passes (λ y. (y.1.handle == handle) && (y.1.place == place)) _ x e).0

-- the slot of a resource has its load
pub resource_load : (old : LoadingWorld) (handle : ℕ) (x : ℕ × Load) → slot_of_resource old handle ≡ Some x → finmap.get old.loads x.0 ≡ Some x.1
resource_load old handle x = turn _
  where
    by_load : (slot : ℕ) (p : Option Load) → finmap.get old.loads slot ≡ p → ◌≡◌ {A = Option (ℕ × Load)} (C.option_map (λ load. (slot, load)) p) (Some x) → finmap.get old.loads x.0 ≡ Some x.1
    by_load slot None e f = cc
    by_load slot (Some load) e f =
        let same : ◌≡◌ {A = ℕ × Load} (slot, load) x = cc in
        ap (finmap.get _) (sym (ap (λ y. y.0) same)) ∙ e ∙ ap (λ y. Some y.1) same

    turn : (p : Option ℕ) → ◌≡◌ {A = Option (ℕ × Load)} (elim p [ None ↦ None | Some slot ↦ C.option_map (λ load. (slot, load)) (finmap.get old.loads slot) ]) (Some x) → finmap.get old.loads x.0 ≡ Some x.1
    turn None e = cc
    turn (Some slot) e = by_load _ _ refl e

-- another count of loads, and of uses
abbrev pub with_count : LoadingWorld → ℕ → Load → ℕ → LoadingWorld
with_count old slot load count = record old { loads = finmap.insert old.loads slot (record load { loads = count }) }

-- the last load gone, and its object
abbrev pub without_load : LoadingWorld → ℕ → LoadingWorld
without_load old slot = record (C.without_objects (λ q. q == slot) old) { loads = finmap.remove old.loads slot }

abbrev pub freed_by : LoadingWorld → Option (ℕ × Load) → ℕ × LoadingWorld
freed_by old p = elim p [
  | None ↦ (1, old)
  | Some x ↦ cond {A = ℕ × LoadingWorld} (nat_lt 1 x.1.loads) (0, with_count old x.0 x.1 (x.1.loads - 1)) (cond {A = ℕ × LoadingWorld} (nat_lt 0 (C.locks_at old.handles.heap x.0)) (1, old) (0, without_load old x.0))
]

-- What is to hold of the parts of a step from this world: fetches and loads by these definitions, and bytes that are written.
pub record Parts (fetches : C.Fetching) (loads : C.Loading) (Ours : List ℕ → Type 0) (old : LoadingWorld) (P : LoadingWorld → Type 0) : Type 0 where
  pub start : P old
  pub handles : (command : C.Command C.OfHandles) (reply : Reply) (next : C.Handles) → C.HandleReplies old.handles command reply next → P (record old { handles = next })
  pub resizes : (command : C.Command C.OfResizes) (reply : Reply) (next : C.Handles) → C.ResizeReplies old.handles command reply next → P (record old { handles = next })
  pub reads : (selector offset n : ℕ) (world : LoadingWorld) → P world → P (C.far_read selector offset n world).1
  pub writes : (selector offset : ℕ) (slice : List ℕ) (world : LoadingWorld) → Ours slice → P world → P (far_write selector offset slice world).1
  pub fetched : (slot : ℕ) (fault : Option FetchFault) (next : LoadingWorld) → fetches old slot fault next → P next
  pub built : (name : List ℕ) (handle : ℕ) → C.handle_named old.modules name ≡ None → C.IsFreeModule old.modules handle → P (record old { modules = finmap.insert old.modules handle (C.BuiltIn name) })
  pub loaded : (b : Bool) (file : List ℕ) (answer : C.Answer) (new : LoadingWorld) → loads b old file answer new → P new
  pub freed : (handle answer : ℕ) (new : LoadingWorld) → Frees old handle answer new → P new
  -- a load of a resource more or less, the first, and the last
  pub counted : (slot : ℕ) (load : Load) (count : ℕ) → finmap.get old.loads slot ≡ Some load → 0 < count → (load.loads ≤ MOST_USES → count ≤ MOST_USES) → P (with_count old slot load count)
  pub made : (slot handle place : ℕ) (r : Resource) (fault : Option FetchFault) (next : LoadingWorld) → C.IsFreeSlot old.handles slot → IsLoadable old handle place r → load_of old handle place ≡ None
      → fetches (C.with_resource old slot handle place r) slot fault next → P next
  pub locks : (handle : ℕ) (world : LoadingWorld) → P world → P (C.locked world handle).1
  pub last : (slot : ℕ) (load : Load) → finmap.get old.loads slot ≡ Some load → P (without_load old slot)

-- the bytes that a far access writes
abbrev pub Writes : (List ℕ → Type 0) → AnyCommand → Type 0
Writes Ours (any _ (Command.Write pointer bytes)) = Ours bytes
Writes Ours (any _ (Command.Fill pointer count byte)) = Ours (repeated count byte)
Writes Ours other = Unit {0}

pub nothing_asked : (command : AnyCommand) → Writes (λ slice. Unit {0}) command
nothing_asked (any _ (Command.Write pointer bytes)) = tt
nothing_asked (any _ (Command.Fill pointer count byte)) = tt
nothing_asked command = tt

module _ (fetches : C.Fetching) (loads : C.Loading) (Ours : List ℕ → Type 0) (old : LoadingWorld) (P : LoadingWorld → Type 0) (parts : Parts fetches loads Ours old P) (new : LoadingWorld) (reply : Reply) where
  as_it_was : new ≡ old → P new
  as_it_was e = subst P (sym e) parts.start

  -- an access, and the fetch that it may ask for
  accessed : (access : LoadingWorld → C.FarAnswer × LoadingWorld) → ((world : LoadingWorld) → P world → P (access world).1) → (selector : ℕ) → C.Accesses fetches access old selector reply new → P new
  accessed access keeps selector step = elim (access_cases fetches old reply new access selector step) [
    | inl (fault, next, f, g) ↦ after next fault (parts.fetched (C.far_slot old.handles selector) fault next f) g
    | inr g ↦ subst P (sym g.1) (keeps old parts.start)
  ]
    where
      after : (next : LoadingWorld) (fault : Option FetchFault) → P next → C.MatchOption fault (gives (access next) reply new) (λ f. (reply ≡ C.Failed f) × (new ≡ next)) → P new
      after next None good g = subst P (sym g.1) (keeps next good)
      after next (Some f) good g = subst P (sym g.1) good

  far : (command : Command OfFar) → Writes Ours (any OfFar command) → C.FarStep fetches old command reply new → P new
  far (Command.Read pointer count) ours step = accessed (C.far_read (selector_in pointer) (offset_in pointer) count) (parts.reads (selector_in pointer) (offset_in pointer) count) (selector_in pointer) step
  far (Command.Write pointer bytes) ours step = accessed (far_write (selector_in pointer) (offset_in pointer) bytes) (λ w. parts.writes (selector_in pointer) (offset_in pointer) bytes w ours) (selector_in pointer) step
  far (Command.Fill pointer count byte) ours step =
      accessed (far_write (selector_in pointer) (offset_in pointer) (repeated count byte)) (λ w. parts.writes (selector_in pointer) (offset_in pointer) (repeated count byte) w ours) (selector_in pointer) step

  gives_built_in : (name : List ℕ) (answer : ℕ) → C.GivesBuiltIn old name answer new → P new
  gives_built_in name answer step = elim (by_option (C.handle_named old.modules name) step) [
    | inl (e, inl f) ↦ as_it_was f.2
    | inl (e, inr f) ↦ subst P (sym f.1) (parts.built name answer e f.0)
    | inr (handle, e, f) ↦ as_it_was f.1
  ]

  modules : (command : Command OfModules) → C.ModuleStep loads old command reply new → P new
  modules (Command.Builtin name) f = gives_built_in name f.0 f.2
  modules (Command.LoadModule file) f = parts.loaded true file f.0 new f.2
  modules (Command.LoadLibrary file) f = parts.loaded false file f.0 new f.2
  modules (Command.FreeLibrary handle) f = parts.freed handle f.0 new f.2
  modules (Command.FreeModule handle) f = parts.freed handle f.0 new f.2
  modules other f = as_it_was f.1

  outcome_is : (outcome : Reply × LoadingWorld) → ◌≡◌ {A = Reply × LoadingWorld} (reply, new) outcome → P outcome.1 → P new
  outcome_is outcome e good = subst (λ (p : Reply × LoadingWorld). P p.1) (sym e) good

  resource_loaded : (handle place : ℕ) → C.LoadsResource fetches old handle place reply new → P new
  resource_loaded handle place step = elim (resource_cases fetches old reply new handle place step) [
    | inl f ↦ as_it_was f.1
    | inr (r, at, inl (x, e, f)) ↦ outcome_is (C.loaded_again old r x) f (more r x (found_load old handle place x e) (nat_lt x.1.loads MOST_USES) refl)
    | inr (r, at, inr (none, f)) ↦ fresh r at none f
  ]
    where
      more : (r : Resource) (x : ℕ × Load) → finmap.get old.loads x.0 ≡ Some x.1 → (b : Bool) → nat_lt x.1.loads MOST_USES ≡ b
          → P (cond {A = Reply × LoadingWorld} b (Word (handle_of r.kind x.0), with_count old x.0 x.1 (x.1.loads + 1)) (Word 0, old)).1
      more r x there true t = let lt : x.1.loads < MOST_USES = C.ltb-true x.1.loads MOST_USES t in parts.counted x.0 x.1 (x.1.loads + 1) there (omega arith) (λ le. omega (arith, lt))
      more r x there false t = parts.start

      fresh : (r : Resource) → IsLoadable old handle place r → load_of old handle place ≡ None → C.LoadsNewResource fetches old handle place r reply new → P new
      fresh r at none f = outcome_is (C.resource_outcome f.fault (handle_of r.kind f.slot) f.next old) f.outcome (turn f.fault (parts.made f.slot handle place r f.fault f.next f.free at none f.fetched))
        where
          turn : (fault : Option FetchFault) → P f.next → P (C.resource_outcome fault (handle_of r.kind f.slot) f.next old).1
          turn None next = next
          turn (Some faults.Store) next = parts.start
          turn (Some faults.NoRoom) next = parts.start
          turn (Some faults.Damaged) next = parts.start

  resource_locked : (handle : ℕ) → C.LocksResource fetches old handle reply new → P new
  resource_locked handle step = elim (lock_cases fetches old reply new handle step) [
    | inl f ↦ as_it_was f.1
    | inr (x, e, inl (fault, next, f, g)) ↦ outcome_is (C.lock_outcome fault handle next) g (after fault next (parts.fetched x.0 fault next f))
    | inr (x, e, inr f) ↦ outcome_is (C.locked old handle) f (parts.locks handle old parts.start)
  ]
    where
      after : (fault : Option FetchFault) (next : LoadingWorld) → P next → P (C.lock_outcome fault handle next).1
      after None next h = parts.locks handle next h
      after (Some faults.NoRoom) next h = h
      after (Some faults.Store) next h = h
      after (Some faults.Damaged) next h = h

  resource_freed : (handle : ℕ) → P (C.free_resource old handle).1
  resource_freed handle = turn (slot_of_resource old handle) refl
    where
      by_test : (x : ℕ × Load) → finmap.get old.loads x.0 ≡ Some x.1 → (b c : Bool) → nat_lt 1 x.1.loads ≡ b
          → P (cond {A = ℕ × LoadingWorld} b (0, with_count old x.0 x.1 (x.1.loads - 1)) (cond {A = ℕ × LoadingWorld} c (1, old) (0, without_load old x.0))).1
      by_test x there true c t = let lt : 1 < x.1.loads = C.ltb-true 1 x.1.loads t in parts.counted x.0 x.1 (x.1.loads - 1) there (omega (arith, lt)) (λ le. omega (arith, le))
      by_test x there false true t = parts.start
      by_test x there false false t = parts.last x.0 x.1 there

      turn : (p : Option (ℕ × Load)) → slot_of_resource old handle ≡ p → P (freed_by old p).1
      turn None e = parts.start
      turn (Some x) e = by_test x (resource_load old handle x e) (nat_lt 1 x.1.loads) (nat_lt 0 (C.locks_at old.handles.heap x.0)) refl

  resources : (command : Command OfResources) → C.ResourceStep fetches old command reply new → P new
  resources (Command.LoadResource handle place) f = resource_loaded handle place f
  resources (Command.LockResource handle) f = resource_locked handle f
  resources (Command.FreeResource handle) f = subst P (sym f.1) (resource_freed handle)
  resources other f = as_it_was f.1

  pub family : (command : AnyCommand) → Writes Ours command → C.FamilyStep fetches loads old command reply new → P new
  family (any OfHandles command) ours f = subst P (sym f.2) (parts.handles command reply f.0 f.1)
  family (any OfResizes command) ours f = subst P (sym f.2) (parts.resizes command reply f.0 f.1)
  family (any OfFar command) ours f = far command ours f
  family (any OfModules command) ours f = modules command f
  family (any OfResources command) ours f = resources command f
  family (any OfLocals command) ours f = absurd f
