-- Far accesses and locks of resources spare every object that isn't theirs, and leave theirs where it stands.
use Rattle.w16_loading.proofs
use proofs.Common as C
use proofs.Spared as M
use proofs.Common.{inl, inr, ◌≡◌, ◌≢◌, ℕ, ◌/◌, ◌==◌, Bool, true, false, cond, List, Option, Some, None, option_map, refl, sym, ap, ◌∙◌, subst, arith, global_lock, GlobalLock, far_slot, Write, Fill, offset_in, selector_in, slot_of_handle, object_at, Calls, FetchFault}
use Rattle.w16_model.specs.Commands.{Command}
use Rattle.w16_model.specs.Commands.Family.{OfFar}
use Rattle.w16_model.specs.Commands.Command.{Read}
use proofs.Common.{FetchesFrom, Fills, pointer_in, FarStep, far_write, gives, LoadingWorld, Load, Reply, LocksResource, locked, Part, part_of_selector, IsSomeAnd, far_at}
use proofs.{Cases.access_cases, Cases.lock_cases, FarCases.read_cases, FarCases.write_cases, FetchWorlds.fetched_world, Fillings.lost}
use Rattle.w16_model.proofs.Runs.{numbered}
use Rattle.std.specs.FinMap as finmap
use Rattle.w16_loading.specs.declared.FetchFault.TheVariants as faults
use Rattle.w16_loading.proofs.Locks.{lock_contents, lock_outcome}

-- What holds of a world before an access or a lock, and of each that a fetch leaves, and so of what the access or the lock leaves.
module _ (fetches : C.Fetching) (P Q : LoadingWorld → Type 0) (old new : LoadingWorld) (reply : Reply) (start : P old) where
  accessed : (access : LoadingWorld → C.FarAnswer × LoadingWorld) (selector : ℕ) → ((fault : Option FetchFault) (next : LoadingWorld) → fetches old (far_slot old.handles selector) fault next → P next)
      → ((world : LoadingWorld) → P world → Q world × Q (access world).1) → C.Accesses fetches access old selector reply new → Q new
  accessed access selector fetched does step = elim (access_cases fetches old reply new access selector step) [
    | inl (fault, next, f, g) ↦ after next fault (fetched fault next f) g
    | inr g ↦ subst Q (sym g.1) (does old start).1
  ]
    where
      after : (next : LoadingWorld) (fault : Option FetchFault) → P next → C.MatchOption fault (gives (access next) reply new) (λ f. (reply ≡ C.Failed f) × (new ≡ next)) → Q new
      after next None good g = subst Q (sym g.1) (does next good).1
      after next (Some f) good g = subst Q (sym g.1) (does next good).0

  access_does : (command : Command OfFar) → ((fault : Option FetchFault) (next : LoadingWorld) → fetches old (far_slot old.handles (selector_in (pointer_in command))) fault next → P next)
      → ((world : LoadingWorld) → P world → Q world) → ((offset n : ℕ) (world : LoadingWorld) → P world → Q (C.far_read (selector_in (pointer_in command)) offset n world).1)
      → ((offset : ℕ) (slice : List ℕ) (world : LoadingWorld) → P world → Q (far_write (selector_in (pointer_in command)) offset slice world).1) → FarStep fetches old command reply new → Q new
  access_does (Read pointer count) fetched same read written step = accessed (C.far_read (selector_in pointer) (offset_in pointer) count) (selector_in pointer) fetched (λ w p. (same w p, read (offset_in pointer) count w p)) step
  access_does (Write pointer bytes) fetched same read written step = accessed (far_write (selector_in pointer) (offset_in pointer) bytes) (selector_in pointer) fetched (λ w p. (same w p, written (offset_in pointer) bytes w p)) step
  access_does (Fill pointer count byte) fetched same read written step =
      accessed (far_write (selector_in pointer) (offset_in pointer) (C.repeated count byte)) (selector_in pointer) fetched (λ w p. (same w p, written (offset_in pointer) (C.repeated count byte) w p)) step

  lock_does : (handle : ℕ) → ((x : ℕ × Load) (fault : Option FetchFault) (next : LoadingWorld) → C.slot_of_resource old handle ≡ Some x → fetches old x.0 fault next → P next)
      → ((world : LoadingWorld) → P world → Q world × Q (locked world handle).1) → LocksResource fetches old handle reply new → Q new
  lock_does handle fetched does step = elim (lock_cases fetches old reply new handle step) [
    | inl f ↦ subst Q (sym f.1) (does old start).0
    | inr (x, e, inl (fault, next, f, g)) ↦ outcome_is (C.lock_outcome fault handle next) g (after fault next (fetched x fault next e f))
    | inr (x, e, inr f) ↦ outcome_is (locked old handle) f (does old start).1
  ]
    where
      outcome_is : (outcome : Reply × LoadingWorld) → ◌≡◌ {A = Reply × LoadingWorld} (reply, new) outcome → Q outcome.1 → Q new
      outcome_is outcome e good = subst (λ (p : Reply × LoadingWorld). Q p.1) (sym e) good

      after : (fault : Option FetchFault) (next : LoadingWorld) → P next → Q (C.lock_outcome fault handle next).1
      after None next h = (does next h).1
      after (Some faults.NoRoom) next h = (does next h).0
      after (Some faults.Store) next h = (does next h).0
      after (Some faults.Damaged) next h = (does next h).0

-- The slot that a handle names is a part of it.
slot_in : (handles : C.Handles) (handle slot : ℕ) → slot_of_handle handles handle ≡ Some slot → slot ≡ handle / 8
slot_in handles handle slot = turn _
  where
    by_test : (b : Bool) → cond {A = Option ℕ} b (Some (handle / 8)) None ≡ Some slot → slot ≡ handle / 8
    by_test true e = let same : handle / 8 ≡ slot = cc in sym same
    by_test false e = cc

    turn : (p : Option C.Object) → ◌≡◌ {A = Option ℕ} (elim p [ Some o ↦ cond (handle == C.handle_of o.kind (handle / 8)) (Some (handle / 8)) None | None ↦ None ]) (Some slot) → slot ≡ handle / 8
    turn None e = cc
    turn (Some o) e = by_test _ e

pub named_slot : (old : LoadingWorld) (handle : ℕ) (x : ℕ × Load) → C.slot_of_resource old handle ≡ Some x → slot_of_handle old.handles handle ≡ Some x.0
named_slot old handle x = turn _
  where
    by_load : (slot : ℕ) (p : Option Load) → ◌≡◌ {A = Option (ℕ × Load)} (option_map (λ load. (slot, load)) p) (Some x) → Some slot ≡ Some x.0
    by_load slot None f = cc
    by_load slot (Some load) f = let same : ◌≡◌ {A = ℕ × Load} (slot, load) x = cc in ap (λ (y : ℕ × Load). Some y.0) same

    turn : (p : Option ℕ) → ◌≡◌ {A = Option (ℕ × Load)} (elim p [ None ↦ None | Some slot ↦ option_map (λ load. (slot, load)) (finmap.get old.loads slot) ]) (Some x) → p ≡ Some x.0
    turn None e = cc
    turn (Some slot) e = by_load _ _ e

module _ (answers : C.Answers) (old : LoadingWorld) (is : C.IsLoadingWorld old) (q : ℕ) (there : C.is_some (object_at old.handles.heap q) ≡ true) (new : LoadingWorld) (reply : Reply) where
  abbrev Spared : LoadingWorld → Type 0
  Spared world = M.IsSpared old.handles.heap world.handles.heap q

  abbrev Stands : LoadingWorld → Type 0
  Stands world = C.StandsStill old.handles.heap world.handles.heap q

  stands_first : Stands old
  stands_first = M.stays_put old.handles.heap old.handles.heap q refl

  -- Far accesses.

  -- a selector of no object reaches the slot 0, which no object has
  not_reached : (selector : ℕ) → (IsSomeAnd (part_of_selector old.handles selector) (λ (p : Part). p.slot ≡ q) → ⊥) → q ≢ far_slot old.handles selector
  not_reached selector out = turn (part_of_selector old.handles selector) out
    where
      turn : (p : Option Part) → (IsSomeAnd p (λ (p : Part). p.slot ≡ q) → ⊥) → q ≢ (C.unwrap_or p (record { slot = 0; number = 0 })).slot
      turn None out e = omega (arith, (numbered old.handles is.handles q there).0, e)
      turn (Some p) out e = out (sym e)

  -- a fetch leaves each selector's slot
  same_slot : (slot selector : ℕ) (fault : Option FetchFault) (next : LoadingWorld) → FetchesFrom Fills answers old slot fault next → far_slot next.handles selector ≡ far_slot old.handles selector
  same_slot slot selector fault next f = ap (λ (w : LoadingWorld). far_slot w.handles selector) f.rest

  pub access_spares : (command : Command OfFar) → (IsSomeAnd (part_of_selector old.handles (selector_in (pointer_in command))) (λ (p : Part). p.slot ≡ q) → ⊥) → FarStep (FetchesFrom Fills answers) old command reply new → Spared new
  access_spares command out step = access_does (FetchesFrom Fills answers) (λ w. Spared w × (q ≢ far_slot w.handles selector)) Spared old new reply (M.same_spared old.handles.heap q, other) command
      (λ fault next f. (M.fetch_spares is.handles.heap f q other, λ e. other (e ∙ same_slot (far_slot old.handles selector) selector fault next f)))
      (λ w p. p.0) (λ offset n w p. read_cases Spared w p.0 selector offset n p.0)
      (λ offset slice w p. write_cases Spared w p.0 selector offset slice (λ t e. M.spared_then old.handles.heap w.handles.heap (C.after_touch (C.after_write w.handles.heap (far_slot w.handles selector) (far_at w.handles selector offset) slice) (far_slot w.handles selector)) q p.0
      (M.left_alone w.handles.heap (C.after_touch (C.after_write w.handles.heap (far_slot w.handles selector) (far_at w.handles selector offset) slice) (far_slot w.handles selector)) q
      (C.get-update_other w.handles.heap.objects (far_slot w.handles selector) (λ (o : C.Object). record o { bytes = option_map (λ bytes. C.put_part bytes (far_at w.handles selector offset) slice) o.bytes }) q p.1) refl))) step
    where
      selector : ℕ
      selector = selector_in (pointer_in command)

      other : q ≢ far_slot old.handles (selector_in (pointer_in command))
      other = not_reached (selector_in (pointer_in command)) out

  pub access_stands : M.HasPinned old.handles.heap q → (command : Command OfFar) → FarStep (FetchesFrom Fills answers) old command reply new → Stands new
  access_stands pinned command step = access_does (FetchesFrom Fills answers) Stands Stands old new reply stands_first command
      (λ fault next f. M.fetch_stands is.handles.heap f q pinned)
      (λ w p. p) (λ offset n w p. read_cases Stands w p (selector_in (pointer_in command)) offset n p)
      (λ offset slice w p. write_cases Stands w p (selector_in (pointer_in command)) offset slice (λ t e. p)) step

  -- Locks of resources.

  lock_stands_of : (world : LoadingWorld) (handle : ℕ) → C.StandsStill world.handles.heap (locked world handle).1.handles.heap q
  lock_stands_of world handle = M.stays_put world.handles.heap (locked world handle).1.handles.heap q (ap (λ places. finmap.get places q) (lock_contents world.handles handle).addresses)

  lock_spares_of : (world : LoadingWorld) (handle : ℕ) → C.AreHandles world.handles → slot_of_handle world.handles handle ≢ Some q → C.is_some (object_at world.handles.heap q) ≡ true → M.IsSpared world.handles.heap (locked world handle).1.handles.heap q
  lock_spares_of world handle are out some = (
    C.bystander world.handles (global_lock world.handles handle).1 are _ (global_lock world.handles handle).0 q (lock_outcome world.handles handle) (λ m. some) out,
    λ pinned. lock_stands_of world handle,
  )

  pub lock_spares : (handle : ℕ) → slot_of_handle old.handles handle ≢ Some q → LocksResource (FetchesFrom Fills answers) old handle reply new → Spared new
  lock_spares handle out step = lock_does (FetchesFrom Fills answers) (λ w. Spared w × C.AreHandles w.handles × (slot_of_handle w.handles handle ≢ Some q)) Spared old new reply (M.same_spared old.handles.heap q, is.handles, out) handle
      (λ x fault next at f. (
        M.fetch_spares is.handles.heap f q (λ e. out (named_slot old handle x at ∙ ap Some (sym e))),
        (fetched_world is f).handles,
        λ e. out (named_slot old handle x at ∙ ap Some (slot_in old.handles handle x.0 (named_slot old handle x at) ∙ sym (slot_in next.handles handle q e))),
      ))
      (λ w p. (p.0, M.spared_then old.handles.heap w.handles.heap (locked w handle).1.handles.heap q p.0 (lock_spares_of w handle p.1 p.2 (lost old.handles.heap w.handles.heap q p.0.0 ∙ there)))) step

  pub lock_stands : M.HasPinned old.handles.heap q → (handle : ℕ) → LocksResource (FetchesFrom Fills answers) old handle reply new → Stands new
  lock_stands pinned handle step = lock_does (FetchesFrom Fills answers) Stands Stands old new reply stands_first handle
      (λ x fault next at f. M.fetch_stands is.handles.heap f q pinned)
      (λ w p. (p, M.stands_then old.handles.heap w.handles.heap (locked w handle).1.handles.heap q p (lock_stands_of w handle))) step
