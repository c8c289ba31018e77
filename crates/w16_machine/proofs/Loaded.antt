-- A step of loading keeps what holds of every world.
use Rattle.w16_machine.proofs
use proofs.Common as C
use proofs.Common.{◌≡◌, ℕ, inl, inr, ◌⊎◌, Bool, true, false, cond, IfSome, IsSomeAnd, List, Option, Some, None, option_map, unwrap_or, refl, sym, ap, ◌∙◌, subst, Owned, is_code, Table, Reply, World, IsLocalIn, segment_bytes}
use proofs.LocalLeft.{heaps_after, left_is, left_over}
use Rattle.w16_loading.specs.Answers.{StepOver}
use Rattle.std.specs.FinMap as finmap

-- A step of loading leaves no local heap in code: where one is left there was one, in an object that was none, and no such object becomes code.
module _ (honest : Type 0) (format : C.Format) (old new : World) (is : C.IsWorld old) (command : C.AnyCommand) (reply : Reply) (step : StepOver honest format old.loading command reply new.loading) (rest : new ≡ C.after_loading old new.loading) where
  still : (p : Option Owned) (r : Option Owned) → (r ≡ p) ⊎ (r ≡ None) → unwrap_or (option_map (λ (o : Owned). o.code) p) false ≡ false → unwrap_or (option_map (λ (o : Owned). o.code) r) false ≡ false
  still p r (inl same) e = ap (λ p. unwrap_or (option_map (λ (o : Owned). o.code) p) false) same ∙ e
  still p r (inr none) e = ap (λ p. unwrap_or (option_map (λ (o : Owned). o.code) p) false) none

  has_object : (p : Option C.Object) → IsSomeAnd (elim p as (λ _. Option (List ℕ)) [ Some o ↦ o.bytes | None ↦ None ]) (λ _. Unit {0}) → C.is_some p ≡ true
  has_object None h = absurd h
  has_object (Some o) h = refl

  some_bytes : (P : List ℕ → Type 0) (b : Option (List ℕ)) → IsSomeAnd b P → IsSomeAnd b (λ _. Unit {0})
  some_bytes P None h = absurd h
  some_bytes P (Some b) h = tt

  uncoded : (slot : ℕ) → IfSome (finmap.get new.heaps slot) (λ _. is_code new.loading.handles slot ≡ false)
  uncoded slot = subst (λ p. IfSome p (λ _. is_code new.loading.handles slot ≡ false))
      (sym (ap (λ (w : World). finmap.get w.heaps slot) rest ∙ left_is new.loading.handles.heap old.heaps slot))
      (turn (finmap.get old.heaps slot) (C.bytes_at new.loading.handles.heap slot) (is.heaps.heaps slot) (is.uncoded slot))
    where
      here : (t : Table) → IsSomeAnd (segment_bytes old slot) (IsLocalIn t) → is_code old.loading.handles slot ≡ false → is_code new.loading.handles slot ≡ false
      here t h e = still (C.owned_at old.loading.handles slot) (C.owned_at new.loading.handles slot)
          (C.owners_law honest format old.loading new.loading command reply is.loading step slot (has_object (C.object_at old.loading.handles.heap slot) (some_bytes (IsLocalIn t) (segment_bytes old slot) h))) e

      left : (t : Table) (b : Bool) → is_code new.loading.handles slot ≡ false → IfSome (cond {A = Option Table} b (Some t) None) (λ _. is_code new.loading.handles slot ≡ false)
      left t true e = e
      left t false e = tt

      turn : (t : Option Table) (b : Option (List ℕ)) → IfSome t (λ t. IsSomeAnd (segment_bytes old slot) (IsLocalIn t)) → IfSome t (λ _. is_code old.loading.handles slot ≡ false)
          → IfSome (left_over t b) (λ _. is_code new.loading.handles slot ≡ false)
      turn None b h e = tt
      turn (Some t) None h e = tt
      turn (Some t) (Some bytes) h e = left t (C.nat_le t.hi (C.length bytes)) (here t h e)

  pub loading_world_kept : C.IsCommand command → C.IsWorld new
  loading_world_kept known =
      let next : C.IsLoadingWorld new.loading = C.keeps_worlds_law honest format old.loading new.loading command reply is.loading known step in
      record { loading = next; heaps = heaps_after old new is.heaps next.handles rest; uncoded = uncoded }
