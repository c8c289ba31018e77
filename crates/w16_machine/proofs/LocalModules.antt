-- A local call leaves modules alone, and the bytes of code.
use Rattle.w16_machine.proofs
use proofs.Common as C
use proofs.Common.{◌≡◌, ℕ, inl, inr, true, false, List, length, Option, Some, None, IfSome, IsSomeAnd, refl, sym, ap, ◌∙◌, subst, false≢true, Kind, object_at, Handles, Table, Format, IsOfFiles, Reply, IsOwned, World, LocalHeap, current_heap, IsRewritten, KeepsRest, IsWorld, ◌⊎◌}
use proofs.Common.{local_options}
use proofs.LocalGrowths.{growth_files, growth_world}
use proofs.{LocalFacts.IsThere, LocalFacts.current_there, LocalFrame.frame_law, LocalWorlds.local_heaps_kept}
use Rattle.w16_model.specs.Owned.{is_code as owned_code}
use Rattle.std.specs.FinMap as finmap

-- an object whose bytes are rewritten has its kind and its size
rewritten_owned : (at : LocalHeap) (p r : Option C.Object) (kind : Kind) (size : ℕ) → IsSomeAnd p (λ before. IsSomeAnd r (IsRewritten at before))
    → IsSomeAnd p (λ o. (o.kind ≡ kind) × IfSome o.bytes (λ b. length b ≡ size)) → IsSomeAnd r (λ o. (o.kind ≡ kind) × IfSome o.bytes (λ b. length b ≡ size))
rewritten_owned at None r kind size h k = absurd h
rewritten_owned at (Some o) None kind size h k = absurd h
rewritten_owned at (Some o) (Some after) kind size h k = (h.kind ∙ k.0, sized _ h.has)
  where
    long : length at.bytes ≡ size
    long = subst (λ p. IfSome p (λ b. length b ≡ size)) h.had k.1

    sized : (p : Option (List ℕ)) → IsSomeAnd p (λ bytes. (length bytes ≡ length at.bytes) × C.IsSameOutside at.table.lo at.table.hi at.bytes bytes) → IfSome p (λ b. length b ≡ size)
    sized None h = absurd h
    sized (Some b) h = h.0 ∙ long

kept_owned : (old new : World) (slot : ℕ) (kind : Kind) (size : ℕ) → C.IsObjectKept old new slot → IsOwned old.loading.handles.heap slot kind size → IsOwned new.loading.handles.heap slot kind size
kept_owned old new slot kind size (inl same) h = subst (λ p. IsSomeAnd p (λ o. (o.kind ≡ kind) × IfSome o.bytes (λ b. length b ≡ size))) (sym same) h
kept_owned old new slot kind size (inr c) h = turn _ c
  where
    turn : (p : Option LocalHeap) → IsSomeAnd p (λ at. (at.slot ≡ slot) × IsSomeAnd (object_at old.loading.handles.heap slot) (λ before. IsSomeAnd (object_at new.loading.handles.heap slot) (IsRewritten at before))) → IsOwned new.loading.handles.heap slot kind size
    turn None c = absurd c
    turn (Some at) c = rewritten_owned at _ _ _ _ c.1 h

module _ (old new : World) (k : KeepsRest old new) (uncoded : (slot : ℕ) → IfSome (finmap.get old.heaps slot) (λ _. owned_code old.loading.handles slot ≡ false)) where
  -- code isn't rewritten
  code_stays : (slot : ℕ) → owned_code old.loading.handles slot ≡ true → C.KeepsBytes old.loading.handles.heap new.loading.handles.heap slot
  code_stays slot coded = elim (k.objects slot) [ inl same ↦ C.same_object old.loading.handles.heap new.loading.handles.heap slot same | inr c ↦ absurd (turn (current_heap old) refl c) ]
    where
      turn : (p : Option LocalHeap) → current_heap old ≡ p → IsSomeAnd p (λ at. (at.slot ≡ slot) × IsSomeAnd (object_at old.loading.handles.heap slot) (λ before. IsSomeAnd (object_at new.loading.handles.heap slot) (IsRewritten at before))) → ⊥
      turn None e c = c
      turn (Some at) e c =
          let free : owned_code old.loading.handles at.slot ≡ false = subst (λ p. IfSome p (λ _. owned_code old.loading.handles at.slot ≡ false)) (current_there old at e).table (uncoded at.slot) in
          false≢true (sym free ∙ ap (owned_code old.loading.handles) c.0 ∙ coded)

  keeps_code : (format : Format) → C.KeepsCode format old.loading new.loading
  keeps_code format = record {
    files = ap (λ (w : C.LoadingWorld). w.files) k.loading;
    modules = λ handle m e. (m, ap (λ (w : C.LoadingWorld). C.module_at w.modules handle) (sym k.loading) ∙ e, C.same_source m);
    coded = λ q t. ap (λ (h : Handles). owned_code h q) (sym k.handles) ∙ t;
    bytes = λ slot handle number m s t. C.as_it_was format old.loading new.loading.handles.heap slot number m (code_stays slot t);
  }

-- Where a local call keeps the rest.
module _ (old new : World) (is : IsWorld old) (k : KeepsRest old new) where
  all : (X : Type 0) (p : Option Table) → X → IfSome p (λ _. X)
  all X None x = tt
  all X (Some t) x = x

  kept : (slot : ℕ) → C.IsHeapKept old new slot → IfSome (finmap.get new.heaps slot) (λ _. owned_code old.loading.handles slot ≡ false)
  kept slot (inl same) = subst (λ p. IfSome p (λ _. owned_code old.loading.handles slot ≡ false)) (sym same) (is.uncoded slot)
  kept slot (inr (inl begun)) = all (owned_code old.loading.handles slot ≡ false) (finmap.get new.heaps slot) begun.1
  kept slot (inr (inr c)) = all (owned_code old.loading.handles slot ≡ false) (finmap.get new.heaps slot) (turn (current_heap old) refl c)
    where
      turn : (p : Option LocalHeap) → current_heap old ≡ p → IsSomeAnd p (λ at. (at.slot ≡ slot) × IsSomeAnd (finmap.get new.heaps slot) (λ t. (t.lo ≡ at.table.lo) × (t.hi ≡ at.table.hi))) → owned_code old.loading.handles slot ≡ false
      turn None e c = absurd c
      turn (Some at) e c = ap (owned_code old.loading.handles) (sym c.0) ∙ subst (λ p. IfSome p (λ _. owned_code old.loading.handles at.slot ≡ false)) (current_there old at e).table (is.uncoded at.slot)

  rest_world : C.AreLocalHeaps new → IsWorld new
  rest_world heaps = record {
    loading = subst C.IsLoadingWorld (sym k.loading) (C.world_stays old.loading is.loading new.loading.handles heaps.handles (λ q. ap (λ (h : Handles). C.owned_at h q) k.handles)
        (λ slot kind size code h. kept_owned old new slot kind size (k.objects slot) h.object));
    heaps = heaps;
    uncoded = λ slot. rw (ap (λ (h : Handles). owned_code h slot) k.handles) (kept slot (k.heaps slot));
  }

  rest_files : (format : Format) → IsOfFiles format old.loading → IsOfFiles format new.loading
  rest_files format of = C.code_kept format old.loading new.loading (keeps_code old new k is.uncoded format) of

module _ (old new : World) (command : C.Command C.OfLocals) (reply : Reply) (is : IsWorld old) (step : C.LocalStep old command reply new) where
  abbrev Framed : Type 0
  Framed = KeepsRest old new ⊎ C.KeepsRestLonger old command new

  by_frame : Framed → IsWorld new
  by_frame (inl k) = rest_world old new is k (local_heaps_kept old new command reply is.heaps step)
  by_frame (inr r) =
      rest_world (C.with_longer old r.lengthens.handles (C.longer r.at r.size r.lengthens.bytes)) new (growth_world old r.at (local_options r.flags) r.size r.lengthens is (current_there old r.at r.current) r.longer_size) r.rest
      (local_heaps_kept old new command reply is.heaps step)

  files_by_frame : (format : Format) → IsOfFiles format old.loading → Framed → IsOfFiles format new.loading
  files_by_frame format of (inl k) = rest_files old new is k format of
  files_by_frame format of (inr r) =
      let there : IsThere old r.at = current_there old r.at r.current in
      rest_files (C.with_longer old r.lengthens.handles (C.longer r.at r.size r.lengthens.bytes)) new (growth_world old r.at (local_options r.flags) r.size r.lengthens is there r.longer_size) r.rest format
      (growth_files old r.at (local_options r.flags) r.size r.lengthens is there r.longer_size format of)

  pub local_world_kept : IsWorld new
  local_world_kept = by_frame (frame_law old new command reply is.heaps step)

  pub local_files_kept : (format : Format) → IsOfFiles format old.loading → IsOfFiles format new.loading
  local_files_kept format of = files_by_frame format of (frame_law old new command reply is.heaps step)
