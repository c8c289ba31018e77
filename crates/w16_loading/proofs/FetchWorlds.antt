-- A fetch keeps what holds of every world, whatever the store answers: what it gives has the size that the world has of it.
use Rattle.w16_loading.proofs
use proofs.Common as C
use proofs.Fillings as M
use proofs.Common.{◌≡◌, ◌≢◌, ℕ, inl, inr, ◌⊎◌, Bool, true, List, length, Option, Some, None, IfSome, IsSomeAnd, refl, sym, ap, ◌∙◌, subst, Kind, Owned, Heap, object_at, LoadingWorld, Fills, IsLoadingWorld, slots_at, slots_for}
use proofs.KeptWorlds.{IsOwned, kept_left, left_owned, world_stays}

-- An object that is filled with as many bytes as it is to have.

pub owned_is : (heap : Heap) (q : ℕ) (kind : Kind) (size : ℕ) → IsOwned heap q kind size → C.is_some (object_at heap q) ≡ true
owned_is heap q kind size h = some _ h
  where
    some : (p : Option C.Object) → IsSomeAnd p (λ o. (o.kind ≡ kind) × IfSome o.bytes (λ b. length b ≡ size)) → C.is_some p ≡ true
    some None h = absurd h
    some (Some o) h = refl

pub filled_owned : (old : Heap) (slot : ℕ) (bytes : List ℕ) (new : Heap) → C.IsHeap old → Fills old slot bytes true new → (q : ℕ) (kind : Kind) (size : ℕ) → (q ≡ slot → length bytes ≡ size) → IsOwned old q kind size → IsOwned new q kind size
filled_owned old slot bytes new is f q kind size long h = by_id (C.cases_eq q slot)
  where
    Is : Option C.Object → Type 0
    Is p = IsSomeAnd p (λ o. (o.kind ≡ kind) × IfSome o.bytes (λ b. length b ≡ size))

    by_id : (q ≡ slot) ⊎ (q ≢ slot) → IsOwned new q kind size
    by_id (inl e) = let before = subst Is (ap (object_at old) e ∙ f.there) h in subst Is (sym (ap (object_at new) e ∙ M.filled_object old slot bytes new f)) (before.0, long e)
    by_id (inr d) = left_owned old new q kind size (kept_left old new q (owned_is old q kind size h) (M.filled_other old slot bytes new f is q d)) h

-- A fetch.

filled_world : (old : LoadingWorld) → IsLoadingWorld old → (slot : ℕ) (read : List ℕ) (heap : Heap) → C.IsOwnedSize old slot read → Fills old.handles.heap slot read true heap → IsLoadingWorld (C.with_heap old heap)
filled_world old is slot read heap sized g = world_stays old is (record old.handles { heap = heap })
    (C.other_handles old.handles is.handles heap (M.filled_heap old.handles.heap slot read heap g) range.lo range.grain (M.filled_there old.handles.heap slot read heap is.handles.heap g)
    (λ q. M.filled_sized old.handles.heap slot read heap is.handles.heap g q (slots_at old.handles.attributes q) (enough q) (is.handles.sized q))) (λ q. refl)
    (λ q kind size code h. filled_owned old.handles.heap slot read heap is.handles.heap g q kind size (long q kind size code h) h.object)
  where
    range : M.SameRange old.handles.heap heap
    range = M.filled_range old.handles.heap slot read heap g

    enough : (q : ℕ) → q ≡ slot → slots_at old.handles.attributes q ≡ slots_for (length read)
    enough q e = ap (slots_at old.handles.attributes) e ∙ by (C.owned_at old.handles slot) (C.owned_slots old.handles is.handles slot) sized
      where
        by : (p : Option Owned) → IfSome p (λ o. slots_at old.handles.attributes slot ≡ slots_for o.size) → IsSomeAnd p (λ o. length read ≡ o.size) → slots_at old.handles.attributes slot ≡ slots_for (length read)
        by None h k = absurd k
        by (Some o) h k = h ∙ ap slots_for (sym k)

    long : (q : ℕ) (kind : Kind) (size : ℕ) (code : Bool) → C.IsObjectOf old q kind size code → q ≡ slot → length read ≡ size
    long q kind size code h e = subst (λ p. IsSomeAnd p (λ o. length read ≡ o.size)) (ap (C.owned_at old.handles) (sym e) ∙ h.owned) sized

pub fetched_world : {answers : C.Answers} {old : LoadingWorld} {slot : ℕ} {fault : Option C.FetchFault} {new : LoadingWorld} → IsLoadingWorld old → C.FetchesFrom Fills answers old slot fault new → IsLoadingWorld new
fetched_world {answers} {old} {slot} {fault} {new} is f = elim (M.fetch_outcome f).1 [
  | inl e ↦ subst IsLoadingWorld (sym e) is
  | inr (read, sized, given, g) ↦ subst IsLoadingWorld (sym f.rest) (filled_world old is _ _ _ sized g)
]
