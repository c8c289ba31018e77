-- What is left of an object that a step isn't about: it is kept or discarded, and stands where it stood if it is pinned.
use Rattle.w16_loading.proofs
use proofs.Common as C
use proofs.Common.{◌≡◌, ◌≢◌, ℕ, inl, inr, ◌||◌, Bool, true, false, cond, not, List, Option, Some, None, IfSome, IsSomeAnd, refl, sym, ap, ◌∙◌, subst, false≢true, Heap, IsHeap, object_at, is_pinned_object, StandsStill, LoadingWorld, Fills}
use proofs.Fillings.{IsLost, fetch_outcome, filled_other, kept_then, settled_so}
use proofs.Undone.{retained}
use Rattle.std.specs.FinMap as finmap

-- a fixed or locked object is there
abbrev pub HasPinned : Heap → ℕ → Type 0
HasPinned heap q = IsSomeAnd (object_at heap q) (λ o. is_pinned_object o ≡ true)

abbrev pub IsSpared : Heap → Heap → ℕ → Type 0
IsSpared old new q = C.IsKeptOrDiscarded old new q × (HasPinned old q → StandsStill old new q)

-- An object and its address that don't change.

pub stays_put : (old new : Heap) (q : ℕ) → finmap.get new.places q ≡ finmap.get old.places q → StandsStill old new q
stays_put old new q same = turn _ same
  where
    turn : (p : Option ℕ) → finmap.get new.places q ≡ p → IfSome p (λ at. finmap.get new.places q ≡ Some at)
    turn None e = tt
    turn (Some at) e = e

pub left_alone : (old new : Heap) (q : ℕ) → object_at new q ≡ object_at old q → finmap.get new.places q ≡ finmap.get old.places q → IsSpared old new q
left_alone old new q object place = (inl object, λ pinned. stays_put old new q place)

pub same_spared : (heap : Heap) (q : ℕ) → IsSpared heap heap q
same_spared heap q = left_alone heap heap q refl refl

-- one that isn't among those that go
pub spared_without : (gone : ℕ → Bool) (heap : Heap) (q : ℕ) → gone q ≡ false → IsSpared heap (C.heap_without gone heap) q
spared_without gone heap q t = left_alone heap (C.heap_without _ heap) q (stays _) (stays _)
  where
    stays : {X : Type 0} (m : C.FinMap C.nat_cmp X) → finmap.get (finmap.retain_keys m (λ q. not (gone q))) q ≡ finmap.get m q
    stays m = retained m _ q ∙ ap (λ b. cond (not b) (finmap.get m q) None) t

-- One after another.

pub stands_then : (old next new : Heap) (q : ℕ) → StandsStill old next q → StandsStill next new q → StandsStill old new q
stands_then old next new q a b = turn _ a
  where
    turn : (p : Option ℕ) → IfSome p (λ at. finmap.get next.places q ≡ Some at) → IfSome p (λ at. finmap.get new.places q ≡ Some at)
    turn None h = tt
    turn (Some at) h = subst (λ p. IfSome p (λ at. finmap.get new.places q ≡ Some at)) h b

-- what is discarded wasn't pinned
still_pinned : (old next : Heap) (q : ℕ) → C.IsKeptOrDiscarded old next q → HasPinned old q → HasPinned next q
still_pinned old next q (inl e) pinned = subst (λ p. IsSomeAnd p (λ o. is_pinned_object o ≡ true)) (sym e) pinned
still_pinned old next q (inr h) pinned = absurd (turn _ h pinned)
  where
    turn : (p : Option C.Object) → IsSomeAnd p (IsLost next q) → IsSomeAnd p (λ o. is_pinned_object o ≡ true) → ⊥
    turn None h k = h
    turn (Some o) h k = false≢true (sym (λ i. C.is_fixed (h.0 i) || C.nat_lt 0 (h.1 i)) ∙ k)

pub spared_then : (old next new : Heap) (q : ℕ) → IsSpared old next q → IsSpared next new q → IsSpared old new q
spared_then old next new q a b = (kept_then old next new q a.0 b.0, λ pinned. stands_then old next new q (a.1 pinned) (b.1 (still_pinned old next q a.0 pinned)))

-- Another object gets bytes.

pub filled_spared : (old : Heap) (slot : ℕ) (bytes : List ℕ) (new : Heap) → IsHeap old → Fills old slot bytes true new → (q : ℕ) → q ≢ slot → IsSpared old new q
filled_spared old slot bytes new is f q d = (
  filled_other old _ _ new f is q d,
  λ pinned. ((C.address_law old new is settled.0).0 slot C.revival_options settled.1 (C.with_newest _ settled.1) settled.2).pinned q apart pinned,
)
  where
    settled : (k : ℕ) × (o : C.Object) × C.Settles old (C.stays_for slot C.revival_options) (C.with_ordered (C.discarded old k (Some slot)) slot o (C.with_newest slot o)) new
    settled = settled_so old _ _ new f

    apart : Some slot ≢ Some q
    apart e = let same : slot ≡ q = cc in d (sym same)

-- what has no bytes stands nowhere
nowhere_still : (old new : Heap) (q : ℕ) → IsHeap old → C.bytes_at old q ≡ None → StandsStill old new q
nowhere_still old new q is none = turn _ refl
  where
    turn : (p : Option ℕ) → finmap.get old.places q ≡ p → IfSome p (λ at. finmap.get new.places q ≡ Some at)
    turn None e = tt
    turn (Some at) e = absurd (false≢true (sym (is.at_bytes q ∙ ap C.is_some none) ∙ ap C.is_some e))

module _ {answers : C.Answers} {old : LoadingWorld} {slot : ℕ} {fault : Option C.FetchFault} {next : LoadingWorld} (is : IsHeap old.handles.heap) (fetched : C.FetchesFrom Fills answers old slot fault next) (q : ℕ) where
  pub fetch_spares : q ≢ slot → IsSpared old.handles.heap next.handles.heap q
  fetch_spares d = elim (fetch_outcome fetched).1 [
    | inl e ↦ subst (λ (w : LoadingWorld). IsSpared old.handles.heap w.handles.heap q) (sym e) (same_spared old.handles.heap q)
    | inr (read, sized, given, g) ↦ filled_spared old.handles.heap slot read next.handles.heap is g q d
  ]

  -- what is fetched had no place, so nothing that is pinned moves
  pub fetch_stands : HasPinned old.handles.heap q → StandsStill old.handles.heap next.handles.heap q
  fetch_stands pinned = elim (C.cases_eq q slot) [
    | inr d ↦ (fetch_spares d).1 pinned
    | inl e ↦ elim (fetch_outcome fetched).1 [
      | inl same ↦ subst (λ (w : LoadingWorld). StandsStill old.handles.heap w.handles.heap q) (sym same) (stays_put old.handles.heap old.handles.heap q refl)
      | inr (read, sized, given, g) ↦ nowhere_still old.handles.heap next.handles.heap q is (ap (C.bytes_at old.handles.heap) e ∙ ap C.bytes_in g.there ∙ g.absent)
    ]
  ]
