-- The requests of loads and fetches discard as few as they can, since each is an allocation whose new bytes are given.
use Rattle.w16_loading.proofs.Common as C
use Rattle.w16_loading.proofs.Common.{◌≡◌, ℕ, Bool, false, List, length, Some, None, refl, sym, ap, ◌∙◌, subst, false≢true, Heap, IsNew, revival_options, Fills}

-- what is filled is allocated
pub fill_allocates : (old : Heap) (slot : ℕ) (bytes : List ℕ) (answered : Bool) (new : Heap) → (f : Fills old slot bytes answered new) → C.Allocates old slot (length bytes) f.before.kind f.before.locks revival_options answered new
fill_allocates old slot bytes answered new f = record {
  some = f.some;
  rounded = f.rounded;
  without_bytes = ap (λ p. elim p [ Some o ↦ o.bytes | None ↦ None ]) f.there ∙ f.absent;
  request = turn _ f.request;
}
  where
    is_new : (o : C.Object) → o ≡ record f.before { bytes = Some bytes } → IsNew false (length bytes) f.before.kind f.before.locks o
    is_new o e = subst (IsNew _ _ _ _) (sym e) (record { same_kind = refl; same_locks = refl; new_bytes = (refl, f.are_bytes, λ z. absurd (false≢true z)) })

    turn : (p : C.Option ℕ) → C.Request old slot (record (C.asked_of old slot f.before bytes) { prefix = p }) answered new
        → C.Request old slot (record { options = revival_options; prefix = p; becomes = IsNew revival_options.zero (length bytes) f.before.kind f.before.locks; order = C.with_newest slot }) answered new
    turn None r = r
    turn (Some k) r = (r.0, (r.1.0, is_new _ r.1.1, r.1.2))

pub fill_fewest : (old : Heap) (slot : ℕ) (bytes : List ℕ) (answered : Bool) (new : Heap) → C.IsHeap old → Fills old slot bytes answered new → C.AllocatesFewest old slot (length bytes) revival_options answered new
fill_fewest old slot bytes answered new is f = C.allocation_law old new _ _ f.before.kind f.before.locks _ _ is (fill_allocates old _ _ _ new f)
