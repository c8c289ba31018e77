-- A resource that a handle names: its slot, and whether it has bytes.
use Rattle.w16_resource.proofs.Common as C
use Rattle.w16_resource.proofs.Common.{Bool, Handles, IsSomeAnd, List, None, Option, Some, ap, bytes_at, cond, false, false≢true, handle_of, is_some, length, option_map, refl}
use Rattle.w16_resource.proofs.Common.{selector_of, slot_of_handle, slot_of_selector, subst, sym, true, ℕ, ◌/◌, ◌==◌, ◌∙◌, ◌≡◌}
use Rattle.w16_global.specs.declared.lend.Segment.{Segment}
use Rattle.std.specs.FinMap as finmap
use Rattle.w16_loading.specs.Modules as loading

pub handle_slot : (h : Handles) (n s : ℕ) → slot_of_handle h n ≡ Some s → n / 8 ≡ s
handle_slot h n s e = by (C.object_at h.heap (n / 8)) e
  where
    test : (b : Bool) → cond {A = Option ℕ} b (Some (n / 8)) None ≡ Some s → n / 8 ≡ s
    test true e = cc
    test false e = cc

    by : (p : Option C.Object) → elim p as (λ _. Option ℕ) [ Some o ↦ cond (n == handle_of o.kind (n / 8)) (Some (n / 8)) None | None ↦ None ] ≡ Some s → n / 8 ≡ s
    by None e = cc
    by (Some o) e = test (n == handle_of o.kind (n / 8)) e

-- an object's selector finds it too
pub selector_finds : (h : Handles) (n s : ℕ) → slot_of_handle h n ≡ Some s → slot_of_selector h (selector_of s) ≡ Some s
selector_finds h n s e = (C.names_law h (selector_of s) s).1.1 (by (C.object_at h.heap s) ((C.names_law h n s).0.0 e))
  where
    by : (p : Option C.Object) → IsSomeAnd p (λ o. n ≡ handle_of o.kind s) → IsSomeAnd p (λ _. selector_of s ≡ selector_of s)
    by None h = h
    by (Some o) h = refl

module _ (world : C.LoadingWorld) (handle : ℕ) (x : ℕ × loading.Load) (found : C.slot_of_resource world handle ≡ Some x) where
  pub named_slot : slot_of_handle world.handles handle ≡ Some x.0
  named_slot = by (slot_of_handle world.handles handle) refl found
    where
      of_load : (slot : ℕ) (p : Option loading.Load) → ◌≡◌ {A = Option (ℕ × loading.Load)} (option_map (λ load. (slot, load)) p) (Some x) → slot ≡ x.0
      of_load slot None e = cc
      of_load slot (Some load) e = let same : ◌≡◌ {A = ℕ × loading.Load} (slot, load) x = cc in ap (λ (y : ℕ × loading.Load). y.0) same

      by : (p : Option ℕ) → slot_of_handle world.handles handle ≡ p
          → ◌≡◌ {A = Option (ℕ × loading.Load)} (elim p [ None ↦ None | Some slot ↦ option_map (λ load. (slot, load)) (finmap.get world.loads slot) ]) (Some x)
          → slot_of_handle world.handles handle ≡ Some x.0
      by None e f = cc
      by (Some slot) e f = e ∙ ap Some (of_load slot (finmap.get world.loads slot) f)

  pub here : handle / 8 ≡ x.0
  here = handle_slot world.handles handle x.0 named_slot

  pub is_loaded : finmap.get world.loads (handle / 8) ≡ Some x.1
  is_loaded = ap (finmap.get world.loads) here ∙ C.resource_load world handle x found

  pub lacks : C.IsLoadingWorld world → bytes_at world.handles.heap x.0 ≡ None → C.LacksBytes world.handles handle
  lacks is none = record {
    named = named_slot ∙ ap Some (sym here);
    owned = by (C.resource_at world x.1.handle x.1.place) (subst (λ p. C.IfSome p (C.IsLoad world (handle / 8))) is_loaded (is.loads (handle / 8))).resource;
    without_bytes = ap (bytes_at world.handles.heap) here ∙ none;
  }
    where
      by : (p : Option C.Resource) → IsSomeAnd p (λ r. C.IsObjectOf world (handle / 8) r.kind (C.rounded_size r.length_in) false) → C.is_owned world.handles (handle / 8) ≡ true
      by None h = absurd h
      by (Some r) h = ap is_some h.owned

-- whether it has bytes, as its selector tells
module _ (h : Handles) (n s sel : ℕ) (found : slot_of_handle h n ≡ Some s) (is : sel ≡ selector_of s) where
  finds : slot_of_selector h sel ≡ Some s
  finds = ap (slot_of_selector h) is ∙ selector_finds h n s found

  pub present : (p : Option Segment) → C.IfSome p (λ g. (slot_of_selector h sel ≡ Some g.slot) × (option_map length (bytes_at h.heap g.slot) ≡ Some g.size))
      → is_some p ≡ true → (bytes : List ℕ) × (bytes_at h.heap s ≡ Some bytes)
  present None told e = absurd (false≢true e)
  present (Some g) told e = by (bytes_at h.heap s) refl (subst (λ q. option_map length (bytes_at h.heap q) ≡ Some g.size) (same (sym told.0 ∙ finds)) told.1)
    where
      same : Some g.slot ≡ Some s → g.slot ≡ s
      same e = cc

      by : (b : Option (List ℕ)) → bytes_at h.heap s ≡ b → option_map length b ≡ Some g.size → (bytes : List ℕ) × (bytes_at h.heap s ≡ Some bytes)
      by None f e = cc
      by (Some bytes) f e = (bytes, f)

  pub absent : (p : Option Segment) → C.IfNone p ((slot : ℕ) → slot_of_selector h sel ≡ Some slot → bytes_at h.heap slot ≡ None) → is_some p ≡ false → bytes_at h.heap s ≡ None
  absent None told e = told s finds
  absent (Some g) told e = absurd (false≢true (sym e))
