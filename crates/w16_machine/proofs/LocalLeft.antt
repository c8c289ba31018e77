-- Local heaps that go where a step leaves their segments without their ranges.
use Rattle.w16_machine.proofs
use proofs.Common as C
use proofs.Common.{◌≡◌, ℕ, Bool, true, false, cond, nat_le, List, length, Option, Some, None, refl, sym, ap, ◌∙◌, subst, Heap, bytes_at, Table, World, AreLocalHeaps}
use proofs.LocalNamed.{named_in}
use Rattle.std.specs.FinMap as finmap

-- what is so of each slot
abbrev pub IsLocalAt : Option Table → Option (List ℕ) → Type 0
IsLocalAt t b = C.IfSome t (λ t. C.IsSomeAnd b (C.IsLocalIn t))

-- what is left of a heap over these bytes of its segment
abbrev pub left_over : Option Table → Option (List ℕ) → Option Table
left_over None b = None
left_over (Some t) None = None
left_over (Some t) (Some bytes) = cond (nat_le t.hi (length bytes)) (Some t) None

pub left_is : (heap : Heap) (tables : C.FinMap C.nat_cmp Table) (slot : ℕ) → finmap.get (C.left_in heap tables) slot ≡ left_over (finmap.get tables slot) (bytes_at heap slot)
left_is heap tables slot =
    C.get-retain_keys _ _ _ (λ x t. ap (C.has_range heap _) (sym (C.nat_cmp-IsAntisymmetric _ x t)))
    ∙ turn (finmap.get _ _) (bytes_at heap _)
  where
    turn : (t : Option Table) (b : Option (List ℕ)) → cond (elim t as (λ _. Bool) [ None ↦ false | Some t ↦ elim b [ None ↦ false | Some bytes ↦ nat_le t.hi (length bytes) ] ]) t None ≡ left_over t b
    turn None b = refl
    turn (Some t) None = refl
    turn (Some t) (Some bytes) = refl

-- a step of another family
pub heaps_after : (old new : World) → AreLocalHeaps old → C.AreHandles new.loading.handles → new ≡ C.after_loading old new.loading → AreLocalHeaps new
heaps_after old new is handles rest = subst AreLocalHeaps (sym rest)
    (record {
      handles = handles;
      heaps = λ slot. subst (λ t. IsLocalAt t (bytes_at new.loading.handles.heap slot))
          (sym (left_is new.loading.handles.heap _ _))
          (turn (finmap.get _ _) (C.segment_bytes old _) (bytes_at new.loading.handles.heap _)
          (is.heaps _));
    })
  where
    inside : (t : Table) (before after : List ℕ) → C.IsLocalIn t before → (b : Bool) → nat_le t.hi (length after) ≡ b → IsLocalAt (cond b (Some t) None) (Some after)
    inside t before after h true e = let le = C.leb-true t.hi (length _) e in (h.0, le, named_in t h.0.sound.table before after h.1 le h.2)
    inside t before after h false e = tt

    turn : (t : Option Table) (before after : Option (List ℕ)) → IsLocalAt t before → IsLocalAt (left_over t after) after
    turn None before after h = tt
    turn (Some t) before None h = tt
    turn (Some t) None (Some after) h = absurd h
    turn (Some t) (Some before) (Some after) h = inside t before after h (nat_le _ _) refl
