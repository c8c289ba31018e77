-- A new object joins the order of use: a discardable one is the newest, and another isn't in it.
use Rattle.w16_arena.proofs
use proofs.Common as C
use proofs.Common.{◌≡◌, ℕ, Bool, true, false, ◌&&◌, if◌then◌else◌, List, Some, None, refl, ap, ◌∙◌, Entry, Kind, is_discardable, newest}
use proofs.{Parts.AreParts, Changed.ReordersOne, Reordered.end_reorders, Reordered.same_reorders}

module _ {entries : List (C.Option Entry)} {layout : C.Layout} {order memory : List ℕ} (parts : AreParts entries layout order memory) (id : ℕ) (kind : Kind) (absent : C.block_with layout.blocks id ≡ None) where
  not_yet : C.is_member id order ≡ false
  not_yet = parts.sound.in_order id ∙ ap (C.is_listed (C.get_or entries id None)) absent ∙ out (C.get_or entries id None)
    where
      out : (e : C.Option Entry) → C.is_listed e None ≡ false
      out None = refl
      out (Some e) = and_none (is_discardable e.kind)
        where
          and_none : (b : Bool) → (b && false) ≡ false
          and_none true = refl
          and_none false = refl

  pub joins : ReordersOne id (is_discardable kind && true) order (if is_discardable kind then newest id order else order)
  joins = from (is_discardable kind)
    where
      from : (b : Bool) → ReordersOne id (b && true) order (if b then newest id order else order)
      from true = end_reorders C.Newest id order parts.sound.no_repeats
      from false = same_reorders id order false not_yet parts.sound.no_repeats

  pub joined : (locks : ℕ) (bytes : List ℕ) → C.with_newest id (record { kind = kind; locks = locks; bytes = Some bytes }) order ≡ (if is_discardable kind then newest id order else order)
  joined locks bytes = from (is_discardable kind)
    where
      from : (b : Bool) → (if (b && true) then newest id order else C.without id order) ≡ (if b then newest id order else order)
      from true = refl
      from false = C.without_absent id order not_yet
