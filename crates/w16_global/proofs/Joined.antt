-- The objects, their attributes and their selectors, where some have changed.
use Rattle.w16_global.proofs
use proofs.Common as C
use proofs.Common.{◌≡◌, ℕ, ◌-◌, ◌<◌, ◌≤◌, inl, inr, true, List, length, get_or, set, Option, Some, None, option_map, refl, sym, ap, ◌∙◌, subst, arith, cases_eq, get_or-set_same, get_or-set_other, Attributes, Heap, SelKind, attributes_in, handles_of, kind_in, owner_in, says, HasSize}
use proofs.Owners.{attributes_at}
use Rattle.std.specs.FinMap as finmap
use Rattle.w16_selectors.specs.Descriptors as selectors

-- Attributes by slot.

-- a slot gets some
pub attributes_set : (xs : List (Option Attributes)) (slot : ℕ) (a : Attributes) → slot < length xs → attributes_in (set xs slot (Some a)) ≡ finmap.insert (attributes_in xs) slot a
attributes_set xs slot a lt = C.same_map C.nat_cmp_total C.nat_cmp-IsAntisymmetric _ _ (λ q. elim (cases_eq q slot) [
  | inl e ↦ attributes_at (set xs slot _) q ∙ ap (λ k. get_or (set xs slot (Some a)) k None) e ∙ get_or-set_same xs slot _ None lt ∙ sym (C.inserted_here _ slot a q e)
  | inr d ↦ attributes_at _ q ∙ get_or-set_other xs slot q _ None d ∙ sym (attributes_at xs q) ∙ sym (C.inserted_other _ slot a q d)
])

-- a slot loses its own
pub attributes_unset : (xs : List (Option Attributes)) (slot : ℕ) → slot < length xs → attributes_in (set xs slot None) ≡ finmap.remove (attributes_in xs) slot
attributes_unset xs slot lt = C.same_map C.nat_cmp_total C.nat_cmp-IsAntisymmetric _ _ (λ q. elim (cases_eq q slot) [
  | inl e ↦ attributes_at (set xs slot None) q ∙ ap (λ k. get_or (set xs slot None) k None) e ∙ get_or-set_same xs slot None None lt ∙ sym (C.taken_here _ slot q e)
  | inr d ↦ attributes_at _ q ∙ get_or-set_other xs slot q None None d ∙ sym (attributes_at xs q) ∙ sym (C.taken_other _ slot q d)
])

-- what modules own has a size, where a slot gets such attributes
pub sized_set : (xs : List (Option Attributes)) (slot : ℕ) (a : Option Attributes) → slot < length xs → ((q : ℕ) → HasSize (get_or xs q None)) → HasSize a → (q : ℕ) → HasSize (get_or (set xs slot a) q None)
sized_set xs slot a lt sized own q = elim (cases_eq q slot) [
  | inl e ↦ subst HasSize (sym (ap (λ k. get_or (set xs slot a) k None) e ∙ get_or-set_same xs slot a None lt)) own
  | inr n ↦ subst HasSize (sym (get_or-set_other xs slot q a None n)) (sized q)
]

-- What is joined stays so.

-- Where a slot stays its owner's, its selector says what it said, if its owner's do; and it has the same label.
module _ (xs ys : List (Option Attributes)) (q : ℕ) (same : owner_in ys q ≡ owner_in xs q) (kinds : (first : ℕ) → owner_in xs q ≡ Some first → kind_in ys first ≡ kind_in xs first) where
  pub others_described : (old new : Heap) → ((first : ℕ) → owner_in xs q ≡ Some first → (kind : SelKind) (number : ℕ) → says new kind number first ≡ says old kind number first) → C.described new ys q ≡ C.described old xs q
  others_described old new still = ap (by_owner new ys) same ∙ turn (owner_in xs q) refl
    where
      by_owner : Heap → List (Option Attributes) → Option ℕ → Option C.Descriptor
      by_owner heap zs p = elim p [ None ↦ None | Some first ↦ says heap (kind_in zs first) (q - first) first ]

      turn : (p : Option ℕ) → owner_in xs q ≡ p → by_owner new ys p ≡ by_owner old xs p
      turn None e = refl
      turn (Some first) e = ap (λ k. says new k (q - first) first) (kinds first e) ∙ still first e (kind_in xs first) (q - first)

  pub others_labelled : C.label_in ys q ≡ C.label_in xs q
  others_labelled = ap (option_map {U = SelKind × ℕ} (λ first. (kind_in ys first, q - first))) same ∙ turn (owner_in xs q) refl
    where
      turn : (p : Option ℕ) → owner_in xs q ≡ p → option_map {U = SelKind × ℕ} (λ first. (kind_in ys first, q - first)) p ≡ option_map {U = SelKind × ℕ} (λ first. (kind_in xs first, q - first)) p
      turn None e = refl
      turn (Some first) e = ap (λ k. Some (k, q - first)) (kinds first e)

module _ (holding : C.Holding) (attributes : List (Option Attributes)) (table : selectors.DescriptorTable) (are : C.AreJoined holding attributes table) where
  -- no object begins where slots are free
  pub unused_in : {m : ℕ} {w : C.Handles} → handles_of holding attributes m ≡ w → (slot count : ℕ) → 0 < count → C.IsFreeRun w slot count → C.object_at holding.heap slot ≡ None
  unused_in shown slot count some known = C.unused (handles_of holding attributes 0) are.handles slot count some (subst (λ v. C.IsFreeRun v slot count) (sym shown) known)

  -- an object's slot is one
  pub slot_there : (slot : ℕ) → C.is_some (C.object_at holding.heap slot) ≡ true → (C.FIRST_SLOT ≤ slot) × (slot < holding.cap)
  slot_there slot there =
      let n : C.IsSlot (handles_of holding attributes 0) slot = C.numbered (handles_of holding attributes 0) are.handles slot there in
      (n.0, (let some = are.some in let below = n.1 in omega arith))
