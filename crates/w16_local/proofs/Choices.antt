-- The local heap that DS names.
use Rattle.w16_local.proofs.Common as C
use Rattle.w16_local.proofs.Common.{◌≡◌, ℕ, Option, Some, None, option_map, unwrap_or, sym, ap, ◌∙◌, Table, LocalHeap, LocalObject, heap_of, object_named, name_from, IsIn, alone}

module _ (h : C.Handles) (ts : C.FinMap C.nat_cmp Table) (ds : ℕ) where
  -- Objects that have a name.
  abbrev named_of : ℕ → Option LocalHeap → Option LocalObject
  named_of name c = elim c [ None ↦ None | Some at ↦ option_map (λ id. record { heap = at; id = id }) (C.id_named (heap_of at) name) ]

  pub none_named : (name : ℕ) → C.current_heap (alone h ts ds) ≡ None → object_named (alone h ts ds) name ≡ None
  none_named name none = ap (named_of name) none

  module _ {slot : ℕ} {t : Table} (is : IsIn h ts ds slot t) where
    abbrev here : LocalHeap
    here = record { slot = slot; table = t; bytes = is.bytes }

    pub handle_told : (pointer answer : ℕ) → unwrap_or (name_from (C.heap_in t is.bytes) pointer) 0 ≡ answer → answer ≡ C.local_handle (alone h ts ds) pointer
    handle_told pointer answer told = sym (ap (λ (c : Option LocalHeap). elim c [ None ↦ 0 | Some at ↦ unwrap_or (name_from (heap_of at) pointer) 0 ]) is.is_current ∙ told)

  pub is_named : {slot : ℕ} {t : Table} {name id : ℕ} → (n : C.IsNamed h ts ds name slot t id) → object_named (alone h ts ds) name ≡ Some (record { heap = record { slot = slot; table = t; bytes = n.heap.bytes }; id = id })
  is_named {slot} {t} {name} {id} n = ap (named_of name) n.heap.is_current ∙ ap (option_map (λ id. record { heap = record { slot = slot; table = t; bytes = n.heap.bytes }; id = id })) n.has

  -- what is asked of one
  pub asked_none : (name : ℕ) (value : LocalObject → ℕ) → object_named (alone h ts ds) name ≡ None → 0 ≡ C.asked_of (alone h ts ds) name value
  asked_none name value none = sym (ap (λ o. unwrap_or (option_map value o) 0) none)

  pub asked_told : {slot : ℕ} {t : Table} {name id : ℕ} → (n : C.IsNamed h ts ds name slot t id) (value : LocalObject → ℕ) (answer : ℕ)
      → value (record { heap = record { slot = slot; table = t; bytes = n.heap.bytes }; id = id }) ≡ answer → answer ≡ C.asked_of (alone h ts ds) name value
  asked_told n value answer told = sym (ap (λ o. unwrap_or (option_map value o) 0) (is_named n) ∙ told)

  pub handle_none : (pointer : ℕ) → C.current_heap (alone h ts ds) ≡ None → 0 ≡ C.local_handle (alone h ts ds) pointer
  handle_none pointer none = sym (ap (λ (c : Option LocalHeap). elim c [ None ↦ 0 | Some at ↦ unwrap_or (name_from (heap_of at) pointer) 0 ]) none)
