-- What the selectors of an object say, by their number.
use Rattle.w16_model.proofs.Common.{◌≡◌, ℕ, ◌+◌, ◌-◌, ◌*◌, ◌/◌, ◌<◌, cond, min, length, Option, Some, None, option_map, unwrap_or, sym, ap, ◌∙◌, arith, eq-eqb, Object, object_at, Handles, AreHandles, slots_at, owner_of, handle_of, selector_of, bytes_at, Dword}
use Rattle.w16_model.proofs.{KeptHeaps.bytes_in, Runs.is_owner, Runs.owner_is}
use Rattle.w16_model.specs.Handles.{Gives, Part, dword_of, part_of_selector, reached}
use Rattle.w16_model.specs.{Calls.global_handle, Calls.selector_base, Calls.selector_limit}
use Rattle.std.specs.FinMap as finmap
use Rattle.w16_model.specs.declared.TheConstants.{REACH}
use Rattle.w16_laws.specs.Heaps.{OwnerLaw, SelectorsLaw}

module _ (old : Handles) (is : AreHandles old) (slot k : ℕ) (below : k < slots_at old.attributes slot) where
  -- its number is back in it
  slot_back : selector_of (slot + k) / 8 ≡ slot + k
  slot_back = omega arith

  -- the object is reached by it, as the k-th
  part_is : part_of_selector old (selector_of (slot + k)) ≡ Some (record { slot = slot; number = k })
  part_is =
      ap (λ b. cond {A = Option Part} b (option_map (λ first. record { slot = first; number = selector_of (slot + k) / 8 - first }) (owner_of old.attributes (selector_of (slot + k) / 8))) None)
      (eq-eqb (selector_of (slot + k)) (selector_of (selector_of (slot + k) / 8)) (ap selector_of (sym slot_back)))
      ∙ (λ i. option_map (λ first. record { slot = first; number = slot_back i - first }) (owner_of old.attributes (slot_back i)))
      ∙ ap (option_map (λ first. record { slot = first; number = slot + k - first })) (is_owner old.attributes old.slots is.runs (slot + k) slot (omega arith, omega (arith, below)))
      ∙ (let less : slot + k - slot ≡ k = omega arith in λ i. Some (record { slot = slot; number = less i }))

  module _ (o : Object) (there : object_at old.heap slot ≡ Some o) where
    handle : global_handle old (selector_of (slot + k)) ≡ dword_of (selector_of (slot + k)) (handle_of o.kind slot)
    handle =
        ap (λ p. elim p [ None ↦ 0 | Some p ↦ unwrap_or (option_map (λ o. dword_of (selector_of (slot + k)) (handle_of o.kind p.slot)) (object_at old.heap p.slot)) 0 ]) part_is
        ∙ ap (λ p. unwrap_or (option_map (λ o. dword_of (selector_of (slot + k)) (handle_of o.kind slot)) p) 0) there

    base : (at : ℕ) → finmap.get old.heap.places slot ≡ Some at → selector_base old (selector_of (slot + k)) ≡ at + 65536 * k
    base at stands =
        ap (λ p. elim p [ None ↦ 0 | Some p ↦ unwrap_or (option_map (λ at. at + REACH * p.number) (finmap.get old.heap.places p.slot)) 0 ]) part_is
        ∙ ap (λ p. unwrap_or (option_map (λ at. at + 65536 * k) p) 0) stands

    limit : selector_limit old (selector_of (slot + k)) ≡ unwrap_or (option_map (λ bytes. min 65536 (length {A = ℕ} bytes - 65536 * k) - 1) o.bytes) 0
    limit =
        ap (λ p. elim p [ None ↦ 0 | Some p ↦ unwrap_or (option_map (λ bytes. reached (length bytes) p - 1) (bytes_at old.heap p.slot)) 0 ]) part_is
        ∙ ap (λ p. unwrap_or (option_map (λ bytes. min 65536 (length {A = ℕ} bytes - 65536 * k) - 1) (bytes_in p)) 0) there

-- an answer is what is asked
told : (value answer : ℕ) (old new : Handles) → Gives (Dword value, old) (Dword answer) new → answer ≡ value
told value answer old new gives = let e = gives.0 in cc

pub selectors_law : SelectorsLaw
selectors_law old new slot k answer o is there below = (
  λ step. told _ _ old new step ∙ handle old is _ k below o there,
  λ at stands step. told _ _ old new step ∙ base old is slot k below o there at stands,
  λ bytes has step. told _ _ old new step ∙ limit old is slot k below o there ∙ ap (λ p. unwrap_or (option_map (λ bytes. min 65536 (length {A = ℕ} bytes - 65536 * k) - 1) p) 0) has,
  λ none step. told _ _ old new step ∙ limit old is slot k below o there ∙ ap (λ p. unwrap_or (option_map (λ bytes. min 65536 (length {A = ℕ} bytes - 65536 * k) - 1) p) 0) none,
)

-- the owner of a slot is the object in whose run it is, and there is no other
pub owner_law : OwnerLaw
owner_law handles slot first is = (owner_is _ slot first, is_owner _ _ is.runs slot first)
