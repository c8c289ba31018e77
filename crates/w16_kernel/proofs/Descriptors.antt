-- Where objects stay as they are, so do descriptors.
use Rattle.std.specs.Prelude.{◌≡◌, ◌-◌, ℕ, List, Option, Some, None, is_some, length, option_map, unwrap_or}
use Rattle.w16_kernel.proofs.Common.{ne_format, refl, sym, ap, ◌∙◌}
use Rattle.w16_model.specs.{Calls.global_handle, Calls.selector_base, Calls.selector_limit, Handles.Handles, Handles.Part, Handles.dword_of, Handles.handle_of, Handles.offset_in}
use Rattle.w16_model.specs.{Handles.part_of_selector, Handles.reached, Heap.Object, Heap.bytes_at, Heap.object_at, Owned.is_code}
use Rattle.w16_global.specs.{declared.peek.Descriptor.Descriptor, Peek.selector_descriptor}
use Rattle.w16_machine.specs.LocalStays.{HasSamePlaces}
use Rattle.w16_model.specs.Commands.Family.{OfLocals}
use Rattle.w16_machine.proofs.LocalStays.{local_places_law, places_law}
use Rattle.w16_kernel.specs.Descriptors.{DescriptorsLaw}
use Rattle.w16_loading.specs.Families.AnyCommand.{any}

-- what is told of a fact of something that may be absent
through : {X Y Z : Type 0} (fact : X → Y) (tell : Y → Z) (p q : Option X) → option_map fact p ≡ option_map fact q → option_map (λ x. tell (fact x)) p ≡ option_map (λ x. tell (fact x)) q
through fact tell p q same = fused p ∙ ap (option_map tell) same ∙ sym (fused q)
  where
    fused : (p : Option _) → option_map (λ x. tell (fact x)) p ≡ option_map tell (option_map fact p)
    fused None = refl
    fused (Some x) = refl

module _ (old new : Handles) (same : HasSamePlaces old new) (selector : ℕ) where
  parts : part_of_selector new selector ≡ part_of_selector old selector
  parts = ap (λ a. part_of_selector (record old { attributes = a }) selector) same.attributes

  abbrev limit_in : Handles → Option Part → ℕ
  limit_in handles q = elim q [ None ↦ 0 | Some p ↦ unwrap_or (option_map (λ (bytes : List ℕ). reached (length bytes) p - 1) (bytes_at handles.heap p.slot)) 0 ]

  limits : (q : Option Part) → limit_in new q ≡ limit_in old q
  limits None = refl
  limits (Some p) = ap (λ n. unwrap_or n 0) (through length (λ n. reached n p - 1) (bytes_at new.heap p.slot) (bytes_at old.heap p.slot) (same.sizes p.slot))

  abbrev handle_in : Handles → Option Part → ℕ
  handle_in handles q = elim q [ None ↦ 0 | Some p ↦ unwrap_or (option_map (λ (o : Object). dword_of selector (handle_of o.kind p.slot)) (object_at handles.heap p.slot)) 0 ]

  handles_same : (q : Option Part) → handle_in new q ≡ handle_in old q
  handles_same None = refl
  handles_same (Some p) = ap (λ n. unwrap_or n 0) (through (λ (o : Object). o.kind) (λ k. dword_of selector (handle_of k p.slot))
      (object_at new.heap p.slot) (object_at old.heap p.slot) (same.kinds p.slot))

  some_same : (p q : Option (List ℕ)) → option_map length p ≡ option_map length q → is_some p ≡ is_some q
  some_same p q e = shown p ∙ ap is_some e ∙ sym (shown q)
    where
      shown : (p : Option (List ℕ)) → is_some p ≡ is_some (option_map length p)
      shown None = refl
      shown (Some x) = refl

  abbrev told : Handles → Part → Descriptor
  told handles p = record {
    base = selector_base handles selector;
    limit = selector_limit handles selector;
    object = offset_in
        (global_handle handles selector);
    present = is_some (bytes_at handles.heap p.slot);
    code = is_code handles p.slot;
  }

  tells : (q : Option Part) → option_map (told new) q ≡ option_map (told old) q
  tells None = refl
  tells (Some p) = λ i. Some (record {
    base = selector_base (record old { attributes = same.attributes i; heap = record old.heap { places = same.addresses i } }) selector;
    limit = (ap (limit_in new) parts ∙ limits (part_of_selector old selector)) i;
    object = offset_in ((ap (handle_in new) parts ∙ handles_same (part_of_selector old selector)) i);
    present = some_same (bytes_at new.heap p.slot) (bytes_at old.heap p.slot) (same.sizes p.slot) i;
    code = is_code (record old { attributes = same.attributes i }) p.slot;
  })

  descriptor_same : selector_descriptor new selector ≡ selector_descriptor old selector
  descriptor_same = ap (option_map (told new)) parts ∙ tells (part_of_selector old selector)

pub descriptors_law : (honest : Type 0) → DescriptorsLaw honest
descriptors_law honest old new (any OfLocals command) reply is none step = descriptor_same old.loading.handles new.loading.handles (local_places_law old new command reply is none step.step)
descriptors_law honest old new command reply is none step = descriptor_same old.loading.handles new.loading.handles
    (places_law honest ne_format old.loading new.loading command reply none step.step.0)
