-- Slots with something in them.
use Rattle.w16_global.proofs.Common as C
use Rattle.w16_global.proofs.Common.{◌≡◌, ℕ, ◌+◌, ◌-◌, ◌<◌, inl, inr, true, List, length, Option, Some, None, is_some, refl, sym, ap, ◌∙◌, false≢true}
use Rattle.std.proofs.lemmas.List.{get_or_past}
use Rattle.w16_selectors.specs.Descriptors.{DescriptorTable}

-- each is in the list
pub in_table : {X : Type 0} (t : List (Option X)) (slot : ℕ) → is_some (C.get_or t slot None) ≡ true → slot < length t
in_table t slot there = elim (C.cases_lt slot _) [ inl lt ↦ lt | inr past ↦ absurd (false≢true (sym (ap is_some (get_or_past t slot None past)) ∙ there)) ]

-- and so is each that an object may have
pub run_within : (attributes : List (Option C.Attributes)) (old : DescriptorTable) (slot first count : ℕ) → C.HasRun attributes old slot → C.MayHave attributes old slot first count
    → (number : ℕ) → number < count → first + number < length old
run_within attributes old slot first count run free number lt = elim (free _ lt) [
  | inl own ↦ in_table old _ (labelled _ (C.kind_in _ slot, first + number - slot) (run _ own))
  | inr untaken ↦ untaken.1
]
  where
    labelled : (d : Option C.Descriptor) (label : C.SelKind × ℕ) → C.label_of d ≡ Some label → is_some d ≡ true
    labelled None label e = cc
    labelled (Some d) label e = refl
