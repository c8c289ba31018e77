-- What a record is bound to depends on no values.
use Rattle.w16_loading.proofs.Common as C
use Rattle.w16_loading.proofs.Common.{◌≡◌, ℕ, List, Some, None, refl, sym, ap, ◌∙◌, Named, address_by_ordinal, address_by_name, imported, Loaded, without_values}

by_ordinal : (handle ordinal : ℕ) (p : C.Option Named) → address_by_ordinal handle p ordinal ≡ address_by_ordinal handle (without_values p) ordinal
by_ordinal handle ordinal None = refl
by_ordinal handle ordinal (Some (Loaded m)) = refl
by_ordinal handle ordinal (Some (C.BuiltIn name)) = refl

by_name : (name : List ℕ) (p : C.Option Named) → address_by_name p name ≡ address_by_name (without_values p) name
by_name name None = refl
by_name name (Some (Loaded m)) = refl
by_name name (Some (C.BuiltIn other)) = refl

pub values_law : C.ValuesLaw
values_law f g m (C.Internal number offset) same = refl
values_law f g m (C.InternalEntry ordinal) same = refl
values_law f g m (C.Import reference ordinal) same = let h = imported m reference in
    by_ordinal _ ordinal (f _) ∙ ap (λ p. address_by_ordinal (imported m reference) p ordinal) (same _) ∙ sym (by_ordinal _ ordinal (g _))
values_law f g m (C.ImportName reference name) same = by_name _ _ ∙ ap (λ p. address_by_name p name) (same _) ∙ sym (by_name _ _)
values_law f g m C.System same = refl
