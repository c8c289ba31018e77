-- A map once a key is put in where it is already, or where it was taken out.
use Rattle.w16_model.proofs.Common.{◌≡◌, ℕ, inl, inr, Some, sym, ap, ◌∙◌, FinMap, nat_cmp_total, nat_cmp, cases_eq}
use Rattle.std.specs.FinMap as finmap
use Rattle.std.specs.FinMap.{nat_cmp-IsAntisymmetric, same_map}
use Rattle.w16_model.proofs.KeptHeaps.{inserted_here, inserted_other, taken_other}

module _ {X : Type 0} (m : FinMap nat_cmp X) (id : ℕ) (x : X) where
  -- nothing changes where the same is put
  pub put_same : finmap.get m id ≡ Some x → finmap.insert m id x ≡ m
  put_same there = same_map nat_cmp_total nat_cmp-IsAntisymmetric (finmap.insert m id x) m (λ q. elim (cases_eq q id) [
    | inl e ↦ inserted_here m id x q e ∙ sym there ∙ ap (finmap.get m) (sym e)
    | inr d ↦ inserted_other m id x q d
  ])

  -- what is put where something was taken away is as if nothing had been
  pub put_where_taken : finmap.insert (finmap.remove m id) id x ≡ finmap.insert m id x
  put_where_taken = same_map nat_cmp_total nat_cmp-IsAntisymmetric (finmap.insert (finmap.remove m id) id x) (finmap.insert m id x) (λ q. elim (cases_eq q id) [
    | inl e ↦ inserted_here (finmap.remove m id) id x q e ∙ sym (inserted_here m id x q e)
    | inr d ↦ inserted_other (finmap.remove m id) id x q d ∙ taken_other m id q d ∙ sym (inserted_other m id x q d)
  ])
