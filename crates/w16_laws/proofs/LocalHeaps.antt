-- Local heaps: each object has a name, what a growth leaves, and what a far access leaves of them.
use Rattle.w16_machine.proofs.Common as C
use Rattle.std.specs.FinMap as finmap
use Rattle.w16_machine.proofs.Common.{◌≡◌, ℕ, ◌+◌, ◌*◌, Bool, true, false, cond, Option, Some, None, is_some, refl, ap, ◌∙◌, subst, is_fixed, sym, Table}
use Rattle.w16_machine.proofs.{LocalLonger.leaves_longer, LocalFacts.IsThere, LocalFacts.local_there, LocalFar.far_reply, LocalFar.tables_stay, LocalFar.same_heaps}
use Rattle.w16_laws.specs.LocalHeaps.{NamedLaw, GrowthLaw, FarLaw}

pub named_law : NamedLaw
named_law heap id is named = turn _ refl (named id)
  where
    by_kind : (o : C.Object) → C.object_at heap id ≡ Some o → (f : Bool) → is_fixed o.kind ≡ f → is_some (cond f (finmap.get heap.places id) (Some (4 * id + 2))) ≡ true
    by_kind o there true f = is.at_bytes id ∙ ap (λ p. is_some (C.bytes_in p)) there ∙ subst (λ p. C.IfSome p (λ o. is_fixed o.kind ≡ true → is_some o.bytes ≡ true)) there (named id) f
    by_kind o there false f = refl

    turn : (p : Option C.Object) → C.object_at heap id ≡ p → C.IfSome p (λ o. is_fixed o.kind ≡ true → is_some o.bytes ≡ true) → is_some (elim p as (λ _. Option ℕ) [ None ↦ None | Some o ↦ C.name_of heap id o ]) ≡ is_some p
    turn None there h = refl
    turn (Some o) there h = by_kind o there _ refl

pub growth_law : GrowthLaw
growth_law old new command is r = leaves_longer old new _ is r

pub local_far_law : FarLaw
local_far_law old new command reply is known step rest = (
  same_tables,
  (λ slot at after e f.
      let was = local_there old slot at e in
      let now = local_there new slot after f in
      same_heaps old new is at after was.0 now.0 (same_table at after was.0 now.0 (now.1 ∙ sym was.1))),
)
  where
    same_tables : new.heaps ≡ old.heaps
    same_tables = tables_stay old new is rest (far_reply _ _ command _ step)

    same_table : (at after : C.LocalHeap) → IsThere old at → IsThere new after → after.slot ≡ at.slot → after.table ≡ at.table
    same_table at after was now e = let some : ◌≡◌ {A = Option Table} (Some after.table) (Some at.table) = sym now.table ∙ ap (λ m. finmap.get m after.slot) same_tables ∙ ap (finmap.get old.heaps) e ∙ was.table in cc
