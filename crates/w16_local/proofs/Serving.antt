-- A request in the heap of a slot, as a call's step.
use Rattle.w16_local.proofs
use Rattle.w16_local.specs
use proofs.Common as C
use proofs.Common.{◌≡◌, ℕ, ◌⊎◌, inl, inr, List, Option, Some, None, refl, sym, ◌∙◌, subst, arith, nat_cmp, FinMap, Kind, Heap, Handles, Table, heap_in, Global, World, Acted, Done, Idle, with_parts}
use proofs.Acting.{acted_same, once_in}
use Rattle.w16_machine.specs.LocalGrowth.{IsGrowth, IsKeptShort}
use specs.declared.growth.Met.TheVariants.{Answered, Lacks}
use specs.Growth.{Grown, InSlot, MayGrowIn, Served, ServedOver, SizeTold, WritesGrown, WritesOnce, WritesServed, operation_of, in_slot}
use specs.{declared.growth.Met.Met, declared.growth.Request.Request}
use Rattle.w16_local.specs.declared.growth.Purpose.{Purpose}
use Rattle.w16_local.specs.declared.growth.Purpose.TheVariants.{New, Resize}

-- a refusal answers 0
idle_none : (r : Request) (heap : Heap) (answer : ℕ) → Idle (operation_of r) heap answer → answer ≡ 0
idle_none r heap answer = turn r.purpose
  where
    turn : (p : Purpose) → Idle (operation_of (record r { purpose = p })) heap answer → answer ≡ 0
    turn (New kind) i = i.1
    turn Resize i = i.1

-- what is known once the request has been tried
abbrev pub Tried : Handles → FinMap nat_cmp Table → ℕ → Request → Met → Handles → FinMap nat_cmp Table → Type 0
Tried handles tables slot r met next new = C.ActedIn handles tables slot (λ table bytes left after. (count : ℕ) × (ServedOver r table bytes met left after × C.Writes (operation_of r) (heap_in table bytes) (heap_in left after) 0 count)) next new

module _ {handles : Handles} {tables : FinMap nat_cmp Table} {slot : ℕ} (r : Request) where
  -- It is answered.
  pub served_now : {next : Handles} {new : FinMap nat_cmp Table} (answer : ℕ) → Tried handles tables slot r (Answered answer) next new → InSlot handles tables slot next new (λ old at left. Served r old at answer left)
  served_now {next} {new} answer a = record {
    table = a.before;
    bytes = a.bytes;
    was = a.was;
    had = a.had;
    holds = λ rest ds. inl (record {
      table = a.table;
      bytes = a.after;
      is_local = a.is_local;
      range = (acted.range.lo, acted.range.hi);
      long = a.long;
      outside = acted.outside;
      are_bytes = a.are_bytes;
      acted = done;
      rest = λ i. with_parts rest (a.rest.1 i) (a.rest.0 i) ds;
    });
  }
    where
      acted : Acted (operation_of r) a.before a.bytes answer a.table a.after
      acted = a.does.1.0.1

      done : Done (operation_of r) (heap_in a.before a.bytes) answer (heap_in a.table a.after)
      done = elim acted.act_is [
        | inl idle ↦ absurd (a.does.1.0.0 (idle_none r (heap_in a.before a.bytes) answer idle.0))
        | inr d ↦ d
      ]

  -- It is refused, and nothing has changed.
  module _ {next : Handles} {new : FinMap nat_cmp Table} (size : Option ℕ) (a : Tried handles tables slot r (Lacks size) next new) where
    idle : Idle (operation_of r) (heap_in a.before a.bytes) 0
    idle = a.does.1.0.0

    told : SizeTold r a.before a.bytes size
    told = a.does.1.0.3

    pub same : (new ≡ tables) × (next ≡ handles)
    same = acted_same a a.does.1.0.1 a.does.1.0.2

    same_world : (rest : World) (ds : ℕ) → with_parts rest next new ds ≡ with_parts rest handles tables ds
    same_world rest ds = λ i. with_parts rest (same.1 i) (same.0 i) ds

    -- There is no size to which the heap is to grow.
    pub served_still : size ≡ None → InSlot handles tables slot next new (λ old at left. Served r old at 0 left)
    served_still none = record {
      table = a.before;
      bytes = a.bytes;
      was = a.was;
      had = a.had;
      holds = λ rest ds. inr (idle, inl ((λ size g. absurd (subst (SizeTold r a.before a.bytes) none told slot size g)), (refl, same_world rest ds)));
    }

    -- There is one.
    module _ (some : ℕ) (some_is : size ≡ Some some) where
      growth : IsGrowth (in_slot a.before a.bytes slot) r.id r.size r.options some
      growth = subst (SizeTold r a.before a.bytes) some_is told slot

      pub may_grow : C.MayActIn handles tables slot (C.MayActOver (operation_of r)) → MayGrowIn next new slot some r
      may_grow may = subst (λ (p : Handles × FinMap nat_cmp Table). MayGrowIn p.0 p.1 slot some r) (λ i. (sym same.1 i, sym same.0 i)) (record {
        table = a.before;
        bytes = a.bytes;
        was = a.was;
        had = a.had;
        is_local = subst C.IsLocalTable a.does.1.0.1 a.is_local;
        may = subst (λ (p : Table × List ℕ). C.MayAct (operation_of r) (heap_in p.0 p.1)) (λ i. (table_is i, bytes_are i)) may.may.1;
        growth = growth;
      })
        where
          table_is : may.table ≡ a.before
          table_is = let both : ◌≡◌ {A = Option Table} (Some may.table) (Some a.before) = sym may.was ∙ a.was in cc

          bytes_are : may.bytes ≡ a.bytes
          bytes_are = let both : ◌≡◌ {A = Option (List ℕ)} (Some may.bytes) (Some a.bytes) = sym may.had ∙ a.had in cc

      -- no other size is the least
      only : (other : ℕ) → IsGrowth (in_slot a.before a.bytes slot) r.id r.size r.options other → some ≡ other
      only other g = let below = growth.least other g.served in let above = g.least some growth.served in omega (arith, below, above)

      pub served_grown : {answer : ℕ} {last : Handles} {final : FinMap nat_cmp Table} → InSlot next new slot last final (λ old at left. Grown r some old at answer left) → InSlot handles tables slot last final (λ old at left. Served r old at answer left)
      served_grown {answer} {last} {final} g = record {
        table = a.before;
        bytes = a.bytes;
        was = a.was;
        had = a.had;
        holds = λ rest ds. inr (
          idle,
          elim (grown rest ds) [
            | inl short ↦ inl ((λ other is. subst (IsKeptShort (with_parts rest handles tables ds) (in_slot a.before a.bytes slot) r.options) (only other is) short.0), short.1)
            | inr l ↦ inr (record { size = some; growth = growth; lengthens = l.0; grown = l.1 })
          ],
        );
      }
        where
          there : InSlot handles tables slot last final (λ old at left. Grown r some old at answer left)
          there = subst (λ (p : Handles × FinMap nat_cmp Table). InSlot p.0 p.1 slot last final (λ old at left. Grown r some old at answer left)) (λ i. (same.1 i, same.0 i)) g

          table_is : there.table ≡ a.before
          table_is = let both : ◌≡◌ {A = Option Table} (Some there.table) (Some a.before) = sym there.was ∙ a.was in cc

          bytes_are : there.bytes ≡ a.bytes
          bytes_are = let both : ◌≡◌ {A = Option (List ℕ)} (Some there.bytes) (Some a.bytes) = sym there.had ∙ a.had in cc

          grown : (rest : World) (ds : ℕ) → Grown r some (with_parts rest handles tables ds) (in_slot a.before a.bytes slot) answer (with_parts rest last final ds)
          grown rest ds = subst (λ (p : Table × List ℕ). Grown r some (with_parts rest handles tables ds) (in_slot p.0 p.1 slot) answer (with_parts rest last final ds)) (λ i. (table_is i, bytes_are i)) (there.holds rest ds)

-- What is written where the heap doesn't grow,
pub once_writes : (old new : Global) {tables left : FinMap nat_cmp Table} {slot : ℕ} {does : Table → List ℕ → Table → List ℕ → Type 0} (r : Request) → C.ActedIn old.handles tables slot does new.handles left → C.IsLent old slot new
    → InSlot old.handles tables slot new.handles left (λ before at after. WritesServed r before at old.written after.loading.handles new.written)
once_writes old new r a lent = record { table = a.before; bytes = a.bytes; was = a.was; had = a.had; holds = λ rest ds. inl (once_in old new a lent) }

-- and where it may have grown.
module _ (old between new : Global) {tables mid : FinMap nat_cmp Table} (left : FinMap nat_cmp Table) {slot : ℕ} (r : Request) (size : Option ℕ) (a : Tried old.handles tables slot r (Lacks size) between.handles mid) (lent : C.IsLent old slot between) where
  abbrev GrownFrom : (old : Handles) → FinMap nat_cmp Table → ℕ → Type 0
  GrownFrom handles tables count = InSlot handles tables slot new.handles left (λ before at after. WritesGrown before at r.id r.size r.options count after.loading.handles new.written)

  pub grown_writes : (new ≡ between) ⊎ GrownFrom between.handles mid between.written → InSlot old.handles tables slot new.handles left (λ before at after. WritesServed r before at old.written after.loading.handles new.written)
  grown_writes may = record { table = a.before; bytes = a.bytes; was = a.was; had = a.had; holds = λ rest ds. turn rest ds may }
    where
      turn : (rest : World) (ds : ℕ) → (new ≡ between) ⊎ GrownFrom between.handles mid between.written → WritesServed r (with_parts rest old.handles tables ds) (in_slot a.before a.bytes slot) old.written new.handles new.written
      turn rest ds (inl still) = inl (subst (λ (g : Global). WritesOnce (in_slot a.before a.bytes slot) old.written g.handles g.written) (sym still) (once_in old between a lent))
      turn rest ds (inr grown) = inr (subst (λ (p : Table × List ℕ). WritesGrown (with_parts rest old.handles tables ds) (in_slot p.0 p.1 slot) r.id r.size r.options (C.counted old.written (C.length a.bytes)) new.handles new.written)
          (λ i. (table_is i, bytes_are i)) (there.holds rest ds))
        where
          kept : (mid ≡ tables) × (between.handles ≡ old.handles)
          kept = same r size a

          there : GrownFrom old.handles tables (C.counted old.written (C.length a.bytes))
          there = subst (λ (p : Handles × FinMap nat_cmp Table × ℕ). GrownFrom p.0 p.1 p.2) (λ i. (kept.1 i, kept.0 i, (once_in old between a lent).1 i)) grown

          table_is : there.table ≡ a.before
          table_is = let both : ◌≡◌ {A = Option Table} (Some there.table) (Some a.before) = sym there.was ∙ a.was in cc

          bytes_are : there.bytes ≡ a.bytes
          bytes_are = let both : ◌≡◌ {A = Option (List ℕ)} (Some there.bytes) (Some a.bytes) = sym there.had ∙ a.had in cc
