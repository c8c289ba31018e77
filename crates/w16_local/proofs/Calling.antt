-- The calls that act in a local heap.
use Rattle.w16_local.proofs
use proofs.Common as C
use proofs.Common.{◌≡◌, ℕ, ◌+◌, ◌*◌, ◌/◌, ◌<◌, ◌≤◌, ◌==◌, ◌&&◌, inl, inr, Bool, true, false, MatchBool, MatchOption, OnErr, if◌then◌else◌, Option, Some, None, Result, Ok, Err, is_ok, is_some, refl, sym, ap, ◌∙◌, subst, arith, eq-eqb, ne_eqb, nat_cmp, FinMap, false≢true, Kind, Fixed}
use proofs.Common.{Refusal, has_flag, with_object, Handles, Heap, Object, object_at, after_discard, after_free, IsNew, MakesRoom, most_room, Table, entry_at, heap_in, not_asked, LMEM_MODIFY, LMEM_MOVEABLE, World, LocalHeap, Acts, Stays, heap_of, rounded_up, AllocatesObject, CompactsIn}
use proofs.Common.{DiscardsObject, EntersObject, GivesUp, local_kind, local_options, moveable_or_discardable, LocalAlloc, LocalFree, LocalReAlloc, Alloc, Free, ActedIn, DoesAct, Done, Calls, IsIn, alone, with_parts, outcome}
use proofs.Stepping.{leaves, none_calls, on_named}
use proofs.{Entries.mapped, Looks.heap_is}
use Rattle.w16_machine.specs.LocalGrowth.{longer}
use Rattle.w16_local.specs.{declared.growth.Request.Request, Growth.InSlot, Growth.Served}
use Rattle.w16_local.specs.declared.growth.Purpose.TheVariants.{New, Resize}
use Rattle.std.specs.FinMap as finmap
use Rattle.w16_local.proofs.Acting as acting

-- a name's object is there
pub named_there : {handles : Handles} {tables : FinMap nat_cmp Table} {ds name slot : ℕ} {t : Table} {id : ℕ} (n : C.IsNamed handles tables ds name slot t id) → C.IsSome (object_at (heap_in t n.heap.bytes) id)
named_there {handles} {tables} {ds} {name} {slot} {t} {id} n = turn (object_at (heap_in t n.heap.bytes) id) ((C.names_law (heap_in t n.heap.bytes) name id (heap_is n.heap.over) n.heap.over.is_local.grain).0.0 n.has)
  where
    turn : (p : Option Object) → (elim p as (λ _. Option ℕ) [ None ↦ None | Some o ↦ C.name_of (heap_in t n.heap.bytes) id o ]) ≡ Some name → C.IsSome p
    turn None e = cc
    turn (Some o) e = refl

-- a heap acts so, told in other words
acts_as : {old new : World} {at : LocalHeap} {P : Heap → Type 0} (Q : Heap → Type 0) (a : Acts old at P new) → Q (heap_in a.table a.bytes) → Acts old at Q new
acts_as Q a so = record { table = a.table; bytes = a.bytes; is_local = a.is_local; range = a.range; long = a.long; outside = a.outside; are_bytes = a.are_bytes; acted = so; rest = a.rest }

-- the requests of the calls
abbrev pub make : ℕ → ℕ → ℕ → Request
make id size flags = record { id = id; size = rounded_up size; purpose = New (local_kind flags); options = local_options flags }

abbrev pub resize : ℕ → ℕ → ℕ → Request
resize id size flags = record { id = id; size = rounded_up size; purpose = Resize; options = local_options flags }

-- bytes are given up
gives_up : {old new : World} {at : LocalHeap} (r : Result Heap Refusal) (taken refused : ℕ) → Acts old at (λ next. r ≡ Ok next) new → GivesUp old at r taken refused taken new
gives_up r taken refused a = rw a.acted (refl, acts_as _ a refl)

gives_none : (old : World) (at : LocalHeap) (r : Result Heap Refusal) (taken refused : ℕ) → is_ok r ≡ false → GivesUp old at r taken refused refused old
gives_none old at (Ok heap) taken refused e = absurd (false≢true (sym e))
gives_none old at (Err refusal) taken refused e = (refl, refl)

module _ {handles : Handles} {tables : FinMap nat_cmp Table} {ds name slot : ℕ} {t : Table} {id : ℕ} (n : C.IsNamed handles tables ds name slot t id) where
  abbrev before : Heap
  before = heap_in t n.heap.bytes

  -- LocalFree
  pub free_calls : {answer : ℕ} {next : Handles} {new : FinMap nat_cmp Table} → ActedIn handles tables slot (DoesAct (Free id) answer) next new → Calls handles tables ds (LocalFree name) 0 next new
  free_calls a rest =
      on_named n rest _ _ _ _ (elim (acting.outcome n.heap a rest) [
        | inl same ↦ absurd same.0
        | inr acts ↦ gives_up (after_free before id) 0 name acts
      ])

  pub free_refused : is_ok (after_free before id) ≡ false → Calls handles tables ds (LocalFree name) name handles tables
  free_refused e rest = on_named n rest _ _ _ _ (gives_none _ _ (after_free before id) 0 name e)

  -- LocalReAlloc
  module _ (size flags : ℕ) where
    abbrev named_object : C.LocalObject
    named_object = record { heap = record { slot = slot; table = t; bytes = n.heap.bytes }; id = id }

    abbrev Sizes : World → ℕ → World → C.LocalObject → Type 0
    Sizes old answer new o = MatchBool (size == 0) (DiscardsObject old name flags answer new o) (C.SizesObject old size flags answer new o)

    abbrev Reallocates : ℕ → Handles → FinMap nat_cmp Table → Type 0
    Reallocates answer next new = Calls handles tables ds (LocalReAlloc name size flags) answer next new

    pub modify_calls : has_flag flags LMEM_MODIFY ≡ true → {X : Type 0} (r : Result X Refusal) (new : FinMap nat_cmp Table) → C.Stepped tables slot (λ a b. C.after_modify a id (moveable_or_discardable flags) ≡ outcome r b) new → OnErr r (new ≡ tables)
        → Reallocates name handles new
    modify_calls f r new s same rest = on_named n rest _ _ _ _
        (rw f (leaves n rest (λ h. C.after_modify h id (moveable_or_discardable flags)) r new s same (λ _. name) (λ _. name) name (told r)))
      where
        told : {X : Type 0} (r : Result X Refusal) → name ≡ C.answer_of r name (λ _. name)
        told (Ok x) = refl
        told (Err e) = refl

    module _ (f : has_flag flags LMEM_MODIFY ≡ false) (answer : ℕ) (next : Handles) (new : FinMap nat_cmp Table) where
      not_modified : ((rest : World) → Sizes (with_parts rest handles tables ds) answer (with_parts rest next new ds) named_object) → Reallocates answer next new
      not_modified so rest = on_named n rest _ _ _ _ (rw f (so rest))

      pub resize_calls : 0 < size → InSlot handles tables slot next new (λ old at left. Served (resize id size flags) old at answer left) → Reallocates answer next new
      resize_calls some s = not_modified (λ rest.
          rw (ne_eqb size 0 (λ e. absurd (omega (arith, e, some))))
          (elim (acting.held_here n.heap s rest) [
            | inl acts ↦ inl (sizes (heap_of named_object.heap) acts)
            | inr r ↦ inr (
              r.0.0,
              elim r.1 [
                | inl short ↦ inl short
                | inr g ↦ inr (record { size = g.size; growth = g.growth; lengthens = g.lengthens; grown = sizes (heap_of (longer named_object.heap g.size g.lengthens.bytes)) g.grown })
              ],
            )
          ]))
        where
          sizes : {old left : World} {at : LocalHeap} (heap : Heap) → Acts old at (Done (C.Realloc id (rounded_up size) (local_options flags)) heap answer) left → Acts old at (C.ResizesObject heap id size flags answer) left
          sizes heap acts = acts_as (C.ResizesObject heap id size flags answer) acts (record { resized = acts.acted.0; named = acts.acted.1 })

      module _ (none : size ≡ 0) where
        of_none : ((rest : World) → DiscardsObject (with_parts rest handles tables ds) name flags answer (with_parts rest next new ds) named_object) → Reallocates answer next new
        of_none so = not_modified (λ rest. rw (eq-eqb size 0 none) (so rest))

    module _ (f : has_flag flags LMEM_MODIFY ≡ false) (none : size ≡ 0) where
      pub discard_calls : has_flag flags LMEM_MOVEABLE ≡ true → {answer : ℕ} {next : Handles} {new : FinMap nat_cmp Table} → ActedIn handles tables slot (DoesAct (C.Discard id) answer) next new → Reallocates name next new
      discard_calls m a = of_none f _ _ _ none (λ rest. rw m (elim (acting.outcome n.heap a rest) [
        | inl same ↦ absurd same.0
        | inr acts ↦ gives_up (after_discard before id) name 0 acts
      ]))

      pub discard_refused : has_flag flags LMEM_MOVEABLE ≡ true → is_ok (after_discard before id) ≡ false → Reallocates 0 handles tables
      discard_refused m e = of_none f _ _ _ none (λ rest. rw m (gives_none _ _ (after_discard before id) name 0 e))

      pub discard_unasked : has_flag flags LMEM_MOVEABLE ≡ false → Reallocates 0 handles tables
      discard_unasked m = of_none f _ _ _ none (λ rest. rw m (refl, refl))

-- a size in whole grains may be asked for
pub rounded_size : (size n : ℕ) → n ≡ rounded_up size → 0 < size → C.IsSize n
rounded_size size n is some = (omega (arith, is, some), ((size + 3) / 4, is))

-- LocalAlloc
module _ {handles : Handles} {tables : FinMap nat_cmp Table} {ds slot : ℕ} {t : Table} (is : IsIn handles tables ds slot t) where
  abbrev heap : Heap
  heap = heap_in t is.bytes

  abbrev here : LocalHeap
  here = record { slot = slot; table = t; bytes = is.bytes }

  object_in_table : (q : ℕ) → is_some (object_at heap q) ≡ is_some (entry_at t q)
  object_in_table q = ap is_some (C.object_is t is.over.is_local.sound.table is.bytes is.over.inside q) ∙ mapped (C.object_in t.blocks is.bytes q) (entry_at t q)

  none_if : {X Y : Type 0} (p : Option X) (q : Option Y) → is_some p ≡ is_some q → q ≡ None → p ≡ None
  none_if None q e n = refl
  none_if (Some x) q e n = absurd (false≢true (sym (e ∙ ap is_some n)))

  pub no_object : (q : ℕ) → entry_at t q ≡ None → object_at heap q ≡ None
  no_object q none = none_if (object_at heap q) (entry_at t q) (object_in_table q) none

  no_entry : (q : ℕ) → object_at heap q ≡ None → entry_at t q ≡ None
  no_entry q none = none_if (entry_at t q) (object_at heap q) (sym (object_in_table q)) none

  module _ (flags size : ℕ) where
    alloc_in : (answer : ℕ) (next : Handles) (new : FinMap nat_cmp Table) → ((rest : World) → C.AllocatesIn (with_parts rest handles tables ds) flags size answer (with_parts rest next new ds) here) → Calls handles tables ds (LocalAlloc flags size) answer next new
    alloc_in answer next new so rest = rw is.is_current (so rest)

    pub alloc_full : C.IsFull t → Calls handles tables ds (LocalAlloc flags size) 0 handles tables
    alloc_full full = alloc_in 0 handles tables (λ rest. inl (inr (λ q free. full q free.0 (no_entry q free.1)), (refl, refl)))

    pub alloc_empty : size ≡ 0 → has_flag flags LMEM_MOVEABLE ≡ false → Calls handles tables ds (LocalAlloc flags size) 0 handles tables
    alloc_empty none f = alloc_in 0 handles tables (λ rest. inl (inl (none, f), (refl, refl)))

    module _ (id : ℕ) (lowest : C.IsLowest t id) where
      pub is_lowest : C.IsLowestFree heap id
      is_lowest = record {
        free = (lowest.known, no_object id lowest.free);
        lowest = λ q free. elim (C.cases_lt q id) [
          | inl less ↦ absurd (lowest.lowest q less (no_entry q free.1))
          | inr not ↦ not
        ];
      }

      makes : 0 < size → {answer : ℕ} {old left : World} {at : LocalHeap} → Acts old at (Done (Alloc id (rounded_up size) (local_kind flags) (local_options flags)) (heap_of at) answer) left → C.MakesObject old at flags size id answer left
      makes some acts = rw (ne_eqb size 0 (λ e. absurd (omega (arith, e, some)))) (acts_as _ acts (record { allocated = acts.acted.0; named = acts.acted.1 }))

      pub alloc_calls : 0 < size → {answer : ℕ} {next : Handles} {new : FinMap nat_cmp Table} → InSlot handles tables slot next new (λ old at left. Served (make id size flags) old at answer left) → Calls handles tables ds (LocalAlloc flags size) answer next new
      alloc_calls some {answer} {next} {new} s = alloc_in answer next new (λ rest. inr (
        id,
        is_lowest,
        elim (acting.held_here is s rest) [
          | inl acts ↦ inl (makes some acts)
          | inr r ↦ inr (
            (some, room r.0.0),
            elim r.1 [
              | inl short ↦ inl short
              | inr g ↦ inr (record { size = g.size; growth = g.growth; lengthens = g.lengthens; grown = makes some g.grown })
            ],
          )
        ],
      ))
        where
          room : C.Allocates heap id (rounded_up size) (local_kind flags) 0 (local_options flags) false heap → C.discards_needed heap (rounded_up size) None (local_options flags) ≡ None
          room a = sym (C.none_about heap (heap_is is.over) id (no_object id lowest.free) (rounded_up size) (local_options flags))
              ∙ (not_asked heap id (record { options = local_options flags; prefix = C.discards_needed heap (rounded_up size) (Some id) (local_options flags); becomes = IsNew (local_options flags).zero (rounded_up size) (local_kind flags) 0; order = C.with_newest id }) heap a.request).0

      -- without bytes
      module _ (none : size ≡ 0) (m : has_flag flags LMEM_MOVEABLE ≡ true) where
        kind_is : moveable_or_discardable flags ≡ local_kind flags
        kind_is = sym (ap (λ b. if b then moveable_or_discardable flags else Fixed) m)

        loose : C.is_fixed (moveable_or_discardable flags) ≡ false
        loose = turn (has_flag flags C.LMEM_DISCARDABLE)
          where
            turn : (b : Bool) → C.is_fixed (if b then C.Discardable else C.Moveable) ≡ false
            turn true = refl
            turn false = refl

        module _ {X : Type 0} (r : Result X Refusal) (new : FinMap nat_cmp Table) (s : C.Stepped tables slot (λ a b. ◌≡◌ {A = Result Heap Refusal} (Ok (with_object a id (record { kind = moveable_or_discardable flags; locks = 0; bytes = None }))) (outcome r b)) new) where
          was_it : s.before ≡ t
          was_it = let both : ◌≡◌ {A = Option Table} (Some s.before) (Some t) = sym s.was ∙ is.kept in cc

          abbrev made : Heap
          made = heap_in s.after is.bytes

          abbrev object : Object
          object = record { kind = moveable_or_discardable flags; locks = 0; bytes = None }

          entered : made ≡ with_object heap id object
          entered = turn r (subst (λ (b : Table). ◌≡◌ {A = Result Heap Refusal} (Ok (with_object (heap_in b is.bytes) id object)) (outcome r made)) was_it (s.heaps is.bytes (subst (λ (b : Table). b.hi ≤ C.length is.bytes) (sym was_it) is.over.inside)))
            where
              turn : {X : Type 0} (r : Result X Refusal) → ◌≡◌ {A = Result Heap Refusal} (Ok (with_object heap id object)) (outcome r made) → made ≡ with_object heap id object
              turn (Ok x) e = let same : with_object heap id object ≡ made = cc in sym same
              turn (Err x) e = cc

          named : C.name_at made id ≡ Some (4 * id + 2)
          named = ap (λ (h : Heap). C.name_at h id) entered
              ∙ ap (λ (p : Option Object). elim p as (λ _. Option ℕ) [ None ↦ None | Some o ↦ C.name_of (with_object heap id object) id o ]) (C.inserted_here heap.objects id object id refl)
              ∙ ap (λ b. if b then finmap.get (with_object heap id object).places id else Some (4 * id + 2)) loose

          becomes : (rest : World) → C.Becomes (with_parts rest handles tables ds) here made (with_parts rest handles new ds)
          becomes rest = record {
            table = s.after;
            is_local = s.is_local;
            range = (s.range.0 ∙ ap (λ (b : Table). b.lo) was_it, s.range.1 ∙ ap (λ (b : Table). b.hi) was_it);
            same = refl;
            rest = ap (λ m. with_parts rest handles m ds) s.rest;
          }

          pub enter_calls : Calls handles tables ds (LocalAlloc flags size) (4 * id + 2) handles new
          enter_calls = alloc_in (4 * id + 2) handles new (λ rest. inr (
            id,
            is_lowest,
            inl (rw (eq-eqb size 0 none, m)
                (made, record { entered = record { unused = no_object id lowest.free; entered = entered ∙ ap (λ (k : Kind). with_object heap id (record { kind = k; locks = 0; bytes = None })) kind_is }; named = named }, becomes rest)),
          ))

-- where DS names no heap
pub alloc_none : (handles : Handles) (tables : FinMap nat_cmp Table) (ds flags size : ℕ) → C.current_heap (alone handles tables ds) ≡ None → Calls handles tables ds (LocalAlloc flags size) 0 handles tables
alloc_none handles tables ds flags size none rest = rw none (refl, refl)

-- what a bad name leaves
pub free_none : (handles : Handles) (tables : FinMap nat_cmp Table) (ds name : ℕ) → C.object_named (alone handles tables ds) name ≡ None → Calls handles tables ds (LocalFree name) name handles tables
free_none handles tables ds name = none_calls handles tables ds name name (λ old o. GivesUp old o.heap (after_free (heap_of o.heap) o.id) 0 name name old)

pub realloc_none : (handles : Handles) (tables : FinMap nat_cmp Table) (ds name size flags : ℕ) → C.object_named (alone handles tables ds) name ≡ None → Calls handles tables ds (LocalReAlloc name size flags) 0 handles tables
realloc_none handles tables ds name size flags = none_calls handles tables ds name 0 (λ old o. MatchBool (has_flag flags LMEM_MODIFY) (C.ModifiesObject old name flags 0 old o) (MatchBool (size == 0) (DiscardsObject old name flags 0 old o) (C.SizesObject old size flags 0 old o)))

-- LocalCompact
pub compact_calls : {handles : Handles} {tables : FinMap nat_cmp Table} {ds slot : ℕ} {t : Table} (is : IsIn handles tables ds slot t) (size : ℕ) {answer : ℕ} {next : Handles} {new : FinMap nat_cmp Table} → ActedIn handles tables slot (DoesAct (C.Compact size) answer) next new
    → Calls handles tables ds (C.LocalCompact size) answer next new
compact_calls is size a rest = rw is.is_current (elim (acting.outcome is a rest) [
  | inl same ↦ rw (eq-eqb size 0 same.0.0) (same.0.1, same.1)
  | inr acts ↦ rw (ne_eqb size 0 (λ e. absurd (let some = acts.acted.0 in omega (arith, e, some)))) (acts_as _ acts acts.acted.1)
])

pub compact_none : (handles : Handles) (tables : FinMap nat_cmp Table) (ds size : ℕ) → C.current_heap (alone handles tables ds) ≡ None → Calls handles tables ds (C.LocalCompact size) 0 handles tables
compact_none handles tables ds size none rest = rw none (refl, refl)
