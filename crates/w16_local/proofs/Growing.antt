-- A local heap that grows with its segment, as a call's step.
use Rattle.w16_local.proofs
use proofs.Common as C
use proofs.Common.{◌≡◌, ◌≢◌, ℕ, ◌*◌, inl, inr, true, false, cond, IsSomeAnd, List, length, Option, Some, None, refl, sym, ap, ◌∙◌, subst, arith, nat_cmp, FinMap, bytes_at, Handles, Table, heap_in, inserted_other, counted, World, left_in, ◌==◌, ◌||◌, ◌-◌, Bool, Heap, if◌then◌else◌, alone}
use proofs.Common.{with_parts}
use proofs.Requests.{may_later, whole}
use Rattle.std.proofs.lemmas.Bool.{le-leb}
use Rattle.w16_model.specs.declared.TheConstants.{GMEM_MODIFY, GMEM_NODISCARD, GMEM_ZEROINIT}
use Rattle.w16_model.specs.{declared.RoomOptions.RoomOptions, Calls.global_size, Calls.has_flag, Calls.rounded_size, Ends.ending, Ends.is_answered, Handles.handle_of, Handles.slot_of_handle, Resizes.GlobalReAllocs}
use Rattle.w16_model.proofs.Naming.{names_law}
use Rattle.w16_global.proofs.Resizing.{counted_none}
use Rattle.w16_global.specs.Joined.{zeroed_behind}
use Rattle.w16_machine.specs.LocalGrowth.{IsLongerSize, Lengthens, growth_flags}
use Rattle.w16_machine.proofs.LocalGrown.{IsGrownObject, bytes_of, grown_object, same_later}
use Rattle.w16_machine.proofs.{LocalFacts.IsThere, LocalLeft.left_is, LocalLeft.left_over}
use Rattle.w16_local.specs.declared.growth.Request.{Request}
use Rattle.w16_local.specs.Growth.{Grown, InSlot, Later, MayEndLater, MayGrowIn, WritesGrown, operation_of, in_slot}
use Rattle.std.specs.FinMap as finmap
use Rattle.w16_global.specs.Lengthened as global

-- an entry that is put twice
put_twice : {X : Type 0} (m : FinMap nat_cmp X) (k : ℕ) (a b : X) → finmap.insert (finmap.insert m k a) k b ≡ finmap.insert m k b
put_twice m k a b = C.same_map C.nat_cmp_total C.nat_cmp-IsAntisymmetric _ _ (λ q. elim (C.cases_eq q k) [
  | inl e ↦ C.inserted_here (finmap.insert m k a) k b q e ∙ sym (C.inserted_here m k b q e)
  | inr d ↦ inserted_other (finmap.insert m k a) k b q d ∙ inserted_other m k a q d ∙ sym (inserted_other m k b q d)
])

-- a segment is an object
pub segment_there : (heap : Heap) (slot : ℕ) (bytes : List ℕ) → bytes_at heap slot ≡ Some bytes → C.IsSome (C.object_at heap slot)
segment_there heap slot bytes had = ap C.is_some (C.object_of heap slot bytes had).1

-- and has a handle
handle_for : (handles : Handles) (slot : ℕ) (bytes : List ℕ) → bytes_at handles.heap slot ≡ Some bytes → (handle : ℕ) × (slot_of_handle handles handle ≡ Some slot)
handle_for handles slot bytes had =
    let o = C.object_of handles.heap slot bytes had in
    (handle_of o.0.kind slot, (names_law handles (handle_of o.0.kind slot) slot).0.1 (subst (λ p. IsSomeAnd p (λ p. handle_of o.0.kind slot ≡ handle_of p.kind slot)) (sym o.1) refl))

-- a growth sets nothing to zero
no_zeros : (options : RoomOptions) (handles : Handles) (handle size answer : ℕ) → zeroed_behind handles handle size (growth_flags options) answer ≡ 0
no_zeros options handles handle size answer = by_null (answer == 0)
  where
    by_flag : (b : Bool) → (if has_flag (if b then 0 else GMEM_NODISCARD) GMEM_ZEROINIT then rounded_size size - global_size handles handle else 0) ≡ 0
    by_flag true = refl
    by_flag false = refl

    by_null : (none : Bool) → (if none || has_flag (growth_flags options) GMEM_MODIFY then 0 else (if has_flag (growth_flags options) GMEM_ZEROINIT then rounded_size size - global_size handles handle else 0)) ≡ 0
    by_null true = refl
    by_null false = turn (has_flag (growth_flags options) GMEM_MODIFY)
      where
        turn : (m : Bool) → (if m then 0 else (if has_flag (growth_flags options) GMEM_ZEROINIT then rounded_size size - global_size handles handle else 0)) ≡ 0
        turn true = refl
        turn false = by_flag options.discard

module _ {old : C.Global} {tables : FinMap nat_cmp Table} {slot size : ℕ} {r : Request} (m : MayGrowIn old.handles tables slot size r) (are : C.AreHandles old.handles) (flags : ℕ) (flags_are : flags ≡ growth_flags r.options) (answer : ℕ) (new : C.Global)
    (step : (handle : ℕ) → slot_of_handle old.handles handle ≡ Some slot → global.Lengthens old handle size flags answer new) where
  abbrev at : C.LocalHeap
  at = in_slot m.table m.bytes slot

  is_size : IsLongerSize at size
  is_size = m.growth.served.longer

  -- Its segment doesn't get the bytes.
  pub kept_short : answer ≡ 0 → new ≡ old → InSlot old.handles tables slot new.handles tables (λ before at after. Grown r size before at 0 after)
  kept_short null same = record {
    table = m.table;
    bytes = m.bytes;
    was = m.was;
    had = m.had;
    holds = λ rest ds. inl (
      (λ handle named. let l = step handle named in (l.left, subst (λ (p : ℕ × ℕ). GlobalReAllocs old.handles handle size p.0 p.1 l.left) (λ i. (flags_are i, null i)) l.step)),
      (refl, λ i. with_parts rest (same i).handles tables ds),
    );
  }

  -- It does.
  module _ (answered : answer ≢ 0) where
    handle : (handle : ℕ) × (slot_of_handle old.handles handle ≡ Some slot)
    handle = handle_for old.handles slot m.bytes m.had

    l : global.Lengthens old handle.0 size flags answer new
    l = step handle.0 handle.1

    abbrev world : World
    world = alone old.handles tables 0

    there : IsThere world at
    there = record { table = m.was; bytes = m.had; inside = omega (arith, m.growth.ends) }

    reallocated : GlobalReAllocs old.handles handle.0 size (growth_flags r.options) answer l.left
    reallocated = subst (λ f. GlobalReAllocs old.handles handle.0 size f answer l.left) flags_are l.step

    now : (bytes : List ℕ) × (bytes_at l.left.heap slot ≡ Some bytes)
    now = bytes_of world are at there r.options size is_size handle.0 handle.1 answer answered l.left reallocated

    -- in whatever world has these parts
    lengthened : (rest : World) (ds : ℕ) → Lengthens (with_parts rest old.handles tables ds) at r.options size
    lengthened rest ds = record { handle = handle.0; named = handle.1; answer = answer; answered = answered; handles = l.left; reallocated = reallocated; bytes = now.0; has = now.1 }

    alone_lengthened : Lengthens world at r.options size
    alone_lengthened = record { handle = handle.0; named = handle.1; answer = answer; answered = answered; handles = l.left; reallocated = reallocated; bytes = now.0; has = now.1 }

    grown : IsGrownObject world at l.left size now.0
    unfolding l alone_lengthened now
    grown = grown_object world are at there r.options size is_size alone_lengthened

    -- the heap ends later then, with the objects that it had
    later_heap : heap_in (record m.table { hi = size }) now.0 ≡ ending (heap_in m.table m.bytes) size
    unfolding now alone_lengthened
    later_heap = same_later world are at there r.options size is_size alone_lengthened m.is_local.sound

    may_end : MayEndLater r size m.table now.0
    may_end = record {
      later = omega (arith, m.growth.ends, is_size.more);
      low = let w = whole old.handles are slot m.bytes m.had in (8 * w.0, omega (arith, m.growth.ends, w.1));
      high = let w = is_size.whole in (8 * w.0, omega (arith, w.1));
      last = is_size.most;
      ends = sym grown.long;
      may = subst (C.MayAct (operation_of r)) (sym later_heap) (may_later r (heap_in m.table m.bytes) size m.may);
      answered = subst (λ h. is_answered h r.id r.size r.options ≡ true) (sym later_heap) m.growth.served.answered;
    }

    has_now : bytes_at new.handles.heap slot ≡ Some now.0
    has_now = ap (λ (h : Handles). bytes_at h.heap slot) l.handles ∙ now.1

    module _ (left : FinMap nat_cmp Table) (swept : left ≡ left_in new.handles.heap tables) where
      left_here : left ≡ left_in l.left.heap tables
      left_here = swept ∙ ap (λ (h : Handles). left_in h.heap tables) l.handles

      was_now : finmap.get left slot ≡ Some m.table
      was_now = ap (λ t. finmap.get t slot) left_here ∙ left_is l.left.heap tables slot ∙ (λ i. left_over (m.was i) (now.1 i))
          ∙ ap (λ b. cond {A = Option Table} b (Some m.table) None) (le-leb m.table.hi (length now.0) (omega (arith, m.growth.ends, is_size.more, grown.long)))

      pub may_act : C.MayActIn new.handles left slot (MayEndLater r size)
      may_act = record { table = m.table; bytes = now.0; was = was_now; had = has_now; may = may_end }

      module _ (result : ℕ) (next : Handles) (final : FinMap nat_cmp Table)
          (a : C.ActedIn new.handles left slot (λ table bytes after_table after. (count : ℕ) ×
          (Later r size table bytes result after_table after × C.Writes (operation_of r)
          (heap_in (record table { hi = size }) bytes) (heap_in after_table after) 0 count)) next final) where
        same_table : a.before ≡ m.table
        same_table = let both : ◌≡◌ {A = Option Table} (Some a.before) (Some m.table) = sym a.was ∙ was_now in cc

        same_bytes : a.bytes ≡ now.0
        same_bytes = let both : ◌≡◌ {A = Option (List ℕ)} (Some a.bytes) (Some now.0) = sym a.had ∙ has_now in cc

        later : Later r size m.table now.0 result a.table a.after
        later = subst (λ (p : Table × List ℕ). Later r size p.0 p.1 result a.table a.after) (λ i. (same_table i, same_bytes i)) a.does.1.0

        after_handles : next ≡ record l.left { heap = C.after_write l.left.heap slot 0 a.after; moved = old.handles.moved }
        after_handles = a.rest.1 ∙ (λ i. record (l.handles i) { heap = C.after_write (l.handles i).heap slot 0 a.after })

        pub has_grown : InSlot old.handles tables slot next final (λ before at after. Grown r size before at result after)
        unfolding lengthened now
        has_grown = record {
          table = m.table;
          bytes = m.bytes;
          was = m.was;
          had = m.had;
          holds = λ rest ds. inr (
            lengthened rest ds,
            record {
              table = a.table;
              bytes = a.after;
              is_local = a.is_local;
              range = (later.range.lo, later.range.hi);
              long = a.long ∙ ap length same_bytes;
              outside = later.outside;
              are_bytes = a.are_bytes;
              acted = later.done;
              rest = λ i. with_parts rest (after_handles i) (after_tables i) ds;
            },
          );
        }
          where
            after_tables : final ≡ finmap.insert (finmap.insert (left_in l.left.heap tables) slot (record m.table { hi = size })) slot a.table
            after_tables = a.rest.0 ∙ ap (λ t. finmap.insert t slot a.table) left_here ∙ sym (put_twice (left_in l.left.heap tables) slot (record m.table { hi = size }) a.table)

        -- what is written: the bytes that were moved, and the longer segment's
        pub grown_written : (count : ℕ) → IsSomeAnd (bytes_at new.handles.heap slot) (λ bytes. count ≡ counted new.written (length bytes))
            → InSlot old.handles tables slot next final (λ before at after. WritesGrown before at r.id r.size r.options old.written after.loading.handles count)
        unfolding lengthened now
        grown_written count lent = record {
          table = m.table;
          bytes = m.bytes;
          was = m.was;
          had = m.had;
          holds = λ rest ds. record { size = size; growth = m.growth; lengthens = lengthened rest ds; bytes = a.after; left = after_handles; written = count_is };
        }
          where
            written : new.written ≡ counted old.written l.left.moved
            written = l.written ∙ ap (λ k. counted (counted old.written l.left.moved) k) (ap (λ f. zeroed_behind old.handles handle.0 size f answer) flags_are ∙ no_zeros r.options old.handles handle.0 size answer) ∙ counted_none (counted old.written l.left.moved)

            count_is : count ≡ counted (counted old.written l.left.moved) size
            count_is = subst (λ b. IsSomeAnd b (λ (bytes : List ℕ). count ≡ counted new.written (length bytes))) has_now lent ∙ (λ i. counted (written i) (grown.long i))
