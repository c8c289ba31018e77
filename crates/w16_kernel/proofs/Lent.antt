-- Far accesses that copy nothing, made once or again after a fetch, and what a borrower leaves.
use Rattle.w16_kernel.specs
use Rattle.w16_kernel.proofs
use proofs.Common as C
use proofs.Common.{◌≡◌, ℕ, Bool, true, false, false≢true, ◌<◌, List, [], length, Option, Some, None, Ok, Err, if◌then◌else◌, ◌&&◌, refl, sym}
use proofs.Common.{ap, ◌∙◌, subst, arith, option_map, World, LoadingWorld, IsWorldOver, FarAnswer, FarFault, Read, Write, OfFar, KernelStep, FarReplies, Handles, Heap, Table}
use Rattle.w16_model.specs.Commands.{Command}
use Rattle.w16_model.specs.Commands.Family.{OfFar}
use proofs.Common.{Refetches, with_handles, left_in, selector_in, offset_in, far_fault, world_of, bytes_at, nat_le}
use proofs.{Absent.by_fault, FarSteps.Makes, FarSteps.answered, FarSteps.ended_by, FarSteps.remade_by, Stepping.asks, Stepping.kept, Stepping.reads_code}
use Rattle.w16_model.specs.declared.FarFault.TheVariants.{BadSelector, ReadOnly, NotPresent, Limit}
use Rattle.w16_model.specs.{Far.pointer_in, Far.after_write, Far.far_read, Handles.Gives}
use Rattle.w16_global.proofs.Common.{counted}
use Rattle.w16_global.proofs.{Loans.All-left_of, Loans.left_length, Loans.lent_written}
use Rattle.w16_machine.proofs.LocalFar.{far_reply}
use Rattle.w16_loading.specs.{Replies.Reply as Printed, Replies.Reply.Bytes, Replies.Reply.Done, Replies.Reply.Fault}
use Rattle.w16_model.proofs.{Parts.All-repeated, Parts.length-repeated}
use Rattle.w16_global.specs.{Loans.IsPlaceIn, Loans.after_lent, Loans.left_of, Loans.lent_bytes, Loans.with_bytes_there, declared.loan.Place.Place}
use specs.{Lent.FindsPlace, Lent.FindsPlaceOnce, Lent.IsTaken, Lent.OfEach, Lent.after_lending, Lent.with_left, Runs.bytes_written, declared.call.Reply.Reply, declared.far.Written.Written}
use Rattle.std.specs.Prelude.{All}
use Rattle.std.specs.FinMap as finmap
use Rattle.w16_kernel.specs.declared.call.Reply.TheVariants as replies
use Rattle.w16_kernel.specs.declared.far.Written.TheVariants as writes
use Rattle.w16_loading.specs.Families.AnyCommand.{any}

-- An access that met a fault.
module _ (old : Handles) (pointer count : ℕ) {fault : FarFault} where
  data_met : (write : Bool) → FindsPlaceOnce old write pointer count (Err fault) old → fault ≡ NotPresent → far_fault old (selector_in pointer) (offset_in pointer) count ≡ Some fault
  data_met write m absent = turn (write && C.refuses_write old (selector_in pointer)) m
    where
      turn : (b : Bool) → (if b then Some ReadOnly else far_fault old (selector_in pointer) (offset_in pointer) count) ≡ Some fault
          → far_fault old (selector_in pointer) (offset_in pointer) count ≡ Some fault
      turn true e = cc
      turn false e = e

  met : (write : Bool) → FindsPlaceOnce old write pointer count (Err fault) old → OfEach write pointer count (λ command. FarReplies old command (Fault fault) old)
  met false m = rw (m, far_read) (refl, refl)
  met true m = λ bytes long. turn bytes long (C.refuses_write old (selector_in pointer)) m
    where
      turn : (bytes : List ℕ) → length bytes ≡ count → (b : Bool) → (if b then Some ReadOnly else far_fault old (selector_in pointer) (offset_in pointer) count) ≡ Some fault
          → Gives (if b then (FarAnswer.Fault ReadOnly, old) else C.data_write old (selector_in pointer) (offset_in pointer) bytes) (FarAnswer.Fault fault) old
      turn bytes long true e = let same : ReadOnly ≡ fault = cc in (ap FarAnswer.Fault (sym same), refl)
      turn bytes long false e = let met = ap (far_fault old (selector_in pointer) (offset_in pointer)) long ∙ e in rw (met, C.data_write) (refl, refl)

pub not_there : (old mid : LoadingWorld) → mid ≡ old → (write : Bool) (pointer count : ℕ) {fault : FarFault}
    → FindsPlaceOnce old.handles write pointer count (Err fault) mid.handles → fault ≡ NotPresent → C.IsAbsent mid.handles (selector_in pointer)
not_there old mid same write pointer count m absent = rw same
    (by_fault old.handles (selector_in pointer) (offset_in pointer) count (data_met old.handles pointer count write m absent ∙ ap Some absent))

-- what is fetched wasn't there
fetched : {honest : Type 0} {old new : LoadingWorld} (selector : ℕ) (fault : FarFault) → Refetches honest old selector fault (Ok tt) new → fault ≡ NotPresent
fetched selector NotPresent f = refl
fetched selector BadSelector f = absurd (false≢true f.0)
fetched selector ReadOnly f = absurd (false≢true f.0)
fetched selector Limit f = absurd (false≢true f.0)

-- As many bytes leave the same local heaps.
in_range : ℕ → Option ℕ → Bool
in_range hi None = false
in_range hi (Some n) = nat_le hi n

same_tables : (before after : Heap) (tables : C.FinMap C.nat_cmp Table)
    → ((q : ℕ) → option_map length (bytes_at after q) ≡ option_map length (bytes_at before q)) → left_in after tables ≡ left_in before tables
unfolding in_range
same_tables before after tables same = λ i. finmap.retain_keys tables (λ q. ranges (finmap.get tables q) q i)
  where
    by_size : (hi : ℕ) (b : Option (List ℕ)) → (elim b as (λ _. Bool) [ None ↦ false | Some bytes ↦ nat_le hi (length bytes) ]) ≡ in_range hi (option_map length b)
    by_size hi None = refl
    by_size hi (Some bytes) = refl

    ranges : (p : Option Table) (q : ℕ) → (elim p as (λ _. Bool) [ None ↦ false | Some t ↦ elim (bytes_at after q) as (λ _. Bool) [ None ↦ false | Some bytes ↦ nat_le t.hi (length bytes) ] ])
        ≡ (elim p as (λ _. Bool) [ None ↦ false | Some t ↦ elim (bytes_at before q) as (λ _. Bool) [ None ↦ false | Some bytes ↦ nat_le t.hi (length bytes) ] ])
    ranges None q = refl
    ranges (Some t) q = by_size t.hi (bytes_at after q) ∙ ap (in_range t.hi) (same q) ∙ sym (by_size t.hi (bytes_at before q))

module _ {honest : Type 0} {old : World} (is : IsWorldOver honest old) where
  told : {command : Command OfFar} {reply : Printed} {new : World} → Makes honest old command reply new → KernelStep honest old (any OfFar command) reply new
  told s = record { step = s; code = reads_code honest old is _ _ _ s; requests = asks honest old is _ _ _ s }

  left : {pointer count : ℕ} {reply : Printed} {new : World} → KernelStep honest old (any _ (Read pointer count)) reply new → IsWorldOver honest new
  left {pointer} {count} {reply} {new} s = kept honest old is (any _ (Read pointer count)) reply new tt s.step

  -- an access leaves a world
  pub left_by : (write : Bool) (pointer count : ℕ) (result : C.Result Place Reply) {new : World} → FindsPlace honest old write pointer count result new → IsWorldOver honest new
  left_by write pointer count (Ok place) s = left s.0
  left_by false pointer count (Err reply) s = left s
  left_by true pointer count (Err reply) {new} s = kept honest old is (any _ (Write pointer (C.repeated count 0)))
      (C.reply_of reply) new (All-repeated count 0 (omega arith)) (s (C.repeated count 0) (length-repeated count 0)).step

-- and so does a loan, since it is a write
pub lent : {honest : Type 0} {before opened now : World} {pointer : ℕ} → opened ≡ now → (place : Place) → IsPlaceIn now.loading.handles place
    → IsTaken honest before pointer now place → (new : List ℕ) → IsWorldOver honest (after_lending place opened new)
lent {honest} {before} {now = now} {pointer = pointer} same place there t new =
    let bytes : List ℕ = left_of (lent_bytes now.loading.handles place) new in
    subst (λ w. IsWorldOver honest (after_lending place w new)) (sym same)
    (kept honest before t.sound (any _ (Write pointer bytes)) Done (with_left now place bytes) (All-left_of (lent_bytes now.loading.handles place) new)
    (t.writes bytes (left_length now.loading.handles.heap place.slot place.at place.count there new)).step)

-- What is left of bytes that are written over a place.
pub left_written : (v now : LoadingWorld) → v ≡ now → (place : Place) → IsPlaceIn now.handles place → (x bytes : List ℕ) → x ≡ bytes → length bytes ≡ place.count → All (λ b. b < 256) x
    → with_handles v (with_bytes_there v.handles place (left_of (lent_bytes v.handles place) x)) ≡ with_handles now (with_bytes_there now.handles place bytes)
left_written v now same place there x bytes is long all = ap (λ (w : LoadingWorld). with_handles w (with_bytes_there w.handles place (left_of (lent_bytes w.handles place) x))) same
    ∙ (λ i. with_handles now (record now.handles { heap = (written i).heap })) ∙ (λ i. with_handles now (with_bytes_there now.handles place (is i)))
  where
    written : after_lent place.slot place.at place.count (record { cap = 0; heap = now.handles.heap; discarded = []; written = 0 }) x
        ≡ record { cap = 0; heap = after_write now.handles.heap place.slot place.at x; discarded = []; written = counted 0 place.count }
    written = lent_written (record { cap = 0; heap = now.handles.heap; discarded = []; written = 0 }) place.slot place.at place.count there x (ap length is ∙ long) all

-- The parts are opened while an access is made.
module _ (honest : Type 0) (opened old : World) (same : opened ≡ old) (is : IsWorldOver honest old) (write : Bool) (pointer count : ℕ) where
  pub found : (place : Place) (new : LoadingWorld) → new ≡ with_handles opened.loading new.handles → FindsPlaceOnce opened.loading.handles write pointer count (Ok place) new.handles
      → FindsPlace honest old write pointer count (Ok place) (world_of new opened.heaps opened.ds)
  found place new rest s = (
    told is (answered honest opened old same is (Read pointer count) _ refl new rest s.1),
    s.0,
    λ e. record {
      sound = is;
      writes = λ bytes long. told is (answered honest opened old same is (Write pointer bytes) Done refl (with_left (world_of new opened.heaps opened.ds) place bytes).loading
          (ap (λ (l : LoadingWorld). with_handles l (with_bytes_there new.handles place bytes)) rest) (s.2 e bytes (long ∙ s.0.1)));
    },
  )

  module _ (fault : FarFault) (m : FindsPlaceOnce opened.loading.handles write pointer count (Err fault) opened.loading.handles) (selector : ℕ) (named : selector ≡ selector_in pointer)
      (mid : LoadingWorld) (kept : mid ≡ opened.loading) where
    pub not_found : (reply : Reply) (new : LoadingWorld) → Refetches honest mid selector fault (Err reply) new
        → FindsPlace honest old write pointer count (Err reply) (world_of new opened.heaps opened.ds)
    not_found reply new f = turn write m
      where
        turn : (write : Bool) → FindsPlaceOnce opened.loading.handles write pointer count (Err fault) opened.loading.handles
            → FindsPlace honest old write pointer count (Err reply) (world_of new opened.heaps opened.ds)
        turn false m = told is (ended_by honest opened old same is (Read pointer count) opened.loading refl fault
            (met opened.loading.handles pointer count false m) selector named reply new (rw kept at f))
        turn true m = λ bytes long. told is (ended_by honest opened old same is (Write pointer bytes) opened.loading refl fault
            (met opened.loading.handles pointer count true m bytes long) selector named reply new (rw kept at f))

    module _ (again : LoadingWorld) (given : Refetches honest mid selector fault (Ok tt) again) where
      f : Refetches honest opened.loading selector fault (Ok tt) again
      f = rw kept at given

      -- made again, as the access that met the fault or as another that meets it
      remade : (command : Command OfFar) → FarReplies opened.loading.handles command (Fault fault) opened.loading.handles → selector ≡ selector_in (pointer_in command)
          → (reply : Printed) (new : LoadingWorld) → new ≡ with_handles again new.handles → FarReplies again.handles command reply new.handles
          → KernelStep honest old (any OfFar command) reply (world_of new (left_in new.handles.heap opened.heaps) opened.ds)
      remade command met named reply new rest s = told is (remade_by honest opened old same is command opened.loading refl fault met selector named again f reply new rest s)

      pub found_again : (place : Place) (new : LoadingWorld) → new ≡ with_handles again new.handles → FindsPlaceOnce again.handles write pointer count (Ok place) new.handles
          → FindsPlace honest old write pointer count (Ok place) (world_of new (left_in new.handles.heap opened.heaps) opened.ds)
      found_again place new rest s = (
        remade (Read pointer count) (met opened.loading.handles pointer count false (data_met opened.loading.handles pointer count write m (fetched selector fault f))) named _ new rest s.1,
        s.0,
        λ e. record {
          sound = is;
          writes = λ bytes long.
              let after : LoadingWorld = with_handles new (with_bytes_there new.handles place bytes) in
              let written = s.2 e bytes (long ∙ s.0.1) in
              let sizes = far_reply again.handles after.handles (Write pointer bytes) (Some FarAnswer.Done) written in
              let read_sizes = far_reply again.handles new.handles (Read pointer count) (Some _) s.1 in
              subst (λ heaps. KernelStep honest old (any _ (Write pointer bytes)) Done (world_of after heaps opened.ds))
              (same_tables new.handles.heap after.handles.heap opened.heaps (λ q. sizes.sizes q ∙ sym (read_sizes.sizes q)))
              (remade (Write pointer bytes) (subst (λ w. OfEach w pointer count (λ command. FarReplies opened.loading.handles command (Fault fault) opened.loading.handles)) e
              (met opened.loading.handles pointer count write m) bytes (long ∙ s.0.1)) named Done after
              (ap (λ (l : LoadingWorld). with_handles l (with_bytes_there new.handles place bytes)) rest) written);
        },
      )

      pub not_again : (new : LoadingWorld) → new ≡ again → (last : FarFault) → FindsPlaceOnce again.handles write pointer count (Err last) again.handles
          → FindsPlace honest old write pointer count (Err (replies.Fault last)) (world_of new (left_in new.handles.heap opened.heaps) opened.ds)
      not_again new same last s = subst (λ (w : LoadingWorld). FindsPlace honest old write pointer count (Err (replies.Fault last)) (world_of w (left_in w.handles.heap opened.heaps) opened.ds))
          (sym same) (turn write m s)
        where
          turn : (write : Bool) → FindsPlaceOnce opened.loading.handles write pointer count (Err fault) opened.loading.handles
              → FindsPlaceOnce again.handles write pointer count (Err last) again.handles
              → FindsPlace honest old write pointer count (Err (replies.Fault last)) (world_of again (left_in again.handles.heap opened.heaps) opened.ds)
          turn false m s = remade (Read pointer count) (met opened.loading.handles pointer count false m) named (Fault last) again refl (met again.handles pointer count false s)
          turn true m s = λ bytes long. remade (Write pointer bytes) (met opened.loading.handles pointer count true m bytes long) named
              (Fault last) again refl (met again.handles pointer count true s bytes long)

-- A read copies what was found.
pub read_back : (honest : Type 0) (old : World) {new opened : World} (pointer count : ℕ) → opened ≡ new → (place : Place) (seen : List ℕ) → seen ≡ lent_bytes opened.loading.handles place
    → Makes honest old (Read pointer count) (Bytes (lent_bytes new.loading.handles place)) new → Makes honest old (Read pointer count) (Bytes seen) new
read_back honest old {new} pointer count same place seen is = subst (λ b. Makes honest old (Read pointer count) (Bytes b) new) (sym (is ∙ ap (λ (w : World). lent_bytes w.loading.handles place) same))

-- A write, also of one byte many times.
pub as_written : (honest : Type 0) (old : World) {new : World} (reply : Printed) (pointer : ℕ) (written : Written)
    → Makes honest old (Write pointer (bytes_written written)) reply new → Makes honest old (C.write_of pointer written) reply new
as_written honest old reply pointer (writes.Bytes bytes) s = s
as_written honest old reply pointer (writes.Repeated count byte) s = (record { counted = s.0.counted; files = s.0.files; step = s.0.step }, s.1)

pub put_back : {honest : Type 0} {old new opened : World} {pointer : ℕ} → opened ≡ new → (place : Place) (written : Written) → IsTaken honest old pointer new place
    → length (bytes_written written) ≡ place.count → (l : LoadingWorld) → l ≡ with_handles opened.loading (with_bytes_there opened.loading.handles place (bytes_written written))
    → Makes honest old (C.write_of pointer written) Done (world_of l opened.heaps opened.ds)
put_back {honest} {old} {opened = opened} {pointer = pointer} same place written t long l is =
    as_written honest old Done pointer written (subst (Makes honest old (Write pointer (bytes_written written)) Done)
    (sym ((λ i. world_of (is i) opened.heaps opened.ds) ∙ ap (λ (w : World). with_left w place (bytes_written written)) same)) (t.writes (bytes_written written) long).step)
