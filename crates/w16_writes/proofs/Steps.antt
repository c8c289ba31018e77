-- Each step keeps what is written.
use Rattle.w16_machine.proofs as machine
use Rattle.w16_writes.proofs
use machine.Common as C
use machine.Common.{◌≡◌, ◌≢◌, ℕ, ◌+◌, ◌<◌, ◌≤◌, ◌⊎◌, inl, inr, Bool, true, false, cond, ◌&&◌, IsSomeAnd, List, [], Option, Some, None, is_some, option_map, refl, sym, ap, ◌∙◌, subst, false≢true, bytes_in, object_at, Table, Reply, World, IsWorld, LocalHeap, current_heap, local_in}
use machine.Common.{segment_bytes, Event, Step, arith}
use machine.LocalFacts.{current_there, local_here, local_there, there_local}
use machine.{Bystanders.other_same, LocalFrame.frame_law, LocalGoes.goes_law, LocalLonger.leaves_longer, Worlds.world_law}
use Rattle.std.specs.List.{slice_get}
use Rattle.w16_writes.specs.LastWrite.{Access, Has, IsThere, KeepsWritten, Position, StepLaw, byte_at, byte_in, is_in_range, place_at, position_after, read, slot_after_step, written}
use proofs.Bytes.{which, some_such, only, get-below, get-outside, inside}
use proofs.Locals.{local_agrees, segment_byte}
use proofs.Segments.{get, HasIn, KeepsSegments, loading_keeps}
use Rattle.std.specs.FinMap as finmap
use Rattle.w16_loading.specs.Families.AnyCommand.{any}

abbrev position : ℕ → Option ℕ → ℕ → Position
position slot entry offset = record { slot = slot; entry = entry; offset = offset }

-- the byte of a local object at an offset, and its place
abbrev byte_of : ℕ → ℕ → Option LocalHeap → Option ℕ
byte_of entry offset l = elim l [ None ↦ None | Some at ↦ byte_in (C.bytes_at (C.heap_of at) entry) offset ]

abbrev place_of : ℕ → ℕ → Option LocalHeap → Option ℕ
place_of entry offset l = elim l [ None ↦ None | Some at ↦ option_map (λ begin. begin + offset) (finmap.get (C.heap_of at).places entry) ]

there_in : (entry offset : ℕ) (l : Option LocalHeap) → is_some (byte_of entry offset l) ≡ true → (at : LocalHeap) × (l ≡ Some at) × (is_some (byte_of entry offset (Some at)) ≡ true)
there_in entry offset None t = absurd (false≢true t)
there_in entry offset (Some at) t = (at, refl, t)

-- A position that is there lies at a place of its segment, and has the byte there.
record IsLocated (w : World) (p : Position) : Type 0 where
  pub at : ℕ
  pub place : place_at w p ≡ Some at
  pub byte : byte_at w p ≡ byte_in (segment_bytes w p.slot) at

module _ (w : World) (is : IsWorld w) where
  module _ (slot offset : ℕ) (there : IsThere w (position slot None offset)) where
    outside : is_in_range (finmap.get w.heaps slot) offset ≡ false
    outside = turn (is_in_range (finmap.get w.heaps slot) offset) there
      where
        turn : (b : Bool) → is_some (cond b None (byte_in (segment_bytes w slot) offset)) ≡ true → b ≡ false
        turn true t = absurd (false≢true t)
        turn false t = refl

    byte_outside : byte_at w (position slot None offset) ≡ byte_in (segment_bytes w slot) offset
    byte_outside = ap (λ b. cond b None (byte_in (segment_bytes w slot) offset)) outside

  located : (slot : ℕ) (entry : Option ℕ) (offset : ℕ) → IsThere w (position slot entry offset) → IsLocated w (position slot entry offset)
  located slot None offset there = record { at = offset; place = refl; byte = byte_outside slot offset there }
  located slot (Some entry) offset there =
      let (at, e, t) = there_in entry offset (local_in w slot) there in
      let here = local_there w slot at e in
      let table = local_here w is.heaps at here.0 in
      let (begin, place, byte) = segment_byte at.table table.0.sound.table at.bytes table.1 entry offset t in
      record {
        at = begin + offset;
        place = ap (place_of entry offset) e ∙ ap (option_map (λ begin. begin + offset)) place;
        byte = ap (byte_of entry offset) e ∙ byte ∙ sym (ap (λ b. byte_in b (begin + offset)) (ap (segment_bytes w) (sym here.1) ∙ here.0.bytes));
      }

  lies : (p : Position) → IsThere w p → IsLocated w p
  lies p there = located p.slot p.entry p.offset there

-- Accesses at a position, and at its place.
some_as : {P Q : Access → Type 0} (a : Option Access) → ((x : Access) → P x → Q x) → IsSomeAnd a P → IsSomeAnd a Q
some_as None f h = h
some_as (Some x) f h = f x h

module _ (w : World) (p : Position) (l : IsLocated w p) (byte : ℕ) where
  to_place : (a : Access) → Has w p byte a → HasIn w.loading.handles p.slot l.at byte a
  to_place a h = record { number = h.number; selected = h.selected; index = h.index; place = only l.place h.place; has = h.has }

  from_place : IsThere w p → (a : Access) → HasIn w.loading.handles p.slot l.at byte a → Has w p byte a
  from_place there a h = record { there = there; number = h.number; selected = h.selected; index = h.index; place = l.place ∙ ap Some h.place; has = h.has }

-- what an access of the places of objects has, it has at positions
placed : (w : World) → IsWorld w → (a : Option Access)
    → ((slot i byte : ℕ) → is_some (get w.loading.handles slot i) ≡ true → IsSomeAnd a (HasIn w.loading.handles slot i byte) → get w.loading.handles slot i ≡ Some byte) → (p : Position) (byte : ℕ) → IsSomeAnd a (Has w p byte) → byte_at w p ≡ Some byte
placed w is a has p byte h =
    let there = (some_such a h).2.there in
    let l = lies w is p there in
    l.byte ∙ has p.slot l.at byte (ap is_some (sym l.byte) ∙ there) (some_as a (to_place w p l byte) h)

-- A step of loading: where a position is there before and after, it lies at one place of its object, since the table of a local heap that stays is
-- the same, and its segment has its slot still.
module _ (honest : Type 0) (format : C.Format) (old new : World) (command : C.AnyCommand) (reply : Reply) (is : IsWorld old) (now : IsWorld new) (step : C.LoadingStep honest format old command reply new) where
  abbrev event : Event
  event = record { command = command; reply = reply; after = new }

  abbrev next : ℕ → ℕ
  next slot = slot_after_step old.loading.handles command reply new.loading.handles slot

  segments : KeepsSegments old.loading.handles new.loading.handles command reply
  segments = loading_keeps honest format old.loading new.loading is.loading command reply step.0

  -- where there was a local heap there was an object
  keeps_slot : (slot : ℕ) (t : Table) → finmap.get old.heaps (next slot) ≡ Some t → next slot ≡ slot
  keeps_slot slot t e = elim (segments.free slot) [
    | inl same ↦ same
    | inr none ↦ absurd (subst (λ b. IsSomeAnd b (C.IsLocalIn t)) (ap bytes_in none) (subst (λ p. C.IfSome p (λ t. IsSomeAnd (segment_bytes old (next slot)) (C.IsLocalIn t))) e (is.heaps.heaps (next slot))))
  ]

  one_place : (slot : ℕ) (entry : Option ℕ) (offset : ℕ) → IsThere old (position slot entry offset) → IsThere new (position (next slot) entry offset) → place_at new (position (next slot) entry offset) ≡ place_at old (position slot entry offset)
  one_place slot None offset t u = refl
  one_place slot (Some entry) offset t u =
      let (at, e, t) = there_in entry offset (local_in old slot) t in
      let (after, f, u) = there_in entry offset (local_in new (next slot)) u in
      let had = local_there old slot at e in
      let has = local_there new (next slot) after f in
      let stood : finmap.get old.heaps after.slot ≡ Some after.table = ((goes_law honest format old new command reply step after.slot after.table).0 has.0.table).0 in
      let home : next slot ≡ slot = keeps_slot slot after.table (ap (finmap.get old.heaps) (sym has.1) ∙ stood) in
      ap (place_of entry offset) f
      ∙ ap (λ (t : Table). option_map (λ begin. begin + offset) (finmap.get (C.heap_in t []).places entry)) (only stood (ap (finmap.get old.heaps) (has.1 ∙ home ∙ sym had.1) ∙ had.0.table))
      ∙ sym (ap (place_of entry offset) e)

  -- so what it leaves of segments it leaves of positions
  loading_kept : KeepsWritten old event
  loading_kept = record {
    written = placed new now (written command reply) segments.put;
    read = placed old is (read command reply) segments.got;
    kept = λ p was there out.
        let l = lies old is p was in
        let q = position_after old event p in
        let m = lies new now q there in
        let same : m.at ≡ l.at = only m.place (one_place p.slot p.entry p.offset was there ∙ l.place) in
        let still : byte_in (segment_bytes old p.slot) m.at ≡ byte_at old p = ap (byte_in (segment_bytes old p.slot)) same ∙ sym l.byte in
        m.byte ∙ segments.kept p.slot m.at (ap is_some still ∙ was) (ap is_some (sym m.byte) ∙ there)
        (λ byte h. out byte (some_as (written command reply) (from_place new q m byte there) h))
        ∙ still;
  }

side : (lo hi offset : ℕ) → (C.nat_le lo offset && C.nat_lt offset hi) ≡ false → (offset < lo) ⊎ (hi ≤ offset)
side lo hi offset e = grind arith

-- A local call.
module _ (old new : World) (command : C.Command C.OfLocals) (reply : Reply) (is : IsWorld old) (now : IsWorld new) (step : C.LocalStep old command reply new) where
  -- a byte of a segment that is in no local heap's range is the same where it is there before and after
  module _ (slot offset : ℕ) (out : is_in_range (finmap.get old.heaps slot) offset ≡ false) (was : is_some (byte_in (segment_bytes old slot) offset) ≡ true) (there : is_some (byte_in (segment_bytes new slot) offset) ≡ true) where
    abbrev IsStill : Type 0
    IsStill = byte_in (segment_bytes new slot) offset ≡ byte_in (segment_bytes old slot) offset

    -- it lies below the current heap or above it
    beside : (at : LocalHeap) → current_heap old ≡ Some at → at.slot ≡ slot → (offset < at.table.lo) ⊎ (at.table.hi ≤ offset)
    beside at c mine = side at.table.lo at.table.hi offset (ap (λ t. is_in_range t offset) (sym (ap (finmap.get old.heaps) (sym mine) ∙ (current_there old at c).table)) ∙ out)

    becomes : {before after : List ℕ} → segment_bytes old slot ≡ Some before → segment_bytes new slot ≡ Some after → slice_get after offset ≡ slice_get before offset → IsStill
    becomes e f same = ap (λ b. byte_in b offset) f ∙ same ∙ sym (ap (λ b. byte_in b offset) e)

    kept_outside : C.IsObjectKept old new slot → IsStill
    kept_outside (inl same) = ap (λ o. byte_in (bytes_in o) offset) same
    kept_outside (inr h) =
        let (at, c, (mine, h)) = some_such (current_heap old) h in
        let (o, e, h) = some_such (object_at old.loading.handles.heap slot) h in
        let (p, f, h) = some_such (object_at new.loading.handles.heap slot) h in
        let (bytes, g, same) = some_such p.bytes h.has in
        becomes (ap bytes_in e ∙ h.had) (ap bytes_in f ∙ g) (get-outside at.table.lo at.table.hi at.bytes bytes offset same.1 (beside at c mine))

    -- The heap grew. It ended where its segment did, so such a byte of the segment lies below it.
    longer_outside : C.KeepsRestLonger old command new → C.IsLeftByGrowth old new slot → IsStill
    longer_outside r (inl (inl same)) = ap (λ o. byte_in (bytes_in o) offset) same
    longer_outside r (inl (inr lost)) = absurd (let (o, e, h) = some_such (object_at old.loading.handles.heap slot) lost in false≢true (sym (ap (λ p. is_some (byte_in (bytes_in p) offset)) h.3) ∙ there))
    longer_outside r (inr h) =
        let (at, c, (mine, h)) = some_such (current_heap old) h in
        let (o, e, h) = some_such (object_at old.loading.handles.heap slot) h in
        let (p, f, h) = some_such (object_at new.loading.handles.heap slot) h in
        let (bytes, g, same) = some_such p.bytes h.has in
        let had : segment_bytes old slot ≡ Some at.bytes = ap bytes_in e ∙ h.had in
        let ends : at.table.hi ≡ C.length at.bytes = subst (λ (h : LocalHeap). h.table.hi ≡ C.length h.bytes) (only r.current c) r.ends in
        let low : offset < at.table.lo = elim (beside at c mine) [ inl lt ↦ lt | inr le ↦ absurd (omega (arith, ends, le, inside at.bytes offset (ap (λ b. is_some (byte_in b offset)) (sym had) ∙ was))) ] in
        becomes had (ap bytes_in f ∙ g) (get-below at.table.lo at.bytes bytes offset same.1 low)

    is_there : (o : Option C.Object) → is_some (byte_in (bytes_in o) offset) ≡ true → is_some o ≡ true
    is_there None t = absurd (false≢true t)
    is_there (Some o) t = refl

    same_outside : C.KeepsRest old new ⊎ C.KeepsRestLonger old command new → IsStill
    same_outside (inl k) = kept_outside (k.objects slot)
    same_outside (inr r) = longer_outside r ((leaves_longer old new command is.heaps r).objects slot (is_there (object_at old.loading.handles.heap slot) was))

  local_kept : (slot : ℕ) (entry : Option ℕ) (offset : ℕ) → IsThere old (position slot entry offset) → IsThere new (position slot entry offset) → byte_at new (position slot entry offset) ≡ byte_at old (position slot entry offset)
  local_kept slot None offset t u =
      let was = byte_outside old is slot offset t in
      let there = byte_outside new now slot offset u in
      there ∙ same_outside slot offset (outside old is slot offset t) (ap is_some (sym was) ∙ t) (ap is_some (sym there) ∙ u) (frame_law old new command reply is.heaps step) ∙ sym was
  local_kept slot (Some entry) offset t u =
      let (at, e, t) = there_in entry offset (local_in old slot) t in
      let (after, f, u) = there_in entry offset (local_in new slot) u in
      let stays : ((c : LocalHeap) → current_heap old ≡ Some c → c.slot ≢ slot) → byte_of entry offset (Some after) ≡ byte_of entry offset (Some at) = λ g. ap (λ h. byte_of entry offset (Some h)) (other_same old new command reply is step slot at after e f g) in
      let same : byte_of entry offset (Some after) ≡ byte_of entry offset (Some at) = elim (which (current_heap old)) [
        | inl d ↦ stays (λ c g. let never : ◌≡◌ {A = Option LocalHeap} None (Some c) = sym d ∙ g in cc)
        | inr (c, d) ↦ elim (C.cases_eq c.slot slot) [
          | inl s ↦ (local_agrees old new is.heaps command reply step at after (d ∙ sym (there_local old c (current_there old c d)) ∙ ap (local_in old) s ∙ e) (ap (local_in new) (local_there old slot at e).1 ∙ f) entry).one offset t u
          | inr s ↦ stays (λ b g. subst (λ (h : LocalHeap). h.slot ≢ slot) (only d g) s)
        ]
      ] in
      ap (byte_of entry offset) f ∙ same ∙ sym (ap (byte_of entry offset) e)

pub step_law : (honest : Type 0) → StepLaw honest
step_law honest format old new (any C.OfLocals command) reply is known step = record {
  written = λ p byte h. absurd h;
  read = λ p byte h. absurd h;
  kept = λ p was there out. local_kept old new command reply is (world_law honest format old new (any C.OfLocals command) reply is known step) step p.slot p.entry _ was there;
}
step_law honest format old new command reply is known step = loading_kept honest format old new command reply is (world_law honest format old new command reply is known step) step
