-- A far access leaves each local heap but for bytes of its objects.
use Rattle.w16_machine.proofs
use proofs.Common as C
use proofs.Common.{◌≡◌, ℕ, Bool, true, false, ◌+◌, ◌≤◌, ◌<◌, inl, inr, cond, List, length, Option, Some, None, option_map, refl, sym, ap, ◌∙◌, subst, arith, Block, Entry, part, put_part, Object, after_touch, Handles, selector_in, offset_in, FarAnswer, far_fault, after_write, Read, Write}
use proofs.Common.{Fill, Bytes, Fault, Table, heap_in, bytes_in, World, heap_of, HasSameObjects, but_bytes, HasSamePlaces}
use proofs.LocalFacts.{IsThere, local_here}
use proofs.LocalLeft.{IsLocalAt, left_over, left_is}
use Rattle.w16_model.specs.{Far.far_read, Far.far_write, Far.FarAnswer.Done}
use Rattle.std.specs.FinMap as finmap

-- How many bytes there are.

abbrev SameAfter : Handles → FarAnswer × Handles → Type 0
SameAfter old outcome = HasSamePlaces old outcome.1

module _ (old : Handles) (selector offset : ℕ) where
  abbrev slot : ℕ
  slot = C.far_slot old selector

  abbrev place : ℕ
  place = C.far_at old selector offset

  pub read_same : (n : ℕ) → SameAfter old (far_read old selector offset n)
  read_same n = turn (far_fault old selector offset n)
    where
      turn : (f : Option C.FarFault) → SameAfter old (elim f [ Some fault ↦ (Fault fault, old) | None ↦ (Bytes (part (C.far_bytes old selector) place n), record old { heap = after_touch old.heap slot }) ])
      turn (Some fault) = record { addresses = refl; attributes = refl; kinds = λ q. refl; sizes = λ q. refl }
      turn None = record { addresses = refl; attributes = refl; kinds = λ q. refl; sizes = λ q. refl }

  abbrev put : List ℕ → Object → Object
  put slice o = record o { bytes = option_map (λ bytes. put_part bytes place slice) o.bytes }

  written_same : (slice : List ℕ) → C.Reached old slot (place + length slice) → HasSamePlaces old (record old { heap = after_touch (after_write old.heap slot place slice) slot })
  written_same slice r = record {
    addresses = refl;
    attributes = refl;
    kinds = λ q. elim (C.cases_eq q slot) [
      | inl e ↦
          ap (λ i. option_map (λ (o : Object). o.kind) (C.object_at (after_write old.heap slot place slice) i)) e
          ∙ ap (option_map (λ (o : Object). o.kind)) (C.get-update_same old.heap.objects slot (put slice)
          ∙ ap (option_map (put slice)) r.there)
          ∙ sym (ap (λ i. C.kind_at old i) e ∙ ap (option_map (λ (o : Object). o.kind)) r.there)
      | inr d ↦ ap (option_map (λ (o : Object). o.kind)) (C.get-update_other old.heap.objects slot (put slice) q d)
    ];
    sizes = λ q. elim (C.cases_eq q slot) [
      | inl e ↦
          ap (λ i. option_map length (bytes_in (C.object_at (after_write old.heap slot place slice) i))) e
          ∙ ap (λ p. option_map length (bytes_in p)) (C.get-update_same old.heap.objects slot (put slice)
          ∙ ap (option_map (put slice)) r.there)
          ∙ ap (λ b. option_map length (option_map (λ (bytes : List ℕ). put_part bytes place slice) b)) r.has
          ∙ ap Some (C.length-put_part r.bytes place slice r.fits)
          ∙ sym (ap (λ i. C.size_at old i) e ∙ ap (option_map length) r.here)
      | inr d ↦ ap (λ p. option_map length (bytes_in p)) (C.get-update_other old.heap.objects slot (put slice) q d)
    ];
  }

  data_same : (slice : List ℕ) → SameAfter old (C.data_write old selector offset slice)
  data_same slice = turn (far_fault old selector offset (length slice)) refl
    where
      turn : (f : Option C.FarFault) → far_fault old selector offset (length slice) ≡ f
          → SameAfter old (elim f [ Some fault ↦ (Fault fault, old) | None ↦ (Done, record old { heap = after_touch (after_write old.heap slot place slice) slot }) ])
      turn (Some fault) e = record { addresses = refl; attributes = refl; kinds = λ q. refl; sizes = λ q. refl }
      turn None e = written_same slice (C.reached old selector offset (length slice) e)

  pub write_same : (slice : List ℕ) → SameAfter old (far_write old selector offset slice)
  write_same slice = turn (C.refuses_write old selector)
    where
      turn : (b : Bool) → SameAfter old (cond {A = FarAnswer × Handles} b (Fault C.ReadOnly, old) (C.data_write old selector offset slice))
      turn true = record { addresses = refl; attributes = refl; kinds = λ q. refl; sizes = λ q. refl }
      turn false = data_same slice

far_same : (old new : Handles) (command : C.Command C.OfFar) (answer : FarAnswer) → C.FarStep old command answer new → HasSamePlaces old new
far_same old new (Read pointer count) answer step = subst (HasSamePlaces old) (sym step.1) (read_same old _ _ count)
far_same old new (Write pointer bytes) answer step = subst (HasSamePlaces old) (sym step.1) (write_same old (selector_in pointer) (offset_in pointer) bytes)
far_same old new (Fill pointer count byte) answer step = subst (HasSamePlaces old) (sym step.1) (write_same old (selector_in pointer) (offset_in pointer) (C.repeated count byte))

-- The heap of a table in other bytes.
module _ (t : Table) (is : C.IsTable t) (memory after : List ℕ) (whole : t.hi ≤ length memory) (same : t.hi ≤ length after) where
  inside : (x : Block) → C.Member x t.blocks → x.at + x.size ≤ t.hi
  inside x m = (C.Each-at (λ x. (t.lo ≤ x.at) × (0 < x.size) × (C.block_end x ≤ t.hi)) t.blocks (C.laid_each t.lo t.hi t.blocks is.laid) x m).2

  lengths : (id : ℕ) (b : Option Block) → C.block_with t.blocks id ≡ b
      → option_map length (option_map (λ (x : Block). C.slice_range after x.at (x.at + x.size)) b) ≡ option_map length (option_map (λ (x : Block). C.slice_range memory x.at (x.at + x.size)) b)
  lengths id None e = refl
  lengths id (Some x) e = let le : x.at + x.size ≤ t.hi = inside x (C.member_with t.blocks id x e).0 in
      ap Some (C.length_range after x.at x.size (omega (arith, le, same)) ∙ sym (C.length_range memory x.at x.size (omega (arith, le, whole))))

  same_objects : HasSameObjects (heap_in t memory) (heap_in t after)
  same_objects = record {
    rest = refl;
    objects = λ id. ap (option_map but_bytes) (C.object_is t is after same id) ∙ turn id (C.entry_at t id) ∙ sym (ap (option_map but_bytes) (C.object_is t is memory whole id));
  }
    where
      turn : (id : ℕ) (e : Option Entry) → option_map but_bytes (option_map (C.object_in t.blocks after id) e) ≡ option_map but_bytes (option_map (C.object_in t.blocks memory id) e)
      turn id None = refl
      turn id (Some e) = λ i. Some (e.kind, e.locks, lengths id (C.block_with t.blocks id) refl i)

-- a heap is left where its segment has as many bytes
left_same : (p : Option Table) (before after : Option (List ℕ)) → IsLocalAt p before → option_map length after ≡ option_map length before → left_over p after ≡ p
left_same None before after h e = refl
left_same (Some t) None after h e = absurd h
left_same (Some t) (Some before) None h e = cc
left_same (Some t) (Some before) (Some after) h e =
    let same : length after ≡ length before = cc in
    ap (λ l. cond {A = Option _} l (Some t) None) (C.le-leb _ _ (omega (arith, same, h.1)))

pub far_reply : (old new : Handles) (command : C.Command C.OfFar) (answer : Option FarAnswer) → C.IsSomeAnd answer (λ answer. C.FarStep old command answer new) → HasSamePlaces old new
far_reply old new command None h = absurd h
far_reply old new command (Some answer) h = far_same old new command answer h

-- so all are left where each object has as many
pub tables_stay : (old new : World) → C.AreLocalHeaps old → new ≡ C.after_loading old new.loading → HasSamePlaces old.loading.handles new.loading.handles → new.heaps ≡ old.heaps
tables_stay old new is rest same = C.same_map C.nat_cmp_total C.nat_cmp-IsAntisymmetric _ _ (λ slot.
    ap (λ w. finmap.get w.heaps slot) rest ∙ left_is new.loading.handles.heap _ _
    ∙ left_same _ (C.segment_bytes old _) _ (is.heaps _) (same.sizes _))

-- a local heap that has its table has its objects
pub same_heaps : (old new : World) → C.AreLocalHeaps old → (at after : C.LocalHeap) → IsThere old at → IsThere new after → after.table ≡ at.table → HasSameObjects (heap_of at) (heap_of after)
same_heaps old new is at after was now t =
    let here = local_here old is at was in
    subst (λ t. HasSameObjects (heap_of at) (heap_in t after.bytes)) (sym t) (same_objects at.table here.0.sound.table _ after.bytes here.1 (subst (λ t. t.hi ≤ length after.bytes) t now.inside))
