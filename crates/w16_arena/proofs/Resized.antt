-- The heap after an object got another size where it stands.
use Rattle.w16_arena.proofs
use proofs.Common as C
use proofs.Changed as M
use proofs.Common.{◌≡◌, ◌≢◌, ℕ, ◌+◌, ◌<◌, true, ◌&&◌, cond, List, length, set, slice_range, Some, None, option_map, refl, sym, ap, ◌∙◌, subst, inl, inr, Block, Entry, Heap, object_at, block_with, heap_of}
use proofs.Lookups.{in_list, ordered_arranged, place_here, same_heap}
use proofs.{Parts.AreParts, With.with-replaced, Reordered.same_reorders}
use Rattle.std.specs.FinMap as finmap

module _ {entries : List (C.Option Entry)} {layout : C.Layout} {order memory : List ℕ} (parts : AreParts entries layout order memory)
    (b : Block) (known : block_with layout.blocks b.id ≡ Some b) (e : Entry) (there : C.get_or entries b.id None ≡ Some e) (held : b.hold ≡ C.hold_of_entry e)
    (n : ℕ) {new : C.Layout} (value : new ≡ record layout { blocks = C.replaced (record b { size = n }) layout.blocks }) (ordered : C.IsOrdered new)
    (after : List ℕ) (long : length after ≡ length memory)
    (others : (q : ℕ) → q ≢ b.id → option_map (λ (x : Block). slice_range after x.at (x.at + x.size)) (block_with layout.blocks q) ≡ option_map (λ (x : Block). slice_range memory x.at (x.at + x.size)) (block_with layout.blocks q)) where
  abbrev sized : Block
  sized = record b { size = n }

  lt : b.id < length entries
  lt = in_list entries b.id e there

  together : M.GoTogether (Some e) (Some sized)
  together = record { holds = λ x is. ap (λ (y : Block). y.hold) (let s : x ≡ sized = cc in s) ∙ held; counted = (counted.0, counted.1, λ none. cc) }
    where
      counted : C.IsCountedBy (block_with layout.blocks b.id) e
      counted = subst (λ p. C.IfSome p (C.IsCountedBy (block_with layout.blocks b.id))) there (parts.sound.counted b.id)

  changes : M.ChangesOne b.id (Some sized) layout new
  changes = subst (M.ChangesOne b.id (Some sized) layout) (sym value) (record { cap = refl; lo = refl; hi = refl; grain = refl; blocks = λ q. with-replaced sized layout.blocks q })

  listed : M.ReordersOne b.id (C.is_discardable e.kind && true) order order
  listed = same_reorders b.id order (C.is_discardable e.kind && true) (parts.sound.in_order b.id ∙ (λ i. C.is_listed (there i) (known i))) parts.sound.no_repeats

  same_entries : set entries b.id (Some e) ≡ entries
  same_entries = ap (set entries b.id) (sym there) ∙ C.set-get_or entries b.id None

  pub resized_parts : AreParts entries new order after
  resized_parts = subst (λ es. AreParts es new order after) same_entries (M.changed_parts parts (Some e) after lt together changes listed (ordered_arranged new ordered) long)

  abbrev before : Heap
  before = heap_of entries layout order memory

  abbrev then : Heap
  then = heap_of (set entries b.id (Some e)) new order after

  abbrev object : C.Object
  object = record { kind = e.kind; locks = e.locks; bytes = Some (slice_range after b.at (b.at + n)) }

  pub resized_heap : heap_of entries new order after ≡ C.with_object before b.id object
  resized_heap = sym (ap (λ es. heap_of es new order after) same_entries) ∙ same_heap then (C.with_object before b.id object) changes.lo changes.hi changes.grain refl
      (λ q. elim (C.cases_eq q b.id) [
        | inl i ↦ ap (object_at then) i ∙ M.object_at_id parts (Some e) after lt together changes listed (ordered_arranged new ordered) long
            ∙ sym (C.get-insert C.nat_cmp_total before.objects b.id object q ∙ ap (λ v. cond v (Some object) (object_at before q)) (ap (λ k. C.eq_by_cmp C.nat_cmp k b.id) i ∙ C.tied_itself b.id))
        | inr d ↦ M.object_at_other parts (Some e) after lt together changes listed (ordered_arranged new ordered) long q (λ i. d (sym i)) (others q d)
            ∙ sym (C.get-insert C.nat_cmp_total before.objects b.id object q ∙ ap (λ v. cond v (Some object) (object_at before q)) (C.untied q b.id d))
      ])
      (λ q. elim (C.cases_eq q b.id) [
        | inl i ↦ ap (finmap.get then.places) i ∙ M.place_at_id parts (Some e) after lt together changes listed (ordered_arranged new ordered) long
            ∙ sym (ap (finmap.get before.places) i ∙ place_here parts b.id ∙ ap (option_map (λ (x : Block). x.at)) known)
        | inr d ↦ M.place_at_other parts (Some e) after lt together changes listed (ordered_arranged new ordered) long q (λ i. d (sym i))
      ])
