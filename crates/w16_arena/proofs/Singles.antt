-- The heaps after one id's object is taken away, or put there.
use Rattle.w16_arena.proofs
use proofs.Common as C
use proofs.Changed as M
use proofs.Common.{◌≡◌, ℕ, ◌+◌, ◌<◌, false, cond, List, set, Option, Some, None, option_map, refl, sym, ap, ◌∙◌, inl, inr, nat_cmp, eq_by_cmp, nat_cmp_total, get-remove, cases_eq, Block, Entry, Heap, object_at, with_object, tied_itself, untied, Layout, heap_of}
use proofs.Lookups.{IsArranged, place_here, same_heap}
use proofs.{Parts.AreParts, With.with-without, Reordered.without_reorders}
use Rattle.std.specs.FinMap as finmap
use Rattle.w16_model.specs.Changes as changes

module _ {entries : List (Option Entry)} {layout : Layout} {order memory : List ℕ} (parts : AreParts entries layout order memory) (id : ℕ) (lt : id < C.length entries) where
  abbrev before : Heap
  before = heap_of entries layout order memory

  -- Its object is taken away.
  abbrev pub without_block : Layout
  without_block = record layout { blocks = C.all_but id layout.blocks }

  abbrev none : Option Entry
  none = None

  none_together : M.GoTogether None None
  none_together = record { holds = λ x e. cc; counted = tt }

  none_changes : M.ChangesOne id None layout without_block
  none_changes = record { cap = refl; lo = refl; hi = refl; grain = refl; blocks = with-without id layout.blocks }

  reorders : M.ReordersOne id false order (changes.without id order)
  reorders = without_reorders id order parts.sound.no_repeats

  module _ (arranged : IsArranged without_block) where
    pub removed_parts : AreParts (set entries id None) without_block (changes.without id order) memory
    removed_parts = M.changed_parts parts None memory lt none_together none_changes reorders arranged refl

    pub removed_heap : heap_of (set entries id None) without_block (changes.without id order) memory ≡ C.removed before id
    removed_heap = same_heap (heap_of (set entries id None) without_block (changes.without id order) memory) (C.removed before id) refl refl refl refl
        (λ q. elim (cases_eq q id) [
          | inl e ↦ ap (λ k. object_at (heap_of (set entries id None) without_block (changes.without id order) memory) k) e ∙ M.object_at_id parts None memory lt none_together none_changes reorders arranged refl
              ∙ sym (get-remove nat_cmp_total before.objects id q ∙ ap (λ b. cond b None (object_at before q)) (ap (λ k. eq_by_cmp nat_cmp k id) e ∙ tied_itself id))
          | inr d ↦ M.object_at_other parts None memory lt none_together none_changes reorders arranged refl q (λ e. d (sym e)) refl
              ∙ sym (get-remove nat_cmp_total before.objects id q ∙ ap (λ b. cond b None (object_at before q)) (untied q id d))
        ])
        (λ q. elim (cases_eq q id) [
          | inl e ↦ ap (λ k. finmap.get (heap_of (set entries id None) without_block (changes.without id order) memory).places k) e ∙ M.place_at_id parts None memory lt none_together none_changes reorders arranged refl
              ∙ sym (get-remove nat_cmp_total before.places id q ∙ ap (λ b. cond b None (finmap.get before.places q)) (ap (λ k. eq_by_cmp nat_cmp k id) e ∙ tied_itself id))
          | inr d ↦ M.place_at_other parts None memory lt none_together none_changes reorders arranged refl q (λ e. d (sym e))
              ∙ sym (get-remove nat_cmp_total before.places id q ∙ ap (λ b. cond b None (finmap.get before.places q)) (untied q id d))
        ])

  -- It has this entry, at the place where its block was, if it had one.
  module _ (e : Entry) {block : Option Block} {new : Layout} {uses : List ℕ} (together : M.GoTogether (Some e) block) (changes : M.ChangesOne id block layout new) (listed : M.ReordersOne id (C.is_listed (Some e) block) order uses) (arranged : IsArranged new)
      (same_place : option_map (λ (x : Block). x.at) block ≡ option_map (λ (x : Block). x.at) (C.block_with layout.blocks id)) where
    abbrev after : Heap
    after = heap_of (set entries id (Some e)) new uses memory

    abbrev object : C.Object
    object = record { kind = e.kind; locks = e.locks; bytes = option_map (λ (x : Block). C.slice_range memory x.at (x.at + x.size)) block }

    pub put_parts : AreParts (set entries id (Some e)) new uses memory
    put_parts = M.changed_parts parts (Some e) memory lt together changes listed arranged refl

    pub put_heap : after ≡ record (with_object before id object) { order = uses }
    put_heap = same_heap after (record (with_object before id object) { order = uses }) changes.lo changes.hi changes.grain refl
        (λ q. elim (cases_eq q id) [
          | inl i ↦ ap (λ k. object_at after k) i ∙ M.object_at_id parts (Some e) memory lt together changes listed arranged refl
              ∙ sym (C.get-insert nat_cmp_total before.objects id object q ∙ ap (λ b. cond b (Some object) (object_at before q)) (ap (λ k. eq_by_cmp nat_cmp k id) i ∙ tied_itself id))
          | inr n ↦ M.object_at_other parts (Some e) memory lt together changes listed arranged refl q (λ i. n (sym i)) refl
              ∙ sym (C.get-insert nat_cmp_total before.objects id object q ∙ ap (λ b. cond b (Some object) (object_at before q)) (untied q id n))
        ])
        (λ q. elim (cases_eq q id) [
          | inl i ↦ ap (λ k. finmap.get after.places k) i ∙ M.place_at_id parts (Some e) memory lt together changes listed arranged refl ∙ same_place
              ∙ sym (ap (λ k. finmap.get before.places k) i ∙ place_here parts id)
          | inr n ↦ M.place_at_other parts (Some e) memory lt together changes listed arranged refl q (λ i. n (sym i))
        ])
