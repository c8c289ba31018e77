-- At which ends a request is answered, by the blocks of a table, and the least such end.
use Rattle.w16_arena.proofs
use proofs.Common as C
use proofs.Common.{◌≡◌, ℕ, ◌<◌, ◌≤◌, Bool, true, false, not, ◌&&◌, ◌||◌, cond, nat_le, List, length, Option, Some, None, is_some, IfSome, refl, sym, ap, ◌∙◌, arith, Block, Entry, RoomOptions, Uses, fits_in_place, growth_for, none_discarded_if, Heap, blocks, Table, block_with}
use proofs.{Parts.AreParts, Listed.listed_permutation, Viewed.bytes_none, Growing.entry_below}
use Rattle.w16_model.specs.Discards.{Snapshot, prefix_for}
use Rattle.w16_model.specs.{Ends.ending, Ends.is_answered, Ends.is_grown, Ends.is_resized, Law.HasNoEnd, Law.IsLeastEnd}
use Rattle.w16_model.proofs.Pinned.{longest_hole-permutation}
use Rattle.w16_holes.specs.declared.holes.TheConstants.{LAST_END}
use Rattle.w16_compact.specs.{declared.stretch.Stretch.Stretch, Stretch.stretch_at}
use Rattle.w16_arena.specs.Representation.{ArenaInvariant}
use Rattle.w16_arena.proofs.Sized as sized

module _ (t : Table) (sound : C.IsSound t) (memory : List ℕ) (inside : t.hi ≤ length memory) (end n : ℕ) (options : RoomOptions) where
  abbrev h : Heap
  h = C.heap_in t memory

  parts : AreParts t.entries (record { cap = length t.entries; lo = t.lo; hi = t.hi; grain = t.grain; blocks = t.blocks }) t.order memory
  parts = record { sound = sound; ids = refl; high = inside }

  abbrev in_table : Snapshot
  in_table = C.snapshot t.lo end t.blocks t.order

  abbrev in_heap : Snapshot
  in_heap = C.snapshot t.lo end (blocks h) t.order

  longest_same : C.longest_hole t.lo end (blocks h) ≡ C.longest_hole t.lo end t.blocks
  longest_same = longest_hole-permutation t.lo end t.blocks (blocks h) (listed_permutation parts)

  prefix_same : (about : Option ℕ) → prefix_for in_heap n about options ≡ prefix_for in_table n about options
  prefix_same about =
      let room = sym (C.room_by_members t.lo end t.blocks (blocks h) (listed_permutation parts) t.order 0 about) in
      let needs = sym (C.needed_by_members t.lo end t.blocks (blocks h) (listed_permutation parts) t.order n about) in
      λ i. cond (not options.compact) (none_discarded_if (nat_le n (longest_same i))) (cond (not options.discard) (none_discarded_if (nat_le n (room i))) (needs i))

  -- for an id without a block
  pub answered_absent : (id : ℕ) → block_with t.blocks id ≡ None → is_answered (ending h end) id n options ≡ is_some (prefix_for in_table n (Some id) options)
  answered_absent id none = turn (C.object_at h id) (bytes_none t sound memory inside id none) ∙ ap is_some (prefix_same (Some id))
    where
      turn : (p : Option C.Object) → (elim p as (λ _. Option (List ℕ)) [ Some o ↦ o.bytes | None ↦ None ]) ≡ None
          → (elim p as (λ _. Bool) [ None ↦ is_some (prefix_for in_heap n (Some id) options) | Some o ↦ is_resized (ending h end) id o n options ]) ≡ is_some (prefix_for in_heap n (Some id) options)
      turn None e = refl
      turn (Some o) e = ap (λ (b : Option (List ℕ)). elim b as (λ _. Bool) [ None ↦ is_some (prefix_for in_heap n (Some id) options) | Some bytes ↦ nat_le n (length bytes) || is_grown (ending h end) id o n options ]) e

  -- and for an object with one
  module _ (b : Block) (known : block_with t.blocks b.id ≡ Some b) where
    fits_same : fits_in_place in_heap n b.id ≡ fits_in_place in_table n b.id
    fits_same = sized.fits_in_heap_at t sound memory inside b known end n ∙ sym (sized.fits_by_blocks_at t sound memory inside b known end t.order n)

    growth_same : growth_for in_heap n b.id options ≡ growth_for in_table n b.id options
    growth_same = λ i. cond options.compact (prefix_same (Some b.id) i) (none_discarded_if (fits_same i || nat_le n (longest_same i)))

    pub answered_known : is_answered (ending h end) b.id n options ≡ (nat_le n b.size || cond (C.holds_still b.hold && not options.may_move) (fits_in_place in_table n b.id) (is_some (growth_for in_table n b.id options)))
    answered_known =
        ap (λ (p : Option C.Object). elim p as (λ _. Bool) [ None ↦ is_some (prefix_for in_heap n (Some b.id) options) | Some o ↦ is_resized (ending h end) b.id o n options ]) (sized.object_is t sound memory inside b known)
        ∙ (λ i. nat_le n (sized.own_size t sound memory inside b known i) || cond (sized.pinned_is t sound memory inside b known i && not options.may_move) (fits_same i) (is_some (growth_same i)))

-- a stretch tells at which ends a request is answered
abbrev pub Tells : Heap → ℕ → ℕ → RoomOptions → Stretch → Type 0
Tells heap id n options s = (e : ℕ) → heap.hi ≤ e → is_answered (ending heap e) id n options ≡ nat_le n (stretch_at s e)

module _ (heap : Heap) (id n : ℕ) (options : RoomOptions) (s : Stretch) (told : Tells heap id n options s) where
  pub least_is : (found : Option ℕ) → IfSome found (λ end. (end ≤ LAST_END) × (heap.hi ≤ end)) → IfSome found (λ end. (e : ℕ) → end ≤ e → nat_le n (stretch_at s e) ≡ true)
      → IfSome found (λ end. (e : ℕ) → heap.hi ≤ e → e < end → nat_le n (stretch_at s e) ≡ false) → IfSome found (λ end. (end ≤ LAST_END) × IsLeastEnd heap id n options end)
  least_is None some enough least = tt
  least_is (Some end) some enough least = (
    some.0,
    record {
      later = some.1;
      answered = λ e from. told e (let le = some.1 in omega arith) ∙ enough e from;
      least = λ e from to. told e from ∙ least e from to;
    },
  )

  pub none_found : (found : Option ℕ) → C.IfNone found ((e : ℕ) → heap.hi ≤ e → e ≤ LAST_END → nat_le n (stretch_at s e) ≡ false) → C.IfNone found (HasNoEnd LAST_END heap id n options)
  none_found None none = λ e from to. told e from ∙ none e from to
  none_found (Some end) none = tt

-- a block's id is one
pub below_cap : {entries : List (Option Entry)} {layout : C.Layout} {uses : Uses} {gap_rooms room : ℕ} → ArenaInvariant entries layout uses gap_rooms room → (b : Block) → block_with layout.blocks b.id ≡ Some b → b.id < layout.cap
below_cap {entries} {layout} {uses} kept b there = let few = entry_below (C.table_of entries layout _) kept.sound b there in let same = kept.ids in omega arith
