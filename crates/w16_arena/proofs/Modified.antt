-- An object's kind is changed: its entry and its place in the order of use, and nothing else.
use Rattle.w16_arena.proofs
use proofs.Common as C
use proofs.Common.{◌≡◌, ℕ, ◌+◌, ◌<◌, ◌≤◌, ◌&&◌, ◌||◌, Bool, true, false, List, set, Option, Some, None, Ok, is_some, refl, sym, ap, ◌∙◌, subst, false≢true, Block, Entry, Kind, Heap, is_fixed, is_discardable, with_ordered, after_modify, hold_of_entry, object_in, Uses, Steps, heap_of}
use proofs.Common.{relisted}
use proofs.Lookups.{in_list, holds_at, object_here, sound_arranged}
use proofs.Changed.{GoTogether, ChangesOne, ReordersOne, changes_none}
use proofs.Reordered.{same_reorders, end_reorders, without_reorders}
use proofs.Steps.{state_of, beside, some_parts, kept_with, steps_to}
use proofs.{Parts.AreParts, Told.modify_ok, Singles.put_parts, Singles.put_heap}

module _ {entries : List (Option Entry)} {layout : C.Layout} {uses : Uses} {gap_rooms : ℕ} {room : ℕ} (kept : C.ArenaInvariant entries layout uses gap_rooms room)
    (id : ℕ) (d : Entry) (there : C.get_or entries id None ≡ Some d) (kind : Kind) (loose : (is_fixed d.kind || is_fixed kind) ≡ false) where
  abbrev entry : Entry
  entry = record d { kind = kind }

  abbrev block : Option Block
  block = C.block_with layout.blocks id

  abbrev order : List ℕ
  order = relisted (is_discardable d.kind) (is_discardable kind) (is_some block) id uses.ids

  lt : id < C.length entries
  lt = in_list entries id d there

  same_hold : hold_of_entry d ≡ hold_of_entry entry
  same_hold = let (was, is) = C.or_parts (is_fixed d.kind) (is_fixed kind) loose in rw (was, is) refl

  together : GoTogether (Some entry) block
  together = record {
    holds = λ x e. subst (λ p. C.IsSomeAnd p (λ d. x.hold ≡ hold_of_entry d)) there (holds_at entries layout uses.ids kept.sound id x e) ∙ same_hold;
    counted = (counted.0, (λ fixed. absurd (false≢true (sym (C.or_parts (is_fixed d.kind) (is_fixed kind) loose).1 ∙ fixed))), counted.2);
  }
    where
      counted : C.IsCountedBy block d
      counted = subst (λ p. C.IfSome p (C.IsCountedBy block)) there (kept.sound.counted id)

  no_change : ChangesOne id block layout layout
  no_change = changes_none id block layout refl

  reorders : ReordersOne id (C.is_listed (Some entry) block) uses.ids order
  reorders = turn (is_discardable d.kind) (is_discardable kind) (is_some block) (kept.sound.in_order id ∙ ap (λ p. C.is_listed p block) there)
    where
      turn : (was is has : Bool) → C.is_member id uses.ids ≡ (was && has) → ReordersOne id (is && has) uses.ids (relisted was is has id uses.ids)
      turn true true has here = same_reorders id uses.ids has here kept.sound.no_repeats
      turn true false has here = without_reorders id uses.ids kept.sound.no_repeats
      turn false true true here = end_reorders C.Newest id uses.ids kept.sound.no_repeats
      turn false true false here = without_reorders id uses.ids kept.sound.no_repeats
      turn false false has here = without_reorders id uses.ids kept.sound.no_repeats

  sound_modified : C.IsSound (C.table_of (set entries id (Some entry)) layout order)
  sound_modified = (put_parts (some_parts kept) id lt entry together no_change reorders (sound_arranged entries layout uses.ids kept.sound) refl).sound

  heap_modified : (memory : List ℕ) → layout.hi ≤ C.length memory → after_modify (heap_of entries layout uses.ids memory) id kind ≡ Ok (heap_of (set entries id (Some entry)) layout order memory)
  heap_modified memory high =
      let parts : AreParts entries layout uses.ids memory = beside kept memory high in
      let heap : Heap = heap_of entries layout uses.ids memory in
      modify_ok heap id (object_in layout.blocks memory id d) (object_here parts id ∙ ap (C.option_map (object_in layout.blocks memory id)) there) kind loose
      ∙ ap (λ has. Ok (with_ordered heap id (record (object_in layout.blocks memory id d) { kind = kind }) (λ order. relisted (is_discardable d.kind) (is_discardable kind) has id order))) (has_same block)
      ∙ ap Ok (sym (put_heap parts id lt entry together no_change reorders (sound_arranged entries layout uses.ids kept.sound) refl))
    where
      has_same : (b : Option Block) → is_some (C.option_map (λ (x : Block). C.slice_range memory x.at (x.at + x.size)) b) ≡ is_some b
      has_same None = refl
      has_same (Some x) = refl

  pub kept_modified : {after : Uses} → after ≡ record uses { ids = order } → C.ArenaInvariant (set entries id (Some entry)) layout after gap_rooms room
  kept_modified {after} after_is = kept_with kept (set entries id (Some entry)) layout after (subst (λ (u : Uses). C.IsSound (C.table_of (set entries id (Some entry)) layout u.ids)) (sym after_is) sound_modified)
      (C.length-set entries id (Some entry)) refl (ap (λ (u : Uses). u.cap) after_is)

  pub steps_modified : {discarded : List ℕ} {old : C.ArenaState} → state_of entries layout uses.ids discarded ≡ old → {after : Uses} → after ≡ record uses { ids = order }
      → Steps old (state_of (set entries id (Some entry)) layout after.ids discarded) (λ a b. after_modify a id kind ≡ Ok b)
  steps_modified {discarded} {old} shown {after} after_is = subst (λ (u : Uses). Steps old (state_of (set entries id (Some entry)) layout u.ids discarded) (λ a b. after_modify a id kind ≡ Ok b)) (sym after_is)
      (steps_to kept shown (set entries id (Some entry)) layout order (λ a b. after_modify a id kind ≡ Ok b) sound_modified refl refl refl (C.length-set entries id (Some entry)) heap_modified)
