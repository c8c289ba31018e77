-- The steps that ask for no room: what each leaves kept, and the heap after it, in every memory.
use Rattle.w16_arena.proofs
use proofs.Common as C
use proofs.Changed as M
use proofs.Common.{◌≡◌, ℕ, zero, suc, ◌+◌, ◌<◌, ◌≤◌, ◌==◌, Bool, true, false, cond, ◌&&◌, IfSome, replicate, List, [], ◌∷◌, length, get_or, set, Option, Some, None, option_map, is_some, refl, sym, ap, ◌∙◌, subst, inl, inr, arith, cases_eq, Block, Entry, Hold, Kind, is_member, Heap, Object}
use proofs.Common.{object_at, is_discardable, removed, absent, with_object, without, IsSound, IsCountedBy, block_with, hold_of_entry, object_in, is_listed, taken_here, taken_other, Layout, IsOrdered, replaced, Uses, ArenaState, Steps, table_of, heap_of, ArenaInvariant}
use proofs.Lookups.{IsArranged, ordered_arranged, sound_arranged, object_here, place_here, no_block, in_list, same_heap}
use proofs.Changed.{GoTogether, ChangesOne, ReordersOne}
use proofs.Singles.{removed_parts, removed_heap, put_parts, put_heap}
use proofs.{Parts.AreParts, With.with-replaced, With.with-without, Reordered.without_reorders, Reordered.same_reorders}
use Rattle.std.specs.FinMap as finmap
use Rattle.w16_blocks.specs.Layout as layouts

-- to set what is there changes nothing
set_itself : (entries : List (Option Entry)) (id : ℕ) (e : Entry) → get_or entries id None ≡ Some e → set entries id (Some e) ≡ entries
set_itself [] id e h = cc
set_itself (d ∷ es) zero e h = ap (λ x. x ∷ es) (sym h)
set_itself (d ∷ es) (suc id) e h = ap (λ xs. d ∷ xs) (set_itself es id e h)

-- the value that they are
abbrev pub state_of : List (Option Entry) → Layout → List ℕ → List ℕ → ArenaState
state_of entries layout order discarded = record { table = table_of entries layout order; discarded = discarded }

-- the order alone may be another, with the same members
pub reordered_sound : (entries : List (Option Entry)) (layout : Layout) (order uses : List ℕ) → IsSound (table_of entries layout order)
    → ((q : ℕ) → is_member q uses ≡ is_member q order) → C.AllPairs (λ a b. a ≡ b → ⊥) uses → IsSound (table_of entries layout uses)
reordered_sound entries layout order uses sound same once = record {
  table = record { laid = sound.table.laid; ids = sound.table.ids; holds = sound.table.holds };
  grained = sound.grained;
  low_grained = sound.low_grained;
  in_order = λ q. same q ∙ sound.in_order q;
  no_repeats = once;
  counted = sound.counted;
}

module _ {entries : List (Option Entry)} {layout : Layout} {uses : Uses} {gap_rooms : ℕ} {room : ℕ} (kept : ArenaInvariant entries layout uses gap_rooms room) where
  -- beside any memory that has the range
  pub beside : (memory : List ℕ) → layout.hi ≤ length memory → AreParts entries layout uses.ids memory
  beside memory high = record { sound = kept.sound; ids = kept.ids; high = high }

  -- with other entries, blocks and uses, for as many ids
  pub kept_with : (entries' : List (Option Entry)) (layout' : Layout) (uses' : Uses) → IsSound (table_of entries' layout' uses'.ids) → length entries' ≡ length entries → layout'.cap ≡ layout.cap → uses'.cap ≡ uses.cap
      → ArenaInvariant entries' layout' uses' gap_rooms room
  kept_with entries' layout' uses' sound many cap ucap = record {
    sound = sound;
    ids = cap ∙ kept.ids ∙ sym many;
    ordered = ucap ∙ kept.ordered ∙ sym many;
    told = kept.told ∙ sym many;
    enough = let e = kept.enough in omega arith;
  }

  -- with another table of as many ids
  pub kept_beside : {other : ℕ} → other ≡ gap_rooms → ArenaInvariant entries layout uses other room
  kept_beside same = record { sound = kept.sound; ids = kept.ids; ordered = kept.ordered; told = same ∙ kept.told; enough = kept.enough }

  module _ {discarded : List ℕ} {old : ArenaState} (shown : state_of entries layout uses.ids discarded ≡ old) where
    -- a step to a sound table over the same range
    pub steps_to : (entries' : List (Option Entry)) (layout' : Layout) (order : List ℕ) (step : Heap → Heap → Type 0)
        → IsSound (table_of entries' layout' order) → layout'.lo ≡ layout.lo → layout'.hi ≡ layout.hi → layout'.grain ≡ layout.grain → length entries' ≡ length entries
        → ((memory : List ℕ) → layout.hi ≤ length memory → step (heap_of entries layout uses.ids memory) (heap_of entries' layout' order memory))
        → Steps old (state_of entries' layout' order discarded) step
    steps_to entries' layout' order step sound lo hi grain many heaps = subst (λ (o : ArenaState). Steps o (state_of entries' layout' order discarded) step) shown (record {
      heaps = heaps;
      range = record { lo = lo; hi = hi; grain = grain; ids = many; sound = sound };
      rest = refl;
    })

    -- nothing has changed
    pub steps_none : (step : Heap → Heap → Type 0) → ((memory : List ℕ) → layout.hi ≤ length memory → step (heap_of entries layout uses.ids memory) (heap_of entries layout uses.ids memory)) → Steps old old step
    steps_none step heaps = subst (λ (o : ArenaState). Steps old o step) shown (steps_to entries layout uses.ids step kept.sound refl refl refl refl heaps)

  -- Used.
  module _ (id : ℕ) (there : is_member id uses.ids ≡ true) where
    pub touched_is : C.touched id uses.ids ≡ C.newest id uses.ids
    touched_is = ap (λ t. cond t (C.newest id uses.ids) uses.ids) there

  -- some memory that has the range
  pub some_parts : AreParts entries layout uses.ids (replicate layout.hi 0)
  some_parts = beside (replicate layout.hi 0) (let e = C.length-replicate {A = ℕ} layout.hi 0 in omega arith)

  -- An id's object is taken away.
  module _ (id : ℕ) (lt : id < length entries) (new : Layout) (value : new ≡ record layout { blocks = layouts.all_but id layout.blocks }) (ordered : IsOrdered new) where
    taken_ordered : IsOrdered (record layout { blocks = layouts.all_but id layout.blocks })
    taken_ordered = subst IsOrdered value ordered

    pub sound_without : IsSound (table_of (set entries id None) new (without id uses.ids))
    sound_without = subst (λ l. IsSound (table_of (set entries id None) l (without id uses.ids))) (sym value)
        (removed_parts some_parts id lt (ordered_arranged (record layout { blocks = layouts.all_but id layout.blocks }) taken_ordered)).sound

    pub heap_without : (memory : List ℕ) → layout.hi ≤ length memory → heap_of (set entries id None) new (without id uses.ids) memory ≡ removed (heap_of entries layout uses.ids memory) id
    heap_without memory high = ap (λ l. heap_of (set entries id None) l (without id uses.ids) memory) value
        ∙ removed_heap (beside memory high) id lt (ordered_arranged (record layout { blocks = layouts.all_but id layout.blocks }) taken_ordered)

  -- Where none is, nothing is taken away.
  module _ (id : ℕ) (none : get_or entries id None ≡ None) where
    not_listed : is_member id uses.ids ≡ false
    not_listed = kept.sound.in_order id ∙ ap (λ e. is_listed e (block_with layout.blocks id)) none

    pub heap_same : (memory : List ℕ) → layout.hi ≤ length memory → heap_of entries layout uses.ids memory ≡ removed (heap_of entries layout uses.ids memory) id
    heap_same memory high =
        let parts = beside memory high in
        let heap : Heap = heap_of entries layout uses.ids memory in
        same_heap heap (removed heap id) refl refl refl (sym (C.without_absent id uses.ids not_listed))
        (λ q. elim (cases_eq q id) [
          | inl e ↦ ap (object_at heap) e ∙ object_here parts id ∙ ap (option_map (object_in layout.blocks memory id)) none ∙ sym (taken_here heap.objects id q e)
          | inr d ↦ sym (taken_other heap.objects id q d)
        ])
        (λ q. elim (cases_eq q id) [
          | inl e ↦ ap (finmap.get heap.places) e ∙ place_here parts id ∙ ap (option_map (λ (x : Block). x.at)) (no_block parts id none) ∙ sym (taken_here heap.places id q e)
          | inr d ↦ sym (taken_other heap.places id q d)
        ])

  -- An id without an object gets an absent one.
  module _ (id : ℕ) (kind : Kind) (lt : id < length entries) (free : get_or entries id None ≡ None) where
    abbrev entered : Entry
    entered = record { kind = kind; locks = 0 }

    absent_block : block_with layout.blocks id ≡ None
    absent_block = no_block some_parts id free

    alone : GoTogether (Some entered) None
    alone = record { holds = λ x e. cc; counted = (omega arith, λ _. refl, λ _. refl) }

    same_blocks : ChangesOne id None layout layout
    same_blocks = M.changes_none id None layout absent_block

    not_yet : ReordersOne id (is_listed (Some entered) None) uses.ids uses.ids
    not_yet = same_reorders id uses.ids (is_listed (Some entered) None) (kept.sound.in_order id ∙ ap (λ e. is_listed e (block_with layout.blocks id)) free ∙ sym (and_none (is_discardable kind))) kept.sound.no_repeats
      where
        and_none : (b : Bool) → (b && false) ≡ false
        and_none true = refl
        and_none false = refl

    pub sound_entered : IsSound (table_of (set entries id (Some entered)) layout uses.ids)
    sound_entered = (put_parts some_parts id lt entered alone same_blocks not_yet (sound_arranged entries layout uses.ids kept.sound) (ap (option_map (λ (x : Block). x.at)) (sym absent_block))).sound

    pub enters : (memory : List ℕ) → layout.hi ≤ length memory → C.Enters (heap_of entries layout uses.ids memory) id kind (heap_of (set entries id (Some entered)) layout uses.ids memory)
    enters memory high = record {
      unused = object_here (beside memory high) id ∙ ap (option_map (object_in layout.blocks memory id)) free;
      entered = put_heap (beside memory high) id lt entered alone same_blocks not_yet (sound_arranged entries layout uses.ids kept.sound) (ap (option_map (λ (x : Block). x.at)) (sym absent_block));
    }

  -- An object's locks are set, and its block, if it has one, is held by them.
  module _ (id : ℕ) (entry : Entry) (asked : C.IsSomeAnd (get_or entries id None) (λ e. e.kind ≡ entry.kind)) (counted : IsCountedBy (block_with layout.blocks id) entry)
      (hold : Hold) (hold_is : hold ≡ hold_of_entry entry) (new : Layout)
      (none : C.IfNone (block_with layout.blocks id) (new ≡ layout)) (some : IfSome (block_with layout.blocks id) (λ b. new ≡ record layout { blocks = replaced (record b { hold = hold }) layout.blocks })) (ordered : IsOrdered new) where
    -- its entry before, of the same kind
    entry_before : (d : Entry) × (get_or entries id None ≡ Some d) × (d.kind ≡ entry.kind)
    entry_before = from (get_or entries id None) refl asked
      where
        from : (e : Option Entry) → get_or entries id None ≡ e → C.IsSomeAnd e (λ e. e.kind ≡ entry.kind) → (d : Entry) × (get_or entries id None ≡ Some d) × (d.kind ≡ entry.kind)
        from None e h = absurd h
        from (Some d) e h = (d, e, h)

    lt_entry : id < length entries
    lt_entry = in_list entries id entry_before.0 entry_before.1

    -- a block, held by the entry
    abbrev held : Block → Block
    held x = record x { hold = hold_of_entry entry }

    together : (b : Option Block) → IsCountedBy b entry → GoTogether (Some entry) (option_map held b)
    together b counted = record { holds = from b; counted = (counted.0, counted.1, λ none. counted.2 (unheld b none)) }
      where
        from : (b : Option Block) (y : Block) → option_map held b ≡ Some y → y.hold ≡ hold_of_entry entry
        from None y e = cc
        from (Some x) y e = let same : held x ≡ y = cc in ap (λ (z : Block). z.hold) (sym same)

        unheld : (b : Option Block) → option_map held b ≡ None → b ≡ None
        unheld None e = refl
        unheld (Some x) e = cc

    set_changes : ChangesOne id (option_map held (block_with layout.blocks id)) layout new
    set_changes = from (block_with layout.blocks id) refl none some
      where
        from : (b : Option Block) → block_with layout.blocks id ≡ b → C.IfNone b (new ≡ layout) → IfSome b (λ b. new ≡ record layout { blocks = replaced (record b { hold = hold }) layout.blocks }) → ChangesOne id (option_map held b) layout new
        from None e is _ = subst (ChangesOne id None layout) (sym is) (M.changes_none id None layout e)
        from (Some x) e _ is = subst (ChangesOne id (Some (held x)) layout) (sym (is ∙ ap (λ h. record layout { blocks = replaced (record x { hold = h }) layout.blocks }) hold_is))
            (record { cap = refl; lo = refl; hi = refl; grain = refl; blocks = λ q. with-replaced (held x) layout.blocks q ∙ ap (λ k. cond (k == q) (Some (held x)) (block_with layout.blocks q)) (C.member_with layout.blocks id x e).1 })

    same_place : (b : Option Block) → option_map (λ (x : Block). x.at) (option_map held b) ≡ option_map (λ (x : Block). x.at) b
    same_place None = refl
    same_place (Some x) = refl

    same_bytes : (memory : List ℕ) (b : Option Block) → option_map (λ (x : Block). C.slice_range memory x.at (x.at + x.size)) (option_map held b) ≡ option_map (λ (x : Block). C.slice_range memory x.at (x.at + x.size)) b
    same_bytes memory None = refl
    same_bytes memory (Some x) = refl

    same_listed : ReordersOne id (is_listed (Some entry) (option_map held (block_with layout.blocks id))) uses.ids uses.ids
    same_listed = same_reorders id uses.ids (is_listed (Some entry) (option_map held (block_with layout.blocks id)))
        (kept.sound.in_order id ∙ ap (λ e. is_listed e (block_with layout.blocks id)) entry_before.1 ∙ ap (λ k. is_discardable k && is_some (block_with layout.blocks id)) entry_before.2 ∙ ap (λ t. is_discardable entry.kind && t) (has_same (block_with layout.blocks id)))
        kept.sound.no_repeats
      where
        has_same : (b : Option Block) → is_some b ≡ is_some (option_map held b)
        has_same None = refl
        has_same (Some x) = refl

    pub sound_set : IsSound (table_of (set entries id (Some entry)) new uses.ids)
    sound_set = (put_parts some_parts id lt_entry entry (together (block_with layout.blocks id) counted) set_changes same_listed (ordered_arranged new ordered) (same_place (block_with layout.blocks id))).sound

    pub range_set : (new.lo ≡ layout.lo) × (new.hi ≡ layout.hi) × (new.grain ≡ layout.grain) × (new.cap ≡ layout.cap)
    range_set = (set_changes.lo, set_changes.hi, set_changes.grain, set_changes.cap)

    pub heap_set : (memory : List ℕ) → layout.hi ≤ length memory
        → IfSome (object_at (heap_of entries layout uses.ids memory) id) (λ o. heap_of (set entries id (Some entry)) new uses.ids memory ≡ with_object (heap_of entries layout uses.ids memory) id (record o { locks = entry.locks }))
    heap_set memory high =
        let d = entry_before in
        let parts = beside memory high in
        subst (λ p. IfSome p (λ (o : Object). heap_of (set entries id (Some entry)) new uses.ids memory ≡ with_object (heap_of entries layout uses.ids memory) id (record o { locks = entry.locks })))
        (sym (object_here parts id ∙ ap (option_map (object_in layout.blocks memory id)) d.1))
        (put_heap parts id lt_entry entry (together (block_with layout.blocks id) counted) set_changes same_listed (ordered_arranged new ordered) (same_place (block_with layout.blocks id))
        ∙ (λ i. with_object (heap_of entries layout uses.ids memory) id (record { kind = sym d.2 i; locks = entry.locks; bytes = same_bytes memory (block_with layout.blocks id) i })))

  -- An object that isn't locked gives up its bytes.
  module _ (id : ℕ) (e : Entry) (there : get_or entries id None ≡ Some e) (unlocked : e.locks ≡ 0) (new : Layout) (value : new ≡ record layout { blocks = layouts.all_but id layout.blocks }) (ordered : IsOrdered new) where
    lt_there : id < length entries
    lt_there = in_list entries id e there

    given_ordered : IsOrdered (record layout { blocks = layouts.all_but id layout.blocks })
    given_ordered = subst IsOrdered value ordered

    no_block_left : GoTogether (Some e) None
    no_block_left = record { holds = λ x h. cc; counted = (counted.0, counted.1, λ _. unlocked) }
      where
        counted : IsCountedBy (block_with layout.blocks id) e
        counted = subst (λ p. IfSome p (IsCountedBy (block_with layout.blocks id))) there (kept.sound.counted id)

    block_goes : ChangesOne id None layout (record layout { blocks = layouts.all_but id layout.blocks })
    block_goes = record { cap = refl; lo = refl; hi = refl; grain = refl; blocks = with-without id layout.blocks }

    leaves_order : ReordersOne id (is_listed (Some e) None) uses.ids (without id uses.ids)
    leaves_order = subst (λ t. ReordersOne id t uses.ids (without id uses.ids)) (sym (and_none (is_discardable e.kind))) (without_reorders id uses.ids kept.sound.no_repeats)
      where
        and_none : (b : Bool) → (b && false) ≡ false
        and_none true = refl
        and_none false = refl

    same_entries : set entries id (Some e) ≡ entries
    same_entries = set_itself entries id e there

    pub sound_given : IsSound (table_of entries new (without id uses.ids))
    sound_given = subst (λ l. IsSound (table_of entries l (without id uses.ids))) (sym value)
        (subst (λ es. IsSound (table_of es (record layout { blocks = layouts.all_but id layout.blocks }) (without id uses.ids))) same_entries
        (M.changed_parts some_parts (Some e) (replicate layout.hi 0) lt_there no_block_left block_goes leaves_order (ordered_arranged (record layout { blocks = layouts.all_but id layout.blocks }) given_ordered) refl).sound)

    abbrev before : List ℕ → Heap
    before memory = heap_of entries layout uses.ids memory

    abbrev after : List ℕ → Heap
    after memory = heap_of (set entries id (Some e)) (record layout { blocks = layouts.all_but id layout.blocks }) (without id uses.ids) memory

    abbrev bare : Object → Object
    bare o = record o { bytes = None }

    arranged : IsArranged (record layout { blocks = layouts.all_but id layout.blocks })
    arranged = ordered_arranged (record layout { blocks = layouts.all_but id layout.blocks }) given_ordered

    pub heap_given : (memory : List ℕ) → layout.hi ≤ length memory → heap_of entries new (without id uses.ids) memory ≡ absent (heap_of entries layout uses.ids memory) id
    heap_given memory high =
        let parts = beside memory high in
        ap (λ l. heap_of entries l (without id uses.ids) memory) value
        ∙ subst (λ es. heap_of es (record layout { blocks = layouts.all_but id layout.blocks }) (without id uses.ids) memory ≡ absent (before memory) id) same_entries
        (same_heap (after memory) (absent (before memory) id) refl refl refl refl
        (λ q. elim (cases_eq q id) [
          | inl i ↦ ap (object_at (after memory)) i ∙ M.object_at_id parts (Some e) memory lt_there no_block_left block_goes leaves_order arranged refl
              ∙ sym (ap (object_at (absent (before memory) id)) i ∙ C.get-update_same (before memory).objects id bare ∙ ap (option_map bare) (object_here parts id ∙ ap (option_map (object_in layout.blocks memory id)) there))
          | inr d ↦ M.object_at_other parts (Some e) memory lt_there no_block_left block_goes leaves_order arranged refl q (λ i. d (sym i)) refl
              ∙ sym (C.get-update_other (before memory).objects id bare q d)
        ])
        (λ q. elim (cases_eq q id) [
          | inl i ↦ ap (finmap.get (after memory).places) i ∙ M.place_at_id parts (Some e) memory lt_there no_block_left block_goes leaves_order arranged refl ∙ sym (taken_here (before memory).places id q i)
          | inr d ↦ M.place_at_other parts (Some e) memory lt_there no_block_left block_goes leaves_order arranged refl q (λ i. d (sym i)) ∙ sym (taken_other (before memory).places id q d)
        ]))
