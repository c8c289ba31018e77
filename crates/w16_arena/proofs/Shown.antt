-- The single steps of an arena, by its value.
use Rattle.w16_arena.proofs
use proofs.Common as C
use proofs.Steps as M
use proofs.Common.{◌≡◌, ℕ, ◌<◌, ◌≤◌, true, false, IfSome, IsSomeAnd, List, length, get_or, set, Option, Some, None, Ok, is_some, refl, sym, ap, ◌∙◌, subst, arith, inl, inr, false≢true, length-set, Entry, Hold, Kind, is_member, Heap, object_at, removed, absent, with_object, newest, without}
use proofs.Common.{Table, IsSound, IsCountedBy, block_with, entry_at, Layout, IsOrdered, holes_of, replaced, Lacks, Block, holes, Uses, ArenaState, Steps, table_of, heap_of, ArenaInvariant, End, at_end}
use proofs.Lookups.{in_list, no_block, past_end}
use proofs.Steps.{state_of, kept_with, steps_to}
use proofs.{Reordered.end_reorders, Told.end_ok, Changed.ReordersOne}
use Rattle.w16_blocks.specs.Layout as layouts

-- what isn't there is nothing
pub nothing : {X : Type 0} (p : Option X) → is_some p ≡ false → p ≡ None
nothing None h = refl
nothing (Some x) h = absurd (false≢true (sym h))

-- a member of a list at any id, from one that was changed at one id alone
same_members : (id : ℕ) (order uses : List ℕ) → is_member id order ≡ true → ReordersOne id true order uses → (q : ℕ) → is_member q uses ≡ is_member q order
same_members id order uses there r q = elim (C.cases_eq q id) [
  | inl e ↦ subst (λ k. is_member k uses ≡ is_member k order) (sym e) (r.here ∙ sym there)
  | inr d ↦ r.there q (λ e. d (sym e))
]

module _ {entries : List (Option Entry)} {layout : Layout} {uses : Uses} {gap_rooms : ℕ} {room : ℕ} (kept : ArenaInvariant entries layout uses gap_rooms room)
    {discarded : List ℕ} {old : ArenaState} (shown : state_of entries layout uses.ids discarded ≡ old) where
  -- what the value has, the table has
  pub known : (P : Table → Type 0) → P old.table → P (table_of entries layout uses.ids)
  known P h = subst (λ (o : ArenaState). P o.table) (sym shown) h

  pub told : (P : Table → Type 0) → P (table_of entries layout uses.ids) → P old.table
  told P h = subst (λ (o : ArenaState). P o.table) shown h

  -- the holes are those between the blocks, whatever the entries and the order are
  pub holes_shown : holes_of layout ≡ C.holes_in old.table
  holes_shown = told (λ t. holes_of layout ≡ C.holes_in t) refl

  -- an entry that is there, with what is known of it
  pub entry_such : (id : ℕ) (P : Entry → Type 0) → IsSomeAnd (entry_at old.table id) P → (e : Entry) × (get_or entries id None ≡ Some e) × (id < length entries) × P e
  entry_such id P some = from (get_or entries id None) refl (known (λ t. IsSomeAnd (entry_at t id) P) some)
    where
      from : (p : Option Entry) → get_or entries id None ≡ p → IsSomeAnd p P → (e : Entry) × (get_or entries id None ≡ Some e) × (id < length entries) × P e
      from None h t = absurd t
      from (Some e) h t = (e, h, in_list entries id e h, t)

  pub entry_known : (id : ℕ) → is_some (entry_at old.table id) ≡ true → (e : Entry) × (get_or entries id None ≡ Some e) × (id < length entries) × Unit {0}
  entry_known id some = entry_such id (λ _. Unit {0}) (from (entry_at old.table id) some)
    where
      from : (p : Option Entry) → is_some p ≡ true → IsSomeAnd p (λ _. Unit {0})
      from None t = absurd (false≢true t)
      from (Some e) t = tt

  -- An absent object is entered.
  module _ (id : ℕ) (kind : Kind) (below : id < length old.table.entries) (free : entry_at old.table id ≡ None) where
    abbrev entered : Entry
    entered = record { kind = kind; locks = 0 }

    lt : id < length entries
    lt = known (λ t. id < length t.entries) below

    none : get_or entries id None ≡ None
    none = known (λ t. entry_at t id ≡ None) free

    pub kept_entered : ArenaInvariant (set entries id (Some entered)) layout uses gap_rooms room
    kept_entered = kept_with kept (set entries id (Some entered)) layout uses (M.sound_entered kept id kind lt none) (length-set entries id (Some entered)) refl refl

    pub steps_entered : Steps old (state_of (set entries id (Some entered)) layout uses.ids discarded) (λ a b. C.Enters a id kind b)
    steps_entered = steps_to kept shown (set entries id (Some entered)) layout uses.ids (λ a b. C.Enters a id kind b) (M.sound_entered kept id kind lt none) refl refl refl (length-set entries id (Some entered)) (M.enters kept id kind lt none)

  -- An object is taken away.
  module _ (id : ℕ) (lt : id < length entries) {new : Layout} (value : new ≡ record layout { blocks = layouts.all_but id layout.blocks }) (ordered : IsOrdered new) {after : Uses} (order : after ≡ record uses { ids = without id uses.ids }) where
    same_range : (new.lo ≡ layout.lo) × (new.hi ≡ layout.hi) × (new.grain ≡ layout.grain) × (new.cap ≡ layout.cap)
    same_range = (ap (λ (l : Layout). l.lo) value, ap (λ (l : Layout). l.hi) value, ap (λ (l : Layout). l.grain) value, ap (λ (l : Layout). l.cap) value)

    ids_after : without id uses.ids ≡ after.ids
    ids_after = sym (ap (λ (u : Uses). u.ids) order)

    pub kept_without : ArenaInvariant (set entries id None) new after gap_rooms room
    kept_without = kept_with kept (set entries id None) new after (subst (λ ids. IsSound (table_of (set entries id None) new ids)) ids_after (M.sound_without kept id lt new value ordered)) (length-set entries id None) same_range.3 (ap (λ (u : Uses). u.cap) order)

    pub steps_without : Steps old (state_of (set entries id None) new after.ids discarded) (λ a b. b ≡ removed a id)
    steps_without = subst (λ ids. Steps old (state_of (set entries id None) new ids discarded) (λ a b. b ≡ removed a id)) ids_after
        (steps_to kept shown (set entries id None) new (without id uses.ids) (λ a b. b ≡ removed a id) (M.sound_without kept id lt new value ordered) same_range.0 same_range.1 same_range.2 (length-set entries id None) (M.heap_without kept id lt new value ordered))

    -- It gives up its bytes alone.
    module _ (e : Entry) (there : get_or entries id None ≡ Some e) (unlocked : e.locks ≡ 0) where
      pub kept_given : ArenaInvariant entries new after gap_rooms room
      kept_given = kept_with kept entries new after (subst (λ ids. IsSound (table_of entries new ids)) ids_after (M.sound_given kept id e there unlocked new value ordered)) refl same_range.3 (ap (λ (u : Uses). u.cap) order)

      pub steps_given : Steps old (state_of entries new after.ids discarded) (λ a b. b ≡ absent a id)
      steps_given = subst (λ ids. Steps old (state_of entries new ids discarded) (λ a b. b ≡ absent a id)) ids_after
          (steps_to kept shown entries new (without id uses.ids) (λ a b. b ≡ absent a id) (M.sound_given kept id e there unlocked new value ordered) same_range.0 same_range.1 same_range.2 refl (M.heap_given kept id e there unlocked new value ordered))

  pub steps_same : (id : ℕ) → get_or entries id None ≡ None → Steps old old (λ a b. b ≡ removed a id)
  steps_same id none = M.steps_none kept shown (λ a b. b ≡ removed a id) (M.heap_same kept id none)

  -- A member of the order of use goes to an end of it.
  module _ (id : ℕ) (listed : is_member id old.table.order ≡ true) (end : End) {after : Uses} (after_is : after ≡ record uses { ids = at_end end id uses.ids }) where
    there : is_member id uses.ids ≡ true
    there = known (λ t. is_member id t.order ≡ true) listed

    ids_are : after.ids ≡ at_end end id uses.ids
    ids_are = ap (λ (u : Uses). u.ids) after_is

    sound_ended : IsSound (table_of entries layout after.ids)
    sound_ended =
        let r : ReordersOne id true uses.ids (at_end end id uses.ids) = end_reorders end id uses.ids kept.sound.no_repeats in
        subst (λ ids. IsSound (table_of entries layout ids)) (sym ids_are) (M.reordered_sound entries layout uses.ids (at_end end id uses.ids) kept.sound (same_members id uses.ids (at_end end id uses.ids) there r) r.once)

    pub kept_ended : ArenaInvariant entries layout after gap_rooms room
    kept_ended = kept_with kept entries layout after sound_ended refl refl (ap (λ (u : Uses). u.cap) after_is)

    -- a step that says so
    steps_by : (step : Heap → Heap → Type 0)
        → ((memory : List ℕ) → layout.hi ≤ length memory → step (heap_of entries layout uses.ids memory) (record (heap_of entries layout uses.ids memory) { order = at_end end id uses.ids }))
        → Steps old (state_of entries layout after.ids discarded) step
    steps_by step heaps = steps_to kept shown entries layout after.ids step sound_ended refl refl refl refl
        (λ memory high. subst (λ ids. step (heap_of entries layout uses.ids memory) (heap_of entries layout ids memory)) (sym ids_are) (heaps memory high))

    pub steps_ended : ((memory : List ℕ) → old.table.hi ≤ length memory → C.refused_order (C.heap_in old.table memory) id ≡ None) → Steps old (state_of entries layout after.ids discarded) (λ a b. C.after_end end a id ≡ Ok b)
    steps_ended may = steps_by (λ a b. C.after_end end a id ≡ Ok b)
        (λ memory high. end_ok (heap_of entries layout uses.ids memory) id end (known (λ t. (memory : List ℕ) → t.hi ≤ length memory → C.refused_order (C.heap_in t memory) id ≡ None) may memory high))

    -- a member that was used
    pub steps_touched : end ≡ C.Newest → Steps old (state_of entries layout after.ids discarded) (λ a b. b ≡ C.after_touch a id)
    steps_touched newest = steps_by (λ a b. b ≡ C.after_touch a id)
        (λ memory high. λ i. record (heap_of entries layout uses.ids memory) { order = (ap (λ e. at_end e id uses.ids) newest ∙ sym (M.touched_is kept id there)) i })

  -- A lock count is set.
  module _ (id : ℕ) (entry : Entry) (asked : IsSomeAnd (entry_at old.table id) (λ e. e.kind ≡ entry.kind)) (counted : IsCountedBy (block_with old.table.blocks id) entry)
      {hold : Hold} (hold_is : hold ≡ C.hold_of_entry entry) {new : Layout}
      (none : C.IfNone (block_with layout.blocks id) (new ≡ layout)) (some : IfSome (block_with layout.blocks id) (λ b. new ≡ record layout { blocks = replaced (record b { hold = hold }) layout.blocks })) (ordered : IsOrdered new) where
    asked_here : IsSomeAnd (get_or entries id None) (λ e. e.kind ≡ entry.kind)
    asked_here = known (λ t. IsSomeAnd (entry_at t id) (λ e. e.kind ≡ entry.kind)) asked

    counted_here : IsCountedBy (block_with layout.blocks id) entry
    counted_here = known (λ t. IsCountedBy (block_with t.blocks id) entry) counted

    pub kept_set : ArenaInvariant (set entries id (Some entry)) new uses gap_rooms room
    kept_set = let r = M.range_set kept id entry asked_here counted_here hold hold_is new none some ordered in
        kept_with kept (set entries id (Some entry)) new uses (M.sound_set kept id entry asked_here counted_here hold hold_is new none some ordered) (length-set entries id (Some entry)) r.3 refl

    pub steps_set : Steps old (state_of (set entries id (Some entry)) new uses.ids discarded) (λ a b. IfSome (object_at a id) (λ o. b ≡ with_object a id (record o { locks = entry.locks })))
    steps_set = let r = M.range_set kept id entry asked_here counted_here hold hold_is new none some ordered in
        steps_to kept shown (set entries id (Some entry)) new uses.ids (λ a b. IfSome (object_at a id) (λ o. b ≡ with_object a id (record o { locks = entry.locks })))
        (M.sound_set kept id entry asked_here counted_here hold hold_is new none some ordered) r.0 r.1 r.2 (length-set entries id (Some entry)) (M.heap_set kept id entry asked_here counted_here hold hold_is new none some ordered)

-- past the ids no block is
pub block_past : {entries : List (Option Entry)} {layout : Layout} {uses : Uses} {gap_rooms : ℕ} {room : ℕ} → ArenaInvariant entries layout uses gap_rooms room → (id : ℕ) → length entries ≤ id → block_with layout.blocks id ≡ None
block_past {entries} {layout} {uses} kept id le = no_block (M.beside kept (C.replicate layout.hi 0) (let e = C.length-replicate {A = ℕ} layout.hi 0 in omega arith)) id (past_end entries id le)

-- a block that is held otherwise leaves the holes
pub holes_held : (l new : Layout) (id : ℕ) (hold : Hold) → IsOrdered l → IsOrdered new → (b : Option Block) → block_with l.blocks id ≡ b → is_some b ≡ true
    → IfSome b (λ x. new ≡ record l { blocks = replaced (record x { hold = hold }) l.blocks }) → holes_of new ≡ holes_of l
holes_held l new id hold before after None e there some = absurd (false≢true there)
holes_held l new id hold before after (Some x) e there some =
    let held : Block = record x { hold = hold } in
    let mine = C.member_with _ id x e in
    let known = ap (block_with _) mine.1 ∙ e in
    let laid = subst (λ m. C.IsLaid m.lo m.hi m.blocks) some after.laid in
    ap holes_of some ∙ C.same_holes l.hi l.lo l.lo _ _
    (C.AreHoles-holes l.lo l.lo l.hi _ (omega arith) laid) (C.AreHoles-holes l.lo l.lo l.hi _ (omega arith) before.laid)
    (λ p is.
    let lacks = C.free_lacks p l.lo l.hi (replaced held _) laid is in
    let each = C.All-first (Lacks p) held (C.all_but x.id _) lacks.2 in
    C.lacks_free p l.lo l.hi _ before.laid lacks.0 lacks.1 (C.All-back l.cap _ x.id x _ before.named known each.0 each.1))
    (λ p is.
    let lacks = C.free_lacks p l.lo l.hi _ before.laid is in
    C.lacks_free p l.lo l.hi (replaced held _) laid lacks.0 lacks.1
    (C.All-placed _ held _ (C.Each-at _ _ lacks.2 x mine.0) (C.All-all_but _ x.id _ lacks.2)))
