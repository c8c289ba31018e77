-- An object under another id: the entries, the blocks and the order of use with its id changed, and the heap that they stand for.
use Rattle.w16_arena.proofs
use proofs.Common as C
use proofs.Common.{◌≡◌, ◌≢◌, ℕ, ◌+◌, ◌<◌, ◌≤◌, ◌==◌, true, false, cond, IfSome, IsSomeAnd, List, [], ◌∷◌, length, get_or, set, Option, Some, None, option_map, is_some, refl, sym, ap, ◌∙◌, subst, arith, inl, inr, false≢true, get_or-set_other, length-set, Block, Entry, Heap, Object}
use proofs.Common.{IsCountedBy, block_with, entry_at, hold_of_entry, is_listed, Layout, Uses, Steps, heap_of}
use proofs.Parts.{AreParts}
use proofs.Lookups.{holds_at, no_block, object_here, ordered_arranged, place_here, same_heap, sound_of}
use proofs.Steps.{beside, kept_with, some_parts, state_of, steps_to}
use proofs.Shown.{entry_known, holes_shown, known}
use Rattle.std.proofs.lemmas.List.{get_or_read}
use Rattle.w16_model.specs.Resizes.{rehoused, rekeyed}
use Rattle.w16_model.proofs.Rehoused.{swap_to, swap_from, swap_other, which, rekeyed_at}
use Rattle.w16_lru.specs.Uses.{AreUses, renamed as ids_renamed}
use Rattle.w16_lru.proofs.Renamed.{turned, same_test, member_renamed}
use Rattle.w16_blocks.specs.Layout.{renamed, with_other_id}
use Rattle.w16_blocks.proofs.{Remove.none_with, Renamed.id_alone, Renamed.holes_renamed}

-- what doesn't look at an id is the same of a block with another id
alike : {X : Type 0} (f : Block → X) (id to : ℕ) → ((b : Block) → f (with_other_id id to b) ≡ f b) → (b : Option Block) → option_map f (option_map (with_other_id id to) b) ≡ option_map f b
alike f id to same None = refl
alike f id to same (Some b) = ap Some (same b)

module _ (id to : ℕ) (another : id ≢ to) where
  -- an id's block is the one that the other id had
  with-renamed : (bs : List Block) → C.AllByRecursion (λ c. c.id ≢ to) bs → (q : ℕ) → block_with (renamed id to bs) q ≡ option_map (with_other_id id to) (block_with bs (turned id to another q))
  with-renamed [] all q = refl
  with-renamed (b ∷ bs) all q =
      let named : ((with_other_id id to b).id == q) ≡ (b.id == turned id to another q) =
      ap (λ (c : Block). c.id == q) (id_alone id to b) ∙ ap (λ t. cond t id (cond (b.id == id) to b.id) == q) (sym (C.ne_eqb b.id to all.0)) ∙ same_test id to another b.id q in
      elim (C.eqb_tells b.id (turned id to another q)) [
        | inl same ↦ C.with_same q (with_other_id id to b) (renamed id to bs) (named ∙ same.0) ∙ ap (option_map (with_other_id id to)) (sym (C.with_same (turned id to another q) b bs same.0))
        | inr other ↦ C.with_other q (with_other_id id to b) (renamed id to bs) (named ∙ other.0) ∙ with-renamed bs all.1 q ∙ ap (option_map (with_other_id id to)) (sym (C.with_other (turned id to another q) b bs other.0))
      ]

  same_listed : (e : Option Entry) (b : Option Block) → is_listed e (option_map (with_other_id id to) b) ≡ is_listed e b
  same_listed None b = refl
  same_listed (Some e) None = refl
  same_listed (Some e) (Some x) = refl

  same_counted : (e : Option Entry) (b : Option Block) → IfSome e (IsCountedBy b) → IfSome e (IsCountedBy (option_map (with_other_id id to) b))
  same_counted None b h = tt
  same_counted (Some e) None h = h
  same_counted (Some e) (Some x) h = (h.0, h.1, λ none. cc)

  same_holds : (e : Option Entry) (b : Option Block) → ((x : Block) → b ≡ Some x → IsSomeAnd e (λ d. x.hold ≡ hold_of_entry d)) → (x : Block) → option_map (with_other_id id to) b ≡ Some x → IsSomeAnd e (λ d. x.hold ≡ hold_of_entry d)
  same_holds e None h x is = cc
  same_holds e (Some y) h x is =
      let same : with_other_id id to y ≡ x = cc in
      subst (λ (z : Block). IsSomeAnd e (λ d. z.hold ≡ hold_of_entry d)) same (subst (λ (z : Block). IsSomeAnd e (λ d. z.hold ≡ hold_of_entry d)) (sym (id_alone id to y)) (h y refl))

module _ {entries : List (Option Entry)} {layout : Layout} {uses : Uses} {gap_rooms : ℕ} {room : ℕ} (kept : C.ArenaInvariant entries layout uses gap_rooms room)
    {discarded : List ℕ} {old : C.ArenaState} (shown : state_of entries layout uses.ids discarded ≡ old)
    (id to : ℕ) (some : is_some (entry_at old.table id) ≡ true) (below : to < length old.table.entries) (free : entry_at old.table to ≡ None) where
  none : get_or entries to None ≡ None
  none = known kept shown (λ t. entry_at t to ≡ None) free

  pub to_in : to < length entries
  to_in = known kept shown (λ t. to < length t.entries) below

  pub id_in : id < length entries
  id_in = (entry_known kept shown id some).2

  another : id ≢ to
  another e = false≢true (sym (ap is_some (ap (λ q. get_or entries q None) e ∙ none)) ∙ ap is_some (entry_known kept shown id some).1)

  pub no_block_there : block_with layout.blocks to ≡ None
  no_block_there = no_block (some_parts kept) to none

  pub not_used : C.is_member to uses.ids ≡ false
  not_used = kept.sound.in_order to ∙ ap (λ e. is_listed e (block_with layout.blocks to)) none

  abbrev there : ℕ → ℕ
  there q = turned id to another q

  module _ (entry : Option Entry) (is_read : entry ≡ get_or entries id entry) {new : Layout} (value : new ≡ record layout { blocks = renamed id to layout.blocks }) (ordered : C.IsOrdered new)
      {after : Uses} (order : after ≡ record uses { ids = ids_renamed id to uses.ids }) (are : AreUses after) where
    read : entry ≡ get_or entries id None
    read = get_or_read entries id entry id_in is_read None

    abbrev moved : List (Option Entry)
    moved = set (set entries id None) to entry

    abbrev layout' : Layout
    layout' = record layout { blocks = renamed id to layout.blocks }

    abbrev ids' : List ℕ
    ids' = ids_renamed id to uses.ids

    many : length moved ≡ length entries
    many = length-set (set entries id None) to entry ∙ length-set entries id None

    entries_at : (q : ℕ) → get_or moved q None ≡ get_or entries (there q) None
    entries_at q = which id to another (λ q. get_or moved q None ≡ get_or entries (there q) None) q
        (λ e. ap (λ k. get_or moved k None) e ∙ C.get_or-set_same (set entries id None) to entry None (let long = length-set entries id None in let lt = to_in in omega arith) ∙ read
        ∙ ap (λ k. get_or entries k None) (sym (swap_to id to another q e)))
        (λ e. ap (λ k. get_or moved k None) e ∙ get_or-set_other (set entries id None) to id entry None another ∙ C.get_or-set_same entries id None None id_in ∙ sym none
        ∙ ap (λ k. get_or entries k None) (sym (swap_from id to another q e)))
        (λ d f. get_or-set_other (set entries id None) to q entry None d ∙ get_or-set_other entries id q None None f ∙ ap (λ k. get_or entries k None) (sym (swap_other id to another q d f)))

    blocks_at : (q : ℕ) → block_with layout'.blocks q ≡ option_map (with_other_id id to) (block_with layout.blocks (there q))
    blocks_at q = with-renamed id to another layout.blocks (none_with to layout.blocks no_block_there) q

    -- what holds of each entry and its block
    each_id : (P : Option Entry → Option Block → Type 0) → ((q : ℕ) → P (get_or entries q None) (option_map (with_other_id id to) (block_with layout.blocks q))) → (q : ℕ) → P (get_or moved q None) (block_with layout'.blocks q)
    each_id P all q = subst (P (get_or moved q None)) (sym (blocks_at q)) (subst (λ e. P e (option_map (with_other_id id to) (block_with layout.blocks (there q)))) (sym (entries_at q)) (all (there q)))

    sound : C.IsSound (C.table_of moved layout' ids')
    sound = sound_of moved layout' ids' (ordered_arranged layout' (subst C.IsOrdered value ordered))
        (each_id (λ e b. (x : Block) → b ≡ Some x → IsSomeAnd e (λ d. x.hold ≡ hold_of_entry d)) (λ q. same_holds id to another (get_or entries q None) (block_with layout.blocks q) (holds_at entries layout uses.ids kept.sound q)))
        (record {
          members = λ q. member_renamed id to another uses.ids not_used q ∙ kept.sound.in_order (there q)
              ∙ sym ((λ i. is_listed (entries_at q i) (blocks_at q i)) ∙ same_listed id to another (get_or entries (there q) None) (block_with layout.blocks (there q)));
          once = (subst AreUses order are).apart;
        })
        (each_id (λ e b. IfSome e (IsCountedBy b)) (λ q. same_counted id to another (get_or entries q None) (block_with layout.blocks q) (kept.sound.counted q)))

    -- the heap in a memory
    module _ (memory : List ℕ) (high : layout.hi ≤ length memory) where
      abbrev heap : Heap
      heap = heap_of entries layout uses.ids memory

      abbrev bytes : Block → List ℕ
      bytes x = C.slice_range memory x.at (x.at + x.size)

      parts : AreParts entries layout uses.ids memory
      parts = beside kept memory high

      parts' : AreParts moved layout' ids' memory
      parts' = record { sound = sound; ids = kept.ids ∙ sym many; high = high }

      renamed_heap : heap_of moved layout' ids' memory ≡ rehoused heap id to
      renamed_heap =
          same_heap (heap_of moved layout' ids' memory) (record heap { objects = rekeyed heap.objects id to; places = rekeyed heap.places id to; order = ids' }) refl refl refl refl
          (λ q. object_here parts' q
          ∙ (λ i. option_map (λ (e : Entry). let o : Object = record { kind = e.kind; locks = e.locks; bytes = option_map bytes (blocks_at q i) } in o) (entries_at q i))
          ∙ ap (λ bs. option_map (λ (e : Entry). let o : Object = record { kind = e.kind; locks = e.locks; bytes = bs } in o) (get_or entries (there q) None)) (alike bytes id to (λ b. ap bytes (id_alone id to b)) (block_with layout.blocks (there q)))
          ∙ sym (rekeyed_at id to another heap.objects (object_here parts to ∙ ap (option_map (C.object_in layout.blocks memory to)) none) q ∙ object_here parts (there q)))
          (λ q. place_here parts' q ∙ ap (option_map (λ (x : Block). x.at)) (blocks_at q) ∙ alike {X = ℕ} (λ x. x.at) id to (λ b. ap (λ (x : Block). x.at) (id_alone id to b)) (block_with layout.blocks (there q))
          ∙ sym (rekeyed_at id to another heap.places (place_here parts to ∙ ap (option_map (λ (x : Block). x.at)) no_block_there) q ∙ place_here parts (there q)))
          ∙ ap (λ t. cond t heap (record heap { objects = rekeyed heap.objects id to; places = rekeyed heap.places id to; order = ids' })) (sym (C.ne_eqb id to another))

    pub kept_renamed : C.ArenaInvariant moved new after gap_rooms room
    kept_renamed = rw (value, order) (kept_with kept moved layout' (record uses { ids = ids' }) sound many refl refl)

    pub steps_renamed : Steps old (state_of moved new after.ids discarded) (λ a b. b ≡ rehoused a id to)
    steps_renamed = rw (value, order) (steps_to kept shown moved layout' ids' (λ a b. b ≡ rehoused a id to) sound refl refl refl many renamed_heap)

    pub holes_same : C.holes_of new ≡ C.holes_in old.table
    holes_same = ap C.holes_of value ∙ holes_renamed id to layout.lo layout.hi layout.blocks ∙ holes_shown kept shown
