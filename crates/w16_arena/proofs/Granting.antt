-- What the call for a place leaves kept and answers.
use Rattle.w16_arena.proofs
use proofs.Common as C
use proofs.Common.{◌≡◌, ℕ, ◌+◌, ◌<◌, ◌≤◌, true, false, ◌&&◌, if◌then◌else◌, All, List, length, set, Some, None, refl, ap, ◌∙◌, subst, sym, arith, Entry, Hold, Kind, IsMultiple, is_discardable, IsNew, block_with, Layout, Fits, Uses, GName, Span}
use proofs.Steps.{state_of, beside, kept_with}
use proofs.Cleared.{Makes, makes, fresh}
use proofs.{Keeping.leaves_cleared, Keeping.used_placed, Parts.AreParts, Shown.known, Shown.told, Changed.ReordersOne, Joining.joins, Joining.joined, Allocated.AreLocks}
use Rattle.w16_arena.proofs.Standing as standing

module _ {entries : List (C.Option Entry)} {layout : Layout} {uses : Uses} {gap_rooms : ℕ} {room : ℕ} (kept : C.ArenaInvariant entries layout uses gap_rooms room)
    {discarded : List ℕ} {old : C.ArenaState} (shown : state_of entries layout uses.ids discarded ≡ old)
    (memory : List ℕ) (bytes : All (λ b. b < 256) memory) (inside : old.table.hi ≤ length memory)
    (id n : ℕ) (kind : Kind) (options : C.RoomOptions) (below : id < length old.table.entries) (none : block_with old.table.blocks id ≡ None) (some : 0 < n) (rounded : IsMultiple old.table.grain n)
    {mid : Layout} {mid_memory : List ℕ} (p : C.Placed) (moved : C.AreMoved p.slid.from p.slid.to layout memory mid mid_memory) (place : C.AreFreeBytes mid n p.at) where
  parts : AreParts entries layout uses.ids memory
  parts = beside kept memory (known kept shown (λ t. t.hi ≤ length memory) inside)

  lt : id < length entries
  lt = known kept shown (λ t. id < length t.entries) below

  absent : block_with layout.blocks id ≡ None
  absent = known kept shown (λ t. block_with t.blocks id ≡ None) none

  grains : IsMultiple layout.grain n
  grains = known kept shown (λ t. IsMultiple t.grain n) rounded

  abbrev entry : Entry
  entry = record { kind = kind; locks = 0 }

  locks : AreLocks entry
  locks = (omega arith, λ _. refl)

  module _ {hold : Hold} (hold_is : hold ≡ C.hold_of_entry entry) where
    pub may_insert : Fits mid (record { id = id; at = p.at; size = n; hold = hold })
    may_insert = standing.may_insert parts id n entry locks options lt absent some grains p moved place hold_is

    module _ {new : Layout} (value : new ≡ record mid { blocks = C.placed (record { id = id; at = p.at; size = n; hold = hold }) mid.blocks }) (ordered : C.IsOrdered new)
        {after : List ℕ} (filled : after ≡ (if options.zero then C.put_part mid_memory p.at (C.repeated n 0) else mid_memory))
        {uses' : Uses} (uses_is : uses' ≡ record uses { ids = if is_discardable kind then C.newest id uses.ids else uses.ids }) where
      in_memory : p.at + n ≤ length mid_memory
      in_memory = standing.in_memory parts id n entry locks options lt absent some grains p moved place

      made : Makes p.at n mid_memory after
      made = makes p.at n mid_memory after in_memory (moved.bytes bytes) options.zero filled

      ids_are : uses'.ids ≡ (if is_discardable kind then C.newest id uses.ids else uses.ids)
      ids_are = ap (λ (u : Uses). u.ids) uses_is

      reorders : ReordersOne id (is_discardable kind && true) uses.ids uses'.ids
      reorders = subst (ReordersOne id (is_discardable kind && true) uses.ids) (sym ids_are) (joins parts id kind absent)

      parts_after : AreParts (set entries id (Some entry)) new uses'.ids after
      parts_after = standing.parts_after parts id n entry locks options lt absent some grains p moved place hold_is value ordered made reorders

      same : (new.lo ≡ layout.lo) × (new.hi ≡ layout.hi) × (new.grain ≡ layout.grain) × (new.cap ≡ layout.cap)
      same = (
        ap (λ (l : Layout). l.lo) value ∙ ap (λ (l : Layout). l.lo) moved.same,
        ap (λ (l : Layout). l.hi) value ∙ ap (λ (l : Layout). l.hi) moved.same,
        ap (λ (l : Layout). l.grain) value ∙ ap (λ (l : Layout). l.grain) moved.same,
        ap (λ (l : Layout). l.cap) value ∙ ap (λ (l : Layout). l.cap) moved.same,
      )

      pub kept_placed : C.ArenaInvariant (set entries id (Some entry)) new uses' gap_rooms room
      kept_placed = kept_with kept (set entries id (Some entry)) new uses' parts_after.sound (C.length-set entries id (Some entry)) same.3 (ap (λ (u : Uses). u.cap) uses_is)

      pub stands_placed : (options.compact ≡ false → mid ≡ layout) → p.moved ≡ C.moved_between layout.blocks mid.blocks
          → C.Stands (C.heap_in old.table memory) id n (IsNew options.zero n kind 0) (C.with_newest id) options p (C.heap_of (set entries id (Some entry)) new uses'.ids after)
      stands_placed still counted = told kept shown (λ t. C.Stands (C.heap_in t memory) id n (IsNew options.zero n kind 0) (C.with_newest id) options p (C.heap_of (set entries id (Some entry)) new uses'.ids after))
          (standing.stands parts id n entry locks options lt absent some grains p moved place hold_is value ordered made reorders (λ off. ap (λ (l : Layout). l.blocks) (still off))
          (record { same_kind = refl; same_locks = refl; new_bytes = fresh p.at n mid_memory after in_memory (moved.bytes bytes) options.zero filled })
          (joined parts id kind absent 0 (C.slice_range after p.at (p.at + n)) ∙ sym ids_are) counted)

      pub rest_placed : {X : Type 0} {are_in : List Span → List ℕ → Type 0} {bytes : X → List ℕ} {lenders : X → List GName} {x y z : X} → ((hs : List Span) (old new : List ℕ) → are_in hs old → C.AreSameIn hs old new → are_in hs new)
          → C.Leaves are_in bytes lenders (C.holes_of new) (C.IsSameRest layout.lo layout.hi) x y → C.IsSameRest p.at (p.at + n) (bytes y) (bytes z) → lenders z ≡ lenders y → C.KeepsRest are_in bytes lenders old.table x (C.table_of (set entries id (Some entry)) new uses'.ids) z
      rest_placed {X} {are_in} {bytes} {lenders} {x} {y} {z} stay made cleared loans =
          told kept shown (λ t. C.KeepsRest are_in bytes lenders t x (C.table_of (set entries id (Some entry)) new uses'.ids) z) (record {
            range = record { lo = same.0; hi = same.1; grain = same.2; ids = C.length-set entries id (Some entry); sound = parts_after.sound };
            memory = leaves_cleared p.at (p.at + n) stay made cleared loans (let lo = ap (λ (l : Layout). l.lo) moved.same in let above = place.above in omega arith) (let hi = ap (λ (l : Layout). l.hi) moved.same in let end = place.below in omega arith) (used_placed mid new _ value ordered);
          })
