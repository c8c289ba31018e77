-- The parts and their heap where one id's entry and block have changed.
use Rattle.w16_arena.proofs
use proofs.Common as C
use proofs.Common.{◌≡◌, ◌≢◌, ℕ, ◌+◌, ◌<◌, ◌==◌, Bool, true, false, cond, List, length, get_or, set, slice_range, Option, Some, None, option_map, refl, sym, ap, ◌∙◌, subst, arith, inl, inr, eqb_tells, Block, Entry, Object, object_at, block_with, is_listed, is_member, Layout, heap_of}
use proofs.Parts.{AreParts}
use proofs.Lookups.{IsArranged, IsOrder, object_here, place_here, sound_of, holds_at}
use Rattle.std.proofs.lemmas.Bool.{ne_eqb, eq-eqb}
use Rattle.std.specs.FinMap as finmap

-- what is in a list once a place was set
pub get_or-set : (entries : List (Option Entry)) (id : ℕ) (v : Option Entry) (q : ℕ) → id < length entries → get_or (set entries id v) q None ≡ cond (id == q) v (get_or entries q None)
get_or-set entries id v q lt = elim (eqb_tells id q) [
  | inl same ↦ rw same.0 (let e = same.1 in rw (← e) (C.get_or-set_same entries id v None lt))
  | inr other ↦ rw other.0 (C.get_or-set_other entries id q v None (λ e. other.1 (sym e)))
]

-- an entry and a block that go together, or an entry alone
pub record GoTogether (entry : Option Entry) (block : Option Block) : Type 0 where
  pub holds : (x : Block) → block ≡ Some x → C.IsSomeAnd entry (λ e. x.hold ≡ C.hold_of_entry e)
  pub counted : C.IfSome entry (C.IsCountedBy block)

-- the layout has this block for one id, and otherwise the same
pub record ChangesOne (id : ℕ) (block : Option Block) (old new : Layout) : Type 0 where
  pub cap : new.cap ≡ old.cap
  pub lo : new.lo ≡ old.lo
  pub hi : new.hi ≡ old.hi
  pub grain : new.grain ≡ old.grain
  pub blocks : (q : ℕ) → block_with new.blocks q ≡ cond (id == q) block (block_with old.blocks q)

-- the same layout has its own
pub changes_none : (id : ℕ) (block : Option Block) (layout : Layout) → block_with layout.blocks id ≡ block → ChangesOne id block layout layout
changes_none id block layout is = record {
  cap = refl;
  lo = refl;
  hi = refl;
  grain = refl;
  blocks = λ q. elim (eqb_tells id q) [
    | inl same ↦ rw same.0 (ap (block_with _) (sym same.1) ∙ is)
    | inr other ↦ rw other.0 refl
  ];
}

-- the order of use has the one id where it is to, and the others where it had them
pub record ReordersOne (id : ℕ) (listed : Bool) (old new : List ℕ) : Type 0 where
  pub here : is_member id new ≡ listed
  pub there : (q : ℕ) → id ≢ q → is_member q new ≡ is_member q old
  pub once : C.AllPairs (λ a b. a ≡ b → ⊥) new

module _ {entries : List (Option Entry)} {layout : Layout} {order memory : List ℕ} (parts : AreParts entries layout order memory)
    {id : ℕ} (entry : Option Entry) {block : Option Block} {new : Layout} {uses : List ℕ} (after : List ℕ)
    (lt : id < length entries) (together : GoTogether entry block) (changes : ChangesOne id block layout new) (reorders : ReordersOne id (is_listed entry block) order uses) (arranged : IsArranged new)
    (long : length after ≡ length memory) where
  -- each id, the changed one and another
  each_id : (P : Option Entry → Option Block → Type 0) → P entry block → ((q : ℕ) → P (get_or entries q None) (block_with layout.blocks q)) → (q : ℕ) → P (get_or (set entries id entry) q None) (block_with new.blocks q)
  each_id P here there q = subst (λ e. P e (block_with new.blocks q)) (sym (get_or-set entries id entry q lt)) (subst (λ b. P (cond (id == q) entry (get_or entries q None)) b) (sym (changes.blocks q)) (turn (id == q)))
    where
      turn : (t : Bool) → P (cond t entry (get_or entries q None)) (cond t block (block_with layout.blocks q))
      turn true = here
      turn false = there q

  -- so the order is that of the changed entries and blocks
  listed : IsOrder (set entries id entry) new uses
  listed = record {
    members = λ q. elim (eqb_tells id q) [
      | inl same ↦ subst (λ k. is_member k uses ≡ is_listed (get_or (set entries id entry) k None) (block_with new.blocks k)) same.1
          (reorders.here ∙ sym ((λ i. is_listed (get_or-set entries id entry id lt i) (changes.blocks id i)) ∙ ap (λ t. is_listed (cond t entry (get_or entries id None)) (cond t block (block_with layout.blocks id))) (eq-eqb id id refl)))
      | inr other ↦ reorders.there q other.1 ∙ parts.sound.in_order q
          ∙ sym ((λ i. is_listed (get_or-set entries id entry q lt i) (changes.blocks q i)) ∙ ap (λ t. is_listed (cond t entry (get_or entries q None)) (cond t block (block_with layout.blocks q))) other.0)
    ];
    once = reorders.once;
  }

  pub changed_parts : AreParts (set entries id entry) new uses after
  changed_parts = record {
    sound = sound_of (set entries id entry) new uses arranged
        (each_id (λ e b. (x : Block) → b ≡ Some x → C.IsSomeAnd e (λ d. x.hold ≡ C.hold_of_entry d)) together.holds (holds_at entries layout order parts.sound))
        listed
        (each_id (λ e b. C.IfSome e (C.IsCountedBy b)) together.counted parts.sound.counted);
    ids = changes.cap ∙ parts.ids ∙ sym (C.length-set entries id entry);
    high = let hi = changes.hi in let high = parts.high in omega arith;
  }

  -- the heap at the changed id
  pub object_at_id : object_at (heap_of (set entries id entry) new uses after) id ≡ option_map (λ (e : Entry). let o : Object = record { kind = e.kind; locks = e.locks; bytes = option_map (λ (x : Block). slice_range after x.at (x.at + x.size)) block } in o) entry
  object_at_id = object_here changed_parts id
      ∙ (λ i. option_map (λ (e : Entry). let o : Object = record { kind = e.kind; locks = e.locks; bytes = option_map (λ (x : Block). slice_range after x.at (x.at + x.size)) (block_is i) } in o) (entry_is i))
    where
      itself : (id == id) ≡ true
      itself = eq-eqb id id refl

      entry_is : get_or (set entries id entry) id None ≡ entry
      entry_is = get_or-set entries id entry id lt ∙ ap (λ t. cond t entry (get_or entries id None)) itself

      block_is : block_with new.blocks id ≡ block
      block_is = changes.blocks id ∙ ap (λ t. cond t block (block_with layout.blocks id)) itself

  -- and at another, where its bytes are the same
  pub object_at_other : (q : ℕ) → id ≢ q → option_map (λ (x : Block). slice_range after x.at (x.at + x.size)) (block_with layout.blocks q) ≡ option_map (λ (x : Block). slice_range memory x.at (x.at + x.size)) (block_with layout.blocks q)
      → object_at (heap_of (set entries id entry) new uses after) q ≡ object_at (heap_of entries layout order memory) q
  object_at_other q d same =
      object_here changed_parts q
      ∙ (λ i. option_map (λ (e : Entry). let o : Object = record { kind = e.kind; locks = e.locks; bytes = option_map (λ (x : Block). slice_range after x.at (x.at + x.size)) (block_is i) } in o) (entry_is i))
      ∙ (λ i. option_map (λ (e : Entry). let o : Object = record { kind = e.kind; locks = e.locks; bytes = same i } in o) (get_or entries q None))
      ∙ sym (object_here parts q)
    where
      entry_is : get_or (set entries id entry) q None ≡ get_or entries q None
      entry_is = get_or-set entries id entry q lt ∙ ap (λ t. cond t entry (get_or entries q None)) (ne_eqb id q d)

      block_is : block_with new.blocks q ≡ block_with layout.blocks q
      block_is = changes.blocks q ∙ ap (λ t. cond t block (block_with layout.blocks q)) (ne_eqb id q d)

  pub place_at_id : finmap.get (heap_of (set entries id entry) new uses after).places id ≡ option_map (λ (x : Block). x.at) block
  place_at_id = place_here changed_parts id ∙ ap (option_map (λ (x : Block). x.at)) (changes.blocks id ∙ ap (λ t. cond t block (block_with layout.blocks id)) (eq-eqb id id refl))

  pub place_at_other : (q : ℕ) → id ≢ q → finmap.get (heap_of (set entries id entry) new uses after).places q ≡ finmap.get (heap_of entries layout order memory).places q
  place_at_other q d = place_here changed_parts q ∙ ap (option_map (λ (x : Block). x.at)) (changes.blocks q ∙ ap (λ t. cond t block (block_with layout.blocks q)) (ne_eqb id q d)) ∙ sym (place_here parts q)
