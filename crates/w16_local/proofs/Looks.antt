-- What a local heap's table tells of its heap: names, near pointers, sizes.
use Rattle.w16_local.proofs
use proofs.Common as C
use proofs.Common.{◌≡◌, ◌≢◌, ℕ, ◌+◌, ◌*◌, ◌/◌, ◌%◌, ◌<◌, ◌≤◌, ◌⊎◌, inl, inr, ◌==◌, nat_lt, is_ok, Result, Ok, Err, Bool, true, false, not, cond, if◌then◌else◌, is_some, List, Option, Some, None, option_map, unwrap_or, refl, sym, ap, ◌∙◌, subst, arith, Block, Entry, Refusal, absent}
use proofs.Common.{removed, Heap, Object, object_at, is_fixed, is_discardable, Table, block_with, entry_at, heap_in, object_in, object_here, place_here, IsLocalTable, id_at, id_named, name_at, LMEM_DISCARDED, local_flags_of, names_law}
use Rattle.std.specs.FinMap as finmap
use Rattle.w16_model.specs.declared.Refusal.TheVariants as refusals

-- a block lies in the table's range
pub block_inside : (t : Table) → IsLocalTable t → (id : ℕ) (x : Block) → block_with t.blocks id ≡ Some x → (t.lo ≤ x.at) × (0 < x.size) × (C.block_end x ≤ t.hi)
block_inside t is id x e = C.Each-at (λ y. (t.lo ≤ y.at) × (0 < y.size) × (C.block_end y ≤ t.hi)) t.blocks (C.laid_each t.lo t.hi t.blocks is.sound.table.laid) x (C.member_with t.blocks id x e).0

-- and its places are words
pub block_small : (t : Table) → IsLocalTable t → (id : ℕ) (x : Block) → block_with t.blocks id ≡ Some x → (x.at < 65536) × (x.size < 65536)
block_small t is id x e =
    let i = block_inside t is id x e in
    let some = i.1 in
    let end = i.2 in
    let low = is.low in
    let high = is.high in
    let from = i.0 in
    (omega (arith, some, end, high), omega (arith, end, high, low, from))

-- at multiples of 4
block_by_four : (t : Table) → IsLocalTable t → (id : ℕ) (x : Block) → block_with t.blocks id ≡ Some x → (m : ℕ) × (x.at ≡ 4 * m)
block_by_four t is id x e =
    let g = (C.Each-at (λ y. C.IsMultiple t.grain y.at × C.IsMultiple t.grain y.size) t.blocks (C.Each-from_All _ t.blocks is.sound.grained) x (C.member_with t.blocks id x e).0).0 in
    (g.0, g.1 ∙ ap (λ k. k * g.0) is.grain)

pub none_some : {x : ℕ} → ◌≡◌ {A = Option ℕ} None (Some x) → ⊥
none_some e = cc

pub some_other : {x y : ℕ} → x ≢ y → ◌≡◌ {A = Option ℕ} (Some x) (Some y) → ⊥
some_other {x} {y} other e = let same : x ≡ y = cc in other same

module _ {t : Table} {bytes : List ℕ} (over : C.IsOver t bytes) where
  parts : C.AreParts t.entries (record { cap = C.length t.entries; lo = t.lo; hi = t.hi; grain = t.grain; blocks = t.blocks }) t.order bytes
  parts = record { sound = over.is_local.sound; ids = refl; high = over.inside }

  pub heap_is : C.IsHeap (heap_in t bytes)
  heap_is = C.is_heap parts over.are_bytes

  -- a place is a block's
  placed : (pointer id : ℕ) → finmap.get (heap_in t bytes).places id ≡ Some pointer → (x : Block) × (block_with t.blocks id ≡ Some x) × (x.at ≡ pointer)
  placed pointer id e = turn (block_with t.blocks id) refl (sym (place_here parts id) ∙ e)
    where
      turn : (b : Option Block) → block_with t.blocks id ≡ b → option_map (λ (x : Block). x.at) b ≡ Some pointer → (x : Block) × (block_with t.blocks id ≡ Some x) × (x.at ≡ pointer)
      turn None is e = cc
      turn (Some x) is e = let at : x.at ≡ pointer = cc in (x, is, at)

  -- Near pointers.
  module _ (pointer : ℕ) where
    pub at_place : (id : ℕ) → finmap.get (heap_in t bytes).places id ≡ Some pointer → id_at (heap_in t bytes) pointer ≡ Some id
    at_place id e = (names_law (heap_in t bytes) pointer id heap_is over.is_local.grain).1.1 e

    pub at_block : (b : Block) → block_with t.blocks b.id ≡ Some b → b.at ≡ pointer → id_at (heap_in t bytes) pointer ≡ Some b.id
    at_block b is at = at_place b.id (place_here parts b.id ∙ ap (option_map (λ (x : Block). x.at)) is ∙ ap Some at)

    pub at_none : ((q : ℕ) → C.IfSome (block_with t.blocks q) (λ c. c.at ≢ pointer)) → id_at (heap_in t bytes) pointer ≡ None
    at_none never = turn (id_at (heap_in t bytes) pointer) refl
      where
        turn : (p : Option ℕ) → id_at (heap_in t bytes) pointer ≡ p → p ≡ None
        turn None e = refl
        turn (Some id) e =
            let x : (x : Block) × (block_with t.blocks id ≡ Some x) × (x.at ≡ pointer) = placed pointer id ((names_law (heap_in t bytes) pointer id heap_is over.is_local.grain).1.0 e) in
            absurd (subst (λ b. C.IfSome b (λ (c : Block). c.at ≢ pointer)) x.1 (never id) x.2)

  -- Names.
  module _ (id : ℕ) where
    abbrev name_in : Option Object → Option ℕ
    name_in p = elim p [ None ↦ None | Some o ↦ C.name_of (heap_in t bytes) id o ]

    pub name_none : entry_at t id ≡ None → name_at (heap_in t bytes) id ≡ None
    name_none none = ap name_in (object_here parts id ∙ ap (option_map (object_in t.blocks bytes id)) none)

    name_entry : (e : Entry) → entry_at t id ≡ Some e → name_at (heap_in t bytes) id ≡ (if is_fixed e.kind then finmap.get (heap_in t bytes).places id else Some (4 * id + 2))
    name_entry e is = ap name_in (object_here parts id ∙ ap (option_map (object_in t.blocks bytes id)) is)

    pub name_fixed : (e : Entry) → entry_at t id ≡ Some e → is_fixed e.kind ≡ true → (b : Option Block) → block_with t.blocks id ≡ b → name_at (heap_in t bytes) id ≡ option_map (λ (x : Block). x.at) b
    name_fixed e is fixed b there = name_entry e is ∙ ap (λ f. if f then finmap.get (heap_in t bytes).places id else Some (4 * id + 2)) fixed ∙ place_here parts id ∙ ap (option_map (λ (x : Block). x.at)) there

    pub name_loose : (e : Entry) → entry_at t id ≡ Some e → is_fixed e.kind ≡ false → name_at (heap_in t bytes) id ≡ Some (4 * id + 2)
    name_loose e is loose = name_entry e is ∙ ap (λ f. if f then finmap.get (heap_in t bytes).places id else Some (4 * id + 2)) loose

    -- a name is a near pointer or an entry's
    named_by : (name : ℕ) → name_at (heap_in t bytes) id ≡ Some name → (finmap.get (heap_in t bytes).places id ≡ Some name) ⊎ (4 * id + 2 ≡ name)
    named_by name e = turn (object_at (heap_in t bytes) id) e
      where
        by_kind : (f : Bool) → (if f then finmap.get (heap_in t bytes).places id else Some (4 * id + 2)) ≡ Some name → (finmap.get (heap_in t bytes).places id ≡ Some name) ⊎ (4 * id + 2 ≡ name)
        by_kind true e = inl e
        by_kind false e = let same : 4 * id + 2 ≡ name = cc in inr same

        turn : (p : Option Object) → name_in p ≡ Some name → (finmap.get (heap_in t bytes).places id ≡ Some name) ⊎ (4 * id + 2 ≡ name)
        turn None e = cc
        turn (Some o) e = by_kind (is_fixed o.kind) e

    pub entry_candidate : (name : ℕ) → name % 4 ≡ 2 → name_at (heap_in t bytes) id ≡ Some name → name / 4 ≡ id
    entry_candidate name two e = elim (named_by name e) [
      | inl p ↦ let x = placed name id p in let m = block_by_four t over.is_local id x.0 x.1 in absurd (odd m.0 (sym x.2 ∙ m.1))
      | inr n ↦ omega (arith, n)
    ]
      where
        odd : (m : ℕ) → name ≡ 4 * m → ⊥
        odd m n = omega (arith, two, n)

    pub place_candidate : (name : ℕ) → name % 4 ≢ 2 → name_at (heap_in t bytes) id ≡ Some name → id_at (heap_in t bytes) name ≡ Some id
    place_candidate name other e = elim (named_by name e) [
      | inl p ↦ at_place name id p
      | inr n ↦ absurd (other (omega (arith, n)))
    ]

  -- the object that has a name
  pub named_here : (name id : ℕ) → name_at (heap_in t bytes) id ≡ Some name → id_named (heap_in t bytes) name ≡ Some id
  named_here name id e = (names_law (heap_in t bytes) name id heap_is over.is_local.grain).0.1 e

  pub named_none : (name : ℕ) → ((id : ℕ) → name_at (heap_in t bytes) id ≡ Some name → ⊥) → id_named (heap_in t bytes) name ≡ None
  named_none name never = turn (id_named (heap_in t bytes) name) refl
    where
      turn : (p : Option ℕ) → id_named (heap_in t bytes) name ≡ p → p ≡ None
      turn None e = refl
      turn (Some id) e = absurd (never id ((names_law (heap_in t bytes) name id heap_is over.is_local.grain).0.0 e))

  -- none has it where the one that may doesn't
  pub not_named : (name id : ℕ) → ((q : ℕ) → name_at (heap_in t bytes) q ≡ Some name → ◌≡◌ {A = Option ℕ} (Some id) (Some q)) → (r : Option ℕ) → name_at (heap_in t bytes) id ≡ r → (r ≡ Some name → ⊥) → id_named (heap_in t bytes) name ≡ None
  not_named name id may r is other = named_none name (λ q e. let same : id ≡ q = (let both = may q e in cc) in other (sym is ∙ ap (name_at (heap_in t bytes)) same ∙ e))

  -- Sizes and flags.
  pub size_in : (id : ℕ) (b : Option Block) → block_with t.blocks id ≡ b → unwrap_or (option_map (C.length {A = ℕ}) (C.bytes_at (heap_in t bytes) id)) 0 ≡ unwrap_or (option_map (λ (x : Block). x.size) b) 0
  size_in id b is = ap (λ (n : Option ℕ). unwrap_or n 0) (C.size_here parts id ∙ ap (option_map (λ (x : Block). x.size)) is)

  pub object_in_entry : (id : ℕ) (e : Option Entry) → entry_at t id ≡ e → object_at (heap_in t bytes) id ≡ option_map (object_in t.blocks bytes id) e
  object_in_entry id e is = object_here parts id ∙ ap (option_map (object_in t.blocks bytes id)) is

  pub place_in : (id : ℕ) (b : Option Block) → block_with t.blocks id ≡ b → unwrap_or (finmap.get (heap_in t bytes).places id) 0 ≡ unwrap_or (option_map (λ (x : Block). x.at) b) 0
  place_in id b is = ap (λ (n : Option ℕ). unwrap_or n 0) (place_here parts id ∙ ap (option_map (λ (x : Block). x.at)) is)

  pub locks_in : (id : ℕ) (e : Option Entry) → entry_at t id ≡ e → C.locks_at (heap_in t bytes) id ≡ unwrap_or (option_map (λ (o : Object). o.locks) (option_map (object_in t.blocks bytes id) e)) 0
  locks_in id e is = ap (λ (p : Option Object). unwrap_or (option_map (λ (o : Object). o.locks) p) 0) (object_in_entry id e is)

  pub flags_in : (id : ℕ) (e : Option Entry) → entry_at t id ≡ e → unwrap_or (option_map local_flags_of (object_at (heap_in t bytes) id)) 0 ≡ unwrap_or (option_map local_flags_of (option_map (object_in t.blocks bytes id) e)) 0
  flags_in id e is = ap (λ (p : Option Object). unwrap_or (option_map local_flags_of p) 0) (object_in_entry id e is)

  absent_bit : (b : Option Block) → (if is_some (option_map (λ (x : Block). C.slice_range bytes x.at (x.at + x.size)) b) then 0 else LMEM_DISCARDED) ≡ (if not (is_some b) then LMEM_DISCARDED else 0)
  absent_bit None = refl
  absent_bit (Some x) = refl

  pub flags_told : (id : ℕ) (e : Entry) → entry_at t id ≡ Some e → (d a : ℕ) → d ≡ (if is_discardable e.kind then C.LMEM_DISCARDABLE else 0) → a ≡ (if not (is_some (block_with t.blocks id)) then LMEM_DISCARDED else 0)
      → unwrap_or (option_map local_flags_of (object_at (heap_in t bytes) id)) 0 ≡ e.locks + d + a
  flags_told id e is d a d_is a_is = flags_in id (Some e) is ∙ (λ i. e.locks + sym d_is i + (absent_bit (block_with t.blocks id) ∙ sym a_is) i)

  -- What may be freed or discarded.
  pub free_told : (id : ℕ) (e : Option Entry) → entry_at t id ≡ e → is_ok (C.after_free (heap_in t bytes) id) ≡ (elim e [ None ↦ true | Some e ↦ e.locks == 0 ])
  free_told id e is = ap (λ (p : Option Object). is_ok (elim p as (λ _. Result Heap Refusal) [ None ↦ Ok (heap_in t bytes) | Some o ↦ cond (nat_lt 0 o.locks) (Err refusals.Locked) (Ok (removed (heap_in t bytes) id)) ])) (object_in_entry id e is) ∙ by_entry e
    where
      by_locks : (n : ℕ) → is_ok (cond {A = Result Heap Refusal} (nat_lt 0 n) (Err refusals.Locked) (Ok (removed (heap_in t bytes) id))) ≡ (n == 0)
      by_locks n = elim (C.cases_lt 0 n) [
        | inl some ↦ ap (λ b. is_ok (cond {A = Result Heap Refusal} b (Err refusals.Locked) (Ok (removed (heap_in t bytes) id)))) (C.lt-ltb 0 n some) ∙ sym (C.ne_eqb n 0 (λ e. absurd (omega (arith, e, some))))
        | inr none ↦ ap (λ b. is_ok (cond {A = Result Heap Refusal} b (Err refusals.Locked) (Ok (removed (heap_in t bytes) id)))) (C.le-ltb 0 n none) ∙ sym (C.eq-eqb n 0 (omega (arith, none)))
      ]

      by_entry : (e : Option Entry) → is_ok (elim (option_map (object_in t.blocks bytes id) e) as (λ _. Result Heap Refusal) [ None ↦ Ok (heap_in t bytes) | Some o ↦ cond (nat_lt 0 o.locks) (Err refusals.Locked) (Ok (removed (heap_in t bytes) id)) ])
          ≡ (elim e [ None ↦ true | Some e ↦ e.locks == 0 ])
      by_entry None = refl
      by_entry (Some e) = by_locks e.locks

  pub discard_told : (id : ℕ) (e : Option Entry) → entry_at t id ≡ e → is_ok (C.after_discard (heap_in t bytes) id) ≡ (elim e [ None ↦ false | Some e ↦ cond (nat_lt 0 e.locks) false (is_discardable e.kind) ])
  discard_told id e is =
      ap (λ (p : Option Object). is_ok (elim p as (λ _. Result Heap Refusal) [ None ↦ Err refusals.NotDiscardable | Some o ↦ cond (nat_lt 0 o.locks) (Err refusals.Locked) (cond (is_discardable o.kind) (Ok (absent (heap_in t bytes) id)) (Err refusals.NotDiscardable)) ])) (object_in_entry id e is)
      ∙ by_entry e
    where
      by_kind : (b d : Bool) → is_ok (cond {A = Result Heap Refusal} b (Err refusals.Locked) (cond d (Ok (absent (heap_in t bytes) id)) (Err refusals.NotDiscardable))) ≡ cond b false d
      by_kind true d = refl
      by_kind false true = refl
      by_kind false false = refl

      by_entry : (e : Option Entry) → is_ok (elim (option_map (object_in t.blocks bytes id) e) as
          (λ _. Result Heap Refusal) [
            | None ↦ Err refusals.NotDiscardable
            | Some o ↦ cond (nat_lt 0 o.locks)
                (Err refusals.Locked) (cond (is_discardable o.kind) (Ok (absent (heap_in t bytes) id))
                (Err refusals.NotDiscardable))
          ])
          ≡ (elim e [ None ↦ false | Some e ↦ cond (nat_lt 0 e.locks) false (is_discardable e.kind) ])
      by_entry None = refl
      by_entry (Some e) = by_kind (nat_lt 0 e.locks) (is_discardable e.kind)
