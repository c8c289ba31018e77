-- Where a local heap may begin, and that it has no object then.
use Rattle.w16_machine.proofs
use proofs.Common as C
use proofs.Common.{◌≡◌, ℕ, zero, suc, ◌+◌, ◌*◌, ◌/◌, ◌<◌, ◌≤◌, Bool, true, false, cond, ◌&&◌, nat_le, min, IfSome, IsSomeAnd, List, [], length, Option, Some, None, option_map, is_some, refl, sym, ap, ◌∙◌, subst, arith, Entry, Span, IsMultiple, is_code}
use proofs.Common.{slot_of_selector, Table, by_id, LOCAL_ENTRIES, World, Beginning, segment_bytes, is_range, range_in, beginning_in, new_table, selector_or_ds, rounded_up, rounded_down, MayBegin}
use Rattle.std.specs.FinMap as finmap

-- The range.

-- what the test of a range says, in order of size
pub record IsRangeOf (size start end : ℕ) (range : Span) : Type 0 where
  pub low : 4 ≤ start
  pub inside : end ≤ size
  pub high : end ≤ 65536
  pub from : IsMultiple 4 range.from × (start ≤ range.from) × (range.from < start + 4)
  pub to : IsMultiple 4 range.to × (range.to ≤ end) × (end < range.to + 4)
  pub some : range.from < range.to

tested : (size start end : ℕ) → is_range size start end ≡ true → (4 ≤ start) × (end ≤ size) × (end ≤ 65536) × (rounded_up start < rounded_down end)
tested size start end t =
    let both = C.and_parts _ _ t in
    let first = C.and_parts _ _ both.0 in
    let under = C.leb-true end _ first.1 in
    (C.leb-true 4 start first.0, omega (arith, under), omega (arith, under), C.ltb-true _ _ both.1)

test_of : (size start end : ℕ) → 4 ≤ start → end ≤ size → end ≤ 65536 → rounded_up start < rounded_down end → is_range size start end ≡ true
test_of size start end low inside high some =
    λ i. (C.le-leb 4 start low i && C.le-leb end (min size 65536) (omega arith) i) && C.lt-ltb _ _ some i

range_tells : (size start end : ℕ) (range : Span) → range_in size start end ≡ Some range → IsRangeOf size start end range
range_tells size start end range = turn _ refl
  where
    turn : (b : Bool) → is_range size start end ≡ b → ◌≡◌ {A = Option Span} (cond b (Some (record { from = rounded_up start; to = rounded_down end })) None) (Some range) → IsRangeOf size start end range
    turn false t e = cc
    turn true t e =
        let mine : Span = record { from = rounded_up start; to = rounded_down end } in
        let same : mine ≡ range = cc in
        let h = tested size start end t in
        subst (IsRangeOf _ _ end) same (record {
          low = h.0;
          inside = h.1;
          high = h.2;
          from = (((start + 3) / 4, refl), omega arith, omega arith);
          to = ((end / 4, refl), omega arith, omega arith);
          some = h.3;
        })

told_range : (size start end : ℕ) (range : Span) → IsRangeOf size start end range → range_in size start end ≡ Some range
told_range size start end range is =
    ap (λ b. cond {A = Option Span} b (Some (record { from = rounded_up start; to = rounded_down end })) None) (test_of size start end is.low is.inside is.high (omega (arith, from, to, is.some)))
    ∙ ap Some (λ i. record { from = from i; to = to i })
  where
    up : (start lo m : ℕ) → lo ≡ 4 * m → start ≤ lo → lo < start + 4 → 4 * ((start + 3) / 4) ≡ lo
    up start lo m e le lt = omega (arith, e, le, lt)

    down : (end hi m : ℕ) → hi ≡ 4 * m → hi ≤ end → end < hi + 4 → 4 * (end / 4) ≡ hi
    down end hi m e le lt = omega (arith, e, le, lt)

    from : rounded_up start ≡ range.from
    from = up start _ _ is.from.0.1 is.from.1 is.from.2

    to : rounded_down end ≡ range.to
    to = down end _ _ is.to.0.1 is.to.1 is.to.2

-- The beginning.
module _ (w : World) (selector start end : ℕ) (b : Beginning) where
  -- whether a heap begins with this range in a segment whose table and bytes are these
  abbrev begun : ℕ → Option Table → Option (List ℕ) → Option Beginning
  begun slot t p = elim p [ None ↦ None | Some bytes ↦ cond {A = Option Beginning} (is_some t) None (option_map (λ range. record { slot = slot; range = range }) (range_in (length bytes) start end)) ]

  may : (slot : ℕ) → slot_of_selector w.loading.handles (selector_or_ds w selector) ≡ Some slot → is_code w.loading.handles slot ≡ false → (t : Option Table) → finmap.get w.heaps slot ≡ t → (p : Option (List ℕ)) → segment_bytes w slot ≡ p → begun slot t p ≡ Some b → MayBegin w selector start end b
  may slot s n t u None q e = cc
  may slot s n (Some t) u (Some bytes) q e = cc
  may slot s n None u (Some bytes) q e = turn (range_in (length bytes) start end) refl e
    where
      turn : (r : Option Span) → range_in (length bytes) start end ≡ r → option_map (λ (range : Span). let x : Beginning = record { slot = slot; range = range } in x) r ≡ Some b → MayBegin w selector start end b
      turn None f e = cc
      turn (Some range) f e =
          let mine : Beginning = record { slot = slot; range = range } in
          let same : mine ≡ b = cc in
          let is : IsRangeOf (length bytes) start end range = range_tells (length bytes) start end range f in
          subst (MayBegin w selector start end) same (record {
            selected = s;
            uncoded = n;
            none = u;
            inside = subst (λ p. IsSomeAnd p (λ bytes. end ≤ length bytes)) (sym q) is.inside;
            low = is.low;
            high = is.high;
            from = is.from;
            to = is.to;
            some = is.some;
          })

  begins : C.beginning w selector start end ≡ Some b → MayBegin w selector start end b
  begins e = turn (slot_of_selector w.loading.handles (selector_or_ds w selector)) refl e
    where
      turn : (s : Option ℕ) → slot_of_selector w.loading.handles (selector_or_ds w selector) ≡ s → ◌≡◌
          {A = Option Beginning} (elim s [
            | None ↦ None
            | Some slot ↦ cond {A = Option Beginning}
                (is_code w.loading.handles slot) None (beginning_in w start end slot)
          ]) (Some b) → MayBegin w selector start
          end b
      turn None s e = cc
      turn (Some slot) s e = by_code (is_code w.loading.handles slot) refl e
        where
          by_code : (b1 : Bool) → is_code w.loading.handles slot ≡ b1 → cond {A = Option Beginning} b1 None (beginning_in w start end slot) ≡ Some b → MayBegin w selector start end b
          by_code true n e = cc
          by_code false n e = may slot s n (finmap.get w.heaps slot) refl (segment_bytes w slot) refl e

  may_begin : MayBegin w selector start end b → C.beginning w selector start end ≡ Some b
  may_begin is =
      ap (λ (s : Option ℕ). elim s as (λ _. Option Beginning) [ None ↦ None | Some slot ↦ cond {A = Option Beginning} (is_code w.loading.handles slot) None (beginning_in w start end slot) ]) is.selected
      ∙ ap (λ b1. cond {A = Option Beginning} b1 None (beginning_in w start end b.slot)) is.uncoded
      ∙ ap (λ t. begun b.slot t (segment_bytes w b.slot)) is.none
      ∙ turn (segment_bytes w b.slot) is.inside
    where
      turn : (p : Option (List ℕ)) → IsSomeAnd p (λ bytes. end ≤ length bytes) → begun b.slot None p ≡ Some b
      turn None h = absurd h
      turn (Some bytes) h = ap (option_map (λ (range : Span). let x : Beginning = record { slot = b.slot; range = range } in x)) (told_range (length bytes) start end b.range (record { low = is.low; inside = h; high = is.high; from = is.from; to = is.to; some = is.some }))

pub begin_law : C.BeginLaw
begin_law w selector start end b = (begins w _ _ end b, may_begin w _ _ end b)

-- The new heap.

abbrev none : Option Entry
none = None

no_entry : (n q : ℕ) → C.get_or (C.replicate n none) q None ≡ None
no_entry zero q = refl
no_entry (suc n) zero = refl
no_entry (suc n) (suc q) = no_entry n q

nothing_by_id : (give : ℕ → Entry → C.Object) (n id : ℕ) → by_id give id (C.replicate n none) ≡ []
nothing_by_id give zero id = refl
nothing_by_id give (suc n) id = nothing_by_id _ n _

pub new_heap_law : C.NewHeapLaw
new_heap_law range bytes = λ i. record (C.heap_in (new_table range) bytes) { objects = finmap.from_entries (nothing_by_id (λ id e. record { kind = e.kind; locks = e.locks; bytes = None }) LOCAL_ENTRIES 0 i) }

-- it is one, wherever it may begin
pub new_local : (w : World) (selector start end : ℕ) (b : Beginning) → MayBegin w selector start end b → IsSomeAnd (segment_bytes w b.slot) (C.IsLocalIn (new_table b.range))
new_local w selector start end b may = turn (segment_bytes w b.slot) may.inside
  where
    entries_none : (q : ℕ) → C.entry_at (new_table b.range) q ≡ None
    entries_none q = no_entry LOCAL_ENTRIES q

    sound : C.IsSound (new_table b.range)
    sound = record {
      table = record { laid = omega (arith, may.some); ids = C.AllPairs-from_EachPair (λ x y. x.id ≡ y.id → ⊥) [] tt; holds = C.All-from_Each (λ x. IsSomeAnd (C.entry_at (new_table b.range) x.id) (λ e. x.hold ≡ C.hold_of_entry e)) [] tt };
      grained = C.All-from_Each (λ x. IsMultiple C.LOCAL_GRAIN x.at × IsMultiple C.LOCAL_GRAIN x.size) [] tt;
      low_grained = may.from.0;
      in_order = λ q. sym (ap (λ e. C.is_listed e None) (entries_none q));
      no_repeats = C.AllPairs-from_EachPair (λ a b. a ≡ b → ⊥) [] tt;
      counted = λ q. subst (λ e. IfSome e (C.IsCountedBy None)) (sym (entries_none q)) tt;
    }

    named : (bytes : List ℕ) → C.AreNamed (C.heap_in (new_table b.range) bytes)
    named bytes q = subst (λ h. IfSome (C.object_at h q) (λ o. C.is_fixed o.kind ≡ true → is_some o.bytes ≡ true)) (sym (new_heap_law b.range bytes))
        (subst (λ p. IfSome p (λ o. C.is_fixed o.kind ≡ true → is_some o.bytes ≡ true)) (sym (C.get-empty C.nat_cmp q)) tt)

    is_local : C.IsLocalTable (new_table b.range)
    is_local = record { sound = sound; grain = refl; entries = C.length-replicate LOCAL_ENTRIES none; low = omega (arith, may.low, may.from.1); high = omega (arith, may.to.1, may.high) }

    turn : (p : Option (List ℕ)) → IsSomeAnd p (λ bytes. end ≤ length bytes) → IsSomeAnd p (C.IsLocalIn (new_table b.range))
    turn None h = absurd h
    turn (Some bytes) h = (is_local, omega (arith, may.to.1, h), named bytes)
