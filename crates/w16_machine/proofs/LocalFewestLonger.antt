-- A heap grows no farther than it must, and doesn't only where no growth would do.
use Rattle.w16_machine.proofs
use proofs.Common as C
use proofs.Common.{◌≡◌, ℕ, zero, suc, ◌*◌, ◌<◌, ◌≤◌, ◌⊎◌, ◌&&◌, ◌||◌, inl, inr, Bool, true, false, cond, not, nat_le, nat_lt, MatchBool, IsSomeAnd, List, length, take, Option, Some, None, is_some, refl, sym, ap, ◌∙◌, subst, arith, false≢true, Block, RoomOptions, Heap, Object, IsHeap}
use proofs.Common.{blocks, object_at, with_object, discards_needed, fits_in_place, growth_for, IsNew, ending, is_answered, is_resized, World, heap_of, IsLongerSize, growth_flags, longer}
use Rattle.std.proofs.lemmas.Bool.{cases_lt}
use Rattle.w16_model.specs.Request.{Grows as GrowsIn, IsGrown, Reallocates, ReallocatesObject, Request, StaysOrMovesToHole, snapshot_of}
use Rattle.w16_model.specs.{declared.TheConstants.GRAIN, Ends.is_grown, Resizes.GlobalReAllocs}
use Rattle.w16_model.proofs.Gaps.{Each-map}

-- a heap that ends later is one
pub later_heap : (heap : Heap) (end : ℕ) → IsHeap heap → heap.hi ≤ end → IsHeap (ending heap end)
later_heap heap end is le = record {
  placed = record {
    inside = C.All-from_Each (Inside end) (blocks heap) (Each-map (Inside heap.hi) (Inside end) (λ x h. (h.0, h.1, omega (arith, h.2, le))) (blocks heap) (C.Each-from_All _ _ is.placed.inside));
    apart = is.placed.apart;
  };
  grained = is.grained;
  low_grained = is.low_grained;
  at_bytes = is.at_bytes;
  are_bytes = is.are_bytes;
  in_order = is.in_order;
  no_repeats = is.no_repeats;
  counted = is.counted;
}
  where
    Inside : ℕ → Block → Type 0
    Inside hi x = (heap.lo ≤ x.at) × (0 < x.size) × (C.block_end x ≤ hi)

none_of : {X : Type 0} (p : Option X) → is_some p ≡ false → p ≡ None
none_of None e = refl
none_of (Some x) e = absurd (false≢true (sym e))

-- An allocation that isn't answered lacks room.
pub alloc_lacks : (heap : Heap) → IsHeap heap → (id : ℕ) → object_at heap id ≡ None → (n : ℕ) (options : RoomOptions) → is_answered heap id n options ≡ false → C.LacksRoom heap None n options
alloc_lacks heap is id free n options refused =
    C.lacking heap is n None options _ _ refl refl (sym (C.none_about heap is id free n options) ∙ none_of _ (sym (ap by_object free) ∙ refused))
  where
    by_object : Option Object → Bool
    by_object p = elim p [ None ↦ is_some (discards_needed heap n (Some id) options) | Some o ↦ is_resized heap id o n options ]

-- A reallocation that isn't answered is refused in the same heap,
module _ (heap : Heap) (id n : ℕ) (options : RoomOptions) (some : 0 < n) (rounded : C.IsMultiple heap.grain n) where
  grow_refused : (o : Object) → is_grown heap id o n options ≡ false → GrowsIn heap id o n options false heap
  grow_refused o = turn (C.is_pinned_object o && not options.may_move)
    where
      Grown : Type 0
      Grown = (◌≡◌ {A = Bool} false true) × ((grown : Object) × IsGrown options.zero n o grown × (heap ≡ with_object heap id grown))

      turn : (held : Bool) → cond held (fits_in_place (snapshot_of heap) n id) (is_some (growth_for (snapshot_of heap) n id options)) ≡ false
          → MatchBool held (MatchBool (fits_in_place (snapshot_of heap) n id) Grown ((◌≡◌ {A = Bool} false false) × (heap ≡ heap)))
          (Request heap id (record { options = options; prefix = growth_for (snapshot_of heap) n id options; becomes = IsGrown options.zero n o; order = λ _ order. order }) false heap
          × (options.compact ≡ false → ◌≡◌ {A = Bool} false true → StaysOrMovesToHole heap id n heap))
      turn true e = subst (λ b. MatchBool b Grown ((◌≡◌ {A = Bool} false false) × (heap ≡ heap))) (sym e) (refl, refl)
      turn false e = (
        subst (λ p. Request heap id (record { options = options; prefix = p; becomes = IsGrown options.zero n o; order = λ _ order. order }) false heap) (sym (none_of (growth_for (snapshot_of heap) n id options) e)) (refl, refl),
        (λ c answered. absurd (false≢true answered)),
      )

  object_refused : (o : Object) → object_at heap id ≡ Some o → is_resized heap id o n options ≡ false → ReallocatesObject heap id o n options false heap
  object_refused o there = turn o.bytes refl
    where
      sized : (bytes : List ℕ) (b : Bool) (cut : Object) → (b || is_grown heap id o n options) ≡ false → MatchBool b ((◌≡◌ {A = Bool} false true) × (heap ≡ with_object heap id cut)) (GrowsIn heap id o n options false heap)
      sized bytes true cut e = absurd (false≢true (sym e))
      sized bytes false cut e = grow_refused o e

      turn : (b : Option (List ℕ)) → o.bytes ≡ b → (elim b as (λ _. Bool) [ None ↦ is_some (discards_needed heap n (Some id) options) | Some bytes ↦ nat_le n (length bytes) || is_grown heap id o n options ]) ≡ false
          → C.MatchOption b (C.Allocates heap id n o.kind o.locks options false heap) (λ bytes. MatchBool (nat_le n (length bytes)) ((◌≡◌ {A = Bool} false true) × (heap ≡ with_object heap id (record o { bytes = Some (take n bytes) }))) (GrowsIn heap id o n options false heap))
      turn None b e = record {
        some = some;
        rounded = rounded;
        without_bytes = ap C.bytes_in there ∙ b;
        request = subst (λ p. Request heap id (record { options = options; prefix = p; becomes = IsNew options.zero n o.kind o.locks; order = C.with_newest id }) false heap) (sym (none_of (discards_needed heap n (Some id) options) e)) (refl, refl);
      }
      turn (Some bytes) b e = sized bytes (nat_le n (length bytes)) (record o { bytes = Some (take n bytes) }) e

-- and so it lacks the bytes.
pub realloc_lacks : (heap : Heap) → IsHeap heap → (at : C.LocalHeap) (id n : ℕ) (options : RoomOptions) → 0 < n → C.IsMultiple heap.grain n → is_some (object_at heap id) ≡ true → is_answered heap id n options ≡ false
    → C.LacksBytes (record { heap = at; id = id }) n options heap
realloc_lacks heap is at id n options some rounded there refused = turn _ refl there refused
  where
    by_object : Option Object → Bool
    by_object p = elim p [ None ↦ is_some (discards_needed heap n (Some id) options) | Some o ↦ is_resized heap id o n options ]

    turn : (p : Option Object) → object_at heap id ≡ p → is_some p ≡ true → by_object p ≡ false → C.LacksBytes (record { heap = at; id = id }) n options heap
    turn None e t r = absurd (false≢true t)
    turn (Some o) e t r =
        let step : Reallocates heap id n options false heap = record {
          some = some;
          rounded = rounded;
          object = subst (λ p. IsSomeAnd p (λ o. ReallocatesObject heap id o n options false heap)) (sym e) (object_refused heap id n options some rounded o e r);
        } in
        let f = subst (λ p. IsSomeAnd p (λ o. C.ReallocatesFewest heap id n o options false heap)) e (C.fewest_law heap heap id n options false is step) in
        subst (λ p. IsSomeAnd p (λ before. (C.size_of before < n) × C.LacksPlace heap id n before options)) (sym e) ((f.refused refl).0, (f.refused refl).1)

-- the least number that passes a test, or that there is none below a bound
least_true : (P : ℕ → Bool) (n : ℕ) → ((k : ℕ) → k < n → P k ≡ false) ⊎ ((m : ℕ) × (m < n) × (P m ≡ true) × ((k : ℕ) → k < m → P k ≡ false))
least_true P zero = inl (λ k l. absurd (omega (arith, l)))
least_true P (suc n) = elim (least_true P n) [
  | inr found ↦ inr (found.0, omega (arith, found.1), found.2, found.3)
  | inl none ↦ elim (C.cases_Bool _) [
    | inl t ↦ inr (n, omega arith, t, none)
    | inr f ↦ inl (λ k l. elim (C.cases_eq k n) [ inl e ↦ ap P e ∙ f | inr d ↦ none k (omega (arith, l, d)) ])
  ]
]

module _ (old : World) (is : C.AreLocalHeaps old) (at : C.LocalHeap) (id n : ℕ) (options : RoomOptions) (lacks : Heap → Type 0) (inside : at.table.hi ≤ length at.bytes)
    (refused : (e : ℕ) → at.table.hi ≤ e → is_answered (ending (heap_of at) e) id n options ≡ false → lacks (ending (heap_of at) e)) where
  -- a size at which it isn't answered
  unserved : (e : ℕ) → IsLongerSize at e → is_answered (ending (heap_of at) e) id n options ≡ false → lacks (ending (heap_of at) e)
  unserved e s none = refused e (omega (arith, s.more, inside)) none

  pub grows_fewest : (size : ℕ) → C.IsGrowth at id n options size → (l : C.Lengthens old at options size) → lacks (heap_of at) → (new : World) → C.KeepsRest (C.with_longer old l.handles (longer at size l.bytes)) new
      → (so : Heap → Type 0) → so (ending (heap_of at) size) → C.GrowsFewest old at options new lacks so
  grows_fewest size g l now new rest so serves = record {
    may = g.may;
    ends = g.ends;
    size = size;
    longer_size = g.served.longer;
    now = now;
    less = λ e s lt. elim (C.cases_Bool (is_answered (ending (heap_of at) e) id n options)) [
      | inl t ↦ absurd (let le : size ≤ e = g.least e (record { longer = s; answered = t }) in omega (arith, le, lt))
      | inr f ↦ unserved e s f
    ];
    lengthens = l;
    fewest = C.resize_fewest_law old.loading.handles l.handles l.handle size (growth_flags options) l.answer is.handles l.reallocated;
    serves = serves;
    rest = rest;
  }

  pub lacks_growth : C.StaysShort old at id n options → C.LacksGrowth old at options lacks
  lacks_growth short may ends = turn (least_true Serves 2049)
    where
      Serves : ℕ → Bool
      Serves m = nat_lt (length at.bytes) (GRAIN * m) && is_answered (ending (heap_of at) (GRAIN * m)) id n options

      unless : (m e : ℕ) → e ≡ GRAIN * m → IsLongerSize at e → Serves m ≡ false → is_answered (ending (heap_of at) e) id n options ≡ false
      unless m e same s none = ap (λ k. is_answered (ending (heap_of at) k) id n options) same ∙ sym (ap (λ b. b && is_answered (ending (heap_of at) (GRAIN * m)) id n options) (C.lt-ltb (length at.bytes) (GRAIN * m) (omega (arith, s.more, same)))) ∙ none

      both : (a b : Bool) → (a && b) ≡ true → (a ≡ true) × (b ≡ true)
      both true b e = (refl, e)
      both false b e = absurd (false≢true e)

      turn : ((k : ℕ) → k < 2049 → Serves k ≡ false) ⊎ ((m : ℕ) × (m < 2049) × (Serves m ≡ true) × ((k : ℕ) → k < m → Serves k ≡ false))
          → ((e : ℕ) → IsLongerSize at e → lacks (ending (heap_of at) e))
          ⊎ ((size : ℕ) × IsLongerSize at size × ((e : ℕ) → IsLongerSize at e → e < size → lacks (ending (heap_of at) e)) × C.IsRefusedSize old at options size)
      turn (inl none) = inl (λ e s. unserved e s (unless s.whole.0 e s.whole.1 s (none s.whole.0 (omega (arith, s.whole.1, s.most)))))
      turn (inr found) =
          let size : ℕ = GRAIN * found.0 in
          let b : (nat_lt (length at.bytes) size ≡ true) × (is_answered (ending (heap_of at) size) id n options ≡ true) = both (nat_lt (length at.bytes) size) (is_answered (ending (heap_of at) size) id n options) found.2 in
          let long : IsLongerSize at size = record { whole = (found.0, refl); more = C.ltb-true (length at.bytes) size b.0; most = omega (arith, found.1) } in
          let below : (e : ℕ) → IsLongerSize at e → e < size → is_answered (ending (heap_of at) e) id n options ≡ false = (λ e s lt. unless s.whole.0 e s.whole.1 s (found.3 s.whole.0 (omega (arith, s.whole.1, lt)))) in
          let growth : C.IsGrowth at id n options size = record {
            may = may;
            ends = ends;
            served = record { longer = long; answered = b.1 };
            least = λ e s. elim (cases_lt e size) [ inl lt ↦ absurd (false≢true (sym (below e s.longer lt) ∙ s.answered)) | inr le ↦ le ];
          } in
          inr (
            size,
            long,
            (λ e s lt. unserved e s (below e s lt)),
            (λ handle named.
                let k : (handles : C.Handles) × GlobalReAllocs old.loading.handles handle size (growth_flags options) 0 handles = short size growth handle named in
                (k.0, k.1, C.resize_fewest_law old.loading.handles k.0 handle size (growth_flags options) 0 is.handles k.1)),
          )
