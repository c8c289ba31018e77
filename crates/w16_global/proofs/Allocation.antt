-- What an allocation answers.
use Rattle.w16_global.proofs
use proofs.Common.{◌≡◌, ℕ, inr, true, ◌==◌, ◌&&◌, MatchBool, MatchOption, inl, ne_eqb, Option, Some, None, refl, sym, subst, arith, ◌<◌, ◌≤◌, ◌∙◌, Bool, false, ap, Attributes, Kind, RoomOptions, LARGEST_SIZE, GMEM_MOVEABLE, GMEM_ZEROINIT, GMEM_DDESHARE, false≢true, cases_lt, Heap, Object}
use proofs.Common.{IsHeap, with_ordered, with_newest, Allocates, IsNew, Settles, discarded, stays_for, discards_needed, moved_bytes, Enters, Handles, AreHandles, HasNoRun, IsFreeRun, slots_for, some_slots, unused, object_at, handle_of, GlobalAllocs, has_flag, kind_asked, alloc_options}
use proofs.Common.{rounded_size, unmoved, none_about}
use Rattle.std.specs.FinMap as finmap

-- Where no run of slots is free, a new object is refused.
pub refuses_slots : (w v : Handles) → v ≡ record w { moved = 0 } → (flags size : ℕ) (new : Handles) → HasNoRun v (slots_for (rounded_size size)) → new ≡ v → GlobalAllocs w flags size 0 new
refuses_slots w v v_is flags size new none same = inl (inr (inr (inl (subst (λ x. HasNoRun x (slots_for (rounded_size size))) v_is none))), refl, same ∙ v_is)

-- What GlobalAlloc answers, from handles in which nothing was moved last.
module _ (w : Handles) (flags slot size : ℕ) (new : Handles) (free : IsFreeRun w slot (slots_for (rounded_size size))) where
  -- an absent object
  pub answers_absent : size ≡ 0 → has_flag flags GMEM_MOVEABLE ≡ true → Enters w.heap slot (kind_asked flags) new.heap
      → new ≡ record w { heap = new.heap; attributes = finmap.insert w.attributes slot (record { shared = has_flag flags GMEM_DDESHARE; owned = None; slots = slots_for (rounded_size size) }); moved = 0 } → GlobalAllocs w flags size (handle_of (kind_asked flags) slot) new
  answers_absent none moveable enters rest = subst (λ n. GlobalAllocs w flags n (handle_of (kind_asked flags) slot) new) (sym none) (inr (record {
    small = omega arith;
    slot = slot;
    free = subst (λ n. IsFreeRun w slot (slots_for (rounded_size n))) none free;
    named = refl;
    made = subst (λ b. MatchBool ((0 == 0) && b) (Enters w.heap slot (kind_asked flags) new.heap) (Allocates w.heap slot (rounded_size 0) (kind_asked flags) 0 (alloc_options flags) true new.heap)) (sym moveable) enters;
    rest = rest ∙ (λ i. record w {
      heap = new.heap;
      attributes = finmap.insert w.attributes slot (record { shared = has_flag flags GMEM_DDESHARE; owned = None; slots = slots_for (rounded_size (none i)) });
      moved = sym (unmoved w.heap new.heap (ap (λ (h : Heap). h.places) enters.entered)) i;
    });
  }))

  -- an object with bytes
  pub answers_bytes : 0 < size → size ≤ LARGEST_SIZE → Allocates w.heap slot (rounded_size size) (kind_asked flags) 0 (alloc_options flags) true new.heap
      → new ≡ record w { heap = new.heap; attributes = finmap.insert w.attributes slot (record { shared = has_flag flags GMEM_DDESHARE; owned = None; slots = slots_for (rounded_size size) }); moved = moved_bytes w.heap new.heap }
      → GlobalAllocs w flags size (handle_of (kind_asked flags) slot) new
  answers_bytes some small allocated rest = inr (record {
    small = small;
    slot = slot;
    free = free;
    named = refl;
    made = subst (λ b. MatchBool (b && has_flag flags GMEM_MOVEABLE) (Enters w.heap slot (kind_asked flags) new.heap) (Allocates w.heap slot (rounded_size size) (kind_asked flags) 0 (alloc_options flags) true new.heap))
        (sym (ne_eqb size 0 (λ e. absurd (omega arith)))) allocated;
    rest = rest;
  })

  -- no room
  pub refuses_bytes : object_at w.heap slot ≡ None → IsHeap w.heap → 0 < size → Allocates w.heap slot (rounded_size size) (kind_asked flags) 0 (alloc_options flags) false new.heap → new ≡ record w { heap = new.heap; moved = 0 } → GlobalAllocs w flags size 0 new
  refuses_bytes unused is some allocated rest =
      let (none, same) = no_prefix (discards_needed w.heap (rounded_size size) (Some slot) (alloc_options flags)) allocated.request in
      inl (inr (inr (inr (some, sym (none_about w.heap is slot unused (rounded_size size) (alloc_options flags)) ∙ none))), refl, rest ∙ (λ i. record w { heap = same i; moved = 0 }))
    where
      no_prefix : (p : Option ℕ)
          → MatchOption p ((false ≡ false) × (new.heap ≡ w.heap))
          (λ k. (false ≡ true) × ((o : Object) × IsNew (has_flag flags GMEM_ZEROINIT) (rounded_size size)
          (kind_asked flags) 0 o × Settles w.heap (stays_for slot (alloc_options flags))
          (with_ordered (discarded w.heap k (Some slot)) slot o (with_newest slot o)) new.heap))
          → (p ≡ None) × (new.heap ≡ w.heap)
      no_prefix None h = (refl, h.1)
      no_prefix (Some k) h = absurd (false≢true h.0)

-- The same of what the code has computed.

-- an allocation of these numbers
abbrev AllocatesBy : Handles → ℕ → Heap → ℕ → Kind → RoomOptions → Bool → Type 0
AllocatesBy w slot heap n kind options answered = Allocates w.heap slot n kind 0 options answered heap

module _ (w : Handles) (flags slot size : ℕ) (new : Handles) (free : IsFreeRun w slot (slots_for (rounded_size size))) (kind : Kind) (kind_is : kind ≡ kind_asked flags) (a : Attributes) (a_is : a ≡ record { shared = has_flag flags GMEM_DDESHARE; owned = None; slots = slots_for (rounded_size size) })
    (handle : ℕ) (handle_is : handle ≡ handle_of kind slot) where
  named : (x : ℕ) → x ≡ handle_of (kind_asked flags) slot → GlobalAllocs w flags size x new → GlobalAllocs w flags size handle new
  named x e h = subst (λ y. GlobalAllocs w flags size y new) (e ∙ ap (λ k. handle_of k slot) (sym kind_is) ∙ sym handle_is) h

  pub absent_known : size ≡ 0 → has_flag flags GMEM_MOVEABLE ≡ true → Enters w.heap slot kind new.heap → new ≡ record w { heap = new.heap; attributes = finmap.insert w.attributes slot a; moved = 0 } → GlobalAllocs w flags size handle new
  absent_known none moveable enters rest = named (handle_of (kind_asked flags) slot) refl
      (answers_absent w flags slot size new free none moveable (subst (λ k. Enters w.heap slot k new.heap) kind_is enters) (rest ∙ (λ i. record w { heap = new.heap; attributes = finmap.insert w.attributes slot (a_is i); moved = 0 })))

  module _ (n : ℕ) (n_is : n ≡ rounded_size size) (options : RoomOptions) (way_is : options ≡ alloc_options flags) (some : size ≡ 0 → ⊥) where
    asked : (answered : Bool) → AllocatesBy w slot new.heap n kind options answered → Allocates w.heap slot (rounded_size size) (kind_asked flags) 0 (alloc_options flags) answered new.heap
    asked answered h =
        subst (λ k. AllocatesBy w slot new.heap k (kind_asked flags) (alloc_options flags) answered) n_is
        (subst (λ k. AllocatesBy w slot new.heap n k (alloc_options flags) answered) kind_is
        (subst (λ v. AllocatesBy w slot new.heap n kind v answered) way_is h))

    filled : (m : ℕ) → (m ≡ 0 → ⊥) → 0 < m
    filled m h = elim (cases_lt 0 m) [
      | inl some ↦ some
      | inr none ↦ absurd (h (omega (arith, none)))
    ]

    pub bytes_known : size ≤ LARGEST_SIZE → AllocatesBy w slot new.heap n kind options true → new ≡ record w { heap = new.heap; attributes = finmap.insert w.attributes slot a; moved = moved_bytes w.heap new.heap }
        → GlobalAllocs w flags size handle new
    bytes_known small allocated rest = named (handle_of (kind_asked flags) slot) refl
        (answers_bytes w flags slot size new free (filled size some) small (asked true allocated) (rest ∙ (λ i. record w { heap = new.heap; attributes = finmap.insert w.attributes slot (a_is i); moved = moved_bytes w.heap new.heap })))

    pub refusal_known : object_at w.heap slot ≡ None → IsHeap w.heap → AllocatesBy w slot new.heap n kind options false → new ≡ record w { heap = new.heap; moved = 0 } → GlobalAllocs w flags size 0 new
    refusal_known unused is allocated rest = refuses_bytes w flags slot size new free unused is (filled size some) (asked false allocated) rest

-- And from the handles v, which is w with nothing moved last.
module _ (w v : Handles) (v_is : v ≡ record w { moved = 0 }) (flags slot size : ℕ) (new : Handles) (free : IsFreeRun v slot (slots_for (rounded_size size))) (kind : Kind) (kind_is : kind ≡ kind_asked flags)
    (a : Attributes) (a_is : a ≡ record { shared = has_flag flags GMEM_DDESHARE; owned = None; slots = slots_for (rounded_size size) }) (handle : ℕ) (handle_is : handle ≡ handle_of kind slot) where
  free_in : IsFreeRun w slot (slots_for (rounded_size size))
  free_in = subst (λ x. IsFreeRun x slot (slots_for (rounded_size size))) v_is free

  pub absent_answered : size ≡ 0 → has_flag flags GMEM_MOVEABLE ≡ true → Enters v.heap slot kind new.heap → new ≡ record v { heap = new.heap; attributes = finmap.insert v.attributes slot a } → GlobalAllocs w flags size handle new
  absent_answered none moveable enters rest = absent_known w flags slot size new free_in kind kind_is a a_is handle handle_is none moveable (subst (λ (x : Handles). Enters x.heap slot kind new.heap) v_is enters)
      (rest ∙ ap (λ (x : Handles). record x { heap = new.heap; attributes = finmap.insert x.attributes slot a }) v_is)

  module _ (n : ℕ) (n_is : n ≡ rounded_size size) (options : RoomOptions) (way_is : options ≡ alloc_options flags) (some : size ≡ 0 → ⊥) where
    pub bytes_answered : size ≤ LARGEST_SIZE → AllocatesBy v slot new.heap n kind options true
        → new ≡ record v { heap = new.heap; attributes = finmap.insert v.attributes slot a; moved = moved_bytes v.heap new.heap } → GlobalAllocs w flags size handle new
    bytes_answered small allocated rest = bytes_known w flags slot size new free_in kind kind_is a a_is handle handle_is n n_is options way_is some small
        (subst (λ (x : Handles). AllocatesBy x slot new.heap n kind options true) v_is allocated)
        (rest ∙ ap (λ (x : Handles). record x { heap = new.heap; attributes = finmap.insert x.attributes slot a; moved = moved_bytes x.heap new.heap }) v_is)

    pub bytes_refused : AreHandles v → AllocatesBy v slot new.heap n kind options false → new ≡ record v { heap = new.heap } → GlobalAllocs w flags size 0 new
    bytes_refused is allocated rest = refusal_known w flags slot size new free_in kind kind_is a a_is handle handle_is n n_is options way_is some
        (subst (λ (x : Handles). object_at x.heap slot ≡ None) v_is
        (unused v is slot (slots_for (rounded_size size)) (some_slots (rounded_size size)) free))
        (subst (λ (x : Handles). IsHeap x.heap) v_is is.heap)
        (subst (λ (x : Handles). AllocatesBy x slot new.heap n kind options false) v_is allocated)
        (rest ∙ ap (λ (x : Handles). record x { heap = new.heap }) v_is)
