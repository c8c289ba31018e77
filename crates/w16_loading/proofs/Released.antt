-- A heap from which some objects go is one.
use Rattle.w16_loading.proofs
use proofs.Common as C
use proofs.Common.{◌≡◌, ℕ, inl, inr, Bool, true, false, cond, not, filter, Some, None, is_some, refl, sym, ap, ◌∙◌, subst, false≢true, cases_Bool, Block, is_member, Heap, object_at, is_member-true, bytes_in, heap_without}
use proofs.Undone.{retained}
use Rattle.std.specs.FinMap as finmap

module _ (old : Heap) (is : C.IsHeap old) (gone : ℕ → Bool) where
  abbrev left : ℕ → Bool
  left q = not (gone q)

  -- what an id that goes has, and what another has
  goes : {X : Type 0} (m : finmap.FinMap C.nat_cmp X) (q : ℕ) → gone q ≡ true → finmap.get (finmap.retain_keys m left) q ≡ None
  goes m q t = retained m gone q ∙ ap (λ b. cond (not b) (finmap.get m q) None) t

  stays : {X : Type 0} (m : finmap.FinMap C.nat_cmp X) (q : ℕ) → gone q ≡ false → finmap.get (finmap.retain_keys m left) q ≡ finmap.get m q
  stays m q t = retained m gone q ∙ ap (λ b. cond (not b) (finmap.get m q) None) t

  pub left_object : (q : ℕ) → gone q ≡ false → object_at (heap_without gone old) q ≡ object_at old q
  left_object q t = stays old.objects q t

  pub gone_object : (q : ℕ) → gone q ≡ true → object_at (heap_without gone old) q ≡ None
  gone_object q t = goes old.objects q t

  -- each block that is left stands where it stood
  left_stands : (x : Block) → C.IsBlockOf (heap_without gone old) x → C.Stands old x
  left_stands x b = elim (cases_Bool (gone x.id)) [
    | inl t ↦ absurd (none (sym (goes old.objects x.id t) ∙ b.is_there))
    | inr t ↦ (
      x,
      record {
        object = b.object;
        bytes = b.bytes;
        is_there = sym (stays old.objects x.id t) ∙ b.is_there;
        has_bytes = b.has_bytes;
        place = b.place ∙ ap (λ p. C.unwrap_or p 0) (stays old.places x.id t);
        size = b.size;
        hold = b.hold;
      },
      refl,
      refl,
      refl,
    )
  ]
    where
      none : ◌≡◌ {A = C.Option C.Object} None (Some b.object) → ⊥
      none e = cc

  member_gone : (q : ℕ) → gone q ≡ true → is_member q (filter left old.order) ≡ false
  member_gone q t = elim (cases_Bool (is_member q (filter left old.order))) [
    | inl m ↦ absurd (false≢true (sym (ap not t) ∙ (C.member_filter left old.order q (is_member-true q (filter left old.order) m)).1))
    | inr f ↦ f
  ]

  member_left : (q : ℕ) → gone q ≡ false → is_member q (filter left old.order) ≡ is_member q old.order
  member_left q t = turn (is_member q (filter left old.order)) (is_member q old.order) refl refl
    where
      turn : (a b : Bool) → is_member q (filter left old.order) ≡ a → is_member q old.order ≡ b → a ≡ b
      turn true true e f = refl
      turn false false e f = refl
      turn true false e f = absurd (false≢true (sym f ∙ C.true-is_member q old.order (C.member_filter left old.order q (is_member-true q (filter left old.order) e)).0))
      turn false true e f = absurd (false≢true (sym e ∙ C.true-is_member q (filter left old.order) (C.filter_member left old.order q (is_member-true q old.order f) (ap not t))))

  -- the heap without them is one
  pub released_heap : C.IsHeap (heap_without gone old)
  released_heap = record {
    placed = C.same_placed old is (finmap.retain_keys old.objects left) (finmap.retain_keys old.places left) (filter left old.order) left_stands;
    grained = C.same_grained old is (finmap.retain_keys old.objects left) (finmap.retain_keys old.places left) (filter left old.order) left_stands;
    low_grained = is.low_grained;
    at_bytes = λ q. elim (cases_Bool (gone q)) [
      | inl t ↦ ap is_some (goes old.places q t) ∙ ap (λ p. is_some (bytes_in p)) (sym (goes old.objects q t))
      | inr t ↦ ap is_some (stays old.places q t) ∙ is.at_bytes q ∙ ap (λ p. is_some (bytes_in p)) (sym (stays old.objects q t))
    ];
    are_bytes = λ q. elim (cases_Bool (gone q)) [
      | inl t ↦ subst (λ p. C.AreBytes (bytes_in p)) (sym (goes old.objects q t)) tt
      | inr t ↦ subst (λ p. C.AreBytes (bytes_in p)) (sym (stays old.objects q t)) (is.are_bytes q)
    ];
    in_order = λ q. elim (cases_Bool (gone q)) [
      | inl t ↦ member_gone q t ∙ ap C.is_in_order (sym (goes old.objects q t))
      | inr t ↦ member_left q t ∙ is.in_order q ∙ ap C.is_in_order (sym (stays old.objects q t))
    ];
    no_repeats = C.AllPairs-from_EachPair (λ a b. a ≡ b → ⊥) (filter left old.order) (C.pairs_filter (λ a b. a ≡ b → ⊥) left old.order (C.EachPair-from_AllPairs (λ a b. a ≡ b → ⊥) old.order is.no_repeats));
    counted = λ q. elim (cases_Bool (gone q)) [
      | inl t ↦ subst (λ p. C.IfSome p C.IsCounted) (sym (goes old.objects q t)) tt
      | inr t ↦ subst (λ p. C.IfSome p C.IsCounted) (sym (stays old.objects q t)) (is.counted q)
    ];
  }
