-- The handles in which nothing is allocated.
use Rattle.w16_model.proofs.Common.{◌≡◌, ℕ, ◌<◌, IfSome, All, Option, Some, None, is_some, refl, sym, ap, ◌∙◌, subst, arith, get-empty, Block, GRAIN, Object, IsHeap, IsCounted, IsMultiple, empty_heap, is_in_order, false≢true, Attributes, IsRun, IsSized, slots_at, EmptyLaw}
use Rattle.w16_model.proofs.{Gaps.Each-from, Gaps.All-from_Each, Heaps.IsBlockOf, Heaps.member_block, Places.placed_from}
use Rattle.std.specs.FinMap as finmap

no_block : (lo hi grain : ℕ) (x : Block) → IsBlockOf (empty_heap lo hi grain) x → ⊥
no_block lo hi grain x b = let none : ◌≡◌ {A = Option Object} None (Some b.object) = sym (get-empty _ x.id) ∙ b.is_there in cc

empty_heap_is : (hi grain : ℕ) → IsHeap (empty_heap 0 hi grain)
empty_heap_is hi grain = record {
  placed = placed_from (empty_heap 0 hi grain) (λ x b. absurd (no_block 0 hi grain x b)) (λ x y b c d. absurd (no_block 0 hi grain x b));
  grained = All-from_Each (λ x. IsMultiple grain x.at × IsMultiple grain x.size) _ (Each-from (λ x. IsMultiple grain x.at × IsMultiple grain _) _ (λ x m. absurd (no_block 0 hi grain x (member_block _ x m))));
  low_grained = (0, omega arith);
  at_bytes = λ id. ap is_some (get-empty _ id) ∙ ap (λ (o : Option Object). is_some (elim o [ Some o ↦ o.bytes | None ↦ None ])) (sym (get-empty _ id));
  are_bytes = λ id. subst (λ (o : Option Object). IfSome (elim o [ Some o ↦ o.bytes | None ↦ None ]) (All (λ b. b < 256))) (sym (get-empty _ id)) tt;
  in_order = λ id. ap is_in_order (sym (get-empty _ id));
  no_repeats = λ i j d l m. absurd (omega arith);
  counted = λ id. subst (λ o. IfSome o IsCounted) (sym (get-empty _ id)) tt;
}

pub empty_law : EmptyLaw
empty_law memory slots few = record {
  heap = empty_heap_is _ GRAIN;
  low = refl;
  grain = refl;
  few = few;
  runs = record {
    each = λ q. subst (λ a. IfSome a (IsRun slots q)) (sym (get-empty _ q)) tt;
    apart = λ q other less some. absurd (false≢true (sym (ap is_some (get-empty {X = Attributes} _ other)) ∙ some));
  };
  attributed = λ q. ap is_some (get-empty _ q) ∙ ap (λ o. is_some o) (sym (get-empty _ q));
  sized = λ q. subst (λ (o : Option Object). IsSized (slots_at finmap.empty q) (elim o [ Some o ↦ o.bytes | None ↦ None ])) (sym (get-empty _ q)) tt;
}
