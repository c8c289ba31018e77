-- Nothing is allocated at the start.
use Rattle.w16_global.proofs
use proofs.Common as C
use proofs.Common.{◌≡◌, ℕ, zero, suc, ◌+◌, ◌-◌, ◌≤◌, List, [], replicate, Option, None, refl, sym, ap, ◌∙◌, subst, arith, FIRST_SLOT, GRAIN, empty_heap, attributes_in, handles_of, AreJoined, Some, says}
use proofs.Owners.{attributes_at}
use Rattle.std.specs.FinMap as finmap
use Rattle.w16_selectors.specs.Descriptors as selectors

-- a list of nothing has nothing at each place
none_at : {X : Type 0} (n q : ℕ) → ◌≡◌ {A = Option X} (C.get_or (replicate n None) q None) None
none_at zero q = refl
none_at (suc n) zero = refl
none_at (suc n) (suc q) = none_at n q

module _ (memory slots : ℕ) (few : slots ≤ C.MOST_SLOTS) where
  abbrev holding : C.Holding
  holding = record { cap = FIRST_SLOT + slots; heap = empty_heap 0 memory GRAIN; discarded = []; written = 0 }

  abbrev attributes : List (Option C.Attributes)
  attributes = replicate (FIRST_SLOT + slots) None

  abbrev table : selectors.DescriptorTable
  table = replicate (FIRST_SLOT + slots) None

  handles_are : handles_of holding attributes 0 ≡ C.empty_handles memory slots
  handles_are =
      let all : FIRST_SLOT + slots - FIRST_SLOT ≡ slots = omega arith in
      let none : attributes_in attributes ≡ finmap.empty = C.same_map C.nat_cmp_total C.nat_cmp-IsAntisymmetric (attributes_in attributes) finmap.empty (λ q. attributes_at attributes q ∙ none_at (FIRST_SLOT + slots) q ∙ sym (C.get-empty C.nat_cmp q)) in
      λ i. record { slots = all i; heap = empty_heap 0 memory GRAIN; attributes = none i; moved = 0 }

  nobody_at : (q : ℕ) → C.owner_in attributes q ≡ None
  nobody_at q = C.none_owns (attributes_in attributes) q (λ first lies. let none = C.slots_none (attributes_in attributes) first (attributes_at attributes first ∙ none_at (FIRST_SLOT + slots) first) in omega (arith, lies.0, lies.1, none))

  joined : AreJoined holding attributes table
  joined = record {
    handles = subst C.AreHandles (sym handles_are) (C.empty_law memory slots few);
    described = λ q. none_at (FIRST_SLOT + slots) q ∙ sym (ap (λ p. elim p as (λ _. Option C.Descriptor) [ None ↦ None | Some first ↦ says (empty_heap 0 memory GRAIN) (C.kind_in attributes first) (q - first) first ]) (nobody_at q));
    sized = λ q. subst C.HasSize (sym (none_at (FIRST_SLOT + slots) q)) tt;
    attributes_many = C.length-replicate (FIRST_SLOT + slots) None;
    selectors_many = C.length-replicate (FIRST_SLOT + slots) None;
    some = omega arith;
  }

  -- the parts that were made
  module _ (h : C.Holding) (xs : List (Option C.Attributes)) (t : selectors.DescriptorTable) (h_is : h ≡ record { cap = FIRST_SLOT + slots; heap = empty_heap 0 memory GRAIN; discarded = []; written = 0 }) (xs_is : xs ≡ replicate (FIRST_SLOT + slots) None) where
    pub begin_joined : t ≡ replicate (FIRST_SLOT + slots) None → AreJoined h xs t
    begin_joined t_is = subst (λ t. AreJoined h xs t) (sym t_is) (subst (λ xs. AreJoined h xs table) (sym xs_is) (subst (λ h. AreJoined h attributes table) (sym h_is) joined))

    pub begin_handles : handles_of h xs 0 ≡ C.empty_handles memory slots
    begin_handles = (λ i. handles_of (h_is i) (xs_is i) 0) ∙ handles_are
