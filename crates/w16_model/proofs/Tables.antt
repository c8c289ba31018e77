-- The heap of a table has the table's blocks.
use Rattle.w16_model.proofs
use proofs.Common as C
use proofs.Common.{◌≡◌, ℕ, zero, suc, ◌+◌, ◌≤◌, ◌<◌, true, false, cond, ◌==◌, List, [], ◌∷◌, map, length, slice_range, Option, Some, None, option_map, refl, sym, ap, ◌∙◌, subst, arith, inl, inr, nat_cmp, eq_by_cmp, false≢true, Block, Object, Table, heap_in, object_in, block_with, entry_at}
use proofs.Common.{by_id, Entry, ◌≢◌}
use proofs.Gaps.{EachPair, Member, Each-at, Each-from_All, EachPair-from_AllPairs, EachPair-map}
use proofs.Heaps.{IsBlockOf, tied_itself, untied, blocks_permutation}
use proofs.{Pinned.longest_hole-permutation, Places.same_id, Laid.laid_each}
use Rattle.std.specs.FinMap.Entries.{find as find_key}
use Rattle.std.specs.FinMap as finmap

-- a member is the block with its id
pub with_member : (xs : List Block) (x : Block) → EachPair (λ x y. x.id ≡ y.id → ⊥) xs → Member x xs → block_with xs x.id ≡ Some x
with_member [] x d m = absurd m
with_member (y ∷ xs) x d (inl e) = ap (λ b. cond b (Some y) (block_with xs x.id)) (C.eq-eqb y.id x.id (ap (λ z. z.id) (sym e))) ∙ ap Some (sym e)
with_member (y ∷ xs) x d (inr m) =
    ap (λ b. cond b (Some y) (block_with xs x.id)) (C.ne_eqb y.id x.id (Each-at (λ z. y.id ≡ z.id → ⊥) xs d.0 x m)) ∙ with_member xs x d.1 m

pub member_with : (xs : List Block) (id : ℕ) (x : Block) → block_with xs id ≡ Some x → Member x xs × (x.id ≡ id)
member_with [] id x h = cc
member_with (y ∷ xs) id x h =
    elim (y.id == id) as (λ b. (y.id == id) ≡ b → cond b (Some y) (block_with xs id) ≡ Some x → Member x (y ∷ xs) × (x.id ≡ id)) [
      | true ↦ λ t e. let same : y ≡ x = cc in (inl (sym same), ap (λ (z : Block). z.id) (sym same) ∙ C.eqb-true y.id id t)
      | false ↦ λ t e. let r = member_with xs id x e in (inr r.0, r.1)
    ] refl h

place_with : (xs : List Block) (id : ℕ) → find_key nat_cmp id (map (λ x. (x.id, x.at)) xs) ≡ option_map (λ x. x.at) (block_with xs id)
place_with [] id = refl
place_with (y ∷ xs) id =
    elim (y.id == id) as (λ b. (y.id == id) ≡ b → cond (eq_by_cmp nat_cmp id y.id) (Some y.at) (find_key nat_cmp id (map (λ x. (x.id, x.at)) xs)) ≡ option_map (λ x. x.at) (cond b (Some y) (block_with xs id))) [
      | true ↦ λ t. ap (λ b. cond b (Some y.at) (find_key nat_cmp id (map (λ x. (x.id, x.at)) xs))) (ap (λ k. eq_by_cmp nat_cmp id k) (C.eqb-true y.id id t) ∙ tied_itself id)
      | false ↦ λ t. ap (λ b. cond b (Some y.at) (find_key nat_cmp id (map (λ x. (x.id, x.at)) xs))) (untied id y.id (λ e. false≢true (sym t ∙ C.eq-eqb y.id id (sym e)))) ∙ place_with xs id
    ] refl

pub length_range : (xs : List ℕ) (a n : ℕ) → a + n ≤ length xs → length (slice_range xs a (a + n)) ≡ n
length_range xs a n h = simp (C.length-take, C.length-drop) (omega arith)

module _ {E X : Type 0} (give : ℕ → E → X) where
  given_above : (i : ℕ) (es : List (Option E)) (q : ℕ) → q < i → find_key nat_cmp q (by_id give i es) ≡ None
  given_above i [] q lt = refl
  given_above i (None ∷ es) q lt = given_above (i + 1) es q (omega arith)
  given_above i (Some e ∷ es) q lt = ap (λ b. cond b (Some (give i e)) (find_key nat_cmp q (by_id give (i + 1) es))) (untied q i (λ f. absurd (omega arith))) ∙ given_above (i + 1) es q (omega arith)

  given_found : (i : ℕ) (es : List (Option E)) (q j : ℕ) → q ≡ i + j → find_key nat_cmp q (by_id give i es) ≡ option_map (give q) (C.get_or es j None)
  given_found i [] q j e = refl
  given_found i (None ∷ es) q zero e = given_above (i + 1) es q (omega arith)
  given_found i (Some d ∷ es) q zero e =
      ap (λ b. cond b (Some (give i d)) (find_key nat_cmp q (by_id give (i + 1) es))) (ap (λ k. eq_by_cmp nat_cmp q k) (let s : i ≡ q = omega arith in s) ∙ tied_itself q)
      ∙ ap (λ (k : ℕ). Some (give k d)) (let s : i ≡ q = omega arith in s)
  given_found i (None ∷ es) q (suc j) e = given_found (i + 1) es q j (omega arith)
  given_found i (Some d ∷ es) q (suc j) e =
      ap (λ b. cond b (Some (give i d)) (find_key nat_cmp q (by_id give (i + 1) es))) (untied q i (λ f. absurd (omega arith))) ∙ given_found (i + 1) es q j (omega arith)

  -- what a map of them has at an id
  pub get-by_id : (es : List (Option E)) (id : ℕ) → finmap.get (finmap.from_entries {R = nat_cmp} (by_id give 0 es)) id ≡ option_map (give id) (C.get_or es id None)
  get-by_id es id = C.get-from_entries C.nat_cmp_total (by_id give 0 es) id ∙ given_found 0 es id id (omega arith)

module _ (t : Table) (is : C.IsTable t) (memory : List ℕ) (whole : t.hi ≤ length memory) where
  pub object_is : (id : ℕ) → C.object_at (heap_in t memory) id ≡ option_map (object_in t.blocks memory id) (entry_at t id)
  object_is id = get-by_id (object_in t.blocks memory) t.entries id

  pub place_is : (id : ℕ) → finmap.get (heap_in t memory).places id ≡ option_map (λ (x : Block). x.at) (block_with t.blocks id)
  place_is id = C.get-from_entries C.nat_cmp_total (map (λ (x : Block). (x.id, x.at)) t.blocks) id ∙ place_with t.blocks id

  pairs : EachPair (λ x y. x.id ≡ y.id → ⊥) t.blocks
  pairs = EachPair-from_AllPairs (λ x y. x.id ≡ y.id → ⊥) t.blocks is.ids

  pub table_block : (x : Block) → Member x t.blocks → IsBlockOf (heap_in t memory) x
  table_block x m = from (entry_at t x.id) refl (Each-at (λ x. C.IsSomeAnd (entry_at t x.id) (λ e. x.hold ≡ C.hold_of_entry e)) t.blocks (Each-from_All _ t.blocks is.holds) x m)
    where
      here : block_with t.blocks x.id ≡ Some x
      here = with_member t.blocks x pairs m

      high : C.block_end x ≤ t.hi
      high = (Each-at (λ x. (t.lo ≤ x.at) × (0 < x.size) × (C.block_end x ≤ t.hi)) t.blocks (laid_each t.lo t.hi t.blocks is.laid) x m).2

      from : (o : Option Entry) → entry_at t x.id ≡ o → C.IsSomeAnd o (λ e. x.hold ≡ C.hold_of_entry e) → IsBlockOf (heap_in t memory) x
      from None e h = absurd h
      from (Some e) is_e h = record {
        object = object_in t.blocks memory x.id e;
        bytes = slice_range memory x.at (x.at + x.size);
        is_there = object_is x.id ∙ ap (option_map (object_in t.blocks memory x.id)) is_e;
        has_bytes = ap (option_map (λ (x : Block). slice_range memory x.at (x.at + x.size))) here;
        place = sym (ap (λ p. C.unwrap_or p 0) (place_is x.id ∙ ap (option_map (λ (x : Block). x.at)) here));
        size = sym (length_range memory x.at x.size (omega (arith, high, whole)));
        hold = h;
      }

  pub block_table : (x : Block) → IsBlockOf (heap_in t memory) x → Member x t.blocks
  block_table x b = from (entry_at t x.id) (block_with t.blocks x.id) refl refl
    where
      from : (o : Option Entry) (y : Option Block) → entry_at t x.id ≡ o → block_with t.blocks x.id ≡ y → Member x t.blocks
      from None y p q = let none : ◌≡◌ {A = Option Object} None (Some b.object) = sym (object_is x.id ∙ ap (option_map (object_in t.blocks memory x.id)) p) ∙ b.is_there in cc
      from (Some e) None p q =
          let same : object_in t.blocks memory x.id e ≡ b.object = (let some : ◌≡◌ {A = Option Object} (Some (object_in t.blocks memory x.id e)) (Some b.object) = sym (object_is x.id ∙ ap (option_map (object_in t.blocks memory x.id)) p) ∙ b.is_there in cc) in
          let none : ◌≡◌ {A = Option (List ℕ)} None (Some b.bytes) = sym (ap (option_map (λ (x : Block). slice_range memory x.at (x.at + x.size))) q) ∙ ap (λ (o : Object). o.bytes) same ∙ b.has_bytes in cc
      from (Some e) (Some y) p q =
          let found : Member y t.blocks × (y.id ≡ x.id) = member_with t.blocks x.id y q in
          subst (λ z. Member z t.blocks) (same_id (heap_in t memory) y x (table_block y found.0) b found.1) found.0

  -- the heap's longest hole is the table's
  pub table_longest : C.longest_hole t.lo t.hi (C.blocks (heap_in t memory)) ≡ C.longest_hole t.lo t.hi t.blocks
  table_longest = longest_hole-permutation t.lo t.hi t.blocks (C.blocks (heap_in t memory))
      (blocks_permutation (heap_in t memory) t.blocks (EachPair-map (λ x y. x.id ≡ y.id → ⊥) (λ x y. x ≢ y) (λ x y d e. d (ap (λ (z : Block). z.id) e)) t.blocks pairs) table_block block_table)
