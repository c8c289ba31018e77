-- Heaps that go with the bytes of their segments, listed slot by listed slot.
use Rattle.w16_local.proofs
use proofs.Common as C
use proofs.Common.{◌≡◌, ◌≢◌, ℕ, ◌+◌, ◌-◌, ◌*◌, ◌<◌, ◌≤◌, inl, inr, Bool, true, false, cond, nat_le, List, length, get_or, Option, Some, None, option_map, is_some, refl, sym, ap, ◌∙◌, subst, arith, nat_cmp, FinMap, cases_eq, false≢true, Heap, Object, bytes_at, object_at, Table, has_range}
use proofs.Common.{left_in, IsListed, tables_of, AreSwept}
use proofs.Locals.{tables_at}
use Rattle.w16_model.proofs.Naming.{names_law}
use Rattle.std.specs.FinMap as finmap

-- The object of a slot is that of its selector.
module _ (h : C.Handles) (slot : ℕ) where
  pub size_found : (s size : ℕ) → C.slot_of_selector h (8 * slot + 7) ≡ Some s → option_map (length {A = ℕ}) (bytes_at h.heap s) ≡ Some size → Some size ≡ option_map (length {A = ℕ}) (bytes_at h.heap slot)
  size_found s size e long = sym (subst (λ k. option_map (length {A = ℕ}) (bytes_at h.heap k) ≡ Some size) (one (object_at h.heap s) ((names_law h (8 * slot + 7) s).1.0 e)) long)
    where
      one : (p : Option Object) → C.IsSomeAnd p (λ _. 8 * slot + 7 ≡ 8 * s + 7) → s ≡ slot
      one None h = absurd h
      one (Some o) h = omega (arith, h)

  without : object_at h.heap slot ≡ None → bytes_at h.heap slot ≡ None
  without none = ap (λ (p : Option Object). elim p as (λ _. Option (List ℕ)) [ Some o ↦ o.bytes | None ↦ None ]) none

  pub size_none : ((s : ℕ) → C.slot_of_selector h (8 * slot + 7) ≡ Some s → bytes_at h.heap s ≡ None) → None ≡ option_map (length {A = ℕ}) (bytes_at h.heap slot)
  size_none none = turn (object_at h.heap slot) refl
    where
      turn : (p : Option Object) → object_at h.heap slot ≡ p → None ≡ option_map (length {A = ℕ}) (bytes_at h.heap slot)
      turn None there = sym (ap (option_map (length {A = ℕ})) (without there))
      turn (Some o) there = sym (ap (option_map (length {A = ℕ})) (none slot ((names_law h (8 * slot + 7) slot).1.1 (subst (λ (p : Option Object). C.IsSomeAnd p (λ _. 8 * slot + 7 ≡ 8 * slot + 7)) (sym there) refl))))

  pub size_past : C.AreHandles h → 8192 ≤ slot → None ≡ option_map (length {A = ℕ}) (bytes_at h.heap slot)
  size_past are past = turn (object_at h.heap slot) refl
    where
      turn : (p : Option Object) → object_at h.heap slot ≡ p → None ≡ option_map (length {A = ℕ}) (bytes_at h.heap slot)
      turn None there = sym (ap (option_map (length {A = ℕ})) (without there))
      turn (Some o) there = absurd (let few = are.few in let below = (C.numbered h are slot (ap is_some there)).1 in omega (arith, few, below, past))

module _ (heap : Heap) where
  -- whether these bytes have a table's range
  abbrev ranged_by : Option Table → ℕ → Bool
  ranged_by t slot = elim t as (λ _. Bool) [ None ↦ false | Some t ↦ elim (bytes_at heap slot) as (λ _. Bool) [ None ↦ false | Some bytes ↦ nat_le t.hi (length bytes) ] ]

  no_range : (m : FinMap nat_cmp Table) (slot : ℕ) → finmap.get m slot ≡ None → has_range heap m slot ≡ false
  no_range m slot none = ap (λ t. ranged_by t slot) none

  -- whether a table ends in so many bytes
  abbrev ends_in : Table → Option ℕ → Bool
  ends_in t None = false
  ends_in t (Some n) = nat_le t.hi n

  -- a slot's heap has its range where it ends in the object
  pub range_told : (m : FinMap nat_cmp Table) (slot : ℕ) (t : Table) → finmap.get m slot ≡ Some t → (r : Option ℕ) → r ≡ option_map (length {A = ℕ}) (bytes_at heap slot) → ends_in t r ≡ has_range heap m slot
  range_told m slot t kept r size = sym (ap (λ t. ranged_by t slot) kept ∙ turn (bytes_at heap slot) ∙ ap (ends_in t) (sym size))
    where
      turn : (b : Option (List ℕ)) → (elim b as (λ _. Bool) [ None ↦ false | Some bytes ↦ nat_le t.hi (length bytes) ]) ≡ ends_in t (option_map (length {A = ℕ}) b)
      turn None = refl
      turn (Some bytes) = refl

  pub told_none : (m : FinMap nat_cmp Table) (slot : ℕ) → finmap.get m slot ≡ None → false ≡ has_range heap m slot
  told_none m slot none = sym (no_range m slot none)

  left_at : (m : FinMap nat_cmp Table) (slot : ℕ) → finmap.get (left_in heap m) slot ≡ cond (has_range heap m slot) (finmap.get m slot) None
  left_at m slot = C.get-retain_keys m (has_range heap m) slot (λ x t. ap (has_range heap m) (sym (C.nat_cmp-IsAntisymmetric slot x t)))

  -- what a look at a listed slot tells
  pub looked : {X : Type 0} (table : X → Table) (xs ys : List (Option X)) → ys ≡ xs → (live : List ℕ) (i slot : ℕ) → slot ≡ get_or live i 0 → (r b : Bool) → r ≡ has_range heap (tables_of ys table) slot → r ≡ b → has_range heap (tables_of xs table) (get_or live i 0) ≡ b
  looked table xs ys same live i slot at r b told is = (λ j. has_range heap (tables_of (sym same j) table) (sym at j)) ∙ sym told ∙ is

  module _ {X : Type 0} (table : X → Table) (old : FinMap nat_cmp Table) where
    pub swept_none : (heaps : List (Option X)) (live : List ℕ) → C.AreListed heaps live → tables_of heaps table ≡ old → (n : ℕ) → n ≡ length live → AreSwept heap table old n heaps live
    swept_none heaps live listed same n many = record { listed = listed; inside = omega (arith, many); ranged = λ k le lt. absurd (omega (arith, many, le, lt)); left = λ q. inl (ap (λ m. finmap.get m q) same) }

    pub swept_at : (i n : ℕ) → n ≡ i → (heaps : List (Option X)) (live : List ℕ) → AreSwept heap table old i heaps live → AreSwept heap table old n heaps live
    swept_at i n e heaps live is = subst (λ n. AreSwept heap table old n heaps live) (sym e) is

    -- once all have been looked at, what is left is what is to be
    pub swept_all : (heaps : List (Option X)) (live : List ℕ) → AreSwept heap table old 0 heaps live → tables_of heaps table ≡ left_in heap old
    swept_all heaps live is = C.same_map C.nat_cmp_total C.nat_cmp-IsAntisymmetric (tables_of heaps table) (left_in heap old) (λ q. at q ∙ sym (left_at old q))
      where
        -- a slot that has a heap has its range
        has : (q : ℕ) → is_some (get_or heaps q None) ≡ true → has_range heap (tables_of heaps table) q ≡ true
        has q some = let l : IsListed live q = is.listed q some in subst (λ s. has_range heap (tables_of heaps table) s ≡ true) l.2 (is.ranged l.0 (omega arith) l.1)

        none_of : (q : ℕ) → (p : Option X) → get_or heaps q None ≡ p → has_range heap (tables_of heaps table) q ≡ false → finmap.get (tables_of heaps table) q ≡ None
        none_of q None e f = tables_at table heaps q ∙ ap (option_map table) e
        none_of q (Some x) e f = absurd (false≢true (sym f ∙ has q (ap is_some e)))

        at : (q : ℕ) → finmap.get (tables_of heaps table) q ≡ cond (has_range heap old q) (finmap.get old q) None
        at q = elim (is.left q) [
          | inl e ↦ elim (C.cases_Bool (has_range heap old q)) [
            | inl t ↦ e ∙ sym (ap (λ b. cond b (finmap.get old q) None) t)
            | inr f ↦ none_of q (get_or heaps q None) refl (ap (λ t. ranged_by t q) e ∙ f) ∙ sym (ap (λ b. cond b (finmap.get old q) None) f)
          ]
          | inr gone ↦ gone.0 ∙ sym (ap (λ b. cond b (finmap.get old q) None) gone.1)
        ]

    module _ (i : ℕ) (heaps : List (Option X)) (live : List ℕ) (is : AreSwept heap table old (i + 1) heaps live) where
      -- a slot whose heap stays
      pub swept_kept : has_range heap (tables_of heaps table) (get_or live i 0) ≡ true → AreSwept heap table old i heaps live
      swept_kept here = record {
        listed = is.listed;
        inside = let le = is.inside in omega (arith, le);
        ranged = λ k le lt. elim (cases_eq k i) [ inl e ↦ subst (λ k. has_range heap (tables_of heaps table) (get_or live k 0) ≡ true) (sym e) here | inr d ↦ is.ranged k (omega (arith, le, d)) lt ];
        left = is.left;
      }

      -- one whose heap goes
      module _ (gone : has_range heap (tables_of heaps table) (get_or live i 0) ≡ false) (next : List (Option X)) (taken : get_or next (get_or live i 0) None ≡ None) (rest : (q : ℕ) → q ≢ get_or live i 0 → get_or next q None ≡ get_or heaps q None)
          (slots : List ℕ) (many : length slots + 1 ≡ length live) (last : i + 1 < length live → get_or slots i 0 ≡ get_or live (length live - 1) 0) (others : (k : ℕ) → k ≢ i → k + 1 < length live → get_or slots k 0 ≡ get_or live k 0) where
        table_rest : (q : ℕ) → q ≢ get_or live i 0 → finmap.get (tables_of next table) q ≡ finmap.get (tables_of heaps table) q
        table_rest q d = tables_at table next q ∙ ap (option_map table) (rest q d) ∙ sym (tables_at table heaps q)

        table_gone : finmap.get (tables_of next table) (get_or live i 0) ≡ None
        table_gone = tables_at table next (get_or live i 0) ∙ ap (option_map table) taken

        -- those that have their ranges are other slots
        still : (k : ℕ) → i + 1 ≤ k → k < length live → has_range heap (tables_of next table) (get_or live k 0) ≡ true
        still k le lt = elim (cases_eq (get_or live k 0) (get_or live i 0)) [
          | inl e ↦ absurd (false≢true (sym gone ∙ ap (has_range heap (tables_of heaps table)) (sym e) ∙ is.ranged k le lt))
          | inr d ↦ ap (λ t. ranged_by t (get_or live k 0)) (table_rest (get_or live k 0) d) ∙ is.ranged k le lt
        ]

        pub swept_gone : AreSwept heap table old i next slots
        swept_gone = record {
          listed = λ q some. elim (cases_eq q (get_or live i 0)) [
            | inl e ↦ absurd (false≢true (sym (ap is_some (ap (λ k. get_or next k None) e ∙ taken)) ∙ some))
            | inr d ↦ moved q d (is.listed q (sym (ap is_some (rest q d)) ∙ some))
          ];
          inside = let le = is.inside in omega (arith, le, many);
          ranged = λ k le lt. elim (cases_eq k i) [
            | inl e ↦ subst (λ k. has_range heap (tables_of next table) (get_or slots k 0) ≡ true) (sym e) (ap (has_range heap (tables_of next table)) (last (omega (arith, e, lt, many))) ∙ still (length live - 1) (omega (arith, e, lt, many)) (omega (arith, lt, many)))
            | inr d ↦ ap (has_range heap (tables_of next table)) (others k d (omega (arith, lt, many))) ∙ still k (omega (arith, le, d)) (omega (arith, lt, many))
          ];
          left = λ q. elim (cases_eq q (get_or live i 0)) [
            | inl e ↦ inr (ap (finmap.get (tables_of next table)) e ∙ table_gone, ap (has_range heap old) e ∙ was)
            | inr d ↦ elim (is.left q) [ inl same ↦ inl (table_rest q d ∙ same) | inr none ↦ inr (table_rest q d ∙ none.0, none.1) ]
          ];
        }
          where
            was : has_range heap old (get_or live i 0) ≡ false
            was = elim (is.left (get_or live i 0)) [ inl same ↦ ap (λ t. ranged_by t (get_or live i 0)) (sym same) ∙ gone | inr none ↦ none.1 ]

            moved : (q : ℕ) → q ≢ get_or live i 0 → IsListed live q → IsListed slots q
            moved q d l = elim (cases_eq l.0 i) [
              | inl e ↦ absurd (d (sym l.2 ∙ ap (λ k. get_or live k 0) e))
              | inr other ↦ elim (cases_eq (l.0 + 1) (length live)) [
                | inl end ↦ (i, let lt = l.1 in omega (arith, end, many, lt, other, is.inside), last (let lt = l.1 in omega (arith, end, other, is.inside)) ∙ ap (λ k. get_or live k 0) (let e : length live - 1 ≡ l.0 = omega (arith, end) in e) ∙ l.2)
                | inr inner ↦ (l.0, let lt = l.1 in omega (arith, lt, inner, many), others l.0 other (let lt = l.1 in omega (arith, lt, inner)) ∙ l.2)
              ]
            ]
