-- The local heaps in a list by slot, and their tables.
use Rattle.w16_local.proofs
use proofs.Common as C
use proofs.Common.{[], ◌≡◌, ℕ, ◌<◌, ◌≤◌, inl, inr, IsSome, List, ◌∷◌, ◌++◌, length, get_or, set, Option, Some, None, option_map, is_some, refl, sym, ap, ◌∙◌, subst, arith, zero, suc, nat_cmp_total, nat_cmp, same_map, nat_cmp-IsAntisymmetric, cases_eq, false≢true, get_or-set_same}
use proofs.Common.{get_or-set_other, Table, tables_of, AreListed, IsListed}
use Rattle.std.specs.FinMap as finmap

-- nothing is taken where there is none
pub remove_nothing : (m : C.FinMap nat_cmp Table) (k : ℕ) → finmap.get m k ≡ None → finmap.remove m k ≡ m
remove_nothing m k none = same_map nat_cmp_total nat_cmp-IsAntisymmetric (finmap.remove m k) m (λ q. elim (cases_eq q k) [
  | inl e ↦ C.taken_here m k q e ∙ sym none ∙ ap (finmap.get m) (sym e)
  | inr d ↦ C.taken_other m k q d
])

module _ {X : Type 0} where
  -- past the list's end there is none
  pub past : (xs : List (Option X)) (slot : ℕ) → length xs ≤ slot → get_or xs slot None ≡ None
  past [] slot le = refl
  past (d ∷ es) zero le = absurd (omega arith)
  past (d ∷ es) (suc slot) le = past es slot (omega arith)

  within : (xs : List (Option X)) (slot : ℕ) (h : X) → get_or xs slot None ≡ Some h → slot < length xs
  within [] slot h e = cc
  within (y ∷ ys) zero h e = omega arith
  within (y ∷ ys) (suc slot) h e = let rest : slot < length ys = within ys slot h e in omega arith

  -- a look-up inside the list is the same whatever stands for a place outside
  pub default_any : (ys : List (Option X)) (i : ℕ) (a b : Option X) → i < length ys → get_or ys i a ≡ get_or ys i b
  default_any [] i a b lt = absurd (omega arith)
  default_any (y ∷ ys) zero a b lt = refl
  default_any (y ∷ ys) (suc i) a b lt = default_any ys i a b (omega arith)

  -- The tables.
  module _ (table : X → Table) where
    -- a slot's table is its heap's
    pub tables_at : (xs : List (Option X)) (slot : ℕ) → finmap.get (tables_of xs table) slot ≡ option_map table (get_or xs slot None)
    tables_at xs slot = C.get-by_id (λ _ h. table h) xs slot

    -- a list of no heaps
    pub no_tables : (xs : List (Option X)) → ((q : ℕ) → get_or xs q None ≡ None) → tables_of xs table ≡ finmap.empty
    no_tables xs none = same_map nat_cmp_total nat_cmp-IsAntisymmetric (tables_of xs table) finmap.empty (λ q. tables_at xs q ∙ ap (option_map table) (none q) ∙ sym (C.get-empty nat_cmp q))

    -- a slot loses its own
    pub tables_unset : (xs : List (Option X)) (slot : ℕ) (gone : Option X) → gone ≡ None → slot < length xs → tables_of (set xs slot gone) table ≡ finmap.remove (tables_of xs table) slot
    tables_unset xs slot gone none lt = same_map nat_cmp_total nat_cmp-IsAntisymmetric (tables_of (set xs slot gone) table) (finmap.remove (tables_of xs table) slot) (λ q. elim (cases_eq q slot) [
      | inl e ↦ tables_at (set xs slot gone) q ∙ ap (λ k. option_map table (get_or (set xs slot gone) k None)) e ∙ ap (option_map table) (get_or-set_same xs slot gone None lt ∙ none) ∙ sym (C.taken_here (tables_of xs table) slot q e)
      | inr d ↦ tables_at (set xs slot gone) q ∙ ap (option_map table) (get_or-set_other xs slot q gone None d) ∙ sym (tables_at xs q) ∙ sym (C.taken_other (tables_of xs table) slot q d)
    ])

    pub none_past : (xs : List (Option X)) (slot : ℕ) → length xs ≤ slot → finmap.get (tables_of xs table) slot ≡ None
    none_past xs slot le = tables_at xs slot ∙ ap (option_map table) (past xs slot le)

    -- a slot gets one
    pub tables_set : (xs : List (Option X)) (slot : ℕ) (h : X) → slot < length xs → tables_of (set xs slot (Some h)) table ≡ finmap.insert (tables_of xs table) slot (table h)
    tables_set xs slot h lt = same_map nat_cmp_total nat_cmp-IsAntisymmetric (tables_of (set xs slot (Some h)) table) (finmap.insert (tables_of xs table) slot (table h)) (λ q. elim (cases_eq q slot) [
      | inl e ↦ tables_at (set xs slot (Some h)) q ∙ ap (λ k. option_map table (get_or (set xs slot (Some h)) k None)) e ∙ ap (option_map table) (get_or-set_same xs slot (Some h) None lt) ∙ sym (C.inserted_here (tables_of xs table) slot (table h) q e)
      | inr d ↦ tables_at (set xs slot (Some h)) q ∙ ap (option_map table) (get_or-set_other xs slot q (Some h) None d) ∙ sym (tables_at xs q) ∙ sym (C.inserted_other (tables_of xs table) slot (table h) q d)
    ])

    -- a heap is taken out, and another put in its place
    pub tables_replaced : (xs : List (Option X)) (slot : ℕ) (gone : Option X) (h : X) → slot < length xs → tables_of (set (set xs slot gone) slot (Some h)) table ≡ finmap.insert (tables_of xs table) slot (table h)
    tables_replaced xs slot gone h lt = ap (λ ys. tables_of ys table) (C.set-set xs slot gone (Some h)) ∙ tables_set xs slot h lt

    -- A slot that has a table has its heap in the list.
    module _ (xs : List (Option X)) {tables : C.FinMap nat_cmp Table} (shown : tables_of xs table ≡ tables) (slot : ℕ) where
      pub is_table : (p : Option X) → get_or xs slot None ≡ p → finmap.get tables slot ≡ option_map table p
      is_table p there = ap (λ m. finmap.get m slot) (sym shown) ∙ tables_at xs slot ∙ ap (option_map table) there

      -- the same of the heap at a place of the list, whatever stands for one outside
      pub is_there : slot < length xs → (d p : Option X) → p ≡ get_or xs slot d → finmap.get tables slot ≡ option_map table p
      is_there lt d p value = is_table p (default_any xs slot None d lt ∙ sym value)

      module _ (known : IsSome (finmap.get tables slot)) where
        there : (h : X) × (get_or xs slot None ≡ Some h)
        there = turn (get_or xs slot None) refl (subst IsSome (ap (λ m. finmap.get m slot) (sym shown) ∙ tables_at xs slot) known)
          where
            turn : (p : Option X) → get_or xs slot None ≡ p → IsSome (option_map table p) → (h : X) × (get_or xs slot None ≡ Some h)
            turn None e some = cc
            turn (Some h) e some = (h, e)

        pub in_range : slot < length xs
        in_range = within xs slot there.0 there.1

        pub not_none : (d r : Option X) → r ≡ get_or xs slot d → r ≡ None → ⊥
        not_none d r value none = let p : Some there.0 ≡ None = sym there.1 ∙ default_any xs slot None d in_range ∙ sym value ∙ none in cc

        pub here : (d : Option X) (h : X) → get_or xs slot d ≡ Some h → finmap.get tables slot ≡ Some (table h)
        here d h value = is_table (Some h) (default_any xs slot None d in_range ∙ value)

  -- The slots that are listed.
  pub listed_none : (xs : List (Option X)) (slots : List ℕ) → ((q : ℕ) → get_or xs q None ≡ None) → AreListed xs slots
  listed_none xs slots none q some = absurd (false≢true (sym (ap is_some (none q)) ∙ some))

  -- a slot loses its heap
  pub listed_unset : (xs : List (Option X)) (slots : List ℕ) (slot : ℕ) (gone : Option X) → gone ≡ None → slot < length xs → AreListed xs slots → AreListed (set xs slot gone) slots
  listed_unset xs slots slot gone none lt listed q some = elim (cases_eq q slot) [
    | inl e ↦ absurd (false≢true (sym (ap is_some (ap (λ k. get_or (set xs slot gone) k None) e ∙ get_or-set_same xs slot gone None lt ∙ none)) ∙ some))
    | inr d ↦ listed q (sym (ap is_some (get_or-set_other xs slot q gone None d)) ∙ some)
  ]

  -- a slot that has one gets another in its place
  pub listed_replaced : (xs : List (Option X)) (slots : List ℕ) (slot : ℕ) (before : X) (gone : Option X) (h : X) → get_or xs slot None ≡ Some before → AreListed xs slots → AreListed (set (set xs slot gone) slot (Some h)) slots
  listed_replaced xs slots slot before gone h there listed = subst (λ ys. AreListed ys slots) (sym (C.set-set xs slot gone (Some h))) (λ q some. elim (cases_eq q slot) [
    | inl e ↦ listed q (ap is_some (ap (λ k. get_or xs k None) e ∙ there))
    | inr d ↦ listed q (sym (ap is_some (get_or-set_other xs slot q (Some h) None d)) ∙ some)
  ])

  -- a slot gets one, and is listed
  pub listed_put : (xs : List (Option X)) (slots more : List ℕ) (slot : ℕ) (h : X) → AreListed xs slots → ((q : ℕ) → IsListed slots q → IsListed more q) → IsListed more slot → AreListed (set xs slot (Some h)) more
  listed_put xs slots more slot h listed kept is q some = elim (cases_eq q slot) [
    | inl e ↦ subst (IsListed more) (sym e) is
    | inr d ↦ kept q (listed q (sym (ap is_some (get_or-set_other xs slot q (Some h) None d)) ∙ some))
  ]

-- A slot is put behind those that are listed.
pub listed_more : (slots : List ℕ) (slot q : ℕ) → IsListed slots q → IsListed (slots ++ slot ∷ []) q
listed_more slots slot q l = (l.0, omega (arith, l.1, C.length-append slots (slot ∷ [])), C.get_or_append_left slots (slot ∷ []) 0 l.0 l.1 ∙ l.2)

pub listed_last : (slots : List ℕ) (slot : ℕ) → IsListed (slots ++ slot ∷ []) slot
listed_last slots slot = (length slots, omega (arith, C.length-append slots (slot ∷ [])), C.get_or-append_seam slots slot [] 0)
