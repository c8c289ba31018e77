-- How many import what each handle names, as a table changes.
use Rattle.w16_loader.proofs
use proofs.Common as C
use proofs.Common.{◌≡◌, ℕ, zero, suc, ◌+◌, ◌<◌, ◌≤◌, ◌==◌, ◌&&◌, Bool, true, false, not, cond, List, [], ◌∷◌, length, get_or, set, Option, Some, None, refl, sym, ap, ◌∙◌, arith, option_map, by_id, importers_among, imports, Named, Entry, named_of, registered, FIRST_MODULE, MOST_MODULES}
use proofs.Common.{AreCounts, IsTable, counted_of, length-replicate, get_or-replicate, subst}
use proofs.Registered.{many_from, named_inside, named_set, named_unset, none_listed, set_table}
use proofs.Uses.{loaded_in}
use Rattle.std.proofs.{lemmas.List.Sums.count_by-le-length, lemmas.List.set-set}
use Rattle.std.specs.FinMap as finmap

none : (b : Bool) → cond {A = ℕ} (b && false) 1 0 ≡ 0
none true = refl
none false = refl

abbrev imports_at : Option Named → ℕ → Bool
imports_at None q = false
imports_at (Some n) q = imports n q

module _ {A : Type 0} where
  -- 1 where what stands at a place imports what another handle names
  abbrev pub one_of : ℕ → ℕ → Option (Entry A) → ℕ
  one_of q place o = cond (not (place == q) && imports_at (option_map named_of o) q) 1 0

  first_counted : (q i : ℕ) (o : Option (Entry A)) (es : List (Option (Entry A))) → importers_among (by_id (λ _ e. named_of e) i (o ∷ es)) q ≡ one_of q i o + importers_among (by_id (λ _ e. named_of e) (i + 1) es) q
  first_counted q i None es = omega (arith, none (not (i == q)))
  first_counted q i (Some e) es = C.sum_by-cons (λ (x : ℕ × Named). cond (not (x.0 == q) && imports x.1 q) 1 0) (i, named_of e) (by_id (λ _ e. named_of e) (i + 1) es)

  counted_set : (q i j place : ℕ) (es : List (Option (Entry A))) (o : Option (Entry A)) → j ≡ i + place → place < length es
      → importers_among (by_id (λ _ e. named_of e) i (set es place o)) q + one_of q j (get_or es place None) ≡ importers_among (by_id (λ _ e. named_of e) i es) q + one_of q j o
  counted_set q i j place [] o e lt = absurd (omega arith)
  counted_set q i j zero (x ∷ es) o e lt = let same : i ≡ j = omega arith in rw (sym same) (omega (arith, first_counted q i o es, first_counted q i x es))
  counted_set q i j (suc p) (x ∷ es) o e lt = omega (arith, first_counted q i x es, first_counted q i x (set es p o), counted_set q (i + 1) j p es o (omega arith) (omega arith))

  pub few_import : (es : List (Option (Entry A))) (q : ℕ) → importers_among (C.listed es) q ≤ length es
  few_import es q = omega (arith, count_by-le-length (λ (x : ℕ × Named). not (x.0 == q) && imports x.1 q) (C.listed es), many_from 0 es, count_by-le-length C.is_some es)

  pub new_counts : (es : List (Option (Entry A))) (counts : List ℕ) → es ≡ C.replicate (FIRST_MODULE + MOST_MODULES) None → counts ≡ C.replicate (FIRST_MODULE + MOST_MODULES) 0 → AreCounts es counts
  new_counts es counts e f = record {
    many = ap length f ∙ length-replicate {A = ℕ} (FIRST_MODULE + MOST_MODULES) 0;
    each = λ q lt. ap (λ l. get_or l q 0) f ∙ get_or-replicate {A = ℕ} (FIRST_MODULE + MOST_MODULES) q 0 0 lt ∙ ap (λ l. importers_among l q) (sym (none_listed 0 es (FIRST_MODULE + MOST_MODULES) e));
  }

  module _ {es : List (Option (Entry A))} {counts : List ℕ} (is : IsTable es × AreCounts es counts) (place : ℕ) where
    pub few : (q : ℕ) → q < FIRST_MODULE + MOST_MODULES → get_or counts q 0 ≤ FIRST_MODULE + MOST_MODULES
    few q inside = omega (arith, is.1.each q inside, few_import es q, is.0.many)

    module _ (o : Option (Entry A)) (first : FIRST_MODULE ≤ place) (lt : place < length es) (new : List ℕ) (many : length new ≡ FIRST_MODULE + MOST_MODULES) where
      recounted : ((q : ℕ) → q < FIRST_MODULE + MOST_MODULES → get_or new q 0 + one_of q place (get_or es place None) ≡ get_or counts q 0 + one_of q place o) → IsTable (set es place o) × AreCounts (set es place o) new
      recounted step = (
        set_table es place o first is.0,
        record {
          many = many;
          each = λ q inside. omega (arith, step q inside, counted_set q 0 place place es o (omega arith) lt, is.1.each q inside);
        },
      )

    -- an entry comes to a place that was free
    pub put_counts : (e : Entry A) {entries : List (Option (Entry A))} (imported new : List ℕ) → FIRST_MODULE ≤ place → place < length es → get_or es place None ≡ None → entries ≡ set es place (Some e)
        → ((q : ℕ) → C.is_member q imported ≡ imports (named_of e) q) → length new ≡ FIRST_MODULE + MOST_MODULES
        → ((q : ℕ) → q < FIRST_MODULE + MOST_MODULES → get_or new q 0 + counted_of place [] q ≡ get_or counts q 0 + counted_of place imported q) → IsTable entries × AreCounts entries new
    put_counts e imported new first lt free put same many each = subst (λ es. IsTable es × AreCounts es new) (sym put) (recounted (Some e) first lt new many (λ q inside.
        ap (λ o. get_or new q 0 + one_of q place o) free ∙ each q inside ∙ ap (λ b. get_or counts q 0 + cond (not (place == q) && b) 1 0) (same q)))

    -- a module is at a place
    module _ {m : C.Module} (found : Some m ≡ C.module_in (option_map named_of (get_or es place None))) where
      pub inside : (FIRST_MODULE ≤ place) × (place < FIRST_MODULE + MOST_MODULES)
      inside = named_inside es place (Some m) (λ x. x) is.0 found

      has_place : place < length es
      has_place = omega (arith, inside, is.0.many)

      one_is : (q : ℕ) → one_of q place (get_or es place None) ≡ counted_of place m.imports q
      one_is q = ap (λ n. cond {A = ℕ} (not (place == q) && imports_at n q) 1 0) (loaded_in (option_map named_of (get_or es place None)) m (sym found))

      -- it goes
      module _ {imported : List ℕ} (same : imported ≡ m.imports) where
        counted_is : (q : ℕ) → one_of q place (get_or es place None) ≡ counted_of place imported q
        counted_is q = one_is q ∙ ap (λ l. counted_of place l q) (sym same)

        pub was_counted : (q : ℕ) → q < FIRST_MODULE + MOST_MODULES → counted_of place imported q ≤ get_or counts q 0
        was_counted q lt = omega (arith, counted_is q, counted_set q 0 place place es None (omega arith) has_place, none (not (place == q)), is.1.each q lt)

        pub gone_counts : {entries : List (Option (Entry A))} (new : List ℕ) → entries ≡ set es place None → length new ≡ FIRST_MODULE + MOST_MODULES
            → ((q : ℕ) → q < FIRST_MODULE + MOST_MODULES → get_or new q 0 + counted_of place imported q ≡ get_or counts q 0 + counted_of place [] q) → IsTable entries × AreCounts entries new
        gone_counts new gone many each = subst (λ es. IsTable es × AreCounts es new) (sym gone) (recounted None inside.0 has_place new many (λ q lt. ap (λ n. get_or new q 0 + n) (counted_is q) ∙ each q lt))

      pub gone_named : {old : C.Modules} {entries : List (Option (Entry A))} → registered es ≡ old → entries ≡ set es place None → registered entries ≡ finmap.remove old place
      gone_named view gone = ap registered gone ∙ named_unset es place has_place ∙ ap (λ x. finmap.remove x place) view

      -- it is put back, and imports what it did
      module _ {taken entries : List (Option (Entry A))} (e : Entry A) (gone : taken ≡ set es place None) (put : entries ≡ set taken place (Some e)) where
        again : entries ≡ set es place (Some e)
        again = put ∙ ap (λ l. set l place (Some e)) gone ∙ set-set es place None (Some e)

        pub again_counts : (other : C.Module) → named_of e ≡ C.Loaded other → other.imports ≡ m.imports → IsTable entries × AreCounts entries counts
        again_counts other named same = subst (λ es. IsTable es × AreCounts es counts) (sym again) (recounted (Some e) inside.0 has_place counts is.1.many (λ q lt.
            ap (λ n. get_or counts q 0 + n) (one_is q ∙ ap (λ l. counted_of place l q) (sym same) ∙ ap (λ n. cond {A = ℕ} (not (place == q) && imports n q) 1 0) (sym named))))

        pub again_named : {old : C.Modules} → registered es ≡ old → registered entries ≡ finmap.insert (finmap.remove old place) place (named_of e)
        again_named view =
            let lt : place < length (set es place None) = omega (arith, has_place, C.length-set es place None) in
            ap registered put ∙ ap (λ l. registered (set l place (Some e))) gone ∙ named_set (set es place None) place e lt
            ∙ ap (λ x. finmap.insert x place (named_of e)) (named_unset es place has_place ∙ ap (λ x. finmap.remove x place) view)
