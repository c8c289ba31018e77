-- Entries are read exactly where they are.
use Rattle.w16_ne.proofs
use proofs.Common.{◌≡◌, ℕ, zero, suc, ◌+◌, ◌*◌, ◌≤◌, ◌<◌, ◌⊎◌, inl, inr, Bool, true, false, ◌||◌, cond, List, [], ◌∷◌, ◌++◌, length, length-append, Option, Some, None, Ok, Err, refl, sym, ap, subst, ◌∙◌, arith, flat_map, ◌==◌, slice_index, nat_lt, nat_le, nat_tests, InSegment, Constant}
use proofs.Common.{Reading, ◌>>=◌, each, entry_size, bundle_end, is_astray, sound_entry, bundle_in, bundles_from, entries_in, IsInside, AreEntries, AreBundles, IsEntryTable}
use proofs.Bounds.{ends_by_place, ends_by_byte, goes_further, is_sound}
use proofs.SegmentsFormat.{bind_ok, passed}
use Rattle.w16_ne.specs.{declared.entry_table.Entry.Entry, Entries.entry_in}
use Rattle.w16_ne.specs.declared.fault.NeFault.TheVariants as faults

is_inside : (segments : ℕ) (e : Option Entry) → is_astray segments e ≡ false → IsInside segments e
is_inside segments None h = tt
is_inside segments (Some (Constant value)) h = tt
is_inside segments (Some (InSegment segment offset)) h = (grind (arith, nat_tests), grind (arith, nat_tests))

not_astray : (segments : ℕ) (e : Option Entry) → IsInside segments e → is_astray segments e ≡ false
not_astray segments None h = refl
not_astray segments (Some (Constant value)) h = refl
not_astray segments (Some (InSegment segment offset)) h = grind (arith, nat_tests, h.0, h.1)

module _ (table : List ℕ) (segments indicator at : ℕ) where
  abbrev place : ℕ → ℕ
  place i = at + i * entry_size indicator

  abbrev item : ℕ → Reading (Option Entry)
  item i = sound_entry segments (entry_in table indicator (place i))

  next_place : (i : ℕ) → place (i + 1) ≡ place i + entry_size indicator
  next_place i = omega arith

  pub items_are : (n i : ℕ) (es : List (Option Entry)) → each item n i ≡ Ok es → (length es ≡ n) × AreEntries table segments indicator (place i) es
  items_are zero i es h = let same : ◌≡◌ {A = List (Option Entry)} [] es = cc in subst (λ xs. (length xs ≡ 0) × AreEntries table segments indicator (place i) xs) same (refl, tt)
  items_are (suc n) i es h =
      let one = bind_ok (item i) (λ first. each item n (i + 1) >>= λ others. Ok (first ∷ others)) es h in
      let two = bind_ok (each item n (i + 1)) (λ others. Ok (one.0 ∷ others)) es one.1.1 in
      let same : one.0 ∷ two.0 ≡ es = cc (two.1.1) in
      let sound = passed (is_astray segments (entry_in table indicator (place i))) faults.BadTable (Ok (entry_in table indicator (place i))) one.0 one.1.0 in
      let is : entry_in table indicator (place i) ≡ one.0 = cc (sound.1) in
      let rest = items_are n (i + 1) two.0 two.1.0 in
      subst (λ xs. (length xs ≡ suc n) × AreEntries table segments indicator (place i) xs) same
      (ap (λ k. suc k) rest.0, (sym is, subst (λ e. IsInside segments e) is (is_inside segments (entry_in table indicator (place i)) sound.0), subst (λ p. AreEntries table segments indicator p two.0) (next_place i) rest.1))

  pub items_read : (es : List (Option Entry)) (i : ℕ) → AreEntries table segments indicator (place i) es → each item (length es) i ≡ Ok es
  items_read [] i are = refl
  items_read (e ∷ es) i are =
      let rest = items_read es (i + 1) (subst (λ p. AreEntries table segments indicator p es) (sym (next_place i)) are.2) in
      let sound : is_astray segments (entry_in table indicator (place i)) ≡ false = rw (← are.0) (not_astray segments e are.1) in
      rw (sound, rest, ← are.0) refl

module _ (table : List ℕ) (segments : ℕ) where
  -- what is read from an index on, after so many ordinals
  record Read (at ordinals : ℕ) (es : List (Option Entry)) : Type 0 where
    bundles : List (List (Option Entry))
    are : AreBundles table segments at bundles
    whole : es ≡ flat_map (λ b. b) bundles
    few : ordinals ≤ 65535 → ordinals + length es ≤ 65535

  over : (at ordinals : ℕ) (es : List (Option Entry)) → (length table ≤ at) ⊎ (slice_index table at ≡ 0) → ◌≡◌ {A = Reading (List (Option Entry))} (Ok []) (Ok es) → Read at ordinals es
  over at ordinals es end h = let same : ◌≡◌ {A = List (Option Entry)} [] es = cc in subst (λ xs. Read at ordinals xs) same (record { bundles = []; are = end; whole = refl; few = λ le. omega (arith, le) })

  pub ended : (at : ℕ) (b : Bool) → nat_le (length table) at ≡ b → (b || slice_index table at == 0) ≡ true → (length table ≤ at) ⊎ (slice_index table at ≡ 0)
  ended at true q h = inl (grind (arith, nat_tests, q))
  ended at false q h = inr (grind (arith, nat_tests, h))

  first_bundle : (indicator count at : ℕ) (es : List (Option Entry)) → bundle_in table segments indicator count at ≡ Ok es → (length es ≡ count) × AreEntries table segments indicator at es
  unfolding bundle_in
  first_bundle indicator count at es h =
      let all = items_are table segments indicator at count 0 es h in
      let here : at + 0 * entry_size indicator ≡ at = omega arith in
      (all.0, subst (λ p. AreEntries table segments indicator p es) here all.1)

  bundle_read : (indicator at : ℕ) (es : List (Option Entry)) → AreEntries table segments indicator at es → bundle_in table segments indicator (length es) at ≡ Ok es
  unfolding bundle_in
  bundle_read indicator at es are =
      let here : at + 0 * entry_size indicator ≡ at = omega arith in
      items_read table segments indicator at es 0 (subst (λ p. AreEntries table segments indicator p es) (sym here) are)

  abbrev bad : ℕ → ℕ → Bool
  bad at ordinals = nat_lt (length table) (bundle_end table at) || nat_lt 65535 (ordinals + slice_index table at)

  abbrev from : ℕ → ℕ → ℕ → Reading (List (Option Entry))
  from n at ordinals = bundle_in table segments (slice_index table (at + 1)) (slice_index table at) (at + 2) >>= λ entries. bundles_from table segments n (bundle_end table at) (ordinals + slice_index table at) >>= λ others. Ok (entries ++ others)

  turn : (n at ordinals : ℕ) (es : List (Option Entry)) → ((others : List (Option Entry)) → bundles_from table segments n (bundle_end table at) (ordinals + slice_index table at) ≡ Ok others → Read (bundle_end table at) (ordinals + slice_index table at) others)
      → (b : Bool) → (nat_le (length table) at || slice_index table at == 0) ≡ b → cond b (Ok []) (cond (bad at ordinals) (Err faults.BadTable) (from n at ordinals)) ≡ Ok es → Read at ordinals es
  turn n at ordinals es more true q h = over at ordinals es (ended at (nat_le (length table) at) refl q) h
  turn n at ordinals es more false q h =
      let sound = passed (bad at ordinals) faults.BadTable (from n at ordinals) es h in
      let one = bind_ok (bundle_in table segments (slice_index table (at + 1)) (slice_index table at) (at + 2)) (λ entries. bundles_from table segments n (bundle_end table at) (ordinals + slice_index table at) >>= λ others. Ok (entries ++ others)) es sound.1 in
      let two = bind_ok (bundles_from table segments n (bundle_end table at) (ordinals + slice_index table at)) (λ others. Ok (one.0 ++ others)) es one.1.1 in
      let same : one.0 ++ two.0 ≡ es = cc (two.1.1) in
      let first = first_bundle (slice_index table (at + 1)) (slice_index table at) (at + 2) one.0 one.1.0 in
      let rest = more two.0 two.1.0 in
      let some : 0 < slice_index table at = grind (arith, nat_tests, q) in
      let inside : bundle_end table at ≤ length table = grind (arith, nat_tests, sound.0) in
      let few : ordinals + slice_index table at ≤ 65535 = grind (arith, nat_tests, sound.0) in
      subst (λ xs. Read at ordinals xs) same (record {
        bundles = one.0 ∷ rest.bundles;
        are = (record { some = rw first.0 some; count = sym first.0; inside = rw first.0 inside; are = first.1 }, rw first.0 rest.are);
        whole = ap (λ xs. one.0 ++ xs) rest.whole;
        few = λ le. omega (arith, length-append one.0 two.0, first.0, rest.few few);
      })

  read_are : (n at ordinals : ℕ) (es : List (Option Entry)) → length table ≤ at + n → bundles_from table segments n at ordinals ≡ Ok es → Read at ordinals es
  read_are zero at ordinals es le h = over at ordinals es (inl (omega arith)) h
  read_are (suc n) at ordinals es le h = turn n at ordinals es (λ others. read_are n (bundle_end table at) (ordinals + slice_index table at) others (omega arith)) (nat_le (length table) at || slice_index table at == 0) refl h

  are_over : (n at ordinals : ℕ) → (length table ≤ at) ⊎ (slice_index table at ≡ 0) → bundles_from table segments (suc n) at ordinals ≡ Ok []
  are_over n at ordinals (inl le) = let end = ends_by_place (length table) at (slice_index table at) le in rw end refl
  are_over n at ordinals (inr none) = let end = ends_by_byte (length table) at (slice_index table at) none in rw end refl

  are_read : (bs : List (List (Option Entry))) (n at ordinals : ℕ) → length table ≤ at + n → ordinals + length (flat_map (λ b. b) bs) ≤ 65535 → AreBundles table segments at bs
      → bundles_from table segments n at ordinals ≡ Ok (flat_map (λ b. b) bs)
  are_read [] zero at ordinals le few are = refl
  are_read [] (suc n) at ordinals le few are = are_over n at ordinals are
  are_read (b ∷ bs) zero at ordinals le few are = absurd (omega (arith, are.0.inside))
  are_read (b ∷ bs) (suc n) at ordinals le few are =
      let is = are.0 in
      let size = entry_size (slice_index table (at + 1)) in
      let long = length-append b (flat_map (λ x. x) bs) in
      let further : (nat_le (length table) at || length b == 0) ≡ false = goes_further (length table) at (length b) (omega (arith, is.inside)) (λ e. omega (arith, is.some, e)) in
      let sound : (nat_lt (length table) (at + 2 + length b * size) || nat_lt 65535 (ordinals + length b)) ≡ false = is_sound (length table) (at + 2 + length b * size) (ordinals + length b) is.inside (omega (arith, long, few)) in
      let bundle = bundle_read (slice_index table (at + 1)) (at + 2) b is.are in
      let rest = are_read bs n (at + 2 + length b * size) (ordinals + length b) (omega (arith, le)) (omega (arith, long, few)) are.1 in
      rw (is.count, further, sound, bundle, rest) refl

  pub entries_format : (es : List (Option Entry)) → (entries_in table segments ≡ Ok es → IsEntryTable table segments es) × (IsEntryTable table segments es → entries_in table segments ≡ Ok es)
  unfolding entries_in
  entries_format es = (
    λ h. let r = read_are (length table) 0 0 es (omega arith) h in record { bundles = r.bundles; are = r.are; whole = r.whole; few = omega (arith, r.few (omega arith)) },
    λ is. are_read is.bundles (length table) 0 0 (omega arith) (omega (arith, ap length is.whole, is.few)) is.are ∙ ap (λ xs. Ok xs) (sym is.whole),
  )
