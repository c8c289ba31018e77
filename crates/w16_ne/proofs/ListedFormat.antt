-- Names of a table that has a length are read exactly where they are.
use Rattle.w16_ne.proofs
use proofs.Common as C
use proofs.Common.{◌≡◌, ℕ, zero, suc, ◌+◌, ◌≤◌, ◌<◌, ◌⊎◌, inl, inr, Bool, true, false, cond, List, [], ◌∷◌, length, take, drop, Ok, Err, refl, sym, subst, arith, ◌>>=◌, Entry, size, names_in, table_names, AreListed}
use proofs.Bounds.{ends_by_place, ends_by_byte, goes_further, is_inside}
use proofs.SegmentsFormat.{bind_ok, passed}
use proofs.{Listed.is_end, Listed.here, EntriesFormat.ended}
use Rattle.w16_ne.specs.declared.fault.NeFault.TheVariants as faults

module _ (table : List ℕ) where
  abbrev count : ℕ → ℕ
  count at = C.slice_index table at

  long : (at : ℕ) → at + 3 + count at ≤ length table → length (take (count at) (drop (at + 1) table)) ≡ count at
  long at le = omega (arith, C.length-take (count at) (drop (at + 1) table), C.length-drop (at + 1) table, le)

  here_is : (at : ℕ) → at + 3 + count at ≤ length table → 0 < count at → C.IsName table at (here table at)
  here_is at le some =
      let full = long at le in
      record { inside = omega (arith, full, le); some = rw full some; len = sym full; text = rw full refl; ordinal = rw full refl }

  over : (at : ℕ) (es : List Entry) → (length table ≤ at) ⊎ (count at ≡ 0) → ◌≡◌ {A = C.Reading (List Entry)} (Ok []) (Ok es) → AreListed table at es
  over at es end h = let same : ◌≡◌ {A = List Entry} [] es = cc in subst (λ xs. AreListed table at xs) same end

  turn : (n at : ℕ) (es : List Entry) → ((others : List Entry) → names_in table n (at + 3 + count at) ≡ Ok others → AreListed table (at + 3 + count at) others)
      → (b : Bool) → is_end table at ≡ b → cond b (Ok []) (cond (C.nat_lt (length table) (at + 3 + count at)) (Err faults.BadTable) (names_in table n (at + 3 + count at) >>= λ others. Ok (here table at ∷ others))) ≡ Ok es → AreListed table at es
  turn n at es more true q h = over at es (ended table 0 at (C.nat_le (length table) at) refl q) h
  turn n at es more false q h =
      let sound = passed (C.nat_lt (length table) (at + 3 + count at)) faults.BadTable (names_in table n (at + 3 + count at) >>= λ others. Ok (here table at ∷ others)) es h in
      let one = bind_ok (names_in table n (at + 3 + count at)) (λ others. Ok (here table at ∷ others)) es sound.1 in
      let same : here table at ∷ one.0 ≡ es = cc (one.1.1) in
      let inside : at + 3 + count at ≤ length table = grind (arith, C.nat_tests, sound.0) in
      let some : 0 < count at = grind (arith, C.nat_tests, q) in
      let next : at + 3 + count at ≡ at + size (here table at) = omega (arith, long at inside) in
      subst (λ xs. AreListed table at xs) same (here_is at inside some, subst (λ p. AreListed table p one.0) next (more one.0 one.1.0))

  read_are : (n at : ℕ) (es : List Entry) → length table ≤ at + n → names_in table n at ≡ Ok es → AreListed table at es
  read_are zero at es le h = over at es (inl (omega arith)) h
  read_are (suc n) at es le h = turn n at es (λ others. read_are n (at + 3 + count at) others (omega arith)) (is_end table at) refl h

  are_over : (n at : ℕ) → (length table ≤ at) ⊎ (count at ≡ 0) → names_in table (suc n) at ≡ Ok []
  are_over n at (inl le) = let end = ends_by_place (length table) at (count at) le in rw end refl
  are_over n at (inr none) = let end = ends_by_byte (length table) at (count at) none in rw end refl

  are_read : (es : List Entry) (n at : ℕ) → length table ≤ at + n → AreListed table at es → names_in table n at ≡ Ok es
  are_read [] zero at le are = refl
  are_read [] (suc n) at le are = are_over n at are
  are_read (e ∷ es) zero at le are = absurd (omega (arith, are.0.inside))
  are_read (e ∷ es) (suc n) at le are =
      let is = are.0 in
      let further = goes_further (length table) at (length e.0) (omega (arith, is.inside)) (λ none. omega (arith, is.some, none)) in
      let sound = is_inside (length table) (at + 3 + length e.0) (omega (arith, is.inside)) in
      let next : at + size e ≡ at + 3 + length e.0 = omega arith in
      let rest = are_read es n (at + 3 + length e.0) (omega (arith, le)) (subst (λ p. AreListed table p es) next are.1) in
      rw (is.len, further, sound, rest, is.text, is.ordinal) refl

  pub listed_are : (es : List Entry) → table_names table ≡ Ok es → AreListed table 0 es
  unfolding table_names
  listed_are es h = read_are (length table) 0 es (omega arith) h

  pub listed_read : (es : List Entry) → AreListed table 0 es → table_names table ≡ Ok es
  unfolding table_names
  listed_read es are = are_read es (length table) 0 (omega arith) are
