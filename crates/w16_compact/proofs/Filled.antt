-- A table is filled by one pass.
use Rattle.w16_compact.proofs
use Rattle.std.specs.List.{AllByRecursion as Each}
use proofs.Common.{slice_index, ◌≡◌, ◌≢◌, ℕ, ◌+◌, ◌-◌, ◌<◌, ◌≤◌, Bool, true, false, cond, filter, List, [], ◌∷◌, length, set, refl, sym, ◌∙◌, subst, arith, false≢true, cond-true, cond-false, get_or-set_same, get_or-set_other, Block, is_pinned, block_end, Each-map, Each-filter, AreNamed}
use proofs.Common.{Reached, Tells}
use proofs.Skips.{passed, ids_below}

pub named_filter : (p : Block → Bool) (cap : ℕ) (xs : List Block) → AreNamed cap xs → AreNamed cap (filter p xs)
named_filter p cap [] named = tt
named_filter p cap (x ∷ xs) named = turn (p x) (named_filter p cap xs named.2)
  where
    turn : (b : Bool) → AreNamed cap (filter p xs) → AreNamed cap (cond {A = List Block} b (x ∷ filter p xs) (filter p xs))
    turn true rest = (named.0, Each-filter (λ y. y.id ≢ x.id) p xs (Each-map (λ y. y.id ≢ x.id) (λ y. p y ≡ true → y.id ≢ x.id) (λ y f _. f) xs named.1), rest)
    turn false rest = rest

-- other tables have what these have, but for what is still to be written
pub record AreSettled (rest : List Block) (gap : ℕ) (gap_of rooms gap_of' rooms' : List ℕ) : Type 0 where
  pub gaps : (q : ℕ) → Each (λ y. y.id ≢ q) rest → slice_index gap_of' q ≡ slice_index gap_of q
  pub ended : (q : ℕ) → q ≢ gap → Each (λ y. y.id ≢ q) rest → slice_index rooms' q ≡ slice_index rooms q

module _ (p : Block → Bool) (lo hi cap : ℕ) (xs : List Block) where
  -- what holds before the rest: the whole is told where the rest is
  pub record IsFilled (gap low loose : ℕ) (gap_of rooms : List ℕ) (rest : List Block) : Type 0 where
    pub named : AreNamed cap rest
    pub other : Each (λ y. y.id ≢ gap) rest
    pub known : gap ≤ cap
    pub told : (gap_of' rooms' : List ℕ) → AreSettled rest gap gap_of rooms gap_of' rooms' → Tells hi low loose gap (filter p rest) gap_of' rooms' → Tells hi lo 0 cap (filter p xs) gap_of' rooms'

  pub fill_start : (gap low : ℕ) (gap_of rooms : List ℕ) → gap ≡ cap → low ≡ lo → AreNamed cap xs → IsFilled gap low 0 gap_of rooms xs
  fill_start gap low gap_of rooms same first named =
      subst (λ (g : ℕ). IsFilled g low 0 gap_of rooms xs) (sym same) (subst (λ (a : ℕ). IsFilled cap a 0 gap_of rooms xs) (sym first) (record {
        named = named;
        other = Each-map (λ (y : Block). y.id < cap) (λ y. y.id ≢ cap) (λ y lt e. omega arith) xs (ids_below cap xs named);
        known = omega arith;
        told = λ gap_of' rooms' settled told. told;
      }))

  module _ (x : Block) (rest : List Block) (gap : ℕ) (r : Reached) (gap_of rooms : List ℕ) (now : IsFilled gap r.low r.loose gap_of rooms (x ∷ rest)) where
    pub fill_skipped : p x ≡ false → IsFilled gap r.low r.loose gap_of rooms rest
    fill_skipped e = record {
      named = now.named.2;
      other = now.other.1;
      known = now.known;
      told = λ gap_of' rooms' settled told. now.told gap_of' rooms'
          (record { gaps = λ q none. settled.gaps q none.1; ended = λ q other none. settled.ended q other none.1 })
          (subst (λ (ys : List Block). Tells hi r.low r.loose gap ys gap_of' rooms') (sym (cond-false (p x) (x ∷ filter p rest) (filter p rest) e)) told);
    }

    pub fill_loose : p x ≡ true → is_pinned x ≡ false → x.id < length gap_of → (r' : Reached) → r' ≡ passed r x → IsFilled gap r'.low r'.loose (set gap_of x.id gap) rooms rest
    fill_loose e k lt r' is = subst (λ (v : Reached). IsFilled gap v.low v.loose (set gap_of x.id gap) rooms rest) (sym (is ∙ cond-false (is_pinned x) _ _ k)) now'
      where
        now' : IsFilled gap r.low (r.loose + x.size) (set gap_of x.id gap) rooms rest
        now' = record {
          named = now.named.2;
          other = now.other.1;
          known = now.known;
          told = λ gap_of' rooms' settled told. now.told gap_of' rooms'
              (record {
                gaps = λ q none. settled.gaps q none.1 ∙ get_or-set_other gap_of x.id q gap 0 (λ s. none.0 (sym s));
                ended = λ q other none. settled.ended q other none.1;
              })
              (subst (λ (ys : List Block). Tells hi r.low r.loose gap ys gap_of' rooms') (sym (cond-true (p x) (x ∷ filter p rest) (filter p rest) e))
              ((λ t. absurd (false≢true (sym k ∙ t))), (λ f. (settled.gaps x.id now.named.1 ∙ get_or-set_same gap_of x.id gap 0 lt, told))));
        }

    pub fill_pinned : p x ≡ true → is_pinned x ≡ true → gap < length rooms → r.low + r.loose ≤ x.at → (room : ℕ) → room ≡ x.at - r.low - r.loose → (r' : Reached) → r' ≡ passed r x
        → IsFilled x.id r'.low r'.loose gap_of (set rooms gap room) rest
    fill_pinned e k lt fits room made r' is = subst (λ (v : Reached). IsFilled x.id v.low v.loose gap_of (set rooms gap room) rest) (sym (is ∙ cond-true (is_pinned x) _ _ k)) now'
      where
        now' : IsFilled x.id (block_end x) 0 gap_of (set rooms gap room) rest
        now' = record {
          named = now.named.2;
          other = now.named.1;
          known = let one = now.named.0 in omega arith;
          told = λ gap_of' rooms' settled told. now.told gap_of' rooms'
              (record {
                gaps = λ q none. settled.gaps q none.1;
                ended = λ q other none. settled.ended q (λ s. none.0 (sym s)) none.1 ∙ get_or-set_other rooms gap q room 0 other;
              })
              (subst (λ (ys : List Block). Tells hi r.low r.loose gap ys gap_of' rooms') (sym (cond-true (p x) (x ∷ filter p rest) (filter p rest) e)) (
                (λ t.
                    let here : slice_index rooms' gap ≡ room = settled.ended gap (λ s. now.other.0 (sym s)) now.other.1 ∙ get_or-set_same rooms gap room 0 lt in
                    (omega arith, told)),
                (λ f. absurd (false≢true (sym f ∙ k))),
              ));
        }

  pub fill_ended : (gap low loose : ℕ) (gap_of rooms rooms' : List ℕ) (room : ℕ) (rest : List Block) → rest ≡ [] → IsFilled gap low loose gap_of rooms rest → low + loose ≤ hi → gap < length rooms → room ≡ hi - low - loose
      → rooms' ≡ set rooms gap room → Tells hi lo 0 cap (filter p xs) gap_of rooms'
  fill_ended gap low loose gap_of rooms rooms' room rest none now fits lt made is =
      subst (λ (rs : List ℕ). Tells hi lo 0 cap (filter p xs) gap_of rs) (sym is)
      (last (subst (IsFilled gap low loose gap_of rooms) none now))
    where
      last : IsFilled gap low loose gap_of rooms [] → Tells hi lo 0 cap (filter p xs) gap_of (set rooms gap room)
      last end = end.told gap_of (set rooms gap room)
          (record { gaps = λ q _. refl; ended = λ q other _. get_or-set_other rooms gap q room 0 other })
          (let now = get_or-set_same rooms gap room 0 lt in omega arith)
