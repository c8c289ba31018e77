-- An entry that comes to a place, or goes from one.
use Rattle.std.proofs.Common.{◌≡◌, ◌≢◌, ℕ, zero, suc, ◌+◌, ◌<◌, ◌≤◌, List, [], ◌∷◌, length, get_or, set, replicate, Option, Some, None, is_some, cond, count_by, inl, inr, refl, sym, ap, ◌∙◌, arith, OnSome}
use Rattle.std.proofs.lemmas.List.{get_or-set_same, get_or-set_other, get_or_past, length-map, length-set, map-set, set-get_or}
use Rattle.std.proofs.lemmas.List.Sums.{sum_by-set, sum_by-cons, count_by-le-length}
use Rattle.std.proofs.lemmas.Grind.{common_steps}
use Rattle.std.proofs.{Math.ListN.get_or-map, lemmas.Bool.cases_eq}
use Rattle.slab.specs.Slab.{Slab, get, ContainsKey, slab_len, HasRoomFor, Updates}
use Rattle.w16_loader.specs.Places.{under, placed, IsKeyed}

count_set : (xs : List (Option ℕ)) (i : ℕ) (was now : Option ℕ) → i < length xs → get_or xs i None ≡ was → count_by is_some (set xs i now) + cond (is_some was) 1 0 ≡ count_by is_some xs + cond (is_some now) 1 0
count_set xs i was now lt e = rw e at (sum_by-set (λ x. cond (is_some x) 1 0) xs i now None lt)

-- nothing stands where there is no key
pub none_placed : {T : Type 0} (slab : Slab T) (n : ℕ) → placed slab (replicate n None) ≡ replicate n None
none_placed slab zero = refl
none_placed slab (suc n) = ap (λ l. None ∷ l) (none_placed slab n)

pub new_keyed : {T : Type 0} (slab : Slab T) (keys : List (Option ℕ)) (n : ℕ) → keys ≡ replicate n None → slab.slots ≡ [] → n ≤ slab.capacity → IsKeyed slab keys
new_keyed slab keys n e empty room = grind (arith, common_steps)

-- as many places are taken as have keys
pub counted : {T : Type 0} (slab : Slab T) (keys : List (Option ℕ)) → ((q k : ℕ) → get_or keys q None ≡ Some k → ContainsKey slab k) → count_by is_some (placed slab keys) ≡ count_by is_some keys
counted slab [] there = refl
counted slab (k ∷ keys) there = grind (arith, sum_by-cons (λ x. cond (is_some x) 1 0) k keys, sum_by-cons (λ x. cond (is_some x) 1 0) (under slab k) (placed slab keys), counted slab keys (λ q. there (suc q)), there 0)

module _ {T : Type 0} {slab new : Slab T} {key : ℕ} {slot : Option T} (updates : Updates slab new key slot) where
  placed_other : (keys : List (Option ℕ)) → ((q : ℕ) → get_or keys q None ≢ Some key) → placed new keys ≡ placed slab keys
  placed_other [] none = refl
  placed_other (None ∷ keys) none = ap (λ l. None ∷ l) (placed_other keys (λ q. none (suc q)))
  placed_other (Some k ∷ keys) none = let first = updates.others k (λ e. none 0 (ap Some e)) in let rest = placed_other keys (λ q. none (suc q)) in cc

module _ {T : Type 0} {slab : Slab T} {keys : List (Option ℕ)} (is : IsKeyed slab keys) (place : ℕ) where
  placed_at : get_or (placed slab keys) place None ≡ under slab (get_or keys place None)
  placed_at = get_or-map (under slab) keys place None

  free_key : (k : Option ℕ) → get_or keys place None ≡ k → under slab k ≡ None → k ≡ None
  free_key None e none = refl
  free_key (Some k) e none = let has = is.there place k e in cc

  -- the place, where what stood there was taken away, has no key
  pub place_left : (old : List (Option T)) → placed slab keys ≡ set old place None → place < length old → (place < length keys) × (get_or keys place None ≡ None)
  place_left old left lt = (
    grind (arith, length-map keys (under slab), length-set),
    free_key _ refl (sym placed_at ∙ ap (λ l. get_or l place None) left ∙ get_or-set_same old place None None lt),
  )

  pub untouched : get_or keys place None ≡ None → placed slab keys ≡ set (placed slab keys) place None
  untouched e = sym (ap (set (placed slab keys) place) (sym (placed_at ∙ ap (under slab) e)) ∙ set-get_or (placed slab keys) place None)

  pub has_room : (place < length keys) × (get_or keys place None ≡ None) → HasRoomFor slab 1
  has_room free = grind (arith, count_set keys place None (Some 0) free.0 free.1, count_by-le-length is_some (set keys place (Some 0)), length-set, is.many, is.room)

  module _ {key : ℕ} {new : Slab T} {entry : T} (updates : Updates slab new key (Some entry)) (vacant : get slab key ≡ None) where
    unused : (q : ℕ) → get_or keys q None ≢ Some key
    unused q e = let has = is.there q key e in cc

    pub put_placed : placed new (set keys place (Some key)) ≡ set (placed slab keys) place (Some entry)
    put_placed = let others = placed_other updates keys unused in let one = map-set (under new) keys place (Some key) in let here = updates.changed in cc

    pub put_keyed : (place < length keys) × (get_or keys place None ≡ None) → new.capacity ≡ slab.capacity → slab_len new ≡ slab_len slab + 1 → IsKeyed new (set keys place (Some key))
    put_keyed free same more = record {
      there = λ q k e. elim (cases_eq q place) [ inl i ↦ grind (arith, get_or-set_same, free.0, updates.changed) | inr d ↦ grind (arith, get_or-set_other, updates.others k, unused q, is.there q k) ];
      apart = λ q r k e f. elim (cases_eq q place) [
        | inl i ↦ grind (arith, get_or-set_same, get_or-set_other, free.0, unused r)
        | inr d ↦ grind (arith, get_or-set_same, get_or-set_other, free.0, unused q, is.apart q r k)
      ];
      many = grind (arith, count_set keys place None (Some key) free.0 free.1, is.many);
      room = grind (arith, length-set, is.room);
    }

  module _ {key : ℕ} {new : Slab T} (had : get_or keys place None ≡ Some key) (updates : Updates slab new key None) where
    has_place : place < length keys
    has_place = grind (arith, get_or_past)

    left : (q k : ℕ) → get_or (set keys place None) q None ≡ Some k → (q ≢ place) × (get_or keys q None ≡ Some k)
    left q k e = elim (cases_eq q place) [ inl i ↦ grind (arith, get_or-set_same, has_place) | inr d ↦ (d, sym (get_or-set_other keys place q None None d) ∙ e) ]

    pub take_placed : placed new (set keys place None) ≡ set (placed slab keys) place None
    take_placed = placed_other updates (set keys place None) (λ q e. let was = left q key e in was.0 (is.apart q place key was.1 had)) ∙ map-set (under slab) keys place None

    pub take_keyed : {taken : Option T} → taken ≡ get slab key → new.capacity ≡ slab.capacity → OnSome taken (slab_len new + 1 ≡ slab_len slab) → IsKeyed new (set keys place None)
    take_keyed {taken} e same less = record {
      there = λ q k f. let was = left q k f in ap is_some (updates.others k (λ i. was.0 (is.apart q place key (was.1 ∙ ap Some i) had))) ∙ is.there q k was.1;
      apart = λ q r k f h. is.apart q r k (left q k f).1 (left r k h).1;
      many = grind (arith, count_set keys place (Some key) None has_place had, went taken e less, is.many);
      room = grind (arith, length-set, is.room);
    }
      where
        went : (taken : Option T) → taken ≡ get slab key → OnSome taken (slab_len new + 1 ≡ slab_len slab) → slab_len new + 1 ≡ slab_len slab
        went None e less = let has = is.there place key had in cc
        went (Some entry) e less = less
