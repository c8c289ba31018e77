-- Names at places among texts.
use Rattle.w16_ne.proofs.Common as C
use Rattle.w16_ne.proofs.Common.{◌≡◌, ℕ, zero, suc, ◌+◌, ◌<◌, ◌≤◌, List, [], ◌∷◌, ◌++◌, length, map, take, drop, refl, ap, ◌∙◌, arith, All, Place, Entry, at_place}

abbrev pub IsInside : List ℕ → Place → Type 0
IsInside texts p = p.start + p.len ≤ length texts

module _ (texts up : List ℕ) where
  at_more : (p : Place) → IsInside texts p → at_place (texts ++ up) p ≡ at_place texts p
  at_more p inside =
      let cut : take p.len (drop p.start (texts ++ up)) ≡ take p.len (drop p.start texts) =
      ap (λ xs. take p.len xs) (C.drop-append-le p.start texts up (omega arith)) ∙ C.take-append-le p.len (drop p.start texts) up (omega (arith, C.length-drop p.start texts)) in
      ap (λ (xs : List ℕ). (xs, p.ordinal)) cut

  all_more : (ps : List Place) → C.AllByRecursion (IsInside texts) ps → map (at_place (texts ++ up)) ps ≡ map (at_place texts) ps
  all_more [] all = refl
  all_more (p ∷ ps) all = cc (at_more p all.0, all_more ps all.1)

  at_new : (p : Place) → p.start ≡ length texts → p.len ≡ length up → at_place (texts ++ up) p ≡ (up, p.ordinal)
  at_new p start len =
      let behind : drop p.start (texts ++ up) ≡ up = ap (λ i. drop i (texts ++ up)) start ∙ past texts in
      let cut : take p.len (drop p.start (texts ++ up)) ≡ up = ap (λ xs. take p.len xs) behind ∙ C.take_all p.len up (omega arith) in
      ap (λ (xs : List ℕ). (xs, p.ordinal)) cut
    where
      past : (xs : List ℕ) → drop (length xs) (xs ++ up) ≡ up
      past [] = refl
      past (x ∷ xs) = past xs

  -- one name more
  pub pushed : (ps : List Place) (p : Place) → All (IsInside texts) ps → p.start ≡ length texts → p.len ≡ length up
      → map (at_place (texts ++ up)) (ps ++ p ∷ []) ≡ map (at_place texts) ps ++ (up, p.ordinal) ∷ []
  pushed ps p all start len =
      C.map_push (at_place (texts ++ up)) ps p ∙ cc (all_more ps (C.recursion_from_All (IsInside texts) ps all), at_new p start len)

  pub still_inside : (ps : List Place) → All (IsInside texts) ps → All (IsInside (texts ++ up)) ps
  still_inside ps all k d lt = let one = all k d lt in omega (arith, one, C.length-append texts up)

  pub new_inside : (p : Place) → p.start ≡ length texts → p.len ≡ length up → IsInside (texts ++ up) p
  new_inside p start len = omega (arith, start, len, C.length-append texts up)

pub at_index : (texts : List ℕ) (ps : List Place) (i : ℕ) (d : Place) (e : Entry) → i < length ps → C.get_or (map (at_place texts) ps) i e ≡ at_place texts (C.get_or ps i d)
at_index texts [] i d e lt = absurd (omega arith)
at_index texts (p ∷ ps) zero d e lt = refl
at_index texts (p ∷ ps) (suc i) d e lt = at_index texts ps i d e (omega arith)
