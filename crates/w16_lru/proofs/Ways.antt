-- Ways along links.
use Rattle.std.specs.List.{AllByRecursion as Each}
use Rattle.w16_lru.proofs.Common.{slice_index, ◌≡◌, ◌≢◌, ℕ, zero, suc, ◌+◌, ◌<◌, Bool, true, false, cond, not, ◌||◌, ◌==◌, List, [], ◌∷◌, ◌++◌, length, drop, slice_get, Some, None, refl, sym, ap, ◌∙◌, subst, arith, eqb-true, eq-eqb, false≢true, true≢false, ne_eqb, is_member, without, follow, Leads}

-- the ids on a way are what comes first on it
pub follow-leads : (after : List ℕ) (from : ℕ) (ids : List ℕ) (end : ℕ) → Leads after from ids end → follow (length ids) after from ≡ ids
follow-leads after from [] end way = refl
follow-leads after from (x ∷ ids) end way =
    (λ i. way.0 i ∷ follow (length ids) after (slice_index after (way.0 i)))
    ∙ ap (λ l. x ∷ l) (follow-leads after _ ids end way.1)

pub length-follow : (n : ℕ) (after : List ℕ) (from : ℕ) → length (follow n after from) ≡ n
length-follow zero after from = refl
length-follow (suc n) after from = ap suc (length-follow n after _)

pub follow-next : (n : ℕ) (after : List ℕ) (from k id : ℕ) → suc k < n → slice_get (follow n after from) k ≡ Some id → slice_get (follow n after from) (suc k) ≡ Some (slice_index after id)
follow-next zero after from k id lt at = absurd (omega arith)
follow-next (suc zero) after from k id lt at = absurd (omega arith)
follow-next (suc (suc n)) after from zero id lt at = let e : from ≡ id = cc in ap (λ (q : ℕ). Some (slice_index after q)) e
follow-next (suc (suc n)) after from (suc k) id lt at = follow-next (suc n) after _ k id (omega arith) at

-- what stands nowhere among ids
pub each_other : (x : ℕ) (ids : List ℕ) → is_member x ids ≡ false → Each (λ q. q ≢ x) ids
each_other x [] none = tt
each_other x (y ∷ ids) none = turn _ refl (each_other x ids)
  where
    turn : (t : Bool) → (y == x) ≡ t → (is_member x ids ≡ false → Each (λ q. q ≢ x) ids) → Each (λ q. q ≢ x) (y ∷ ids)
    turn true e rest = absurd (true≢false (sym (ap (λ b. b || is_member x ids) e) ∙ none))
    turn false e rest = (λ same. false≢true (sym e ∙ eq-eqb y x same), rest (sym (ap (λ b. b || is_member x ids) e) ∙ none))

-- the ids of which a fact holds, one of them and those behind it
pub each_at : (P : ℕ → Type 0) (ids : List ℕ) (i id : ℕ) → Each P ids → slice_get ids i ≡ Some id → P id
each_at P [] i id each at = cc
each_at P (x ∷ ids) zero id each at = let e : x ≡ id = cc in subst P e each.0
each_at P (x ∷ ids) (suc i) id each at = each_at P ids i id each.1 at

pub each-drop : (P : ℕ → Type 0) (n : ℕ) (ids : List ℕ) → Each P ids → Each P (drop n ids)
each-drop P zero ids each = each
each-drop P (suc n) [] each = each
each-drop P (suc n) (x ∷ ids) each = each-drop P n ids each.1

first_behind : (ids : List ℕ) (i : ℕ) → slice_get (drop (suc i) ids) 0 ≡ slice_get ids (suc i)
first_behind [] i = refl
first_behind (x ∷ []) zero = refl
first_behind (x ∷ y ∷ ids) zero = refl
first_behind (x ∷ ids) (suc i) = first_behind ids i

pub slice_get-behind : (ids : List ℕ) (i : ℕ) → slice_get (drop (suc i) ids) 0 ≡ slice_get ids (i + 1)
slice_get-behind ids i = first_behind ids i ∙ ap (slice_get ids) (let e : suc i ≡ i + 1 = omega arith in e)

-- the rest of the way behind an id on it
pub leads-behind : (after : List ℕ) (from : ℕ) (ids : List ℕ) (end i id : ℕ) → Leads after from ids end → slice_get ids i ≡ Some id → Leads after (slice_index after id) (drop (suc i) ids) end
leads-behind after from [] end i id way at = cc
leads-behind after from (x ∷ ids) end zero id way at = let e : x ≡ id = cc in subst (λ q. Leads after (slice_index after q) ids end) e way.1
leads-behind after from (x ∷ ids) end (suc i) id way at = leads-behind after _ ids end i id way.1 at

-- a way from a number that is linked to itself goes nowhere
pub leads-stuck : (after : List ℕ) (x : ℕ) (ids : List ℕ) (end : ℕ) → slice_index after x ≡ x → Leads after x ids end → x ≡ end
leads-stuck after x [] end self way = way
leads-stuck after x (y ∷ ids) end self way =
    leads-stuck after x ids end self (subst (λ q. Leads after q ids end) (ap (slice_index after) (sym way.0) ∙ self) way.1)

pub leads-none : (after : List ℕ) (from : ℕ) (ids : List ℕ) (end x : ℕ) → slice_index after x ≡ x → x ≢ end → Leads after from ids end → is_member x ids ≡ false
leads-none after from [] end x self other way = refl
leads-none after from (y ∷ ids) end x self other way = turn _ refl (leads-none after _ ids end x self other way.1)
  where
    turn : (t : Bool) → (y == x) ≡ t → is_member x ids ≡ false → is_member x (y ∷ ids) ≡ false
    turn true e rest =
        let same = eqb-true y x e in
        absurd (other (leads-stuck after x ids end self (subst (λ q. Leads after q ids end) (ap (slice_index after) same ∙ self) way.1)))
    turn false e rest = rw e rest

-- the first on a way
pub leads-some : (after : List ℕ) (from : ℕ) (ids : List ℕ) (end : ℕ) → from ≢ end → Leads after from ids end → Some from ≡ slice_get ids 0
leads-some after from [] end other way = absurd (other way)
leads-some after from (x ∷ ids) end other way = ap (λ q. Some q) way.0

pub leads-no : (after : List ℕ) (from : ℕ) (ids : List ℕ) (end : ℕ) → from ≡ end → Each (λ q. q < end) ids → Leads after from ids end → None ≡ slice_get ids 0
leads-no after from [] end same below way = refl
leads-no after from (x ∷ ids) end same below way = let lt = below.0 in let e = way.0 in absurd (omega arith)

module _ (old new : List ℕ) (x end : ℕ) (inside : x < end) where
  -- the same links on the way
  pub leads-same : ((q : ℕ) → q < end → q ≢ x → slice_index new q ≡ slice_index old q) → (from : ℕ) (ids : List ℕ)
      → Each (λ q. q < end) ids → Each (λ q. q ≢ x) ids → Leads old from ids end → Leads new from ids end
  leads-same same from [] below others way = way
  leads-same same from (y ∷ ids) below others way = (
    way.0,
    subst (λ q. Leads new q ids end) (sym (same y below.0 others.0)) (leads-same same (slice_index old y) ids below.1 others.1 way.1),
  )

  -- what led to the end leads to an id before it
  abbrev pub longer : ℕ → ℕ
  longer v = cond (v == end) x v

  pub leads-longer : ((q : ℕ) → q < end → q ≢ x → slice_index new q ≡ longer (slice_index old q)) → slice_index new x ≡ end → (from : ℕ) (ids : List ℕ)
      → Each (λ q. q < end) ids → Each (λ q. q ≢ x) ids → Leads old from ids end → Leads new (longer from) (ids ++ x ∷ []) end
  leads-longer links last from [] below others way = (ap (λ t. cond t x from) (eq-eqb from end way), last)
  leads-longer links last from (y ∷ ids) below others way = (
    let lt = below.0 in let e = way.0 in ap (λ t. cond t x from) (ne_eqb from end (λ same. let f : from ≡ end = same in absurd (omega arith))) ∙ e,
    subst (λ q. Leads new q (ids ++ x ∷ []) end) (sym (links y below.0 others.0)) (leads-longer links last (slice_index old y) ids below.1 others.1 way.1),
  )

  -- what led to an id leads to the one behind it
  abbrev pub shorter : ℕ → ℕ
  shorter v = cond (v == x) (slice_index old x) v

  pub leads-shorter : ((q : ℕ) → q < end → q ≢ x → slice_index new q ≡ shorter (slice_index old q)) → slice_index old x ≢ x → (from : ℕ) (ids : List ℕ)
      → Each (λ q. q < end) ids → Leads old from ids end → Leads new (shorter from) (without x ids) end
  leads-shorter links linked from [] below way = ap (λ t. cond t (slice_index old x) from) (ne_eqb from x (λ same. let e = way in let f : from ≡ x = same in absurd (omega arith))) ∙ way
  leads-shorter links linked from (y ∷ ids) below way = turn (y == x) refl (leads-shorter links linked (slice_index old y) ids below.1 way.1)
    where
      turn : (t : Bool) → (y == x) ≡ t → Leads new (shorter (slice_index old y)) (without x ids) end → Leads new (shorter from) (cond (not t) (y ∷ without x ids) (without x ids)) end
      turn true e rest =
          let same = eqb-true y x e in
          let here : shorter (slice_index old y) ≡ slice_index old x =
          ap (λ q. shorter (slice_index old q)) same ∙ ap (λ t. cond t (slice_index old x) (slice_index old x)) (ne_eqb (slice_index old x) x linked) in
          let there : shorter from ≡ slice_index old x = ap (λ t. cond t (slice_index old x) from) (eq-eqb from x (way.0 ∙ same)) in
          subst (λ q. Leads new q (without x ids) end) (here ∙ sym there) rest
      turn false e rest =
          let other : y ≢ x = λ same. false≢true (sym e ∙ eq-eqb y x same) in (
            ap (λ t. cond t (slice_index old x) from) (ne_eqb from x (λ same. other (sym way.0 ∙ same))) ∙ way.0,
            subst (λ q. Leads new q (without x ids) end) (sym (links y below.0 other)) rest,
          )
