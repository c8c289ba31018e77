-- What the methods answer and leave, from the ring that is kept.
use Rattle.w16_lru.proofs
use proofs.Common as C
use proofs.Ways as M
use proofs.Common.{swap, slice_index, Vec, ◌≡◌, ◌≢◌, ℕ, suc, ◌+◌, ◌-◌, ◌<◌, ◌≤◌, Bool, true, false, ◌⊎◌, inl, inr, drop, get_or, List, [], ◌∷◌, ◌++◌, length, slice_get, Some, None, refl, sym, ap, ◌∙◌, subst, arith, with_items, is_member, without, End, Oldest, Newest, Uses, ids_of, Leads}
use proofs.Common.{IsRing, uses_of}
use proofs.Members.{fewer, member_below, few}
use proofs.Rings.{ring-out, ring-oldest, ring-newest}
use proofs.Renamed.{relinked, none_renamed, ring-renamed}
use Rattle.std.specs.List.{AllByRecursion as Each}
use Rattle.std.proofs.{Common.length-set, lemmas.List.length-map}
use Rattle.w16_lru.specs.Uses.{renamed}

-- the ids of a ring are followed along its links
pub kept : (cap members : ℕ) (after before ids : List ℕ) → IsRing cap after before ids → length ids ≡ members → IsRing cap after before (ids_of cap after members)
kept cap members after before ids ring e =
    subst (IsRing cap after before) (sym (M.follow-leads after _ ids cap ring.around) ∙ ap (ids_of cap after) e) ring

pub viewed : (cap members : ℕ) (after before ids : List ℕ) → IsRing cap after before ids → length ids ≡ members → (let are : Uses = record { cap = cap; ids = ids } in uses_of cap after members ≡ are)
viewed cap members after before ids ring e =
    λ i. record { cap = cap; ids = (ap (ids_of cap after) (sym e) ∙ M.follow-leads after (slice_index after cap) ids cap ring.around) i }

-- what is no member put at an end
abbrev pub put : End → ℕ → List ℕ → List ℕ
put Oldest id ids = id ∷ ids
put Newest id ids = ids ++ id ∷ []

-- an order with these ids, of as many
abbrev pub with_ids : Uses → List ℕ → Uses
with_ids uses ids = record uses { ids = ids }

-- what was taken out and is put at an end is at that end
pub put_back : (old new : Uses) (id : ℕ) (end : End) → new ≡ with_ids old (without id old.ids) → with_ids new (put end id new.ids) ≡ with_ids old (C.at_end end id old.ids)
put_back old new id Oldest e = ap (λ u. with_ids u (put Oldest id u.ids)) e
put_back old new id Newest e = ap (λ u. with_ids u (put Newest id u.ids)) e

-- what the member at an end comes behind
abbrev pub IsFront : ℕ → List ℕ → ℕ → End → Type 0
IsFront cap before front Oldest = front ≡ cap
IsFront cap before front Newest = front ≡ get_or before cap front

-- the items of a table after an exchange
pub exchanged_after : {Z : Type 0} (table : Vec ℕ Z) (seen new : List ℕ) (p x : ℕ) → seen ≡ table.items → new ≡ swap seen p x → (with_items table new).items ≡ swap table.items p x
exchanged_after table seen new p x same e =
    let long = ap length e ∙ C.length-swap seen p x ∙ ap length same ∙ sym table.ok.0 in
    C.with_items_is table new long ∙ e ∙ ap (λ l. swap l p x) same

pub exchanged_before : {Z : Type 0} (table : Vec ℕ Z) (links seen_links seen new : List ℕ) (p x : ℕ) → seen_links ≡ links → seen ≡ table.items
    → new ≡ swap seen (slice_index seen_links p) (slice_index seen_links x) → (with_items table new).items ≡ swap table.items (slice_index links p) (slice_index links x)
exchanged_before table links seen_links seen new p x alike same e =
    exchanged_after table seen new _ _ same e
    ∙ ap (λ l. swap table.items (slice_index l p) (slice_index l x)) alike

-- the items of a table in which a number takes another's place
pub relinked_items : {Z : Type 0} (table : Vec ℕ Z) (seen new : List ℕ) (from id to : ℕ) → seen ≡ table.items → new ≡ relinked seen from id to → (with_items table new).items ≡ relinked table.items from id to
relinked_items table seen new from id to same e =
    let long = ap length e ∙ length-set _ id id
    ∙ length-set _ from to ∙ length-set seen to _ ∙ ap length same ∙ sym table.ok.0 in
    C.with_items_is table new long ∙ e ∙ ap (λ l. relinked l from id to) same

module _ (cap members : ℕ) (after before : List ℕ) (now : Uses) (ring : IsRing cap after before (ids_of cap after members)) (view : uses_of cap after members ≡ now) where
  ids_are : ids_of cap after members ≡ now.ids
  ids_are = ap (λ (u : Uses). u.ids) view

  cap_is : cap ≡ now.cap
  cap_is = ap (λ (u : Uses). u.cap) view

  pub are_uses : C.AreUses now
  are_uses = subst C.AreUses view ring.uses

  around : Leads after (slice_index after cap) now.ids cap
  around = subst (λ l. Leads after (slice_index after cap) l cap) ids_are ring.around

  below : Each (λ q. q < cap) now.ids
  below = subst (λ l. Each (λ q. q < cap) l) ids_are (C.Each-from_All (λ q. q < cap) (ids_of cap after members) ring.uses.below)

  pub read_after : (i x : ℕ) → i ≤ cap → x ≡ get_or after i x → x ≡ slice_index after i
  read_after i x le e = let long = ring.after_long in C.get_or_read after i x (omega arith) e 0

  pub read_before : (i x : ℕ) → i ≤ cap → x ≡ get_or before i x → x ≡ slice_index before i
  read_before i x le e = let long = ring.before_long in C.get_or_read before i x (omega arith) e 0

  pub count : length now.ids ≡ members
  count = ap (length {A = ℕ}) (sym ids_are) ∙ M.length-follow members after (slice_index after cap)

  pub first_some : (x : ℕ) → x ≡ get_or after cap x → x ≢ cap → Some x ≡ slice_get now.ids 0
  first_some x e other =
      let is = read_after cap x (omega arith) e in
      ap (λ (q : ℕ). Some q) is ∙ M.leads-some after (slice_index after cap) now.ids cap (λ same. other (is ∙ same)) around

  -- there is none behind the newest
  pub past : (i : ℕ) → members ≤ i → None ≡ slice_get now.ids i
  past i le = sym (C.slice_get_past now.ids i (let long = count in omega arith))

  pub member_at : (k id : ℕ) → slice_get now.ids k ≡ Some id → id < cap
  member_at k id at = M.each_at (λ q. q < cap) now.ids k id below at

  -- the ids on the way to the one that is asked for
  pub step : (k id next : ℕ) → k + 1 < members → slice_get now.ids k ≡ Some id → next ≡ get_or after id next → slice_get now.ids (k + 1) ≡ Some next
  step k id next lt at e =
      let lower = member_at k id at in
      ap (slice_get now.ids) (let f : k + 1 ≡ suc k = omega arith in f)
      ∙ ap (λ (l : List ℕ). slice_get l (suc k)) (sym ids_are)
      ∙ M.follow-next members after (slice_index after cap) k id (omega arith) (ap (λ (l : List ℕ). slice_get l k) ids_are ∙ at)
      ∙ ap (λ (q : ℕ). Some q) (sym (read_after id next (omega arith) e))

  -- behind a member comes the one that it is linked to
  pub next_some : (id next i : ℕ) → id < cap → next ≡ get_or after id next → next ≢ cap → slice_get now.ids i ≡ Some id → Some next ≡ slice_get now.ids (i + 1)
  next_some id next i lt e other at =
      let is = read_after id next (omega arith) e in
      ap (λ (q : ℕ). Some q) is
      ∙ M.leads-some after (slice_index after id) (drop (suc i) now.ids) cap (λ same. other (is ∙ same)) (M.leads-behind after (slice_index after cap) now.ids cap i id around at)
      ∙ M.slice_get-behind now.ids i

  -- behind the newest no one
  pub next_none : (id next i : ℕ) → id < cap → next ≡ get_or after id next → (next ≡ cap) ⊎ (next ≡ id) → slice_get now.ids i ≡ Some id → None ≡ slice_get now.ids (i + 1)
  next_none id next i lt e none at =
      let is = read_after id next (omega arith) e in
      let way = M.leads-behind after (slice_index after cap) now.ids cap i id around at in
      M.leads-no after (slice_index after id) (drop (suc i) now.ids) cap (sym is ∙ last is way none) (M.each-drop (λ q. q < cap) (suc i) now.ids below) way
      ∙ M.slice_get-behind now.ids i
    where
      last : next ≡ slice_index after id → Leads after (slice_index after id) (drop (suc i) now.ids) cap → (next ≡ cap) ⊎ (next ≡ id) → next ≡ cap
      last is way (inl f) = f
      last is way (inr f) = f ∙ M.leads-stuck after id (drop (suc i) now.ids) cap (sym is ∙ f) (subst (λ q. Leads after q (drop (suc i) now.ids) cap) (sym is ∙ f) way)

  -- what is linked to itself is no member, and what is too large
  pub alone_none : (id next : ℕ) → id < cap → next ≡ get_or after id next → next ≡ id → is_member id now.ids ≡ false
  alone_none id next lt e self =
      M.leads-none after (slice_index after cap) now.ids cap id (sym (read_after id next (omega arith) e) ∙ self) (λ f. let g : id ≡ cap = f in absurd (omega arith)) around

  pub large_none : (id : ℕ) → cap ≤ id → is_member id now.ids ≡ false
  large_none id le = turn (is_member id now.ids) refl
    where
      turn : (t : Bool) → is_member id now.ids ≡ t → t ≡ false
      turn true e = let lt = member_below id cap now.ids below e in absurd (omega arith)
      turn false e = refl

  pub as_many : (id : ℕ) → is_member id now.ids ≡ false → members ≡ length (without id now.ids)
  as_many id none = sym (ap length (C.without_absent id now.ids none) ∙ count)

  pub same_without : (id : ℕ) → is_member id now.ids ≡ false → now ≡ with_ids now (without id now.ids)
  same_without id none = ap (with_ids now) (sym (C.without_absent id now.ids none))

  ring_now : IsRing cap after before now.ids
  ring_now = subst (IsRing cap after before) ids_are ring

  pub fits : members ≤ cap
  fits = let bound = few now are_uses in let long = count in let e = cap_is in omega arith

  -- One that is no member takes the place of another.
  module _ (id to next : ℕ) (lt : id < cap) (is_next : next ≡ get_or after id next) where
    pub none_there : next ≡ id → now ≡ with_ids now (renamed id to now.ids)
    none_there self = ap (with_ids now) (sym (none_renamed id to now.ids (M.each_other id now.ids (alone_none id next lt is_next self))))

    module _ (to_lt : to < cap) (none : is_member to now.ids ≡ false) (other : next ≢ id) {front : ℕ} (leads : front ≡ get_or before id front)
        (forward backward : List ℕ) (a : forward ≡ relinked after front id to) (b : backward ≡ relinked before next id to) where
      ring_renamed : IsRing cap forward backward (renamed id to now.ids)
      ring_renamed =
          let next_is = read_after id next (omega arith) is_next in let front_is = read_before id front (omega arith) leads in
          let linked : slice_index after id ≢ id = λ e. other (next_is ∙ e) in
          let another : id ≢ to = λ e. linked (ap (slice_index after) e ∙ ring_now.alone to to_lt none ∙ sym e) in
          rw (a ∙ ap (λ p. relinked after p id to) front_is, b ∙ ap (λ p. relinked before p id to) next_is) (ring-renamed id to another cap after before now.ids ring_now lt to_lt linked none)

      as_many_renamed : length (renamed id to now.ids) ≡ members
      as_many_renamed = length-map now.ids _ ∙ count

      pub renamed_kept : IsRing cap forward backward (ids_of cap forward members)
      renamed_kept = kept cap members forward backward (renamed id to now.ids) ring_renamed as_many_renamed

      pub renamed_value : uses_of cap forward members ≡ with_ids now (renamed id to now.ids)
      renamed_value = viewed cap members forward backward (renamed id to now.ids) ring_renamed as_many_renamed ∙ (λ i. record { cap = cap_is i; ids = renamed id to now.ids })

  -- What is linked to another is a member.
  module _ (id next : ℕ) (lt : id < cap) (is_next : next ≡ get_or after id next) (other : next ≢ id) where
    linked : slice_index after id ≢ id
    linked e = other (read_after id next (omega arith) is_next ∙ e)

    pub there : is_member id now.ids ≡ true
    there = turn (is_member id now.ids) refl
      where
        turn : (t : Bool) → is_member id now.ids ≡ t → t ≡ true
        turn true e = refl
        turn false e = absurd (linked (ring_now.alone id lt e))

    pub less : length (without id now.ids) + 1 ≡ members
    less = fewer id now.ids (C.EachPair-from_AllPairs (λ a b. a ≡ b → ⊥) now.ids are_uses.apart) there ∙ count

  -- the links after an exchange
  module _ (id front : ℕ) (lt : id < cap) (forward backward : List ℕ) (a : forward ≡ swap after front id) (b : backward ≡ swap before (slice_index after front) (slice_index after id)) where
    ring_after : (new : List ℕ) → IsRing cap (swap after front id) (swap before (slice_index after front) (slice_index after id)) new → IsRing cap forward backward new
    ring_after new is = rw (a, b) is

    module _ (next : ℕ) (is_next : next ≡ get_or after id next) (other : next ≢ id) (leads : front ≡ get_or before id front) where
      front_is : slice_index before id ≡ front
      front_is = sym (read_before id front (omega arith) leads)

      removed : IsRing cap forward backward (without id now.ids)
      removed = ring_after (without id now.ids)
          (ring-out cap after before now.ids ring_now front id (subst (λ q. q < cap + 1) front_is (ring.back id (omega arith)).0) lt front_is (linked id next lt is_next other))

      fewer_left : length (without id now.ids) ≡ members - 1
      fewer_left = let one = less id next lt is_next other in omega arith

      pub removed_kept : IsRing cap forward backward (ids_of cap forward (members - 1))
      removed_kept = kept cap (members - 1) forward backward (without id now.ids) removed fewer_left

      pub removed_value : uses_of cap forward (members - 1) ≡ with_ids now (without id now.ids)
      removed_value = viewed cap (members - 1) forward backward (without id now.ids) removed fewer_left ∙ (λ i. record { cap = cap_is i; ids = without id now.ids })

    -- what is no member comes directly behind the front
    module _ (none : is_member id now.ids ≡ false) where
      joined : (end : End) → IsFront cap before front end → IsRing cap forward backward (put end id now.ids)
      joined Oldest is = ring_after (id ∷ now.ids) (ring-oldest cap after before now.ids ring_now front id (omega arith) lt none is)
      joined Newest is =
          let front_is = read_before cap front (omega arith) is in
          ring_after (now.ids ++ id ∷ [])
          (ring-newest cap after before now.ids ring_now front id (subst (λ q. q < cap + 1) (sym front_is) (ring.back cap (omega arith)).0) lt none
          (ap (slice_index after) front_is ∙ (ring.back cap (omega arith)).1))

      more : (end : End) → length (put end id now.ids) ≡ members + 1
      more Oldest = let long = count in omega arith
      more Newest = let long = count in omega (arith, C.length-append now.ids (id ∷ []))

      pub joined_kept : (end : End) → IsFront cap before front end → IsRing cap forward backward (ids_of cap forward (members + 1))
      joined_kept end is = kept cap (members + 1) forward backward (put end id now.ids) (joined end is) (more end)

      pub joined_value : (end : End) → IsFront cap before front end → uses_of cap forward (members + 1) ≡ with_ids now (put end id now.ids)
      joined_value end is = viewed cap (members + 1) forward backward (put end id now.ids) (joined end is) (more end) ∙ (λ i. record { cap = cap_is i; ids = put end id now.ids })
