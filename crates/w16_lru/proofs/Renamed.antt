-- A ring of ids in which one takes another's place: the ring where these two are changed for each other.
use Rattle.std.specs.List.{AllByRecursion as Each}
use Rattle.std.proofs.Common.{map, set, get_or-set_same, get_or-set_other, length-set}
use Rattle.std.proofs.lemmas.List.{get_or-map, length-map}
use Rattle.std.proofs.lemmas.List.Elements.{All-map}
use Rattle.w16_lru.proofs.Common.{slice_index, ◌≡◌, ◌≢◌, ℕ, ◌+◌, ◌<◌, false, cond, ◌||◌, ◌==◌, List, [], ◌∷◌, length, refl, sym, ap, ◌∙◌, subst, arith, inl, inr, eq-eqb, ne_eqb, cases_eq, is_member, Each-from_All, IsRing, LeadBack, Leads}
use Rattle.w16_lru.specs.Uses.{renamed}
use Rattle.w16_lru.proofs.Ways.{each_other}
use Rattle.w16_model.proofs.Gaps.{Each-map, All-from_Each}
use Rattle.w16_model.proofs.Rehoused.{swap, swap_to, swap_from, swap_other, which}

-- a table in which `to` has the link of `id`, whose place it takes behind `from`
abbrev pub relinked : List ℕ → ℕ → ℕ → ℕ → List ℕ
relinked links from id to = set (set (set links to (slice_index links id)) from to) id id

-- what is no member is in no place
pub none_renamed : (id to : ℕ) (ids : List ℕ) → Each (λ q. q ≢ id) ids → renamed id to ids ≡ ids
none_renamed id to [] h = refl
none_renamed id to (q ∷ ids) h = λ i. ap (λ b. cond b to q) (ne_eqb q id h.0) i ∷ none_renamed id to ids h.1 i

module _ (id to : ℕ) (another : id ≢ to) where
  -- a number, where these two are changed for each other
  abbrev pub turned : ℕ → ℕ
  turned q = swap id to another q

  pub turned_back : (q : ℕ) → turned (turned q) ≡ q
  turned_back q = which id to another (λ q. turned (turned q) ≡ q) q
      (λ e. ap turned (swap_to id to another q e) ∙ swap_from id to another id refl ∙ sym e)
      (λ e. ap turned (swap_from id to another q e) ∙ swap_to id to another to refl ∙ sym e)
      (λ d f. ap turned (swap_other id to another q d f) ∙ swap_other id to another q d f)

  turned_below : (n : ℕ) → id < n → to < n → (q : ℕ) → q < n → turned q < n
  turned_below n a b q = which id to another (λ q. q < n → turned q < n) q
      (λ e lt. subst (λ k. k < n) (sym (swap_to id to another q e)) a)
      (λ e lt. subst (λ k. k < n) (sym (swap_from id to another q e)) b)
      (λ d f lt. subst (λ k. k < n) (sym (swap_other id to another q d f)) lt)

  pub same_test : (r q : ℕ) → (turned r == q) ≡ (r == turned q)
  same_test r q = elim (cases_eq r (turned q)) [
    | inl e ↦ eq-eqb (turned r) q (ap turned e ∙ turned_back q) ∙ sym (eq-eqb r (turned q) e)
    | inr d ↦ ne_eqb (turned r) q (λ e. d (sym (turned_back r) ∙ ap turned e)) ∙ sym (ne_eqb r (turned q) d)
  ]

  member_turned : (q : ℕ) (ids : List ℕ) → is_member q (map turned ids) ≡ is_member (turned q) ids
  member_turned q [] = refl
  member_turned q (r ∷ ids) = ap (λ b. b || is_member q (map turned ids)) (same_test r q) ∙ ap (λ b. (r == turned q) || b) (member_turned q ids)

  -- where `to` is no member, it takes the place of `id`
  turned_each : (ids : List ℕ) → Each (λ q. q ≢ to) ids → map turned ids ≡ renamed id to ids
  turned_each [] h = refl
  turned_each (q ∷ ids) h = λ i. ap (λ b. cond b id (cond (q == id) to q)) (ne_eqb q to h.0) i ∷ turned_each ids h.1 i

  pub turned_all : (ids : List ℕ) → is_member to ids ≡ false → map turned ids ≡ renamed id to ids
  turned_all ids none = turned_each ids (each_other to ids none)

  pub member_renamed : (ids : List ℕ) → is_member to ids ≡ false → (q : ℕ) → is_member q (renamed id to ids) ≡ is_member (turned q) ids
  member_renamed ids none q = ap (is_member q) (sym (turned_all ids none)) ∙ member_turned q ids

  -- tables of links
  module _ (count : ℕ) (id_in : id < count) (to_in : to < count) (f g : List ℕ) (forth : LeadBack count f g) where
    back_turned : (h k : List ℕ) → ((q : ℕ) → q < count → slice_index h q ≡ turned (slice_index f (turned q))) → ((q : ℕ) → q < count → slice_index k q ≡ turned (slice_index g (turned q))) → LeadBack count h k
    back_turned h k one other q lt =
        let old = forth (turned q) (turned_below count id_in to_in q lt) in
        let inside : slice_index h q < count = subst (λ v. v < count) (sym (one q lt)) (turned_below count id_in to_in (slice_index f (turned q)) old.0) in (
          inside,
          other (slice_index h q) inside ∙ ap (λ v. turned (slice_index g v)) (ap turned (one q lt) ∙ turned_back (slice_index f (turned q))) ∙ ap turned old.1 ∙ turned_back q,
        )

    module _ (long : length f ≡ count) (back : LeadBack count g f) (linked : slice_index f id ≢ id) (alone : slice_index f to ≡ to) where
      abbrev from : ℕ
      from = slice_index g id

      abbrev one : List ℕ
      one = set f to (slice_index f id)

      abbrev two : List ℕ
      two = set one from to

      leads : slice_index f from ≡ id
      leads = (back id id_in).1

      -- no other leads to where a number leads
      apart : (q r : ℕ) → q < count → r < count → slice_index f q ≡ slice_index f r → q ≡ r
      apart q r a b e = sym (forth q a).1 ∙ ap (slice_index g) e ∙ (forth r b).1

      pub relinked_at : (q : ℕ) → q < count → slice_index (relinked f from id to) q ≡ turned (slice_index f (turned q))
      relinked_at q = which id to another (λ q. q < count → slice_index (relinked f from id to) q ≡ turned (slice_index f (turned q))) q
          (λ e lt. ap (slice_index (relinked f from id to)) e ∙ get_or-set_other two id to id 0 (λ e. another (sym e))
          ∙ get_or-set_other one from to to 0 (λ e. another (sym leads ∙ ap (slice_index f) (sym e) ∙ alone)) ∙ get_or-set_same f to (slice_index f id) 0 (omega arith)
          ∙ sym (ap (λ v. turned (slice_index f v)) (swap_to id to another q e) ∙ swap_other id to another (slice_index f id) (λ e. another (apart id to id_in to_in (e ∙ sym alone))) linked))
          (λ e lt. ap (slice_index (relinked f from id to)) e ∙ get_or-set_same two id id 0 (let a = length-set one from to in let b = length-set f to (slice_index f id) in omega arith)
          ∙ sym (ap (λ v. turned (slice_index f v)) (swap_from id to another q e) ∙ ap turned alone ∙ swap_to id to another to refl))
          (λ d c lt. get_or-set_other two id q id 0 c ∙ elim (cases_eq q from) [
            | inl e ↦ ap (slice_index two) e ∙ get_or-set_same one from to 0 (let a = length-set f to (slice_index f id) in let b = (back id id_in).0 in omega arith)
                ∙ sym (ap (λ v. turned (slice_index f v)) (swap_other id to another q d c ∙ e) ∙ ap turned leads ∙ swap_from id to another id refl)
            | inr n ↦ get_or-set_other one from q to 0 n ∙ get_or-set_other f to q (slice_index f id) 0 d
                ∙ sym (ap (λ v. turned (slice_index f v)) (swap_other id to another q d c)
                ∙ swap_other id to another (slice_index f q) (λ e. d (apart q to lt to_in (e ∙ sym alone))) (λ e. n (apart q from lt (back id id_in).0 (e ∙ sym leads))))
          ])

  module _ (cap : ℕ) (after before ids : List ℕ) (ring : IsRing cap after before ids) (id_in : id < cap) (to_in : to < cap) (linked : slice_index after id ≢ id) (none : is_member to ids ≡ false) where
    abbrev forward : List ℕ
    forward = relinked after (slice_index before id) id to

    abbrev backward : List ℕ
    backward = relinked before (slice_index after id) id to

    alone : slice_index after to ≡ to
    alone = ring.alone to to_in none

    forward_at : (q : ℕ) → q < cap + 1 → slice_index forward q ≡ turned (slice_index after (turned q))
    forward_at = relinked_at (cap + 1) (omega arith) (omega arith) after before ring.forth ring.after_long ring.back linked alone

    backward_at : (q : ℕ) → q < cap + 1 → slice_index backward q ≡ turned (slice_index before (turned q))
    backward_at = relinked_at (cap + 1) (omega arith) (omega arith) before after ring.back ring.before_long ring.forth
        (λ e. linked (ap (slice_index after) (sym e) ∙ (ring.back id (omega arith)).1)) (ap (slice_index before) (sym alone) ∙ (ring.forth to (omega arith)).1)

    long : (links : List ℕ) (from : ℕ) → length links ≡ cap + 1 → length (relinked links from id to) ≡ cap + 1
    long links from is = length-set (set (set links to (slice_index links id)) from to) id id ∙ length-set (set links to (slice_index links id)) from to ∙ length-set links to (slice_index links id) ∙ is

    end_stays : turned cap ≡ cap
    end_stays = swap_other id to another cap (λ e. let f : cap ≡ to = e in absurd (omega arith)) (λ e. let f : cap ≡ id = e in absurd (omega arith))

    leads_turned : (from : ℕ) (qs : List ℕ) → Each (λ q. q < cap) qs → Leads after from qs cap → Leads forward (turned from) (map turned qs) cap
    leads_turned from [] below way = ap turned way ∙ end_stays
    leads_turned from (q ∷ qs) below way = (
      ap turned way.0,
      let lt = below.0 in
          subst (λ v. Leads forward v (map turned qs) cap) (sym (forward_at (turned q) (turned_below (cap + 1) (omega arith) (omega arith) q (omega arith)) ∙ ap (λ v. turned (slice_index after v)) (turned_back q)))
          (leads_turned (slice_index after q) qs below.1 way.1),
    )

    below : Each (λ q. q < cap) ids
    below = Each-from_All (λ q. q < cap) ids ring.uses.below

    ring-turned : IsRing cap forward backward (map turned ids)
    ring-turned = record {
      after_long = long after (slice_index before id) ring.after_long;
      before_long = long before (slice_index after id) ring.before_long;
      forth = back_turned (cap + 1) (omega arith) (omega arith) after before ring.forth forward backward forward_at backward_at;
      back = back_turned (cap + 1) (omega arith) (omega arith) before after ring.back backward forward backward_at forward_at;
      around = subst (λ v. Leads forward v (map turned ids) cap) (sym (forward_at cap (omega arith) ∙ ap (λ v. turned (slice_index after v)) end_stays)) (leads_turned (slice_index after cap) ids below ring.around);
      alone = λ q lt out. forward_at q (omega arith) ∙ ap turned (ring.alone (turned q) (turned_below cap id_in to_in q lt) (sym (member_turned q ids) ∙ out)) ∙ turned_back q;
      uses = record {
        below = All-map (λ q. q < cap) turned ids (All-from_Each (λ q. turned q < cap) ids (Each-map (λ q. q < cap) (λ q. turned q < cap) (turned_below cap id_in to_in) ids below));
        apart = λ i j d lt within e.
            let size = length-map ids turned in
            ring.uses.apart i j 0 lt (omega arith) (sym (turned_back (slice_index ids i)) ∙ ap turned (sym (get_or-map turned ids i 0 d (omega arith)) ∙ e ∙ get_or-map turned ids j 0 d (omega arith)) ∙ turned_back (slice_index ids j));
      };
    }

    pub ring-renamed : IsRing cap forward backward (renamed id to ids)
    ring-renamed = subst (IsRing cap forward backward) (turned_all ids none) ring-turned
