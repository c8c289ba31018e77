-- The oldest that a request may discard: their list along the order of use, and their discards one by one.
use Rattle.w16_arena.proofs
use proofs.Common as C
use proofs.Common.{◌≡◌, ℕ, zero, suc, ◌+◌, ◌-◌, ◌<◌, ◌≤◌, inl, inr, Bool, true, false, cond, not, ◌&&◌, ◌||◌, IsSomeAnd, subst, List, [], ◌∷◌, ◌++◌, length, take, Option, Some, None, refl, sym, ap, ◌∙◌, arith, eqb, false≢true, length-append, Block, Entry, absent, Heap, blocks, Loose}
use proofs.Common.{eligible, Table, hold_of_entry, block_with, entry_at, heap_in, Member, Layout, ArenaState, Steps, get_or, fold, ◌≢◌}
use proofs.{Listed.listed_permutation, Lookups.in_list, Lookups.holds_at, Parts.AreParts, Parts.range_then}
use Rattle.std.proofs.{lemmas.List.get_or_read, lemmas.List.take_more, lemmas.List.Sums.fold-append}
use Rattle.w16_compact.proofs.Searched.{may_go}

place_member : (ids : List ℕ) (i : ℕ) → i < length ids → Member (get_or ids i 0) ids
place_member [] i lt = absurd (omega arith)
place_member (q ∷ ids) zero lt = inl refl
place_member (q ∷ ids) (suc i) lt = inr (place_member ids i (omega arith))

any_member : (q : ℕ) (ids : List ℕ) → C.list_any (eqb q) ids ≡ true → Member q ids
any_member q [] e = absurd (false≢true e)
any_member q (x ∷ ids) e = elim (C.or_cases (eqb q x) (C.list_any (eqb q) ids) e) [
  | inl here ↦ inl (C.eqb-true q x here)
  | inr there ↦ inr (any_member q ids there)
]

take_none : (k : ℕ) → take {A = ℕ} k [] ≡ []
take_none zero = refl
take_none (suc k) = refl

-- no more may be discarded than are in use
pub eligible_few : (xs : List Block) (order : List ℕ) (h : Option ℕ) → length (eligible xs order h) ≤ length order
eligible_few xs order h =
    let p : ℕ → Bool = λ id. not (C.is_pinned_id xs id) && not (C.is_about h id) in
    omega (arith, C.length-filter_both p (λ id. not (p id)) (λ id. refl) order)

-- Of a sound table.
module _ (t : Table) (sound : C.IsSound t) where
  -- what may be discarded is the same of its heap in a memory
  eligible_here : (memory : List ℕ) → t.hi ≤ length memory → (h : Option ℕ) → eligible t.blocks t.order h ≡ eligible (blocks (heap_in t memory)) t.order h
  eligible_here memory high h =
      let layout : Layout = record { cap = length t.entries; lo = t.lo; hi = t.hi; grain = t.grain; blocks = t.blocks } in
      let parts : AreParts t.entries layout t.order memory = record { sound = sound; ids = refl; high = high } in
      C.eligible_by_members t.blocks (blocks (heap_in t memory)) (listed_permutation parts) t.order h

  -- a member of the order has an entry
  member_known : (id : ℕ) → C.is_member id t.order ≡ true → (e : Entry) × (entry_at t id ≡ Some e)
  member_known id m = turn (entry_at t id) refl (sym (sound.in_order id) ∙ m)
    where
      turn : (e : Option Entry) → entry_at t id ≡ e → C.is_listed e (block_with t.blocks id) ≡ true → (e : Entry) × (entry_at t id ≡ Some e)
      turn None e l = absurd (false≢true l)
      turn (Some d) e l = (d, e)

  -- and so has what may be discarded, and no lock
  no_lock : (h : Option ℕ) (id : ℕ) → Member id (eligible t.blocks t.order h) → IsSomeAnd (entry_at t id) (λ e. e.locks ≡ 0)
  no_lock h id m = turn (entry_at t id) (block_with t.blocks id) refl refl (sym (sound.in_order id) ∙ C.true-is_member id t.order (C.member_filter (λ q. not (C.is_pinned_id t.blocks q) && not (C.is_about h q)) t.order id m).0)
    where
      and_none : (b : Bool) → (b && false) ≡ false
      and_none true = refl
      and_none false = refl

      or_true : (b c : Bool) → c ≡ true → (b || c) ≡ true
      or_true true c t = refl
      or_true false c t = t

      turn : (e : Option Entry) (b : Option Block) → entry_at t id ≡ e → block_with t.blocks id ≡ b → C.is_listed e b ≡ true → IsSomeAnd (entry_at t id) (λ e. e.locks ≡ 0)
      turn None b e f l = absurd (false≢true l)
      turn (Some d) None e f l = absurd (false≢true (sym (and_none (C.is_discardable d.kind)) ∙ l))
      turn (Some d) (Some x) e f l = subst (λ p. IsSomeAnd p (λ e. e.locks ≡ 0)) (sym e) (elim (C.cases_Bool (C.nat_lt 0 d.locks)) [
        | inl locked ↦ absurd (C.eligible_loose t.blocks t.order h x here.0 (subst (λ q. Member q (eligible t.blocks t.order h)) (sym here.1) m) (ap C.holds_still (held ∙ ap (λ b. cond b C.Pinned Loose) (or_true (C.is_fixed d.kind) (C.nat_lt 0 d.locks) locked))))
        | inr free ↦ (let le : d.locks ≤ 0 = C.ltb-false 0 d.locks free in omega arith)
      ])
        where
          here : Member x t.blocks × (x.id ≡ id)
          here = C.member_with t.blocks id x f

          held : x.hold ≡ hold_of_entry d
          held = subst (λ p. IsSomeAnd p (λ e. x.hold ≡ hold_of_entry e)) e (holds_at t.entries (record { cap = length t.entries; lo = t.lo; hi = t.hi; grain = t.grain; blocks = t.blocks }) t.order sound id x f)

  -- there are no more members than entries
  pub order_short : length t.order ≤ length t.entries
  order_short = C.length-le_from_distinct_below t.order (length t.entries) (C.IsDistinct-from_AllPairs C.Decides-eqb t.order sound.no_repeats)
      (λ q e. let known = member_known q (C.true-is_member q t.order (any_member q t.order e)) in in_list t.entries q known.0 known.1)

-- The list of those that may be discarded.
module _ (xs : List Block) (ids : List ℕ) (h : Option ℕ) (k : ℕ) where
  -- so many are listed, and the first of the rest follow
  pub record AreListed (listed rest : List ℕ) : Type 0 where
    pub few : length listed ≤ k
    pub follow : listed ++ take (k - length listed) (eligible xs rest h) ≡ take k (eligible xs ids h)

  pub listed_none : (listed rest : List ℕ) → listed ≡ [] → rest ≡ ids → AreListed listed rest
  listed_none listed rest none all =
      subst (λ (qs : List ℕ). AreListed qs rest) (sym none) (subst (AreListed []) (sym all) (record { few = omega arith; follow = let whole : k - 0 ≡ k = omega arith in ap (λ n. take n (eligible xs ids h)) whole }))

  pub listed_full : (listed rest : List ℕ) → AreListed listed rest → length listed ≡ k → listed ≡ take k (eligible xs ids h)
  listed_full listed rest now full =
      let no_more : k - length listed ≡ 0 = omega arith in
      sym (C.append-nil listed) ∙ ap (λ n. listed ++ take n (eligible xs rest h)) (sym no_more) ∙ now.follow

  pub listed_end : (listed rest : List ℕ) → AreListed listed rest → rest ≡ [] → listed ≡ take k (eligible xs ids h)
  listed_end listed rest now none =
      sym (C.append-nil listed) ∙ ap (λ (qs : List ℕ). listed ++ qs) (sym (take_none (k - length listed))) ∙ ap (λ (qs : List ℕ). listed ++ take (k - length listed) (eligible xs qs h)) (sym none) ∙ now.follow

  -- the next of the rest, which may be discarded or not
  module _ (listed : List ℕ) (id : ℕ) (later rest : List ℕ) (cut : rest ≡ id ∷ later) (now : AreListed listed rest) where
    pub listed_past : may_go xs h id ≡ false → AreListed listed later
    listed_past stays = record { few = now.few; follow = ap (λ (qs : List ℕ). listed ++ take (k - length listed) qs) (sym (C.passed_here xs h id later rest cut stays)) ∙ now.follow }

    module _ (yes : may_go xs h id ≡ true) (more : length listed ≢ k) where
      follows : (listed ++ id ∷ []) ++ take (k - (length listed + 1)) (eligible xs later h) ≡ take k (eligible xs ids h)
      follows =
          let few = now.few in
          let longer : suc (k - (length listed + 1)) ≡ k - length listed = omega arith in
          C.append_assoc listed (id ∷ []) _ ∙ ap (λ n. listed ++ take n (id ∷ eligible xs later h)) longer
          ∙ ap (λ (qs : List ℕ). listed ++ take (k - length listed) qs) (sym (C.first_here xs h id later rest cut yes)) ∙ now.follow

      -- there is room to list it
      pub listed_fits : length listed < length ids
      listed_fits =
          let a = ap (length {A = ℕ}) follows in
          let b = length-append (listed ++ id ∷ []) (take (k - (length listed + 1)) (eligible xs later h)) in
          let c = length-append listed (id ∷ []) in
          let d = C.length-take k (eligible xs ids h) in
          let e = eligible_few xs ids h in
          omega arith

      pub listed_more : (qs : List ℕ) → qs ≡ listed ++ id ∷ [] → AreListed qs later
      listed_more qs pushed =
          let few = now.few in let long : length (listed ++ id ∷ []) ≡ length listed + 1 = length-append listed (id ∷ []) in
          subst (λ (ps : List ℕ). AreListed ps later) (sym pushed) (record { few = omega arith; follow = ap (λ n. (listed ++ id ∷ []) ++ take (k - n) (eligible xs later h)) long ∙ follows })

-- After i of the discards of what is listed.
pub record ArePartly (before : ArenaState) (k : ℕ) (h : Option ℕ) (i : ℕ) (now : ArenaState) : Type 0 where
  pub heaps : (memory : List ℕ) → before.table.hi ≤ length memory → heap_in now.table memory ≡ fold absent (heap_in before.table memory) (take i now.discarded)
  pub entries : now.table.entries ≡ before.table.entries
  pub range : C.IsSameRange before.table now.table
  pub listed : now.discarded ≡ take k (eligible before.table.blocks before.table.order h)

module _ (before : ArenaState) (sound : C.IsSound before.table) (k : ℕ) (h : Option ℕ) where
  abbrev old : Table
  old = before.table

  pub partly_none : (ids : List ℕ) → ids ≡ take k (eligible old.blocks old.order h) → ArePartly before k h 0 (record { table = old; discarded = ids })
  partly_none ids listed = record { heaps = λ memory high. refl; entries = refl; range = record { lo = refl; hi = refl; grain = refl; ids = refl; sound = sound }; listed = listed }

  module _ (i : ℕ) (now : ArenaState) (partly : ArePartly before k h i now) where
    -- all were discarded
    pub full : length now.discarded ≤ i → C.Discards k h before now
    full le = record {
      heaps = λ memory high. partly.heaps memory high ∙ ap (fold absent (heap_in old memory)) (C.take_all i now.discarded le ∙ partly.listed ∙ ap (take k) (eligible_here old sound memory high h));
      range = partly.range;
      listed = partly.listed;
    }

    -- one more, which has no lock
    module _ (lt : i < length now.discarded) (items : List ℕ) (shown : items ≡ now.discarded) (id : ℕ) (read : id ≡ get_or items i id) where
      here : id ≡ get_or now.discarded i 0
      here = get_or_read items i id (let long = ap (length {A = ℕ}) shown in omega arith) read 0 ∙ ap (λ (qs : List ℕ). get_or qs i 0) shown

      pub next_unlocked : IsSomeAnd (entry_at now.table id) (λ e. e.locks ≡ 0)
      next_unlocked =
          let m = subst (Member id) partly.listed (subst (λ q. Member q now.discarded) (sym here) (place_member now.discarded i lt)) in
          subst (λ (entries : List (Option Entry)). IsSomeAnd (entry_at (record now.table { entries = entries }) id) (λ e. e.locks ≡ 0)) (sym partly.entries)
          (no_lock old sound h id (C.from_take k (eligible old.blocks old.order h) id m))

      pub partly_more : (after : ArenaState) → Steps now after (λ a b. b ≡ absent a id) → after.table.entries ≡ now.table.entries → ArePartly before k h (i + 1) after
      partly_more after steps entries =
          let same : after.discarded ≡ now.discarded = ap (λ (s : ArenaState). s.discarded) steps.rest in record {
            heaps = λ memory high.
                let high_now : now.table.hi ≤ length memory = let range = partly.range.hi in omega arith in let start : Heap = heap_in old memory in
                steps.heaps memory high_now ∙ ap (λ (heap : Heap). absent heap id) (partly.heaps memory high)
                ∙ sym (ap (fold absent start) (ap (take (i + 1)) same ∙ take_more now.discarded i 0 lt ∙ ap (λ q. take i now.discarded ++ q ∷ []) (sym here)) ∙ fold-append absent start (take i now.discarded) (id ∷ []));
            entries = entries ∙ partly.entries;
            range = range_then partly.range steps.range;
            listed = same ∙ partly.listed;
          }
