-- What stays for a request, and keeps its place, where a range ends later.
use Rattle.w16_compact.proofs
use proofs.Common as C
use proofs.Common.{◌≡◌, ℕ, ◌+◌, ◌-◌, ◌≤◌, max, Bool, true, false, cond, not, ◌&&◌, ◌||◌, ◌==◌, nat_le, List, [], ◌∷◌, length, drop, filter, Option, Some, None, is_some, refl, sym, ap, ◌∙◌, arith, inl, inr, Block, Pinned, block_end, room, needed, snapshot, is_pinned, false≢true, is_member}
use proofs.Common.{is_about, eligible, take_past}
use proofs.Skips.{IsPassed, passed, reaches_now, ends_now, turn_skipped, turn_pinned, turn_loose}
use proofs.{OnePass.none_out_all, Searched.may_go}
use Rattle.std.proofs.lemmas.List.{drop-map}
use Rattle.w16_model.specs.{declared.RoomOptions.RoomOptions, Discards.prefix_for, Discards.none_discarded_if, Gap.longest_hole, Law.all_pinned}
use Rattle.w16_model.proofs.{Pinned.pinned_law, Least.needed-Some, Least.needed-None, Prefixes.filter_same}

is_not : (b v : Bool) → not b ≡ v → b ≡ not v
is_not true v e = ap not e
is_not false v e = ap not e

-- the blocks as a request sees them, which lets none move without compaction
abbrev pub seen : Bool → List Block → List Block
seen true xs = xs
seen false xs = all_pinned xs

abbrev pub seen_one : Bool → Block → Block
seen_one true x = x
seen_one false x = record x { hold = Pinned }

pub seen_here : (compact : Bool) (xs : List Block) (x : Block) (rest : List Block) (i : ℕ) → drop i xs ≡ x ∷ rest → drop i (seen compact xs) ≡ seen_one compact x ∷ seen compact rest
seen_here true xs x rest i e = e
seen_here false xs x rest i e = drop-map (λ (y : Block). record y { hold = Pinned }) i xs ∙ ap all_pinned e

pub seen_none : (compact : Bool) (xs : List Block) (i : ℕ) → drop i xs ≡ [] → drop i (seen compact xs) ≡ []
seen_none true xs i e = e
seen_none false xs i e = drop-map (λ (y : Block). record y { hold = Pinned }) i xs ∙ ap all_pinned e

pub laid_seen : (compact : Bool) (lo hi : ℕ) (xs : List Block) → C.IsLaid lo hi xs → C.IsLaid lo hi (seen compact xs)
laid_seen true lo hi xs laid = laid
laid_seen false lo hi [] laid = laid
laid_seen false lo hi (x ∷ xs) laid = (laid.0, laid.1, laid_seen false (block_end x) hi xs laid.2)

-- whether a block is left out where others may slide, and whether it stays
abbrev pub goes_for : List Block → List ℕ → Option ℕ → Bool → ℕ → Bool
goes_for xs order h discard id = (discard && (is_member id order && may_go xs h id)) || is_about h id

abbrev pub stays : Bool → (ℕ → Bool) → Block → Bool
stays compact goes x = not (compact && goes x.id)

-- a turn of the pass, at the i-th block
module _ (goes : ℕ → Bool) (hi total : ℕ) (xs : List Block) (x : Block) (rest : List Block) (i : ℕ) (here : drop i xs ≡ x ∷ rest) (most : ℕ) (r : C.Reached) where
  abbrev Passed : Bool → ℕ → ℕ → ℕ → ℕ → Type 0
  Passed compact j m low loose = IsPassed (stays compact goes) hi (seen compact xs) total j m low loose

  pub reaches : (compact : Bool) → Passed compact i most r.low r.loose → (r.low + r.loose ≤ x.at) × (block_end x ≤ hi)
  reaches true now = (reaches_now (stays true goes) hi xs total x rest i here most r now, ends_now (stays true goes) hi xs total x rest i here most r now)
  reaches false now =
      let y = seen_one false x in let there = seen_here false xs x rest i here in
      (reaches_now (stays false goes) hi (all_pinned xs) total y (all_pinned rest) i there most r now, ends_now (stays false goes) hi (all_pinned xs) total y (all_pinned rest) i there most r now)

  pub turn_out : (compact : Bool) → (compact && goes x.id) ≡ true → Passed compact i most r.low r.loose → Passed compact (i + 1) most r.low r.loose
  turn_out true e now = turn_skipped (stays true goes) hi xs total x rest i here most r now (ap not e)
  turn_out false e now = absurd (false≢true e)

  pub turn_sliding : (compact : Bool) → (compact && goes x.id) ≡ false → (compact && not (is_pinned x)) ≡ true → (r' : C.Reached) → r' ≡ passed r x → Passed compact i most r.low r.loose → Passed compact (i + 1) most r'.low r'.loose
  turn_sliding true e k r' is now = turn_loose (stays true goes) hi xs total x rest i here most r now (ap not e) (is_not (is_pinned x) true k) most refl r' is
  turn_sliding false e k r' is now = absurd (false≢true k)

  pub turn_still : (compact : Bool) → (compact && goes x.id) ≡ false → (compact && not (is_pinned x)) ≡ false → (m : ℕ) → m ≡ max most (x.at - r.low - r.loose) → Passed compact i most r.low r.loose → Passed compact (i + 1) m (block_end x) 0
  turn_still true e k m is now =
      let pinned = is_not (is_pinned x) false k in
      turn_pinned (stays true goes) hi xs total x rest i here most r now (ap not e) pinned m is (record { low = block_end x; loose = 0 }) (sym (C.cond-true (is_pinned x) _ _ pinned))
  turn_still false e k m is now =
      turn_pinned (stays false goes) hi (all_pinned xs) total (seen_one false x) (all_pinned rest) i (seen_here false xs x rest i here) most r now refl refl m is (record { low = block_end x; loose = 0 }) refl

either : (b v m r f : Bool) → (v ≡ true → r ≡ b) → f ≡ (m && r) → cond b (v || f) f ≡ ((v || m) && r)
either true true m r f h e = sym (h refl)
either true false m r f h e = e
either false true m r f h e = e ∙ ap (λ t. m && t) (h refl) ∙ none m ∙ sym (h refl)
  where
    none : (t : Bool) → (t && false) ≡ false
    none true = refl
    none false = refl
either false false m r f h e = e

-- a member that passes
member_passing : (q : ℕ → Bool) (id : ℕ) (ids : List ℕ) → is_member id (filter q ids) ≡ (is_member id ids && q id)
member_passing q id [] = refl
member_passing q id (x ∷ ids) = turn (q x) refl (member_passing q id ids)
  where
    turn : (b : Bool) → q x ≡ b → is_member id (filter q ids) ≡ (is_member id ids && q id) → is_member id (cond {A = List ℕ} b (x ∷ filter q ids) (filter q ids)) ≡ (((x == id) || is_member id ids) && q id)
    turn true e = either true _ _ (q id) _ (λ t. ap q (sym (C.eqb-true x id t)) ∙ e)
    turn false e = either false _ _ (q id) _ (λ t. ap q (sym (C.eqb-true x id t)) ∙ e)

some_is : (b : Bool) → is_some (none_discarded_if b) ≡ b
some_is true = refl
some_is false = refl

module _ (lo end : ℕ) (xs : List Block) (order : List ℕ) (n : ℕ) (h : Option ℕ) where
  abbrev room_after : ℕ → ℕ
  room_after k = C.room_for (snapshot lo end xs order) k h

  few : length (eligible xs order h) ≤ length order
  few = let e = C.length-filter (may_go xs h) order in omega (arith, C.count_by-le-length (may_go xs h) order)

  -- some number of discards makes room where all do
  needed_is : (p : Option ℕ) → needed (snapshot lo end xs order) n h ≡ p → is_some p ≡ nat_le n (room_after (length order))
  needed_is None e = sym (C.lt-leb n (room_after (length order)) (needed-None lo end xs order n h e (length order)))
  needed_is (Some k) e = sym (C.le-leb n (room_after (length order)) (elim (C.cases_lt (length order) k) [
    | inl past ↦
        let all : room_after k ≡ room_after (length order) = ap (λ (ids : List ℕ). room lo end (C.blocks_without xs ids h)) (take_past k (eligible xs order h) (let le = few in omega arith) ∙ sym (take_past (length order) (eligible xs order h) few)) in
        let enough = (needed-Some lo end xs order n h k e).0 in omega arith
    | inr le ↦ let more = C.more_discards_law lo end xs order h k (length order) le in let enough = (needed-Some lo end xs order n h k e).0 in omega arith
  ]))

  -- so the request has as many bytes as the room of what stays
  pub prefix_is : (options : RoomOptions) → is_some (prefix_for (snapshot lo end xs order) n h options) ≡ nat_le n (room lo end (filter (stays options.compact (goes_for xs order h options.discard)) (seen options.compact xs)))
  prefix_is options = by options.compact options.discard
    where
      by : (compact discard : Bool)
          → is_some (cond (not compact) (none_discarded_if (nat_le n (longest_hole lo end xs))) (cond (not discard) (none_discarded_if (nat_le n (room_after 0))) (needed (snapshot lo end xs order) n h)))
          ≡ nat_le n (room lo end (filter (stays compact (goes_for xs order h discard)) (seen compact xs)))
      by false discard = some_is (nat_le n (longest_hole lo end xs)) ∙ ap (nat_le n) (pinned_law lo end xs ∙ ap (room lo end) (sym (none_out_all (all_pinned xs))))
      by true false = some_is (nat_le n (room_after 0))
      by true true =
          needed_is (needed (snapshot lo end xs order) n h) refl
          ∙ ap (λ (ids : List ℕ). nat_le n (room lo end (filter (λ (x : Block). not (is_member x.id ids || is_about h x.id)) xs))) (take_past (length order) (eligible xs order h) few)
          ∙ ap (λ ys. nat_le n (room lo end ys)) (filter_same (λ (x : Block). not (is_member x.id (eligible xs order h) || is_about h x.id)) (stays true (goes_for xs order h true)) xs (λ x m. ap (λ b. not (b || is_about h x.id)) (member_passing (may_go xs h) x.id order)))
