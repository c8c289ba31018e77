-- A gap that was opened behind a block: the blocks that slid, and the bytes that are free for it.
use Rattle.w16_arena.proofs
use proofs.Common as C
use proofs.ButFor as M
use Rattle.std.specs.List.{AllByRecursion as Each}
use proofs.Common.{◌≡◌, ℕ, ◌+◌, ◌<◌, ◌≤◌, ◌==◌, ◌⊎◌, inl, inr, cond, List, [], ◌∷◌, map, length, All, Some, refl, sym, ap, ◌∙◌, subst, arith, Block, Loose, Span, part, block_end, is_any, loose_bytes, IsClear, IsLaid, IsMultiple, block_with, Layout, IsGrained, IsOrdered, all_but, IsCut}
use proofs.Common.{Gap, HasRoom, contents, moved_between, FitsGap, MayGather, with_loose, opened, end_in, spare_in, held, others_held, EachTwo, AreMoved, but_for}
use proofs.Pairs.{Stands, two_gathered, two_slides, two_then}
use proofs.{Grown.HasWay, ButFor.own_lies, Gathering.sum_grains, Gathering.loose_grains}
use Rattle.w16_compact.specs.Gap.{without}

-- gathered blocks are laid out
laid_packed : (high from top to : ℕ) (bs : List Block) → IsLaid from top bs → to ≤ from → IsLaid to top (C.packed high to bs)
laid_packed high from top to [] laid le = omega arith
laid_packed high from top to (b ∷ bs) laid le =
    let start = laid.0 in
    elim (C.cases_lt b.at high) [
      | inl lt ↦ rw (C.lt-ltb b.at high lt) (omega arith, laid.1, laid_packed high (block_end b) top (to + b.size) bs laid.2 (omega arith))
      | inr ge ↦ rw (C.le-ltb b.at high ge) (omega arith, laid.1, laid.2)
    ]

laid_gathered : (low high from top : ℕ) (bs : List Block) → IsLaid from top bs → from ≤ low → Each (FitsGap low high) bs → low ≤ high → IsLaid from top (C.gathered low high bs)
laid_gathered low high from top [] laid le fits order = laid
laid_gathered low high from top (b ∷ bs) laid le fits order =
    let start = laid.0 in
    elim (C.cases_lt b.at low) [
      | inl lt ↦ rw (C.lt-ltb b.at low lt) (start, laid.1, laid_gathered low high (block_end b) top bs laid.2 (elim fits.0 [ inl end ↦ end | inr other ↦ elim other [ inl above ↦ absurd (omega arith) | inr inside ↦ let from_low = inside.0 in absurd (omega arith) ] ]) fits.1 order)
      | inr ge ↦ rw (C.le-ltb b.at low ge) (C.IsLaid-from from low top _ le (laid_packed high b.at top low (b ∷ bs) (omega arith, laid.1, laid.2) ge))
    ]

-- where raised blocks stand
two_raised : (ws : List Block) (low high from top : ℕ) (bs : List Block) → IsLaid from top bs → Each (FitsGap low high) bs → IsCut high bs → ((a : ℕ) → from ≤ a → loose_bytes ws a high ≡ loose_bytes bs a high)
    → EachTwo (Stands low high) bs (map (C.raised_in ws low high) bs)
two_raised ws low high from top [] laid fits cut same = tt
two_raised ws low high from top (b ∷ bs) laid fits cut same =
    let start = laid.0 in let size = laid.1 in (
      C.by_reach ws low high (Stands low high b) b (λ lt. (refl, inl refl)) (λ le. (refl, inl refl))
          (λ le lt.
          let is = C.inside_is low high b size le lt fits.0 in let end = is.0 in
          let own = C.loose_here b bs b.at high is.1 (omega arith) lt in
          let whole = same b.at start in
          let most = C.loose_most b.at high from top (b ∷ bs) laid cut in
          (refl, inr (is.1, omega (arith, most, whole), omega (arith, own, whole, most), le, end))),
      two_raised ws low high (block_end b) top bs laid.2 fits.1 cut.1 (λ a le. same a (omega arith) ∙ C.loose_skip b bs a high (inl (omega arith))),
    )

-- the loose bytes of an interval, with those of a block in it
loose_but : (cap a e : ℕ) (x : Block) (bs : List Block) → C.AreNamed cap bs → block_with bs x.id ≡ Some x → x.hold ≡ Loose → a ≤ x.at → x.at < e → loose_bytes bs a e ≡ loose_bytes (all_but x.id bs) a e + x.size
loose_but cap a e x [] named known loose le lt = cc
loose_but cap a e x (b ∷ bs) named known loose le lt = elim (C.eqb_tells b.id x.id) [
  | inl same ↦
      let f : Some b ≡ Some x = sym (C.with_same x.id b bs same.0) ∙ known in let is : b ≡ x = cc in
      let place = ap (λ c. c.at) is in let size = ap (λ c. c.size) is in
      let rest = C.all_but_same x.id b bs same.0 ∙ C.all_but_absent x.id bs (C.rest_differs cap x.id b bs same.1 named) in
      let left = ap (λ cs. loose_bytes cs a e) rest in
      let one = C.loose_here b bs a e (ap (λ c. c.hold) is ∙ loose) (omega arith) (omega arith) in
      omega (arith, left, one, size)
  | inr other ↦
      let rest = loose_but cap a e x bs named.2 (sym (C.with_other x.id b bs other.0) ∙ known) loose le lt in
      let left = ap (λ cs. loose_bytes cs a e) (C.all_but_other x.id b bs other.0) in
      let one = C.loose_one b bs a e in let two = C.loose_one b (all_but x.id bs) a e in
      omega (arith, rest, left, one, two)
]

-- A block that stands in its gap, up to the last place `high` there where a block may end.
module _ {l : Layout} (ordered : IsOrdered l) (x : Block) (known : block_with l.blocks x.id ≡ Some x) (loose : x.hold ≡ Loose) {n : ℕ} (more : x.size < n) (rounded : IsMultiple l.grain n) {gap : Gap} (has : HasRoom (without (Some x.id) l) n gap)
    (own : (gap.low ≤ x.at) × (x.at < gap.high)) {high : ℕ} (below : high ≤ gap.high) (last : (m : ℕ) → IsMultiple l.grain m → m ≤ gap.high → m ≤ high) where
  may_all : MayGather l gap.low gap.high
  may_all = C.may_with l ordered x.id x known n gap has loose

  within : (b : Block) → IsGrained l.grain b → block_end b ≤ gap.high → block_end b ≤ high
  within b grained le = last (block_end b) (sum_grains l.grain b.at b.size grained.0 grained.1) le

  may_open : MayGather l gap.low high
  may_open = record {
    inside = (may_all.inside.0, last gap.low has.grained may_all.inside.1, let top = may_all.inside.2 in omega arith);
    loose = C.Each-both (IsGrained l.grain) (FitsGap gap.low gap.high) (FitsGap gap.low high)
        (λ b grained fits. elim fits [
          | inl front ↦ inl front
          | inr other ↦ elim other [ inl behind ↦ inr (inl (omega arith)) | inr inside ↦ inr (inr (inside.0, within b grained inside.1, inside.2)) ]
        ]) l.blocks ordered.grained may_all.loose;
  }

  own_within : (gap.low ≤ x.at) × (block_end x ≤ high)
  own_within =
      let lies = own_lies ordered x known in let some = lies.1 in
      (own.0, within x (M.own_grained ordered x known) (C.inside_is gap.low gap.high x some own.0 own.1 (C.each_with (FitsGap gap.low gap.high) x.id x l.blocks known may_all.loose)).0)

  -- there is room for the object up to it
  room_open : gap.low + gap.loose + n ≤ high
  room_open =
      let loose_of : IsMultiple l.grain gap.loose = subst (IsMultiple l.grain) (sym has.loose) (loose_grains l.grain (all_but x.id l.blocks) gap.low gap.high (without_grained ordered)) in
      last (gap.low + gap.loose + n) (sum_grains l.grain (gap.low + gap.loose) n (sum_grains l.grain gap.low gap.loose has.grained loose_of) rounded) has.room
    where
      without_grained : IsOrdered l → Each (IsGrained l.grain) (all_but x.id l.blocks)
      without_grained is = C.All-all_but (IsGrained l.grain) x.id l.blocks is.grained

  abbrev end : ℕ
  end = block_end x

  abbrev mid : List Block
  mid = C.gathered gap.low end l.blocks

  stand : EachTwo (Stands gap.low high) l.blocks (opened gap.low end high l.blocks)
  stand =
      let low_may = C.may_low l ordered gap.low high may_open x known own_within.0 own_within.1 in
      let high_may = C.may_high l ordered gap.low high may_open x known own_within.0 own_within.1 (record l { blocks = mid }) refl in
      let laid = laid_gathered gap.low end l.lo l.hi l.blocks ordered.laid low_may.inside.0 low_may.loose low_may.inside.1 in
      two_then (Stands gap.low end) (Stands end high) (Stands gap.low high)
      (λ a b c one two. (
        two.0 ∙ ap (λ (d : Block). let r : Block = record d { at = c.at } in r) one.0,
        both a b c one two,
      )) l.blocks mid (opened gap.low end high l.blocks) (two_gathered gap.low end l.lo l.hi l.blocks ordered.laid low_may.loose)
      (two_raised mid end high l.lo l.hi mid laid high_may.loose (C.cut_high end high mid own_within.1 high_may.loose) (λ a le. refl))
    where
      both : (a b c : Block) → Stands gap.low end a b → Stands end high b c → (c.at ≡ a.at) ⊎ ((a.hold ≡ Loose) × (gap.low ≤ c.at) × (block_end c ≤ high) × (gap.low ≤ a.at) × (block_end a ≤ high))
      both a b c one two =
          let size = ap (λ (d : Block). d.size) one.0 in let size' = ap (λ (d : Block). d.size) two.0 in let from = own_within.0 in let to = own_within.1 in let some = own_lies ordered x known in
          elim one.1 [
            | inl stay ↦ elim two.1 [
              | inl stay' ↦ inl (stay' ∙ stay)
              | inr f ↦ inr (sym (ap (λ (d : Block). d.hold) one.0) ∙ f.0, (let k = f.1 in omega arith), f.2, (let k = f.3 in omega arith), (let k = f.4 in omega arith))
            ]
            | inr e ↦ elim two.1 [
              | inl stay' ↦ inr (e.0, (let k = e.1 in omega arith), (let k = e.2 in omega arith), e.3, (let k = e.4 in omega arith))
              | inr f ↦ inr (e.0, (let k = f.1 in omega arith), f.2, e.3, (let k = e.4 in omega arith))
            ]
          ]

  -- where it stands then
  abbrev there : Block
  there = record x { at = gap.low + loose_bytes l.blocks gap.low x.at }

  -- once it is opened
  module _ {new : Layout} (value : new ≡ record l { blocks = opened gap.low end high l.blocks }) (laid : IsOrdered new) {memory after : List ℕ} (bytes : contents after new.blocks ≡ contents memory l.blocks) (long : length after ≡ length memory)
      (small : All (λ b. b < 256) after) where
    opened_moved : AreMoved gap.low high l memory new after
    opened_moved = record {
      same = value ∙ ap (λ bs. record l { blocks = bs }) (sym (ap (λ (m : Layout). m.blocks) value));
      blocks = two_slides gap.low high memory after l.blocks new.blocks (subst (EachTwo (Stands gap.low high) l.blocks) (sym (ap (λ (m : Layout). m.blocks) value)) stand) bytes;
      unpinned = λ lt. C.clear_pinned l gap.low high may_open;
      ordered = laid;
      size = long;
      bytes = λ all. small;
    }

    -- the object's block is where it may grow
    own_way : block_with new.blocks x.id ≡ Some there → IsClear is_any l.lo l.hi new.blocks (end_in l.blocks gap.low x) (end_in l.blocks gap.low x + spare_in l.blocks gap.low high)
        → (p : C.Placed) → p.at ≡ there.at → p.slid ≡ record { from = gap.low; to = high } → p.moved ≡ moved_between l.blocks new.blocks → HasWay n x l memory p new after
    own_way place clear p at range count =
        let ids = M.slides_ids gap.low high memory after in
        let own_slid = M.two_own (C.Slides gap.low high memory after) ids x.id l.blocks new.blocks opened_moved.blocks x there known place in
        let lo : new.lo ≡ l.lo = ap (λ (m : Layout). m.lo) value in let hi : new.hi ≡ l.hi = ap (λ (m : Layout). m.hi) value in
        let clear' : IsClear is_any new.lo new.hi new.blocks (end_in l.blocks gap.low x) (end_in l.blocks gap.low x + spare_in l.blocks gap.low high) =
        subst (λ k. IsClear is_any new.lo k new.blocks (end_in l.blocks gap.low x) (end_in l.blocks gap.low x + spare_in l.blocks gap.low high)) (sym hi)
        (subst (λ k. IsClear is_any k l.hi new.blocks (end_in l.blocks gap.low x) (end_in l.blocks gap.low x + spare_in l.blocks gap.low high)) (sym lo) clear) in
        record {
          block = place ∙ ap (λ (a : ℕ). let r : Block = record x { at = a } in Some r) (sym at);
          bytes = ap (λ (a : ℕ). part after a x.size) at ∙ own_slid.bytes;
          slid = subst (λ (s : Span). AreMoved s.from s.to (but_for x.id l) memory (but_for x.id new) after) (sym range) (M.moved_but_for x.id opened_moved);
          laid = laid;
          free = subst (λ a. C.AreFreeBytes (but_for x.id new) n a) (sym at) (M.behind_free laid there place n (end_in l.blocks gap.low x + spare_in l.blocks gap.low high) clear' enough);
          moved = count ∙ M.moved_both (C.Slides gap.low high memory after) ids x.id l.cap l.blocks new.blocks opened_moved.blocks ordered.named (subst (λ k. C.AreNamed k new.blocks) (ap (λ (m : Layout). m.cap) value) laid.named) x there known place
              ∙ ap (λ a. moved_between (all_but x.id l.blocks) (all_but x.id new.blocks) + cond (a == x.at) 0 x.size) (sym at);
        }
      where
        -- what is left of the gap is as long as the object needs
        enough : there.at + n ≤ end_in l.blocks gap.low x + spare_in l.blocks gap.low high
        enough =
            let room = room_open in let most = has.loose in let more_than = more in
            let sum = loose_but l.cap gap.low high x l.blocks ordered.named known loose own_within.0 (let to = own_within.1 in let some = (own_lies ordered x known).1 in omega arith) in
            let less = C.loose_split (all_but x.id l.blocks) gap.low high gap.high (last gap.low has.grained may_all.inside.1) below in
            omega (arith, room, most, more_than, sum, less)

-- A block that stands in its gap, whatever its hold is: it is opened as if it were loose.
module _ {l : Layout} (ordered : IsOrdered l) (x : Block) (known : block_with l.blocks x.id ≡ Some x) {n : ℕ} (more : x.size < n) (rounded : IsMultiple l.grain n) {gap : Gap} (has : HasRoom (without (Some x.id) l) n gap) (own : (gap.low ≤ x.at) × (x.at < gap.high)) {high : ℕ}
    (below : high ≤ gap.high) (last : (m : ℕ) → IsMultiple l.grain m → m ≤ gap.high → m ≤ high) where
  abbrev old : Layout
  old = with_loose x.id l

  abbrev loose_one_of : Block
  loose_one_of = record x { hold = Loose }

  known_loose : block_with old.blocks x.id ≡ Some loose_one_of
  known_loose = C.own_held x.id Loose l.blocks x known

  old_ordered : IsOrdered old
  old_ordered = C.ordered_held x.id Loose l ordered

  others_same : (m : Layout) → but_for x.id (with_loose x.id m) ≡ but_for x.id m
  others_same m = ap (λ bs. let k : Layout = record m { blocks = bs } in k) (others_held x.id Loose m.blocks)

  has_loose : HasRoom (without (Some x.id) old) n gap
  has_loose = subst (λ k. HasRoom k n gap) (sym (others_same l)) has

  pub may_open_held : MayGather old gap.low high
  may_open_held = may_open old_ordered loose_one_of known_loose refl more rounded has_loose own below last

  pub own_within_held : (gap.low ≤ x.at) × (block_end x ≤ high)
  own_within_held = own_within old_ordered loose_one_of known_loose refl more rounded has_loose own below last

  module _ {new : Layout} (value : with_loose x.id new ≡ record old { blocks = opened gap.low (block_end x) high old.blocks }) (laid : IsOrdered new) {memory after : List ℕ} (bytes : contents after new.blocks ≡ contents memory l.blocks) (long : length after ≡ length memory)
      (small : All (λ b. b < 256) after) where
    pub own_way_held : block_with new.blocks x.id ≡ Some (record x { at = gap.low + loose_bytes old.blocks gap.low x.at }) → IsClear is_any l.lo l.hi new.blocks (end_in old.blocks gap.low x) (end_in old.blocks gap.low x + spare_in old.blocks gap.low high)
        → (p : C.Placed) → p.at ≡ gap.low + loose_bytes old.blocks gap.low x.at → p.slid ≡ record { from = gap.low; to = high } → p.moved ≡ moved_between l.blocks new.blocks → HasWay n x l memory p new after
    own_way_held place clear p at range count = record {
      block = place ∙ ap (λ (a : ℕ). let r : Block = record x { at = a } in Some r) (sym at);
      bytes = way.bytes;
      slid = subst (λ (k : Layout). AreMoved p.slid.from p.slid.to k memory (but_for x.id new) after) (others_same l) (subst (λ (k : Layout). AreMoved p.slid.from p.slid.to (but_for x.id old) memory k after) (others_same new) way.slid);
      laid = laid;
      free = subst (λ (k : Layout). C.AreFreeBytes k n p.at) (others_same new) way.free;
      moved = way.moved ∙ (λ i. moved_between (others_held x.id Loose l.blocks i) (others_held x.id Loose new.blocks i) + cond (p.at == x.at) 0 x.size);
    }
      where
        f : Block → Block
        f = held x.id Loose

        way : HasWay n loose_one_of old memory p (with_loose x.id new) after
        way = own_way old_ordered loose_one_of known_loose refl more rounded has_loose own below last value (C.ordered_held x.id Loose new laid)
            (C.contents_held x.id Loose after new.blocks ∙ bytes ∙ sym (C.contents_held x.id Loose memory l.blocks)) long small
            (C.own_held x.id Loose new.blocks _ place) (C.clear_held x.id Loose l.lo l.hi _ _ new.blocks clear) p at range
            (count ∙ sym (C.moved_from f (λ b. (refl, refl)) l.blocks (map f new.blocks) ∙ C.moved_to f (λ b. refl) l.blocks new.blocks))
