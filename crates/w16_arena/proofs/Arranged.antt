-- Blocks that slid are an arrangement, so no free range among them is longer than the room.
use Rattle.w16_arena.proofs
use proofs.Common as C
use proofs.Common.{◌≡◌, ℕ, ◌+◌, ◌-◌, ◌<◌, ◌≤◌, inl, inr, Bool, true, false, not, ◌&&◌, nat_le, nat_lt, IsTrue, List, option_map, unwrap_or, refl, sym, ap, ◌∙◌, subst, arith, false≢true, and_parts, Block, Misses, block_end, is_pinned, is_loose, is_any, begins_in, IsGap, room, longest_hole}
use proofs.Common.{first_from, Each-from, All-from_Each, Member, last_to, gap_around, sized, two, Layout, Slides}
use proofs.{Lookups.named_pairs, Pairs.two_member, Pairs.two_same, Slid.pinned_stands}

unpinned : (b : Bool) → b ≡ true → not b ≡ true → ⊥
unpinned true h k = false≢true k
unpinned false h k = false≢true h

-- blocks that didn't slide
pub same_moved : (low : ℕ) (layout : Layout) (memory : List ℕ) → C.IsOrdered layout → C.AreMoved low low layout memory layout memory
same_moved low layout memory ordered = record {
  same = refl;
  blocks = two_same _ (λ b. record { same = refl; place = inl refl; bytes = refl }) _;
  unpinned = λ lt. absurd (omega arith);
  ordered = ordered;
  size = refl;
  bytes = λ all. all;
}

module _ {low high : ℕ} {old : Layout} {memory : List ℕ} {new : Layout} {after : List ℕ} (ordered : C.IsOrdered old) (moved : C.AreMoved low high old memory new after) where
  abbrev xs : List Block
  xs = old.blocks

  placed_old : C.ArePlaced old.lo old.hi xs
  placed_old = C.laid_placed old.lo old.hi xs ordered.laid

  placed_new : C.ArePlaced new.lo new.hi new.blocks
  placed_new = C.laid_placed new.lo new.hi new.blocks moved.ordered.laid

  -- where a block stands then
  abbrev place : Block → ℕ
  place x = unwrap_or (option_map (λ (y : Block). y.at) (C.block_with new.blocks x.id)) 0

  stands : (x : Block) → Member x xs → (y : Block) × Member y new.blocks × Slides low high memory after x y × (place x ≡ y.at)
  stands x m =
      let r = two_member (Slides low high memory after) xs new.blocks moved.blocks x m in
      let id : r.0.id ≡ x.id = ap (λ (z : Block). z.id) r.2.same in
      let here = C.with_member new.blocks r.0 (named_pairs new.cap new.blocks moved.ordered.named) r.1 in
      (r.0, r.1, r.2, ap (λ q. unwrap_or (option_map (λ (y : Block). y.at) (C.block_with new.blocks q)) 0) (sym id) ∙ ap (λ b. unwrap_or (option_map (λ (y : Block). y.at) b) 0) here)

  -- no pinned byte is in a loose block
  clear_at : (x : Block) → Member x xs → IsTrue (is_loose x) → C.IsClear is_pinned old.lo old.hi xs x.at (block_end x)
  clear_at x m t = C.clear_from is_pinned old.lo old.hi xs (sized old.lo old.hi xs placed_old) x.at (block_end x) (C.inside old.lo old.hi xs placed_old x m).0 (C.inside old.lo old.hi xs placed_old x m).2
      (λ y n u. elim (two old.lo old.hi xs placed_old y x n m) [
        | inl e ↦ absurd (unpinned (is_pinned x) (subst (λ (z : Block). IsTrue (is_pinned z)) e u) t)
        | inr f ↦ f
      ])

  -- a loose block stays in its gap
  kept_in : (a b : ℕ) → IsGap old.lo old.hi xs a b → (x : Block) → Member x xs → IsTrue (is_loose x && begins_in a b x) → (a ≤ place x) × (place x + x.size ≤ b)
  kept_in a b gap x m t =
      let loose : IsTrue (is_loose x) = (and_parts (is_loose x) (begins_in a b x) t).0 in
      let range : IsTrue (nat_le a x.at && nat_lt x.at b) = (and_parts (is_loose x) (begins_in a b x) t).1 in
      let from : a ≤ x.at = C.leb-true a x.at (and_parts (nat_le a x.at) (nat_lt x.at b) range).0 in
      let to : x.at < b = C.ltb-true x.at b (and_parts (nat_le a x.at) (nat_lt x.at b) range).1 in
      let some : 0 < x.size = sized old.lo old.hi xs placed_old x m in
      let y = stands x m in
      let own = gap_around is_pinned old.lo old.hi xs (sized old.lo old.hi xs placed_old) x.at (block_end x) (omega arith) (clear_at x m loose) in
      let one = C.gap_same is_pinned old.lo old.hi xs (sized old.lo old.hi xs placed_old) a b (last_to is_pinned old.lo xs x.at) (first_from is_pinned old.hi xs (last_to is_pinned old.lo xs x.at)) x.at gap own.0 from to own.1 (let end = own.2 in omega arith) in
      within from to some (omega (arith, one.1, own.2)) y.0 y.2 y.3
    where
      within : a ≤ x.at → x.at < b → 0 < x.size → x.at + x.size ≤ b → (y : Block) → Slides low high memory after x y → place x ≡ y.at → (a ≤ place x) × (place x + x.size ≤ b)
      within from to some end y s e = elim s.place [
        | inl same ↦ (omega arith, omega arith)
        | inr f ↦
            let lt : low < high = omega (arith, f.3, f.4) in
            let size : y.size ≡ x.size = ap (λ (z : Block). z.size) s.same in
            let whole = gap_around is_pinned old.lo old.hi xs (sized old.lo old.hi xs placed_old) low high lt (moved.unpinned lt) in
            let one = C.gap_same is_pinned old.lo old.hi xs (sized old.lo old.hi xs placed_old) a b (last_to is_pinned old.lo xs low) (first_from is_pinned old.hi xs (last_to is_pinned old.lo xs low)) x.at gap whole.0 from to
            (omega (arith, whole.1, f.3)) (omega (arith, whole.2, f.4)) in
            (omega (arith, one.0, whole.1, f.1, e), omega (arith, one.1, whole.2, f.2, e, size))
      ]

  apart_after : (x y : Block) → Member x xs → Member y xs → (x.id ≡ y.id → ⊥) → IsTrue (is_loose x) → IsTrue (is_loose y) → Misses (place x) x.size (place y) (place y + y.size)
  apart_after x y m n d t u =
      let p = stands x m in let q = stands y n in
      elim (two new.lo new.hi new.blocks placed_new p.0 q.0 p.1 q.1) [
        | inl e ↦ absurd (d (sym (ap (λ (z : Block). z.id) p.2.same) ∙ ap (λ (z : Block). z.id) e ∙ ap (λ (z : Block). z.id) q.2.same))
        | inr f ↦
            let size_x : p.0.size ≡ x.size = ap (λ (z : Block). z.size) p.2.same in let size_y : q.0.size ≡ y.size = ap (λ (z : Block). z.size) q.2.same in
            elim f [ inl k ↦ inl (omega (arith, k, size_x, p.3, q.3)) | inr k ↦ inr (omega (arith, k, size_y, p.3, q.3)) ]
      ]

  arranged : C.IsArrangement old.lo old.hi xs place
  arranged = record {
    kept = λ a b gap. All-from_Each (λ x. IsTrue (is_loose x && begins_in a b x) → (a ≤ place x) × (place x + x.size ≤ b)) xs (Each-from (λ x. IsTrue (is_loose x && begins_in a b x) → (a ≤ place x) × (place x + x.size ≤ b)) xs (kept_in a b gap));
    apart = C.AllPairs-from_EachPair (λ x y. IsTrue (is_loose x) → IsTrue (is_loose y) → Misses (place x) x.size (place y) (place y + y.size)) xs
        (C.EachPair-member (λ x y. x.id ≡ y.id → ⊥) (λ x y. IsTrue (is_loose x) → IsTrue (is_loose y) → Misses (place x) x.size (place y) (place y + y.size)) xs apart_after (named_pairs old.cap xs ordered.named));
  }

  -- no free range is longer than the room that there was
  pub free_in_room : (a b : ℕ) → C.IsClear is_any new.lo new.hi new.blocks a b → b - a ≤ room old.lo old.hi xs
  free_in_room a b clear = C.none_longer old.lo old.hi xs placed_old place a b arranged (record {
    clear = record {
      above = let e = ap (λ (l : Layout). l.lo) moved.same in omega (arith, clear.above);
      below = let e = ap (λ (l : Layout). l.hi) moved.same in omega (arith, clear.below);
      misses = All-from_Each (λ x. IsTrue (is_pinned x) → Misses x.at x.size a b) xs (Each-from (λ x. IsTrue (is_pinned x) → Misses x.at x.size a b) xs (λ x m t.
          let y = stands x m in
          let at : y.0.at ≡ x.at = pinned_stands low high memory after x y.0 y.2 t in
          meets x y.0 y.2 x.at at (C.missed is_any new.lo new.hi new.blocks (sized new.lo new.hi new.blocks placed_new) a b clear y.0 y.1 refl)));
    };
    misses = All-from_Each (λ x. IsTrue (is_loose x) → Misses (place x) x.size a b) xs (Each-from (λ x. IsTrue (is_loose x) → Misses (place x) x.size a b) xs (λ x m t.
        let y = stands x m in
        meets x y.0 y.2 (place x) (sym y.3) (C.missed is_any new.lo new.hi new.blocks (sized new.lo new.hi new.blocks placed_new) a b clear y.0 y.1 refl)));
  })
    where
      meets : (x y : Block) → Slides low high memory after x y → (p : ℕ) → y.at ≡ p → Misses y.at y.size a b → Misses p x.size a b
      meets x y s p e (inl k) = inl (let size : y.size ≡ x.size = ap (λ (z : Block). z.size) s.same in omega arith)
      meets x y s p e (inr k) = inr (omega arith)

  -- nor is the longest hole
  pub longest_in_room : longest_hole new.lo new.hi new.blocks ≤ room old.lo old.hi xs
  longest_in_room = elim (C.cases_lt 0 (longest_hole new.lo new.hi new.blocks)) [
    | inr none ↦ omega arith
    | inl some ↦ let best = (C.hole_is_longest new.lo new.hi new.blocks placed_new).one_as_long some in let in_room = free_in_room best.0 best.1 best.2.clear in omega (arith, best.3)
  ]

  -- a free range of n bytes is as long as the room allows, and some hole is no shorter
  pub free_fits : (n at : ℕ) → C.AreFreeBytes new n at → n ≤ room old.lo old.hi xs
  free_fits n at free =
      let r = free_in_room at (at + n) (record {
        above = free.above;
        below = free.below;
        misses = All-from_Each
            (λ x. IsTrue (is_any x) → Misses x.at x.size at (at + n)) new.blocks
            (Each-from (λ x. IsTrue (is_any x) → Misses x.at x.size at (at + n)) new.blocks
            (λ x m t. C.Each-at (λ (x : Block). Misses x.at x.size at (at + n)) new.blocks free.misses x m));
      }) in
      omega arith

  pub free_in_hole : (n at : ℕ) → 0 < n → C.AreFreeBytes new n at → n ≤ longest_hole new.lo new.hi new.blocks
  free_in_hole n at some free =
      let around = gap_around is_any new.lo new.hi new.blocks (sized new.lo new.hi new.blocks placed_new) at (at + n) (omega arith)
      (record {
        above = free.above;
        below = free.below;
        misses = All-from_Each
            (λ x. IsTrue (is_any x) → Misses x.at x.size at (at + n)) new.blocks
            (Each-from (λ x. IsTrue (is_any x) → Misses x.at x.size at (at + n)) new.blocks
            (λ x m t. C.Each-at (λ (x : Block). Misses x.at x.size at (at + n)) new.blocks free.misses x m));
      }) in
      let most = (C.hole_is_longest new.lo new.hi new.blocks placed_new).none_longer (last_to is_any new.lo new.blocks at) (first_from is_any new.hi new.blocks (last_to is_any new.lo new.blocks at)) around.0 in
      omega (arith, around.1, around.2, most)
