-- An object that got more bytes where it stands: its own and new ones, and the others' as they were.
use Rattle.w16_arena.proofs
use proofs.Common as C
use proofs.Common.{◌≡◌, ◌≢◌, ℕ, ◌+◌, ◌-◌, ◌<◌, ◌≤◌, inl, inr, Bool, not, ◌==◌, if◌then◌else◌, All, List, length, slice_range, Some, None, option_map, refl, sym, ap, ◌∙◌, arith, Block, Entry, part, Object, block_with, all_but, Uses}
use proofs.{Cleared.Makes, InPlace.others_with}
use Rattle.w16_arena.proofs.Longer as longer
use Rattle.w16_arena.proofs.Sized as sized

module _ {entries : List (C.Option Entry)} {layout : C.Layout} {uses : Uses} {gap_rooms : ℕ} {room : ℕ} (kept : C.ArenaInvariant entries layout uses gap_rooms room)
    (b : Block) (known : block_with layout.blocks b.id ≡ Some b) (n : ℕ) (fits : C.FitsFor layout (record b { size = n })) (more : b.size < n) {new : C.Layout} (value : new ≡ record layout { blocks = C.replaced (record b { size = n }) layout.blocks }) (laid : C.IsOrdered new)
    (memory mid after : List ℕ) (inside : layout.hi ≤ length memory) (mid_long : length mid ≡ length memory) (small : All (λ b. b < 256) mid)
    (others : C.contents mid (all_but b.id layout.blocks) ≡ C.contents memory (all_but b.id layout.blocks)) (own : (m : ℕ) → m ≤ b.size → m ≤ n → part mid b.at m ≡ part memory b.at m)
    (zero : Bool) (filled : after ≡ (if zero then C.put_part mid (b.at + b.size) (C.repeated (n - b.size) 0) else mid)) where
  pub in_mid : b.at + n ≤ length mid
  in_mid = let end = fits.inside.2 in omega arith

  made : Makes b.at n mid after
  made = longer.made b.at b.size n mid after more in_mid small zero filled

  pub long_after : length after ≡ length memory
  long_after = made.long ∙ mid_long

  -- another block is beside it
  beside : (x : Block) → x.id ≢ b.id → (q : ℕ) → block_with layout.blocks q ≡ Some x → C.Misses x.at x.size b.at (b.at + n)
  beside x d q e =
      let among = C.filter_member (λ (c : Block). not (c.id == b.id)) layout.blocks x (C.member_with layout.blocks q x e).0 (ap not (C.ne_eqb x.id b.id d)) in
      elim (C.Each-at (λ c. C.IsApart (record b { size = n }) c) (all_but b.id layout.blocks) fits.apart x among) [ inl before ↦ inr before | inr behind ↦ inl behind ]

  pub others_after : (q : ℕ) → q ≢ b.id
      → option_map (λ (x : Block). slice_range after x.at (x.at + x.size)) (block_with layout.blocks q) ≡ option_map (λ (x : Block). slice_range memory x.at (x.at + x.size)) (block_with layout.blocks q)
  others_after q d = from (block_with layout.blocks q) refl ∙ others_with kept b known n value laid memory mid others q d
    where
      from : (p : C.Option Block) → block_with layout.blocks q ≡ p → option_map (λ (x : Block). slice_range after x.at (x.at + x.size)) p ≡ option_map (λ (x : Block). slice_range mid x.at (x.at + x.size)) p
      from None e = refl
      from (Some x) e = ap Some (made.others x.at x.size (beside x (λ i. d (sym (C.member_with layout.blocks q x e).1 ∙ i)) q e))

  pub grown_after : let object : Object = sized.object (C.table_of entries layout uses.ids) kept.sound memory inside b known in C.IsGrown zero n object (record object { bytes = Some (slice_range after b.at (b.at + n)) })
  grown_after = longer.is_grown b.at b.size n mid after more in_mid small zero filled (slice_range memory b.at (b.at + b.size)) (sized.own_size (C.table_of entries layout uses.ids) kept.sound memory inside b known)
      (own b.size (omega arith) (omega arith) ∙ sym (C.range_part memory b.at b.size)) _ _
