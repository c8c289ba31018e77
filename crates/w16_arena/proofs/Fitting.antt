-- A block with another size fits where it stands: with less, and with more where the hole behind it is long enough.
use Rattle.w16_arena.proofs.Common as C
use Rattle.w16_arena.proofs.Common.{◌≡◌, ℕ, ◌+◌, ◌<◌, ◌≤◌, IsTrue, Some, refl, arith, inl, inr, Block, block_end, is_any, IsMultiple, IsApart, FitsFor, all_but}
use Rattle.std.specs.List.{AllByRecursion as Each}

module _ (l : C.Layout) (b : Block) (known : C.block_with l.blocks b.id ≡ Some b) (ordered : C.IsOrdered l) where
  -- a block's id is one
  pub id_known : b.id < l.cap
  id_known = C.each_with (λ c. c.id < l.cap) b.id b l.blocks known (C.named_each l.cap l.blocks ordered.named)

  itself : FitsFor l b
  itself = C.fits_itself l b b.hold id_known known ordered

  pub fits_less : (n : ℕ) → 0 < n → n ≤ b.size → IsMultiple l.grain n → FitsFor l (record b { size = n })
  fits_less n some less rounded = record {
    id = id_known;
    free = itself.free;
    inside = (itself.inside.0, some, let end = itself.inside.2 in omega arith);
    apart = C.Each-map (λ c. IsApart b c) (λ c. IsApart (record b { size = n }) c) (λ c f. elim f [ inl before ↦ inl (omega arith) | inr behind ↦ inr behind ]) (all_but b.id l.blocks) itself.apart;
    grained = (itself.grained.0, rounded);
  }

  -- the place where the next block begins, or the bound
  abbrev next : ℕ
  next = C.first_from is_any l.hi l.blocks (block_end b)

  below : (next ≤ l.hi) × Each (λ x. IsTrue (is_any x) → block_end b ≤ x.at → next ≤ x.at) l.blocks
  below = C.first_from-below is_any l.hi l.blocks (block_end b) next (omega arith)

  pub fits_more : (n : ℕ) → b.size < n → n ≤ b.size + C.hole_after l.hi l.blocks (block_end b) → IsMultiple l.grain n → FitsFor l (record b { size = n })
  fits_more n more le rounded = record {
    id = id_known;
    free = itself.free;
    inside = (itself.inside.0, omega arith, let top = below.0 in omega arith);
    apart = C.Each-both (λ c. IsApart b c) (λ x. IsTrue (is_any x) → block_end b ≤ x.at → next ≤ x.at) (λ c. IsApart (record b { size = n }) c)
        (λ c f g. elim f [ inl before ↦ (let far = g refl before in inl (omega arith)) | inr behind ↦ inr behind ]) (all_but b.id l.blocks) itself.apart
        (C.All-all_but (λ x. IsTrue (is_any x) → block_end b ≤ x.at → next ≤ x.at) b.id l.blocks below.1);
    grained = (itself.grained.0, rounded);
  }

  -- the block with the hole behind it is no longer than the bound
  pub spare_small : b.size + C.hole_after l.hi l.blocks (block_end b) ≤ l.hi
  spare_small = let top = below.0 in let end = itself.inside.2 in omega arith

  pub ends_inside : b.at + b.size ≤ l.hi
  ends_inside = itself.inside.2

-- a block fits where bytes are free once it is left out
pub fits_free : (l : C.Layout) (x : Block) → C.block_with l.blocks x.id ≡ Some x → C.IsOrdered l → (n at : ℕ) → 0 < n → IsMultiple l.grain n → C.AreFreeBytes (C.but_for x.id l) n at → FitsFor l (record x { at = at; size = n })
fits_free l x known ordered n at some rounded free = record {
  id = id_known l x known ordered;
  free = C.others_differ x.id _;
  inside = (free.above, some, free.below);
  apart = C.Each-map (λ c. C.Misses c.at c.size at _) (λ c. IsApart (record x { at = at; size = n }) c) (λ c m. elim m [ inl before ↦ inr before | inr behind ↦ inl behind ]) _ free.misses;
  grained = (free.grained, rounded);
}
