-- A heap where memory changes outside its range alone.
use Rattle.w16_model.proofs
use proofs.Common as C
use proofs.Common.{◌≡◌, ℕ, ◌+◌, ◌-◌, ◌<◌, ◌≤◌, List, [], ◌∷◌, take, drop, slice_range, Some, None, refl, sym, ap, ◌∙◌, arith, Block, Entry, Table, heap_in, object_in, by_id}
use proofs.{Gaps.Member, Gaps.Each-at, Laid.laid_each, Tables.member_with}
use Rattle.std.specs.FinMap as finmap

-- n bytes at p, below and above a place
part_below : (a m : List ℕ) (lo p n : ℕ) → take lo a ≡ take lo m → p + n ≤ lo → take n (drop p a) ≡ take n (drop p m)
part_below a m lo p n same le =
    sym (C.drop-take p n a) ∙ ap (drop p) (sym (C.take-take _ lo a le) ∙ ap (take _) same ∙ C.take-take _ lo m le) ∙ C.drop-take p n m

part_above : (a m : List ℕ) (hi p n : ℕ) → drop hi a ≡ drop hi m → hi ≤ p → take n (drop p a) ≡ take n (drop p m)
part_above a m hi p n same le =
    let e : hi + (p - hi) ≡ p = omega arith in
    ap (take n) (ap (λ q. drop q a) (sym e) ∙ sym (C.drop-drop _ hi a) ∙ ap (drop _) same ∙ C.drop-drop _ hi m ∙ ap (λ q. drop q m) e)

module _ (t : Table) (is : C.IsTable t) (memory after : List ℕ) (same : (x : Block) → Member x t.blocks → slice_range after x.at (x.at + x.size) ≡ slice_range memory x.at (x.at + x.size)) where
  same_bytes : (id : ℕ) (b : C.Option Block) → C.block_with t.blocks id ≡ b → C.option_map (λ (x : Block). slice_range after x.at (x.at + x.size)) b ≡ C.option_map (λ (x : Block). slice_range memory x.at (x.at + x.size)) b
  same_bytes id None e = refl
  same_bytes id (Some x) e = ap Some (same x (member_with t.blocks id x e).0)

  same_object : (id : ℕ) (e : Entry) → object_in t.blocks after id e ≡ object_in t.blocks memory id e
  same_object id e = λ i. record { kind = e.kind; locks = e.locks; bytes = same_bytes id (C.block_with t.blocks id) refl i }

  same_objects : (id : ℕ) (es : List (C.Option Entry)) → by_id (object_in t.blocks after) id es ≡ by_id (object_in t.blocks memory) id es
  same_objects id [] = refl
  same_objects id (None ∷ es) = same_objects (id + 1) es
  same_objects id (Some e ∷ es) = λ i. (id, same_object id e i) ∷ same_objects (id + 1) es i

  same_heap : heap_in t after ≡ heap_in t memory
  same_heap = λ i. record (heap_in t memory) { objects = finmap.from_entries (same_objects 0 t.entries i) }

pub range_law : C.RangeLaw
range_law t lo hi memory after is outside = (
  (λ below. same_heap t is _ after (λ x m. part_below after _ lo x.at _ outside.below (omega (arith, bounds x m, below)))),
  (λ above. same_heap t is _ after (λ x m. part_above after _ hi x.at _ outside.above (omega (arith, bounds x m, above)))),
)
  where
    bounds : (x : Block) → Member x t.blocks → (t.lo ≤ x.at) × (0 < x.size) × (C.block_end x ≤ t.hi)
    bounds = Each-at (λ x. (t.lo ≤ x.at) × (0 < x.size) × (C.block_end x ≤ t.hi)) _ (laid_each t.lo t.hi _ is.laid)
