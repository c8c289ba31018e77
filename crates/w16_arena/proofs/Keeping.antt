-- What keeps each block's bytes keeps a table's heap: where only bytes of holes change, and after one step more.
use Rattle.w16_arena.proofs.Common as C
use Rattle.w16_arena.proofs.Common.{ℕ, ◌≡◌, ◌+◌, ◌<◌, List, [], ◌∷◌, length, Some, refl, sym, ap, ◌∙◌, subst, arith, inl, inr, All, GName, Block, Span, part, block_end, holes, Table, by_id, heap_in, IsUsed, Layout, all_but, holes_of, contents, KeepsBytes, Leaves, IsSameRest, holes_in, ◌≤◌}
use Rattle.std.specs.FinMap as finmap

module _ (m n : List ℕ) where
  contents_first : (b : Block) (bs : List Block) → contents n (b ∷ bs) ≡ contents m (b ∷ bs) → (part n b.at b.size ≡ part m b.at b.size) × (contents n bs ≡ contents m bs)
  contents_first b bs same =
      let one : ℕ × List ℕ = (b.id, part n b.at b.size) in
      let two : ℕ × List ℕ = (b.id, part m b.at b.size) in
      let first : one ≡ two = cc in
      let rest : contents n bs ≡ contents m bs = cc in
      (ap (λ (p : ℕ × List ℕ). p.1) first, rest)

  -- what an id's block has
  pub bytes_with : (bs : List Block) → contents n bs ≡ contents m bs → (id : ℕ) → C.option_map (λ (x : Block). C.slice_range n x.at (x.at + x.size)) (C.block_with bs id) ≡ C.option_map (λ (x : Block). C.slice_range m x.at (x.at + x.size)) (C.block_with bs id)
  bytes_with [] same id = refl
  bytes_with (b ∷ bs) same id = elim (C.eqb_tells b.id id) [
    | inl here ↦ rw here.0 (ap Some (C.range_part n b.at b.size ∙ (contents_first b bs same).0 ∙ sym (C.range_part m b.at b.size)))
    | inr there ↦ rw there.0 (bytes_with bs (contents_first b bs same).1 id)
  ]

  pub heap_kept : (t : Table) → contents n t.blocks ≡ contents m t.blocks → heap_in t n ≡ heap_in t m
  heap_kept t same = λ i. record {
    lo = t.lo;
    hi = t.hi;
    grain = t.grain;
    objects = finmap.from_entries (by_id (λ id e. record { kind = e.kind; locks = e.locks; bytes = bytes_with t.blocks same id i }) 0 t.entries);
    places = (heap_in t m).places;
    order = t.order;
  }

  -- the same of all blocks but one
  pub contents_all_but : (id : ℕ) (bs : List Block) → contents n bs ≡ contents m bs → contents n (all_but id bs) ≡ contents m (all_but id bs)
  contents_all_but id [] same = refl
  contents_all_but id (b ∷ bs) same = elim (C.eqb_tells b.id id) [
    | inl here ↦ rw here.0 (contents_all_but id bs (contents_first b bs same).1)
    | inr there ↦ rw there.0 (λ i. (b.id, (contents_first b bs same).0 i) ∷ contents_all_but id bs (contents_first b bs same).1 i)
  ]

  -- blocks that slid, with bytes that were kept then
  pub slides_kept : (low high : ℕ) (memory : List ℕ) (bs cs : List Block) → C.EachTwo (C.Slides low high memory m) bs cs → contents n cs ≡ contents m cs → C.EachTwo (C.Slides low high memory n) bs cs
  slides_kept low high memory [] [] slid same = tt
  slides_kept low high memory [] (c ∷ cs) slid same = slid
  slides_kept low high memory (b ∷ bs) [] slid same = slid
  slides_kept low high memory (b ∷ bs) (c ∷ cs) slid same =
      let two = contents_first c cs same in
      (record { same = slid.0.same; place = slid.0.place; bytes = two.0 ∙ slid.0.bytes }, slides_kept low high memory bs cs slid.1 two.1)

-- where bytes of holes alone change, each block keeps its own
contents_outside : (lo hi : ℕ) (all : List Block) (old new : List ℕ) → C.AreSameOutside (holes lo hi all) old new → (bs : List Block) → C.AllByRecursion (λ c. IsUsed c.at (block_end c) (holes lo hi all)) bs → contents new bs ≡ contents old bs
contents_outside lo hi all old new same [] used = refl
contents_outside lo hi all old new same (b ∷ bs) used = λ i. (b.id, same.same b.at b.size used.0 i) ∷ contents_outside lo hi all old new same bs used.1 i

module _ {X : Type 0} {are_in : List Span → List ℕ → Type 0} {bytes : X → List ℕ} {lenders : X → List GName} where
  pub leaves_same : {hs : List Span} (lo hi : ℕ) (x : X) → are_in hs (bytes x) → Leaves are_in bytes lenders hs (IsSameRest lo hi) x x
  leaves_same lo hi x kept = record { kept = kept; bytes = C.rest_same lo hi (bytes x); loans = refl }

  pub none_changed : {t : Table} (x : X) → C.IsSound t → are_in (holes_in t) (bytes x) → C.KeepsRest are_in bytes lenders t x t x
  none_changed {t} x sound kept = record { range = record { lo = refl; hi = refl; grain = refl; ids = refl; sound = sound }; memory = leaves_same t.lo t.hi x kept }

  module _ {written : X → ℕ} where
    pub keeps_same : {hs : List Span} (lo hi : ℕ) (bs : List Block) (x : X) → are_in hs (bytes x) → KeepsBytes are_in bytes lenders written hs lo hi bs x x
    keeps_same lo hi bs x kept = record { contents = refl; rest = leaves_same lo hi x kept; count = refl }

    pub keeps_holes : {hs : List Span} (lo hi : ℕ) (bs : List Block) (x y : X) → C.IsLaid lo hi bs → Leaves are_in bytes lenders hs (C.AreSameOutside (holes lo hi bs)) x y → written y ≡ written x → KeepsBytes are_in bytes lenders written hs lo hi bs x y
    keeps_holes lo hi bs x y laid rest count = record {
      contents = contents_outside lo hi bs (bytes x) (bytes y) rest.bytes bs (C.used_each lo hi bs laid);
      rest = record { kept = rest.kept; bytes = record { long = rest.bytes.long; outside = C.outside_holes lo hi bs (bytes x) (bytes y) laid rest.bytes }; loans = rest.loans };
      count = count;
    }

    -- and a block less, over the table that it leaves
    pub keeps_more : (t after : Table) (id : ℕ) (x y z : X) → after.lo ≡ t.lo → after.hi ≡ t.hi → after.blocks ≡ all_but id t.blocks → KeepsBytes are_in bytes lenders written (holes_in t) t.lo t.hi t.blocks x y
        → KeepsBytes are_in bytes lenders written (holes_in after) after.lo after.hi after.blocks y z → KeepsBytes are_in bytes lenders written (holes_in after) after.lo after.hi after.blocks x z
    keeps_more t after id x y z lo hi blocks p q = record {
      contents = q.contents ∙ subst (λ (bs : List Block). contents (bytes y) bs ≡ contents (bytes x) bs) (sym blocks) (contents_all_but (bytes x) (bytes y) id t.blocks p.contents);
      rest = record {
        kept = q.rest.kept;
        bytes = C.rest_wider (C.rest_more p.rest.bytes q.rest.bytes (omega arith) (omega arith)) (omega arith) (omega arith);
        loans = q.rest.loans ∙ p.rest.loans;
      };
      count = q.count ∙ p.count;
    }

-- a memory that changes in a part that is no hole's has the same bytes in the holes
pub same_in : (at end : ℕ) (hs : List Span) (old new : List ℕ) → length new ≡ length old → C.IsSameOutside at end old new → IsUsed at end hs → C.AreSameIn hs old new
same_in at end hs old new long outside used = record { long = long; same = λ p n free. apart p n hs free used }
  where
    apart : (p n : ℕ) (hs : List Span) → C.IsFree p (p + n) hs → IsUsed at end hs → part new p n ≡ part old p n
    apart p n [] free used = absurd free
    apart p n (h ∷ hs) free used = elim free [
      | inl here ↦
          let from = here.0 in let to = here.1 in
          elim used.0 [
            | inl before ↦ C.part_below new old p n at (omega arith) outside.below
            | inr behind ↦ C.part_above new old p n end (omega arith) outside.above
          ]
      | inr there ↦ apart p n hs there used.1
    ]

-- and what was kept of them is kept
pub leaves_cleared : {X : Type 0} {are_in : List Span → List ℕ → Type 0} {bytes : X → List ℕ} {lenders : X → List GName} {hs : List Span} {lo hi : ℕ} (at end : ℕ) {x y z : X}
    → ((hs : List Span) (old new : List ℕ) → are_in hs old → C.AreSameIn hs old new → are_in hs new) → Leaves are_in bytes lenders hs (IsSameRest lo hi) x y
    → IsSameRest at end (bytes y) (bytes z) → lenders z ≡ lenders y → lo ≤ at → end ≤ hi → IsUsed at end hs → Leaves are_in bytes lenders hs (IsSameRest lo hi) x z
leaves_cleared {X} {are_in} {bytes} {lenders} {hs} {lo} {hi} at end {x} {y} {z} stay made cleared loans below above used = record {
  kept = stay hs (bytes y) _ made.kept (same_in at end hs _ _ cleared.long cleared.outside used);
  bytes = C.rest_more made.bytes cleared below above;
  loans = loans ∙ made.loans;
}

pub moved_kept : (low high : ℕ) (old new : Layout) (memory mid after : List ℕ) → C.AreMoved low high old memory new mid → contents after new.blocks ≡ contents mid new.blocks → length after ≡ length mid → All (λ b. b < 256) after → C.AreMoved low high old memory new after
moved_kept low high old new memory mid after moved same long small = record {
  same = moved.same;
  blocks = slides_kept mid after low high memory old.blocks new.blocks moved.blocks same;
  unpinned = moved.unpinned;
  ordered = moved.ordered;
  size = long ∙ moved.size;
  bytes = λ _. small;
}

-- the bytes of a block that was added are no hole's
pub used_placed : (l new : Layout) (b : Block) → new ≡ record l { blocks = C.placed b l.blocks } → C.IsOrdered new → IsUsed b.at (block_end b) (holes_of new)
used_placed l new b is ordered = (C.All-first (λ c. IsUsed c.at (block_end c) (holes_of new)) b _
    (subst (C.AllByRecursion (λ c. IsUsed c.at (block_end c) (holes_of new))) (ap (λ x. x.blocks) is) (C.used_each new.lo new.hi _ ordered.laid))).0
