use Rattle.w16_compact.proofs
use proofs.Common as C
use proofs.Loosened as M
use proofs.Common.{ℕ, ◌≡◌, ◌+◌, ◌<◌, ◌≤◌, ◌∙◌, List, Some, IfSome, refl, sym, ap, subst, Block, Loose, IsClear, IsHole, is_any, block_end, loose_bytes, block_with, Layout, holes_of, contents, moved_between, with_loose, opened, end_in}
use proofs.{Opened.of_known, Opened.if_known, Loosened.held}
use Rattle.w16_compact.proofs.opening.open.Given as Given
use Rattle.w16_compact.proofs.opening.open.Goals as goal

-- A layout, one in which an id's block is loose, that one once its gap is opened, and that again with the block's own hold.
module _ (l : Layout) (is : C.IsOrdered l) (id : ℕ) (x : Block) (known : block_with l.blocks id ≡ Some x) where
  abbrev loose : Layout
  loose = with_loose id l

  abbrev own : Block
  own = record x { hold = Loose }

  own_known : block_with loose.blocks id ≡ Some own
  own_known = M.own_held id Loose l.blocks x known

  module _ (begun : Layout) (set : IfSome (block_with l.blocks id) (λ b. begun ≡ record l { blocks = C.replaced (record b { hold = Loose }) l.blocks })) where
    begun_is : begun ≡ loose
    begun_is = M.set_held l is id x Loose known set

    begun_known : block_with begun.blocks id ≡ Some own
    begun_known = ap (λ (k : Layout). block_with k.blocks id) begun_is ∙ own_known

    -- what holds of it and the block there holds of the layout in which it is loose
    from_begun : (P : Layout → Block → Type 0) → IfSome (block_with begun.blocks id) (P begun) → P loose own
    from_begun P holds = subst (λ k. P k own) begun_is (of_known (P begun) (block_with begun.blocks id) own begun_known holds)

    begun_holes : holes_of l ≡ holes_of begun
    begun_holes = sym (ap holes_of begun_is ∙ M.holes_held id Loose l)

    begun_contents : (bytes : List ℕ) → contents bytes begun.blocks ≡ contents bytes l.blocks
    begun_contents bytes = ap (λ (n : Layout). contents bytes n.blocks) begun_is ∙ M.contents_held id Loose bytes l.blocks

    module _ (low high : ℕ) (mid : Layout) (laid : C.IsOrdered mid) (value : IfSome (block_with begun.blocks id) (λ b. mid ≡ record begun { blocks = opened low (block_end b) high begun.blocks }))
        (place : IfSome (block_with begun.blocks id) (λ b. block_with mid.blocks id ≡ Some (record b { at = low + loose_bytes begun.blocks low b.at }))) where
      mid_is : mid ≡ record loose { blocks = opened low (block_end x) high loose.blocks }
      mid_is = of_known (λ b. mid ≡ record begun { blocks = opened low (block_end b) high begun.blocks }) (block_with begun.blocks id) own begun_known value
          ∙ ap (λ (k : Layout). let r : Layout = record k { blocks = opened low (block_end x) high k.blocks } in r) begun_is

      abbrev there : Block
      there = record own { at = low + loose_bytes loose.blocks low x.at }

      mid_known : block_with mid.blocks id ≡ Some there
      mid_known = of_known (λ b. block_with mid.blocks id ≡ Some (record b { at = low + loose_bytes begun.blocks low b.at })) (block_with begun.blocks id) own begun_known place
          ∙ ap (λ (k : Layout). let r : Block = record own { at = low + loose_bytes k.blocks low x.at } in Some r) begun_is

      module _ (new : Layout) (reset : IfSome (block_with mid.blocks id) (λ b. new ≡ record mid { blocks = C.replaced (record b { hold = x.hold }) mid.blocks })) where
        new_is : new ≡ M.with_hold id x.hold mid
        new_is = M.set_held mid laid id there x.hold mid_known reset

        new_loose : with_loose id new ≡ mid
        new_loose = ap (with_loose id) new_is ∙ M.loosened_back mid laid id there x.hold mid_known refl

        new_holes : holes_of mid ≡ holes_of new
        new_holes = sym (ap holes_of new_is ∙ M.holes_held id x.hold mid)

        new_known : block_with new.blocks id ≡ Some (record x { at = low + loose_bytes loose.blocks low x.at })
        new_known = ap (λ (k : Layout). block_with k.blocks id) new_is ∙ M.own_held id x.hold mid.blocks there mid_known

        new_clear : (lo hi a b : ℕ) → IsClear is_any lo hi mid.blocks a b → IsClear is_any lo hi new.blocks a b
        new_clear lo hi a b k = subst (λ (n : Layout). IsClear is_any lo hi n.blocks a b) (sym new_is) (M.clear_held id x.hold lo hi a b mid.blocks k)

        new_hole : (lo hi a b : ℕ) → IsHole lo hi mid.blocks a b → IsHole lo hi new.blocks a b
        new_hole lo hi a b k = subst (λ (n : Layout). IsHole lo hi n.blocks a b) (sym new_is) (M.hole_held id x.hold lo hi a b mid.blocks k)

        mid_hole : (lo hi a b : ℕ) → IsHole lo hi new.blocks a b → IsHole lo hi mid.blocks a b
        mid_hole lo hi a b k = M.hole_unheld id x.hold lo hi a b mid.blocks (subst (λ (n : Layout). IsHole lo hi n.blocks a b) new_is k)

        new_contents : (bytes : List ℕ) → contents bytes new.blocks ≡ contents bytes mid.blocks
        new_contents bytes = ap (λ (n : Layout). contents bytes n.blocks) new_is ∙ M.contents_held id x.hold bytes mid.blocks

        new_moved : moved_between begun.blocks mid.blocks ≡ moved_between l.blocks new.blocks
        new_moved = ap (λ (n : Layout). moved_between n.blocks mid.blocks) begun_is ∙ M.moved_from (held id Loose) (λ b. (refl, refl)) l.blocks mid.blocks
            ∙ sym (ap (λ (n : Layout). moved_between l.blocks n.blocks) new_is ∙ M.moved_to (held id x.hold) (λ b. refl) l.blocks mid.blocks)

pub open_loose-moved-requires-clause-known : goal.open_loose-moved-requires-clause-known
open_loose-moved-requires-clause-known g c = subst (λ o. C.IsSome o) (sym (begun_known c.args.blocks.now c.find.ensures.ordered c.args.id c.in-Some.block (sym c.in-Some.ensures.value) _ c.set_hold.ensures.value)) refl

pub open_loose-moved-requires-clause-within : goal.open_loose-moved-requires-clause-within
open_loose-moved-requires-clause-within g c =
    let known = sym c.in-Some.ensures.value in
    if_known (λ b. (c.args.low ≤ b.at) × (block_end b ≤ c.args.high)) _ (record c.in-Some.block { hold = Loose }) (begun_known c.args.blocks.now c.find.ensures.ordered c.args.id _ known _ c.set_hold.ensures.value)
    (of_known (λ b. (c.args.low ≤ b.at) × (block_end b ≤ c.args.high)) _ c.in-Some.block known c.requires.within)

pub open_loose-moved-requires-clause-gap : goal.open_loose-moved-requires-clause-gap
open_loose-moved-requires-clause-gap g c =
    subst (λ k. C.MayGather k c.args.low c.args.high) (sym (begun_is _ c.find.ensures.ordered _ c.in-Some.block (sym c.in-Some.ensures.value) _ c.set_hold.ensures.value)) c.requires.gap

pub open_loose-moved-requires-clause-memory : goal.open_loose-moved-requires-clause-memory
open_loose-moved-requires-clause-memory g c =
    let same = begun_is c.args.blocks.now c.find.ensures.ordered c.args.id c.in-Some.block (sym c.in-Some.ensures.value) _ c.set_hold.ensures.value in record {
      kept = subst (λ hs. g.H.Holes.are_in hs (g.S.Space.bytes c.args.space.now)) (begun_holes c.args.blocks.now c.find.ensures.ordered c.args.id c.in-Some.block (sym c.in-Some.ensures.value) _ c.set_hold.ensures.value) c.requires.memory.kept;
      inside = subst (λ n. n ≤ C.length (g.S.Space.bytes c.args.space.now)) (sym (ap (λ l. l.hi) same)) c.requires.memory.inside;
    }

pub set_hold-requires-2-clause-known : goal.set_hold-requires-2-clause-known
set_hold-requires-2-clause-known g c =
    let e = c.open_loose-moved.ensures in
    subst (λ o. C.IsSome o) (sym (mid_known c.args.blocks.now c.find.ensures.ordered c.args.id c.in-Some.block (sym c.in-Some.ensures.value) _ c.set_hold.ensures.value c.args.low c.args.high _ e.ordered e.blocks e.place)) refl

pub set_hold-requires-2-clause-id : goal.set_hold-requires-2-clause-id
set_hold-requires-2-clause-id g c =
    let e = c.open_loose-moved.ensures in
    subst (λ n. c.args.id < n) (sym (ap (λ k. k.cap) (mid_is c.args.blocks.now c.find.ensures.ordered c.args.id c.in-Some.block (sym c.in-Some.ensures.value) _ c.set_hold.ensures.value c.args.low c.args.high _ e.ordered e.blocks e.place))) c.requires.id

-- What is left.
module _ (g : Given.Over) (c : goal.After-set_hold-2 g) where
  abbrev l : Layout
  l = c.args.blocks.now

  abbrev block : Block
  block = c.in-Some.block

  abbrev old : Layout
  old = with_loose c.args.id l

  abbrev new : Layout
  new = c.set_hold-2.new.self

  abbrev mid : Layout
  mid = c.open_loose-moved.new.blocks

  known : block_with l.blocks c.args.id ≡ Some block
  known = sym c.in-Some.ensures.value

  mid_old : mid ≡ record old { blocks = opened c.args.low (block_end block) c.args.high old.blocks }
  mid_old = let e = c.open_loose-moved.ensures in mid_is l c.find.ensures.ordered c.args.id block known _ c.set_hold.ensures.value c.args.low c.args.high _ e.ordered e.blocks e.place

  new_mid : with_loose c.args.id new ≡ mid
  new_mid = let e = c.open_loose-moved.ensures in new_loose l c.find.ensures.ordered c.args.id block known _ c.set_hold.ensures.value c.args.low c.args.high _ e.ordered e.blocks e.place _ c.set_hold-2.ensures.value

  to_new : (lo hi a b : ℕ) → (IsClear is_any lo hi mid.blocks a b → IsClear is_any lo hi new.blocks a b) × (IsHole lo hi mid.blocks a b → IsHole lo hi new.blocks a b) × (IsHole lo hi new.blocks a b → IsHole lo hi mid.blocks a b)
  to_new lo hi a b =
      let e = c.open_loose-moved.ensures in (
        new_clear l c.find.ensures.ordered c.args.id block known _ c.set_hold.ensures.value c.args.low c.args.high _ e.ordered e.blocks e.place _ c.set_hold-2.ensures.value lo hi a b,
        new_hole l c.find.ensures.ordered c.args.id block known _ c.set_hold.ensures.value c.args.low c.args.high _ e.ordered e.blocks e.place _ c.set_hold-2.ensures.value lo hi a b,
        mid_hole l c.find.ensures.ordered c.args.id block known _ c.set_hold.ensures.value c.args.low c.args.high _ e.ordered e.blocks e.place _ c.set_hold-2.ensures.value lo hi a b,
      )

  of_begun : (P : Layout → Block → Type 0) → IfSome (block_with c.set_hold.new.self.blocks c.args.id) (P c.set_hold.new.self) → P old (record block { hold = Loose })
  of_begun P holds = from_begun l c.find.ensures.ordered c.args.id block known _ c.set_hold.ensures.value P holds

  begun_old : c.set_hold.new.self ≡ old
  begun_old = begun_is l c.find.ensures.ordered c.args.id block known _ c.set_hold.ensures.value

pub returns-clause-rest : goal.returns-clause-rest
returns-clause-rest g c =
    let e = c.open_loose-moved.ensures in
    let same = begun_is c.args.blocks.now c.find.ensures.ordered c.args.id c.in-Some.block (sym c.in-Some.ensures.value) _ c.set_hold.ensures.value in record {
      kept = subst (λ hs. g.H.Holes.are_in hs (g.S.Space.bytes c.open_loose-moved.new.space))
          (new_holes c.args.blocks.now c.find.ensures.ordered c.args.id c.in-Some.block (sym c.in-Some.ensures.value) _ c.set_hold.ensures.value c.args.low c.args.high _ e.ordered e.blocks e.place _ c.set_hold-2.ensures.value) e.rest.kept;
      bytes = subst (λ l. C.IsSameRest l.lo l.hi (g.S.Space.bytes c.args.space.now) (g.S.Space.bytes c.open_loose-moved.new.space)) same e.rest.bytes;
      loans = e.rest.loans;
    }

pub returns-clause-place : goal.returns-clause-place
returns-clause-place g c =
    let e = c.open_loose-moved.ensures in let known = sym c.in-Some.ensures.value in
    if_known (λ b. block_with c.set_hold-2.new.self.blocks c.args.id ≡ Some (record b { at = c.args.low + loose_bytes (with_loose c.args.id c.args.blocks.now).blocks c.args.low b.at })) _ c.in-Some.block known
    (new_known c.args.blocks.now c.find.ensures.ordered c.args.id _ known _ c.set_hold.ensures.value _ c.args.high _ e.ordered e.blocks e.place _ c.set_hold-2.ensures.value)

pub returns-clause-blocks : goal.returns-clause-blocks
returns-clause-blocks g c =
    if_known (λ b. with_loose _ _ ≡ record (old g c) { blocks = opened _ _ _ (old g c).blocks }) _ (block g c) (known g c) (new_mid g c ∙ mid_old g c)

pub returns-clause-slid : goal.returns-clause-slid
returns-clause-slid g c = subst (λ k. C.AreSlid (old g c).blocks k.blocks) (sym (new_mid g c)) (subst (λ k. C.AreSlid k.blocks (mid g c).blocks) (begun_old g c) c.open_loose-moved.ensures.slid)

pub returns-clause-contents : goal.returns-clause-contents
returns-clause-contents g c =
    let e = c.open_loose-moved.ensures in
    new_contents c.args.blocks.now c.find.ensures.ordered c.args.id (block g c) (known g c) _ c.set_hold.ensures.value c.args.low c.args.high _ e.ordered e.blocks e.place _ c.set_hold-2.ensures.value _
    ∙ e.contents ∙ begun_contents c.args.blocks.now c.find.ensures.ordered c.args.id (block g c) (known g c) _ c.set_hold.ensures.value _

pub returns-clause-moved : goal.returns-clause-moved
returns-clause-moved g c =
    let e = c.open_loose-moved.ensures in
    e.moved ∙ new_moved c.args.blocks.now c.find.ensures.ordered c.args.id (block g c) (known g c) _ c.set_hold.ensures.value c.args.low c.args.high _ e.ordered e.blocks e.place _ c.set_hold-2.ensures.value

pub returns-clause-left : goal.returns-clause-left
returns-clause-left g c =
    let l = c.args.blocks.now in let bs = (old g c).blocks in
    let mid_left = of_begun g c (λ k b. C.LeavesFree c.args.low c.args.high (end_in k.blocks c.args.low b) (end_in k.blocks c.args.low b + C.spare_in k.blocks c.args.low c.args.high) k (mid g c)) c.open_loose-moved.ensures.left in
    if_known (λ b. C.LeavesFree _ _ _ _ _ _) _ (block g c) (known g c) (record {
      clear = (to_new g c l.lo l.hi _ _).0 mid_left.clear;
      hole = λ gap some. (to_new g c l.lo l.hi _ _).1 (mid_left.hole gap some);
      alone = λ gap p q hole. mid_left.alone gap p q ((to_new g c l.lo l.hi p q).2 hole);
    })
