use Rattle.w16_arena.proofs
use proofs.Common as C
use proofs.Common.{◌≡◌, ℕ, ◌+◌, ◌<◌, ◌≤◌, Some, IfSome, refl, ap, ◌∙◌, subst, sym, arith, Block, part, loose_bytes, block_with, Layout, with_loose, opened}
use proofs.Opening.{may_open_held, own_within_held, own_way_held}
use proofs.{ButFor.own_below, Fitting.fits_free, Grown.HasWay, Grown.grown_there}
use Rattle.w16_arena.proofs.growth.open_own.Goals.{After-reveal_bytes}
use Rattle.w16_arena.proofs.growth.open_own.Given as Given
use Rattle.w16_arena.proofs.growth.open_own.Goals as goal

pub open-moved-requires-clause-id : goal.open-moved-requires-clause-id
open-moved-requires-clause-id g c = own_below c.whole_grains-high.ensures.ordered c.args.block c.requires.known

pub open-moved-requires-clause-within : goal.open-moved-requires-clause-within
open-moved-requires-clause-within g c =
    let high = c.whole_grains-high.ensures in
    subst (λ o. IfSome o (λ b. (c.args.gap.low ≤ b.at) × (C.block_end b ≤ c.whole_grains-high.result))) (sym c.requires.known)
    (own_within_held high.ordered c.args.block c.requires.known c.requires.more c.requires.rounded c.requires.gap c.requires.own high.below high.last)

pub open-moved-requires-clause-gap : goal.open-moved-requires-clause-gap
open-moved-requires-clause-gap g c =
    let high = c.whole_grains-high.ensures in
    may_open_held high.ordered c.args.block c.requires.known c.requires.more c.requires.rounded c.requires.gap c.requires.own high.below high.last

pub find-requires : goal.find-requires
find-requires g c =
    let bs = (with_loose c.args.block.id c.args.blocks.now).blocks in
    own_below c.open-moved.ensures.ordered _ (subst (λ o. IfSome o (λ b. block_with c.open-moved.new.blocks.blocks c.args.block.id ≡ Some (record b { at = c.args.gap.low + loose_bytes bs c.args.gap.low b.at }))) c.requires.known c.open-moved.ensures.place)

-- what holds of the block there holds of the one that is given
module _ (g : Given.Over) (c : After-reveal_bytes g) where
  of_block : (P : Block → Type 0) → IfSome (block_with c.args.blocks.now.blocks c.args.block.id) P → P c.args.block
  of_block P holds = subst (λ o. IfSome o P) c.requires.known holds

  abbrev old : Layout
  old = with_loose c.args.block.id c.args.blocks.now

  place : block_with c.open-moved.new.blocks.blocks c.args.block.id ≡ Some (record c.args.block { at = c.args.gap.low + loose_bytes old.blocks c.args.gap.low c.args.block.at })
  place = of_block (λ b. block_with c.open-moved.new.blocks.blocks c.args.block.id ≡ Some (record b { at = c.args.gap.low + loose_bytes old.blocks c.args.gap.low b.at })) c.open-moved.ensures.place

  abbrev there : Block
  there = record c.args.block { at = c.args.gap.low + loose_bytes old.blocks c.args.gap.low c.args.block.at }

  abbrev mid : Layout
  mid = c.open-moved.new.blocks

  is : (opened : Block) → Some opened ≡ block_with mid.blocks c.args.block.id → opened ≡ there
  is opened value = let found : ◌≡◌ {A = C.Option Block} (Some opened) (Some there) = value ∙ place in cc

  abbrev placed : C.Placed
  placed = record { at = there.at; slid = record { from = c.args.gap.low; to = c.whole_grains-high.result }; moved = c.open-moved.result }

  -- the place that is opened for it
  way : HasWay c.args.size c.args.block c.args.blocks.now (g.S.Space.bytes c.args.space.now) placed mid (g.S.Space.bytes c.open-moved.new.space)
  way =
      let high = c.whole_grains-high.ensures in let e = c.open-moved.ensures in let l = c.args.blocks.now in let low = c.args.gap.low in
      own_way_held high.ordered c.args.block c.requires.known c.requires.more c.requires.rounded c.requires.gap c.requires.own high.below high.last
      (of_block (λ b. with_loose c.args.block.id mid ≡ record old { blocks = opened low (C.block_end b) c.whole_grains-high.result old.blocks }) e.blocks) e.ordered e.contents e.rest.bytes.long c.reveal_bytes.ensures place
      (of_block (λ b. C.LeavesFree low c.whole_grains-high.result (C.end_in old.blocks low b) (C.end_in old.blocks low b + C.spare_in old.blocks low c.whole_grains-high.result) old mid) e.left).clear placed refl refl e.moved

pub resize-requires-clause-id : goal.resize-requires-clause-id
resize-requires-clause-id g c =
    let d = (goal.at.resize-requires-clause-id g c).After-reveal_bytes in let same = is g d c.in-Some.opened c.in-Some.ensures.value in subst (λ b. b.id < c.open-moved.new.blocks.cap) (sym same) (own_below c.open-moved.ensures.ordered (there g d) (place g d))

pub resize-requires-clause-fits : goal.resize-requires-clause-fits
resize-requires-clause-fits g c =
    let d = (goal.at.resize-requires-clause-fits g c).After-reveal_bytes in let same = is g d c.in-Some.opened c.in-Some.ensures.value in
    let more = c.requires.more in
    subst (λ b. C.FitsFor c.open-moved.new.blocks (record b { size = c.args.size })) (sym same)
    (fits_free c.open-moved.new.blocks (there g d) (place g d) c.open-moved.ensures.ordered c.args.size (there g d).at (omega arith) (subst (λ k. C.IsMultiple k c.args.size) (sym (ap (λ k. k.grain) (way g d).slid.same)) c.requires.rounded) (way g d).free)

pub returns-clause-grown : goal.returns-clause-grown
returns-clause-grown g c =
    let d = (goal.at.returns-clause-grown g c).After-reveal_bytes in let same = is g d c.in-Some.opened c.in-Some.ensures.value in
    let e = c.resize.ensures in
    subst (λ b. C.HasGrown c.args.size c.args.block c.args.blocks.now (g.S.Space.bytes c.args.space.now) (record (placed g d) { at = b.at }) c.resize.new.blocks (g.S.Space.bytes c.resize.new.space)) (sym same)
    (grown_there _ _ _ c.open-moved.new.blocks _ _ (g.S.Space.bytes _) _ _ (way g d) c.requires.more
    (e.value ∙ ap (λ b. record c.open-moved.new.blocks { blocks = C.replaced (record b { size = c.args.size }) c.open-moved.new.blocks.blocks }) same) e.ordered
    (subst (λ b. (m : ℕ) → m ≤ b.size → m ≤ c.args.size → part (g.S.Space.bytes c.resize.new.space) b.at m ≡ part (g.S.Space.bytes c.open-moved.new.space) b.at m) same e.own)
    (subst (λ b. C.contents (g.S.Space.bytes c.resize.new.space) (C.all_but b.id c.open-moved.new.blocks.blocks) ≡ C.contents (g.S.Space.bytes c.open-moved.new.space) (C.all_but b.id c.open-moved.new.blocks.blocks)) same e.bytes.contents)
    e.bytes.rest.bytes.long e.small)
