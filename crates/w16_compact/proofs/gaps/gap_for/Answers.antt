use Rattle.w16_compact.proofs
use proofs.Walked as M
use proofs.Common.{◌≡◌, ℕ, ◌+◌, ◌-◌, ◌<◌, ◌≤◌, sum_by, refl, drop, List, [], ◌∷◌, Option, Some, None, false, IsSome, MatchOption, arith, sym, ap, ◌∙◌, subst, false≢true, Block, Span, is_about, room, Layout, IsOrdered, sum_fits, Gap, Reached, others, without, HasRoom}
use proofs.LeftOut.{ordered_without, none_left, next_in, next_out}
use proofs.{AllLoose.walked_all, AllLoose.none_in, ByAddress.all_left, ByAddress.may_begin, OnePass.too_few, Skips.rest_is}
use Rattle.w16_compact.proofs.gaps.gap_for.Goals as goal

pub overflow_add-spare : goal.overflow_add-spare
overflow_add-spare g c =
    let l = c.args.blocks.now in let ordered = c.bounds-bounds.ensures.ordered in
    let free = c.free.ensures.value in let own = c.left_out.ensures.value in let all = sum_fits l.lo l.hi l.blocks ordered.laid in let small = ordered.small in
    record { fits = omega (arith, free, own, all, small) }

pub returns-then-spare-n-clause-found : goal.returns-then-spare-n-clause-found
returns-then-spare-n-clause-found g c =
    let l = c.args.blocks.now in let left = ordered_without _ l c.bounds-bounds.ensures.ordered in
    let free = c.free.ensures.value in let own = c.left_out.ensures.value in let less = c.if-spare-n.true in
    too_few l.lo l.hi c.args.n (l.hi - l.lo - sum_by (λ x. x.size) (others c.args.h l.blocks)) (others c.args.h l.blocks) left.laid refl (omega arith)

pub loop-block-init : goal.loop-block-init
loop-block-init g c =
    let l = c.args.blocks.now in let it = c.into_iter-block-iterator.result in
    let is = c.into_iter-block-iterator.ensures.into_iter_gives in
    let same = ap (λ x. x.blocks.now) is ∙ c.by_address-block-items.ensures.blocks in
    let space = ap (λ x. x.space.now) is ∙ c.by_address-block-items.ensures.space in
    let first = ap (λ x. x.from) is ∙ c.by_address-block-items.ensures.from in
    let ordered = ordered_without _ l c.bounds-bounds.ensures.ordered in (
      may_begin g.H.Holes.are_in l _ (g.S.Space.bytes _) (g.S.Space.bytes _) same (ap g.S.Space.bytes space) c.requires.kept,
      tt,
      (
        ordered,
        (
          0,
          ap (others _) (all_left l _ it.from same first),
          M.walk_start (without _ l) c.args.n ordered c.bounds-bounds.result.from (ap (λ s. s.from) c.bounds-bounds.ensures.value),
        ),
      ),
    )

-- a block that is left out
pub loop-block-preserved-then-is_about : goal.loop-block-preserved-then-is_about
loop-block-preserved-then-is_about g c =
    let inv = c.loop-block.invariant.2 in let on = c.in-Some.ensures.goes.on _ in
    let here = inv.1.1 ∙ ap (others _) c.in-Some.ensures.steps ∙ next_out c.args.h c.in-Some.block _ (sym c.is_about.ensures ∙ c.if-is_about.true) in
    (on.0, on.1, (inv.0, (inv.1.0, here, inv.1.2)))

-- the next of the others
module _ (h : Option ℕ) (l : Layout) (i : ℕ) (rest : List Block) (x : Block) (more : List Block) where
  next : drop i (others h l.blocks) ≡ others h rest → rest ≡ x ∷ more → is_about h x.id ≡ false → drop i (without h l).blocks ≡ x ∷ others h more
  next there steps other = there ∙ ap (others h) steps ∙ next_in h x more other

pub returns-in-Some-gap_before-clause-found : goal.returns-in-Some-gap_before-clause-found
returns-in-Some-gap_before-clause-found g c =
    let l = without c.args.h c.args.blocks.now in let inv = c.loop-block.invariant.2 in let is = c.in-Some-gap_before.ensures in
    let here = next c.args.h c.args.blocks.now inv.1.0 _ c.in-Some.block _ inv.1.1 c.in-Some.ensures.steps (sym c.is_about.ensures ∙ c.if-is_about.false) in
    subst (HasRoom l _) (sym is.0) (M.gap_here l _ inv.0 _ _ inv.1.0 here _ inv.1.2 is.2 c.requires.some is.1)

pub returns-in-Some-gap_before-clause-enough : goal.returns-in-Some-gap_before-clause-enough
returns-in-Some-gap_before-clause-enough g c = λ _. M.enough_room (without c.args.h c.args.blocks.now) _ c.loop-block.invariant.2.0 c.in-Some-gap_before.gap (returns-in-Some-gap_before-clause-found g c)

pub passing-reached-requires : goal.passing-reached-requires
passing-reached-requires g c =
    let inv = c.loop-block.invariant.2 in
    let here = next c.args.h c.args.blocks.now inv.1.0 _ c.in-Some.block _ inv.1.1 c.in-Some.ensures.steps (sym c.is_about.ensures ∙ c.if-is_about.false) in
    let fits = M.fits_here _ _ inv.0 _ _ inv.1.0 here _ inv.1.2 in
    record { end = fits.0; sum = fits.1 }

pub loop-block-preserved : goal.loop-block-preserved
loop-block-preserved g c =
    let l = without c.args.h c.args.blocks.now in let inv = c.loop-block.invariant.2 in
    let here = next c.args.h c.args.blocks.now inv.1.0 _ c.in-Some.block _ inv.1.1 c.in-Some.ensures.steps (sym c.is_about.ensures ∙ c.if-is_about.false) in
    let on = c.in-Some.ensures.goes.on _ in (
      on.0,
      on.1,
      (inv.0, (inv.1.0 + 1, rest_is _ _ _ inv.1.0 here, M.walked_next l c.args.n inv.0 _ _ inv.1.0 here c.loop-block.reached inv.1.2 c.in_default.ensures c.passing-reached.result c.passing-reached.ensures)),
    )

-- what the last gap gives
module _ (l : Layout) (n : ℕ) (ordered : IsOrdered l) (some : 0 < n) (i : ℕ) (r : Reached) (now : M.IsWalked l n ordered i r) (none : drop i l.blocks ≡ []) where
  last : (hi : ℕ) (o : Option Gap) → hi ≡ l.hi → MatchOption o (hi < r.low + r.loose + n) (λ g. (g ≡ record { low = r.low; high = hi; loose = r.loose }) × (r.low + r.loose + n ≤ hi)) → MatchOption o (room l.lo l.hi l.blocks < n) (HasRoom l n)
  last hi None e less = M.none_found l n ordered i r now none some (omega arith)
  last hi (Some g) e found =
      let enough = found.1 in
      subst (HasRoom l n) (sym (found.0 ∙ ap (λ (k : ℕ). let v : Gap = record { low = r.low; high = k; loose = r.loose } in v) e)) (M.gap_last l n ordered i r now none some (omega arith))

  enough : (o : Option Gap) → MatchOption o (room l.lo l.hi l.blocks < n) (HasRoom l n) → IsSome o → n ≤ room l.lo l.hi l.blocks
  enough None less is = absurd (false≢true is)
  enough (Some g) found is = M.enough_room l n ordered g found

pub returns-clause-found : goal.returns-clause-found
returns-clause-found g c =
    let inv = c.loop-block.invariant.2 in
    last _ _ inv.0 c.requires.some inv.1.0 _ inv.1.2 (inv.1.1 ∙ ap (others _) c.in-None.ensures.steps.0 ∙ none_left c.args.h) _ _
    (ap (λ s. s.to) c.bounds-bounds.ensures.value) c.gap_to-2.ensures

pub returns-clause-enough : goal.returns-clause-enough
returns-clause-enough g c =
    let inv = c.loop-block.invariant.2 in
    enough _ _ inv.0 c.requires.some inv.1.0 _ inv.1.2 (inv.1.1 ∙ ap (others _) c.in-None.ensures.steps.0 ∙ none_left c.args.h) _ (returns-clause-found g c)

-- where all is one gap
module _ (g : _) (c : goal.After-gap_to g) where
  abbrev left : Layout
  left = without c.args.h c.args.blocks.now

  ordered : IsOrdered left
  ordered = ordered_without c.args.h c.args.blocks.now c.bounds-bounds.ensures.ordered

  walked : (j : ℕ) × (drop j left.blocks ≡ []) × M.IsWalked left c.args.n ordered j (record { low = c.bounds-bounds.result.from; loose = c.bounds-bounds.result.to - c.bounds-bounds.result.from - (c.free.result + c.left_out.result) })
  walked =
      let l = c.args.blocks.now in let from = ap (λ (s : Span). s.from) c.bounds-bounds.ensures.value in let to = ap (λ (s : Span). s.to) c.bounds-bounds.ensures.value in
      let fit = sum_fits l.lo l.hi l.blocks c.bounds-bounds.ensures.ordered.laid in let free = c.free.ensures.value in let own = c.left_out.ensures.value in
      walked_all left c.args.n ordered (none_in c.args.h l.blocks (sym c.has_pinned.ensures ∙ c.if-not-has_pinned.true)) _ (from ∙ low c.args.h l) (omega arith)
    where
      low : (h : Option ℕ) (l : Layout) → l.lo ≡ (without h l).lo
      low None l = refl
      low (Some id) l = refl

pub returns-then-not-has_pinned-clause-found : goal.returns-then-not-has_pinned-clause-found
returns-then-not-has_pinned-clause-found g c =
    let w = walked g c in
    last (left g c) c.args.n (ordered g c) c.requires.some w.0 _ w.2 w.1 c.bounds-bounds.result.to c.gap_to.result (ap (λ s. s.to) c.bounds-bounds.ensures.value) c.gap_to.ensures

pub returns-then-not-has_pinned-clause-enough : goal.returns-then-not-has_pinned-clause-enough
returns-then-not-has_pinned-clause-enough g c =
    let w = walked g c in
    enough _ _ _ c.requires.some w.0 _ w.2 w.1 _ (returns-then-not-has_pinned-clause-found g c)

-- the bytes of the others lie between the bounds
pub overflow_sub-whole : goal.overflow_sub-whole
overflow_sub-whole g c =
    let l = c.args.blocks.now in let from = ap (λ s. s.from) c.bounds-bounds.ensures.value in let to = ap (λ s. s.to) c.bounds-bounds.ensures.value in
    let fit = sum_fits l.lo l.hi l.blocks c.bounds-bounds.ensures.ordered.laid in omega arith

pub overflow_sub-whole-then-not-has_pinned : goal.overflow_sub-whole-then-not-has_pinned
overflow_sub-whole-then-not-has_pinned g c =
    let l = c.args.blocks.now in let from = ap (λ s. s.from) c.bounds-bounds.ensures.value in let to = ap (λ s. s.to) c.bounds-bounds.ensures.value in
    let fit = sum_fits l.lo l.hi l.blocks c.bounds-bounds.ensures.ordered.laid in let free = c.free.ensures.value in let own = c.left_out.ensures.value in omega arith

pub gap_to-requires : goal.gap_to-requires
gap_to-requires g c = let ordered = overflow_sub-whole g c in omega arith
