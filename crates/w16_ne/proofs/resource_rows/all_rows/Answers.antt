use Rattle.w16_ne.proofs
use proofs.Common as C
use proofs.Common.{◌≡◌, ℕ, suc, ◌+◌, ◌<◌, ◌≤◌, ◌∙◌, List, [], ◌∷◌, ◌++◌, Ok, Err, length, drop, refl, sym, ap, arith, file_of, Block, Typed, all_typed}
use proofs.{Each.with_front, Each.regroup, Until.fails_on}
use Rattle.w16_ne.proofs.resource_rows.all_rows.Goals as goal

module _ (file : C.Option (List ℕ)) (table shift : ℕ) (blocks : List Block) (i : ℕ) (front : List Typed) (total : C.Reading (List Typed)) where
  goes_on : (d : Block) (x : Typed) → i < length blocks → C.typed_at file table shift (C.get_or blocks i d) ≡ Ok x
      → with_front front (all_typed file table shift (drop i blocks)) ≡ total → with_front (front ++ x ∷ []) (all_typed file table shift (drop (i + 1) blocks)) ≡ total
  goes_on d x lt h so_far =
      let one : with_front front (all_typed file table shift (drop i blocks)) ≡ with_front (front ++ x ∷ []) (all_typed file table shift (drop (i + 1) blocks)) = rw (C.drop-cons blocks i d lt, h, C.add-one) (regroup front x (all_typed file table shift (drop (suc i) blocks))) in
      sym one ∙ so_far

  stops : (d : Block) (e : C.NeFault) → i < length blocks → C.typed_at file table shift (C.get_or blocks i d) ≡ Err e → with_front front (all_typed file table shift (drop i blocks)) ≡ total → total ≡ Err e
  stops d e lt h so_far =
      let one : with_front front (all_typed file table shift (drop i blocks)) ≡ Err e = rw (C.drop-cons blocks i d lt, h) refl in
      sym so_far ∙ one

  is_done : length blocks ≤ i → with_front front (all_typed file table shift (drop i blocks)) ≡ total → total ≡ Ok front
  is_done le so_far =
      let one : with_front front (all_typed file table shift (drop i blocks)) ≡ Ok front = rw (C.drop_of_length-le blocks le) (ap (λ ys. Ok ys) (C.append-nil front)) in
      sym so_far ∙ one

pub returns-in_err-add_block-clause-exact : goal.returns-in_err-add_block-clause-exact
returns-in_err-add_block-clause-exact g c = λ table shift honest known texts.
    let file = file_of (g.S.Store.files c.args.store.now) c.args.name.now in
    let p = C.err_from_is_err_and c.from_residual-in_err-add_block.result c.from_residual-in_err-add_block.ensures.1 in
    let exact = rw c.loop-block.invariant.0 at c.in_err-add_block.ensures.exact in
    let said = exact table shift honest (c.loop-block.invariant.3 honest known) texts c.loop-block.invariant.2 in
    let l = c.loop-block.invariant.4 table shift honest known texts in
    rw (p.1, p.2) (fails_on file _ _ _ c.in_err-add_block.field-0.0 _ (all_typed file table shift c.args.blocks.now) c.loop-block.invariant.1 said
    (λ e. stops file table shift c.args.blocks.now c.loop-block.block-index l.0 _ _ _ c.loop-block-test.true e l.2))

pub loop-block-preserved : goal.loop-block-preserved
loop-block-preserved g c = (
  c.in_ok-add_block.ensures.stays.same ∙ c.loop-block.invariant.0,
  omega (arith, c.loop-block.invariant.1, c.in_ok-add_block.ensures.stays.counted),
  c.in_ok-add_block.ensures.whole c.loop-block.invariant.2,
  λ honest known. (let kept = rw c.loop-block.invariant.0 at c.in_ok-add_block.ensures.kept in kept honest (c.loop-block.invariant.3 honest known)),
  λ table shift honest known texts.
      let file = file_of (g.S.Store.files c.args.store.now) c.args.name.now in
      let exact = rw c.loop-block.invariant.0 at c.in_ok-add_block.ensures.exact in
      let said = exact table shift honest (c.loop-block.invariant.3 honest known) texts c.loop-block.invariant.2 in
      let l = c.loop-block.invariant.4 table shift honest known texts in
      let x = said.0 in (
        l.0 ++ x ∷ [],
        said.2 ∙ ap (λ ts. ts ++ C.filled (x ∷ [])) l.1 ∙ sym (C.filter-append (λ t. C.nat_lt 0 (length t.1)) l.0 (x ∷ [])),
        goes_on file table shift c.args.blocks.now c.loop-block.block-index l.0 _ _ x c.loop-block-test.true said.1 l.2,
      ),
)

pub returns-clause-exact : goal.returns-clause-exact
returns-clause-exact g c = λ table shift honest known texts.
    let l = c.loop-block.invariant.4 table shift honest known texts in
    (l.0, is_done (file_of (g.S.Store.files c.args.store.now) c.args.name.now) table shift c.args.blocks.now c.loop-block.block-index l.0 _ c.loop-block-test.false l.2, l.1)
