use Rattle.w16_ne.proofs
use proofs.Common.{◌≡◌, ◌+◌, ◌∙◌, [], ◌∷◌, ◌++◌, length, refl, sym, subst, slice_index, Entry, IsListing}
use proofs.Listed.{here, goes_on, is_refused, is_done}
use proofs.Bounds.{is_past, is_inside}
use Rattle.w16_ne.proofs.nonresident.add_names.Goals as goal

pub returns-then-is_end-clause-exact : goal.returns-then-is_end-clause-exact
returns-then-is_end-clause-exact g c = λ before begun.
    let table = c.args.table.now in
    let l = c.loop.invariant.1 before begun in
    (l.0, is_done table l.0 (length table) c.loop.counter c.loop.at _ c.loop-test.true (sym c.is_end.ensures.end ∙ c.if-is_end.true) l.2, l.1)

pub returns-then-end-table-clause-exact : goal.returns-then-end-table-clause-exact
returns-then-end-table-clause-exact g c = λ before begun.
    let table = c.args.table.now in
    let l = c.loop.invariant.1 before begun in
    let past = is_past (length table) (c.loop.at + 3 + slice_index table c.loop.at) (rw c.from-len.ensures at c.if-end-table.true) in
    is_refused table l.0 (length table) c.loop.counter c.loop.at _ c.loop-test.true (sym c.is_end.ensures.end ∙ c.if-is_end.false) past l.2

pub loop-preserved : goal.loop-preserved
loop-preserved g c =
    let table = c.args.table.now in
    let at = c.loop.at in
    let inside = is_inside (length table) (at + 3 + slice_index table at) (rw c.from-len.ensures at c.if-end-table.false) in
    let entry : (c.part.result.now, c.word.result) ≡ here table at = rw (c.part.ensures.value, c.word.ensures, c.from-len.ensures) refl in (
      c.if-end-table.false,
      λ before begun.
          let l = c.loop.invariant.1 before begun in (
            l.0 ++ here table at ∷ [],
            subst (λ e. IsListing before (l.0 ++ e ∷ []) c.add.new.self) entry (c.in_ok-add.ensures.ok before l.0 l.1),
            rw c.from-len.ensures (goes_on table l.0 (length table) c.loop.counter at _ c.loop-test.true (sym c.is_end.ensures.end ∙ c.if-is_end.false) inside l.2),
          ),
    )
