use Rattle.w16_ne.proofs
use proofs.Common as C
use proofs.Common.{◌≡◌, ℕ, ◌*◌, ◌+◌, ◌∙◌, [], ◌∷◌, ◌++◌, map, arith, refl, sym, ap, ◌-◌, file_of, Row, Reading, each, resource_at, resources_of, entry_in}
use proofs.Each.{goes_on, stops, is_done, front_none}
use proofs.Until.{fails_on}
use Rattle.w16_ne.specs.Resources.{Entry}
use Rattle.w16_ne.proofs.resource_rows.add_rows.Goals as goal

pub returns-in_err-row-clause-exact : goal.returns-in_err-row-clause-exact
returns-in_err-row-clause-exact g c = λ table shift honest piece texts.
    let file = file_of (g.S.Store.files c.args.store.now) c.args.name.now in
    let item : ℕ → Reading Entry = λ i. resource_at file table shift (c.args.block.at + 12 * i) in
    let p = C.err_from_is_err_and c.from_residual.result c.from_residual.ensures.1 in
    let exact = rw (c.from.ensures, c.loop-i.invariant.0) at c.in_err-row.ensures.exact in
    let said = exact table shift honest (c.loop-i.invariant.2 honest piece) texts in
    let l = c.loop-i.invariant.3 in
    rw (p.1, p.2) (fails_on file _ _ _ c.in_err-row.field-0.0 (item c.loop-i.i) (resources_of file table shift c.args.block) c.loop-i.invariant.1 said
    (λ e. stops item (map (entry_in c.args.texts.now shift) l.0) c.args.block.count c.loop-i.i _ _ c.loop-i-test.true e (l.4 table shift honest piece texts)))

pub loop-i-preserved : goal.loop-i-preserved
loop-i-preserved g c =
    let file = file_of (g.S.Store.files c.args.store.now) c.args.name.now in
    let texts = c.args.texts.now in
    let l = c.loop-i.invariant.3 in
    let row = c.in_ok-row.row in (
      c.in_ok-row.ensures.stays.same ∙ c.loop-i.invariant.0,
      omega (arith, c.loop-i.invariant.1, c.in_ok-row.ensures.stays.counted),
      λ honest piece. (let kept = rw c.loop-i.invariant.0 at c.in_ok-row.ensures.kept in kept honest (c.loop-i.invariant.2 honest piece)),
      (
        l.0 ++ row ∷ [],
        c.in_ok-push.ensures.items ∙ ap (λ rs. rs ++ row ∷ []) l.1 ∙ simp C.append_assoc,
        omega (arith, l.2, C.length-append l.0 (row ∷ [])),
        C.All-push (λ r. C.HasLabel texts r.id) l.0 row l.3 c.in_ok-row.ensures.inside,
        λ table shift honest piece known.
            let item : ℕ → Reading Entry = λ i. resource_at file table shift (c.args.block.at + 12 * i) in
            let exact = rw (c.from.ensures, c.loop-i.invariant.0) at c.in_ok-row.ensures.exact in
            let said = exact table shift honest (c.loop-i.invariant.2 honest piece) known in
            rw (C.map_push (entry_in texts shift) l.0 row) (goes_on item (map (entry_in texts shift) l.0) c.args.block.count c.loop-i.i (entry_in texts shift row) (resources_of file table shift c.args.block) c.loop-i-test.true said (l.4 table shift honest piece known)),
      ),
    )

pub loop-i-init : goal.loop-i-init
unfolding resources_of
loop-i-init g c = (
  refl,
  omega arith,
  λ honest piece. piece,
  (
    [],
    sym (C.append-nil c.args.rows.now.items),
    refl,
    λ k d lt. absurd (omega (arith, lt)),
    λ table shift honest piece known.
        let file = file_of (g.S.Store.files c.args.store.now) c.args.name.now in
        let item : ℕ → Reading Entry = λ i. resource_at file table shift (c.args.block.at + 12 * i) in
        let all : c.args.block.count - 0 ≡ c.args.block.count = omega arith in
        front_none (each item (c.args.block.count - 0) 0) ∙ ap (λ n. each item n 0) all,
  ),
)

pub returns-clause-exact : goal.returns-clause-exact
returns-clause-exact g c = λ table shift honest piece known.
    let file = file_of (g.S.Store.files c.args.store.now) c.args.name.now in
    let item : ℕ → Reading Entry = λ i. resource_at file table shift (c.args.block.at + 12 * i) in
    let l = c.loop-i.invariant.3 in
    let es = map (entry_in c.args.texts.now shift) l.0 in
    (es, is_done item es c.args.block.count c.loop-i.i _ c.loop-i-test.false (l.4 table shift honest piece known), record { rows = l.0; added = l.1; are = refl })
