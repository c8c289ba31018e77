use Rattle.w16_ne.proofs.Common.{◌≡◌, ◌<◌, refl, arith, file_of, Group, typed_at, label_in}
use Rattle.w16_ne.proofs.Places.{block_added, nothing_added, rows_whole}
use Rattle.w16_ne.proofs.resource_rows.add_block.Goals as goal

pub returns-in_ok-push-clause-exact : goal.returns-in_ok-push-clause-exact
unfolding typed_at
returns-in_ok-push-clause-exact g c = λ table shift honest piece texts are.
    let file = file_of (g.S.Store.files c.args.store.now) c.args.name.now in
    let kind = c.in_ok-test_label.ensures.exact file table texts in
    let said = c.in_ok-add_rows.ensures.exact table shift honest piece texts in
    let group : Group = record { kind = c.args.block.kind; count = c.args.block.count } in
    let some = c.if-block-gt0.true in
    let all = block_added c.args.texts.now shift c.args.rows.now.groups.items c.args.rows.now.rows.items c.add_rows.new.rows.items said.0 are.counted said.2 group some c.in_ok-add_rows.ensures.added in
    ((label_in c.args.texts.now group.kind, said.0), rw (kind, said.1) refl, rw c.in_ok-push.ensures.items all)

pub returns-in_ok-push-clause-whole : goal.returns-in_ok-push-clause-whole
returns-in_ok-push-clause-whole g c = λ are.
    let group : Group = record { kind = c.args.block.kind; count = c.args.block.count } in
    rows_whole c.args.texts.now c.args.rows.now _ group c.in_ok-push.ensures.items c.in_ok-test_label.ensures.inside c.in_ok-add_rows.ensures.added are

pub returns-else-block-gt0-clause-exact : goal.returns-else-block-gt0-clause-exact
unfolding typed_at
returns-else-block-gt0-clause-exact g c = λ table shift honest piece texts are.
    let file = file_of (g.S.Store.files c.args.store.now) c.args.name.now in
    let kind = c.in_ok-test_label.ensures.exact file table texts in
    let said = c.in_ok-add_rows.ensures.exact table shift honest piece texts in
    let none : c.args.block.count ≡ 0 = omega (arith, c.if-block-gt0.false) in
    let all = nothing_added c.args.texts.now shift c.args.rows.now.groups.items c.args.rows.now.rows.items c.add_rows.new.rows.items said.0 are.counted said.2 (label_in c.args.texts.now c.args.block.kind) c.args.block.count none c.in_ok-add_rows.ensures.added in
    ((label_in c.args.texts.now c.args.block.kind, said.0), rw (kind, said.1) refl, all)
