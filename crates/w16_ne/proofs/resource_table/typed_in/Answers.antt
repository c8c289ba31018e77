use Rattle.w16_ne.proofs.Common.{◌≡◌, ◌∙◌, ◌^◌, length, map, true, false, ap, sym, refl, Ok, arith, nat_lt, nat_tests, err_from_is_err_and, file_of, texts_behind, typed_in, resource_count, are_placed, are_all_placed, entry_in, grouped, total}
use Rattle.w16_ne.proofs.{Filled.count_filled, Filled.placed_filled, Places.count_grouped, Places.placed_grouped, Pieces.refused_is, Until.told_on}
use Rattle.w16_ne.proofs.resource_table.typed_in.Goals as goal

pub returns-then-are_too_many-clause-exact : goal.returns-then-are_too_many-clause-exact
unfolding typed_in
returns-then-are_too_many-clause-exact g c = λ honest known.
    let file = file_of (g.S.Store.files c.args.store.now) c.args.name.now in
    let shift = c.args.shift in
    let t = c.as_slice.result.now in
    let groups = c.in_ok-rows.rows.groups.items in
    let rows = c.in_ok-rows.rows.rows.items in
    let fits : nat_lt 15 shift ≡ false = grind (arith, nat_tests, c.if-shift-gt15.false) in
    let there = c.in_ok-texts.ensures.exact honest ∙ ap (λ xs. Ok xs) (sym c.as_slice.ensures.value) in
    let exact = rw c.in_ok-texts.ensures.stays.same at c.in_ok-rows.ensures.exact in
    let l = exact c.args.table shift honest known there in
    let counted = c.in_ok-rows.ensures.whole.counted in
    let count = sym (count_filled l.0) ∙ ap resource_count (sym l.2) ∙ count_grouped t shift groups rows counted in
    let same = ap (λ rs. nat_lt 65535 (length rs)) c.as_slice-2.ensures.value ∙ ap (λ n. nat_lt 65535 n) (sym count) in
    let many = sym same ∙ sym c.are_too_many.ensures ∙ c.if-are_too_many.true in
    rw (fits, l.1, many) refl

pub returns-in_err-test_places-clause-exact : goal.returns-in_err-test_places-clause-exact
unfolding typed_in
returns-in_err-test_places-clause-exact g c = λ honest known.
    let file = file_of (g.S.Store.files c.args.store.now) c.args.name.now in
    let shift = c.args.shift in
    let t = c.as_slice.result.now in
    let groups = c.in_ok-rows.rows.groups.items in
    let rows = c.in_ok-rows.rows.rows.items in
    let fits : nat_lt 15 shift ≡ false = grind (arith, nat_tests, c.if-shift-gt15.false) in
    let there = c.in_ok-texts.ensures.exact honest ∙ ap (λ xs. Ok xs) (sym c.as_slice.ensures.value) in
    let exact = rw c.in_ok-texts.ensures.stays.same at c.in_ok-rows.ensures.exact in
    let l = exact c.args.table shift honest known there in
    let counted = c.in_ok-rows.ensures.whole.counted in
    let count = sym (count_filled l.0) ∙ ap resource_count (sym l.2) ∙ count_grouped t shift groups rows counted in
    let same = ap (λ rs. nat_lt 65535 (length rs)) c.as_slice-2.ensures.value ∙ ap (λ n. nat_lt 65535 n) (sym count) in
    let few = sym same ∙ sym c.are_too_many.ensures ∙ c.if-are_too_many.false in
    let placed : are_all_placed file (2 ^ shift) l.0 ≡ are_placed file (2 ^ shift) (map (entry_in t shift) c.as_slice-3.result.now) =
    sym (placed_filled file (2 ^ shift) l.0) ∙ ap (are_all_placed file (2 ^ shift)) (sym l.2) ∙ placed_grouped t shift file (2 ^ shift) groups rows counted
    ∙ ap (λ rs. are_placed file (2 ^ shift) (map (entry_in t shift) rs)) (sym c.as_slice-3.ensures.value) in
    let p = err_from_is_err_and c.from_residual-in_err-test_places.result c.from_residual-in_err-test_places.ensures.1 in
    let whole = typed_in file c.args.table shift c.args.blocks.now in
    rw (p.1, p.2) (refused_is file _ _ c.in_err-test_places.field-0.0 whole (told_on c.in_err-test_places.field-0.0 (are_placed file (2 ^ shift) (map (entry_in t shift) c.as_slice-3.result.now)) whole (c.in_err-test_places.ensures.exact file t known)
    (λ e. rw (fits, l.1, few, placed ∙ e) refl)))

pub returns-clause-exact : goal.returns-clause-exact
unfolding typed_in
returns-clause-exact g c = λ honest known.
    let file = file_of (g.S.Store.files c.args.store.now) c.args.name.now in
    let shift = c.args.shift in
    let t = c.as_slice.result.now in
    let groups = c.in_ok-rows.rows.groups.items in
    let rows = c.in_ok-rows.rows.rows.items in
    let fits : nat_lt 15 shift ≡ false = grind (arith, nat_tests, c.if-shift-gt15.false) in
    let there = c.in_ok-texts.ensures.exact honest ∙ ap (λ xs. Ok xs) (sym c.as_slice.ensures.value) in
    let exact = rw c.in_ok-texts.ensures.stays.same at c.in_ok-rows.ensures.exact in
    let l = exact c.args.table shift honest known there in
    let counted = c.in_ok-rows.ensures.whole.counted in
    let count = sym (count_filled l.0) ∙ ap resource_count (sym l.2) ∙ count_grouped t shift groups rows counted in
    let same = ap (λ rs. nat_lt 65535 (length rs)) c.as_slice-2.ensures.value ∙ ap (λ n. nat_lt 65535 n) (sym count) in
    let few = sym same ∙ sym c.are_too_many.ensures ∙ c.if-are_too_many.false in
    let placed : are_all_placed file (2 ^ shift) l.0 ≡ are_placed file (2 ^ shift) (map (entry_in t shift) c.as_slice-3.result.now) =
    sym (placed_filled file (2 ^ shift) l.0) ∙ ap (are_all_placed file (2 ^ shift)) (sym l.2) ∙ placed_grouped t shift file (2 ^ shift) groups rows counted
    ∙ ap (λ rs. are_placed file (2 ^ shift) (map (entry_in t shift) rs)) (sym c.as_slice-3.ensures.value) in
    rw (fits, l.1, few, placed ∙ c.in_ok-test_places.ensures.exact file t known) (ap (λ ts. Ok ts) (sym l.2 ∙ ap (λ xs. grouped xs shift groups rows) c.as_slice.ensures.value))
