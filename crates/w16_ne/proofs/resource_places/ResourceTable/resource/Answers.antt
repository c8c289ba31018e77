use Rattle.w16_ne.proofs.Common.{◌≡◌, ◌∙◌, ◌<◌, ◌≤◌, suc, length, get_or, Some, sym, ap, arith, nat_tests, recursion_from_All, Group, Label, label_of, entry_of, HasLabel, label_in, entry_in, kind_at}
use Rattle.w16_ne.proofs.Places.{found_grouped, none_grouped, kind_there}
use Rattle.w16_ne.specs.{Modules.resource_at, Resources.Entry}
use Rattle.w16_ne.proofs.resource_places.ResourceTable.resource.Goals as goal

pub returns-in_err-row : goal.returns-in_err-row
returns-in_err-row g c =
    let s = c.self.inside in
    let rows = s.rows.rows.items in
    let i = c.in_ok-i.i in
    let place : c.args.place ≡ suc i = omega arith in
    let le : length rows ≤ i = grind (arith, nat_tests) in
    let none = none_grouped s.texts.items s.shift s.rows.groups.items rows i c.self.invariant.1.counted le in
    rw c.from_residual-in_err-row.ensures (sym none ∙ ap (λ ts. resource_at ts (suc i)) c.self.view_is ∙ ap (resource_at c.args.self.now) (sym place))

pub label-kind-requires : goal.label-kind-requires
label-kind-requires g c =
    let s = c.self.inside in
    let i = c.in_ok-i.i in
    let there = c.in_ok-row.ensures.lookup.3.0 in
    let inside : i < length s.rows.rows.items = omega (arith, there, ap length c.deref.ensures.value) in
    let all = recursion_from_All (λ g. HasLabel s.texts.items g.kind) s.rows.groups.items c.self.invariant.1.kinds in
    let has = kind_there s.texts.items s.rows.groups.items i all (omega (arith, inside, c.self.invariant.1.counted)) in
    rw (c.as_slice-texts.ensures.value, c.kind_at.ensures, c.as_slice.ensures.value) has

pub returns : goal.returns
returns g c =
    let s = c.self.inside in
    let texts = s.texts.items in
    let rows = s.rows.rows.items in
    let groups = s.rows.groups.items in
    let i = c.in_ok-i.i in
    let place : c.args.place ≡ suc i = omega arith in
    let there = c.in_ok-row.ensures.lookup.3.0 in
    let inside : i < length rows = omega (arith, there, ap length c.deref.ensures.value) in
    let row = c.in_ok-row.field-0.now in
    let found = found_grouped texts s.shift groups rows i row c.self.invariant.1.counted inside in
    let same = c.as_slice-texts.ensures.value in
    let kind = c.kind_at.ensures ∙ ap (λ gs. kind_at gs i) c.as_slice.ensures.value in
    let at = c.in_ok-row.ensures.lookup.3.1 row ∙ ap (λ rs. get_or rs i row) c.deref.ensures.value in
    let label = c.label-kind.ensures ∙ ap (λ t. label_in t c.kind_at.result) same ∙ ap (label_in texts) kind in
    let entry = c.entry.ensures ∙ ap (λ t. entry_in t s.shift row) same ∙ ap (entry_in texts s.shift) at in
    ap (λ l. Some (l, entry_of c.entry.result)) label ∙ ap (λ e. Some (label_in texts (kind_at groups i), e)) entry
    ∙ sym found ∙ ap (λ ts. resource_at ts (suc i)) c.self.view_is ∙ ap (resource_at c.args.self.now) (sym place)
