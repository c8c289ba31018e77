use Rattle.w16_ne.proofs.Common.{◌≡◌, ◌∙◌, length, sym, ap, arith, resource_count}
use Rattle.w16_ne.proofs.Places.{count_grouped}
use Rattle.w16_ne.proofs.resource_places.ResourceTable.len.Goals as goal

pub returns-clause-count : goal.returns-clause-count
returns-clause-count g c =
    let s = c.self.inside in
    let all = count_grouped s.texts.items s.shift s.rows.groups.items s.rows.rows.items c.self.invariant.1.counted in
    let len : c.len.result ≡ length s.rows.rows.items = omega arith in
    len ∙ sym all ∙ ap resource_count c.self.view_is
