use Rattle.w16_global.proofs.Common.{◌≡◌, ◌∙◌, None, Some, ap, sym, if◌then◌else◌, eq-eqb, ne_eqb, rules, slot_of_selector}
use Rattle.w16_global.proofs.Owners.{first_of, first_part}
use Rattle.w16_global.proofs.global.Global16.slot_of_selector.Goals as goal

pub returns-in_err-part : goal.returns-in_err-part
returns-in_err-part g c =
    let none = first_part c.args.self.now.handles c.reveal_handles.ensures c.args.selector ∙ ap first_of c.in_err-part.ensures.none in
    search (rules, none)

pub returns-then-part-eq0 : goal.returns-then-part-eq0
returns-then-part-eq0 g c =
    sym (first_part c.args.self.now.handles c.reveal_handles.ensures _ ∙ ap first_of c.in_ok-part.ensures.found ∙ ap (λ b. if b then Some c.in_ok-part.part.slot else None) (eq-eqb _ 0 c.if-part-eq0.true))

pub returns-else-part-eq0 : goal.returns-else-part-eq0
returns-else-part-eq0 g c =
    sym (first_part c.args.self.now.handles c.reveal_handles.ensures _ ∙ ap first_of c.in_ok-part.ensures.found ∙ ap (λ b. if b then Some c.in_ok-part.part.slot else None) (ne_eqb _ 0 c.if-part-eq0.false))
