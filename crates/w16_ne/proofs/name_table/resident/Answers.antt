use Rattle.w16_ne.proofs.Common.{◌≡◌, ◌∙◌, true, false, [], length, eqb, sym, refl, resident_at}
use Rattle.w16_ne.proofs.name_table.resident.Goals as goal

pub returns-then-is_empty-clause-exact : goal.returns-then-is_empty-clause-exact
unfolding resident_at
returns-then-is_empty-clause-exact g c = λ honest.
    let l = c.in_ok-listing.ensures.exact honest in
    let none = sym (c.is_empty.ensures [] l.0 l.2) ∙ c.if-is_empty.true in
    let read = rw (c.from.ensures, c.from-2.ensures, c.word.ensures) at l.1 in
    rw (read, none) refl

pub returns-clause-exact : goal.returns-clause-exact
unfolding resident_at
returns-clause-exact g c = λ honest.
    let l = c.in_ok-listing.ensures.exact honest in
    let some = sym (c.is_empty.ensures [] l.0 l.2) ∙ c.if-is_empty.false in
    let read = rw (c.from.ensures, c.from-2.ensures, c.word.ensures) at l.1 in
    (l.0, rw (read, some) refl, l.2)
