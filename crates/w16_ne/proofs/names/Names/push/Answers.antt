use Rattle.w16_ne.proofs
use proofs.Common.{◌≡◌, ◌≤◌, [], ◌∷◌, ◌++◌, length, length-append, map, ◌∙◌, ap, refl, arith, rules, All-push, Place, Entry, at_place}
use proofs.Texts.{IsInside, pushed, still_inside, new_inside}
use Rattle.w16_ne.proofs.names.Names.push.Goals as goal

pub invariant_of-self-2 : goal.invariant_of-self-2
invariant_of-self-2 g c =
    let texts = c.self.inside.texts.items in
    let places = c.self.inside.places.items in
    let text = c.args.text.now in
    let p : Place = record { start = c.in-Ok.start; len = length text; ordinal = c.args.ordinal } in
    let new_places = c.push_reserved.ensures.items ∙ ap (λ xs. xs ++ p ∷ []) c.reserve.ensures.items in
    let start : p.start ≡ length texts = search rules in
    let one_more = length-append places (p ∷ []) in
    let view = pushed texts text places p c.self.invariant.0 start refl in
    rw (c.in_ok-extend_from_slice.ensures.items, new_places) (
      All-push (IsInside (texts ++ text)) places p (still_inside texts text places c.self.invariant.0) (new_inside texts text p start refl),
      omega (arith, one_more, c.if-len.false, c.self.invariant.1),
      rw view (All-push (λ e. length e.0 ≤ 255) (map (at_place texts) places) (text, p.ordinal) c.self.invariant.2 c.requires),
    )

pub returns-clause-ok : goal.returns-clause-ok
returns-clause-ok g c =
    let texts = c.self.inside.texts.items in
    let places = c.self.inside.places.items in
    let p : Place = record { start = c.in-Ok.start; len = length c.args.text.now; ordinal = c.args.ordinal } in
    let new_places = c.push_reserved.ensures.items ∙ ap (λ xs. xs ++ p ∷ []) c.reserve.ensures.items in
    let start : p.start ≡ length texts = search rules in
    rw (c.in_ok-extend_from_slice.ensures.items, new_places, ← c.self.view_is) (pushed texts c.args.text.now places p c.self.invariant.0 start refl)
