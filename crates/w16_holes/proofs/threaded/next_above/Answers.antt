use Rattle.w16_holes.proofs.Common.{ℕ, ap, arith, sym, ◌∙◌, unwrap_or, Option, no_hole}
use Rattle.w16_holes.proofs.Next.{next_at, next_below, next_none, lowest_first}
use Rattle.w16_holes.proofs.threaded.next_above.Goals as goal

pub overflow_add-place : goal.overflow_add-place
overflow_add-place g c =
    let f = c.args.side.now in let e = c.at.ensures in let has = c.if-at-gt0.true in
    let r = next_at c.args.place f.range.lo f.range.hi f.holes c.args.space.now.bytes.items c.requires.ordered c.requires.kept (omega arith) in
    let inside = r.0 in let small = c.args.space.now.small in
    record { fits = omega arith }

pub word_at-requires : goal.word_at-requires
word_at-requires g c =
    let f = c.args.side.now in let e = c.at.ensures in let has = c.if-at-gt0.true in
    let r = next_at c.args.place f.range.lo f.range.hi f.holes c.args.space.now.bytes.items c.requires.ordered c.requires.kept (omega arith) in
    let inside = r.0 in omega arith

pub returns-then-at-gt0 : goal.returns-then-at-gt0
returns-then-at-gt0 g c =
    let f = c.args.side.now in let e = c.at.ensures in let has = c.if-at-gt0.true in
    let r = next_at _ f.range.lo f.range.hi f.holes _ c.requires.ordered c.requires.kept (omega arith) in
    c.word_at.ensures ∙ r.1

pub overflow_add-begin : goal.overflow_add-begin
overflow_add-begin g c =
    let f = c.args.side.now in let e = c.at.ensures in let none = c.if-at-gt0.false in
    let r = next_below c.args.place c.in-Some.begin f.range.lo f.range.hi f.holes c.args.space.now.bytes.items c.requires.ordered c.requires.kept (omega arith) (sym c.in-Some.is ∙ c.requires.below) in
    let inside = r.0 in let small = c.args.space.now.small in
    record { fits = omega arith }

pub word_at-requires-in-Some : goal.word_at-requires-in-Some
word_at-requires-in-Some g c =
    let f = c.args.side.now in let e = c.at.ensures in let none = c.if-at-gt0.false in
    let r = next_below c.args.place c.in-Some.begin f.range.lo f.range.hi f.holes c.args.space.now.bytes.items c.requires.ordered c.requires.kept (omega arith) (sym c.in-Some.is ∙ c.requires.below) in
    let inside = r.0 in omega arith

pub returns-in-Some : goal.returns-in-Some
returns-in-Some g c =
    let f = c.args.side.now in let e = c.at.ensures in let none = c.if-at-gt0.false in
    let r = next_below _ _ f.range.lo f.range.hi f.holes _ c.requires.ordered c.requires.kept (omega arith) (sym c.in-Some.is ∙ c.requires.below) in
    c.word_at-in-Some.ensures ∙ r.1

pub returns-in-None : goal.returns-in-None
returns-in-None g c =
    let f = c.args.side.now in let e = c.at.ensures in let none = c.if-at-gt0.false in
    c.unwrap_or.ensures ∙ ap (λ o. unwrap_or o no_hole) c.lowest.ensures ∙ lowest_first f.holes
    ∙ sym (next_none _ f.range.lo f.range.hi f.holes c.requires.ordered (omega arith) (sym c.requires.below ∙ c.in-None.is))
