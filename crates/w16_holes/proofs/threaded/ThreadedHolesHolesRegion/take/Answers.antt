use Rattle.w16_holes.proofs.Common.{ℕ, List, ◌+◌, ◌≤◌, length, Option, arith, sym, ap, ◌∙◌, subst, IfSome, Span, Free, IsFree, AreSameOutside, last_before, AreThreaded, put_link}
use Rattle.w16_holes.proofs.Links.{asked, take_there, take_from, take_fits, take_top, take_room, take_link, take_written}
use Rattle.w16_holes.proofs.threaded.ThreadedHolesHolesRegion.take.Goals as goal

pub word_at-requires : goal.word_at-requires
word_at-requires g c =
    let p = asked IsFree c.args.space.now.bytes.items c.self.view_is c.self.invariant c.below-below.ensures.ordered c.requires.part c.requires.kept c.requires.free in
    let fits = take_fits p c.in-Some.begin c.in-Some.ensures in omega arith

pub overflow_add-end : goal.overflow_add-end
overflow_add-end g c =
    let p = asked IsFree c.args.space.now.bytes.items c.self.view_is c.self.invariant c.below-below.ensures.ordered c.requires.part c.requires.kept c.requires.free in
    let top = take_top p c.in-Some.begin c.in-Some.ensures in
    let is = c.word_at.ensures in
    let small = c.self.invariant.small in
    record { fits = omega arith }

pub overflow_add-begin : goal.overflow_add-begin
overflow_add-begin g c =
    let p = asked IsFree c.args.space.now.bytes.items c.self.view_is c.self.invariant c.below-below.ensures.ordered c.requires.part c.requires.kept c.requires.free in
    let fits = take_fits p c.in-Some.begin c.in-Some.ensures in
    let small = c.args.space.now.small in
    record { fits = omega arith }

pub word_at-next-requires : goal.word_at-next-requires
word_at-next-requires g c =
    let p = asked IsFree c.args.space.now.bytes.items c.self.view_is c.self.invariant c.below-below.ensures.ordered c.requires.part c.requires.kept c.requires.free in
    let fits = take_fits p c.in-Some.begin c.in-Some.ensures in omega arith

pub set_hole-behind-requires : goal.set_hole-behind-requires
set_hole-behind-requires g c =
    let p = asked IsFree _ c.self.view_is c.self.invariant c.below-below.ensures.ordered c.requires.part c.requires.kept c.requires.free in
    let is = c.word_at.ensures in λ lt. take_room p c.in-Some.begin c.in-Some.ensures (omega arith)

pub link-requires : goal.link-requires
link-requires g c =
    let p = asked IsFree c.args.space.now.bytes.items c.self.view_is c.self.invariant c.below-below.ensures.ordered c.requires.part c.requires.kept c.requires.free in
    subst (λ o. IfSome o (λ x. x + 8 ≤ length c.set_hole-behind.new.space.bytes.items)) (sym c.below-below.ensures.value)
    (subst (λ m. IfSome (last_before c.args.place c.self.inside.side.holes) (λ x. x + 8 ≤ m))
    (sym c.set_hole-behind.ensures.length) (take_link p c.in-Some.begin c.in-Some.ensures))

pub overflow_sub-place : goal.overflow_sub-place
overflow_sub-place g c =
    let p = asked IsFree c.args.space.now.bytes.items c.self.view_is c.self.invariant c.below-below.ensures.ordered c.requires.part c.requires.kept c.requires.free in
    take_from p _ c.in-Some.ensures

pub set_word-requires : goal.set_word-requires
set_word-requires g c =
    let p = asked IsFree c.args.space.now.bytes.items c.self.view_is c.self.invariant c.below-below.ensures.ordered c.requires.part c.requires.kept c.requires.free in
    let fits = take_fits p c.in-Some.begin c.in-Some.ensures in
    let long = c.link.ensures.length in
    let longer = c.set_hole-behind.ensures.length in omega arith

pub returns-in-Some-clause-kept : goal.returns-in-Some-clause-kept
returns-in-Some-clause-kept g c =
    let p = asked IsFree c.args.space.now.bytes.items c.self.view_is c.self.invariant c.below-below.ensures.ordered c.requires.part c.requires.kept c.requires.free in
    let written = take_written p c.in-Some.begin c.in-Some.ensures c.word_at.result
    c.word_at-next.result c.set_hole-behind.result c.set_hole-behind.new.space.bytes.items
    _ c.set_word.new.self.bytes.items c.word_at.ensures c.word_at-next.ensures
    c.set_hole-behind.ensures.bytes c.set_hole-behind.ensures.first
    (c.link.ensures.bytes ∙ ap (λ o. put_link c.set_hole-behind.new.space.bytes.items o
    c.set_hole-behind.result) c.below-below.ensures.value) c.set_word.ensures.bytes in
    subst (λ hs. AreThreaded hs c.set_word.new.self.bytes.items) (sym c.take_out.ensures.holes) written.0

pub returns-in-Some-clause-bytes : goal.returns-in-Some-clause-bytes
returns-in-Some-clause-bytes g c =
    let p = asked IsFree _ c.self.view_is c.self.invariant c.below-below.ensures.ordered c.requires.part c.requires.kept c.requires.free in
    let written = take_written p c.in-Some.begin c.in-Some.ensures c.word_at.result
    c.word_at-next.result c.set_hole-behind.result c.set_hole-behind.new.space.bytes.items
    _ _ c.word_at.ensures c.word_at-next.ensures
    c.set_hole-behind.ensures.bytes c.set_hole-behind.ensures.first
    (c.link.ensures.bytes ∙ ap (λ o. put_link c.set_hole-behind.new.space.bytes.items o
    c.set_hole-behind.result) c.below-below.ensures.value) c.set_word.ensures.bytes in
    subst (λ g. AreSameOutside g.holes c.args.space.now.bytes.items c.set_word.new.self.bytes.items) c.self.view_is written.1

pub returns-in_default-clause-holes : goal.returns-in_default-clause-holes
returns-in_default-clause-holes g c =
    let p = asked IsFree c.args.space.now.bytes.items c.self.view_is c.self.invariant c.below-below.ensures.ordered c.requires.part c.requires.kept c.requires.free in
    absurd (take_there p c.in_default.ensures)
