use Rattle.w16_holes.proofs
use proofs.Common.{ℕ, List, ◌+◌, ◌-◌, ◌≤◌, length, Option, IfSome, arith, sym, ap, ◌∙◌, subst, Span, IsUsed, AreSameOutside, AreThreaded, put_link}
use proofs.Below.{last_used}
use proofs.Links.{asked, place_behind, put_less, put_top, put_fits, put_room, put_all}
use Rattle.w16_holes.proofs.threaded.ThreadedHolesHolesRegion.put.Goals as goal

pub next_above-next-requires-clause-place : goal.next_above-next-requires-clause-place
next_above-next-requires-clause-place g c =
    let p = asked IsUsed c.args.space.now.bytes.items c.self.view_is c.self.invariant c.below-below.ensures.ordered c.requires.part c.requires.kept c.requires.used in
    place_behind p.part

pub next_above-next-requires-clause-below : goal.next_above-next-requires-clause-below
next_above-next-requires-clause-below g c =
    let p = asked IsUsed c.args.space.now.bytes.items c.self.view_is c.self.invariant c.below-below.ensures.ordered c.requires.part c.requires.kept c.requires.used in
    let f = c.self.inside.side in let some = p.part.some in
    c.below-below.ensures.value ∙ sym (last_used _ _ _ _ f.holes (omega arith) p.holes p.is)

pub at-requires-clause-place : goal.at-requires-clause-place
at-requires-clause-place g c =
    let p = asked IsUsed c.args.space.now.bytes.items c.self.view_is c.self.invariant c.below-below.ensures.ordered c.requires.part c.requires.kept c.requires.used in
    place_behind p.part

pub overflow_add-end-2 : goal.overflow_add-end-2
overflow_add-end-2 g c =
    let p = asked IsUsed c.args.space.now.bytes.items c.self.view_is c.self.invariant c.below-below.ensures.ordered c.requires.part c.requires.kept c.requires.used in
    let top = put_top p c.requires.inside in
    let is = c.at.ensures in
    let small = c.self.invariant.small in
    record { fits = omega arith }

pub overflow_sub-from : goal.overflow_sub-from
overflow_sub-from g c =
    let p = asked IsUsed c.args.space.now.bytes.items c.self.view_is c.self.invariant c.below-below.ensures.ordered c.requires.part c.requires.kept c.requires.used in
    let le = put_less p c.requires.inside in
    let is = c.length_below.ensures in omega arith

pub link-requires : goal.link-requires
link-requires g c =
    let p = asked IsUsed c.args.space.now.bytes.items c.self.view_is c.self.invariant c.below-below.ensures.ordered c.requires.part c.requires.kept c.requires.used in
    subst (λ o. IfSome o (λ x. x + 8 ≤ length c.args.space.now.bytes.items)) (sym c.below-below.ensures.value)
    (put_room p c.requires.inside)

pub set_words-requires : goal.set_words-requires
set_words-requires g c =
    let p = asked IsUsed c.args.space.now.bytes.items c.self.view_is c.self.invariant c.below-below.ensures.ordered c.requires.part c.requires.kept c.requires.used in
    let fits = put_fits p c.requires.inside in
    let is = c.length_below.ensures in
    let long = c.link.ensures.length in omega arith

pub returns-clause-kept : goal.returns-clause-kept
returns-clause-kept g c =
    let p = asked IsUsed c.args.space.now.bytes.items c.self.view_is c.self.invariant c.below-below.ensures.ordered c.requires.part c.requires.kept c.requires.used in
    let written = put_all p c.requires.inside c.next_above-next.result c.at.result
    c.length_below.result _ c.set_words.new.space.bytes.items c.next_above-next.ensures
    c.at.ensures c.length_below.ensures (c.link.ensures.bytes ∙ ap
    (λ o. put_link c.args.space.now.bytes.items o (c.args.place - c.length_below.result))
    c.below-below.ensures.value) c.set_words.ensures.bytes in
    subst (λ hs. AreThreaded hs c.set_words.new.space.bytes.items) (sym c.put_back.ensures.holes) written.0

pub returns-clause-bytes : goal.returns-clause-bytes
returns-clause-bytes g c =
    let p = asked IsUsed c.args.space.now.bytes.items c.self.view_is c.self.invariant c.below-below.ensures.ordered c.requires.part c.requires.kept c.requires.used in
    let written = put_all p c.requires.inside c.next_above-next.result c.at.result
    c.length_below.result _ c.set_words.new.space.bytes.items c.next_above-next.ensures
    c.at.ensures c.length_below.ensures (c.link.ensures.bytes ∙ ap
    (λ o. put_link c.args.space.now.bytes.items o (c.args.place - c.length_below.result))
    c.below-below.ensures.value) c.set_words.ensures.bytes in
    subst (λ hs. AreSameOutside hs c.args.space.now.bytes.items c.set_words.new.space.bytes.items) (sym c.put_back.ensures.holes) written.1
