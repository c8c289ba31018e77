-- The object of a fixed or of a preload segment is fetched; any other is left.
use Rattle.w16_loader.proofs
use proofs.Unfilled as M
use proofs.Common.{◌≤◌, ◌∙◌, true, false, length, arith, gives_over}
use proofs.Unfilled.{keeps, many_segments}
use Rattle.w16_loader.proofs.filling.fill_segment.Goals as goal

pub segment-segment-requires-clause-last : goal.segment-segment-requires-clause-last
segment-segment-requires-clause-last g c = omega (arith, c.requires.last, many_segments c.source-source.result.module.now c.args.loaded.now c.source-source.ensures.tables)

pub fetch-requires-clause-last : goal.fetch-requires-clause-last
fetch-requires-clause-last g c = omega (arith, c.requires.last, c.source-source.ensures.number, many_segments c.source-source.result.module.now c.args.loaded.now c.source-source.ensures.tables)

-- It is neither.

pub returns-then-not-is_filled-clause-given : goal.returns-then-not-is_filled-clause-given
returns-then-not-is_filled-clause-given g c = λ read place part is_read its is.
    M.unfilled _ read _ part place _ _
    (M.is_filled_by _ _ _ part _ _ c.source-source.ensures.tables c.segment-segment.ensures.found _ false c.is_filled.ensures c.if-not-is_filled.true)

-- There is no slot.

pub returns-in-None-clause-given : goal.returns-in-None-clause-given
returns-in-None-clause-given g c = λ read place part is_read its is. absurd (M.no_slot _ read _ part c.slots.result.now c.slots.ensures.slots c.in-None.ensures.slot)

-- It is fetched.

pub returns-in-Some-clause-kept : goal.returns-in-Some-clause-kept
returns-in-Some-clause-kept g c = λ slot s out is.
    keeps c.args.global.now c.fetch.new.global c.handle_of-handle.result c.fetch.result c.fetch.ensures.given c.reveal_handles.ensures.heap c.fetch.ensures.refused c.fetch.ensures.named slot s
    (M.other_slot c.args.loaded.now c.args.number c.slots.result.now c.slots.ensures.slots c.in-Some.slot c.in-Some.ensures.slot c.segment_kind.result _ c.handle_of-handle.ensures slot out) is

pub returns-in-Some-clause-given : goal.returns-in-Some-clause-given
returns-in-Some-clause-given g c = λ read place part is_read its is.
    let last : c.args.number ≤ length c.source-source.result.module.now.segments = omega (arith, c.requires.last, many_segments c.source-source.result.module.now c.args.loaded.now c.source-source.ensures.tables) in
    let named = M.is_named _ _ c.args.number part _ _ c.source-source.ensures.tables c.segment-segment.ensures.found c.slots.result.now c.slots.ensures.slots c.in-Some.slot c.in-Some.ensures.slot
    c.segment_kind.result c.segment_kind.ensures c.handle_of-handle.result c.handle_of-handle.ensures in
    let known = λ (honest : g.S.Store.is_honest). M.source_image _ _ _ (its honest).0 (its honest).1 _ c.source-source.ensures.tables c.args.number c.requires.first last c.source-source.result.file.now c.source-source.result.values.now
    c.source-source.ensures.source part g.S.Store.is_honest honest c.args.global.now.handles c.handle_of-handle.result named is c.source-source.result.number c.source-source.ensures.number in
    M.filled c.args.loaded.now read c.args.number part place (gives_over _ _ _) c.args.global.now.handles.heap c.fetch.new.global.handles.heap c.fetch.result
    (M.is_filled_by _ _ _ part _ _ c.source-source.ensures.tables c.segment-segment.ensures.found _ true c.is_filled.ensures c.if-not-is_filled.false)
    (M.gives_held c.args.global.now c.fetch.new.global c.handle_of-handle.result c.fetch.result c.fetch.ensures.given g.S.Store.is_honest part.slot (part.its_data.image _) part.segment
    named is (M.part_long _ read _ part is_read)
    (λ honest. (known honest).0) (λ honest bytes read_as. read_as.1 (known honest).0 ∙ (known honest).1))
