use Rattle.std.proofs.Common.{None, Some, sym, ◌∙◌}
use Rattle.w16_local.proofs.Beginning.{begins_as, not_in_code, not_twice, nowhere}
use Rattle.w16_local.proofs.LocalHeaps.beginning.Goals as goal

pub returns-in_default-clause-none : goal.returns-in_default-clause-none
returns-in_default-clause-none g c = nowhere c.args.global.now.handles c.args.self.now c.args.ds c.args.selector c.args.start c.args.end c.selector_or.result c.selector_or.ensures c.in_default.ensures.none

pub returns-then-segment-clause-none : goal.returns-then-segment-clause-none
returns-then-segment-clause-none g c = not_in_code c.args.global.now.handles c.args.self.now c.args.ds c.args.selector
    c.args.start c.args.end c.selector_or.result c.selector_or.ensures c.in-Some.segment.slot c.in-Some.ensures.found.0
    c.in-Some.segment.size c.in-Some.ensures.found.1 (sym c.in-Some.ensures.code ∙ c.if-segment.true)

pub returns-in-Some-local_heap-clause-none : goal.returns-in-Some-local_heap-clause-none
returns-in-Some-local_heap-clause-none g c = not_twice c.args.global.now.handles c.args.self.now c.args.ds
    c.args.selector c.args.start c.args.end c.selector_or.result c.selector_or.ensures c.in-Some.segment.slot
    c.in-Some.ensures.found.0 c.in-Some.segment.size c.in-Some.ensures.found.1
    (sym c.in-Some.ensures.code ∙ c.if-segment.false) c.in-Some-local_heap._heap.now c.in-Some-local_heap.ensures.some

pub returns-in_default-range_in-clause-none : goal.returns-in_default-range_in-clause-none
returns-in_default-range_in-clause-none g c = begins_as c.args.global.now.handles c.args.self.now c.args.ds
    c.args.selector c.args.start c.args.end c.selector_or.result c.selector_or.ensures c.in-Some.segment.slot
    c.in-Some.ensures.found.0 c.in-Some.segment.size c.in-Some.ensures.found.1
    (sym c.in-Some.ensures.code ∙ c.if-segment.false) c.in_default-local_heap.ensures.none None
    (sym c.in_default-range_in.is ∙ c.range_in.ensures)

pub returns-clause-some : goal.returns-clause-some
returns-clause-some g c = begins_as c.args.global.now.handles c.args.self.now c.args.ds c.args.selector c.args.start
    c.args.end c.selector_or.result c.selector_or.ensures c.in-Some.segment.slot c.in-Some.ensures.found.0
    c.in-Some.segment.size c.in-Some.ensures.found.1 (sym c.in-Some.ensures.code ∙ c.if-segment.false)
    c.in_default-local_heap.ensures.none (Some c.in-Some-range_in.range)
    (sym c.in-Some-range_in.is ∙ c.range_in.ensures)
