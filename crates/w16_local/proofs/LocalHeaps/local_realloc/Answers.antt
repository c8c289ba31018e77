use Rattle.w16_local.proofs
use proofs.Common.{IsSomeAnd, arith, subst, sym, ◌≡◌, ◌∙◌, after_modify, MayStep, Stepped, outcome, Discard, Realloc, Modify, local_realloc_law, Some, heap_of, id_named}
use proofs.Acting.{may_in, once_lent, served_in}
use proofs.Calling.{discard_calls, discard_refused, discard_unasked, modify_calls, named_there, realloc_none, resize_calls, rounded_size}
use Rattle.w16_local.specs.{Growth.InSlot, Growth.Served, Growth.WritesServed}
use Rattle.w16_local.specs.declared.growth.Purpose.TheVariants.{Resize}
use Rattle.w16_local.proofs.LocalHeaps.local_realloc.Goals as goal

pub returns-in_default-clause-step : goal.returns-in_default-clause-step
returns-in_default-clause-step g c = realloc_none c.args.global.now.handles c.args.self.now c.args.ds c.args.name c.args.size c.args.flags.0 c.in_default.ensures.none

pub step-requires : goal.step-requires
step-requires g c = let n = c.in-Some.ensures.some in subst (λ m. IsSomeAnd m (MayStep (Modify c.moveable_or_discardable.result) c.in-Some.field-0.id)) (sym n.heap.kept) tt

pub returns-then-intersects-clause-step : goal.returns-then-intersects-clause-step
returns-then-intersects-clause-step g c =
    modify_calls c.in-Some.ensures.some c.args.size c.args.flags.0 (sym (c.intersects.ensures tt) ∙ c.if-intersects.true) c.step.result c.step.new.self
    (subst (λ k. Stepped c.args.self.now c.in-Some.field-0.slot (λ a b. after_modify a c.in-Some.field-0.id k ≡ outcome c.step.result b) c.step.new.self) c.moveable_or_discardable.ensures c.step.ensures.stepped) c.step.ensures.refused

pub serve-requires : goal.serve-requires
serve-requires g c = let n = c.in-Some.ensures.some in may_in n.heap (Realloc c.in-Some.field-0.id c.rounded_up.result c.local_options.result) (named_there n, rounded_size c.args.size c.rounded_up.result c.rounded_up.ensures c.if-size-gt0.true)

pub returns-then-size-gt0-clause-step : goal.returns-then-size-gt0-clause-step
returns-then-size-gt0-clause-step g c = resize_calls c.in-Some.ensures.some c.args.size c.args.flags.0 (sym (c.intersects.ensures tt) ∙ c.if-intersects.false) c.serve.result c.serve.new.global.handles c.serve.new.self c.if-size-gt0.true
    (subst (λ r. InSlot c.args.global.now.handles c.args.self.now c.in-Some.field-0.slot c.serve.new.global.handles c.serve.new.self (λ old at left. Served r old at c.serve.result left))
    (λ i. record { id = c.in-Some.field-0.id; size = c.rounded_up.ensures i; purpose = Resize; options = c.local_options.ensures i }) c.serve.ensures.served)

pub returns-then-not-intersects-clause-step : goal.returns-then-not-intersects-clause-step
returns-then-not-intersects-clause-step g c = discard_unasked c.in-Some.ensures.some c.args.size c.args.flags.0 (sym (c.intersects.ensures tt) ∙ c.if-intersects.false) (let none = c.if-size-gt0.false in omega (arith, none)) (sym (c.intersects-2.ensures tt) ∙ c.if-not-intersects.true)

pub returns-then-not-may_discard-clause-step : goal.returns-then-not-may_discard-clause-step
returns-then-not-may_discard-clause-step g c =
    let n = c.in-Some.ensures.some in
    discard_refused n c.args.size c.args.flags.0 (sym (c.intersects.ensures tt) ∙ c.if-intersects.false) (let none = c.if-size-gt0.false in omega (arith, none)) (sym (c.intersects-2.ensures tt) ∙ c.if-not-intersects.false) (c.may_discard.ensures n.heap.bytes n.heap.over ∙ c.if-not-may_discard.true)

pub work_on-requires : goal.work_on-requires
work_on-requires g c = let n = c.in-Some.ensures.some in may_in n.heap (Discard c.in-Some.field-0.id) (c.may_discard.ensures n.heap.bytes n.heap.over ∙ c.if-not-may_discard.false)

pub returns-clause-step : goal.returns-clause-step
returns-clause-step g c = discard_calls c.in-Some.ensures.some c.args.size c.args.flags.0 (sym (c.intersects.ensures tt) ∙ c.if-intersects.false) (let none = c.if-size-gt0.false in omega (arith, none)) (sym (c.intersects-2.ensures tt) ∙ c.if-not-intersects.false) c.work_on.ensures.acted

pub returns-in_default-clause-fewest : goal.returns-in_default-clause-fewest
returns-in_default-clause-fewest g c = λ rest is o named unmodified some. local_realloc_law _ _ c.args.name c.args.size c.args.flags.0 _ o is (returns-in_default-clause-step g c rest) named unmodified some

pub returns-then-intersects-clause-fewest : goal.returns-then-intersects-clause-fewest
returns-then-intersects-clause-fewest g c = λ rest is o named unmodified some. local_realloc_law _ _ c.args.name c.args.size c.args.flags.0 _ o is (returns-then-intersects-clause-step g c rest) named unmodified some

pub returns-then-size-gt0-clause-fewest : goal.returns-then-size-gt0-clause-fewest
returns-then-size-gt0-clause-fewest g c = λ rest is o named unmodified some. local_realloc_law _ _ c.args.name c.args.size c.args.flags.0 _ o is (returns-then-size-gt0-clause-step g c rest) named unmodified some

pub returns-then-not-intersects-clause-fewest : goal.returns-then-not-intersects-clause-fewest
returns-then-not-intersects-clause-fewest g c = λ rest is o named unmodified some. local_realloc_law _ _ c.args.name c.args.size c.args.flags.0 _ o is (returns-then-not-intersects-clause-step g c rest) named unmodified some

pub returns-then-not-may_discard-clause-fewest : goal.returns-then-not-may_discard-clause-fewest
returns-then-not-may_discard-clause-fewest g c = λ rest is o named unmodified some. local_realloc_law _ _ c.args.name c.args.size c.args.flags.0 _ o is (returns-then-not-may_discard-clause-step g c rest) named unmodified some

pub returns-clause-fewest : goal.returns-clause-fewest
returns-clause-fewest g c = λ rest is o named unmodified some. local_realloc_law _ _ c.args.name c.args.size c.args.flags.0 _ o is (returns-clause-step g c rest) named unmodified some

pub returns-then-size-gt0-clause-written : goal.returns-then-size-gt0-clause-written
returns-then-size-gt0-clause-written g c =
    let n = c.in-Some.ensures.some in
    served_in n.heap c.serve.new.global c.args.flags.0 c.args.size (λ at id. id_named (heap_of at) c.args.name ≡ Some id) Resize c.in-Some.field-0.id n.has c.if-size-gt0.true
    (subst (λ r. InSlot c.args.global.now.handles c.args.self.now c.in-Some.field-0.slot c.serve.new.global.handles c.serve.new.self (λ old at left. WritesServed r old at c.args.global.now.written left.loading.handles c.serve.new.global.written))
    (λ i. record { id = c.in-Some.field-0.id; size = c.rounded_up.ensures i; purpose = Resize; options = c.local_options.ensures i }) c.serve.ensures.written)

pub returns-clause-written : goal.returns-clause-written
returns-clause-written g c = let n = c.in-Some.ensures.some in once_lent n.heap c.work_on.new.global c.args.flags.0 c.args.size (λ at id. id_named (heap_of at) c.args.name ≡ Some id) c.work_on.ensures.acted c.work_on.ensures.lent
