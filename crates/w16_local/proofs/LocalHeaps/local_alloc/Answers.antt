use Rattle.w16_local.proofs
use proofs.Common as C
use proofs.Calling as M
use proofs.Common.{Ok, Some, arith, subst, sym, ◌≡◌, ◌∙◌, None, Kind, Heap, Table, IsLowest, Alloc, Enter, local_alloc_law}
use proofs.{Acting.may_in, Acting.served_in, Stepping.holds_in}
use Rattle.w16_local.specs.{Growth.InSlot, Growth.Served, Growth.WritesServed}
use Rattle.w16_local.specs.declared.growth.Purpose.TheVariants.{New}
use Rattle.w16_local.proofs.LocalHeaps.local_alloc.Goals as goal

pub returns-in_default-clause-step : goal.returns-in_default-clause-step
returns-in_default-clause-step g c = M.alloc_none c.args.global.now.handles c.args.self.now c.args.ds c.args.flags.0 c.args.size c.in_default.ensures.none

pub returns-in_default-free_entry-clause-step : goal.returns-in_default-free_entry-clause-step
returns-in_default-free_entry-clause-step g c = let is = c.in-Some.ensures.some in M.alloc_full is c.args.flags.0 c.args.size (holds_in C.IsFull is.kept c.in_default-free_entry.ensures.none)

pub returns-then-not-intersects-clause-step : goal.returns-then-not-intersects-clause-step
returns-then-not-intersects-clause-step g c = M.alloc_empty c.in-Some.ensures.some c.args.flags.0 c.args.size c.if-size-eq0.true (sym (c.intersects.ensures tt) ∙ c.if-not-intersects.true)

pub step-requires : goal.step-requires
step-requires g c =
    let is = c.in-Some.ensures.some in
    let lowest = holds_in (λ t. IsLowest t c.in-Some-free_entry.id) is.kept c.in-Some-free_entry.ensures.found in
    subst (λ m. C.IsSomeAnd m (C.MayStep (Enter c.moveable_or_discardable.result) c.in-Some-free_entry.id)) (sym is.kept) (lowest.known, lowest.free)

pub overflow_cast-result : goal.overflow_cast-result
overflow_cast-result g c = let is = c.in-Some.ensures.some in let lowest = holds_in (λ t. IsLowest t c.in-Some-free_entry.id) is.kept c.in-Some-free_entry.ensures.found in let lt = lowest.known in omega (arith, lt)

pub returns-then-size-eq0-clause-step : goal.returns-then-size-eq0-clause-step
returns-then-size-eq0-clause-step g c =
    let is = c.in-Some.ensures.some in
    let lowest = holds_in (λ t. IsLowest t c.in-Some-free_entry.id) is.kept c.in-Some-free_entry.ensures.found in
    M.enter_calls is c.args.flags.0 c.args.size c.in-Some-free_entry.id lowest c.if-size-eq0.true (sym (c.intersects.ensures tt) ∙ c.if-not-intersects.false) c.step.result c.step.new.self
    (subst (λ k. C.Stepped c.args.self.now c.in-Some.field-0.slot
    (λ a b. ◌≡◌ {A = C.Result Heap C.Refusal} (Ok (C.with_object a c.in-Some-free_entry.id
    (record { kind = k; locks = 0; bytes = None }))) (C.outcome c.step.result b)) c.step.new.self)
    c.moveable_or_discardable.ensures c.step.ensures.stepped)

pub serve-requires : goal.serve-requires
serve-requires g c =
    let is = c.in-Some.ensures.some in
    let lowest = holds_in (λ t. IsLowest t c.in-Some-free_entry.id) is.kept c.in-Some-free_entry.ensures.found in
    may_in is (Alloc c.in-Some-free_entry.id c.rounded_up.result c.local_kind.result c.local_options.result)
    ((lowest.known, M.no_object is c.in-Some-free_entry.id lowest.free), M.rounded_size c.args.size c.rounded_up.result c.rounded_up.ensures (let some = c.if-size-eq0.false in omega (arith, some)))

pub returns-clause-step : goal.returns-clause-step
returns-clause-step g c =
    let is = c.in-Some.ensures.some in
    let lowest = holds_in (λ t. IsLowest t c.in-Some-free_entry.id) is.kept c.in-Some-free_entry.ensures.found in
    M.alloc_calls is c.args.flags.0 c.args.size c.in-Some-free_entry.id lowest
    (let some = c.if-size-eq0.false in omega (arith, some))
    (subst (λ r. InSlot c.args.global.now.handles c.args.self.now c.in-Some.field-0.slot
    c.serve.new.global.handles c.serve.new.self (λ old at left. Served r old at c.serve.result left))
    (λ i. record { id = c.in-Some-free_entry.id; size = c.rounded_up.ensures i; purpose = New (c.local_kind.ensures i); options = c.local_options.ensures i }) c.serve.ensures.served)

pub returns-in_default-clause-fewest : goal.returns-in_default-clause-fewest
returns-in_default-clause-fewest g c = λ rest is at current. local_alloc_law _ _ c.args.flags.0 c.args.size _ at is (returns-in_default-clause-step g c rest) current

pub returns-in_default-free_entry-clause-fewest : goal.returns-in_default-free_entry-clause-fewest
returns-in_default-free_entry-clause-fewest g c = λ rest is at current. local_alloc_law _ _ c.args.flags.0 c.args.size _ at is (returns-in_default-free_entry-clause-step g c rest) current

pub returns-then-not-intersects-clause-fewest : goal.returns-then-not-intersects-clause-fewest
returns-then-not-intersects-clause-fewest g c = λ rest is at current. local_alloc_law _ _ c.args.flags.0 c.args.size _ at is (returns-then-not-intersects-clause-step g c rest) current

pub returns-then-size-eq0-clause-fewest : goal.returns-then-size-eq0-clause-fewest
returns-then-size-eq0-clause-fewest g c = λ rest is at current. local_alloc_law _ _ c.args.flags.0 c.args.size _ at is (returns-then-size-eq0-clause-step g c rest) current

pub returns-clause-fewest : goal.returns-clause-fewest
returns-clause-fewest g c = λ rest is at current. local_alloc_law _ _ c.args.flags.0 c.args.size _ at is (returns-clause-step g c rest) current

pub returns-clause-written : goal.returns-clause-written
returns-clause-written g c =
    let is = c.in-Some.ensures.some in
    let lowest = holds_in (λ t. IsLowest t c.in-Some-free_entry.id) is.kept c.in-Some-free_entry.ensures.found in
    let some = c.if-size-eq0.false in
    served_in is c.serve.new.global c.args.flags.0 c.args.size (λ at id. C.IsLowestFree (C.heap_of at) id) (New (C.local_kind c.args.flags.0)) c.in-Some-free_entry.id (M.is_lowest is c.args.flags.0 c.args.size c.in-Some-free_entry.id lowest) (omega (arith, some))
    (subst (λ r. InSlot c.args.global.now.handles c.args.self.now c.in-Some.field-0.slot
    c.serve.new.global.handles c.serve.new.self (λ old at left. WritesServed r old at c.args.global.now.written left.loading.handles c.serve.new.global.written))
    (λ i. record { id = c.in-Some-free_entry.id; size = c.rounded_up.ensures i; purpose = New (c.local_kind.ensures i); options = c.local_options.ensures i }) c.serve.ensures.written)
