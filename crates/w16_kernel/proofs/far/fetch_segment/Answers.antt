-- What is fetched is a segment of the module that owns the object.
use Rattle.w16_kernel.proofs.{Modules.seen, Refetching.fetched, Refetching.within}
use Rattle.w16_kernel.proofs.far.fetch_segment.Goals as goal

pub fetch-requires-clause-first : goal.fetch-requires-clause-first
fetch-requires-clause-first g c =
    let is = rw (← c.loading.view_is) at c.requires.loading in
    (within is _ c.slot_of.ensures.value (rw (← c.loading.view_is) at c.requires.segment) (c.in-Some.ensures.found (seen c.loading.view_is) is.0)).0

pub fetch-requires-clause-last : goal.fetch-requires-clause-last
fetch-requires-clause-last g c =
    let is = rw (← c.loading.view_is) at c.requires.loading in
    (within is _ c.slot_of.ensures.value (rw (← c.loading.view_is) at c.requires.segment) (c.in-Some.ensures.found (seen c.loading.view_is) is.0)).1

pub returns-clause-fetch : goal.returns-clause-fetch
returns-clause-fetch g c =
    let is = rw (← c.loading.view_is) at c.requires.loading in
    rw (← c.loading.view_is) (fetched is _ c.slot_of.ensures.value (rw (← c.loading.view_is) at c.requires.segment) (c.in-Some.ensures.found (seen c.loading.view_is) is.0) c.fetch.ensures.stays
    (c.fetch.ensures.given (rw (← c.loading.view_is) at c.requires.lacks)))
