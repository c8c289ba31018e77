-- What is fetched is the object that the access asked for.
use Rattle.w16_kernel.proofs.Common.{ap, ◌∙◌, ◌≡◌, ◌/◌, is_owned, offset_in, true, rules}
use Rattle.w16_kernel.proofs.Refetching.{lacking, refetched, unfetched}
use Rattle.w16_kernel.proofs.far.fetch_selected.Goals as goal

pub fetch_owned-requires-clause-lacks : goal.fetch_owned-requires-clause-lacks
fetch_owned-requires-clause-lacks g c =
    let owned : is_owned c.loading.inside.global.handles (c.offset_in-handle.result / 8) ≡ true = search rules in
    let named = c.offset_in-handle.ensures ∙ ap offset_in c.global_handle.ensures in
    rw (← c.loading.view_is) (lacking (rw (← c.loading.view_is) at c.requires.loading) (rw (← c.loading.view_is) at c.requires.absent) c.ranges.selector.fits named owned)

pub returns-in-Ok-clause-fetches : goal.returns-in-Ok-clause-fetches
returns-in-Ok-clause-fetches g c =
    let owned : is_owned c.loading.inside.global.handles (c.offset_in-handle.result / 8) ≡ true = search rules in
    let named = c.offset_in-handle.ensures ∙ ap offset_in c.global_handle.ensures in
    rw (← c.loading.view_is) (refetched (rw (← c.loading.view_is) at c.requires.loading) (rw (← c.loading.view_is) at c.requires.absent) c.ranges.selector.fits named owned
    (rw (← c.loading.view_is) at c.in-Ok.ensures.fetch))

pub returns-in-Err-clause-fetches : goal.returns-in-Err-clause-fetches
returns-in-Err-clause-fetches g c =
    let owned : is_owned c.loading.inside.global.handles (c.offset_in-handle.result / 8) ≡ true = search rules in
    let named = c.offset_in-handle.ensures ∙ ap offset_in c.global_handle.ensures in
    rw (← c.loading.view_is) (unfetched (rw (← c.loading.view_is) at c.requires.loading) (rw (← c.loading.view_is) at c.requires.absent) c.ranges.selector.fits named owned
    c.in-Err.failed (rw (← c.loading.view_is) at c.in-Err.ensures.fetch) (rw (← c.loading.view_is) at c.in-Err.ensures.refused))
