use Rattle.w16_script.proofs.Common.{◌≡◌, ◌+◌, ap, ◌∙◌, if◌then◌else◌, strip_last, without_cr}
use Rattle.w16_script.proofs.FeedLemmas.{Feeds-ends}
use Rattle.w16_script.proofs.feed.end_line.Goals as goal

pub returns-clause-ok : goal.returns-clause-ok
returns-clause-ok g c =
    let same : c.without_cr-line.result.now ≡ without_cr c.args.state.now.line.items = c.without_cr-line.ensures ∙ ap (strip_last 13) c.as_slice.ensures.value in
    let counted = c.count_line.ensures.progress in
    rw c.count_line.ensures.registers (Feeds-ends same c.in_ok-replied.ensures.ok c.requires.fits.short (ap (λ p. p.line) counted ∙ c.clear.ensures) (ap (λ p. p.lines) counted)
    (ap (λ p. p.replies) counted ∙ ap (λ b. c.args.state.now.replies + (if b then 1 else 0)) c.in_ok-replied.ensures.replied))
