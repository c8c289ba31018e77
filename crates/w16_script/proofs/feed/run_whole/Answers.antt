use Rattle.w16_script.proofs.Common.{◌+◌, ap, ◌∙◌, if◌then◌else◌}
use Rattle.w16_script.proofs.FeedLemmas.{Feeds-whole}
use Rattle.w16_script.proofs.feed.run_whole.Goals as goal

pub returns-clause-ok : goal.returns-clause-ok
returns-clause-ok g c =
    let counted = c.count_line.ensures.progress in
    rw c.count_line.ensures.registers (Feeds-whole c.args.line.now c.requires.nothing c.requires.one_line c.requires.short c.without_cr-text.ensures c.in_ok-replied.ensures.ok
    (ap (λ p. p.line) counted ∙ c.requires.nothing) (ap (λ p. p.lines) counted)
    (ap (λ p. p.replies) counted ∙ ap (λ b. c.args.state.now.replies + (if b then 1 else 0)) c.in_ok-replied.ensures.replied))
