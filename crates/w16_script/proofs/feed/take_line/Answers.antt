use Rattle.w16_script.proofs.Common.{err_from_is_err_and, ◌<◌, [], ◌∷◌, ap, arith, length-append, refl, sym, ◌∙◌, IfErr-weaker, state_with, ended}
use Rattle.w16_script.proofs.FeedLemmas.{Stops-overflow, Stops-full, Stops-line, Stops-whole}
use Rattle.w16_script.proofs.feed.take_line.Goals as goal

pub returns-in_err-hold-clause-err : goal.returns-in_err-hold-clause-err
returns-in_err-hold-clause-err g c =
    let p = err_from_is_err_and c.from_residual.result c.from_residual.ensures.1 in
    rw (p.1, p.2) (Stops-overflow _ c.requires.one_line (ap (state_with (g.K.Machine.world c.args.kernel.now)) c.hold.ensures.registers) c.in_err-hold.ensures.err.0 c.in_err-hold.ensures.err.1)

pub returns-then-is_full-clause-err : goal.returns-then-is_full-clause-err
returns-then-is_full-clause-err g c = Stops-full (ended c.args.line.now) (omega (arith, length-append c.args.line.now (10 ∷ []))) refl c.requires.fits (c.is_full.ensures.full c.if-is_full.true)

pub returns-clause-err : goal.returns-clause-err
returns-clause-err g c =
    IfErr-weaker c.end_line.result _ _
    (λ fault fails. Stops-line c.args.line.now c.requires.one_line c.in_ok-hold.ensures.ok
    (ap (state_with (g.K.Machine.world c.args.kernel.now)) c.hold.ensures.registers) c.in_ok-hold.ensures.within (λ full. c.is_full.ensures.more c.if-is_full.false (sym (ap (λ p. p.lines) c.in_ok-hold.ensures.ok) ∙ full)) fails)
    c.end_line.ensures.err

pub returns-then-takes_whole-clause-err : goal.returns-then-takes_whole-clause-err
returns-then-takes_whole-clause-err g c =
    let (nothing, short) = c.takes_whole.ensures c.if-takes_whole.true in
    let few : c.args.state.now.lines < 1000000 = let more = c.is_full.ensures.more c.if-is_full.false in let most = c.requires.fits.lines in omega (arith, more, most) in
    IfErr-weaker c.run_whole.result _ _ (λ fault fails. Stops-whole c.args.line.now nothing c.requires.one_line short c.requires.fits few fails) c.run_whole.ensures.err
