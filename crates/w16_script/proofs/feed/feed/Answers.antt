use Rattle.w16_script.proofs
use proofs.Common as C
use proofs.Common.{◌++◌, [], sym, ap, ◌∙◌, arith, refl, ended}
use proofs.FeedLemmas.{Feeds-trans, Feeds-held, Stops-overflow, Stops-later}
use Rattle.w16_script.proofs.feed.feed.Goals as goal

pub returns-in_err-take_line-clause-err : goal.returns-in_err-take_line-clause-err
returns-in_err-take_line-clause-err g c =
    let (done, whole, feeds, room) = c.lines.invariant.fed in
    let p = C.err_from_is_err_and c.from_residual.result c.from_residual.ensures.1 in
    rw (p.1, p.2) (Stops-later c.in-Some.behind.now
    (whole ∙ ap (λ l. done ++ l) c.in-Some.ensures.some) feeds c.in_err-take_line.ensures.err)

pub lines-preserved : goal.lines-preserved
lines-preserved g c =
    let (done, whole, feeds, room) = c.lines.invariant.fed in
    let line = ended c.in-Some.line.now in
    record {
      fed = (
        done ++ line,
        whole ∙ ap (λ l. done ++ l) c.in-Some.ensures.some ∙ sym (C.append_assoc done line c.in-Some.behind.now),
        Feeds-trans feeds c.in_ok-take_line.ensures.ok,
        omega (arith, room, c.in_ok-take_line.ensures.room, C.length-append done line),
      );
      fits = c.in_ok-take_line.ensures.within;
    }

pub returns-clause-err : goal.returns-clause-err
returns-clause-err g c =
    let (done, whole, feeds, room) = c.lines.invariant.fed in
    C.IfErr-weaker c.hold.result _ _
    (λ fault over. Stops-later []
    (whole ∙ simp C.append-nil) feeds
    (Stops-overflow [] c.in_default.ensures.none (ap (C.state_with (g.K.Machine.world c.lines.kernel)) c.hold.ensures.registers) over.0 over.1))
    c.hold.ensures.err

pub lines-init : goal.lines-init
lines-init g c =
    record { fed = ([], refl, Feeds-held tt (simp C.append-nil) refl, omega arith); fits = c.requires }
