use Rattle.w16_script.proofs
use proofs.Common as C
use proofs.Common.{[], ◌++◌, take, arith, ap}
use proofs.FeedLemmas.{Feeds-held, Feeds-kept, Feeds-trans}
use proofs.WholeLemmas.{fresh-fits, Script-from, FailsLater-piece, FailsLater-last, Consumes-none}
use Rattle.w16_script.proofs.script.run_over.Goals as goal

pub returns-in_err-feed-clause-err : goal.returns-in_err-feed-clause-err
returns-in_err-feed-clause-err g c =
    let (text, consumed, feeds) = c.pieces.invariant.fed in
    let p = C.err_from_is_err_and c.from_residual.result c.from_residual.ensures.1 in
    rw (p.1, p.2) (
      text ++ take c.in-Ok.count c.read_some.new.buffer,
      C.Consumes-trans _ _ _ _ _ consumed c.in-Ok.ensures.ok,
      FailsLater-piece _ _ _ _ _ _ _ _ _ _ text _ _ (Feeds-kept feeds c.flush_writer.ensures) c.pieces.invariant.fits (omega (arith, c.pieces.invariant.size, c.read_some.auto.buffer, C.length-take c.in-Ok.count c.read_some.new.buffer))
          c.in_err-feed.ensures.err,
    )

pub pieces-init : goal.pieces-init
pieces-init g c = record {
  fed = ([], C.Consumes-nil _, Feeds-held tt c.new-state.ensures.progress (ap (C.state_with (g.K.Machine.world c.args.kernel.now)) c.new-state.ensures.registers));
  fits = rw c.new-state.ensures.progress fresh-fits;
  size = c.requires;
}

pub pieces-preserved : goal.pieces-preserved
pieces-preserved g c =
    let (text, consumed, feeds) = c.pieces.invariant.fed in
    record {
      fed = (text ++ take c.in-Ok.count c.read_some.new.buffer, C.Consumes-trans _ _ _ _ _ consumed c.in-Ok.ensures.ok, Feeds-trans (Feeds-kept feeds c.flush_writer.ensures) c.in_ok-feed.ensures.ok);
      fits = c.in_ok-feed.ensures.within;
      size = omega (arith, c.pieces.invariant.size, c.read_some.auto.buffer);
    }

pub returns-then-count-eq0-clause-ok : goal.returns-then-count-eq0-clause-ok
returns-then-count-eq0-clause-ok g c =
    let (text, consumed, feeds) = c.pieces.invariant.fed in
    C.IfOk-weaker c.finish.result _ _
    (λ counts finishes. (
      text,
      Consumes-none _ _ _ _ _ _ c.if-count-eq0.true consumed c.in-Ok.ensures.ok,
      c.in-Ok.ensures.end c.if-count-eq0.true,
      Script-from (Feeds-kept feeds c.flush_writer.ensures) c.pieces.invariant.fits finishes,
    ))
    c.finish.ensures.ok

pub returns-then-count-eq0-clause-err : goal.returns-then-count-eq0-clause-err
returns-then-count-eq0-clause-err g c =
    let (text, consumed, feeds) = c.pieces.invariant.fed in
    C.IfErr-weaker c.finish.result _ _
    (λ fault (filled, fails). (
      text,
      Consumes-none _ _ _ _ _ _ c.if-count-eq0.true consumed c.in-Ok.ensures.ok,
      FailsLater-last _ _ _ _ _ _ _ _ _ _ text fault (c.in-Ok.ensures.end c.if-count-eq0.true) (Feeds-kept feeds c.flush_writer.ensures) c.pieces.invariant.fits filled fails,
    ))
    c.finish.ensures.err
