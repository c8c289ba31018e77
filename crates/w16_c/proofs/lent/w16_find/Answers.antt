use Rattle.std.proofs.Common.{ap, length, refl, sym, ◌∙◌}
use Rattle.w16_c.proofs.Loans.{fault_is, lent, unlent}
use Rattle.w16_c.proofs.lent.w16_find.Goals as goal

pub written-requires : goal.written-requires
written-requires c = fault_is _ c.in-Err.ensures.fault

pub returns-in-Ok : goal.returns-in-Ok
returns-in-Ok c =
    lent (sym c.in-Some.ensures.some) c.put_back.ensures.held c.in-Some.ensures.same c.put_back.ensures.same (rw c.deref.ensures at c.reveal_world.ensures) c.args.write c.in-Ok.place (c.of.ensures ∙ ap length (rw c.deref-in-Ok.ensures at c.bytes.ensures))
    (rw c.deref_mut.ensures.value at c.in-Ok.ensures.found)

pub returns-in-Err : goal.returns-in-Err
returns-in-Err c =
    unlent (sym c.in-Some.ensures.some) c.put_back-in-Err.ensures.held c.in-Some.ensures.same c.put_back-in-Err.ensures.same (rw c.deref.ensures at c.reveal_world.ensures) c.args.write _ c.in-Err.reply refl c.in-Err.ensures.fault c.written.ensures
    (rw c.deref_mut.ensures.value at c.in-Err.ensures.found)
