use Rattle.std.proofs.Common.{sym, ◌∙◌}
use Rattle.w16_c.proofs.Loans.{fault_is, read, unread}
use Rattle.w16_c.proofs.far.w16_read.Goals as goal

pub written-requires : goal.written-requires
written-requires c = fault_is _ c.in-Err.ensures.fault

pub returns-in-Ok-clause-read : goal.returns-in-Ok-clause-read
returns-in-Ok-clause-read c =
    read (sym c.in-Some.ensures.some) c.put_back.ensures.held c.in-Some.ensures.same c.put_back.ensures.same (rw c.deref.ensures at c.reveal_world.ensures) c.in-Ok.place
    (c.copy_from_slice.ensures.after ∙ (rw c.deref-in-Ok.ensures at c.bytes.ensures)) (rw c.deref_mut.ensures.value at c.in-Ok.ensures.found)

pub returns-in-Err-clause-read : goal.returns-in-Err-clause-read
returns-in-Err-clause-read c =
    unread (sym c.in-Some.ensures.some) c.put_back-in-Err.ensures.held c.in-Some.ensures.same c.put_back-in-Err.ensures.same (rw c.deref.ensures at c.reveal_world.ensures) _ c.in-Err.reply c.in-Err.ensures.fault c.written.ensures
    (rw c.deref_mut.ensures.value at c.in-Err.ensures.found)
