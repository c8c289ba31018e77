-- An access is made once, or is ended by what it met, or is made again after a fetch.
use Rattle.w16_kernel.proofs.{Lent.found, Lent.found_again, Lent.not_again, Lent.not_found, Lent.not_there}
use Rattle.w16_kernel.proofs.far.find.Goals as goal

pub fetch_absent-requires-clause-absent : goal.fetch_absent-requires-clause-absent
fetch_absent-requires-clause-absent g c = rw c.selector_in.ensures (not_there _ _ c.in-Err.ensures.kept c.args.write c.args.pointer c.args.count c.in-Err.ensures.once)

pub returns-in-Ok-clause-found : goal.returns-in-Ok-clause-found
returns-in-Ok-clause-found g c = found _ _ _ c.parts.view_is c.requires c.args.write c.args.pointer c.args.count c.in-Ok.place _ c.find_once.ensures.rest c.in-Ok.ensures.once

pub returns-in-Err-fetch_absent-clause-found : goal.returns-in-Err-fetch_absent-clause-found
returns-in-Err-fetch_absent-clause-found g c =
    not_found _ _ _ c.parts.view_is c.requires c.args.write c.args.pointer c.args.count c.in-Err.fault c.in-Err.ensures.once _ c.selector_in.ensures
    _ c.in-Err.ensures.kept _ _ c.in-Err-fetch_absent.ensures.fetches

pub returns-in-Ok-again-clause-found : goal.returns-in-Ok-again-clause-found
returns-in-Ok-again-clause-found g c =
    rw c.sweep_all.ensures
    (found_again _ _ _ c.parts.view_is c.requires c.args.write c.args.pointer c.args.count c.in-Err.fault c.in-Err.ensures.once _ c.selector_in.ensures _
    c.in-Err.ensures.kept _ c.in_default.ensures.fetches _ _ c.find_once-again.ensures.rest c.in-Ok-again.ensures.once)

pub returns-in-Err-again-clause-found : goal.returns-in-Err-again-clause-found
returns-in-Err-again-clause-found g c =
    rw c.sweep_all.ensures
    (not_again _ _ _ c.parts.view_is c.requires c.args.write c.args.pointer c.args.count c.in-Err.fault c.in-Err.ensures.once _ c.selector_in.ensures _
    c.in-Err.ensures.kept _ c.in_default.ensures.fetches _ c.in-Err-again.ensures.kept c.in-Err-again.fault c.in-Err-again.ensures.once)
