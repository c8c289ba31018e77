use Rattle.std.proofs.Common.{sym}
use Rattle.w16_show.proofs.json_file.show_json.Goals as goal

pub returns-clause-text : goal.returns-clause-text
returns-clause-text g c = rw (← (c.in_ok-tables.ensures.parts c.args.file.now c.in_ok-store.ensures), c.in-Err.is) (c.show_fault.ensures.text c.args.file.now)

pub returns-in-Ok : goal.returns-in-Ok
returns-in-Ok g c =
    let has = c.in_ok-store.ensures in
    let parts = c.in_ok-tables.ensures.parts c.args.file.now has in
    let tables = rw c.in-Ok.is at (c.in_ok-tables.ensures.tables c.args.file.now has) in
    record {
      text = rw (← parts, c.in-Ok.is) (c.show_module.ensures.text (record { stored = rw c.in_ok-tables.ensures.same has; accepted = sym tables }));
      verdict = rw (← parts, c.in-Ok.is) (c.show_module.ensures.verdict (record { stored = rw c.in_ok-tables.ensures.same has; accepted = sym tables }));
    }
