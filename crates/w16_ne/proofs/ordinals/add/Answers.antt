use Rattle.w16_ne.proofs.Common.{sym, ◌∙◌}
use Rattle.w16_ne.proofs.FoundNames.{finds_new, finds_old}
use Rattle.w16_ne.proofs.ordinals.add.Goals as goal

pub returns-then-contains_key-clause-ok : goal.returns-then-contains_key-clause-ok
returns-then-contains_key-clause-ok g c = λ names name up finds. finds_old c.args.ordinals.now names finds (name, c.args.ordinal) c.args.text.now up (sym c.contains_key.ensures ∙ c.if-contains_key.true)

pub returns-clause-ok : goal.returns-clause-ok
returns-clause-ok g c = λ names name up finds.
    finds_new c.args.ordinals.now names finds (name, c.args.ordinal) c.args.text.now up (sym c.contains_key.ensures ∙ c.if-contains_key.false)
    c.insert.new.self c.in_ok-key.key c.in_ok-key.ensures.items c.in_ok-insert.ensures.entries
