use Rattle.w16_show.proofs.json_segments.send_imports.Goals as goal

pub returns-clause-value : goal.returns-clause-value
returns-clause-value g c = λ is. rw (c.in_ok-imports.ensures.imports c.args.file.now is) at c.send_targets.ensures
