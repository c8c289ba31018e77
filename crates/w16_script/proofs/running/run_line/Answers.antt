use Rattle.w16_script.proofs.Common.{[], ◌∷◌, refl, Appends-nil, Keeps-refl, Event, command_of, reply_of, Said, error_text, promised_none}
use Rattle.w16_script.proofs.RunLemmas.{Prints-one}
use Rattle.w16_script.proofs.running.run_line.Goals as goal

pub returns-in-Silent-clause-ok : goal.returns-in-Silent-clause-ok
returns-in-Silent-clause-ok g c = record {
  events = [];
  output = [];
  run = refl;
  prints = Prints-one c.args.line.now Said.Silent [] c.in-Silent.ensures.reads refl refl;
  appends = Appends-nil _;
  promises = promised_none (g.K.Machine.world c.args.kernel.now);
}

pub returns-in-Ok-clause-ok : goal.returns-in-Ok-clause-ok
returns-in-Ok-clause-ok g c = record {
  events = [];
  output = error_text;
  run = refl;
  prints = Prints-one c.args.line.now Said.Bad [] c.in-Bad.ensures.reads refl refl;
  appends = c.in-Ok.ensures.ok;
  promises = promised_none (g.K.Machine.world c.args.kernel.now);
}

pub returns-in-Err-clause-err : goal.returns-in-Err-clause-err
returns-in-Err-clause-err g c =
    ([], error_text, refl, Prints-one c.args.line.now Said.Bad [] c.in-Bad.ensures.reads refl refl, c.in-Err.ensures.err, promised_none (g.K.Machine.world c.args.kernel.now))

pub returns-in-Ok-print_shown-clause-ok : goal.returns-in-Ok-print_shown-clause-ok
returns-in-Ok-print_shown-clause-ok g c =
    let command = command_of c.in-Command.call in
    let event : Event = record { command = command; reply = reply_of c.in-Ok-call.reply; after = g.K.Machine.world c.call.new.self } in
    let (text, shows, appends) = c.in-Ok-print_shown.ensures.ok in
    record {
      events = event ∷ [];
      output = text;
      run = (c.in-Ok-call.ensures.step, refl {a = g.K.Machine.world c.call.new.self});
      prints = Prints-one c.args.line.now (Said.Says c.in-Command.target command) (event ∷ []) c.in-Command.ensures.reads (refl, shows) c.store.ensures;
      appends = appends;
      promises = c.in-Ok-call.ensures.promises;
    }

pub returns-in-Err-print_shown-clause-err : goal.returns-in-Err-print_shown-clause-err
returns-in-Err-print_shown-clause-err g c =
    let command = command_of c.in-Command.call in
    let event : Event = record { command = command; reply = reply_of c.in-Ok-call.reply; after = g.K.Machine.world c.call.new.self } in
    let (text, shows, front) = c.in-Err-print_shown.ensures.err in (
      event ∷ [],
      text,
      (c.in-Ok-call.ensures.step, refl {a = g.K.Machine.world c.call.new.self}),
      Prints-one c.args.line.now (Said.Says c.in-Command.target command) (event ∷ []) c.in-Command.ensures.reads (refl, shows) c.store.ensures,
      front,
      c.in-Ok-call.ensures.promises,
    )

pub returns-in-Err-call-clause-err : goal.returns-in-Err-call-clause-err
returns-in-Err-call-clause-err g c =
    (c.in-Command.target, command_of c.in-Command.call, c.in-Command.ensures.reads, c.in-Err-call.ensures.wanted, c.in-Err-call.ensures.refused, refl, Keeps-refl (g.W.Write.contents c.args.writer.now))
