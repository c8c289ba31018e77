-- Lemmas on runs and on what they print.
use Rattle.w16_script.proofs.Common as C
use Rattle.w16_script.proofs.Common.{◌≡◌, [], ◌∷◌, ◌++◌, refl, sym, Keeps, Reads, Prints, RunsLines}

-- what lines print, and then what others print
Prints-append : (a b c lines others events more output rest : _) → Prints a lines events output b → Prints b others more rest c → Prints a (lines ++ others) (events ++ more) (output ++ rest) c
Prints-append a b c [] others events more output rest p q = rw (p.0, p.1, ← p.2) q
Prints-append a b c (line ∷ lines) others events more output rest (said, first, later, front, back, reads, prints, is_events, is_output, p) q = (
  said,
  first,
  later ++ more,
  front,
  back ++ rest,
  reads,
  prints,
  rw (is_events, C.append_assoc),
  rw (is_output, C.append_assoc),
  Prints-append (C.stored_all a (C.target_of said) first) b c lines others later more back rest p q,
)

-- one line
pub Prints-one : {registers output new : _} (line said events : _) → Reads registers line said → C.PrintsLine said events output
    → new ≡ C.stored_all registers (C.target_of said) events → Prints registers (line ∷ []) events output new
Prints-one {output} line said events reads prints is = (said, events, [], output, [], reads, prints, sym (C.append-nil events), sym (C.append-nil output), (refl, refl, is))

-- no line
pub RunsLines-none : {steps a v : _} → RunsLines steps a v [] a v
RunsLines-none {a} {v} = record { events = []; output = []; run = refl; prints = (refl, refl, refl); appends = C.Appends-nil a; promises = C.promised_none v.world }

-- lines, and then others
pub RunsLines-append : {steps a b c v w x lines others : _} → RunsLines steps a v lines b w → RunsLines steps b w others c x → RunsLines steps a v (lines ++ others) c x
RunsLines-append {v} {w} {x} {lines} {others} p q = record {
  events = p.events ++ q.events;
  output = p.output ++ q.output;
  run = C.run_append _ v.world w.world x.world p.events q.events p.run q.run;
  prints = Prints-append v.registers w.registers x.registers lines others p.events q.events p.output q.output p.prints q.prints;
  appends = C.Appends-trans _ _ _ _ _ p.appends q.appends;
  promises = C.promised_append _ v.world w.world p.events q.events p.run p.promises q.promises;
}

-- what was written stays
pub RunsLines-kept : {steps a b c v w lines : _} → RunsLines steps a v lines b w → Keeps b c → RunsLines steps a v lines c w
RunsLines-kept p q = record { events = p.events; output = p.output; run = p.run; prints = p.prints; appends = C.Appends-kept _ _ _ _ p.appends q; promises = p.promises }
