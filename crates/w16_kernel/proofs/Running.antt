-- Runs, one step longer.
use Rattle.w16_kernel.proofs
use Rattle.w16_kernel.proofs.Common as C
use proofs.Common.{World, ◌≡◌, ℕ, inl, inr, List, [], ◌∷◌, ◌++◌, map, take, refl, sym, ap, ◌∙◌, map_push, Event, Steps, Run, Promises, Call, Answer, command_of, answer_of, arith, ◌≤◌}

-- the calls done so far, and their replies, are a run
pub record Ran (steps : Steps) (old : World) (calls : List Call) (kept : List Answer) (now : World) : Type 0 where
  pub events : List Event
  pub run : Run steps old events now
  pub commands : map (λ (e : Event). e.command) events ≡ map command_of calls
  pub answers : map (λ (e : Event). e.reply) events ≡ map answer_of kept
  pub promises : Promises old events

-- none is done so far
pub ran_none : (steps : Steps) (old : World) (kept : List Answer) → kept ≡ [] → Ran steps old [] kept old
ran_none steps old kept none = record { events = []; run = refl; commands = refl; answers = ap (map answer_of) (sym none); promises = C.promised_none old }

-- a call, its answer, and the world after it
abbrev pub event_of : Call → Answer → World → Event
event_of call answer new = record { command = command_of call; reply = answer_of answer; after = new }

-- a step more
pub ran_more : (steps : Steps) (old : World) (calls : List Call) (kept : List Answer) (now : World) (call : Call) (answer : Answer) (new : World)
    → Ran steps old calls kept now → steps now (command_of call) (answer_of answer) new
    → Promises now (event_of call answer new ∷ []) → Ran steps old (calls ++ call ∷ []) (kept ++ answer ∷ []) new
ran_more steps old calls kept now call answer new ran step promises =
    let last : Event = event_of call answer new in
    record {
      events = ran.events ++ last ∷ [];
      run = C.run_append _ _ _ _ _ _ ran.run (step, refl);
      commands = map_push (λ (e : Event). e.command) ran.events last ∙ ap (λ cs. cs ++ command_of call ∷ []) ran.commands ∙ sym (map_push command_of calls call);
      answers = map_push (λ (e : Event). e.reply) ran.events last ∙ ap (λ rs. rs ++ answer_of answer ∷ []) ran.answers ∙ sym (map_push answer_of kept answer);
      promises = C.promised_append _ _ _ _ _ ran.run ran.promises promises;
    }

-- all calls are done
pub ran_all : (steps : Steps) (old : World) (calls : List Call) (i : ℕ) (kept : List Answer) (now : World) → C.length calls ≤ i → Ran steps old (take i calls) kept now
    → (events : List Event) × Run steps old events now × (map (λ (e : Event). e.command) events ≡ map command_of calls)
    × (map (λ (e : Event). e.reply) events ≡ map answer_of kept) × Promises old events
ran_all steps old calls i kept now whole ran = (ran.events, ran.run, ran.commands ∙ ap (map command_of) (C.take_all i calls whole), ran.answers, ran.promises)

-- the next call wants memory, and there is none
pub ran_stops : (steps : Steps) (old : World) (calls : List Call) (i : ℕ) (kept : List Answer) (now new : World) → Ran steps old (take i calls) kept now
    → C.IsSomeAnd (C.slice_get calls i) (λ call. C.TakesMemory now (command_of call)) → C.IsSame now new
    → C.StopsEarly steps old calls new
ran_stops steps old calls i kept now new ran wanted same = record {
  done = i;
  events = ran.events;
  last = now;
  run = ran.run;
  commands = ran.commands;
  promises = ran.promises;
  wanted = inr wanted;
  same = same;
}

-- nothing was done
pub none_done : (steps : Steps) (old : World) (calls : List Call) → C.StopsEarly steps old calls old
none_done steps old calls = record {
  done = 0;
  events = [];
  last = old;
  run = refl;
  commands = refl;
  promises = C.promised_none old;
  wanted = inl refl;
  same = record { counted = omega arith; same = refl };
}
