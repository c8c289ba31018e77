-- What every run promises: of no step, of one, and of runs that go on.
use Rattle.std.proofs.Common.{List, [], ◌∷◌, ◌++◌, refl}
use Rattle.std.specs.List.{AllByRecursion as Each}
use Rattle.w16_machine.proofs.{Common.Format, Common.Reply, Common.World, Common.IsWorld, Common.Each-from_All, Apart.apart_law, Bystanders.step_spares_law, Discards.step_fewest, Runs.each_append, Worlds.world_law}
use Rattle.w16_machine.specs.Machine.{Event, Run, Step, Steps}
use Rattle.w16_loading.specs.Families.{AnyCommand}
use Rattle.w16_machine.specs.Law.{EachStep}
use Rattle.w16_loading.specs.Law.{IsCommand}
use Rattle.w16_writes.specs.{LastWrite.AllKeepWritten, LastWrite.KeepsWritten, Promises.Promises, Promises.RunPromisesLaw}
use Rattle.w16_writes.proofs.{Runs.reads_back_law, Steps.step_law}

pub promised_none : (old : World) → Promises old []
promised_none old = record { ranged = tt; worlds = tt; apart = tt; bytes = tt; addresses = tt; ds = tt; fewest = tt; written = tt; reads_back = reads_back_law old [] tt }

-- a step of a world is a run that promises this
pub promised_step : (honest : Type 0) (format : Format) (old new : World) (command : AnyCommand) (reply : Reply) → IsWorld old → IsCommand command → Step honest format old command reply new
    → Promises old (record { command = command; reply = reply; after = new } ∷ [])
promised_step honest format old new command reply is known step =
    let event : Event = record { command = command; reply = reply; after = new } in
    let next : IsWorld new = world_law honest format old new command reply is known step in
    let spares = step_spares_law honest format old new command reply is step in
    let written : AllKeepWritten old (event ∷ []) = (step_law honest format old new command reply is known step, tt) in
    record {
      ranged = (known, tt);
      worlds = ((is, next), tt);
      apart = ((apart_law old is, apart_law new next), tt);
      bytes = (spares.bytes, tt);
      addresses = (spares.addresses, tt);
      ds = (spares.ds, tt);
      fewest = (step_fewest honest format old event is step, tt);
      written = written;
      reads_back = reads_back_law old _ written;
    }

-- one run, and then another
module _ (steps : Steps) (old mid : World) (events more : List Event) (run : Run steps old events mid) where
  joined : (holds : World → Event → Type 0) → EachStep holds old events → EachStep holds mid more → EachStep holds old (events ++ more)
  joined holds p q = each_append holds steps old mid events more run p q

  pub promised_append : Promises old events → Promises mid more → Promises old (events ++ more)
  promised_append p q =
      let written : AllKeepWritten old (events ++ more) = joined KeepsWritten p.written q.written in
      record {
        ranged = joined _ p.ranged q.ranged;
        worlds = joined _ p.worlds q.worlds;
        apart = joined _ p.apart q.apart;
        bytes = joined _ p.bytes q.bytes;
        addresses = joined _ p.addresses q.addresses;
        ds = joined _ p.ds q.ds;
        fewest = joined _ p.fewest q.fewest;
        written = written;
        reads_back = reads_back_law old (events ++ more) written;
      }

pub run_promises_law : (honest : Type 0) → RunPromisesLaw honest
run_promises_law honest format old new events is known run = each old events is (Each-from_All (λ (event : Event). IsCommand event.command) events known) run
  where
    each : (now : World) (events : List Event) → IsWorld now → Each (λ (e : Event). IsCommand e.command) events → Run (Step honest format) now events new → Promises now events
    each now [] is known run = promised_none now
    each now (event ∷ events) is known run =
        promised_append (Step honest format) now _ (event ∷ []) events (run.0, refl)
        (promised_step honest format now event.after event.command event.reply is known.0 run.0)
        (each _ events (world_law honest format now event.after event.command event.reply is known.0 run.0) known.1 run.1)
