-- Each step of each family keeps what holds of every world, whatever the store answers.
use Rattle.w16_loading.proofs
use proofs.Common as C
use proofs.Common.{◌<◌, All, Some, None, refl, sym, ap, subst, Heap, LoadingWorld, named, fills, left, Answers, Fills, told, Command, IsLoadingWorld}
use Rattle.w16_model.specs.Commands.{Command}
use Rattle.w16_loading.specs.Families.{AnyCommand}
use proofs.KeptWorlds.{kept_left, left_owned, world_stays, recounted}
use proofs.FarWorlds.{read_world, write_world}
use proofs.ModuleWorlds.{used_world, built_world}
use proofs.ResourceWorlds.{locked_world, counted_world, made_world, last_world}
use proofs.Answered.{HoldFiles, loaded_by}
use proofs.Stepping.{Parts, Writes, family}
use proofs.{Fillings.lost, Fillings.kept_sized, RefusedLoad.undone_discards, CallsKept.handles_world, CallsKept.resizes_world, FetchWorlds.fetched_world, FreeWorlds.free_world, ClosureFacts.IsClosure, LoadWorlds.loaded_world, Owners.object_there}
use Rattle.w16_loading.specs.Families.AnyCommand.{any}

-- what a refused load leaves
discards_world : (old : LoadingWorld) → IsLoadingWorld old → (heap : Heap) → C.OnlyDiscards old.handles.heap heap → IsLoadingWorld (C.with_heap old heap)
discards_world old is heap d = world_stays old is (record old.handles { heap = heap })
    (C.other_handles old.handles is.handles heap d.sound (ap (λ h. h.lo) d.rest) (ap (λ h. h.grain) d.rest) (λ q. lost old.handles.heap heap q (d.objects q))
    (λ q. kept_sized old.handles.heap heap q _ (d.objects q) (is.handles.sized q))) (λ q. refl)
    (λ q kind size code h. left_owned old.handles.heap heap q _ _ (kept_left old.handles.heap heap q (object_there old q _ _ _ h) (d.objects q)) h.object)

module _ (answers : Answers) (are : HoldFiles answers) (old : LoadingWorld) (is : IsLoadingWorld old) where
  fulfilled : (closure : C.Closure) → IsClosure answers (C.around old).named closure → (answer : C.Answer) (new : LoadingWorld) → C.Fulfils (C.GivesFrom Fills answers) old closure answer new → IsLoadingWorld new
  fulfilled closure facts answer new f = subst IsLoadingWorld (sym f.after) (turn f.failure f.filled)
    where
      turn : (failure : C.Option C.Failure) → C.InTurn (C.GivesFrom Fills answers) (named old closure f.choice).handles.heap (fills old closure f.choice) failure f.heap → IsLoadingWorld (left failure (C.with_heap (named old closure f.choice) f.heap) (C.undone old f.choice f.heap))
      turn None filled = loaded_world answers are old is closure f.choice f.is_choice facts f.heap filled
      turn (Some failure) filled = discards_world old is (C.undone old f.choice f.heap).handles.heap (undone_discards answers old is closure f.choice f.is_choice (Some failure) f.heap filled)

  parts : Parts (C.FetchesFrom Fills answers) (C.LoadsFrom Fills answers) (λ slice. All (λ b. b < 256) slice) old IsLoadingWorld
  parts = record {
    start = is;
    handles = λ command reply next step. handles_world old is command reply next step;
    resizes = λ command reply next step. resizes_world old is command reply next step;
    reads = λ selector offset n world here. read_world selector offset n world here;
    writes = λ selector offset slice world ours here. write_world selector offset slice ours world here;
    fetched = λ slot fault next f. fetched_world is f;
    built = λ name handle none free. built_world old is handle name free none;
    loaded = λ b file answer new f. loaded_by answers old (λ answer. IsLoadingWorld) (λ answer. is) b file answer new (used_world old is) (λ closure facts. fulfilled closure facts answer new) f;
    freed = λ handle answer new f. free_world old new is handle answer f;
    counted = λ slot load count there some few. counted_world old is slot load there count some few;
    made = λ slot handle place r fault next free at none f. fetched_world (made_world old is slot free handle place r at.0 at.1 none) f;
    locks = λ handle world here. locked_world world here handle;
    last = λ slot load there. last_world old is slot load there;
  }

ours : (command : AnyCommand) → C.IsCommand command → Writes (λ slice. All (λ b. b < 256) slice) command
ours (any _ (Command.Write pointer bytes)) known = known
ours (any _ (Command.Fill pointer count byte)) known = C.All-repeated _ _ known
ours command known = tt

pub keeps_worlds_law : (honest : Type 0) → C.KeepsWorldsLaw honest
keeps_worlds_law honest format old new command reply is known step =
    let answers = told honest format old.files old.failures new.failures in
    recounted (record new { failures = old.failures }) (family _ _ (λ slice. All (λ b. b < 256) _) old _
    (parts _ (λ name read h. h.0) old is) (record new { failures = old.failures }) reply command (ours command known) step.step) _
