-- Over an honest store the code that a script reads is always its file's, relocated: after each step of each family.
use Rattle.w16_loading.proofs
use proofs.Common as C
use proofs.CodeSteps as M
use proofs.Common.{ℕ, ◌+◌, Some, None, sym, subst, LoadingWorld, Fills, named, fills, left, IsOfFiles}
use proofs.Stepping.{Parts, nothing_asked, family, with_count}
use proofs.{ClosureFacts.IsClosure, Answered.loaded_by, RefusedLoad.undone_discards, KeptBytes.kept_bytes, KeptCode.code_kept, KeptCode.fetched_code, CallsKept.handles_code, CallsKept.resizes_code, CodeLoads.loaded_code}
use Rattle.w16_loading.specs.Answers.{Answers, FetchesFrom, GivesFrom, LoadsFrom, told}

module _ (honest : Type 0) (truly : honest) (format : C.Format) (old : LoadingWorld) (is : C.IsLoadingWorld old) (good : IsOfFiles format old) (before after : ℕ) where
  abbrev answers : Answers
  answers = told honest format old.files before after

  abbrev Good : LoadingWorld → Type 0
  Good world = IsOfFiles format world

  fulfilled : (new : LoadingWorld) (closure : C.Closure) → IsClosure answers (C.around old).named closure → (answer : C.Answer) → C.Fulfils (GivesFrom Fills answers) old closure answer new → Good new
  fulfilled new closure facts answer f = subst Good (sym f.after) (turn f.failure f.filled)
    where
      turn : (failure : C.Option C.Failure) → C.InTurn (GivesFrom Fills answers) (named old closure f.choice).handles.heap (fills old closure f.choice) failure f.heap → Good (left failure (C.with_heap (named old closure f.choice) f.heap) (C.undone old f.choice f.heap))
      turn None filled = loaded_code answers (λ held read again. again truly) format old is closure f.choice f.is_choice (λ g m. let h = facts.held g m in (h.2 truly, h.1)) f.heap filled good
      turn (Some failure) filled =
          let refused : LoadingWorld = C.undone old f.choice f.heap in
          code_kept format old refused (M.heap_kept format old refused.handles.heap
          (λ q t. kept_bytes old.handles.heap refused.handles.heap q ((undone_discards answers old is closure f.choice f.is_choice (Some failure) f.heap filled).objects q))) good

  parts : Parts (FetchesFrom Fills answers) (LoadsFrom Fills answers) (λ slice. Unit {0}) old Good
  parts = record {
    start = good;
    handles = λ command reply next step. code_kept format old (record old { handles = next }) (handles_code old is command reply next step format) good;
    resizes = λ command reply next step. code_kept format old (record old { handles = next }) (resizes_code old is command reply next step format) good;
    reads = λ selector offset n world here. code_kept format world _ (M.read_keeps format selector offset n world) here;
    writes = λ selector offset slice world ours here. code_kept format world _ (M.write_keeps format selector offset slice world) here;
    fetched = λ slot fault next f. code_kept format old next (fetched_code format is.handles.heap (M.world_fetches format truly before after old is slot) f) good;
    built = λ name handle none free. code_kept format old _ (M.built_in_code format old handle name) good;
    loaded = λ b file answer new f. loaded_by answers old (λ answer. Good) (λ answer. good) b file answer new
        (λ handle m there few. code_kept format old (C.after_use old handle m) (M.other_uses format old handle m (m.uses + 1) there) good) (λ closure facts. fulfilled new closure facts answer) f;
    freed = λ handle answer new f. M.by_free format old new handle answer f good;
    counted = λ slot load count there some few. code_kept format old (with_count old slot load count) (M.loads_kept format old (with_count old slot load count).loads) good;
    made = λ slot handle place r fault next free at none f. M.made_code format old is handle place r free f good;
    locks = λ handle world here. M.locked_code format world handle here;
    last = λ slot load there. M.last_code format old slot good;
  }

-- the count of failures says nothing of code
counted : (format : C.Format) (world : LoadingWorld) (failures : ℕ) → IsOfFiles format (record world { failures = failures }) → IsOfFiles format world
counted format world failures good = record { code = λ slot handle number m s coded. good.code _ _ _ m (record { loaded = s.loaded; has = s.has }) coded; modules = good.modules }

pub code_law : (honest : Type 0) → C.CodeLaw honest
code_law honest format old new command reply truly is good step =
    let answers = told honest format old.files old.failures new.failures in
    counted _ new old.failures (family (FetchesFrom _ _) (LoadsFrom Fills answers) (λ slice. Unit {0}) old (IsOfFiles _)
    (parts _ truly _ old is good _ _) (record new { failures = old.failures }) reply command (nothing_asked command) step.step)
