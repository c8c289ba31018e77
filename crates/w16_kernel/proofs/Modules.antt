-- Calls on modules and resources.
use Rattle.w16_kernel.proofs.Common as C
use Rattle.w16_kernel.proofs.Common.{ne_format, load_command, LoadsFrom, told, Fills, Bool, List, LoadingWorld, arith, false, subst, sym, true, ℕ, ◌≡◌}
use Rattle.w16_loading.specs.{Load.Answer, Answers.Answers, Fewest.FillsFewest}
use Rattle.w16_machine.proofs.Stepped.{fetching, loading}
use Rattle.w16_loading.proofs.Requests.{load_fills}
pub use Rattle.w16_resource.proofs.Steps.{seen}
use Rattle.w16_loading.specs.Families as families
use Rattle.w16_loading.specs.Replies as printed
use Rattle.w16_loading.specs.Families.{AnyCommand}
use Rattle.w16_loading.specs.Families.AnyCommand.{any}

-- a step that reads no file
pub unread : (honest : Type 0) (old new : LoadingWorld) (command : AnyCommand) (reply : printed.Reply) → new.files ≡ old.files → new.failures ≡ old.failures
    → C.FamilyStep (fetching honest ne_format old new) (loading honest ne_format old new) old command reply (record new { failures = old.failures }) → C.StepOver honest ne_format old command reply new
unread honest old new command reply files same s = record { counted = omega (arith, same); files = files; step = s }

-- A load.
module _ {honest : Type 0} {old : LoadingWorld} {next : C.Handles} {loaded : C.Modules} {left : List (List ℕ × List ℕ)} {count : ℕ} where
  pub load_told : (is_load_module : Bool) {file : List ℕ} {answer : Answer} {reply : printed.Reply} → reply ≡ families.reply_of answer → C.IsLater old.files old.failures left count
      → ((rest : LoadingWorld) → LoadsFrom FillsFewest (told honest ne_format old.files old.failures count) is_load_module
      (record old { loads = rest.loads }) file answer (record old { handles = next; modules = loaded; loads = rest.loads }))
      → C.StepOver honest ne_format old (any C.OfModules (load_command is_load_module file)) reply (record old { handles = next; modules = loaded; files = left; failures = count })
  load_told is_load_module {file = file} {answer = answer} {reply = reply} e later over = record {
    counted = later.counted;
    files = later.same;
    step = turn is_load_module (subst (λ (fs : List (List ℕ × List ℕ)). LoadsFrom Fills answers is_load_module old file answer
        (record old { handles = next; modules = loaded; files = fs })) (sym later.same)
        (load_fills answers old is_load_module file answer (record old { handles = next; modules = loaded }) (over old)));
  }
    where
      answers : Answers
      answers = told honest ne_format old.files old.failures count

      turn : (b : Bool) → LoadsFrom Fills answers b old file answer (record old { handles = next; modules = loaded; files = left })
          → C.FamilyStep (C.FetchesFrom Fills answers) (LoadsFrom Fills answers) old (any C.OfModules (load_command b file)) reply (record old { handles = next; modules = loaded; files = left })
      turn true f = (answer, e, f)
      turn false f = (answer, e, f)

-- the failures are as many as before
pub as_many : (new : LoadingWorld) {count : ℕ} → new.failures ≡ count → record new { failures = count } ≡ new
as_many new same = λ i. record new { failures = sym same i }

abbrev pub seen_world : {opened closed : C.World} → opened ≡ closed → C.World
seen_world {opened = opened} e = opened
