-- The world of modules over the parts of the machine that keep it, and what a call over a store answers.
use Rattle.std.specs.Prelude.{ℕ, List, Option, Result, Ok, Err}
use Rattle.std.specs.{Ordering.nat_cmp, FinMap.FinMap}
use Rattle.w16_model.specs.Handles.{Handles}
use Rattle.w16_loading.specs.{declared.FetchFault.FetchFault, Answers.FetchesFrom, Answers.told, Fewest.FillsFewest, Law.IsLoadingWorld, Law.IsOfFiles, Modules.Load, Modules.LoadingWorld}
use Rattle.w16_loading.specs.{Modules.Modules, Replies.Reply, Replies.Reply.Word, Replies.Reply.Dword, Replies.Reply.Failed}
use Rattle.w16_format.specs.Ne.{ne_format}

-- the world that these parts are
abbrev pub loading_of : Handles → Modules → FinMap nat_cmp Load → List (List ℕ × List ℕ) → ℕ → LoadingWorld
loading_of handles modules loads files failures = record { handles = handles; modules = modules; loads = loads; files = files; failures = failures }

-- What holds of each world over a store: it is one; and where the store is honest, all that is loaded is of its file.
abbrev pub IsLoadingOver : Type 0 → LoadingWorld → Type 0
IsLoadingOver honest world = IsLoadingWorld world × (honest → IsOfFiles ne_format world)

-- a fetch over a store, by a request that discards as few objects as it can
abbrev pub FetchesResource : Type 0 → LoadingWorld → ℕ → Option FetchFault → LoadingWorld → Type 0
FetchesResource honest old slot fault new =
    FetchesFrom FillsFewest (told honest ne_format old.files old.failures new.failures) old slot fault (record new { failures = old.failures })

-- the reply of a call that answers a word, or why an object got no bytes
abbrev pub word_in : Result ℕ FetchFault → Reply
word_in (Ok n) = Word n
word_in (Err fault) = Failed fault

-- and of one that answers a double word
abbrev pub dword_in : Result ℕ FetchFault → Reply
dword_in (Ok n) = Dword n
dword_in (Err fault) = Failed fault
