-- No file has any name.
use Rattle.std.specs.Prelude.{ℕ, List, [], Result, Ok, Err, IfErr}
use Rattle.w16_store.specs.{declared.store.StoreFault.StoreFault, Files.file_of, Files.IsMissing}
use Rattle.w16_store.proofs.Finding.{file_of-nil}
use Rattle.w16_hostile_tests.proofs.stores.HostileStore.len_of.Goals as goal

missing : (n : List ℕ) (answer : Result ℕ StoreFault) → IfErr answer (IsMissing (file_of [] n))
missing n (Ok len) = tt
missing n (Err fault) = λ e. file_of-nil n

pub returns-clause-missing : goal.returns-clause-missing
returns-clause-missing c = missing c.args.name.now c.count_failure.result
