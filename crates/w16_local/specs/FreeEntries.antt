-- Entries of a local heap, of which those up to a number are kept.
use Rattle.std.specs.Prelude.{ℕ, ◌≡◌, ◌-◌, ◌≤◌, ◌++◌, List, length, replicate, slice_index, take}
use Rattle.w16_machine.specs.declared.local.TheConstants.{LOCAL_ENTRIES}

-- all of them: those that aren't kept are free
abbrev pub all_of : ℕ → List ℕ → List ℕ
all_of used kept = take used kept ++ replicate (LOCAL_ENTRIES - used) 1

pub record AreKept (used : ℕ) (kept : List ℕ) : Type 0 where
  pub many : length kept ≡ LOCAL_ENTRIES
  pub few : used ≤ LOCAL_ENTRIES
  pub rest : (k : ℕ) → used ≤ k → slice_index kept k ≡ 0
