use Rattle.std.proofs.Common.{◌≡◌, ◌≤◌, ◌⊎◌, ℕ, length}
use Rattle.std.specs.Prelude.{slice_index}
use Rattle.w16_local.specs.FreeEntries.{all_of}
use Rattle.w16_local.proofs.free_entries.FreeEntries.set.Given as goal

abbrev pub invariant-loop-free : goal.invariant-loop-free
invariant-loop-free g l = record {
  many : length l.self-inside.kept ≡ 1024;
  used : l.self-inside.used ≡ l.initial.self-inside.used;
  low : l.initial.self-inside.used ≤ l.free;
  upto : (l.free ≤ l.entry) ⊎ (l.free ≡ l.initial.self-inside.used);
  same : all_of l.free l.self-inside.kept ≡ all_of l.initial.self-inside.used l.initial.self-inside.kept;
  rest : (k : ℕ) → l.free ≤ k → slice_index l.self-inside.kept k ≡ 0;
}
