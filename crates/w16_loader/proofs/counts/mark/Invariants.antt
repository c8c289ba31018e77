-- What is marked, or is among the imports that are left, is all that was marked or is imported.
use Rattle.w16_loader.proofs.Common.{◌≡◌, ℕ, ◌<◌, ◌||◌, ◌&&◌, ◌==◌, not, false, length, drop, slice_index_or, is_member}
use Rattle.w16_loader.proofs.counts.mark.Given as goal

abbrev pub invariant-loop-import : goal.invariant-loop-import
invariant-loop-import l = (handle : ℕ) → handle < length l.initial.marks
    → (slice_index_or l.marks handle false || (not (l.importer == handle) && is_member handle (drop l.import-index l.imports)))
    ≡ (slice_index_or l.initial.marks handle false || (not (l.importer == handle) && is_member handle l.imports))
