-- What a module imports, segment by segment.
use Rattle.std.proofs.Common.{◌≡◌, ℕ, suc, ◌+◌, List, drop, slice_get, Some, sym, add-one}
use Rattle.std.proofs.lemmas.List.Sums.{fold-append}
use Rattle.std.specs.List.{flat_map, fold}
use Rattle.w16_ne.specs.declared.segment_table.Segment.{Segment}
use Rattle.w16_reloc.specs.declared.record.Target.{Target}
use Rattle.w16_show.specs.Imports.{with_import}
use Rattle.w16_show.proofs.Numbering.{left-from}

pub next-imports : (targets : Segment → List Target) (s : Segment) (before : List (ℕ × Target)) (segments : List Segment) (i : ℕ) (after : List (ℕ × Target)) → slice_get segments i ≡ Some s
    → after ≡ fold with_import before (targets s) → fold with_import after (flat_map targets (drop (i + 1) segments)) ≡ fold with_import before (flat_map targets (drop i segments))
next-imports targets s before segments i after h is = rw (is, add-one i, left-from segments i s h) (sym (fold-append with_import before (targets s) (flat_map targets (drop (suc i) segments))))
