-- The records so far have their values.
use Rattle.w16_loader.proofs.Common.{◌≡◌, length, map, take, vec_len, vec_capacity, AreValuesOf}
use Rattle.std.specs.FinMap as finmap
use Rattle.w16_ne.specs.Texts.{text_in}
use Rattle.w16_format.specs.Data.{record_target}
use Rattle.w16_loader.proofs.binding.record_values.Given as goal

abbrev pub invariant-loop-relocation : goal.invariant-loop-relocation
invariant-loop-relocation g l = record {
  many : vec_len l.values ≡ l.relocation-index;
  room : vec_capacity l.values ≡ length l.records;
  are : AreValuesOf (finmap.get l.registry) l.loaded (map (record_target (text_in l.scratch.texts)) (take l.relocation-index l.records)) l.values.items;
}
