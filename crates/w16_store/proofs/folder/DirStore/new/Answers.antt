use Rattle.std.specs.String.{string_bytes}
use Rattle.std.proofs.lemmas.List.Sorted.{IsPermutation-trans, IsPermutation-map}
use Rattle.w16_store.proofs.folder.DirStore.new.Goals as goal

pub returns-clause-whole : goal.returns-clause-whole
returns-clause-whole g c = λ honest. IsPermutation-trans _ _ _ (c.in_ok-names.ensures.honest honest) (IsPermutation-map (string_bytes {Z = Rattle.std.proofs.Common.Global}) _ _ c.sort_unstable.ensures.permutation)
