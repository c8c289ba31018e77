use Rattle.std.proofs.Common.{◌≡◌, slice_get, Some}
use Rattle.w16_lru.proofs.Order.nth.Given as goal

abbrev pub invariant-loop-k : goal.invariant-loop-k
invariant-loop-k g l = slice_get l.self.ids l._k ≡ Some l.id
