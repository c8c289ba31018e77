-- How a load's objects get their bytes, over a store that may be honest.
use Rattle.w16_loader.proofs.Common.{ℕ, ◌<◌, ◌≤◌, List, [], ◌∷◌, Option, Some, None, arith, Heap, FetchFault, Store, Damaged, NoRoom, Failure, Filling, InTurn, gives_over}
use Rattle.w16_loading.specs.Answers.{MayFail}

-- What fails in a part of a call, fails in it.
module _ (honest : Type 0) (before start end after : ℕ) (earlier : before ≤ start) (later : end ≤ after) where
  may_since : (fault : FetchFault) → MayFail honest start end fault → MayFail honest before after fault
  may_since fault h = (h.0, (λ s. let lt : start < end = h.1 s in omega (arith, lt, earlier, later)), h.2)

  one_since : (old : Heap) (slot : ℕ) (held : List ℕ) (fault : Option FetchFault) (new : Heap) → gives_over honest start end old slot held fault new → gives_over honest before after old slot held fault new
  one_since old slot held None new h = h
  one_since old slot held (Some NoRoom) new h = h
  one_since old slot held (Some Store) new h = (may_since Store h.0, h.1)
  one_since old slot held (Some Damaged) new h = (may_since Damaged h.0, h.1)

  pub turn_since : (old : Heap) (xs : List Filling) (failure : Option Failure) (new : Heap) → InTurn (gives_over honest start end) old xs failure new → InTurn (gives_over honest before after) old xs failure new
  turn_since old [] failure new h = h
  turn_since old (x ∷ xs) failure new (None, next, one, rest) = (None, next, one_since old x.slot x.bytes None next one, turn_since next xs failure new rest)
  turn_since old (x ∷ xs) failure new (Some fault, next, one, rest) = (Some fault, next, one_since old x.slot x.bytes (Some fault) next one, rest)
