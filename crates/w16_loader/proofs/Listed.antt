-- A table from a place on.
use Rattle.w16_loader.proofs.Common.{ℕ, List, drop, Option, by_id, Named, Entry, named_of}

module _ {A : Type 0} where
  abbrev pub listed_from : ℕ → List (Option (Entry A)) → List (ℕ × Named)
  listed_from i entries = by_id (λ _ e. named_of e) i (drop i entries)
