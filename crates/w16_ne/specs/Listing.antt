-- A table of names, as it is put together.
use Rattle.std.specs.Prelude.{◌≡◌, List, ◌++◌, length, drop, not, ◌==◌}
use Rattle.w16_ne.specs.declared.listing.Listing.{Listing}
use Rattle.w16_ne.specs.Names.{Entry, first_text}

-- its first name, which begins it, and after names that were there before all its others
pub record IsListing {A : Type 0} (before listed : List Entry) (l : Listing A) : Type 0 where
  pub begun : l.begun ≡ not (length listed == 0)
  pub first : l.first.items ≡ first_text listed
  pub names : l.names ≡ before ++ drop 1 listed
