-- Tags by which names are told apart fast.
use Rattle.std.specs.Prelude.{◌≡◌, ℕ, ◌+◌, ◌*◌, ◌%◌, List, Option, IfSome, fold}
use Rattle.std.specs.{List.AllZip, Str.str_to_ascii_uppercase}
use Rattle.w16_loading.specs.Modules.{name_of}
use Rattle.w16_loader.specs.{declared.entry.Entry.Entry, Entries.named_of}

-- one byte more
abbrev pub tag_after : ℕ → ℕ → ℕ
tag_after tag byte = (tag * 31 + byte) % 4294967296

-- a number of a name, the same in any case of letters
unfoldable pub name_tag : List ℕ → ℕ
name_tag name = fold tag_after 0 (str_to_ascii_uppercase name)

module _ {A : Type 0} where
  -- for each place the tag of its entry's name
  abbrev pub AreTags : List (Option (Entry A)) → List ℕ → Type 0
  AreTags entries tags = AllZip (λ o tag. IfSome o (λ e. tag ≡ name_tag (name_of (named_of e)))) entries tags
