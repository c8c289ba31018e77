-- Names of files, modules, entries and resources.
use Rattle.std.specs.{Prelude.ℕ, Prelude.List, Prelude.Bool, declared.cmp.Ordering.Ordering, Ordering.nat_cmp, Ordering.on, Cmp.Lexicographic.slice_cmp, Str.bytes_eq, Str.str_to_ascii_uppercase}

-- names are compared after ASCII upper-casing (profile)
unfoldable pub is_named : List ℕ → List ℕ → Bool
is_named name other = bytes_eq (str_to_ascii_uppercase name) (str_to_ascii_uppercase other)

-- the order of names after ASCII upper-casing, by bytes
abbrev pub name_cmp : List ℕ → List ℕ → Ordering
name_cmp = on str_to_ascii_uppercase (slice_cmp nat_cmp)
