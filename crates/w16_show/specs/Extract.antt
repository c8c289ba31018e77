-- Resources that are taken out: the names of their files, and their bytes.
use Rattle.std.specs.Prelude.{ℕ, ◌-◌, List, [], ◌∷◌, ◌++◌, codes, decimal, length, take, drop, replicate, nat_lt, ◌&&◌, ◌||◌, ◌==◌, if◌then◌else◌, unwrap_or}
use Rattle.std.specs.List.{flat_map}
use Rattle.w16_ne.specs.Resources as resources
use Rattle.w16_ne.specs.Resources.{Label, Number, Text}
use Rattle.w16_show.specs.Words.{hex, kind_name}

-- A byte in a file's name: letters, digits, `-` and `_` as they are, and any other by its code.
abbrev pub name_byte : ℕ → List ℕ
name_byte b =
    if (nat_lt 47 b && nat_lt b 58) || (nat_lt 64 b && nat_lt b 91) || (nat_lt 96 b && nat_lt b 123) || b == 45 || b == 95 then b ∷ []
    else codes "%" ++ hex 2 b

-- a type or an id: its number, or a `_` and its text
abbrev pub label_part : Label → List ℕ
label_part (Number n) = decimal n
label_part (Text text) = codes "_" ++ flat_map name_byte text

-- a type that the manual names by this name
abbrev pub kind_part : Label → List ℕ
kind_part (Number n) = unwrap_or (kind_name n) (decimal n)
kind_part (Text text) = label_part (Text text)

-- A resource's file: its number among the module's resources, its type and its id.
abbrev pub file_name : ℕ → Label × resources.Entry → List ℕ
file_name number r = decimal number ++ codes "." ++ kind_part r.0 ++ codes "." ++ label_part r.1.id

-- A resource's bytes in a file. It may end past the file's end by less than a unit; what is missing is zeros.
abbrev pub resource_bytes : List ℕ → resources.Entry → List ℕ
resource_bytes file r = let there = take r.len (drop r.place file) in there ++ replicate (r.len - length there) 0
