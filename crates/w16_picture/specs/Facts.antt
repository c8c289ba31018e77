-- What is told of an object beside its place.
use Rattle.std.specs.Prelude.{ℕ, List, [], ◌++◌, codes, decimal, if◌then◌else◌}
use Rattle.w16_model.specs.declared.Kind.TheVariants.{Fixed, Moveable, Discardable}
use Rattle.w16_model.specs.declared.Kind.{Kind}
use Rattle.w16_picture.specs.declared.facts.Source.TheVariants.{Script, Segment, Resource}
use Rattle.w16_picture.specs.{declared.facts.Source.Source, Escape.hex}

unfoldable pub kind_word : Kind → List ℕ
kind_word Fixed = codes "fixed"
kind_word Moveable = codes "moveable"
kind_word Discardable = codes "discardable"

-- what an object is drawn as: by its kind, or by what it is of a module
unfoldable pub role_word : Source → Kind → List ℕ
role_word Script kind = kind_word kind
role_word (Segment handle number code) kind = if code then codes "code" else codes "data"
role_word (Resource handle place) kind = codes "resource"

-- the letter for that
abbrev pub kind_letter : Kind → ℕ
kind_letter Fixed = 70
kind_letter Moveable = 77
kind_letter Discardable = 68

abbrev pub role_letter : Source → Kind → ℕ
role_letter Script kind = kind_letter kind
role_letter (Segment handle number code) kind = if code then 67 else 83
role_letter (Resource handle place) kind = 82

unfoldable pub module_text : ℕ → List ℕ
module_text handle = codes " of module " ++ hex 4 handle

-- whose it is, where it is a module's
unfoldable pub source_text : Source → List ℕ
source_text Script = []
source_text (Segment handle number code) = codes ", segment " ++ decimal number ++ module_text handle
source_text (Resource handle place) = codes ", resource at place " ++ decimal place ++ module_text handle
