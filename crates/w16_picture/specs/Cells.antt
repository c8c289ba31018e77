-- Strips as text.
use Rattle.std.specs.Prelude.{ℕ, ◌-◌, Option, Some, None, List, [], ◌∷◌, ◌++◌, length, replicate, codes, decimal, ◌==◌, ◌||◌, nat_lt, if◌then◌else◌}
use Rattle.w16_model.specs.declared.Owner.{Owner}
use Rattle.w16_picture.specs.{declared.facts.Source.Source, declared.layout.Rect.Rect, declared.svg.Caption.Caption, Escape.hex, Escape.shown, Facts.role_letter}

-- what a part begins with: a dot, or a letter for what an object is drawn as
abbrev pub letter_of : Option Owner → Source → ℕ
letter_of None source = 46
letter_of (Some owner) source = role_letter source owner.kind

-- what fills the rest of it: dots, dashes, or double dashes where it is locked
unfoldable pub filler_of : Option Owner → ℕ
filler_of None = 46
filler_of (Some owner) = if owner.locks == 0 then 45 else 61

-- an object's handle, and the lock count of a locked one, as far as there is room
unfoldable pub marks : ℕ → Option Owner → List ℕ
marks width None = []
marks width (Some owner) = if nat_lt width 5 then [] else hex 4 owner.name ++ (if owner.locks == 0 || nat_lt width 9 then [] else 42 ∷ decimal owner.locks)

-- the letter, the handle and the lock count, as far as there is room for them, and the filler up to the part's width
abbrev pub filled : ℕ → List ℕ → ℕ → List ℕ
filled width start filler = start ++ replicate (width - length start) filler

abbrev pub cells : Rect → List ℕ
cells rect = filled (rect.right - rect.left) (letter_of rect.item.owner rect.item.source ∷ marks (rect.right - rect.left) rect.item.owner) (filler_of rect.item.owner)

unfoldable pub heading_text : Caption → List ℕ
heading_text caption = decimal caption.number ++ codes ": " ++ shown caption.line.now ++ codes " -> " ++ shown caption.reply.now ++ codes "\n"
