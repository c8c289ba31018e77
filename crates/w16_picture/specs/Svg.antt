-- What is printed of strips and bands as SVG.
use Rattle.std.specs.Prelude.{ℕ, ◌+◌, ◌-◌, Bool, Option, Some, None, List, [], ◌++◌, codes, decimal, max, ◌==◌, ◌&&◌, ◌||◌, not, nat_le, nat_lt, if◌then◌else◌}
use Rattle.w16_model.specs.{declared.Owner.Owner, declared.Span.Span}
use Rattle.w16_picture.specs.{declared.bands.Band.Band, declared.layout.Rect.Rect, declared.facts.Part.Part, declared.facts.Source.Source, declared.svg.Caption.Caption, Escape.hex, Escape.escaped, Facts.kind_word, Facts.role_word, Facts.source_text, Layout.edge}

-- free, or what an object is drawn as, and whether it is locked
unfoldable pub class_of : Option Owner → Source → List ℕ
class_of None source = codes "free"
class_of (Some owner) source = role_word source owner.kind ++ (if owner.locks == 0 then [] else codes " locked")

abbrev pub place_text : ℕ → ℕ → List ℕ
place_text at size = codes ", address " ++ hex 8 at ++ codes ", size " ++ hex 8 size

unfoldable pub title_of : Option Owner → Part → List ℕ
title_of None item = codes "free" ++ place_text item.at item.size
title_of (Some owner) item =
    codes "handle " ++ hex 4 owner.name ++ place_text item.at item.size ++ codes ", " ++ kind_word owner.kind ++ codes ", locks " ++ decimal owner.locks
    ++ codes ", flags " ++ hex 4 item.flags ++ source_text item.source

-- what is written on an object: its lock count where it is locked and has 9 units, and its handle where it has 30
unfoldable pub labels : ℕ → ℕ → Option Owner → List ℕ
labels x width None = []
labels x width (Some owner) =
    (if nat_le 9 width && not (owner.locks == 0) then codes "<text x='" ++ decimal x ++ codes "' y='25'>" ++ decimal owner.locks ++ codes "</text>" else [])
    ++ (if nat_lt width 30 then [] else codes "<text x='" ++ decimal x ++ codes "' y='12'>" ++ hex 4 owner.name ++ codes "</text>")

unfoldable pub box_text : ℕ → ℕ → List ℕ
box_text x width = codes "<rect x='" ++ decimal x ++ codes "' width='" ++ decimal width ++ codes "' height='28'/>"

-- The bar of a local heap lies across the middle of its object, to scale, and is at least one unit wide.
unfoldable pub bar_between : ℕ → ℕ → List ℕ
bar_between left right = codes "<path class='heap' d='M" ++ decimal left ++ codes " 13H" ++ decimal (max right (left + 1)) ++ codes "v3H" ++ decimal left ++ codes "z'/>"

unfoldable pub bar_text : ℕ → ℕ → ℕ → Option Span → List ℕ
bar_text left right size None = []
bar_text left right size (Some heap) =
    if nat_le heap.to heap.from || nat_lt size heap.to then [] else bar_between (edge (right - left) size left heap.from) (edge (right - left) size left heap.to)

unfoldable pub rect_text : Rect → List ℕ
rect_text rect =
    codes "<g class='" ++ class_of rect.item.owner rect.item.source ++ codes "'><title>" ++ title_of rect.item.owner rect.item ++ codes "</title>"
    ++ box_text rect.left (rect.right - rect.left) ++ bar_text rect.left rect.right rect.item.size rect.item.local ++ labels (rect.left + 3) (rect.right - rect.left) rect.item.owner ++ codes "</g>\n"

unfoldable pub group_text : ℕ → List ℕ
group_text y = codes "<g transform='translate(16," ++ decimal y ++ codes ")'>\n"

-- A band is a quadrilateral from where the object was, on the strip above, to where it is.
unfoldable pub band_text : Band → List ℕ
band_text band =
    (if band.from.item.at == band.to.item.at then codes "<path class='stays' d='M" else codes "<path class='moves' d='M") ++ decimal band.from.left
    ++ codes " -56H" ++ decimal band.from.right ++ codes "L" ++ decimal band.to.right ++ codes " 0H" ++ decimal band.to.left ++ codes "z'/>\n"

-- The shade of an object that comes leads down to it, and that of one that goes leads down from it.
unfoldable pub fade_text : Bool → Rect → List ℕ
fade_text comes rect =
    (if comes then codes "<path class='comes' d='M" else codes "<path class='goes' d='M") ++ decimal rect.left ++ (if comes then codes " -28H" else codes " -56H")
    ++ decimal rect.right ++ codes "v28H" ++ decimal rect.left ++ codes "z'/>\n"

unfoldable pub caption_text : Caption → ℕ → List ℕ
caption_text caption x =
    codes "<text x='" ++ decimal x ++ codes "' y='12'>" ++ decimal caption.number ++ codes ": " ++ escaped caption.line.now
    ++ codes "</text><text class='reply' x='" ++ decimal x ++ codes "' y='25'>" ++ escaped caption.reply.now ++ codes "</text>"

unfoldable pub order_text : List ℕ → ℕ → List ℕ
order_text order x = codes "<text class='order' x='" ++ decimal x ++ codes "' y='38'>" ++ escaped order ++ codes "</text></g>\n"
