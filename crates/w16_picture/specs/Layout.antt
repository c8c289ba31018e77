-- Strips: the parts of a walk as rectangles, to scale.
use Rattle.std.specs.Prelude.{◌≡◌, ℕ, ◌+◌, ◌*◌, ◌/◌, ◌-◌, ◌<◌, List, [], ◌∷◌, length, map, max, All}
use Rattle.w16_picture.specs.{declared.facts.Part.Part, declared.layout.Rect.Rect}

-- parts with a byte each, one after another from an address up to another
abbrev pub Fills : ℕ → ℕ → List Part → Type 0
Fills from to [] = from ≡ to
Fills from to (item ∷ items) = (item.at ≡ from) × (0 < item.size) × Fills (from + item.size) to items

-- where an address stands that has that many parts before it: a unit for each, and the share of the spare units that the bytes before it have
abbrev pub edge : ℕ → ℕ → ℕ → ℕ → ℕ
edge spare memory before at = before + at * spare / memory

abbrev pub rect_of : ℕ → ℕ → ℕ → Part → Rect
rect_of spare memory before item =
    record { left = edge spare memory before item.at; right = edge spare memory (before + 1) (item.at + item.size); item = item }

abbrev pub rects_from : ℕ → ℕ → ℕ → List Part → List Rect
rects_from spare memory before [] = []
rects_from spare memory before (item ∷ items) = rect_of spare memory before item ∷ rects_from spare memory (before + 1) items

-- The spare units are those that are left of the columns when each part has one.
abbrev pub strip : ℕ → ℕ → List Part → List Rect
strip columns memory items = rects_from (columns - length items) memory 0 items

-- rectangles one after another, from a unit up to another
abbrev pub Adjoin : ℕ → ℕ → List Rect → Type 0
Adjoin from to [] = from ≡ to
Adjoin from to (rect ∷ rects) = (rect.left ≡ from) × Adjoin rect.right to rects

-- A rectangle has one unit for itself, and beside it its share of the spare ones, rounded by less than one unit up or down.
pub record IsToScale (spare memory : ℕ) (rect : Rect) : Type 0 where
  pub wide : rect.left < rect.right
  pub least : rect.item.size * spare < (rect.right - rect.left) * memory
  pub most : (rect.right - rect.left) * memory < rect.item.size * spare + 2 * memory

-- exactly the walk's parts, in order, over the whole width, which is one unit for each part at least, and to scale
pub record IsStrip (columns memory : ℕ) (items : List Part) (rects : List Rect) : Type 0 where
  pub parts : map (λ rect. rect.item) rects ≡ items
  pub cover : Adjoin 0 (max columns (length items)) rects
  pub scaled : All (IsToScale (columns - length items) memory) rects
