-- Bands: which rectangles of two strips show the same object.
use Rattle.std.specs.Prelude.{◌≡◌, ℕ, ◌==◌, ◌&&◌, Bool, false, Option, List, Contains, find, option_map, nat_eq, is_some, is_none, IsSome}
use Rattle.std.specs.{HashMap.HashMap, HashMap.get, Option.option_and_then, Option.option_map_or, declared.hash.FoldHasher.FoldHasher, declared.hash.BuildHasherDefault.BuildHasherDefault}
use Rattle.w16_picture.specs.{declared.bands.Band.Band, declared.layout.Rect.Rect}

-- the handle of a rectangle's object, if it shows one
abbrev pub handle_in : Rect → Option ℕ
handle_in rect = option_map (λ owner. owner.name) rect.item.owner

-- whether a rectangle shows the object with this handle
abbrev pub is_named : ℕ → Rect → Bool
is_named name rect = option_map_or (λ owner. name == owner.name) rect.item.owner false

-- the first of the rectangles that shows the same object, if one does
abbrev pub partner : List Rect → Rect → Option Rect
partner rects rect = option_and_then (λ owner. find (is_named owner.name) rects) rect.item.owner

-- the table has the first rectangle of each handle
abbrev pub IsPlaces : HashMap ℕ Rect (BuildHasherDefault FoldHasher) → List Rect → Type 0
IsPlaces places rects = (name : ℕ) → get nat_eq places name ≡ find (is_named name) rects

abbrev pub band_to : List Rect → Rect → Option Band
band_to before to = option_map (λ from. record { from = from; to = to }) (partner before to)

-- whether a rectangle shows an object, and none of the others shows it
abbrev pub is_alone : List Rect → Rect → Bool
is_alone others rect = is_some rect.item.owner && is_none (partner others rect)

-- a band leads from a rectangle of the one strip to one of the other, and both show one object
pub record JoinsObject (before after : List Rect) (band : Band) : Type 0 where
  pub from : Contains before band.from
  pub to : Contains after band.to
  pub object : IsSome (handle_in band.to)
  pub same : handle_in band.from ≡ handle_in band.to
