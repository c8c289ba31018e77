-- What is printed for a strip.
use Rattle.w16_picture.specs
use Rattle.std.specs.Prelude.{ℕ, ◌+◌, true, false, List, ◌++◌, codes, filter}
use Rattle.std.specs.List.{filter_map, flat_map}
use specs.declared.strips.Shape.TheVariants.{Part, Cells, Comes, Goes}
use specs.declared.style.Style.TheVariants.{Svg, Text}
use specs.{declared.layout.Rect.Rect, declared.strips.Shape.Shape, declared.style.Style.Style, declared.svg.Caption.Caption, Bands.band_to, Bands.is_alone, Cells.cells, Cells.heading_text, Escape.shown, Svg.band_text, Svg.caption_text, Svg.fade_text, Svg.group_text, Svg.order_text, Svg.rect_text}

abbrev pub shape_in : Shape → Rect → List ℕ
shape_in Part rect = rect_text rect
shape_in Cells rect = cells rect
shape_in Comes rect = fade_text true rect
shape_in Goes rect = fade_text false rect

-- a band for each object that both strips show, and a shade for each that one of them shows
abbrev pub changes : List Rect → List Rect → List ℕ
changes before rects =
    flat_map band_text (filter_map (band_to before) rects) ++ flat_map (shape_in Goes) (filter (is_alone rects) before)
    ++ flat_map (shape_in Comes) (filter (is_alone before) rects)

abbrev pub strip_in : Style → ℕ → List Rect → List Rect → ℕ → Caption → List ℕ
strip_in Svg y before rects width caption = group_text y ++ changes before rects ++ flat_map (shape_in Part) rects ++ caption_text caption (width + 12)
    ++ order_text caption.order.now (width + 12)
strip_in Text y before rects width caption = heading_text caption ++ flat_map (shape_in Cells) rects ++ codes "\n" ++ shown caption.order.now ++ codes "\n"
