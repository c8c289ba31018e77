-- What is printed of a picture.
use Rattle.std.specs.Prelude.{ℕ, ◌+◌, ◌*◌, List, [], ◌++◌, codes, decimal}
use Rattle.w16_picture.specs.declared.style.Style.TheVariants.{Svg, Text}
use Rattle.w16_picture.specs.{declared.style.TheConstants.HEAD, declared.style.Style.Style}

abbrev pub opening_text : Style → List ℕ
opening_text Svg = HEAD.now
opening_text Text = []

unfoldable pub size_text : ℕ → ℕ → List ℕ
size_text width height = codes "<style>svg{width:" ++ decimal width ++ codes "px;height:" ++ decimal height ++ codes "px}</style></svg>\n"

-- The size of an SVG is known at its end: beside the strips there is room for what stands there.
abbrev pub closing_text : Style → ℕ → ℕ → List ℕ
closing_text Svg strips widest = size_text (widest + 632) (84 * strips + 60)
closing_text Text strips widest = []
