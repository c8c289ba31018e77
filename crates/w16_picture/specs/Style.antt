-- How many units a strip is wide at least.
use Rattle.std.specs.Prelude.{ℕ}
use Rattle.w16_picture.specs.declared.style.Style.{Style}
use Rattle.w16_picture.specs.declared.style.Style.TheVariants.{Svg, Text}

abbrev pub columns_of : Style → ℕ
columns_of Svg = 960
columns_of Text = 96
