use Rattle.std.proofs.Common.{◌≡◌, ◌++◌, take, string_bytes}
use Rattle.std.specs.List.{flat_map}
use Rattle.w16_picture.specs.Svg.{band_text}
use Rattle.w16_picture.proofs.strips.push_bands.Given as goal

abbrev pub invariant-loop-band : goal.invariant-loop-band
invariant-loop-band l = string_bytes l.out ≡ string_bytes l.initial.out ++ flat_map band_text (take l.band-index l.bands)
