use Rattle.std.proofs.Common.{◌≡◌, take}
use Rattle.std.specs.List.{filter_map}
use Rattle.w16_picture.specs.Bands.{band_to}
use Rattle.w16_picture.proofs.bands.bands_between.Given as goal

abbrev pub invariant-loop-to : goal.invariant-loop-to
invariant-loop-to l = l.bands.items ≡ filter_map (band_to l.before) (take l.to-index l.after)
