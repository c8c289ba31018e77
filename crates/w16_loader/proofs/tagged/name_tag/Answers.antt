-- Before the first byte the tag is 0.
use Rattle.std.proofs.Common.{refl, arith}
use Rattle.w16_loader.specs.Tags.{name_tag}
use Rattle.w16_loader.proofs.tagged.name_tag.Goals as goal

pub loop-byte-init : goal.loop-byte-init
unfolding name_tag
loop-byte-init c = record { fits = omega arith; same = refl }
