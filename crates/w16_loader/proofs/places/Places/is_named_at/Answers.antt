-- Nothing of the name stands where the tag differs.
use Rattle.std.proofs.Common.{length, ap, arith}
use Rattle.std.proofs.lemmas.Slice.Zip.{AllZip-long}
use Rattle.w16_loader.proofs.NameTags.{other_tag}
use Rattle.w16_loader.proofs.places.Places.is_named_at.Goals as goal

pub returns-then-index-tag : goal.returns-then-index-tag
returns-then-index-tag g c = rw (← c.self.view_is) (other_tag c.args.name.now c.args.tag c.requires.tag _ _ c.args.place c.index.result.now c.self.invariant.1 c.index.ensures c.if-index-tag.true)

pub index-requires : goal.index-requires
index-requires g c = omega (arith, AllZip-long _ _ _ c.self.invariant.1, ap length c.self.view_is, c.requires.inside)
