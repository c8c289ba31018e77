use Rattle.std.proofs.Common.{◌≡◌, ◌∙◌, List, All, sym, subst, arith}
use Rattle.std.proofs.{lemmas.Grind.common_steps, lemmas.List.Elements.Contains-get_or}
use Rattle.std.specs.List.{filter_map}
use Rattle.w16_picture.specs.{declared.bands.Band.Band, Bands.JoinsObject, Bands.band_to}
use Rattle.w16_picture.proofs.Joining.{no_rect, filter_map-some, filter_map-none, joins-all}
use Rattle.w16_picture.proofs.bands.bands_between.Goals.{in-Some+in_ok-push, in_default}
use Rattle.w16_picture.proofs.bands.bands_between.Goals as goal

pub loop-to-preserved : goal.loop-to-preserved
loop-to-preserved c =
    let made = c.band_in.ensures c.args.before.now c.in_ok-places.ensures in
    elim c.match-band_in.branch [
      | in-Some+in_ok-push w ↦ let next = filter_map-some (band_to c.args.before.now) c.args.after.now c.loop-to.to-index no_rect w.in-Some.band c.loop-to-test.true (sym made ∙ w.in-Some.is) in grind (arith, common_steps, next)
      | in_default w ↦ let next = filter_map-none (band_to c.args.before.now) c.args.after.now c.loop-to.to-index no_rect c.loop-to-test.true (sym made ∙ w.in_default.is) in grind (arith, common_steps, next)
    ]

pub returns-clause-joins : goal.returns-clause-joins
returns-clause-joins c =
    let value : c.loop-to.bands.items ≡ filter_map (band_to c.args.before.now) c.args.after.now = grind (arith, common_steps) in
    subst (λ (bands : List Band). All (JoinsObject c.args.before.now c.args.after.now) bands) (sym value)
    (joins-all c.args.before.now c.args.after.now c.args.after.now (λ k d less. Contains-get_or c.args.after.now k d less))
