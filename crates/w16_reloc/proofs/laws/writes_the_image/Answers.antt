use Rattle.w16_reloc.proofs.{Common.[], Common.length, Common.all_sites, Common.byte, Common.patches, ApartLemmas.sound_steps, ImageLemmas.image_is, ImageLemmas.fit_all}
use Rattle.w16_reloc.proofs.laws.writes_the_image.Goals as goal

pub returns : goal.returns
returns c = λ file records values named o many sound.
    image_is (length file) (patches file records values named) (all_sites records named) [] (byte file) o (fit_all file records values named many sound.0) (sound_steps file records named sound.0 sound.1)
