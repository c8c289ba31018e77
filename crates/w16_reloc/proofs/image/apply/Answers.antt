use Rattle.w16_reloc.proofs
use proofs.Common.{◌≡◌, ◌∙◌, [], drop, take, take_all, subst, All, refl, arith, All-more, IsFar, drop_of_length-le, byte, patches, over_each}
use proofs.ApartLemmas.{sound_steps}
use proofs.ImageLemmas.{open_next, open_done, written_image}
use Rattle.w16_reloc.proofs.image.apply.Goals as goal

pub loop-i-preserved : goal.loop-i-preserved
loop-i-preserved c = (
  c.write_record.auto.bytes ∙ c.loop-i.invariant.0,
  λ file total begun.
      open_next file total c.args.records.now c.args.targets.now c.loop-i.i _ _ c.loop-i.bytes c.write_record.new.bytes c.loop-i-test.true c.requires (c.loop-i.invariant.1 file total begun) c.write_record.auto.bytes
      (c.write_record.ensures file),
  All-more IsFar c.args.targets.now c.loop-i.i _ (omega (arith, c.requires, c.loop-i-test.true)) c.loop-i.invariant.2 c.reveal_words.ensures,
)

pub returns-clause-image : goal.returns-clause-image
returns-clause-image c = λ file named sound fits begun.
    let all = c.loop-i.invariant.1 file (over_each (patches file c.args.records.now c.args.targets.now named) (byte c.args.bytes.now)) (record {
      before = [];
      named = named;
      room = fits;
      names = sound.0;
      sound = sound_steps file c.args.records.now named sound.0 sound.1;
      outside = λ o clear. begun o;
      each = λ o. refl;
    }) in
    let none : drop c.loop-i.i c.args.records.now ≡ [] = drop_of_length-le c.args.records.now c.loop-i-test.false in
    let last = rw none at all in
    written_image file c.args.records.now c.args.targets.now named c.args.bytes.now c.loop-i.bytes c.requires sound begun (open_done file _ _ c.loop-i.bytes last)

pub returns-clause-words : goal.returns-clause-words
returns-clause-words c =
    let whole : take c.loop-i.i c.args.targets.now ≡ c.args.targets.now = take_all c.loop-i.i c.args.targets.now (omega (arith, c.requires, c.loop-i-test.false)) in
    subst (All IsFar) whole c.loop-i.invariant.2
