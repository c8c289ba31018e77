use Rattle.std.proofs.Common.{arith}
use Rattle.w16_ne.proofs.Windows.{text_there, text_ends, refused_of_file, byte_small}
use Rattle.w16_ne.proofs.text_window.test_text.Goals as goal

pub returns-then-not-has_text-clause-exact : goal.returns-then-not-has_text-clause-exact
returns-then-not-has_text-clause-exact c = λ file at is.
    refused_of_file c.args.short _ c.requires
    (text_ends c.args.short file at c.args.word c.args.texts.now is (omega arith) (byte_small c.args.texts.now c.args.word c.reveal_bytes.ensures) (rw c.from.ensures at c.if-not-has_text.ensures))

pub returns-clause-exact : goal.returns-clause-exact
returns-clause-exact c = λ file at is.
    text_there c.args.short file at c.args.word c.args.texts.now is (omega arith) (byte_small c.args.texts.now c.args.word c.reveal_bytes.ensures) (rw c.from.ensures at c.if-not-has_text.ensures)
