use Rattle.w16_region.proofs.Common.{ℕ, List, ap, ◌∙◌, word_in}
use Rattle.w16_region.proofs.Words.{items-put_word, word_in-put_word}
use Rattle.w16_region.proofs.region.Region.set_word.Goals as goal

pub returns-clause-bytes : goal.returns-clause-bytes
returns-clause-bytes g c = items-put_word c.args.self.now.bytes _ _ c.lend_part.result.now _ c.requires c.lend_part.ensures.value c.write_u32.ensures

pub returns-clause-word : goal.returns-clause-word
returns-clause-word g c =
    ap (λ l. word_in l c.args.at) (items-put_word c.args.self.now.bytes _ _ c.lend_part.result.now _ c.requires c.lend_part.ensures.value c.write_u32.ensures)
    ∙ word_in-put_word c.args.self.now.bytes.items c.args.at _ c.requires c.ranges.value.fits
