use Rattle.std.proofs.lemmas.Simd as M
use Rattle.w16_script.proofs.{Common.is_blank, WordsLemmas.blank_lanes}
use Rattle.w16_script.proofs.words.blank_among.Goals as goal
use lib.Lanes.{chunk}

pub returns : goal.returns
returns c =
    let text = c.args.text.now in
    let at = c.args.at in
    let v = chunk at 16 text in
    let long = M.length-chunk at 16 text c.requires in
    let counted = blank_lanes text at _ _ c.requires c.lowest_bit.ensures (M.zip2_of_maps _ _ _ v (M.zip2_splat _ v 16 32 long) (M.zip2_splat _ v 16 9 long)) in
    record {
      within = M.run_in_chunk_le is_blank text at 16 _ 0 c.requires counted;
      before = M.run_in_chunk_fails is_blank text at 16 _ 0 c.requires counted;
      stop = M.run_in_chunk_stops is_blank text at 16 _ 0 c.requires counted;
    }
