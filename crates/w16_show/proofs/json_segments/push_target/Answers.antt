use Rattle.w16_show.proofs.json_segments.push_target.Goals as goal

pub returns-in-ByOrdinal : goal.returns-in-ByOrdinal
returns-in-ByOrdinal c = rw c.in-ByOrdinal.is (c.push_by_ordinal.ensures c.args.file.now)
