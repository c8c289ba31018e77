use Rattle.w16_ne.proofs.SegmentsFormat.{segments_format}
use Rattle.w16_ne.proofs.laws.segments_are_read_where_they_are.Goals as goal

pub returns : goal.returns
returns c = segments_format
