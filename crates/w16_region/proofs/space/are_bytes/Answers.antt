use Rattle.w16_region.proofs.Bytes.{All-bytes}
use Rattle.w16_region.proofs.space.are_bytes.Goals as goal

pub returns : goal.returns
returns c = All-bytes _ c.type_inv.bytes
