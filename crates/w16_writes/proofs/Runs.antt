-- Steps that each keep what is written read back what they write.
use Rattle.std.proofs.Common.{◌≡◌, ℕ, List, [], ◌∷◌, ◌++◌, Some, ◌∙◌, subst}
use Rattle.w16_machine.proofs.Common.{Event, World}
use Rattle.w16_writes.proofs.Bytes.{only}
use Rattle.w16_writes.specs.LastWrite.{Position, AllKeepWritten, IsThere, IsUndisturbed, Reads, ReadsBackLaw, Writes, byte_at, position_after, position_after_all, world_after}

-- the byte of an undisturbed position, where it has gone
undisturbed : (p : Position) (byte : ℕ) (w : World) (between more : List Event) → byte_at w p ≡ Some byte → IsUndisturbed p w between → AllKeepWritten w (between ++ more)
    → (byte_at (world_after w between) (position_after_all w between p) ≡ Some byte) × AllKeepWritten (world_after w between) more
undisturbed p byte w [] more has free keeps = (has, keeps)
undisturbed p byte w (event ∷ between) more has free keeps = undisturbed (position_after w event p) byte event.after between more (keeps.0.kept p free.0 (first between free.2) free.1 ∙ has) free.2 keeps.1
  where
    first : (between : List Event) → IsUndisturbed (position_after w event p) event.after between → IsThere event.after (position_after w event p)
    first [] free = free
    first (next ∷ rest) free = free.0

-- from the step that writes
from_write : (w : World) (before between after : List Event) (writing reading : Event) (p : Position) (byte found : ℕ) → AllKeepWritten w (before ++ (writing ∷ (between ++ (reading ∷ after)))) → Writes writing p byte
    → IsUndisturbed p writing.after between → Reads (world_after writing.after between) reading (position_after_all writing.after between p) found → found ≡ byte
from_write w [] between after writing reading p byte found keeps writes free reads =
    let r = undisturbed p byte _ between _ (keeps.0.written p byte writes) free keeps.1 in
    only (r.1.0.read _ found reads) r.0
from_write w (event ∷ before) between after writing reading p byte found keeps writes free reads = from_write _ before between after writing reading p byte found keeps.1 writes free reads

pub reads_back_law : ReadsBackLaw
reads_back_law old events keeps before between after writing reading p byte found e = from_write old before between after writing reading p byte found (subst (AllKeepWritten old) e keeps)
