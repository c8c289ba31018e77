-- A store in memory never fails, so a fault that is told over it is the segment's.
use Rattle.std.proofs.Common.{true, [], ◌∷◌, ◌≡◌, Option, Some, Result, Err, refl, arith}
use Rattle.w16_store.specs.Names.{is_named}
use Rattle.w16_store.proofs.Naming.{is_named-Decides}
use Rattle.w16_store.specs.declared.store.StoreFault.TheVariants as stores
use Rattle.w16_reloc.specs.declared.fault.RelocFault.{RelocFault}
use Rattle.w16_reloc.specs.declared.fault.RelocFault.TheVariants as relocs
use Rattle.w16_reloc.specs.Segments as segments

pub told_of_segment : {Y : Type 0} (fault : RelocFault) (said : Result Y RelocFault) → segments.Refuses 0 0 fault said → said ≡ Err fault
told_of_segment relocs.BadRecord said h = h
told_of_segment relocs.SiteOutside said h = h
told_of_segment relocs.Overlap said h = h
told_of_segment (relocs.Store stores.Missing) said h = absurd h
told_of_segment (relocs.Store stores.Short) said h = absurd h
told_of_segment (relocs.Store stores.Device) said h = absurd (omega (arith, h))

-- a store has its one file under its name
pub own : is_named (70 ∷ 73 ∷ 76 ∷ 69 ∷ []) (70 ∷ 73 ∷ 76 ∷ 69 ∷ []) ≡ true
own = (is_named-Decides (70 ∷ 73 ∷ 76 ∷ 69 ∷ []) (70 ∷ 73 ∷ 76 ∷ 69 ∷ [])).1 refl

pub some_same : {X : Type 0} (x y : X) (o : Option X) → o ≡ Some x → o ≡ Some y → x ≡ y
some_same x y o h k = cc
