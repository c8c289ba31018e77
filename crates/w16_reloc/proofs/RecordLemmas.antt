-- One record's values, written.
use Rattle.w16_reloc.proofs
use proofs.Common as C
use proofs.Common.{◌≡◌, ℕ, ◌+◌, ◌≤◌, List, length, false, refl, ◌∙◌, ap, arith, Part, Fixup, Added, Far, Site, meets, chain_width, value_width, byte, value_of, found_at, moved, over, IsReady, IsWritten}
use proofs.WalkLemmas.{byte_kept, word_kept, outside_kept, value_narrow, chain_wide, walk_done}
use proofs.Count.{no_more_sites}

found_kept : (file bytes : List ℕ) (sites : List Site) (at : ℕ) (part : Part) → C.list_any (meets (record { at = at; width = value_width part })) sites ≡ false → C.IsFileOutside sites file bytes → found_at part bytes at ≡ found_at part file at
found_kept file bytes sites at C.LowByte none out = byte_kept file bytes sites at 1 at (omega arith) (omega arith) none out
found_kept file bytes sites at C.Selector none out = refl
found_kept file bytes sites at C.Pointer none out = word_kept file bytes sites at 4 (omega arith) none out
found_kept file bytes sites at C.Offset none out = word_kept file bytes sites at 2 (omega arith) none out

pub sum_inside : (file bytes : List ℕ) (before : List Site) (fixup : Fixup) (ats : List ℕ) → IsReady file bytes before (Added fixup) ats → fixup.offset + value_width fixup.part ≤ length bytes
sum_inside file bytes before fixup ats ready =
    let sound = rw ready.names at ready.sound in omega (arith, sound.0, ready.room)

pub sum_written : (file old new : List ℕ) (before : List Site) (fixup : Fixup) (far sum : Far) (ats : List ℕ) → IsReady file old before (Added fixup) ats → sum ≡ moved far (found_at fixup.part old fixup.offset)
    → ((o : ℕ) → byte new o ≡ over (record { at = fixup.offset; value = value_of fixup.part sum }) (byte old) o) → IsWritten file old new before (Added fixup) far ats
sum_written file old new before fixup far sum ats ready added put =
    let sound = rw ready.names at ready.sound in
    let same = added ∙ ap (moved far) (found_kept file old before fixup.offset fixup.part sound.1 ready.outside) in
    record {
      each = rw (ready.names, ← same) put;
      outside = rw ready.names (outside_kept file old new (value_of fixup.part sum) before fixup.offset (value_width fixup.part) (value_narrow fixup.part sum) ready.outside put);
    }

pub chain_ready : (file bytes : List ℕ) (before : List Site) (fixup : Fixup) (far : Far) (ats : List ℕ) → IsReady file bytes before (C.Stored fixup) ats
    → C.IsWalked file (chain_width fixup.part) (value_of fixup.part far) (C.joined before (C.of_width (chain_width fixup.part) ats)) (C.over_each (C.stored_at (value_of fixup.part far) ats) (byte bytes)) (length bytes) fixup.offset bytes
chain_ready file bytes before fixup far ats ready =
    let wide = chain_wide fixup.part in
    record {
      before = before;
      ats = ats;
      room = ready.room;
      few = omega (arith, no_more_sites (length file) (chain_width fixup.part) before ats (omega (arith, wide)) ready.sound, ready.room);
      chain = ready.names;
      sound = ready.sound;
      ends = refl;
      outside = ready.outside;
      each = λ o. refl;
    }

pub chain_written : (file old new : List ℕ) (before : List Site) (fixup : Fixup) (far : Far) (ats : List ℕ)
    → C.IsWalked file (chain_width fixup.part) (value_of fixup.part far) (C.joined before (C.of_width (chain_width fixup.part) ats)) (C.over_each (C.stored_at (value_of fixup.part far) ats) (byte old)) 0 65535 new → IsWritten file old new before (C.Stored fixup) far ats
chain_written file old new before fixup far ats walked =
    let done = walk_done file _ _ _ _ 65535 new walked in record { each = done.0; outside = done.1 }

pub system_written : (file bytes : List ℕ) (before : List Site) (far : Far) (ats : List ℕ) → IsReady file bytes before C.System ats → IsWritten file bytes bytes before C.System far ats
system_written file bytes before far ats ready = record { each = λ o. refl; outside = rw ready.names ready.outside }
