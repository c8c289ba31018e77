-- The first segment that isn't sound, segment by segment.
use Rattle.std.proofs.Common.{◌≡◌, ℕ, List, ◌+◌, drop, slice_get, Option, Some, Result, Ok, Err, refl, add-one}
use Rattle.w16_ne.specs.{declared.segment_table.Segment.Segment, Modules.Tables}
use Rattle.w16_reloc.specs.{declared.fault.RelocFault.RelocFault, Segments.Held, Segments.checked}
use Rattle.w16_show.specs.{declared.verdict.Unsound.Unsound, Report.first_unsound}
use Rattle.w16_show.proofs.Numbering.{left-from}
use Rattle.w16_reloc.specs.Segments as segments

module _ (file : List ℕ) (tables : Tables) (s : Segment) where
  pub unsound-here : (n : ℕ) (segments : List Segment) (i : ℕ) (fault : RelocFault) → slice_get segments i ≡ Some s → checked file tables s ≡ Err fault
      → first_unsound file tables n (drop i segments) ≡ Some (record { segment = n; fault = fault })
  unsound-here n segments i fault h e = rw (left-from segments i s h, e) refl

  pub unsound-later : (n : ℕ) (segments : List Segment) (i : ℕ) (held : Held) → slice_get segments i ≡ Some s → checked file tables s ≡ Ok held
      → first_unsound file tables (n + 1) (drop (i + 1) segments) ≡ first_unsound file tables n (drop i segments)
  unsound-later n segments i held h e = rw (add-one n, add-one i, left-from segments i s h, e) refl

-- where a check passed
pub passed : (result : Result (Unit {0}) RelocFault) (said : Result Held RelocFault) (held : Held) (before after : Option Unsound)
    → segments.Answers {X = Unit {0}} (λ _. held) 0 0 result said → ((e : RelocFault) → result ≡ Err e → ⊥) → ((h : Held) → said ≡ Ok h → after ≡ before) → after ≡ before
passed (Ok u) said held before after h not go = go held h
passed (Err e) said held before after h not go = absurd (not e refl)
