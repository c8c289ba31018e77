-- What the memory as a whole shows.
use Rattle.w16_global.proofs
use proofs.Common as C
use proofs.Common.{◌≡◌, ℕ, ◌+◌, ◌*◌, ◌≤◌, List, length, Option, Some, None, option_map, unwrap_or, is_some, true, sym, ap, ◌∙◌, subst, refl, arith, part, REACH, Block, Handles, Part, AreParts, Holding, ArenaState, holding_of, block_with, part_of_selector}
use proofs.{Parts.place_shown, Written.no_part, Written.seen}
use Rattle.std.proofs.Common.{take_all}
use Rattle.w16_global.specs.{Loans.bytes_from, Shown.ShowsBytes, Shown.ShowsObjects}
use Rattle.std.specs.FinMap as finmap

-- The whole memory of sound parts.
module _ {state : ArenaState} {memory : List ℕ} (parts : AreParts state memory) {count : ℕ} {h : Holding} (shown : holding_of state memory count ≡ h) {size : ℕ} (long : size ≡ length memory) {bytes : List ℕ} (is : bytes ≡ part memory 0 size) where
  whole : bytes ≡ memory
  whole = is ∙ take_all size memory (omega (arith, long))

  pub memory_long : length bytes ≡ h.heap.hi
  memory_long = ap length whole ∙ sym parts.high ∙ ap (λ (h : Holding). h.heap.hi) shown

  pub memory_shows : ShowsObjects bytes h.heap
  memory_shows id at n has = ap (λ m. part m (unwrap_or (finmap.get h.heap.places id) 0 + at) n) whole ∙ turn (block_with state.table.blocks id) refl
    where
      turn : (b : Option Block) → block_with state.table.blocks id ≡ b → part memory (unwrap_or (finmap.get h.heap.places id) 0 + at) n ≡ bytes_from h.heap id at n
      turn None none = absurd (no_part parts id shown none at n has)
      turn (Some x) there = ap (λ p. part memory (unwrap_or p 0 + at) n) (place_shown parts shown id ∙ ap (option_map (λ (x : Block). x.at)) there) ∙ seen parts id shown there at n has

-- Where a memory shows the objects, a selector's base is the place of what it reaches.
pub memory_shown : (w : Handles) → C.AreHandles w → (memory : List ℕ) → ShowsObjects memory w.heap → ShowsBytes memory w
memory_shown w are memory shows selector offset n fine =
    ap (λ k. part memory k n) (turn _ refl (are.heap.at_bytes _ ∙ ap is_some found.here))
    ∙ shows _ _ n (subst (λ b. C.IsSomeAnd b (λ bytes. C.far_at w selector offset + n ≤ length bytes)) (sym found.here) found.fits)
  where
    found : C.Reached w (C.far_slot w selector) (C.far_at w selector offset + n)
    found = C.reached w _ _ n fine

    place : Part → Option ℕ
    place p = finmap.get w.heap.places p.slot

    far : Option Part → Part
    far p = unwrap_or p (record { slot = 0; number = 0 })

    base : Option Part → ℕ
    base p = elim p [ None ↦ 0 | Some p ↦ unwrap_or (option_map (λ at. at + REACH * p.number) (place p)) 0 ]

    moved : (at : Option ℕ) (k : ℕ) → is_some at ≡ true → unwrap_or (option_map (λ at. at + k) at) 0 + offset ≡ unwrap_or at 0 + (k + offset)
    moved None k e = cc
    moved (Some at) k e = omega arith

    turn : (p : Option Part) → part_of_selector w selector ≡ p → is_some (place (far p)) ≡ true → base p + offset ≡ unwrap_or (place (far p)) 0 + (REACH * (far p).number + offset)
    turn None e some = cc
    turn (Some p) e some = moved _ _ some
