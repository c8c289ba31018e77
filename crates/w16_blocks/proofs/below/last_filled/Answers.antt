use Rattle.w16_blocks.proofs.Common.{ℕ, ◌≡◌, ◌+◌, ◌-◌, ◌<◌, ◌≤◌, inl, inr, List, length, take, drop, arith, sym, ap, ◌∙◌, slice_index, cases_lt, get_or-drop, get_or-take, length-take-le}
use Rattle.w16_blocks.proofs.below.last_filled.Goals as goal

-- the last eight cells of a front are blank
eight_more : (begins cells : List ℕ) (end : ℕ) → end ≤ length begins → 8 ≤ end → cells ≡ drop (length (take end begins) - 8) (take end begins) → ((k : ℕ) → k < 8 → slice_index cells k ≡ 0)
    → (k : ℕ) → end - 8 ≤ k → k < end → slice_index begins k ≡ 0
eight_more begins cells end le more is blank k from lt =
    let here : end - 8 + (k - (end - 8)) ≡ k = omega arith in
    let long = length-take-le end begins le in
    let cut = is ∙ ap (λ n. drop (n - 8) (take end begins)) long in
    let there = get_or-drop (end - 8) (take end begins) (k - (end - 8)) 0 ∙ ap (λ n. slice_index (take end begins) n) here in
    sym (get_or-take end begins k 0 lt) ∙ sym there ∙ sym (ap (λ l. slice_index l (k - (end - 8))) cut) ∙ blank _ (omega arith)

pub together-preserved : goal.together-preserved
together-preserved c =
    let le = c.together.invariant.within in
    let long = length-take-le c.together.end c.args.begins.now (let r = c.requires in omega arith) in
    let more : 8 ≤ c.together.end = let e = c.in-Some.ensures.cases.2 in omega arith in
    record {
      within = omega arith;
      blank = λ k from lt. elim (cases_lt k c.together.end) [
        | inl before ↦ eight_more c.args.begins.now c.in-Some.cells.now c.together.end (let r = c.requires in omega arith) more c.in-Some.ensures.cases.1 (c.are_blank.ensures c.if-not-are_blank.false) k from before
        | inr behind ↦ c.together.invariant.blank k behind lt
      ];
    }
