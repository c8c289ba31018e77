use Rattle.w16_script.proofs
use proofs.Common.{◌≡◌, ◌+◌, ◌*◌, true, false, refl, sym, slice_index, arith, ◌∙◌, length-set, nat_tests, decode_step}
use proofs.OneNumberLemmas.{both as parts}
use proofs.DigitLemmas.{one-bad, pair-read, pair-bad, bad_text, whole_text}
use Rattle.w16_script.proofs.bytes.decode.Goals as goal

pub pairs-preserved : goal.pairs-preserved
pairs-preserved c =
    let word = c.args.word.now in let i = c.pairs.at in
    let high = c.digit_of-high in let low = c.digit_of-low in
    let a = slice_index word (2 * i) in let b = slice_index word (2 * i + 1) in
    record {
      sized = length-set c.pairs.bytes i _ ∙ c.pairs.invariant.sized;
      decoded = λ all.
          let (both, second) = parts _ _ all in let (before, first) = parts _ _ both in
          decode_step word c.pairs.bytes i _ (omega arith) (omega arith)
          (pair-read a b high.result low.result (2 * i) high.ensures low.ensures (grind (arith, nat_tests, first)) (grind (arith, nat_tests, second))) (c.pairs.invariant.decoded before);
      bad = λ none other reads. elim c.pairs.are_digits as (λ x. x ≡ c.pairs.are_digits → ⊥) [
        | true ↦ λ all.
            let e = pair-bad a b high.result low.result (2 * i) high.ensures low.ensures (one-bad _ _ _ none (sym all)) in
            bad_text word c.pairs.bytes other i e.0 (omega arith) (omega arith) e.1 (c.pairs.invariant.decoded (sym all)) reads
        | false ↦ λ before. c.pairs.invariant.bad (sym before) other reads
      ] refl;
    }

pub returns-clause-ok : goal.returns-clause-ok
returns-clause-ok c = λ all. whole_text c.args.word.now c.pairs.bytes c.pairs.at (omega arith) (omega arith) (c.pairs.invariant.decoded all)
