use Rattle.w16_script.proofs.Common.{◌≡◌, ◌∷◌, false, get_or, arith, ◌==◌, nat_tests, words_of}
use Rattle.w16_script.proofs.SpellingLemmas.{Reads-unmade}
use Rattle.w16_script.proofs.line.read_line.Goals as goal

pub returns-in-None-clause-reads : goal.returns-in-None-clause-reads
returns-in-None-clause-reads c =
    let loud : (get_or c.in-Some.word.now 0 0 == 59) ≡ false = grind (arith, nat_tests) in
    Reads-unmade c.args.registers.now c.args.line.now (c.in-Some.word.now ∷ words_of c.in-Some.behind.now) (words_of c.in-Some-head.text.now) c.in-Some-head.target c.in-Some-head.name
    c.in-Some.ensures.some loud c.in-Some-head.ensures.found c.in-None.ensures.none
