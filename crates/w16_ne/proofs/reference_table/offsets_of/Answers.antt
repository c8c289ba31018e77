use Rattle.w16_ne.proofs.Common.{◌≡◌, ℕ, ◌*◌, ◌+◌, List, [], ◌∷◌, ◌++◌, map, Ok, subst, rules, err_from_is_err_and, map_push, All-push, Truncated, Reading, Refused, word_of, text_at, texts_at, HasText, text_in}
use Rattle.w16_ne.proofs.{Each.goes_on, Each.stops, Until.told_on}
use Rattle.w16_ne.proofs.reference_table.offsets_of.Goals as goal

pub returns-in_err-test_text-clause-exact : goal.returns-in_err-test_text-clause-exact
returns-in_err-test_text-clause-exact g c = λ file names is.
    let texts = c.args.texts.now in
    let entry : ℕ → Reading (List ℕ) = λ i. text_at Truncated file (names + word_of c.args.table.now (2 * i)) in
    let p = err_from_is_err_and c.from_residual-in_err-test_text.result c.from_residual-in_err-test_text.ensures.1 in
    let word : c.word-offset.result ≡ word_of c.args.table.now (2 * c.loop-i.i) = rw (← c.from-in-loop-i.ensures) c.word-offset.ensures in
    let said = subst (λ n. Refused c.in_err-test_text.field-0.0 (text_at Truncated file (names + n))) word (c.in_err-test_text.ensures.exact file names is) in
    rw (p.1, p.2) (told_on c.in_err-test_text.field-0.0 (entry c.loop-i.i) (texts_at file names c.args.table.now c.args.count) said
    (λ e. stops entry (map (text_in texts) c.loop-i.offsets.items) c.args.count c.loop-i.i _ _ c.loop-i-test.true e (c.loop-i.invariant.1 file names is)))

pub loop-i-preserved : goal.loop-i-preserved
loop-i-preserved g c =
    let texts = c.args.texts.now in (
      rw c.in_ok-push.ensures.items (All-push (HasText texts) c.loop-i.offsets.items c.word-offset.result c.loop-i.invariant.0 c.in_ok-test_text.ensures.inside),
      λ file names is.
          let entry : ℕ → Reading (List ℕ) = λ i. text_at Truncated file (names + word_of c.args.table.now (2 * i)) in
          let word : c.word-offset.result ≡ word_of c.args.table.now (2 * c.loop-i.i) = rw (← c.from-in-loop-i.ensures) c.word-offset.ensures in
          let said = subst (λ n. text_at Truncated file (names + n) ≡ Ok (text_in texts c.word-offset.result)) word (c.in_ok-test_text.ensures.exact file names is) in
          let pushed : map (text_in texts) c.push.new.self.items ≡ map (text_in texts) c.loop-i.offsets.items ++ text_in texts c.word-offset.result ∷ [] = rw c.in_ok-push.ensures.items (map_push (text_in texts) c.loop-i.offsets.items c.word-offset.result) in
          rw pushed (goes_on entry (map (text_in texts) c.loop-i.offsets.items) c.args.count c.loop-i.i (text_in texts c.word-offset.result) (texts_at file names c.args.table.now c.args.count) c.loop-i-test.true said (c.loop-i.invariant.1 file names is)),
    )

pub returns-clause-exact : goal.returns-clause-exact
unfolding texts_at
returns-clause-exact g c = search rules
