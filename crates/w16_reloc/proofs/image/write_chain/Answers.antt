use Rattle.w16_reloc.proofs
use proofs.Common.{◌≡◌, ◌-◌, ◌+◌, ◌<◌, ◌⊎◌, inl, inr, ◌∙◌, length, arith, chain_width, value_of}
use proofs.WalkLemmas.{walk_stops, walk_over, walk_on, chain_narrow, chain_wide}
use proofs.image.write_chain.Goals.{then-at-via-then-at, then-at-via-else-at+then-place-width}
use Rattle.w16_reloc.proofs.image.write_chain.Goals as goal

pub returns-then-at : goal.returns-then-at
returns-then-at c = λ file last total walked.
    let stop : (c.loop.at ≡ 65535) ⊎ (length c.loop.bytes < c.loop.at + chain_width c.args.part) = elim c.then-at.branch [
      | then-at-via-then-at w ↦ inl w.if-at.true
      | then-at-via-else-at+then-place-width w ↦ inr (omega (arith, w.if-place-width.true, c.chain_width-width.ensures.value, c.loop.invariant.0))
    ] in
    walk_stops file _ _ last total _ c.loop.at c.loop.bytes (c.loop.invariant.1 file last total walked) stop

pub loop-preserved : goal.loop-preserved
loop-preserved c = (
  c.write.auto.bytes ∙ c.loop.invariant.0,
  λ file last total walked.
      walk_on file (chain_width c.args.part) (value_of c.args.part c.args.far) last total (length c.args.bytes.now - c.loop.counter) (length c.args.bytes.now - (c.loop.counter + 1)) c.loop.at c.word-next.result c.loop.bytes c.write.new.bytes
      (c.loop.invariant.1 file last total walked) c.if-at.false (chain_wide c.args.part) (chain_narrow c.args.part c.args.far) (omega arith) c.word-next.ensures c.write.auto.bytes c.write.ensures,
)

pub returns : goal.returns
returns c = λ file last total walked. walk_over file _ _ last total _ c.loop.at c.loop.bytes (c.loop.invariant.1 file last total walked) (omega (arith, c.loop-test.false))
