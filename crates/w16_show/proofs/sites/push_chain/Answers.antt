use Rattle.std.proofs.Common.{◌≡◌, ◌-◌, length, sym, ◌∙◌, rules, arith}
use Rattle.std.proofs.lemmas.List.{append-nil}
use Rattle.w16_show.proofs.Chains.{chain-ended, chain-step}
use Rattle.w16_show.proofs.sites.push_chain.Goals as goal

pub returns-then-at : goal.returns-then-at
returns-then-at c =
    let ended = chain-ended c.args.bytes.now (length c.args.bytes.now - c.loop.counter) in
    let at : c.loop.at ≡ 65535 = search rules in
    sym (append-nil c.loop.sites.items) ∙ (rw (at, ended) at c.loop.invariant)

pub loop-preserved : goal.loop-preserved
loop-preserved c =
    let more : c.loop.at ≡ 65535 → ⊥ = search rules in
    let here = chain-step c.args.bytes.now c.loop.sites.items (length c.args.bytes.now) c.loop.counter c.loop.at (omega (arith, c.loop-test.true)) more in
    rw (c.in_ok-push.ensures.items, c.next-at.ensures) (sym here ∙ c.loop.invariant)
