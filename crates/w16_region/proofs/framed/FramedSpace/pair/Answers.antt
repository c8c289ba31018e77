use Rattle.w16_region.proofs.Common.{rules, ◌≡◌, ◌<◌, ◌^◌, ℕ, List, length, refl, counted, Framed}
use Rattle.w16_region.proofs.Frames.{same_made}
use Rattle.w16_region.proofs.framed.FramedSpace.pair.Goals as goal

-- src/framed.rt
pub returns : goal.returns
returns g c =
    let e : c.saturating_add-self.result ≡ counted c.args.self.now.written c.args.target_size = search rules in
    let make : (w : List ℕ) → ℕ → length (g.B.Storage.content (g.B.Storage.after_part c.args.self.now.bytes c.args.to w)) < 2 ^ 32 → Framed g.row.B.Denot g.B.Storage = λ w k s. record { bytes = g.B.Storage.after_part _ _ w; written = k; small = s } in
    ((refl, λ w. same_made (make w) _ _ _ _ e), record { source = c.lend_pair.ensures.values.0; target = c.lend_pair.ensures.values.1; writes_back = tt })
