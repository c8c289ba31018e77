use Rattle.w16_region.proofs.Common.{rules, ◌≡◌, ◌<◌, ◌^◌, ℕ, List, length, refl, Vec, with_items, put_part, counted, Region}
use Rattle.w16_region.proofs.Frames.{same_made}
use Rattle.w16_region.proofs.region.RegionSpace.pair.Goals as goal

-- src/region.rt
pub returns : goal.returns
returns g c =
    let e : c.saturating_add-self.result ≡ counted c.args.self.now.written c.args.target_size = search rules in
    let left : List ℕ → Vec ℕ g.row.A.Denot = λ w. with_items c.args.self.now.bytes (put_part _ _ w) in
    let make : (w : List ℕ) → ℕ → length (left w).items < 2 ^ 32 → Region g.row.A.Denot = λ w k s. record { bytes = left w; written = k; small = s } in
    ((refl, λ w. same_made (make w) _ _ _ _ e), record { source = c.lend_pair.ensures.values.0; target = c.lend_pair.ensures.values.1; writes_back = tt })
