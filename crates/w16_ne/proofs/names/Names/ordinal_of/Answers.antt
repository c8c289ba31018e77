use Rattle.w16_ne.proofs.Common.{◌≤◌, length, sym, recursion_from_All, Entry}
use Rattle.w16_ne.proofs.FoundNames.{none_longer}
use Rattle.w16_ne.proofs.names.Names.ordinal_of.Goals as goal

pub returns-then-name-gt255 : goal.returns-then-name-gt255
returns-then-name-gt255 g c =
    let all = recursion_from_All (λ e. length e.0 ≤ 255) c.args.self.now c.reveal_short.ensures in
    sym (none_longer c.args.self.now c.args.name.now c.if-name-gt255.true all)
