use Rattle.std.proofs.Common.{◌≡◌, ◌++◌, take, string_bytes}
use Rattle.std.specs.List.{flat_map}
use Rattle.w16_show.specs.Text.{site_text}
use Rattle.w16_show.proofs.relocations.push_sites.Given as goal

abbrev pub invariant-loop-site : goal.invariant-loop-site
invariant-loop-site l = string_bytes l.out ≡ string_bytes l.initial.out ++ flat_map site_text (take l.site-index l.sites)
