use Rattle.std.proofs.Common.{ap, refl, ◌∙◌, Some, option_map}
use Rattle.w16_ne.specs.Resources.{Label, Entry, entry_of}
use Rattle.w16_show.specs.Extract.{resource_bytes}
use Rattle.w16_show.proofs.extract.Resources.bytes.Goals as goal

pub returns-in_ok-bytes_of-in-Some : goal.returns-in_ok-bytes_of-in-Some
returns-in_ok-bytes_of-in-Some c =
    let found = ap (option_map (λ (r : Label × Entry). resource_bytes c.args.file.now r.1)) c.in-Some.ensures.found in
    rw (← c.self.view_is) (ap Some (c.in_ok-bytes_of-in-Some.ensures (entry_of c.in-Some.resource) refl refl) ∙ found)
