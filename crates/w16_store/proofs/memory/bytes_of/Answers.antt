use Rattle.std.proofs.Common.{◌≡◌, sym, rules, Some, None, position}
use Rattle.std.proofs.lemmas.List.Quantifiers.{position-Some}
use Rattle.w16_store.specs.{declared.memory.File.File, Names.is_named}
use Rattle.w16_store.proofs.Finding.{at_place, nowhere, fails_before}
use Rattle.w16_store.proofs.memory.bytes_of.Goals as goal

pub returns-in_err-i : goal.returns-in_err-i
returns-in_err-i c =
    let files = c.args.files.now in
    let name = c.args.name.now in
    let place : position (λ (f : File). is_named f.name.items name) files ≡ None = search rules in
    rw c.from_residual.ensures (sym (nowhere files name (fails_before (λ (f : File). is_named f.name.items name) files place)))

pub returns : goal.returns
returns c =
    let files = c.args.files.now in
    let name = c.args.name.now in
    let found = c.index-files-i.result in
    let place : position (λ (f : File). is_named f.name.items name) files ≡ Some c.in_ok-i.i = search rules in
    let at = position-Some (λ (f : File). is_named f.name.items name) files c.in_ok-i.i found place in
    let e = at_place files name c.in_ok-i.i found at.0 at.1 at.2 in
    cc (c.index-files-i.is, c.as_slice.ensures.value)
