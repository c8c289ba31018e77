use Rattle.std.proofs.Common.{◌≡◌, ap, rules, Some, None, position}
use Rattle.std.proofs.lemmas.List.Quantifiers.{position-Some}
use Rattle.w16_store.specs.{declared.memory.File.File, Names.is_named}
use Rattle.w16_store.proofs.Finding.{with_replaced, with_added, fails_before}
use Rattle.w16_store.proofs.memory.MemStore.add.Goals as goal

pub returns-in-Some-clause-ok : goal.returns-in-Some-clause-ok
returns-in-Some-clause-ok c =
    let files = c.self.inside.files.items in
    let name = c.args.name.now in
    let found = c.index_mut.result.now in
    let place : position (λ (f : File). is_named f.name.items name) files ≡ Some c.in-Some.i = search rules in
    let at = position-Some (λ (f : File). is_named f.name.items name) files c.in-Some.i found place in
    rw (← c.self.view_is) (with_replaced name c.args.bytes.now files c.in-Some.i found _ at.0 at.1 at.2 (ap (λ (f : File). f.name.items) c.index_mut.ensures.value) c.in_ok-bytes.ensures.items)

pub returns-clause-ok : goal.returns-clause-ok
returns-clause-ok c =
    let files = c.self.inside.files.items in
    let name = c.args.name.now in
    let place : position (λ (f : File). is_named f.name.items name) files ≡ None = search rules in
    let none = fails_before (λ (f : File). is_named f.name.items name) files place in
    rw (c.in_ok-push.ensures.items, ← c.self.view_is) (with_added name c.args.bytes.now files _ none c.in_ok-name.ensures.items c.in_ok-bytes.ensures.items)
