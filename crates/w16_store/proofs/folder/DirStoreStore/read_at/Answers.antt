use Rattle.std.proofs.Common.{◌≡◌, map, refl, rules, Some, None}
use Rattle.std.specs.{List.find, String.string_bytes}
use Rattle.w16_store.specs.Names.{is_named}
use Rattle.w16_store.proofs.Finding.{bytes_from_read, short_from_read, not_in_folder}
use Rattle.w16_store.proofs.folder.DirStoreStore.read_at.Goals as goal

pub returns-in_default-clause-honest : goal.returns-in_default-clause-honest
returns-in_default-clause-honest g c = λ honest.
    let names = map string_bytes c.args.self.now.names.items in
    let name = c.args.name.now in
    let none : find (λ m. is_named m name) names ≡ None = search rules in
    rw (not_in_folder names (g.D.Disk.files c.args.self.now.disk) name none) refl

pub returns-then-has_part-clause-honest : goal.returns-then-has_part-clause-honest
returns-then-has_part-clause-honest g c = λ honest.
    let names = map string_bytes c.args.self.now.names.items in
    let name = c.args.name.now in
    let is : Some c.in-Some.listed.now ≡ find (λ m. is_named m name) names = search rules in
    bytes_from_read names (g.D.Disk.files c.args.self.now.disk) name c.in-Some.listed.now 0 0 c.in-Ok.len c.args.at c.args.buf.now c.read.new.buf is (c.in-Ok.ensures.honest honest) (search rules)

pub returns-else-has_part-clause-honest : goal.returns-else-has_part-clause-honest
returns-else-has_part-clause-honest g c = λ honest.
    let names = map string_bytes c.args.self.now.names.items in
    let name = c.args.name.now in
    let is : Some c.in-Some.listed.now ≡ find (λ m. is_named m name) names = search rules in
    short_from_read names (g.D.Disk.files c.args.self.now.disk) name c.in-Some.listed.now 0 0 c.in-Ok.len c.args.at c.args.buf.now c.read.new.buf is (c.in-Ok.ensures.honest honest) (search rules)
