use Rattle.std.proofs.Common.{◌≡◌, ℕ, List, map, refl, rules, Option, Some, None, ◌∙◌}
use Rattle.std.specs.{List.find, String.string_bytes}
use Rattle.w16_store.specs.Names.{is_named}
use Rattle.w16_store.proofs.Finding.{length_from_read, not_in_folder, bytes_of_listed}
use Rattle.w16_store.proofs.folder.DirStoreStore.len_of.Goals as goal

pub returns-in-None-clause-honest : goal.returns-in-None-clause-honest
returns-in-None-clause-honest g c = λ honest.
    let names = map string_bytes c.args.self.now.names.items in
    let name = c.args.name.now in
    let none : find (λ m. is_named m name) names ≡ None = search rules in
    rw (not_in_folder names (g.D.Disk.files c.args.self.now.disk) name none) refl

pub returns-in-None-clause-missing : goal.returns-in-None-clause-missing
returns-in-None-clause-missing g c = λ e.
    let none : find (λ m. is_named m c.args.name.now) (map string_bytes c.args.self.now.names.items) ≡ None = search rules in
    not_in_folder (map string_bytes c.args.self.now.names.items) (g.D.Disk.files c.args.self.now.disk) c.args.name.now none

pub returns-in-Ok-clause-unlisted : goal.returns-in-Ok-clause-unlisted
returns-in-Ok-clause-unlisted g c = λ none.
    let is : Some c.in-Some.listed.now ≡ find (λ m. is_named m c.args.name.now) (map string_bytes c.args.self.now.names.items) = search rules in
    absurd (let e : ◌≡◌ {A = Option (List ℕ)} (Some c.in-Some.listed.now) None = is ∙ none in cc)

pub returns-in-Err-clause-unlisted : goal.returns-in-Err-clause-unlisted
returns-in-Err-clause-unlisted g c = λ none.
    let is : Some c.in-Some.listed.now ≡ find (λ m. is_named m c.args.name.now) (map string_bytes c.args.self.now.names.items) = search rules in
    absurd (let e : ◌≡◌ {A = Option (List ℕ)} (Some c.in-Some.listed.now) None = is ∙ none in cc)

pub returns-in-Ok-clause-honest : goal.returns-in-Ok-clause-honest
returns-in-Ok-clause-honest g c = λ honest.
    let names = map string_bytes c.args.self.now.names.items in
    let name = c.args.name.now in
    let is : Some c.in-Some.listed.now ≡ find (λ m. is_named m name) names = search rules in
    let read = c.in-Ok.ensures.honest honest in
    length_from_read names (g.D.Disk.files c.args.self.now.disk) name c.in-Some.listed.now read.0 c.in-Ok.len is read.1 read.2

pub returns-in-Ok-clause-bytes : goal.returns-in-Ok-clause-bytes
returns-in-Ok-clause-bytes g c = λ honest.
    let names = map string_bytes c.args.self.now.names.items in
    let name = c.args.name.now in
    let is : Some c.in-Some.listed.now ≡ find (λ m. is_named m name) names = search rules in
    let read = c.in-Ok.ensures.honest honest in
    bytes_of_listed names (g.D.Disk.files c.args.self.now.disk) name c.in-Some.listed.now read.0 is read.1 (c.in-Ok.ensures.bytes honest)
