use Rattle.w16_ne.proofs.Common.{◌∙◌, ap, rules, Ok, Tables, tables_behind}
use Rattle.w16_ne.proofs.{Parts.told_behind, Tables.same_tables}
use Rattle.w16_ne.specs.Parts.{parts_behind}
use Rattle.w16_ne.proofs.read.tables.Goals as goal

pub returns-in_err-references-clause-part : goal.returns-in_err-references-clause-part
unfolding parts_behind
returns-in_err-references-clause-part g c = search rules

pub returns-clause-exact : goal.returns-clause-exact
unfolding tables_behind
returns-clause-exact g c = λ honest.
    let s1 = c.segments.ensures.stays.same in
    let s2 = c.resident.ensures.stays.same ∙ s1 in
    let s3 = c.references.ensures.stays.same ∙ s2 in
    let s4 = c.entries.ensures.stays.same ∙ s3 in
    let s5 = c.add_nonresident.ensures.stays.same ∙ s4 in
    let exact_segments = rw c.in_ok-segments.ensures.ok at c.segments.ensures.exact in
    let segments = exact_segments honest in
    let exact_resident = rw (s1, c.in_ok-module_name.ensures.ok) at c.resident.ensures.exact in
    let resident = exact_resident honest in
    let exact_references = rw (s2, c.in_ok-references.ensures.ok) at c.references.ensures.exact in
    let references = exact_references honest in
    let exact_entries = rw (s3, c.in_ok-entries.ensures.ok) at c.entries.ensures.exact in
    let entries = exact_entries honest in
    let exact_nonresident = rw (s4, c.in_ok-in_part.ensures.ok) at c.add_nonresident.ensures.exact in
    let nonresident = exact_nonresident _ honest c.new-listing.ensures in
    let exact_resources = rw (s5, c.in_ok-resources.ensures.ok) at c.resources.ensures.exact in
    let resources = exact_resources honest in
    rw (segments, resident.1, references, entries, nonresident.1, resources) (ap (λ t. Ok t)
    (same_tables _ resident.0 nonresident.0 _ resident.2.first nonresident.2.first resident.2.names nonresident.2.names c.len-resident.ensures.len))

pub returns-clause-part : goal.returns-clause-part
returns-clause-part g c = λ honest. told_behind _ _ _ _ (returns-clause-exact g c honest)
