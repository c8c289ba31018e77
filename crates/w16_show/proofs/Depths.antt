-- What is printed nests less deep than a reader of JSON allows.
use Rattle.w16_show.specs.Json as M
use Rattle.std.proofs.Common.{ℕ, suc, ◌≤◌, Bool, true, false, List, [], ◌∷◌, ◌++◌, Option, Some, None, Result, Ok, Err, map, unwrap_or, option_map, arith}
use Rattle.serde_json.specs.{Data.Data, Data.null, Data.string, Data.depth, Data.items_depth, View.items_of}
use Rattle.w16_ne.specs.declared.entry_table.Entry.TheVariants.{InSegment, Constant}
use Rattle.w16_ne.specs.{declared.entry_table.Entry.Entry, declared.segment_table.Segment.Segment, Modules.Tables, Modules.listed_resources, Resources.Label, Resources.Number, Resources.Text}
use Rattle.w16_reloc.specs.declared.record.Record.TheVariants.{Stored, Added, System}
use Rattle.w16_reloc.specs.{declared.fault.RelocFault.RelocFault, declared.record.Fixup.Fixup, declared.record.Record.Record, declared.record.Target.Target, Naming.offsets_of, Segments.Held, Segments.checked}
use Rattle.w16_show.specs.{Numbered.numbered, Words.kind_name, Imports.imports, Json.n}
use Rattle.w16_ne.specs.Resources as resources
use Rattle.w16_reloc.specs.declared.record.Target.TheVariants as target

-- each nests at most so deep
abbrev Shallow : ℕ → List Data → Type 0
Shallow k [] = Unit {0}
Shallow k (d ∷ ds) = (depth d ≤ k) × Shallow k ds

in_list : (k : ℕ) (ds : List Data) → Shallow k ds → items_depth (items_of ds) ≤ k
in_list k [] s = omega arith
in_list k (d ∷ ds) s = let own = s.0 in let others = in_list k ds s.1 in omega (arith, own, others)

both : (k : ℕ) (xs ys : List Data) → Shallow k xs → Shallow k ys → Shallow k (xs ++ ys)
both k [] ys s t = t
both k (x ∷ xs) ys s t = (s.0, both k xs ys s.1 t)

in_numbered : {X : Type 0} (k : ℕ) (gives : ℕ → X → List Data) → ((i : ℕ) (x : X) → Shallow k (gives i x)) → (i : ℕ) (xs : List X) → items_depth (items_of (numbered gives i xs)) ≤ k
in_numbered {X} k gives each i xs = in_list k (numbered gives i xs) (all i xs)
  where
    all : (i : ℕ) (xs : List X) → Shallow k (numbered gives i xs)
    all i [] = tt
    all i (x ∷ xs) = both k (gives i x) (numbered gives (suc i) xs) (each i x) (all (suc i) xs)

in_map : {X : Type 0} (k : ℕ) (f : X → Data) → ((x : X) → depth (f x) ≤ k) → (xs : List X) → items_depth (items_of (map f xs)) ≤ k
in_map k f each [] = omega arith
in_map k f each (x ∷ xs) = let own = each x in let others = in_map k f each xs in omega (arith, own, others)

target-depth : (file : List ℕ) (tables : Tables) (t : Target) → depth (M.target_json file tables t) ≤ 1
target-depth file tables (target.Internal segment offset) = omega arith
target-depth file tables (target.Entry ordinal) = omega arith
target-depth file tables (target.ByOrdinal reference ordinal) = omega arith
target-depth file tables (target.ByName reference name) = omega arith

fixup-depth : (file : List ℕ) (tables : Tables) (sites : List ℕ) (add : Bool) (fixup : Fixup) → depth (M.fixup_json file tables sites add fixup) ≤ 2
fixup-depth file tables sites add fixup =
    let offsets = in_map 0 n (λ x. omega arith) sites in
    let where_to = target-depth file tables fixup.target in
    omega (arith, offsets, where_to)

relocation-depth : (file : List ℕ) (tables : Tables) (bytes : List ℕ) (r : Record) → depth (M.relocation_json file tables bytes r) ≤ 2
relocation-depth file tables bytes (Stored fixup) = fixup-depth file tables (offsets_of bytes (Stored fixup)) false fixup
relocation-depth file tables bytes (Added fixup) = fixup-depth file tables (offsets_of bytes (Added fixup)) true fixup
relocation-depth file tables bytes System = omega arith

segment-depth : (file : List ℕ) (tables : Tables) (i : ℕ) (s : Segment) (said : Result Held RelocFault) → depth (M.segment_said file tables i s said) ≤ 4
segment-depth file tables i s (Ok held) =
    let records = in_map 2 (M.relocation_json file tables held.bytes) (relocation-depth file tables held.bytes) held.records in
    omega (arith, records)
segment-depth file tables i s (Err fault) = omega arith

entry-depth : (i : ℕ) (entry : Option Entry) → Shallow 4 (M.entry_json i entry)
entry-depth i None = tt
entry-depth i (Some (InSegment segment offset)) = (omega arith, tt)
entry-depth i (Some (Constant value)) = (omega arith, tt)

label-depth : (l : Label) → depth (M.label_json l) ≤ 0
label-depth (Number x) = omega arith
label-depth (Text bytes) = omega arith

named-depth : (name : Option (List ℕ)) → depth (unwrap_or (option_map string name) null) ≤ 0
named-depth None = omega arith
named-depth (Some name) = omega arith

kind-depth : (l : Label) → depth (M.kind_json l) ≤ 0
kind-depth (Number x) = named-depth (kind_name x)
kind-depth (Text bytes) = omega arith

resource-depth : (r : Label × resources.Entry) → depth (M.resource_object r) ≤ 4
resource-depth r =
    let kind = label-depth r.0 in
    let id = label-depth r.1.id in
    let name = kind-depth r.0 in
    omega (arith, kind, id, name)

header-depth : (tables : Tables) → depth (M.header_json tables) ≤ 4
unfolding M.header_json M.fields_json M.sizes_json M.start_json
header-depth tables = omega arith

module-depth : (file : List ℕ) (tables : Tables) → depth (M.module_json file tables) ≤ 6
unfolding M.module_json
module-depth file tables =
    let entries = in_numbered 4 M.entry_json entry-depth 1 tables.entries in
    let header = header-depth tables in
    let imported = in_map 4 (M.target_json file tables) (λ t. (let shallow = target-depth file tables t in omega (arith, shallow))) (imports file tables) in
    let names = in_numbered 4 (M.name_json tables.resident) (λ i x. (omega arith, tt)) 0 tables.names in
    let references = in_numbered 4 M.reference_json (λ i x. (omega arith, tt)) 1 tables.references in
    let listed = in_numbered 4 M.resource_json (λ i x. (resource-depth x, tt)) 1 (listed_resources tables.resources) in
    let segments = in_numbered 4 (M.segment_json file tables) (λ i s. (segment-depth file tables i s (checked file tables s), tt)) 1 tables.segments in
    omega (arith, entries, header, imported, names, references, listed, segments)

pub whole-depth : (name file : List ℕ) (tables : Tables) (sound : Bool) → depth (M.whole_json name file tables sound) ≤ 127
whole-depth name file tables sound = let inner = module-depth file tables in omega (arith, inner)
