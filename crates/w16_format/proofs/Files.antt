-- NE files are a format.
use Rattle.w16_format.proofs
use proofs.Common as C
use proofs.Common.{◌≡◌, ℕ, ◌+◌, ◌<◌, ◌≤◌, Bool, true, false, cond, List, take, drop, Some, Result, Ok, Err, refl, sym, ◌∙◌, ap, Option, None, IsSomeAnd, All, NeFault, Store, Tables, tables_at, file_of, IfOk, IfSome, IsContent, subst, IsModuleFile, ModuleFile, layout_code, IsFileOf}
use proofs.Common.{tables_in, has_bytes, module_file, ne_format, refusal_by_format, plain_format, read_as}
use proofs.Bytes.{AreBytes, padded_length, padded_bytes, passed_bytes, bytes_pass}
use proofs.{Lookups.place_law, Segments.segments_fit, Segments.room}
use Rattle.w16_ne.specs.Resources as ne_resources
use Rattle.w16_loading.specs.{declared.LoadRefusal.LoadRefusal, Refusals.OrRefused, Refusals.is_of_format}
use Rattle.w16_loading.specs.File as loading
use Rattle.w16_loading.specs.declared.LoadRefusal.TheVariants as refusals

-- Resources.

contents_bytes : (file : List ℕ) (r : ne_resources.Label × ne_resources.Entry) → AreBytes file → AreBytes (C.contents_in file r)
contents_bytes file r all =
    padded_bytes _ _ (C.All-take (λ b. b < 256) r.1.len _ (C.All-drop (λ b. b < 256) _ file all))

-- Files.

is_module_file : (file : List ℕ) (t : Tables) → AreBytes file → C.IsModule file t → IsModuleFile (module_file file t)
is_module_file file t all is = record {
  segments = segments_fit file t (C.shift_of t.header) (t.place + C.segment_table t.header) _ all is.segments.are;
}

are_contents : (file : List ℕ) (number : ℕ) (r : Result Tables NeFault) → AreBytes file
    → IfOk (read_as file r) (λ read. IfSome (C.numbered read.tables.resources number) (λ x. IsSomeAnd (C.content_at file number r) (IsContent x)))
are_contents file number (Err e) all = tt
are_contents file number (Ok t) all = subst (λ p. IfSome p (λ x. IsSomeAnd (C.content_at file number (Ok t)) (IsContent x))) (sym (place_law t number).1) (turn _)
  where
    turn : (p : Option (ne_resources.Label × ne_resources.Entry)) → IfSome (C.option_map C.resource_in p) (λ x. IsSomeAnd (C.option_map (C.contents_in file) p) (IsContent x))
    turn None = tt
    turn (Some r) = (padded_length _ _, contents_bytes file r all)

of_format : (e : NeFault) → is_of_format (refusal_by_format e) ≡ true
of_format (C.Target system) = by_system _ _
  where
    by_system : (a b : Bool) → is_of_format (cond a refusals.ForOs2 (cond b refusals.ForDos4 refusals.ForOtherSystem)) ≡ true
    by_system true b = refl
    by_system false true = refl
    by_system false false = refl
of_format other = refl

read_fits : (file : List ℕ) (r : Result Tables NeFault) → AreBytes file → tables_at (Some file) ≡ r → C.MatchResult (read_as file r) IsModuleFile (λ refusal. is_of_format refusal ≡ true)
read_fits file (Ok t) all e = is_module_file file t all ((C.module_format file t).0 e)
read_fits file (Err e) all same = of_format e

pub is_format : C.IsFormat ne_format
is_format = record { files = λ file. files file _ refl; contents = λ file number. contents file number _ refl }
  where
    files : (file : List ℕ) (b : Bool) → has_bytes file ≡ b → C.MatchResult (cond b (plain_format file) (Err refusals.BadFile)) IsModuleFile (λ refusal. is_of_format refusal ≡ true)
    files file true e = read_fits file _ (passed_bytes file e) refl
    files file false e = refl

    contents : (file : List ℕ) (number : ℕ) (b : Bool) → has_bytes file ≡ b
        → IfOk (cond {A = OrRefused ModuleFile} b (plain_format file) (Err refusals.BadFile)) (λ read. IfSome (C.numbered read.tables.resources number) (λ x. IsSomeAnd (ne_format.contents file number) (IsContent x)))
    contents file number true e = are_contents file number _ (passed_bytes file e)
    contents file number false e = tt

pub plain : (file : List ℕ) → All (λ b. b < 256) file → ne_format.says file ≡ plain_format file
plain file all = ap (λ b. cond b (plain_format file) (Err refusals.BadFile)) (bytes_pass file all)

ok_same : {x y : ModuleFile} → ◌≡◌ {A = OrRefused ModuleFile} (Ok x) (Ok y) → x ≡ y
ok_same h = cc

not_ok : {e : LoadRefusal} {y : ModuleFile} → ◌≡◌ {A = OrRefused ModuleFile} (Err e) (Ok y) → ⊥
not_ok h = cc

pub tables_apart : (t u : Tables) → tables_in t ≡ tables_in u → t ≡ u
tables_apart t u same = layout_code.inj t u (ap (λ (l : loading.Tables). l.layout) same)

-- what is accepted is a file of bytes, whose tables were read
pub read_back : (file : List ℕ) (read : ModuleFile) → ne_format.says file ≡ Ok read → All (λ b. b < 256) file × ((t : Tables) × (tables_at (Some file) ≡ Ok t) × (read ≡ module_file file t))
read_back file read e = turn _ refl _ refl e
  where
    turn : (b : Bool) → has_bytes file ≡ b → (r : Result Tables NeFault) → tables_at (Some file) ≡ r → cond b (read_as file r) (Err refusals.BadFile) ≡ Ok read
        → All (λ b. b < 256) file × ((t : Tables) × (tables_at (Some file) ≡ Ok t) × (read ≡ module_file file t))
    turn true pass (Ok t) f g = (passed_bytes file pass, (t, f, sym (ok_same g)))
    turn true pass (Err fault) f g = absurd (not_ok g)
    turn false pass r f g = absurd (not_ok g)

-- A module's file as its world has it: what it was loaded with, its file still says.
pub stored_law : (world : C.LoadingWorld) (handle : ℕ) (m : C.Module) (t : Tables) → C.IsOfFiles ne_format world → C.module_at world.modules handle ≡ Some m → m.tables ≡ tables_in t
    → (file : List ℕ) × IsFileOf world m file t
stored_law world handle m t of_files there same = turn _ refl (of_files.modules handle m there)
  where
    said : Option (List ℕ) → Option ModuleFile
    said None = None
    said (Some file) = elim (ne_format.says file) [ Ok read ↦ Some read | Err _ ↦ None ]

    by : (file : List ℕ) → file_of world.files m.file ≡ Some file → (r : OrRefused ModuleFile) → ne_format.says file ≡ r
        → IsSomeAnd (elim r as (λ _. Option ModuleFile) [ Ok read ↦ Some read | Err _ ↦ None ]) (C.IsItsFiles m) → (file : List ℕ) × IsFileOf world m file t
    by file stored (Err _) e its = absurd its
    by file stored (Ok read) e its =
        let back = read_back file read e in
        let tables : tables_in back.1.0 ≡ tables_in t = ap (λ (r : ModuleFile). r.tables) (sym back.1.2) ∙ its.tables ∙ same in
        (file, record { stored = stored; bytes = back.0; tables = back.1.1 ∙ ap Ok (tables_apart _ t tables) })

    turn : (p : Option (List ℕ)) → file_of world.files m.file ≡ p → IsSomeAnd (said p) (C.IsItsFiles m) → (file : List ℕ) × IsFileOf world m file t
    turn None e its = absurd its
    turn (Some file) e its = by file e (ne_format.says file) refl its

pub has_room : (file : List ℕ) (t : Tables) (k : ℕ) (s : C.Segment) → tables_at (Some file) ≡ Ok t → C.slice_get t.segments k ≡ Some s → C.length (C.data_of file s) ≤ s.size
has_room file t k s h found =
    let is = (C.module_format file t).0 h in
    room file (C.shift_of t.header) (t.place + C.segment_table t.header) _ k s is.segments.are found

pub accepted : (file : List ℕ) (t : Tables) → All (λ b. b < 256) file → tables_at (Some file) ≡ Ok t → ne_format.says file ≡ Ok (module_file file t)
accepted file t all h = plain file all ∙ ap (read_as file) h

pub refused : (file : List ℕ) (e : NeFault) → All (λ b. b < 256) file → tables_at (Some file) ≡ Err e → ne_format.says file ≡ Err (refusal_by_format e)
refused file e all h = plain file all ∙ ap (read_as file) h

pub missing : tables_at None ≡ Err (Store C.Missing)
unfolding tables_at C.place_at
missing = refl
