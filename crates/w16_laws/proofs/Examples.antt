-- Closures of small files, worked out.
use Rattle.w16_loading.proofs
use proofs.Common as C
use base.Stored.Gv.{gnil}
use proofs.Common.{◌≡◌, ℕ, zero, suc, true, false, List, [], ◌∷◌, codes, Some, None, Ok, Err, if◌then◌else◌, ◌==◌, refl, Saying, ModuleFile, is_named, file_of, Loaded, Says, begun, New, Refused}
use Rattle.w16_loading.specs.declared.LoadRefusal.{LoadRefusal}
use Rattle.w16_loading.specs.declared.LoadRefusal.TheVariants.{BadFile, BadReference, NoFile, NoRoom}
use Rattle.w16_laws.specs.Closing.{reading, after}

-- a file without segments
abbrev plain : List ℕ → C.Bool → List (List ℕ) → ModuleFile
plain name library references = record { tables = record { name = name; is_library = library; segments = []; references = references; entries = []; names = []; resources = []; layout = gnil }; segments = [] }

-- A imports B and C; B imports A; the file of C has the module X, which imports b and D; there is no D
abbrev by_number : ℕ → C.OrRefused ModuleFile
by_number (suc zero) = Ok (plain (codes "A") false (codes "B" ∷ codes "C" ∷ []))
by_number (suc (suc zero)) = Ok (plain (codes "B") true (codes "A" ∷ []))
by_number (suc (suc (suc zero))) = Ok (plain (codes "X") true (codes "b" ∷ []))
by_number (suc (suc (suc (suc n)))) = Ok (plain (codes "E") true (codes "D" ∷ []))
by_number other = Err BadFile

abbrev toy : Saying
toy bytes = by_number (C.slice_index bytes 0)

abbrev files : List (List ℕ × List ℕ)
files = (codes "A.EXE", 1 ∷ []) ∷ (codes "b.dll", 2 ∷ []) ∷ (codes "C.DLL", 3 ∷ []) ∷ (codes "E.DLL", 4 ∷ []) ∷ []

abbrev with_free : ℕ → C.Around
with_free free = record { named = λ _. None; file = file_of files; free = free }

abbrev a : ModuleFile
a = plain (codes "A") false (codes "B" ∷ codes "C" ∷ [])

abbrev b : ModuleFile
b = plain (codes "B") true (codes "A" ∷ [])

abbrev x : ModuleFile
x = plain (codes "X") true (codes "b" ∷ [])

-- each is found once, in order; the second reference of A means the module that its file has
all : after toy (with_free 200) 9 (begun (codes "a.exe") a) ≡ Ok (record {
  found = record { file = codes "a.exe"; read = a } ∷ record { file = codes "B.DLL"; read = b } ∷ record { file = codes "C.DLL"; read = x } ∷ [];
  pending = [];
  bound = (0, New 1) ∷ (0, New 2) ∷ (1, New 0) ∷ (2, New 1) ∷ [];
})
unfolding is_named file_of
all = refl

-- with two free handles the third module is refused, with none a sound file is
third : after toy (with_free 2) 9 (begun (codes "a.exe") a) ≡ Err NoRoom
unfolding is_named file_of
third = refl

none : reading toy (with_free 0) [] (codes "a.exe") ≡ Refused NoRoom
unfolding is_named file_of
none = refl

-- a file that isn't there, and a reference to it
missing : reading toy (with_free 200) [] (codes "D.DLL") ≡ Refused NoFile
unfolding is_named file_of
missing = refl

referred : after toy (with_free 200) 9 (begun (codes "E.DLL") (plain (codes "E") true (codes "D" ∷ []))) ≡ Err BadReference
unfolding is_named file_of
referred = refl

-- a built-in of the name of a referenced file's module is meant, and so is one of the reference's name
built_in : after toy (record { named = λ name. if is_named name (codes "X") then Some 40 else None; file = file_of files; free = 200 }) 9 (begun (codes "a.exe") a) ≡ Ok (record {
  found = record { file = codes "a.exe"; read = a } ∷ record { file = codes "B.DLL"; read = b } ∷ [];
  pending = [];
  bound = (0, New 1) ∷ (0, C.There 40) ∷ (1, New 0) ∷ [];
})
unfolding is_named file_of
built_in = refl

-- nothing is there, and these files are
abbrev over : List (List ℕ × List ℕ) → C.Around
over all = record { named = λ _. None; file = file_of all; free = 200 }

-- two libraries that import each other are found once each
abbrev paired : Saying
paired bytes = if C.slice_index bytes 0 == 1 then Ok (plain (codes "ONE") true (codes "TWO" ∷ [])) else Ok (plain (codes "TWO") true (codes "ONE" ∷ []))

abbrev paired_files : List (List ℕ × List ℕ)
paired_files = (codes "ONE.DLL", 1 ∷ []) ∷ (codes "TWO.DLL", 2 ∷ []) ∷ []

both : after paired (over paired_files) 9 (begun (codes "ONE.DLL") (plain (codes "ONE") true (codes "TWO" ∷ []))) ≡ Ok (record {
  found = record { file = codes "ONE.DLL"; read = plain (codes "ONE") true (codes "TWO" ∷ []) } ∷ record { file = codes "TWO.DLL"; read = plain (codes "TWO") true (codes "ONE" ∷ []) } ∷ [];
  pending = [];
  bound = (0, New 1) ∷ (1, New 0) ∷ [];
})
unfolding is_named file_of
both = refl

-- breadth first: B and C, which A refers to, are found before D, which B refers to
abbrev tree : Saying
tree bytes = if C.slice_index bytes 0 == 1 then Ok (plain (codes "B") true (codes "D" ∷ [])) else (if C.slice_index bytes 0 == 2 then Ok (plain (codes "C") true []) else Ok (plain (codes "D") true []))

abbrev tree_files : List (List ℕ × List ℕ)
tree_files = (codes "D.DLL", 3 ∷ []) ∷ (codes "C.DLL", 2 ∷ []) ∷ (codes "B.DLL", 1 ∷ []) ∷ []

abbrev found_as : List ℕ → List ℕ → List (List ℕ) → C.Found
found_as file name references = record { file = file; read = plain name true references }

order : after tree (over tree_files) 9 (begun (codes "A.DLL") (plain (codes "A") true (codes "B" ∷ codes "C" ∷ []))) ≡ Ok (record {
  found = found_as (codes "A.DLL") (codes "A") (codes "B" ∷ codes "C" ∷ []) ∷ found_as (codes "B.DLL") (codes "B") (codes "D" ∷ []) ∷ found_as (codes "C.DLL") (codes "C") [] ∷ found_as (codes "D.DLL") (codes "D") [] ∷ [];
  pending = [];
  bound = (0, New 1) ∷ (0, New 2) ∷ (1, New 3) ∷ [];
})
unfolding is_named file_of
order = refl

-- Refusals.

-- as the format says, where the file isn't accepted
refused_by_format : (refusal : LoadRefusal) → reading (λ bytes. Err refusal) (record { named = λ _. None; file = λ _. Some []; free = 200 }) [] (codes "A.EXE") ≡ Refused refusal
refused_by_format refusal = refl

-- a bad file, where a segment's relocations aren't sound, also with no free handle
abbrev unsound : ModuleFile
unsound = record {
  tables = record { name = codes "U"; is_library = true; segments = record { kind = C.Moveable; is_code = false; is_preload = false; size = 32 } ∷ []; references = []; entries = []; names = []; resources = []; layout = gnil };
  segments = record { targets = None; image = λ values. C.replicate 32 0 } ∷ [];
}

refused_unsound : reading (λ bytes. Ok unsound) (record { named = λ _. None; file = λ _. Some []; free = 0 }) [] (codes "U.DLL") ≡ Refused BadFile
unfolding is_named
refused_unsound = refl

-- but a name that is there decides before
meant_unsound : reading (λ bytes. Ok unsound) (record { named = λ _. Some 40; file = λ _. Some []; free = 0 }) [] (codes "U.DLL") ≡ C.Meant (C.There 40)
meant_unsound = refl

-- 16 for an application that LoadModule loads again, also where its uses are full, and one use more by LoadLibrary; 0 where uses are full
abbrev application : ℕ → C.Module
application uses = record { file = codes "A.EXE"; tables = a.tables; uses = uses; slots = []; values = []; imports = [] }

twice : (old : C.LoadingWorld) → C.used_again true old 33 (Some (Loaded (application 65000))) ≡ (Says 16, old)
twice old = refl

as_library : (old : C.LoadingWorld) → C.used_again false old 33 (Some (Loaded (application 1))) ≡ (Says 33, C.after_use old 33 (application 1))
as_library old = refl

full : (old : C.LoadingWorld) → C.used_again false old 33 (Some (Loaded (application 65000))) ≡ (Says 0, old)
full old = refl

-- a built-in is never full
never_full : (old : C.LoadingWorld) → C.used_again true old 33 (Some (C.BuiltIn (codes "KERNEL"))) ≡ (Says 33, old)
never_full old = refl

-- Uses: the module asked for begins with one, the others with none; importers count beside them, and a built-in has importers alone.
abbrev new_module : ℕ → C.Given
new_module place = record { place = place; found = found_as (codes "L.DLL") (codes "L") []; handle = 33; slots = [] }

asked_for : (closure : C.Closure) (choice : C.Choice) → (C.unbound closure choice (new_module 0)).uses ≡ 1
asked_for closure choice = refl

brought_in : (closure : C.Closure) (choice : C.Choice) → (C.unbound closure choice (new_module 1)).uses ≡ 0
brought_in closure choice = refl

used_by_two : C.usage_with (Some (Loaded (application 0))) 2 ≡ 2
used_by_two = refl

used_by_both : C.usage_with (Some (Loaded (application 3))) 2 ≡ 5
used_by_both = refl

used_built_in : C.usage_with (Some (C.BuiltIn (codes "KERNEL"))) 2 ≡ 2
used_built_in = refl

-- a module doesn't import itself: the references of one that names itself mean it, and it isn't its importer
own : C.importers_among ((33, Loaded (record (application 1) { imports = 33 ∷ [] })) ∷ []) 33 ≡ 0
own = refl

-- and one that names another twice is one importer
twice_named : C.importers_among ((33, Loaded (record (application 1) { imports = 34 ∷ 34 ∷ [] })) ∷ (34, Loaded (application 0)) ∷ []) 34 ≡ 1
twice_named = refl
