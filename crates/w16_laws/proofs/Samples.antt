-- The sample modules: TLIB, a library of two segments of code, and TAPP, an application that imports three entries of it, of which one doesn't
-- exist. Their bindings are worked out.
use Rattle.w16_loading.proofs.Common as C
use base.Stored.Gv.{gnil}
use Rattle.w16_loading.proofs.Common.{◌≡◌, ℕ, ◌+◌, ◌/◌, ◌%◌, ◌==◌, Bool, true, false, if◌then◌else◌, List, [], ◌∷◌, ◌++◌, replicate, codes, slice_index_or, Some, None, Ok, refl, is_named, Far, ModuleFile, Module, Lookup, address_at, Loaded, begun, New, bound_in}
use Rattle.w16_laws.specs.Closing.{after}

-- the bytes of a word, of a far pointer, and of the first, second and third value of a segment
abbrev word : ℕ → List ℕ
word n = n % 256 ∷ n / 256 ∷ []

abbrev far : Far → List ℕ
far f = word f.offset ++ word f.selector

abbrev value : List Far → ℕ → Far
value values i = slice_index_or values i (record { selector = 0; offset = 0 })

-- TLIB. Its first segment calls far twice, and adds to a word, always at the entry GETB.
abbrev code : Bool → C.Segment
code preload = record { kind = C.Discardable; is_code = true; is_preload = preload; size = 32 }

abbrev library : List ℕ → ModuleFile
library name = record {
  tables = record {
    name = name;
    is_library = true;
    segments = code true ∷ code false ∷ [];
    references = [];
    entries = Some (C.InSegment 1 0) ∷ Some (C.InSegment 2 4) ∷ [];
    names = (codes "GETA", 1) ∷ (codes "GETB", 2) ∷ [];
    resources = [];
    layout = gnil;
  };
  segments =
      record {
        targets = Some (C.Internal 2 4 ∷ C.Internal 2 4 ∷ []);
        image = λ values. 154 ∷ far (value values 0) ++ (154 ∷ far (value values 0) ++ (184 ∷ word (16 + (value values 1).offset) ++ (203 ∷ 144 ∷ 144 ∷ replicate 16 0)));
      }
      ∷ record { targets = Some []; image = λ values. 1 ∷ 2 ∷ 3 ∷ 4 ∷ 203 ∷ 144 ∷ 144 ∷ 144 ∷ replicate 24 0 }
      ∷ [];
}

-- TAPP: entry 1, the entry GETB, and entry 9 of TLIB
abbrev application : ModuleFile
application = record {
  tables = record { name = codes "TAPP"; is_library = false; segments = code true ∷ []; references = codes "TLIB" ∷ []; entries = []; names = []; resources = []; layout = gnil };
  segments =
      record {
        targets = Some (C.Import 1 1 ∷ C.ImportName 1 (codes "GETB") ∷ C.Import 1 9 ∷ []);
        image = λ values. 154 ∷ far (value values 0) ++ (154 ∷ far (value values 1) ++ (154 ∷ far (value values 2) ++ (203 ∷ replicate 16 0)));
      }
      ∷ [];
}

-- a module of such a file, whose segments have these slots
abbrev module_with : List ℕ → ModuleFile → List ℕ → List ℕ → Module
module_with file read slots imports = record { file = file; tables = read.tables; uses = 1; slots = slots; values = []; imports = imports }

-- TLIB alone, its segments in slots 32 and 33: a far pointer to 010F:0004 for each record
abbrev alone : Module
alone = module_with (codes "TLIB.DLL") (library (codes "TLIB")) (32 ∷ 33 ∷ []) []

abbrev nothing : Lookup
nothing handle = None

alone_bound : (bound_in nothing alone (library (codes "TLIB")).segments).values ≡ (record { selector = 271; offset = 4 } ∷ record { selector = 271; offset = 4 } ∷ []) ∷ [] ∷ []
alone_bound = refl

-- so its code reads as 9A 0004 010F, the same again, and B8 0014
alone_reads : (slice_index_or (library (codes "TLIB")).segments 0 (record { targets = None; image = λ _. [] })).image (record { selector = 271; offset = 4 } ∷ record { selector = 271; offset = 4 } ∷ [])
    ≡ 154 ∷ 4 ∷ 0 ∷ 15 ∷ 1 ∷ 154 ∷ 4 ∷ 0 ∷ 15 ∷ 1 ∷ 184 ∷ 20 ∷ 0 ∷ 203 ∷ 144 ∷ 144 ∷ replicate 16 0
alone_reads = refl

-- its entries, by name in any letters and by ordinal
abbrev at_33 : Lookup
at_33 handle = if handle == 33 then Some (Loaded alone) else None

geta : C.address_named at_33 33 (codes "geta") ≡ record { selector = 263; offset = 0 }
unfolding is_named
geta = refl

getb : address_at at_33 33 2 ≡ record { selector = 271; offset = 4 }
getb = refl

no_entry : address_at at_33 33 9 ≡ record { selector = 0; offset = 0 }
no_entry = refl

-- a built-in's entry is its handle and the ordinal, but for ordinal 0 and for names
abbrev kernel : Lookup
kernel handle = if handle == 33 then Some (C.BuiltIn (codes "KERNEL")) else None

by_ordinal : address_at kernel 33 5 ≡ record { selector = 33; offset = 5 }
by_ordinal = refl

by_zero : address_at kernel 33 0 ≡ record { selector = 0; offset = 0 }
by_zero = refl

by_name : C.address_named kernel 33 (codes "GLOBALALLOC") ≡ record { selector = 0; offset = 0 }
by_name = refl

-- TAPP at handle 33 and slot 32, TLIB at handle 34 and slots 33 and 34
abbrev app : Module
app = module_with (codes "TAPP.EXE") application (32 ∷ []) (34 ∷ [])

abbrev both_of : List ℕ → Lookup
both_of name handle = if handle == 34 then Some (Loaded (module_with (codes "TLIB.DLL") (library name) (33 ∷ 34 ∷ []) [])) else (if handle == 33 then Some (Loaded app) else None)

app_bound : (bound_in (both_of (codes "TLIB")) app application.segments).values ≡ (record { selector = 271; offset = 0 } ∷ record { selector = 279; offset = 4 } ∷ record { selector = 0; offset = 0 } ∷ []) ∷ []
unfolding is_named
app_bound = refl

-- so its code reads as 9A 0000 010F, 9A 0004 0117 and 9A 0000 0000
app_reads : (slice_index_or application.segments 0 (record { targets = None; image = λ _. [] })).image (record { selector = 271; offset = 0 } ∷ record { selector = 279; offset = 4 } ∷ record { selector = 0; offset = 0 } ∷ [])
    ≡ 154 ∷ 0 ∷ 0 ∷ 15 ∷ 1 ∷ 154 ∷ 4 ∷ 0 ∷ 23 ∷ 1 ∷ 154 ∷ 0 ∷ 0 ∷ 0 ∷ 0 ∷ 203 ∷ replicate 16 0
app_reads = refl

-- The file TLIB.DLL may have the module XLIB: the reference means what the file has, and binds alike, whatever is named TLIB later.
abbrev renamed : C.Saying
renamed bytes = Ok (library (codes "XLIB"))

other_name : after renamed (record { named = λ _. None; file = C.file_of ((codes "TLIB.DLL", []) ∷ []); free = 200 }) 9 (begun (codes "TAPP.EXE") application) ≡ Ok (record {
  found = record { file = codes "TAPP.EXE"; read = application } ∷ record { file = codes "TLIB.DLL"; read = library (codes "XLIB") } ∷ [];
  pending = [];
  bound = (0, New 1) ∷ [];
})
unfolding is_named C.file_of
other_name = refl

renamed_bound : (bound_in (both_of (codes "XLIB")) app application.segments).values ≡ (record { selector = 271; offset = 0 } ∷ record { selector = 279; offset = 4 } ∷ record { selector = 0; offset = 0 } ∷ []) ∷ []
unfolding is_named
renamed_bound = refl
