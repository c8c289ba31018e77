-- Three files, and what each says: worked out by hand.
use Rattle.std.specs.Prelude.{◌≡◌, ℕ, List, [], ◌∷◌, ◌++◌, map, true, false, Option, Some, None, Ok, Err, codes}
use Rattle.w16_model.specs.{declared.Kind.TheVariants.Discardable, Bytes.repeated}
use Rattle.w16_loading.specs.{File.ModuleFile, File.SegmentData, File.Far, File.Entry, File.Target, Closure.are_sound}
use Rattle.w16_model.specs.Commands.{Label}
use Rattle.w16_format.specs.Ne.{ne_format}

-- two code segments, of which the first has a chain of pointers and a sum
unfoldable pub tlib : List ℕ
tlib = 77 ∷ 90 ∷ 0 ∷ 0 ∷ 0 ∷ 0 ∷ 0 ∷ 0 ∷ 0 ∷ 0 ∷ 0 ∷ 0 ∷ 0 ∷ 0 ∷ 0 ∷ 0 ∷ 0 ∷ 0 ∷ 0 ∷ 0 ∷ 0 ∷ 0 ∷ 0 ∷ 0 ∷ 0 ∷ 0 ∷ 0 ∷ 0
    ∷ 0 ∷ 0 ∷ 0 ∷ 0 ∷ 0 ∷ 0 ∷ 0 ∷ 0 ∷ 0 ∷ 0 ∷ 0 ∷ 0 ∷ 0 ∷ 0 ∷ 0 ∷ 0 ∷ 0 ∷ 0 ∷ 0 ∷ 0 ∷ 0 ∷ 0 ∷ 0 ∷ 0 ∷ 0 ∷ 0 ∷ 0 ∷ 0 ∷ 0
    ∷ 0 ∷ 0 ∷ 0 ∷ 64 ∷ 0 ∷ 0 ∷ 0 ∷ 78 ∷ 69 ∷ 5 ∷ 10 ∷ 103 ∷ 0 ∷ 14 ∷ 0 ∷ 0 ∷ 0 ∷ 0 ∷ 0 ∷ 0 ∷ 128 ∷ 0 ∷ 0 ∷ 0 ∷ 0 ∷ 0 ∷
    0 ∷ 0 ∷ 0 ∷ 0 ∷ 0 ∷ 0 ∷ 0 ∷ 0 ∷ 0 ∷ 2 ∷ 0 ∷ 0 ∷ 0 ∷ 5 ∷ 0 ∷ 64 ∷ 0 ∷ 80 ∷ 0 ∷ 80 ∷ 0 ∷ 102 ∷ 0 ∷ 102 ∷ 0 ∷ 181 ∷ 0
    ∷ 0 ∷ 0 ∷ 1 ∷ 0 ∷ 4 ∷ 0 ∷ 0 ∷ 0 ∷ 2 ∷ 0 ∷ 0 ∷ 0 ∷ 0 ∷ 0 ∷ 0 ∷ 0 ∷ 10 ∷ 3 ∷ 12 ∷ 0 ∷ 16 ∷ 0 ∷ 80 ∷ 17 ∷ 16 ∷ 0 ∷ 15
    ∷ 0 ∷ 8 ∷ 0 ∷ 16 ∷ 16 ∷ 8 ∷ 0 ∷ 4 ∷ 84 ∷ 76 ∷ 73 ∷ 66 ∷ 0 ∷ 0 ∷ 4 ∷ 71 ∷ 69 ∷ 84 ∷ 65 ∷ 1 ∷ 0 ∷ 4 ∷ 71 ∷ 69 ∷ 84 ∷
    66 ∷ 2 ∷ 0 ∷ 0 ∷ 0 ∷ 1 ∷ 1 ∷ 1 ∷ 0 ∷ 0 ∷ 1 ∷ 255 ∷ 1 ∷ 205 ∷ 63 ∷ 2 ∷ 4 ∷ 0 ∷ 0 ∷ 1 ∷ 84 ∷ 0 ∷ 0 ∷ 0 ∷ 0 ∷ 0 ∷ 0 ∷
    0 ∷ 0 ∷ 0 ∷ 154 ∷ 6 ∷ 0 ∷ 0 ∷ 0 ∷ 154 ∷ 255 ∷ 255 ∷ 0 ∷ 0 ∷ 184 ∷ 16 ∷ 0 ∷ 203 ∷ 144 ∷ 144 ∷ 2 ∷ 0 ∷ 3 ∷ 0 ∷ 1 ∷ 0
    ∷ 2 ∷ 0 ∷ 4 ∷ 0 ∷ 5 ∷ 4 ∷ 11 ∷ 0 ∷ 2 ∷ 0 ∷ 4 ∷ 0 ∷ 0 ∷ 0 ∷ 0 ∷ 0 ∷ 0 ∷ 0 ∷ 0 ∷ 0 ∷ 0 ∷ 0 ∷ 0 ∷ 0 ∷ 0 ∷ 0 ∷ 1 ∷ 2 ∷
    3 ∷ 4 ∷ 203 ∷ 144 ∷ 144 ∷ 144 ∷ []

-- a program that imports by ordinal and by name
unfoldable pub tapp : List ℕ
tapp = 77 ∷ 90 ∷ 0 ∷ 0 ∷ 0 ∷ 0 ∷ 0 ∷ 0 ∷ 0 ∷ 0 ∷ 0 ∷ 0 ∷ 0 ∷ 0 ∷ 0 ∷ 0 ∷ 0 ∷ 0 ∷ 0 ∷ 0 ∷ 0 ∷ 0 ∷ 0 ∷ 0 ∷ 0 ∷ 0 ∷ 0 ∷ 0
    ∷ 0 ∷ 0 ∷ 0 ∷ 0 ∷ 0 ∷ 0 ∷ 0 ∷ 0 ∷ 0 ∷ 0 ∷ 0 ∷ 0 ∷ 0 ∷ 0 ∷ 0 ∷ 0 ∷ 0 ∷ 0 ∷ 0 ∷ 0 ∷ 0 ∷ 0 ∷ 0 ∷ 0 ∷ 0 ∷ 0 ∷ 0 ∷ 0 ∷ 0
    ∷ 0 ∷ 0 ∷ 0 ∷ 64 ∷ 0 ∷ 0 ∷ 0 ∷ 78 ∷ 69 ∷ 5 ∷ 10 ∷ 93 ∷ 0 ∷ 1 ∷ 0 ∷ 0 ∷ 0 ∷ 0 ∷ 0 ∷ 0 ∷ 0 ∷ 0 ∷ 0 ∷ 0 ∷ 0 ∷ 0 ∷ 0 ∷
    0 ∷ 0 ∷ 0 ∷ 0 ∷ 0 ∷ 0 ∷ 0 ∷ 0 ∷ 1 ∷ 0 ∷ 1 ∷ 0 ∷ 0 ∷ 0 ∷ 64 ∷ 0 ∷ 72 ∷ 0 ∷ 72 ∷ 0 ∷ 80 ∷ 0 ∷ 82 ∷ 0 ∷ 0 ∷ 0 ∷ 0 ∷ 0
    ∷ 0 ∷ 0 ∷ 4 ∷ 0 ∷ 0 ∷ 0 ∷ 2 ∷ 0 ∷ 0 ∷ 0 ∷ 0 ∷ 0 ∷ 0 ∷ 0 ∷ 10 ∷ 3 ∷ 10 ∷ 0 ∷ 16 ∷ 0 ∷ 80 ∷ 17 ∷ 16 ∷ 0 ∷ 4 ∷ 84 ∷ 65
    ∷ 80 ∷ 80 ∷ 0 ∷ 0 ∷ 0 ∷ 1 ∷ 0 ∷ 0 ∷ 4 ∷ 84 ∷ 76 ∷ 73 ∷ 66 ∷ 4 ∷ 71 ∷ 69 ∷ 84 ∷ 66 ∷ 0 ∷ 0 ∷ 0 ∷ 154 ∷ 255 ∷ 255 ∷ 0
    ∷ 0 ∷ 154 ∷ 255 ∷ 255 ∷ 0 ∷ 0 ∷ 154 ∷ 255 ∷ 255 ∷ 0 ∷ 0 ∷ 203 ∷ 3 ∷ 0 ∷ 3 ∷ 1 ∷ 1 ∷ 0 ∷ 1 ∷ 0 ∷ 1 ∷ 0 ∷ 3 ∷ 2 ∷ 6 ∷
    0 ∷ 1 ∷ 0 ∷ 6 ∷ 0 ∷ 3 ∷ 1 ∷ 11 ∷ 0 ∷ 1 ∷ 0 ∷ 9 ∷ 0 ∷ []

-- a resource
unfoldable pub tres : List ℕ
tres = 77 ∷ 90 ∷ 0 ∷ 0 ∷ 0 ∷ 0 ∷ 0 ∷ 0 ∷ 0 ∷ 0 ∷ 0 ∷ 0 ∷ 0 ∷ 0 ∷ 0 ∷ 0 ∷ 0 ∷ 0 ∷ 0 ∷ 0 ∷ 0 ∷ 0 ∷ 0 ∷ 0 ∷ 0 ∷ 0 ∷ 0 ∷ 0
    ∷ 0 ∷ 0 ∷ 0 ∷ 0 ∷ 0 ∷ 0 ∷ 0 ∷ 0 ∷ 0 ∷ 0 ∷ 0 ∷ 0 ∷ 0 ∷ 0 ∷ 0 ∷ 0 ∷ 0 ∷ 0 ∷ 0 ∷ 0 ∷ 0 ∷ 0 ∷ 0 ∷ 0 ∷ 0 ∷ 0 ∷ 0 ∷ 0 ∷ 0
    ∷ 0 ∷ 0 ∷ 0 ∷ 64 ∷ 0 ∷ 0 ∷ 0 ∷ 78 ∷ 69 ∷ 5 ∷ 10 ∷ 96 ∷ 0 ∷ 1 ∷ 0 ∷ 0 ∷ 0 ∷ 0 ∷ 0 ∷ 0 ∷ 128 ∷ 0 ∷ 0 ∷ 0 ∷ 0 ∷ 0 ∷ 0
    ∷ 0 ∷ 0 ∷ 0 ∷ 0 ∷ 0 ∷ 0 ∷ 0 ∷ 0 ∷ 0 ∷ 0 ∷ 0 ∷ 0 ∷ 0 ∷ 0 ∷ 64 ∷ 0 ∷ 64 ∷ 0 ∷ 88 ∷ 0 ∷ 96 ∷ 0 ∷ 96 ∷ 0 ∷ 0 ∷ 0 ∷ 0 ∷
    0 ∷ 0 ∷ 0 ∷ 4 ∷ 0 ∷ 0 ∷ 0 ∷ 2 ∷ 0 ∷ 0 ∷ 0 ∷ 0 ∷ 0 ∷ 0 ∷ 0 ∷ 10 ∷ 3 ∷ 4 ∷ 0 ∷ 10 ∷ 128 ∷ 1 ∷ 0 ∷ 0 ∷ 0 ∷ 0 ∷ 0 ∷ 11
    ∷ 0 ∷ 1 ∷ 0 ∷ 48 ∷ 16 ∷ 1 ∷ 128 ∷ 0 ∷ 0 ∷ 0 ∷ 0 ∷ 0 ∷ 0 ∷ 4 ∷ 84 ∷ 82 ∷ 69 ∷ 83 ∷ 0 ∷ 0 ∷ 0 ∷ 0 ∷ 0 ∷ 0 ∷ 0 ∷ 0 ∷ 0
    ∷ 0 ∷ 0 ∷ 0 ∷ 0 ∷ 0 ∷ 0 ∷ 0 ∷ 0 ∷ 0 ∷ 0 ∷ 72 ∷ 101 ∷ 108 ∷ 108 ∷ 111 ∷ 44 ∷ 32 ∷ 114 ∷ 101 ∷ 115 ∷ 111 ∷ 117 ∷ 114
    ∷ 99 ∷ 101 ∷ 33 ∷ []

-- what is seen of a file that is accepted
abbrev pub seen : {X : Type 0} → (ModuleFile → X) → List ℕ → Option X
seen view file = elim (ne_format.says file) [ Ok read ↦ Some (view read) | Err _ ↦ None ]

abbrev pub images : List Far → ModuleFile → List (List ℕ)
images values read = map (λ (s : SegmentData). s.image values) read.segments

abbrev pub far : Far
far = record { selector = 271; offset = 4 }

-- The pointers of the first segment and its sum are written; of the second nothing is. Both are code that can be discarded.
pub record IsLibrary : Type 0 where
  pub name : seen (λ read. read.tables.name) tlib ≡ Some (codes "TLIB")
  pub library : seen (λ read. read.tables.is_library) tlib ≡ Some true
  pub entries : seen (λ read. read.tables.entries) tlib ≡ Some (Some (Entry.InSegment 1 0) ∷ Some (Entry.InSegment 2 4) ∷ [])
  pub segments : seen (λ read. read.tables.segments) tlib ≡ Some (record { kind = Discardable; is_code = true; is_preload = true; size = 32 } ∷ record { kind = Discardable; is_code = true; is_preload = false; size = 32 } ∷ [])
  pub sound : seen are_sound tlib ≡ Some true
  pub targets : seen (λ read. map (λ (s : SegmentData). s.targets) read.segments) tlib ≡ Some (Some (Target.Internal 2 4 ∷ Target.Internal 2 4 ∷ []) ∷ Some [] ∷ [])
  pub images : seen (images (far ∷ far ∷ [])) tlib ≡ Some (
      (0x9a ∷ 4 ∷ 0 ∷ 0x0f ∷ 1 ∷ 0x9a ∷ 4 ∷ 0 ∷ 0x0f ∷ 1 ∷ 0xb8 ∷ 0x14 ∷ 0 ∷ 0xcb ∷ 0x90 ∷ 0x90 ∷ repeated 16 0)
      ∷ (1 ∷ 2 ∷ 3 ∷ 4 ∷ 0xcb ∷ 0x90 ∷ 0x90 ∷ 0x90 ∷ repeated 24 0)
      ∷ [])

pub record IsProgram : Type 0 where
  pub library : seen (λ read. read.tables.is_library) tapp ≡ Some false
  pub references : seen (λ read. read.tables.references) tapp ≡ Some (codes "TLIB" ∷ [])
  pub targets : seen (λ read. map (λ (s : SegmentData). s.targets) read.segments) tapp ≡ Some (Some (Target.Import 1 1 ∷ Target.ImportName 1 (codes "GETB") ∷ Target.Import 1 9 ∷ []) ∷ [])

pub record HasResource : Type 0 where
  pub resources : seen (λ read. read.tables.resources) tres ≡ Some (record { kind_of = Label.Number 10; label = Label.Number 1; length_in = 16; kind = Discardable } ∷ [])
  pub contents : ne_format.contents tres 1 ≡ Some (codes "Hello, resource!" ++ repeated 16 0)

abbrev pub SamplesLaw : Type 0
SamplesLaw = IsLibrary × IsProgram × HasResource
