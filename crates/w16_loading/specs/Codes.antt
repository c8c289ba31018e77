-- By what a proof tells worlds with modules apart, so that a world can be the value of a model.
use Rattle.w16_loading.specs
use Rattle.std.specs.Prelude.{◌≡◌, ℕ, ◌⊎◌, Bool, List, Option, refl}
use Rattle.std.specs.Coded.{Coded, code_by, coded×, coded⊎, coded_ℕ, coded_bool, coded_list, coded_option}
use Rattle.std.specs.{Ordering.nat_cmp, FinMap.FinMap}
use Rattle.w16_model.specs.{declared.Kind.Kind, Handles.Handles, Codes.kind_code, Codes.handles_code}
use specs.File.{Far, Segment, Entry, Resource, Tables}
use Rattle.w16_model.specs.Commands.{Label}
use Rattle.w16_model.specs.Commands.Label.{Number, Text}
use specs.File.Entry.{InSegment, Constant}
use specs.Modules.{Module, Named, Load, LoadingWorld}
use specs.Modules.Named.{Loaded, BuiltIn}
use mathlib.Core.Logic.{inl, inr}
use base.Stored.{Gv}
use Rattle.std.specs.FinMap as finmap

abbrev pub text_code : Coded (List ℕ)
text_code = coded_list coded_ℕ

abbrev pub far_code : Coded Far
far_code = code_by (ℕ × ℕ) (coded× coded_ℕ coded_ℕ) (λ f. (f.selector, f.offset)) (λ p. record { selector = p.0; offset = p.1 }) (λ _. refl)

abbrev pub segment_code : Coded Segment
segment_code = code_by (Kind × (Bool × (Bool × ℕ))) (coded× kind_code (coded× coded_bool (coded× coded_bool coded_ℕ)))
    (λ s. (s.kind, (s.is_code, (s.is_preload, s.size)))) (λ p. record { kind = p.0; is_code = p.1.0; is_preload = p.1.1.0; size = p.1.1.1 }) (λ _. refl)

abbrev pub of_entry : Entry → (ℕ × ℕ) ⊎ ℕ
of_entry (InSegment number offset) = inl (number, offset)
of_entry (Constant value) = inr value

abbrev pub to_entry : (ℕ × ℕ) ⊎ ℕ → Entry
to_entry (inl p) = InSegment p.0 p.1
to_entry (inr value) = Constant value

pub entry_back : (e : Entry) → to_entry (of_entry e) ≡ e
entry_back (InSegment number offset) = refl
entry_back (Constant value) = refl

abbrev pub entry_code : Coded Entry
entry_code = code_by ((ℕ × ℕ) ⊎ ℕ) (coded⊎ (coded× coded_ℕ coded_ℕ) coded_ℕ) of_entry to_entry entry_back

abbrev pub of_label : Label → ℕ ⊎ List ℕ
of_label (Number value) = inl value
of_label (Text text) = inr text

abbrev pub to_label : ℕ ⊎ List ℕ → Label
to_label (inl value) = Number value
to_label (inr text) = Text text

pub label_back : (l : Label) → to_label (of_label l) ≡ l
label_back (Number value) = refl
label_back (Text text) = refl

abbrev pub label_code : Coded Label
label_code = code_by (ℕ ⊎ List ℕ) (coded⊎ coded_ℕ text_code) of_label to_label label_back

abbrev pub resource_code : Coded Resource
resource_code = code_by (Label × (Label × (ℕ × Kind))) (coded× label_code (coded× label_code (coded× coded_ℕ kind_code)))
    (λ r. (r.kind_of, (r.label, (r.length_in, r.kind)))) (λ p. record { kind_of = p.0; label = p.1.0; length_in = p.1.1.0; kind = p.1.1.1 }) (λ _. refl)

-- a layout is told apart as it is
abbrev pub layout_code : Coded Gv
layout_code = record { code = λ layout. layout; inj = λ _ _ same. same }

abbrev pub tables_code : Coded Tables
tables_code = code_by (List ℕ × (Bool × (List Segment × (List (List ℕ) × (List (Option Entry) × (List (List ℕ × ℕ) × (List Resource × Gv)))))))
    (coded× text_code (coded× coded_bool (coded× (coded_list segment_code) (coded× (coded_list text_code) (coded× (coded_list (coded_option entry_code)) (coded× (coded_list (coded× text_code coded_ℕ)) (coded× (coded_list resource_code) layout_code)))))))
    (λ t. (t.name, (t.is_library, (t.segments, (t.references, (t.entries, (t.names, (t.resources, t.layout))))))))
    (λ p. record { name = p.0; is_library = p.1.0; segments = p.1.1.0; references = p.1.1.1.0; entries = p.1.1.1.1.0; names = p.1.1.1.1.1.0; resources = p.1.1.1.1.1.1.0; layout = p.1.1.1.1.1.1.1 }) (λ _. refl)

abbrev pub module_code : Coded Module
module_code = code_by (List ℕ × (Tables × (ℕ × (List ℕ × (List (List Far) × List ℕ)))))
    (coded× text_code (coded× tables_code (coded× coded_ℕ (coded× text_code (coded× (coded_list (coded_list far_code)) text_code)))))
    (λ m. (m.file, (m.tables, (m.uses, (m.slots, (m.values, m.imports))))))
    (λ p. record { file = p.0; tables = p.1.0; uses = p.1.1.0; slots = p.1.1.1.0; values = p.1.1.1.1.0; imports = p.1.1.1.1.1 }) (λ _. refl)

abbrev pub of_named : Named → Module ⊎ List ℕ
of_named (Loaded m) = inl m
of_named (BuiltIn name) = inr name

abbrev pub to_named : Module ⊎ List ℕ → Named
to_named (inl m) = Loaded m
to_named (inr name) = BuiltIn name

pub named_back : (n : Named) → to_named (of_named n) ≡ n
named_back (Loaded m) = refl
named_back (BuiltIn name) = refl

abbrev pub named_code : Coded Named
named_code = code_by (Module ⊎ List ℕ) (coded⊎ module_code text_code) of_named to_named named_back

abbrev pub load_code : Coded Load
load_code = code_by (ℕ × (ℕ × ℕ)) (coded× coded_ℕ (coded× coded_ℕ coded_ℕ)) (λ l. (l.handle, (l.place, l.loads))) (λ p. record { handle = p.0; place = p.1.0; loads = p.1.1 }) (λ _. refl)

abbrev pub files_code : Coded (List (List ℕ × List ℕ))
files_code = coded_list (coded× text_code text_code)

abbrev pub world_code : Coded LoadingWorld
world_code = code_by (Handles × (FinMap nat_cmp Named × (FinMap nat_cmp Load × (List (List ℕ × List ℕ) × ℕ))))
    (coded× handles_code (coded× (finmap.code coded_ℕ named_code) (coded× (finmap.code coded_ℕ load_code) (coded× files_code coded_ℕ))))
    (λ w. (w.handles, (w.modules, (w.loads, (w.files, w.failures))))) (λ p. record { handles = p.0; modules = p.1.0; loads = p.1.1.0; files = p.1.1.1.0; failures = p.1.1.1.1 }) (λ _. refl)
