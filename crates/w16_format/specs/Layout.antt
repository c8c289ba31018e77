-- The tables of an NE file as one value, by which two are told apart: where the file keeps each part, and the rest of what they say.
use Rattle.std.specs.Prelude.{◌≡◌, ℕ, ◌⊎◌, List, Option, refl}
use Rattle.std.specs.Coded.{Coded, code_by, coded×, coded⊎, coded_ℕ, coded_list, coded_option}
use Rattle.w16_ne.specs.declared.entry_table.Entry.TheVariants.{InSegment, Constant}
use Rattle.w16_ne.specs.{declared.segment_table.Segment.Segment, Resources.Label, Resources.Entry, Resources.Typed, Resources.Label.Number, Resources.Label.Text, Modules.Tables}
use base.Stored.{Gv}
use mathlib.Core.Logic.{inl, inr}
use Rattle.w16_ne.specs.declared.entry_table.Entry as ordinal

abbrev pub numbers_code : Coded (List ℕ)
numbers_code = coded_list coded_ℕ

abbrev pub segment_code : Coded Segment
segment_code = code_by (ℕ × (ℕ × (ℕ × (ℕ × ℕ)))) (coded× coded_ℕ (coded× coded_ℕ (coded× coded_ℕ (coded× coded_ℕ coded_ℕ))))
    (λ s. (s.place, (s.len, (s.flags.0, (s.size, s.records))))) (λ p. record { place = p.0; len = p.1.0; flags = record { 0 = p.1.1.0 }; size = p.1.1.1.0; records = p.1.1.1.1 }) (λ _. refl)

abbrev pub of_ordinal : ordinal.Entry → (ℕ × ℕ) ⊎ ℕ
of_ordinal (InSegment segment offset) = inl (segment, offset)
of_ordinal (Constant value) = inr value

abbrev pub to_ordinal : (ℕ × ℕ) ⊎ ℕ → ordinal.Entry
to_ordinal (inl p) = InSegment p.0 p.1
to_ordinal (inr value) = Constant value

pub ordinal_back : (e : ordinal.Entry) → to_ordinal (of_ordinal e) ≡ e
ordinal_back (InSegment segment offset) = refl
ordinal_back (Constant value) = refl

abbrev pub ordinal_code : Coded ordinal.Entry
ordinal_code = code_by ((ℕ × ℕ) ⊎ ℕ) (coded⊎ (coded× coded_ℕ coded_ℕ) coded_ℕ) of_ordinal to_ordinal ordinal_back

abbrev pub of_label : Label → ℕ ⊎ List ℕ
of_label (Number value) = inl value
of_label (Text text) = inr text

abbrev pub to_label : ℕ ⊎ List ℕ → Label
to_label (inl value) = Number value
to_label (inr text) = Text text

pub label_back : (l : Label) → to_label (of_label l) ≡ l
label_back (Number value) = refl
label_back (Text text) = refl

abbrev pub label_code : Coded Label
label_code = code_by (ℕ ⊎ List ℕ) (coded⊎ coded_ℕ numbers_code) of_label to_label label_back

abbrev pub resource_code : Coded Entry
resource_code = code_by (Label × (ℕ × (ℕ × ℕ))) (coded× label_code (coded× coded_ℕ (coded× coded_ℕ coded_ℕ)))
    (λ r. (r.id, (r.place, (r.len, r.flags)))) (λ p. record { id = p.0; place = p.1.0; len = p.1.1.0; flags = p.1.1.1 }) (λ _. refl)

abbrev pub types_code : Coded (List Typed)
types_code = coded_list (coded× label_code (coded_list resource_code))

abbrev pub layout_code : Coded Tables
layout_code = code_by (ℕ × (List ℕ × (List ℕ × (List ℕ × (List (List ℕ × ℕ) × (ℕ × (List Segment × (List (List ℕ) × (List (Option ordinal.Entry) × List Typed)))))))))
    (coded× coded_ℕ (coded× numbers_code (coded× numbers_code (coded× numbers_code (coded× (coded_list (coded× numbers_code coded_ℕ)) (coded× coded_ℕ (coded× (coded_list segment_code)
    (coded× (coded_list numbers_code) (coded× (coded_list (coded_option ordinal_code)) types_code)))))))))
    (λ t. (t.place, (t.header, (t.name, (t.description, (t.names, (t.resident, (t.segments, (t.references, (t.entries, t.resources))))))))))
    (λ p. record {
      place = p.0;
      header = p.1.0;
      name = p.1.1.0;
      description = p.1.1.1.0;
      names = p.1.1.1.1.0;
      resident = p.1.1.1.1.1.0;
      segments = p.1.1.1.1.1.1.0;
      references = p.1.1.1.1.1.1.1.0;
      entries = p.1.1.1.1.1.1.1.1.0;
      resources = p.1.1.1.1.1.1.1.1.1;
    }) (λ _. refl)

abbrev pub layout_of : Tables → Gv
layout_of t = layout_code.code t
