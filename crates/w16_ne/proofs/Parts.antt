-- A fault that is told with its part is the file's first fault.
use Rattle.w16_ne.proofs.Common as C
use Rattle.w16_ne.proofs.Common.{◌≡◌, ℕ, List, Ok, Err, refl, ◌>>=◌, Tables, tables_behind}
use Rattle.w16_ne.specs.{declared.part.FilePart.FilePart, declared.part.PartFault.PartFault, Parts.IsTold, Parts.reads, Parts.parts_at, Parts.parts_behind, Parts.without_part}

same : {Y Z : Type 0} (part : FilePart) (read : C.Reading Y) (f : Y → C.Result Z PartFault) (g : Y → C.Reading Z) → ((y : Y) → without_part (f y) ≡ g y) → without_part (reads part read f) ≡ (read >>= g)
same part (Ok y) f g h = h y
same part (Err fault) f g h = refl

behind : (file : C.Option (List ℕ)) (ne : ℕ) (header : List ℕ) → without_part (parts_behind file ne header) ≡ tables_behind file ne header
unfolding parts_behind tables_behind
behind file ne header =
    same _ (C.segments_at file ne header) _ _ (λ _. same _ (C.resident_at file ne header) _ _ (λ _. same _ (C.references_at file ne header) _ _ (λ _.
    same _ (C.table_at file ne header) _ _ (λ _. same _ (C.nonresident_at file header) _ _ (λ _. same _ (C.resources_at file ne header) _ _ (λ _. refl))))))

pub first_faults : C.PartsLaw
unfolding parts_at C.tables_at
first_faults file = same _ (C.place_at file) _ _ (λ ne. same _ (C.header_at file ne) _ _ (λ header. same _ (C.fields_of header) _ _ (λ _. behind file ne header)))

told : (t : Tables) (parts : C.Result Tables PartFault) → without_part parts ≡ Ok t → IsTold (Ok t) parts
told t (Ok u) h = cc
told t (Err e) h = cc

-- tables that are read are read part by part
pub told_behind : (file : C.Option (List ℕ)) (ne : ℕ) (header : List ℕ) (t : Tables) → tables_behind file ne header ≡ Ok t → IsTold (Ok t) (parts_behind file ne header)
told_behind file ne header t h = told t (parts_behind file ne header) (rw (behind file ne header) h)
