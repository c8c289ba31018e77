-- What loads and fetches get of an NE file.
use Rattle.w16_format.proofs
use proofs.Common as C
use proofs.Common.{◌≡◌, ℕ, ◌-◌, List, [], ◌∷◌, map, Some, Result, Ok, Err, refl, sym, ◌∙◌, ap, subst, All, Option, None, option_map, slice_index_or, is_ok, is_some, ◌&&◌, list_all, Label, Entry, Tables, Held, checked, IsFar, ModuleFile, SegmentData, numbered, LoadingWorld, Module, data_in}
use proofs.Common.{far_of, ne_format, IsFileOf}
use proofs.{Files.accepted, Lookups.numbered_map, Relocated.is_relocated, Relocated.words_same}
use Rattle.w16_reloc.specs.declared.value.Far as words

-- Soundness.

told : (file : List ℕ) (t : Tables) (r : Result Held C.RelocFault) → is_some (C.targets_in file t r) ≡ is_ok r
told file t (Ok held) = refl
told file t (Err e) = refl

all_told : (file : List ℕ) (t : Tables) (ss : List C.Segment) → list_all (λ (d : SegmentData). is_some d.targets) (map (data_in file t) ss) ≡ list_all (λ s. is_ok (checked file t s)) ss
all_told file t [] = refl
all_told file t (s ∷ ss) =
    ap (λ b. b && list_all (λ (d : SegmentData). is_some d.targets) (map (data_in file t) ss)) (told file t _) ∙ ap (λ b. is_ok (checked file t s) && b) (all_told file t ss)

pub sound_law : (file : List ℕ) (t : Tables) → C.are_sound (C.module_file file t) ≡ list_all (λ s. is_ok (checked file t s)) t.segments
sound_law file t = all_told file t _

read_is : (world : LoadingWorld) (m : Module) (file : List ℕ) (t : Tables) → IsFileOf world m file t → C.read_of ne_format world m ≡ Some (C.module_file file t)
read_is world m file t is =
    ap (λ (p : Option (List ℕ)). elim p as (λ _. Option _) [ None ↦ None | Some bytes ↦ elim (ne_format.says bytes) as (λ _. Option ModuleFile) [ Ok read ↦ Some read | Err _ ↦ None ] ]) is.stored
    ∙ ap (λ (r : C.OrRefused ModuleFile). elim r as (λ _. Option _) [ Ok read ↦ Some read | Err _ ↦ None ]) (accepted file t is.bytes is.tables)

-- Segments.

pub segment_given : (world : LoadingWorld) (m : Module) (file : List ℕ) (t : Tables) (number : ℕ) (s : C.Segment) (held : Held) (values : List words.Far) (bytes : List ℕ) → IsFileOf world m file t
    → numbered t.segments number ≡ Some s → checked file t s ≡ Ok held → All IsFar values → slice_index_or m.values (number - 1) [] ≡ map far_of values
    → C.IsImage held.bytes held.records values (C.naming held.bytes held.records) bytes → C.length bytes ≡ s.size → C.segment_bytes ne_format world m number ≡ Some bytes
segment_given world m file t number s held values bytes is place passed far bound image long =
    let read = read_is world m file t is in
    let there : numbered (map (data_in file t) t.segments) number ≡ Some (data_in file t s) = numbered_map _ _ number ∙ ap (option_map _) place in
    let relocated = is_relocated file t s held passed in
    let same : map C.far_in (map far_of values) ≡ values = words_same values far in
    let given : (data_in file t s).image (map far_of values) ≡ bytes =
    relocated.image _ bytes (subst (λ vs. C.IsImage held.bytes held.records vs (C.naming held.bytes held.records) bytes) (sym same) image) long in
    ap (λ (p : Option ModuleFile). elim p as (λ _. Option _) [ None ↦ None | Some r ↦ option_map (λ (d : SegmentData). d.image (slice_index_or m.values (number - 1) [])) (numbered r.segments number) ]) read
    ∙ ap (option_map (λ (d : SegmentData). d.image (slice_index_or m.values (number - 1) []))) there
    ∙ ap (λ vs. Some ((data_in file t s).image vs)) bound
    ∙ ap (λ x. Some x) given

-- Resources.

pub resource_given : (world : LoadingWorld) (m : Module) (file : List ℕ) (t : Tables) (place : ℕ) (r : Label × Entry) → IsFileOf world m file t
    → C.resource_at t.resources place ≡ Some r → C.resource_bytes ne_format world m place ≡ Some (C.contents_in file r)
resource_given world m file t place r is there =
    ap (λ (p : Option (List ℕ)). elim p as (λ _. Option _) [ None ↦ None | Some bytes ↦ elim (ne_format.says bytes) as (λ _. Option (List ℕ)) [ Ok _ ↦ ne_format.contents bytes place | Err _ ↦ None ] ]) is.stored
    ∙ ap (λ (said : C.OrRefused ModuleFile). elim said as (λ _. Option _) [ Ok _ ↦ ne_format.contents file place | Err _ ↦ None ]) (accepted file t is.bytes is.tables)
    ∙ ap (C.content_at file place) is.tables
    ∙ ap (option_map _) there
