-- What a load makes of names and of files.
use Rattle.w16_loader.proofs
use proofs.Common as C
use proofs.Common.{◌≡◌, ℕ, zero, suc, ◌+◌, ◌<◌, ◌≤◌, Bool, true, not, cond, ◌&&◌, List, [], ◌∷◌, length, map, drop, Option, Some, None, option_map, Ok, Err, refl, sym, ap, ◌∙◌, arith, position, is_ok, slice_get, list_all, is_named, There, New, RelocFault, Held, checked, refused, Found}
use proofs.Common.{Files, found_in, said}
use Rattle.w16_ne.specs.declared.segment_table.Segment.{Segment}
use Rattle.w16_store.specs.declared.store.StoreFault.TheVariants as stores
use Rattle.w16_ne.specs.declared.fault.NeFault.TheVariants as faults
use Rattle.w16_ne.specs.Reading as ne_reading
use Rattle.w16_ne.specs.Modules as ne
use Rattle.w16_loading.specs.Closure as closing
use Rattle.w16_reloc.specs.declared.fault.RelocFault.TheVariants as relocs
use Rattle.w16_loading.specs.declared.LoadRefusal.TheVariants.{BadFile}

-- Names.

prefix_map : {X Y : Type 0} (p : Y → Bool) (f : X → Y) (xs : List X) → C.prefix_len p (map f xs) ≡ C.prefix_len (λ x. p (f x)) xs
prefix_map p f [] = refl
prefix_map p f (x ∷ xs) = ap (λ n. cond (p (f x)) (1 + n) 0) (prefix_map p f xs)

position_by : ℕ → ℕ → Option ℕ
position_by at n = cond (C.nat_lt at n) (Some at) None

pub position_map : {X Y : Type 0} (p : Y → Bool) (f : X → Y) (xs : List X) → position p (map f xs) ≡ position (λ x. p (f x)) xs
unfolding position_by
position_map p f xs = ap (λ at. position_by at (length (map f xs))) (prefix_map (λ y. not (p y)) f xs) ∙ ap (position_by (C.position_or_len (λ x. p (f x)) xs)) (C.length-map xs f)

place_named : {A : Type 0} (files : Files) (found : List (Found A)) (name : List ℕ)
    → position (λ f. is_named f.read.tables.name name) (map (found_in files) found) ≡ position (λ f. is_named f.module.name name) found
place_named files found name = position_map (λ f. is_named _ name) _ found

pub means_new : {A : Type 0} (modules : C.Modules) (files : Files) (found : List (Found A)) (name : List ℕ) (place : Option ℕ) → None ≡ C.handle_named modules name → place ≡ position (λ f. is_named f.module.name name) found
    → option_map New place ≡ closing.meant (C.around_in modules files) (map (found_in files) found) name
means_new modules files found name place none is =
    ap (option_map New) (is ∙ sym (place_named files found name))
    ∙ ap (λ handle. C.option_or (option_map There handle) (option_map New (position (λ f. is_named f.read.tables.name name) (map (found_in files) found)))) none

-- Files.

pub is_read : (file : Option (List ℕ)) (n : ℕ) (t : ne.Tables) → C.length_of file ≡ Ok n → C.HasBytes file → C.tables_at file ≡ Ok t → C.IsFileWith file t
is_read None n t there all e = cc
is_read (Some bytes) n t there all e = (e, C.accepted bytes t all e)

pub is_refused : (file : Option (List ℕ)) (n start before after : ℕ) (e : C.NeFault) → start ≤ before → C.length_of file ≡ Ok n → C.HasBytes file → ne_reading.Refuses file before after e (C.tables_at file)
    → C.IsFault (λ refusal. said file ≡ Err refusal) start after (C.fault_of_tables e)
is_refused None n start before after e le there all h = cc
is_refused (Some bytes) n start before after faults.OutOfMemory le there all h = tt
is_refused (Some bytes) n start before after (faults.Store stores.Device) le there all h = omega arith
is_refused (Some bytes) n start before after (faults.Store stores.Missing) le there all h = cc
is_refused (Some bytes) n start before after (faults.Store stores.Short) le there all h = absurd h
is_refused (Some bytes) n start before after faults.NotMz le there all h = refused bytes _ all h
is_refused (Some bytes) n start before after faults.NotNe le there all h = refused bytes _ all h
is_refused (Some bytes) n start before after (faults.Target system) le there all h = refused bytes _ all h
is_refused (Some bytes) n start before after faults.Unsupported le there all h = refused bytes _ all h
is_refused (Some bytes) n start before after faults.Truncated le there all h = refused bytes _ all h
is_refused (Some bytes) n start before after faults.BadTable le there all h = refused bytes _ all h

-- Segments.

one_left : {X : Type 0} (p : X → Bool) (xs : List X) (i : ℕ) (x : X) → slice_get xs i ≡ Some x → list_all p (drop i xs) ≡ (p x && list_all p (drop (suc i) xs))
one_left p [] i x e = cc
one_left p (y ∷ ys) zero x e = let same : y ≡ x = cc in ap (λ z. p z && list_all p ys) same
one_left p (y ∷ ys) (suc i) x e = one_left p ys i x e

pub there : {X : Type 0} (xs : List X) (i : ℕ) → i < length xs → (x : X) × (slice_get xs i ≡ Some x)
there [] i lt = absurd (omega arith)
there (x ∷ xs) zero lt = (x, refl)
there (x ∷ xs) (suc i) lt = there xs i (omega arith)

module _ (bytes : List ℕ) (t : ne.Tables) where
  abbrev pub are_left : List Segment → Bool
  are_left segments = list_all (λ s. is_ok (checked bytes t s)) segments

  pub all_sound : (place : ℕ) → length t.segments ≤ place → are_left (drop place t.segments) ≡ are_left t.segments → C.are_sound (C.module_file bytes t) ≡ true
  all_sound place le left = C.sound_law bytes t ∙ sym left ∙ ap are_left (C.drop_all place t.segments le)

  module _ (place : ℕ) (s : Segment) (at : slice_get t.segments place ≡ Some s) (left : are_left (drop place t.segments) ≡ are_left t.segments) where
    so_far : (said : C.Result Held RelocFault) → checked bytes t s ≡ said → are_left t.segments ≡ (is_ok said && are_left (drop (suc place) t.segments))
    so_far said is = sym left ∙ one_left (λ s. is_ok (checked bytes t s)) t.segments place s at ∙ ap (λ r. is_ok r && are_left (drop (suc place) t.segments)) is

    pub sound_next : (held : Held) → checked bytes t s ≡ Ok held → are_left (drop (place + 1) t.segments) ≡ are_left t.segments
    sound_next held is = ap (λ k. are_left (drop k t.segments)) (C.add-one place) ∙ sym (so_far (Ok held) is)

    not_sound : (e : RelocFault) → checked bytes t s ≡ Err e → C.IsUnsound bytes t BadFile
    not_sound e is = (refl, C.sound_law bytes t ∙ so_far (Err e) is)

    pub is_unsound : (start before after : ℕ) (e : RelocFault) → start ≤ before → C.Refuses before after e (checked bytes t s) → C.IsFault (C.IsUnsound bytes t) start after (C.fault_of_relocations e)
    is_unsound start before after relocs.BadRecord le h = not_sound relocs.BadRecord h
    is_unsound start before after relocs.SiteOutside le h = not_sound relocs.SiteOutside h
    is_unsound start before after relocs.Overlap le h = not_sound relocs.Overlap h
    is_unsound start before after (relocs.Store stores.Device) le h = omega arith
    is_unsound start before after (relocs.Store stores.Missing) le h = absurd h
    is_unsound start before after (relocs.Store stores.Short) le h = absurd h
