-- Module files that the files of new modules may hold, by what was answered of them: they have the tables that were read, and the targets that were
-- bound.
use Rattle.w16_loader.proofs
use proofs.Common as C
use proofs.Common.{◌≡◌, ◌<◌, ℕ, ◌==◌, Bool, true, false, cond, List, [], ◌∷◌, length, map, All, Some, None, Ok, Err, MatchResult, refl, sym, ap, ◌∙◌, subst, arith, AllZip, list_all, is_some, Far, Segment, SegmentData, Tables, Target, ModuleFile, IsModuleFile, IsSegmentData}
use proofs.Common.{targets_of, file_of, ne_format, is_format, Files, Found, IsFit, IsAlike, AreAccepted, AreHeld, answers_of}
use Rattle.std.proofs.lemmas.Bool.{eqb-true}
use Rattle.w16_loading.specs.Answers.{HasTables, said_by}
use Rattle.w16_loading.specs.Closure as closing

-- What a segment holds with these targets: what another does, if that is as long, else bytes of 0.
abbrev plain : Segment → List Far → List ℕ
plain s values = C.replicate s.size 0

abbrev one_as : Segment → Segment → SegmentData → List Target → SegmentData
one_as s u d ts = record { targets = Some ts; image = cond (s.size == u.size) d.image (plain s) }

abbrev data_as : List Segment → List Segment → List SegmentData → List (List Target) → List SegmentData
data_as [] us ds tss = []
data_as (s ∷ ss) us ds [] = []
data_as (s ∷ ss) [] ds (ts ∷ tss) = record { targets = Some ts; image = plain s } ∷ data_as ss [] [] tss
data_as (s ∷ ss) (u ∷ us) [] (ts ∷ tss) = record { targets = Some ts; image = plain s } ∷ data_as ss [] [] tss
data_as (s ∷ ss) (u ∷ us) (d ∷ ds) (ts ∷ tss) = one_as s u d ts ∷ data_as ss us ds tss

targets_as : (ss us : List Segment) (ds : List SegmentData) (tss : List (List Target)) → length tss ≡ length ss → map targets_of (data_as ss us ds tss) ≡ tss
targets_as [] us ds [] e = refl
targets_as [] us ds (ts ∷ tss) e = absurd (omega (arith, e))
targets_as (s ∷ ss) us ds [] e = absurd (omega (arith, e))
targets_as (s ∷ ss) [] ds (ts ∷ tss) e = ap (λ more. ts ∷ more) (targets_as ss [] [] tss (omega (arith, e)))
targets_as (s ∷ ss) (u ∷ us) [] (ts ∷ tss) e = ap (λ more. ts ∷ more) (targets_as ss [] [] tss (omega (arith, e)))
targets_as (s ∷ ss) (u ∷ us) (d ∷ ds) (ts ∷ tss) e = ap (λ more. ts ∷ more) (targets_as ss us ds tss (omega (arith, e)))

sound_as : (ss us : List Segment) (ds : List SegmentData) (tss : List (List Target)) → list_all (λ s. is_some s.targets) (data_as ss us ds tss) ≡ true
sound_as [] us ds tss = refl
sound_as (s ∷ ss) us ds [] = refl
sound_as (s ∷ ss) [] ds (ts ∷ tss) = sound_as ss [] [] tss
sound_as (s ∷ ss) (u ∷ us) [] (ts ∷ tss) = sound_as ss [] [] tss
sound_as (s ∷ ss) (u ∷ us) (d ∷ ds) (ts ∷ tss) = sound_as ss us ds tss

abbrev IsImage : Segment → (List Far → List ℕ) → Type 0
IsImage s image = (values : List Far) → (length (image values) ≡ s.size) × All (λ b. b < 256) (image values)

plain_is : (s : Segment) → IsImage s (plain s)
plain_is s = λ values. (C.length-replicate s.size 0, C.All-replicate (λ b. b < 256) s.size 0 (omega arith))

with_image : (s : Segment) (ts : List Target) (image : List Far → List ℕ) → IsFit s → IsImage s image → IsSegmentData s (record { targets = Some ts; image = image })
with_image s ts image is has = record { some = is.some; small = is.small; rounded = is.rounded; image = has }

one_is : (s u : Segment) (d : SegmentData) → IsSegmentData u d → IsImage s (cond (s.size == u.size) d.image (plain s))
one_is s u d is = turn _ refl
  where
    turn : (b : Bool) → (s.size == u.size) ≡ b → IsImage s (cond b d.image (plain s))
    turn true e = λ values. ((is.image values).0 ∙ sym (eqb-true s.size u.size e), (is.image values).1)
    turn false e = plain_is s

is_data : (ss us : List Segment) (ds : List SegmentData) (tss : List (List Target)) → length tss ≡ length ss → AllZip IsSegmentData us ds → All IsFit ss → AllZip IsSegmentData ss (data_as ss us ds tss)
is_data [] us ds tss e are fit = tt
is_data (s ∷ ss) us ds [] e are fit = absurd (omega (arith, e))
is_data (s ∷ ss) [] ds (ts ∷ tss) e are fit = (with_image s ts _ (C.All-head IsFit s ss fit) (plain_is s), is_data ss [] [] tss (omega (arith, e)) tt (C.All-tail IsFit s ss fit))
is_data (s ∷ ss) (u ∷ us) [] (ts ∷ tss) e are fit = absurd are
is_data (s ∷ ss) (u ∷ us) (d ∷ ds) (ts ∷ tss) e are fit =
    (with_image s ts _ (C.All-head IsFit s ss fit) (one_is s u d are.0), is_data ss us ds tss (omega (arith, e)) are.1 (C.All-tail IsFit s ss fit))

-- what the file itself says
one_same : (u : Segment) (d : SegmentData) → is_some d.targets ≡ true → one_as u u d (targets_of d) ≡ d
one_same u d e =
    (λ i. record { targets = Some (targets_of d); image = cond (C.eq-eqb u.size u.size refl i) d.image (plain u) }) ∙ (λ i. record d { targets = whole _ e i })
  where
    whole : (p : C.Option (List Target)) → is_some p ≡ true → Some (C.unwrap_or p []) ≡ p
    whole None e = cc
    whole (Some ts) e = refl

data_same : (us : List Segment) (ds : List SegmentData) → AllZip IsSegmentData us ds → list_all (λ s. is_some s.targets) ds ≡ true → data_as us us ds (map targets_of ds) ≡ ds
data_same [] [] are sound = refl
data_same [] (d ∷ ds) are sound = absurd are
data_same (u ∷ us) [] are sound = refl
data_same (u ∷ us) (d ∷ ds) are sound =
    let parts = C.and_parts _ (list_all (λ s. is_some _) ds) sound in
    λ i. one_same u d parts.0 i ∷ data_same us ds are.1 parts.1 i

-- A file with these tables and targets; it is what is said, where that has them.
abbrev file_by : Tables → List (List Target) → C.OrRefused ModuleFile → ModuleFile
file_by t targets (Ok read) = record { tables = t; segments = data_as t.segments read.tables.segments read.segments targets }
file_by t targets (Err refusal) = record { tables = t; segments = data_as t.segments [] [] targets }

abbrev IsSaidFile : C.OrRefused ModuleFile → Type 0
IsSaidFile r = MatchResult r IsModuleFile (λ refusal. Unit {0})

abbrev Agrees : Tables → List (List Target) → C.OrRefused ModuleFile → Type 0
Agrees t targets r = HasTables r (Ok t) × MatchResult r (λ read. C.are_sound read ≡ true) (λ refusal. ⊥) × MatchResult r (λ read. targets ≡ map targets_of read.segments) (λ refusal. ⊥)

module _ (t : Tables) (targets : List (List Target)) (long : length targets ≡ length t.segments) where
  file_is : (r : C.OrRefused ModuleFile) → IsSaidFile r → All IsFit t.segments → IsModuleFile (file_by t targets r)
  file_is (Ok read) is fit = record { segments = is_data t.segments read.tables.segments read.segments targets long is.segments fit }
  file_is (Err refusal) is fit = record { segments = is_data t.segments [] [] targets long tt fit }

  file_sound : (r : C.OrRefused ModuleFile) → C.are_sound (file_by t targets r) ≡ true
  file_sound (Ok read) = sound_as t.segments read.tables.segments read.segments targets
  file_sound (Err refusal) = sound_as t.segments [] [] targets

  file_targets : (r : C.OrRefused ModuleFile) → map targets_of (file_by t targets r).segments ≡ targets
  file_targets (Ok read) = targets_as t.segments read.tables.segments read.segments targets long
  file_targets (Err refusal) = targets_as t.segments [] [] targets long

  file_tables : (r : C.OrRefused ModuleFile) → (file_by t targets r).tables ≡ t
  file_tables (Ok read) = refl
  file_tables (Err refusal) = refl

  file_same : (r : C.OrRefused ModuleFile) → IsSaidFile r → Agrees t targets r → r ≡ Ok (file_by t targets r)
  file_same (Err refusal) is (tables, sound, bound) = absurd tables
  file_same (Ok read) is (tables, sound, bound) =
      let same : data_as t.segments read.tables.segments read.segments targets ≡ read.segments =
      (λ i. data_as ((sym tables i).segments) read.tables.segments read.segments (bound i)) ∙ data_same read.tables.segments read.segments is.segments sound in
      λ i. Ok (record { tables = tables i; segments = sym same i })

-- as many lists of targets as segments
fit_to : List Segment → List (List Target) → List (List Target)
fit_to [] tss = []
fit_to (s ∷ ss) [] = [] ∷ fit_to ss []
fit_to (s ∷ ss) (ts ∷ tss) = ts ∷ fit_to ss tss

fit_long : (ss : List Segment) (tss : List (List Target)) → length (fit_to ss tss) ≡ length ss
unfolding fit_to
fit_long [] tss = refl
fit_long (s ∷ ss) [] = (let rest = fit_long ss [] in omega (arith, rest))
fit_long (s ∷ ss) (ts ∷ tss) = (let rest = fit_long ss tss in omega (arith, rest))

fit_same : (ss : List Segment) (ds : List SegmentData) → AllZip IsSegmentData ss ds → fit_to ss (map targets_of ds) ≡ map targets_of ds
unfolding fit_to
fit_same [] [] are = refl
fit_same [] (d ∷ ds) are = absurd are
fit_same (s ∷ ss) [] are = absurd are
fit_same (s ∷ ss) (d ∷ ds) are = ap (λ more. targets_of d ∷ more) (fit_same ss ds are.1)

said_is : (p : C.Option (List ℕ)) → IsSaidFile (said_by ne_format.says p)
said_is None = tt
said_is (Some bytes) = turn _ (is_format.files bytes)
  where
    turn : (r : C.OrRefused ModuleFile) → MatchResult r IsModuleFile (λ refusal. C.is_of_format refusal ≡ true) → IsSaidFile r
    turn (Ok read) is = is
    turn (Err refusal) is = tt

first_same : {X : Type 0} (x y : X) (xs ys : List X) → x ∷ xs ≡ y ∷ ys → x ≡ y
first_same x y xs ys e = cc

rest_same : {X : Type 0} (x y : X) (xs ys : List X) → x ∷ xs ≡ y ∷ ys → xs ≡ ys
rest_same x y xs ys e = cc

module _ (honest : Type 0) (files : Files) where
  -- A module whose records were bound to these targets, which are its file's where the store is honest.
  module _ (name : List ℕ) (t : Tables) (accepted : C.IsAccepted (answers_of honest files) name t) where
    abbrev r : C.OrRefused ModuleFile
    r = said_by ne_format.says (file_of files name)

    pub bound_held : (targets : List (List Target)) → length targets ≡ length t.segments → (honest → MatchResult r (λ read. targets ≡ map targets_of read.segments) (λ refusal. ⊥))
        → (read : ModuleFile) × (read.tables ≡ t) × (answers_of honest files).holds name read × (map targets_of read.segments ≡ targets)
    bound_held targets long bound = (
      file_by t targets r,
      file_tables t targets long r,
      (file_is t targets long r (said_is (file_of files name)) accepted.2, file_sound t targets long r, λ h. file_same t targets long r (said_is (file_of files name)) (accepted.0.1 h, accepted.1 h, bound h)),
      file_targets t targets long r,
    )

    -- and one whose weren't
    pub some_held : (read : ModuleFile) × (read.tables ≡ t) × (answers_of honest files).holds name read
    some_held =
        let targets = fit_to t.segments (own r) in
        let h = bound_held targets (fit_long t.segments (own r)) (λ h. own_same r (said_is (file_of files name)) (accepted.0.1 h)) in (h.0, h.1, h.2)
      where
        own : C.OrRefused ModuleFile → List (List Target)
        own (Ok read) = map targets_of read.segments
        own (Err refusal) = []

        own_same : (r : C.OrRefused ModuleFile) → IsSaidFile r → HasTables r (Ok t) → MatchResult r (λ read. fit_to t.segments (own r) ≡ map targets_of read.segments) (λ refusal. ⊥)
        own_same (Ok read) is tables = fit_same t.segments read.segments (subst (λ (u : Tables). AllZip IsSegmentData u.segments read.segments) tables is.segments)
        own_same (Err refusal) is tables = tables

  pub held_for : {A : Type 0} (fs : List (Found A)) → AreAccepted (answers_of honest files) (map (C.found_in []) fs) → (found : List closing.Found) × AllZip C.IsFoundOf fs found × AreHeld (answers_of honest files) found
  held_for [] h = ([], tt, tt)
  held_for (f ∷ fs) h =
      let one = some_held f.file.items (C.found_in [] f).read.tables h.0 in
      let rest = held_for fs h.1 in
      (record { file = f.file.items; read = one.0 } ∷ rest.0, ((refl, one.1), rest.1), (one.2, rest.2))

  pub held_alike : (fs : List closing.Found) → AreAccepted (answers_of honest files) fs → (found : List closing.Found) × AllZip IsAlike fs found × AreHeld (answers_of honest files) found
  held_alike [] h = ([], tt, tt)
  held_alike (f ∷ fs) h =
      let one = some_held f.file f.read.tables h.0 in
      let rest = held_alike fs h.1 in
      (record { file = f.file; read = one.0 } ∷ rest.0, ((refl, one.1), rest.1), (one.2, rest.2))

  -- new modules that were bound to targets, which are what the files of some say, where the store is honest
  pub bound_found : (fs some : List closing.Found) (targets : List (List (List Target))) → AreAccepted (answers_of honest files) fs → AllZip IsAlike fs some → AreHeld (answers_of honest files) some
      → AllZip (λ (f : closing.Found) (ts : List (List Target)). length ts ≡ length f.read.tables.segments) fs targets → (honest → targets ≡ map (λ (read : ModuleFile). map targets_of read.segments) (map (λ (f : closing.Found). f.read) some))
      → (found : List closing.Found) × AllZip IsAlike fs found × AreHeld (answers_of honest files) found × (map (λ (read : ModuleFile). map targets_of read.segments) (map (λ (f : closing.Found). f.read) found) ≡ targets)
  bound_found [] some [] accepted alike held long keeps = ([], tt, tt, refl)
  bound_found [] some (ts ∷ targets) accepted alike held long keeps = absurd long
  bound_found (f ∷ fs) some [] accepted alike held long keeps = absurd long
  bound_found (f ∷ fs) [] (ts ∷ targets) accepted alike held long keeps = absurd alike
  bound_found (f ∷ fs) (x ∷ some) (ts ∷ targets) accepted alike held long keeps =
      let said : honest → said_by ne_format.says (file_of files f.file) ≡ Ok x.read = λ h. ap (λ name. said_by ne_format.says (file_of files name)) (sym alike.0.0) ∙ held.0.2 h in
      let one = bound_held f.file f.read.tables accepted.0 ts long.0
      (λ h. subst (λ r. MatchResult r (λ read. ts ≡ map targets_of read.segments) (λ refusal. ⊥)) (sym (said h)) (first_same ts (map targets_of x.read.segments) targets _ (keeps h))) in
      let rest = bound_found fs some targets accepted.1 alike.1 held.1 long.1 (λ h. rest_same ts (map targets_of x.read.segments) targets _ (keeps h)) in (
        record { file = f.file; read = one.0 } ∷ rest.0,
        ((refl, one.1), rest.1),
        (one.2, rest.2),
        λ i. one.3 i ∷ rest.3 i,
      )
