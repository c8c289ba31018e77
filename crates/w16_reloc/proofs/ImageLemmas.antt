-- The values written one after another are the image, offset by offset.
use Rattle.w16_reloc.proofs
use proofs.Common as C
use proofs.Common.{◌≡◌, ℕ, ◌+◌, ◌<◌, ◌≤◌, List, [], ◌∷◌, ◌++◌, length, Bool, true, false, refl, sym, ◌∙◌, arith, get_or, drop, nat_lt, nat_le, ◌&&◌, ◌||◌, list_any, Part, Record, Added, Far, Site, covers, meets, AreSound, Names, AreNamed, of_width, width_of, all_sites, Patch, byte}
use proofs.Common.{patches_of, patches, image_at, moved, over, over_each, IsOpen}
use proofs.WalkLemmas.{over_each_same, chain_narrow, value_narrow}
use proofs.{SiteLemmas.any_meets, ApartLemmas.sound_steps}

-- patches that lie in these sites, one in each
abbrev pub Fit : List Patch → List Site → Type 0
Fit [] [] = Unit {0}
Fit [] (s ∷ ss) = ⊥
Fit (p ∷ ps) [] = ⊥
Fit (p ∷ ps) (s ∷ ss) = (p.at ≡ s.at) × (length p.value ≤ s.width) × Fit ps ss

fit_append : (ps qs : List Patch) (ss ts : List Site) → Fit ps ss → Fit qs ts → Fit (ps ++ qs) (ss ++ ts)
fit_append [] qs [] ts a b = b
fit_append [] qs (s ∷ ss) ts a b = absurd a
fit_append (p ∷ ps) qs [] ts a b = absurd a
fit_append (p ∷ ps) qs (s ∷ ss) ts a b = (a.0, a.1, fit_append ps qs ss ts a.2 b)

fit_stored : (value : List ℕ) (width : ℕ) (ats : List ℕ) → length value ≤ width → Fit (C.stored_at value ats) (of_width width ats)
fit_stored value width [] narrow = tt
fit_stored value width (at ∷ ats) narrow = (refl, narrow, fit_stored value width ats narrow)

fit_added : (file : List ℕ) (part : Part) (far : Far) (ats : List ℕ) → Fit (C.added_at file part far ats) (of_width (C.value_width part) ats)
fit_added file part far [] = tt
fit_added file part far (at ∷ ats) = (refl, value_narrow part (moved far (C.found_at part file at)), fit_added file part far ats)

fit_record : (file : List ℕ) (r : Record) (far : Far) (ats : List ℕ) → Names file r ats → Fit (patches_of file r far ats) (of_width (width_of r) ats)
fit_record file (C.Stored fixup) far ats names = fit_stored (C.value_of fixup.part far) (C.chain_width fixup.part) ats (chain_narrow fixup.part far)
fit_record file (Added fixup) far ats names = fit_added file fixup.part far ats
fit_record file C.System far [] names = tt
fit_record file C.System far (at ∷ ats) names = cc

pub fit_all : (file : List ℕ) (records : List Record) (values : List Far) (named : List (List ℕ)) → length records ≡ length values → AreNamed file records named → Fit (patches file records values named) (all_sites records named)
fit_all file [] values named same names = tt
fit_all file (r ∷ rs) [] named same names = absurd (omega (arith, same))
fit_all file (r ∷ rs) (v ∷ vs) [] same names = absurd names
fit_all file (r ∷ rs) (v ∷ vs) (ats ∷ others) same names =
    fit_append (patches_of file r v ats) (patches file rs vs others) (of_width (width_of r) ats) (all_sites rs others) (fit_record file r v ats names.0) (fit_all file rs vs others (omega (arith, same)) names.1)

-- what covers a byte of an earlier site isn't written
misses : (before : List Site) (at width start len o : ℕ) (r : Bool) → nat_le start o && nat_lt o (start + len) ≡ r → start ≡ at → len ≤ width → list_any (covers o) before ≡ true
    → list_any (meets (record { at = at; width = width })) before ≡ false → r ≡ false
misses before at width start len o false e same narrow covered apart = refl
misses before at width start len o true e same narrow covered apart =
    let low : at ≤ o = grind arith in
    let high : o < at + width = grind arith in
    let some = any_meets before at width o covered low high in cc

pub or_more : (x y : Bool) → y ≡ true → (x || y) ≡ true
or_more true y h = refl
or_more false y h = h

kept : (len : ℕ) (ps : List Patch) (sites before : List Site) (f : ℕ → ℕ) (o : ℕ) → Fit ps sites → AreSound len before sites → list_any (covers o) before ≡ true → over_each ps f o ≡ f o
kept len [] sites before f o fit sound covered = refl
kept len (p ∷ ps) [] before f o fit sound covered = absurd fit
kept len (p ∷ ps) (s ∷ ss) before f o fit sound covered =
    let missed : (nat_le p.at o && nat_lt o (p.at + length p.value)) ≡ false = misses before s.at s.width p.at (length p.value) o _ refl fit.0 fit.1 covered sound.1 in
    let rest = kept len ps ss (s ∷ before) (over p f) o fit.2 sound.2 (or_more _ _ covered) in
    rest ∙ rw missed refl

covered_by : (at width start len o : ℕ) → start ≡ at → len ≤ width → (nat_le start o && nat_lt o (start + len)) ≡ true → covers o (record { at = at; width = width }) ≡ true
covered_by at width start len o same narrow h = grind arith

or_first : (x y : Bool) → x ≡ true → (x || y) ≡ true
or_first true y h = refl
or_first false y h = cc

-- a write elsewhere doesn't show
elsewhere : (ps : List Patch) (f g : ℕ → ℕ) (o : ℕ) → f o ≡ g o → image_at ps f o ≡ image_at ps g o
elsewhere [] f g o h = h
elsewhere (p ∷ ps) f g o h = rw (elsewhere ps f g o h) refl

pub image_is : (len : ℕ) (ps : List Patch) (sites before : List Site) (f : ℕ → ℕ) (o : ℕ) → Fit ps sites → AreSound len before sites → over_each ps f o ≡ image_at ps f o
image_is len [] sites before f o fit sound = refl
image_is len (p ∷ ps) [] before f o fit sound = absurd fit
image_is len (p ∷ ps) (s ∷ ss) before f o fit sound =
    elim (nat_le p.at o && nat_lt o (p.at + length p.value)) as (λ b. (nat_le p.at o && nat_lt o (p.at + length p.value)) ≡ b → over_each (p ∷ ps) f o ≡ image_at (p ∷ ps) f o) [
      | true ↦ λ e. let rest = kept len ps ss (s ∷ before) (over p f) o fit.2 sound.2 (or_first _ _ (covered_by s.at s.width p.at (length p.value) o fit.0 fit.1 e)) in rest ∙ rw e refl
      | false ↦ λ e.
          let rest = image_is len ps ss (s ∷ before) (over p f) o fit.2 sound.2 in
          let same : over p f o ≡ f o = rw e refl in
          rest ∙ elsewhere ps (over p f) f o same ∙ rw e refl
    ] refl

-- several lists of patches and of sites, one after another
over_each_append : (ps qs : List Patch) (f : ℕ → ℕ) (o : ℕ) → over_each (ps ++ qs) f o ≡ over_each qs (over_each ps f) o
over_each_append [] qs f o = refl
over_each_append (p ∷ ps) qs f o = over_each_append ps qs (over p f) o

pub sound_parts : (len : ℕ) (before ss ts : List Site) → AreSound len before (ss ++ ts) → AreSound len before ss × AreSound len (C.joined before ss) ts
sound_parts len before [] ts sound = (tt, sound)
sound_parts len before (s ∷ ss) ts sound = let p = sound_parts len (s ∷ before) ss ts sound.2 in ((sound.0, sound.1, p.0), p.1)

first_named : (file : List ℕ) (r : Record) (rs : List Record) (named : List (List ℕ)) → AreNamed file (r ∷ rs) named → (ats : List ℕ) × (others : List (List ℕ)) × (named ≡ ats ∷ others) × Names file r ats × AreNamed file rs others
first_named file r rs [] names = absurd names
first_named file r rs (ats ∷ others) names = (ats, others, refl, names.0, names.1)

pub record First (file : List ℕ) (total : ℕ → ℕ) (r : Record) (rs : List Record) (far : Far) (values : List Far) (bytes : List ℕ) : Type 0 where
  pub before : List Site
  pub ats : List ℕ
  pub ready : C.IsReady file bytes before r ats
  pub then : (new : List ℕ) → length new ≡ length bytes → C.IsWritten file bytes new before r far ats → IsOpen file total rs values new

pub open_first : (file : List ℕ) (total : ℕ → ℕ) (r : Record) (rs : List Record) (far : Far) (values : List Far) (bytes : List ℕ) → IsOpen file total (r ∷ rs) (far ∷ values) bytes → First file total r rs far values bytes
open_first file total r rs far values bytes w =
    let p = first_named file r rs w.named w.names in
    let whole : AreSound (length file) w.before (of_width (width_of r) p.0 ++ all_sites rs p.1) = rw p.2 at w.sound in
    let sound = sound_parts (length file) w.before (of_width (width_of r) p.0) (all_sites rs p.1) whole in
    let each : (o : ℕ) → over_each (patches_of file r far p.0 ++ patches file rs values p.1) (byte bytes) o ≡ total o = rw p.2 at w.each in
    record {
      before = w.before;
      ats = p.0;
      ready = record { room = w.room; names = p.3; sound = sound.0; outside = w.outside };
      then = λ new same written. record {
        before = C.joined w.before (of_width (width_of r) p.0);
        named = p.1;
        room = rw same w.room;
        names = p.4;
        sound = sound.1;
        outside = written.outside;
        each = λ o. over_each_same (patches file rs values p.1) (byte new) (over_each (patches_of file r far p.0) (byte bytes)) o written.each ∙ sym (over_each_append (patches_of file r far p.0) (patches file rs values p.1) (byte bytes) o) ∙ each o;
      };
    }

open_by : (file : List ℕ) (total : ℕ → ℕ) (values : List Far) (bytes : List ℕ) (named : List (List ℕ)) → AreNamed file [] named → ((o : ℕ) → over_each (patches file [] values named) (byte bytes) o ≡ total o) → (o : ℕ) → byte bytes o ≡ total o
open_by file total values bytes named names each = each

pub open_done : (file : List ℕ) (total : ℕ → ℕ) (values : List Far) (bytes : List ℕ) → IsOpen file total [] values bytes → (o : ℕ) → byte bytes o ≡ total o
open_done file total values bytes w = open_by file total values bytes w.named w.names w.each

-- one record more is written
pub open_next : (file : List ℕ) (total : ℕ → ℕ) (records : List Record) (values : List Far) (i : ℕ) (r : Record) (far : Far) (old new : List ℕ) → i < length records → length records ≡ length values → IsOpen file total (drop i records) (drop i values) old
    → length new ≡ length old → ((before : List Site) (ats : List ℕ) → C.IsReady file old before (get_or records i r) ats → C.IsWritten file old new before (get_or records i r) (get_or values i far) ats) → IsOpen file total (drop (i + 1) records) (drop (i + 1) values) new
open_next file total records values i r far old new lt many w same written =
    let some : i < length values = omega arith in
    let more = rw (C.drop_more records i r lt, C.drop_more values i far some) at w in
    let f = open_first file total (get_or records i r) (drop (i + 1) records) (get_or values i far) (drop (i + 1) values) old more in
    f.then new same (written f.before f.ats f.ready)

-- where all were written, the bytes are the image
pub written_image : (file : List ℕ) (records : List Record) (values : List Far) (named : List (List ℕ)) (old new : List ℕ) → length records ≡ length values → C.IsSound file records named → ((o : ℕ) → byte old o ≡ byte file o)
    → ((o : ℕ) → byte new o ≡ over_each (patches file records values named) (byte old) o) → C.IsImage file records values named new
written_image file records values named old new many sound begun each = λ o.
    each o ∙ over_each_same (patches file records values named) (byte old) (byte file) o begun
    ∙ image_is (length file) (patches file records values named) (all_sites records named) [] (byte file) o (fit_all file records values named many sound.0) (sound_steps file records named sound.0 sound.1)
