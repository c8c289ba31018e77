-- The functions name what a sound segment names, and give its image.
use Rattle.w16_reloc.proofs
use proofs.Common as C
use proofs.Common.{◌≡◌, ◌≢◌, ℕ, zero, suc, ◌+◌, ◌-◌, ◌<◌, ◌≤◌, ◌%◌, ◌/◌, List, [], ◌∷◌, ◌++◌, length, Bool, true, false, cond, refl, sym, ◌∙◌, ap, subst, arith, get_or, nat_lt, ◌&&◌, All, word_of, Part, Record, Added, Far, Site, AreSound, Names, IsSound, of_width, width_of, all_sites}
use proofs.Common.{Patch, byte, patches, image_at, moved, word_bytes, chain_from, offsets_of, naming, image_of, IsFar}
use proofs.ImageLemmas.{Fit, fit_all, sound_parts}
use proofs.{Count.no_more_sites, WalkLemmas.chain_wide, ApartLemmas.sound_steps}

-- Names.

no_end : (at : ℕ) → at ≢ 65535 → C.nat_eq at 65535 ≡ false
no_end at h = grind arith

chain_is : (bytes : List ℕ) (n at : ℕ) (ats : List ℕ) → C.IsChain bytes at ats → length ats ≤ n → chain_from bytes n at ≡ ats
chain_is bytes zero at [] chain few = refl
chain_is bytes zero at (s ∷ ss) chain few = absurd (omega (arith, few))
chain_is bytes (suc n) at [] chain few = rw chain refl
chain_is bytes (suc n) at (s ∷ ss) chain few =
    let rest = chain_is bytes n (word_of bytes s) ss chain.2 (omega (arith, few)) in
    let here : chain_from bytes (suc n) at ≡ at ∷ chain_from bytes n (word_of bytes at) = rw (no_end at chain.1) refl in
    let same : at ∷ chain_from bytes n (word_of bytes at) ≡ s ∷ chain_from bytes n (word_of bytes s) = ap (λ x. x ∷ chain_from bytes n (word_of bytes x)) chain.0 in
    here ∙ same ∙ ap (λ xs. s ∷ xs) rest

names_is : (file : List ℕ) (before : List Site) (r : Record) (ats : List ℕ) → Names file r ats → AreSound (length file) before (of_width (width_of r) ats) → offsets_of file r ≡ ats
names_is file before (C.Stored fixup) ats names sound =
    let wide = chain_wide fixup.part in
    chain_is file (length file) fixup.offset ats names (no_more_sites (length file) (C.chain_width fixup.part) before ats (omega (arith, wide)) sound)
names_is file before (Added fixup) ats names sound = sym names
names_is file before C.System ats names sound = sym names

naming_steps : (file : List ℕ) (records : List Record) (before : List Site) (named : List (List ℕ)) → C.AreNamed file records named → AreSound (length file) before (all_sites records named) → named ≡ naming file records
naming_steps file [] before [] names sound = refl
naming_steps file [] before (ats ∷ others) names sound = absurd names
naming_steps file (r ∷ rs) before [] names sound = absurd names
naming_steps file (r ∷ rs) before (ats ∷ others) names sound =
    let parts = sound_parts (length file) before (of_width (width_of r) ats) (all_sites rs others) sound in
    let here : offsets_of file r ≡ ats = names_is file before r ats names.0 parts.0 in
    let rest : others ≡ naming file rs = naming_steps file rs (C.joined before (of_width (width_of r) ats)) others names.1 parts.1 in
    ap (λ x. x ∷ others) (sym here) ∙ ap (λ xs. offsets_of file r ∷ xs) rest

pub naming_is : (file : List ℕ) (records : List Record) (named : List (List ℕ)) → IsSound file records named → named ≡ naming file records
naming_is file records named sound = naming_steps file records [] named sound.0 (sound_steps file records named sound.0 sound.1)

-- Images.

pub image_is_of : (file : List ℕ) (records : List Record) (values : List Far) (named : List (List ℕ)) (bytes : List ℕ) → IsSound file records named → C.IsImage file records values named bytes → bytes ≡ image_of file records values (length bytes)
image_is_of file records values named bytes sound image =
    C.fill_by_all (image_at (patches file records values (naming file records)) (byte file)) bytes (length bytes) 0 refl
    (λ k lt. (rw (naming_is file records named sound) at image) k)

missed : (start at n width len o : ℕ) → start ≡ at → n ≤ width → at + width ≤ len → len ≤ o → (C.nat_le start o && nat_lt o (start + n)) ≡ false
missed start at n width len o same narrow inside past = grind arith

past_all : (len : ℕ) (ps : List Patch) (sites before : List Site) (old : ℕ → ℕ) (o : ℕ) → Fit ps sites → AreSound len before sites → len ≤ o → image_at ps old o ≡ old o
past_all len [] sites before old o fit sound past = refl
past_all len (p ∷ ps) [] before old o fit sound past = absurd fit
past_all len (p ∷ ps) (s ∷ ss) before old o fit sound past =
    rw (missed p.at s.at (length p.value) s.width len o fit.0 fit.1 sound.0 past) (past_all len ps ss (s ∷ before) old o fit.2 sound.2 past)

pub image_of_is : (file : List ℕ) (records : List Record) (values : List Far) (named : List (List ℕ)) (size : ℕ) → length records ≡ length values → IsSound file records named → length file ≤ size
    → C.IsImage file records values named (image_of file records values size)
image_of_is file records values named size many sound room =
    let same : named ≡ naming file records = naming_is file records named sound in
    λ o. elim (nat_lt o size) as (λ b. nat_lt o size ≡ b → byte (image_of file records values size) o ≡ image_at (patches file records values named) (byte file) o) [
      | true ↦ λ e.
          let lt : o < size = grind arith in
          C.get_or-map-range_with_len (image_at (patches file records values (naming file records)) (byte file)) 0 size o o 0 lt (omega arith) ∙ rw same refl
      | false ↦ λ e.
          let le : size ≤ o = grind arith in
          let long : length (image_of file records values size) ≡ size = C.length-map-range_with_len (image_at (patches file records values (naming file records)) (byte file)) 0 size in
          let past : image_at (patches file records values named) (byte file) o ≡ byte file o =
          past_all (length file) (patches file records values named) (all_sites records named) [] (byte file) o (fit_all file records values named many sound.0) (sound_steps file records named sound.0 sound.1) (omega arith) in
          C.get_or_past (image_of file records values size) o 0 (omega (arith, long, le)) ∙ sym (C.get_or_past file o 0 (omega arith)) ∙ sym past
    ] refl

-- Bytes.

abbrev AreBytes : List ℕ → Type 0
AreBytes bytes = All (λ b. b < 256) bytes

at_any : (bytes : List ℕ) → AreBytes bytes → (o : ℕ) → get_or bytes o 0 < 256
at_any [] all o = omega arith
at_any (b ∷ bs) all zero = C.All-head (λ x. x < 256) b bs all
at_any (b ∷ bs) all (suc o) = at_any bs (C.All-tail (λ x. x < 256) b bs all) o

byte_first : (n : ℕ) (bytes : List ℕ) → n < 256 → AreBytes bytes → AreBytes (n ∷ bytes)
byte_first n bytes small all = C.All-cons (λ x. x < 256) n bytes small all

no_bytes : AreBytes []
no_bytes = C.All-nil (λ x. x < 256)

low : (n : ℕ) → n % 256 < 256
low n = omega arith

high : (n : ℕ) → n < 65536 → n / 256 < 256
high n lt = omega arith

word_is : (n : ℕ) → n < 65536 → AreBytes (word_bytes n)
word_is n lt = byte_first (n % 256) (n / 256 ∷ []) (low n) (byte_first (n / 256) [] (high n lt) no_bytes)

value_is : (part : Part) (far : Far) → IsFar far → AreBytes (C.value_of part far)
value_is C.LowByte far is = byte_first (far.offset % 256) [] (low far.offset) no_bytes
value_is C.Selector far is = word_is far.selector is.0
value_is C.Pointer far is = byte_first (far.offset % 256) (far.offset / 256 ∷ word_bytes far.selector) (low far.offset) (byte_first (far.offset / 256) (word_bytes far.selector) (high far.offset is.1) (word_is far.selector is.0))
value_is C.Offset far is = word_is far.offset is.1

moved_is : (far : Far) (by : ℕ) → IsFar far → IsFar (moved far by)
moved_is far by is = (is.0, omega arith)

-- each patch has bytes
abbrev Have : List Patch → Type 0
Have [] = Unit {0}
Have (p ∷ ps) = AreBytes p.value × Have ps

have_append : (ps qs : List Patch) → Have ps → Have qs → Have (ps ++ qs)
have_append [] qs a b = b
have_append (p ∷ ps) qs a b = (a.0, have_append ps qs a.1 b)

have_stored : (value ats : List ℕ) → AreBytes value → Have (C.stored_at value ats)
have_stored value [] is = tt
have_stored value (at ∷ ats) is = (is, have_stored value ats is)

have_added : (file : List ℕ) (part : Part) (far : Far) (ats : List ℕ) → IsFar far → Have (C.added_at file part far ats)
have_added file part far [] is = tt
have_added file part far (at ∷ ats) is = (value_is part (moved far (C.found_at part file at)) (moved_is far (C.found_at part file at) is), have_added file part far ats is)

have_of : (file : List ℕ) (r : Record) (far : Far) (ats : List ℕ) → IsFar far → Have (C.patches_of file r far ats)
have_of file (C.Stored fixup) far ats is = have_stored (C.value_of fixup.part far) ats (value_is fixup.part far is)
have_of file (Added fixup) far ats is = have_added file fixup.part far ats is
have_of file C.System far ats is = tt

have_all : (file : List ℕ) (records : List Record) (values : List Far) (named : List (List ℕ)) → All IsFar values → Have (patches file records values named)
have_all file [] values named all = tt
have_all file (r ∷ rs) [] named all = tt
have_all file (r ∷ rs) (v ∷ vs) [] all = tt
have_all file (r ∷ rs) (v ∷ vs) (ats ∷ others) all =
    have_append (C.patches_of file r v ats) (patches file rs vs others) (have_of file r v ats (C.All-head IsFar v vs all)) (have_all file rs vs others (C.All-tail IsFar v vs all))

either : (b : Bool) (m n : ℕ) → m < 256 → n < 256 → cond b m n < 256
either true m n one other = one
either false m n one other = other

image_small : (ps : List Patch) (old : ℕ → ℕ) → Have ps → ((o : ℕ) → old o < 256) → (o : ℕ) → image_at ps old o < 256
image_small [] old have small o = small o
image_small (p ∷ ps) old have small o = either _ (get_or p.value (o - p.at) 0) (image_at ps old o) (at_any p.value have.0 (o - p.at)) (image_small ps old have.1 small o)

pub image_bytes : (file : List ℕ) (records : List Record) (values : List Far) (size : ℕ) → All (λ b. b < 256) file → All IsFar values → All (λ b. b < 256) (image_of file records values size)
image_bytes file records values size all far k d lt =
    let f = image_at (patches file records values (naming file records)) (byte file) in
    let long : length (image_of file records values size) ≡ size = C.length-map-range_with_len f 0 size in
    let same : get_or (image_of file records values size) k d ≡ f k = C.get_or-map-range_with_len f 0 size k k d (omega (arith, long, lt)) (omega arith) in
    subst (λ n. n < 256) (sym same) (image_small (patches file records values (naming file records)) (byte file) (have_all file records values (naming file records) far) (at_any file all) k)
