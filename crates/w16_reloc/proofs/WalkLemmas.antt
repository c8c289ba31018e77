-- A chain that is written over, site by site.
use Rattle.w16_reloc.proofs
use proofs.Common.{◌≡◌, ℕ, ◌+◌, ◌-◌, ◌<◌, ◌≤◌, List, [], ◌∷◌, length, Bool, true, false, cond, refl, sym, ◌∙◌, ap, arith, get_or, ◌⊎◌, inl, inr, nat_lt, nat_le, ◌&&◌, ◌||◌, list_any, word_of, Part, LowByte, Selector, Pointer, Offset, Far, Site, covers, meets, AreSound, IsChain, of_width}
use proofs.Common.{chain_width, value_width, Patch, byte, stored_at, value_of, over, over_each, IsFileOutside, IsWalked}
use proofs.SiteLemmas.{any_meets}

pub chain_narrow : (part : Part) (far : Far) → length (value_of part far) ≤ chain_width part
chain_narrow LowByte far = omega arith
chain_narrow Selector far = omega arith
chain_narrow Pointer far = omega arith
chain_narrow Offset far = omega arith

pub value_narrow : (part : Part) (far : Far) → length (value_of part far) ≤ value_width part
value_narrow LowByte far = omega arith
value_narrow Selector far = omega arith
value_narrow Pointer far = omega arith
value_narrow Offset far = omega arith

pub chain_wide : (part : Part) → 2 ≤ chain_width part
chain_wide LowByte = omega arith
chain_wide Selector = omega arith
chain_wide Pointer = omega arith
chain_wide Offset = omega arith

pub over_each_same : (ps : List Patch) (f g : ℕ → ℕ) (o : ℕ) → ((p : ℕ) → f p ≡ g p) → over_each ps f o ≡ over_each ps g o
over_each_same [] f g o h = h o
over_each_same (p ∷ ps) f g o h = over_each_same ps (over p f) (over p g) o (λ q. rw (h q) refl)

-- a site that meets none of these has no byte that they cover
site_apart_by : (sites : List Site) (at width b : ℕ) (r : Bool) → list_any (covers b) sites ≡ r → list_any (meets (record { at = at; width = width })) sites ≡ false → at ≤ b → b < at + width → r ≡ false
site_apart_by sites at width b false e none low high = refl
site_apart_by sites at width b true e none low high = let some = any_meets sites at width b e low high in cc

pub site_apart : (sites : List Site) (at width b : ℕ) → list_any (meets (record { at = at; width = width })) sites ≡ false → at ≤ b → b < at + width → list_any (covers b) sites ≡ false
site_apart sites at width b none low high = site_apart_by sites at width b _ refl none low high

-- the bytes at such a site are still the file's
pub byte_kept : (file bytes : List ℕ) (sites : List Site) (at width b : ℕ) → at ≤ b → b < at + width → list_any (meets (record { at = at; width = width })) sites ≡ false → IsFileOutside sites file bytes → byte bytes b ≡ byte file b
byte_kept file bytes sites at width b low high none out = out b (site_apart sites at width b none low high)

pub word_kept : (file bytes : List ℕ) (sites : List Site) (at width : ℕ) → 2 ≤ width → list_any (meets (record { at = at; width = width })) sites ≡ false → IsFileOutside sites file bytes → word_of bytes at ≡ word_of file at
word_kept file bytes sites at width wide none out =
    let first : byte bytes at ≡ byte file at = byte_kept file bytes sites at width at (omega arith) (omega arith) none out in
    let second : byte bytes (at + 1) ≡ byte file (at + 1) = byte_kept file bytes sites at width (at + 1) (omega arith) (omega arith) none out in
    rw (first, second) refl

uncovered : (x y : Bool) → (x || y) ≡ false → (x ≡ false) × (y ≡ false)
uncovered true y h = cc
uncovered false y h = (refl, h)

not_over : (value : List ℕ) (at width o old new file : ℕ) → length value ≤ width → covers o (record { at = at; width = width }) ≡ false → new ≡ cond (nat_le at o && nat_lt o (at + length value)) (get_or value (o - at) 0) old → old ≡ file → new ≡ file
not_over value at width o old new file narrow clear h e = grind arith

pub outside_kept : (file old new value : List ℕ) (sites : List Site) (at width : ℕ) → length value ≤ width → IsFileOutside sites file old → ((o : ℕ) → byte new o ≡ over (record { at = at; value = value }) (byte old) o)
    → IsFileOutside (record { at = at; width = width } ∷ sites) file new
outside_kept file old new value sites at width narrow out each = λ o clear.
    let p = uncovered _ _ clear in
    not_over value at width o (byte old o) (byte new o) (byte file o) narrow p.0 (each o) (out o p.1)

-- where a chain ends, or its next site isn't there, no more is to come
none_left : (file bytes : List ℕ) (width at : ℕ) (before : List Site) (ats : List ℕ) → IsChain file at ats → AreSound (length file) before (of_width width ats) → length file ≤ length bytes
    → (at ≡ 65535) ⊎ (length bytes < at + width) → (ats ≡ []) × (at ≡ 65535)
none_left file bytes width at before [] chain sound room stop = (refl, chain)
none_left file bytes width at before (s ∷ ss) chain sound room (inl e) = absurd (chain.1 e)
none_left file bytes width at before (s ∷ ss) chain sound room (inr lt) = absurd (omega (arith, chain.0, sound.0, room, lt))

none_in_no_turns : (file : List ℕ) (at : ℕ) (ats : List ℕ) → length ats ≤ 0 → IsChain file at ats → (ats ≡ []) × (at ≡ 65535)
none_in_no_turns file at [] few chain = (refl, chain)
none_in_no_turns file at (s ∷ ss) few chain = absurd (omega (arith, few))

finished : (file : List ℕ) (width : ℕ) (value : List ℕ) (last : List Site) (total : ℕ → ℕ) (turns at : ℕ) (bytes : List ℕ) (w : IsWalked file width value last total turns at bytes) → w.ats ≡ [] → IsWalked file width value last total 0 65535 bytes
finished file width value last total turns at bytes w none = record {
  before = w.before;
  ats = [];
  room = w.room;
  few = omega arith;
  chain = refl;
  sound = tt;
  ends = rw none at w.ends;
  outside = w.outside;
  each = rw none at w.each;
}

pub walk_stops : (file : List ℕ) (width : ℕ) (value : List ℕ) (last : List Site) (total : ℕ → ℕ) (turns at : ℕ) (bytes : List ℕ) → IsWalked file width value last total turns at bytes → (at ≡ 65535) ⊎ (length bytes < at + width) → IsWalked file width value last total 0 65535 bytes
walk_stops file width value last total turns at bytes w stop = finished file width value last total turns at bytes w (none_left file bytes width at w.before w.ats w.chain w.sound w.room stop).0

pub walk_over : (file : List ℕ) (width : ℕ) (value : List ℕ) (last : List Site) (total : ℕ → ℕ) (turns at : ℕ) (bytes : List ℕ) → IsWalked file width value last total turns at bytes → turns ≡ 0 → IsWalked file width value last total 0 65535 bytes
walk_over file width value last total turns at bytes w over_now = finished file width value last total turns at bytes w (none_in_no_turns file at w.ats (rw over_now at w.few) w.chain).0

pub walk_done : (file : List ℕ) (width : ℕ) (value : List ℕ) (last : List Site) (total : ℕ → ℕ) (at : ℕ) (bytes : List ℕ) → IsWalked file width value last total 0 at bytes → ((o : ℕ) → byte bytes o ≡ total o) × IsFileOutside last file bytes
walk_done file width value last total at bytes w =
    let none : w.ats ≡ [] = (none_in_no_turns file at w.ats w.few w.chain).0 in
    let same : w.before ≡ last = rw none at w.ends in
    (rw none at w.each, rw (← same) w.outside)

split : (file : List ℕ) (at : ℕ) (ats : List ℕ) → IsChain file at ats → (at ≡ 65535 → ⊥) → (rest : List ℕ) × (ats ≡ at ∷ rest) × IsChain file (word_of file at) rest
split file at [] chain on = absurd (on chain)
split file at (s ∷ ss) chain on = (ss, ap (λ x. x ∷ ss) (sym chain.0), rw chain.0 chain.2)

-- one site more is written
pub walk_on : (file : List ℕ) (width : ℕ) (value : List ℕ) (last : List Site) (total : ℕ → ℕ) (turns more at next : ℕ) (bytes new : List ℕ) → IsWalked file width value last total turns at bytes → (at ≡ 65535 → ⊥) → 2 ≤ width → length value ≤ width
    → turns ≤ more + 1 → next ≡ word_of bytes at → length new ≡ length bytes → ((o : ℕ) → byte new o ≡ over (record { at = at; value = value }) (byte bytes) o) → IsWalked file width value last total more next new
walk_on file width value last total turns more at next bytes new w on wide narrow less link same put =
    let p = split file at w.ats w.chain on in
    let sound : AreSound (length file) w.before (of_width width (at ∷ p.0)) = rw p.1 at w.sound in
    let few : length (at ∷ p.0) ≤ turns = rw p.1 at w.few in
    let each : (o : ℕ) → over_each (stored_at value (at ∷ p.0)) (byte bytes) o ≡ total o = rw p.1 at w.each in
    record {
      before = record { at = at; width = width } ∷ w.before;
      ats = p.0;
      room = rw same w.room;
      few = omega (arith, few, less);
      chain = rw (link ∙ word_kept file bytes w.before at width wide sound.1 w.outside) p.2;
      sound = sound.2;
      ends = rw p.1 at w.ends;
      outside = outside_kept file bytes new value w.before at width narrow w.outside put;
      each = λ o. over_each_same (stored_at value p.0) (byte new) (over (record { at = at; value = value }) (byte bytes)) o put ∙ each o;
    }
