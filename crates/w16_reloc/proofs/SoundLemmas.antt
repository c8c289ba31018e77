-- A check passes exactly where a segment is sound.
use Rattle.w16_reloc.proofs
use proofs.Common as C
use proofs.Common.{◌≡◌, ◌≢◌, ℕ, suc, zero, ◌+◌, ◌*◌, ◌<◌, ◌≤◌, List, [], ◌∷◌, ◌++◌, length, Bool, true, false, cond, Some, None, Result, Ok, Err, refl, ap, arith, nat_eq, list_any, word_of, RelocFault, Record, Added, Site, meets, AreSound, Offer, is_named, IsChain, Names, of_width}
use proofs.Common.{width_of, chain_width, all_sites, OnOk, ◌>>=◌, site_at, chain_at, sites_at, formed, check_from, joined}
use proofs.ApartLemmas.{sound_steps, steps_apart}
use proofs.{ChainLemmas.fits, WalkLemmas.chain_wide, Count.no_more_sites, ImageLemmas.sound_parts}

bind_ok : {A B : Type 0} (said : Result A RelocFault) (f : A → Result B RelocFault) (y : B) → (said >>= f) ≡ Ok y → (x : A) × (said ≡ Ok x) × (f x ≡ Ok y)
bind_ok (Ok x) f y h = (x, refl, h)
bind_ok (Err e) f y h = cc

tests_passed : (s t : Bool) (d e : RelocFault) (x y : List Site) → cond s (Err d) (cond t (Err e) (Ok x)) ≡ Ok y → (s ≡ false) × (t ≡ false) × (x ≡ y)
tests_passed true t d e x y h = cc
tests_passed false true d e x y h = cc
tests_passed false false d e x y h = (refl, refl, cc)

pub site_passed : (len : ℕ) (before after : List Site) (at width : ℕ) → site_at len before (record { at = at; width = width }) ≡ Ok after
    → (at + width ≤ len) × (list_any (meets (record { at = at; width = width })) before ≡ false) × (record { at = at; width = width } ∷ before ≡ after)
unfolding site_at
site_passed len before after at width h =
    let p = tests_passed (C.nat_lt len (at + width)) (list_any (meets (record { at = at; width = width })) before) C.SiteOutside C.Overlap (record { at = at; width = width } ∷ before) after h in
    let inside : at + width ≤ len = (let t = p.0 in grind arith) in (inside, p.1, p.2)

-- what names offsets whose sites are sound, and leads to these sites
pub record Found (bytes : List ℕ) (before : List Site) (r : Record) (after : List Site) : Type 0 where
  pub ats : List ℕ
  pub names : Names bytes r ats
  pub sound : AreSound (length bytes) before (of_width (width_of r) ats)
  pub ends : joined before (of_width (width_of r) ats) ≡ after

chain_passed : (bytes : List ℕ) (width n : ℕ) (before after : List Site) (at : ℕ) → chain_at bytes width n before at ≡ Ok after
    → (ats : List ℕ) × IsChain bytes at ats × AreSound (length bytes) before (of_width width ats) × (joined before (of_width width ats) ≡ after)
unfolding chain_at
chain_passed bytes width zero before after at h = cc
chain_passed bytes width (suc n) before after at h =
    elim (nat_eq at 65535) as (λ b. nat_eq at 65535 ≡ b → (ats : List ℕ) × IsChain bytes at ats × AreSound (length bytes) before (of_width width ats) × (joined before (of_width width ats) ≡ after)) [
      | true ↦ λ e. let is : Ok before ≡ Ok after = rw e at h in let same : before ≡ after = cc in let end : at ≡ 65535 = grind arith in ([], end, tt, same)
      | false ↦ λ e.
          let p = bind_ok (site_at (length bytes) before (record { at = at; width = width })) (λ more. chain_at bytes width n more (word_of bytes at)) after (rw e at h) in
          let site = site_passed (length bytes) before p.0 at width p.1 in
          let rest = chain_passed bytes width n (record { at = at; width = width } ∷ before) after (word_of bytes at) (rw site.2 p.2) in
          let on : at ≢ 65535 = λ end. (let t = e in grind (arith, end)) in
          (at ∷ rest.0, (refl, on, rest.1), (site.0, site.1, rest.2), rest.3)
    ] refl

pub sites_passed : (bytes : List ℕ) (before after : List Site) (r : Record) → sites_at bytes before r ≡ Ok after → Found bytes before r after
unfolding sites_at
sites_passed bytes before after (C.Stored fixup) h =
    let p = chain_passed bytes (chain_width fixup.part) (length bytes + 1) before after fixup.offset h in
    record { ats = p.0; names = p.1; sound = p.2; ends = p.3 }
sites_passed bytes before after (Added fixup) h =
    let p = site_passed (length bytes) before after fixup.offset (C.value_width fixup.part) h in
    record { ats = fixup.offset ∷ []; names = refl; sound = (p.0, p.1, tt); ends = p.2 }
sites_passed bytes before after C.System h = record { ats = []; names = refl; sound = tt; ends = cc }

pub sound_append : (len : ℕ) (before ss ts : List Site) → AreSound len before ss → AreSound len (joined before ss) ts → AreSound len before (ss ++ ts)
sound_append len before [] ts a b = b
sound_append len before (s ∷ ss) ts a b = (a.0, a.1, sound_append len (s ∷ before) ss ts a.2 b)

pub formed_is : (offer : Offer) (o : C.Option Record) (r : Record) → formed offer o ≡ Ok r → (o ≡ Some r) × (is_named offer r ≡ true)
formed_is offer None r h = cc
formed_is offer (Some x) r h =
    elim (is_named offer x) as (λ b. is_named offer x ≡ b → ◌≡◌ {A = Result Record RelocFault} (cond b (Ok x) (Err C.BadRecord)) (Ok r) → (Some x ≡ Some r) × (is_named offer r ≡ true)) [
      | true ↦ λ e h2. let same : x ≡ r = cc in (ap (λ y. Some y) same, rw (← same) e)
      | false ↦ λ e h2. cc
    ] refl h

record Passed (offer : Offer) (bytes table : List ℕ) (n i : ℕ) (before : List Site) (records : List Record) : Type 0 where
  pub many : length records ≡ n
  pub formed : C.AreRecords offer table i records
  pub named : List (List ℕ)
  pub names : C.AreNamed bytes records named
  pub sound : AreSound (length bytes) before (all_sites records named)

all_passed : (offer : Offer) (bytes table : List ℕ) (n i : ℕ) (before : List Site) (records : List Record) → check_from offer bytes table n i before ≡ Ok records → Passed offer bytes table n i before records
unfolding check_from
all_passed offer bytes table zero i before records h =
    let none : [] ≡ records = cc in rw (← none) (record { many = refl; formed = tt; named = []; names = tt; sound = tt })
all_passed offer bytes table (suc n) i before records h =
    let p = bind_ok (formed offer (C.record_at offer.segments offer.references table (8 * i))) (λ r. sites_at bytes before r >>= λ after. check_from offer bytes table n (i + 1) after >>= λ others. Ok (r ∷ others)) records h in
    let q = bind_ok (sites_at bytes before p.0) (λ after. check_from offer bytes table n (i + 1) after >>= λ others. Ok (p.0 ∷ others)) records p.2 in
    let more = bind_ok (check_from offer bytes table n (i + 1) q.0) (λ others. Ok (p.0 ∷ others)) records q.2 in
    let f = sites_passed bytes before q.0 p.0 q.1 in
    let rest = all_passed offer bytes table n (i + 1) q.0 more.0 more.1 in
    let is : p.0 ∷ more.0 ≡ records = cc (more.2) in
    rw (← is) (record {
      many = omega (arith, rest.many);
      formed = (formed_is offer (C.record_at offer.segments offer.references table (8 * i)) p.0 p.1, rest.formed);
      named = f.ats ∷ rest.named;
      names = (f.names, rest.names);
      sound = sound_append (length bytes) before (of_width (width_of p.0) f.ats) (all_sites more.0 rest.named) f.sound (rw f.ends rest.sound);
    })

pub passed_is_sound : (offer : Offer) (bytes table : List ℕ) (count : ℕ) (records : List Record) → check_from offer bytes table count 0 [] ≡ Ok records → C.IsSoundSegment offer bytes table count records
passed_is_sound offer bytes table count records h =
    let p = all_passed offer bytes table count 0 [] records h in record { many = p.many; formed = p.formed; sound = (p.named, (p.names, steps_apart (length bytes) (all_sites records p.named) p.sound)) }

-- and the other way
chain_passes : (bytes : List ℕ) (width n : ℕ) (before : List Site) (at : ℕ) (ats : List ℕ) → length ats < n → IsChain bytes at ats → AreSound (length bytes) before (of_width width ats) → chain_at bytes width n before at ≡ Ok (joined before (of_width width ats))
unfolding chain_at
chain_passes bytes width zero before at ats few chain sound = absurd (omega (arith, few))
chain_passes bytes width (suc n) before at [] few chain sound = rw chain refl
chain_passes bytes width (suc n) before at (s ∷ ss) few chain sound =
    let on : nat_eq s 65535 ≡ false = rw (← chain.0) (let t = chain.1 in grind (arith, t)) in
    let rest = chain_passes bytes width n (record { at = s; width = width } ∷ before) (word_of bytes s) ss (omega (arith, few)) chain.2 sound.2 in
    rw (chain.0, on, fits (length bytes) before s width sound.0 sound.1) rest

sites_pass : (bytes : List ℕ) (before : List Site) (r : Record) (ats : List ℕ) → Names bytes r ats → AreSound (length bytes) before (of_width (width_of r) ats) → sites_at bytes before r ≡ Ok (joined before (of_width (width_of r) ats))
unfolding sites_at
sites_pass bytes before (C.Stored fixup) ats names sound =
    let wide = chain_wide fixup.part in
    let few = no_more_sites (length bytes) (chain_width fixup.part) before ats (omega (arith, wide)) sound in
    chain_passes bytes (chain_width fixup.part) (length bytes + 1) before fixup.offset ats (omega (arith, few)) names sound
sites_pass bytes before (Added fixup) ats names sound =
    let here = rw names at sound in
    rw names (fits (length bytes) before fixup.offset (C.value_width fixup.part) here.0 here.1)
sites_pass bytes before C.System ats names sound = rw names refl

all_pass : (offer : Offer) (bytes table : List ℕ) (i : ℕ) (before : List Site) (records : List Record) (named : List (List ℕ)) → C.AreRecords offer table i records → C.AreNamed bytes records named → AreSound (length bytes) before (all_sites records named)
    → check_from offer bytes table (length records) i before ≡ Ok records
unfolding check_from
all_pass offer bytes table i before [] named formed names sound = refl
all_pass offer bytes table i before (r ∷ rs) [] formed names sound = absurd names
all_pass offer bytes table i before (r ∷ rs) (ats ∷ others) formed names sound =
    let parts = sound_parts (length bytes) before (of_width (width_of r) ats) (all_sites rs others) sound in
    let rest = all_pass offer bytes table (i + 1) (joined before (of_width (width_of r) ats)) rs others formed.1 names.1 parts.1 in
    rw (formed.0.0, formed.0.1, sites_pass bytes before r ats names.0 parts.0, rest) refl

pub sound_passes : (offer : Offer) (bytes table : List ℕ) (count : ℕ) (records : List Record) → C.IsSoundSegment offer bytes table count records → check_from offer bytes table count 0 [] ≡ Ok records
sound_passes offer bytes table count records s = rw (← s.many) (all_pass offer bytes table 0 [] records s.sound.0 s.formed s.sound.1.0 (sound_steps bytes records s.sound.0 s.sound.1.0 s.sound.1.1))
