-- A check that fails has found the first fault.
use Rattle.w16_reloc.proofs
use proofs.Common as C
use proofs.Common.{◌≡◌, ◌≢◌, ℕ, suc, zero, ◌+◌, ◌*◌, ◌<◌, ◌≤◌, ◌⊎◌, inl, inr, List, [], ◌∷◌, ◌++◌, length, Bool, true, false, cond, Some, None, Result, Ok, Err, refl, ap, arith, max, ◌||◌, list_any, RelocFault, BadRecord, SiteOutside, Overlap, Store, Record, Added, Site, covers, meets}
use proofs.Common.{AreSound, Offer, IsRecord, is_named, of_width, width_of, all_sites, ◌>>=◌, site_at, chain_at, sites_at, formed, check_from, joined}
use proofs.ApartLemmas.{AreWide, steps_apart, all_wide, wide_append, wide_of, value_wide, own_byte}
use proofs.SoundLemmas.{site_passed, sites_passed, formed_is, sound_append}
use proofs.{SiteLemmas.meets_covers, SiteLemmas.meets_inside, WalkLemmas.chain_wide, Count.no_more_sites, ImageLemmas.or_more}

bind_err : {A B : Type 0} (said : Result A RelocFault) (f : A → Result B RelocFault) (e : RelocFault) → (said >>= f) ≡ Err e → (said ≡ Err e) ⊎ ((x : A) × (said ≡ Ok x) × (f x ≡ Err e))
bind_err (Ok x) f e h = inr (x, refl, h)
bind_err (Err d) f e h = let same : d ≡ e = cc in inl (ap (λ x. Err x) same)

-- what is wrong with a site, as the check has it
abbrev Stops : ℕ → List Site → Site → RelocFault → Type 0
Stops len before site SiteOutside = len < site.at + site.width
Stops len before site Overlap = (site.at + site.width ≤ len) × (list_any (meets site) before ≡ true)
Stops len before site BadRecord = ⊥
Stops len before site (Store e) = ⊥

stops_by : (len : ℕ) (before : List Site) (site : Site) (s t : Bool) (e : RelocFault) → C.nat_lt len (site.at + site.width) ≡ s → list_any (meets site) before ≡ t
    → ◌≡◌ {A = Result (List Site) RelocFault} (cond s (Err SiteOutside) (cond t (Err Overlap) (Ok (site ∷ before)))) (Err e) → Stops len before site e
stops_by len before site true t e a b h =
    let is : SiteOutside ≡ e = cc in
    let past : len < site.at + site.width = grind arith in
    rw (← is) past
stops_by len before site false true e a b h =
    let is : Overlap ≡ e = cc in
    let inside : site.at + site.width ≤ len = grind arith in
    rw (← is) (inside, b)
stops_by len before site false false e a b h = cc

site_stops : (len : ℕ) (before : List Site) (site : Site) (e : RelocFault) → site_at len before site ≡ Err e → Stops len before site e
unfolding site_at
site_stops len before site e h = stops_by len before site (C.nat_lt len (site.at + site.width)) (list_any (meets site) before) e refl refl h

-- a chain stops at a site, or takes all its turns
record ChainStops (bytes : List ℕ) (width : ℕ) (before : List Site) (from : ℕ) (e : RelocFault) : Type 0 where
  pub ats : List ℕ
  pub at : ℕ
  pub leads : C.LeadsTo bytes from ats at
  pub sound : AreSound (length bytes) before (of_width width ats)
  pub stops : Stops (length bytes) (joined before (of_width width ats)) (record { at = at; width = width }) e

abbrev Lasts : ℕ → ℕ → ℕ → List Site → Type 0
Lasts len width turns before = (ats : List ℕ) × (length ats ≡ turns) × AreSound len before (of_width width ats)

chain_stops : (bytes : List ℕ) (width n : ℕ) (before : List Site) (from : ℕ) (e : RelocFault) → chain_at bytes width n before from ≡ Err e → ChainStops bytes width before from e ⊎ Lasts (length bytes) width n before
unfolding chain_at
chain_stops bytes width zero before from e h = inr ([], refl, tt)
chain_stops bytes width (suc n) before from e h =
    elim (C.nat_eq from 65535) as (λ b. C.nat_eq from 65535 ≡ b → ChainStops bytes width before from e ⊎ Lasts (length bytes) width (suc n) before) [
      | true ↦ λ is. let end : ◌≡◌ {A = Result (List Site) RelocFault} (Ok before) (Err e) = rw is at h in cc
      | false ↦ λ is.
          let on : from ≢ 65535 = λ end. (let t = is in grind (arith, end)) in
          let site : Site = record { at = from; width = width } in
          elim (bind_err (site_at (length bytes) before site) (λ more. chain_at bytes width n more (C.word_of bytes from)) e (rw is at h)) [
            | inl wrong ↦ inl (record { ats = []; at = from; leads = (refl, on); sound = tt; stops = site_stops (length bytes) before site e wrong })
            | inr more ↦
                let fit = site_passed (length bytes) before more.0 from width more.1 in
                elim (chain_stops bytes width n (site ∷ before) (C.word_of bytes from) e (rw fit.2 more.2)) [
                  | inl c ↦ inl (record { ats = from ∷ c.ats; at = c.at; leads = (refl, on, c.leads); sound = (fit.0, fit.1, c.sound); stops = c.stops })
                  | inr l ↦ inr (from ∷ l.0, omega (arith, l.1), (fit.0, fit.1, l.2))
                ]
          ]
    ] refl

record Stopped (bytes : List ℕ) (before : List Site) (r : Record) (e : RelocFault) : Type 0 where
  pub ats : List ℕ
  pub at : ℕ
  pub names : C.NamesNext bytes r ats at
  pub sound : AreSound (length bytes) before (of_width (width_of r) ats)
  pub stops : Stops (length bytes) (joined before (of_width (width_of r) ats)) (record { at = at; width = width_of r }) e

sites_stop : (bytes : List ℕ) (before : List Site) (r : Record) (e : RelocFault) → sites_at bytes before r ≡ Err e → Stopped bytes before r e
unfolding sites_at
sites_stop bytes before (C.Stored fixup) e h =
    elim (chain_stops bytes (C.chain_width fixup.part) (length bytes + 1) before fixup.offset e h) [
      | inl c ↦ record { ats = c.ats; at = c.at; names = c.leads; sound = c.sound; stops = c.stops }
      | inr l ↦
          let wide = chain_wide fixup.part in
          let few = no_more_sites (length bytes) (C.chain_width fixup.part) before l.0 (omega (arith, wide)) l.2 in
          absurd (omega (arith, few, l.1))
    ]
sites_stop bytes before (Added fixup) e h = record { ats = []; at = fixup.offset; names = (refl, refl); sound = tt; stops = site_stops (length bytes) before (record { at = fixup.offset; width = C.value_width fixup.part }) e h }
sites_stop bytes before C.System e h = cc

unformed_by : (offer : Offer) (x : Record) (b : Bool) (e : RelocFault) → is_named offer x ≡ b → ◌≡◌ {A = Result Record RelocFault} (cond b (Ok x) (Err BadRecord)) (Err e)
    → (e ≡ BadRecord) × ((r : Record) → Some x ≡ Some r → is_named offer r ≡ true → ⊥)
unformed_by offer x true e is h = cc
unformed_by offer x false e is h = (cc, λ r same named. let which : x ≡ r = cc in let no = rw which at is in cc)

unformed : (offer : Offer) (o : C.Option Record) (e : RelocFault) → formed offer o ≡ Err e → (e ≡ BadRecord) × ((r : Record) → o ≡ Some r → is_named offer r ≡ true → ⊥)
unformed offer None e h = (cc, λ r same named. cc)
unformed offer (Some x) e h = unformed_by offer x (is_named offer x) e refl h

-- the fault of a record, as the check has it
abbrev Fault : Offer → List ℕ → List ℕ → ℕ → List Site → RelocFault → Type 0
Fault offer bytes raw at before BadRecord = (r : Record) → IsRecord offer raw at r → ⊥
Fault offer bytes raw at before e = (r : Record) × IsRecord offer raw at r × Stopped bytes before r e

stopped_fault : (offer : Offer) (bytes raw : List ℕ) (at : ℕ) (before : List Site) (r : Record) (e : RelocFault) → IsRecord offer raw at r → Stopped bytes before r e → Fault offer bytes raw at before e
stopped_fault offer bytes raw at before r BadRecord is s = absurd s.stops
stopped_fault offer bytes raw at before r SiteOutside is s = (r, is, s)
stopped_fault offer bytes raw at before r Overlap is s = (r, is, s)
stopped_fault offer bytes raw at before r (Store x) is s = absurd s.stops

record Failed (offer : Offer) (bytes table : List ℕ) (n i : ℕ) (before : List Site) (e : RelocFault) : Type 0 where
  pub records : List Record
  pub named : List (List ℕ)
  pub few : length records < n
  pub formed : C.AreRecords offer table i records
  pub names : C.AreNamed bytes records named
  pub sound : AreSound (length bytes) before (all_sites records named)
  pub number : ℕ
  pub counted : number ≡ i + length records
  pub fault : Fault offer bytes table (8 * number) (joined before (all_sites records named)) e

first_fails : (offer : Offer) (bytes table : List ℕ) (n i : ℕ) (before : List Site) (e : RelocFault) → Fault offer bytes table (8 * i) before e → Failed offer bytes table (suc n) i before e
first_fails offer bytes table n i before e fault = record { records = []; named = []; few = omega arith; formed = tt; names = tt; sound = tt; number = i; counted = omega arith; fault = fault }

joined-append : (before ss ts : List Site) → joined before (ss ++ ts) ≡ joined (joined before ss) ts
joined-append before [] ts = refl
joined-append before (s ∷ ss) ts = joined-append (s ∷ before) ss ts

later_fails : (offer : Offer) (bytes table : List ℕ) (n i : ℕ) (before after : List Site) (r : Record) (e : RelocFault) → IsRecord offer table (8 * i) r → sites_at bytes before r ≡ Ok after → Failed offer bytes table n (i + 1) after e → Failed offer bytes table (suc n) i before e
later_fails offer bytes table n i before after r e is passed rest =
    let f = sites_passed bytes before after r passed in
    record {
      records = r ∷ rest.records;
      named = f.ats ∷ rest.named;
      few = omega (arith, rest.few);
      formed = (is, rest.formed);
      names = (f.names, rest.names);
      sound = sound_append (length bytes) before (of_width (width_of r) f.ats) (all_sites rest.records rest.named) f.sound (rw f.ends rest.sound);
      number = rest.number;
      counted = omega (arith, rest.counted);
      fault = rw (joined-append before (of_width (width_of r) f.ats) (all_sites rest.records rest.named), f.ends) rest.fault;
    }

fails : (offer : Offer) (bytes table : List ℕ) (n i : ℕ) (before : List Site) (e : RelocFault) → check_from offer bytes table n i before ≡ Err e → Failed offer bytes table n i before e
unfolding check_from
fails offer bytes table zero i before e h = cc
fails offer bytes table (suc n) i before e h =
    elim (bind_err (formed offer (C.record_at offer.segments offer.references table (8 * i))) (λ r. sites_at bytes before r >>= λ after. check_from offer bytes table n (i + 1) after >>= λ others. Ok (r ∷ others)) e h) [
      | inl bad ↦ let none = unformed offer (C.record_at offer.segments offer.references table (8 * i)) e bad in first_fails offer bytes table n i before e (rw none.0 (λ r is. none.1 r is.0 is.1))
      | inr is ↦ elim (bind_err (sites_at bytes before is.0) (λ after. check_from offer bytes table n (i + 1) after >>= λ others. Ok (is.0 ∷ others)) e is.2) [
        | inl wrong ↦ first_fails offer bytes table n i before e (stopped_fault offer bytes table (8 * i) before is.0 e (formed_is offer _ is.0 is.1) (sites_stop bytes before is.0 e wrong))
        | inr more ↦ elim (bind_err (check_from offer bytes table n (i + 1) more.0) (λ others. Ok (is.0 ∷ others)) e more.2) [
          | inl later ↦ later_fails offer bytes table n i before more.0 is.0 e (formed_is offer _ is.0 is.1) more.1 (fails offer bytes table n (i + 1) more.0 e later)
          | inr none ↦ let no : ◌≡◌ {A = Result (List Record) RelocFault} (Ok (is.0 ∷ none.0)) (Err e) = none.2 in cc
        ]
      ]
    ]

-- sites that meet share the later of their first bytes
shared_by : (s : Site) (ss : List Site) (at width : ℕ) (b : Bool) → meets (record { at = at; width = width }) s ≡ b → 0 < width → 0 < s.width → (b || list_any (meets (record { at = at; width = width })) ss) ≡ true
    → (list_any (meets (record { at = at; width = width })) ss ≡ true → (o : ℕ) × (covers o (record { at = at; width = width }) ≡ true) × (list_any (covers o) ss ≡ true))
    → (o : ℕ) × (covers o (record { at = at; width = width }) ≡ true) × (list_any (covers o) (s ∷ ss) ≡ true)
shared_by s ss at width true e wide own h rest =
    let o = max at s.at in
    let yes : covers o s ≡ true = meets_covers s at width wide own e in
    let high = meets_inside s at width wide own e in
    (o, own_byte (record { at = at; width = width }) o (omega arith) high, rw yes refl)
shared_by s ss at width false e wide own h rest = let r = rest h in (r.0, r.1, or_more (covers r.0 s) (list_any (covers r.0) ss) r.2)

shared : (sites : List Site) (at width : ℕ) → AreWide sites → 0 < width → list_any (meets (record { at = at; width = width })) sites ≡ true
    → (o : ℕ) × (covers o (record { at = at; width = width }) ≡ true) × (list_any (covers o) sites ≡ true)
shared [] at width all wide h = cc
shared (s ∷ ss) at width all wide h = shared_by s ss at width (meets (record { at = at; width = width }) s) refl wide all.0 h (shared ss at width all.1 wide)

or_either : (x y : Bool) → (x || y) ≡ true → (x ≡ true) ⊎ (y ≡ true)
or_either true y h = inl refl
or_either false y h = inr h

any_joined : (p : Site → Bool) (before ss : List Site) → list_any p (joined before ss) ≡ true → (list_any p before ≡ true) ⊎ (list_any p ss ≡ true)
any_joined p before [] h = inl h
any_joined p before (s ∷ ss) h =
    elim (any_joined p (s ∷ before) ss h) [
      | inl early ↦ elim (or_either (p s) (list_any p before) early) [ inl here ↦ inr (rw here refl) | inr earlier ↦ inl earlier ]
      | inr late ↦ inr (or_more (p s) (list_any p ss) late)
    ]

any_of_all : (p : Site → Bool) (ss : List Site) → list_any p (joined [] ss) ≡ true → list_any p ss ≡ true
any_of_all p ss h = elim (any_joined p [] ss h) [ inl none ↦ cc | inr some ↦ some ]

next_wide : (bytes : List ℕ) (r : Record) (ats : List ℕ) (at : ℕ) → C.NamesNext bytes r ats at → 0 < width_of r
next_wide bytes (C.Stored fixup) ats at names = let wide = chain_wide fixup.part in omega (arith, wide)
next_wide bytes (Added fixup) ats at names = value_wide fixup.part
next_wide bytes C.System ats at names = absurd names

at_fault : (offer : Offer) (bytes raw : List ℕ) (at : ℕ) (sites : List Site) (e : RelocFault) → AreWide sites → AreSound (length bytes) [] sites → Fault offer bytes raw at (joined [] sites) e → C.IsAtFault offer bytes raw at sites e
at_fault offer bytes raw at sites BadRecord wide sound fault = fault
at_fault offer bytes raw at sites (Store x) wide sound fault = absurd fault.2.stops
at_fault offer bytes raw at sites SiteOutside wide sound fault =
    let s = fault.2 in
    (fault.0, fault.1, record { ats = s.ats; at = s.at; names = s.names; sound = steps_apart (length bytes) (sites ++ of_width (width_of fault.0) s.ats) (sound_append (length bytes) [] sites (of_width (width_of fault.0) s.ats) sound s.sound); wrong = s.stops })
at_fault offer bytes raw at sites Overlap wide sound fault =
    let s = fault.2 in
    let own = next_wide bytes fault.0 s.ats s.at s.names in
    let all : AreWide (sites ++ of_width (width_of fault.0) s.ats) = wide_append sites (of_width (width_of fault.0) s.ats) wide (wide_of (width_of fault.0) s.ats own) in
    let met = any_of_all (meets (record { at = s.at; width = width_of fault.0 })) (sites ++ of_width (width_of fault.0) s.ats) (rw (joined-append [] sites (of_width (width_of fault.0) s.ats)) (s.stops.1)) in (
      fault.0,
      fault.1,
      record {
        ats = s.ats;
        at = s.at;
        names = s.names;
        sound = steps_apart (length bytes) (sites ++ of_width (width_of fault.0) s.ats) (sound_append (length bytes) [] sites (of_width (width_of fault.0) s.ats) sound s.sound);
        wrong = (s.stops.0, shared (sites ++ of_width (width_of fault.0) s.ats) s.at (width_of fault.0) all own met);
      },
    )

pub first_fault : (offer : Offer) (bytes table : List ℕ) (count : ℕ) (e : RelocFault) → check_from offer bytes table count 0 [] ≡ Err e → C.IsFirstFault offer bytes table count e
first_fault offer bytes table count e h =
    let f = fails offer bytes table count 0 [] e h in
    let same : f.number ≡ length f.records = omega (arith, f.counted) in
    record {
      records = f.records;
      named = f.named;
      few = f.few;
      formed = f.formed;
      sound = (f.names, steps_apart (length bytes) (all_sites f.records f.named) f.sound);
      fault = rw (← same) (at_fault offer bytes table (8 * f.number) (all_sites f.records f.named) e (all_wide bytes f.records f.named f.names) f.sound f.fault);
    }
