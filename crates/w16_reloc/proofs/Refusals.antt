-- Faults, told further.
use Rattle.w16_reloc.proofs.Common as C
use Rattle.w16_reloc.proofs.Common.{◌≡◌, ℕ, suc, ◌-◌, ◌+◌, ◌*◌, ◌≤◌, ◌<◌, List, [], ◌∷◌, ◌++◌, Result, Ok, Err, refl, sym, ap, ◌∙◌, arith, RelocFault, Record, Site, OnOk, true, Offer, record_at, ◌>>=◌, formed, check_from, Held, Refuses, Answers}
use Rattle.w16_store.specs.declared.store.StoreFault.TheVariants as stores
use Rattle.w16_reloc.specs.declared.fault.RelocFault.TheVariants as faults

-- a fault of the records as it was, one of the store over a longer time
pub fails_on : {A B : Type 0} (old before after : ℕ) (e : RelocFault) (said : Result A RelocFault) (total : Result B RelocFault) → old ≤ before → Refuses before after e said → (said ≡ Err e → total ≡ Err e) → Refuses old after e total
fails_on old before after (faults.Store stores.Device) said total le h on = omega arith
fails_on old before after (faults.Store stores.Missing) said total le h on = absurd h
fails_on old before after (faults.Store stores.Short) said total le h on = absurd h
fails_on old before after faults.BadRecord said total le h on = on h
fails_on old before after faults.SiteOutside said total le h on = on h
fails_on old before after faults.Overlap said total le h on = on h

pub answers_since : {X Y : Type 0} (view : X → Y) (old before after : ℕ) (r : Result X RelocFault) (said : Result Y RelocFault) → old ≤ before → Answers view before after r said → Answers view old after r said
answers_since view old before after (Ok x) said le h = h
answers_since view old before after (Err e) said le h = fails_on old before after e said said le h (λ s. s)

-- records that were checked before, and those that are checked still
abbrev pub with_front : List Record → Result (List Record) RelocFault → Result (List Record) RelocFault
with_front front said = said >>= λ x. Ok (front ++ x)

regroup : (front : List Record) (r : Record) (said : Result (List Record) RelocFault) → with_front front (said >>= λ rs. Ok (r ∷ rs)) ≡ with_front (front ++ r ∷ []) said
regroup front r (Ok rs) = ap (λ ys. Ok ys) (simp C.append_assoc)
regroup front r (Err e) = refl

pub goes_on : (offer : Offer) (bytes raw : List ℕ) (front : List Record) (count i : ℕ) (sites after : List Site) (r : Record) (total : Result (List Record) RelocFault) → i < count
    → formed offer (record_at offer.segments offer.references raw (8 * i)) ≡ Ok r → C.sites_at bytes sites r ≡ Ok after
    → with_front front (check_from offer bytes raw (count - i) i sites) ≡ total → with_front (front ++ r ∷ []) (check_from offer bytes raw (count - (i + 1)) (i + 1) after) ≡ total
unfolding check_from
goes_on offer bytes raw front count i sites after r total lt is named so_far =
    let k : count - i ≡ suc (count - (i + 1)) = omega arith in
    let one : with_front front (check_from offer bytes raw (count - i) i sites) ≡ with_front (front ++ r ∷ []) (check_from offer bytes raw (count - (i + 1)) (i + 1) after) = rw (k, is, named) (regroup front r (check_from offer bytes raw (count - (i + 1)) (i + 1) after)) in
    sym one ∙ so_far

pub stops_at_record : (offer : Offer) (bytes raw : List ℕ) (front : List Record) (count i : ℕ) (sites : List Site) (e : RelocFault) (total : Result (List Record) RelocFault) → i < count
    → with_front front (check_from offer bytes raw (count - i) i sites) ≡ total → formed offer (record_at offer.segments offer.references raw (8 * i)) ≡ Err e → total ≡ Err e
unfolding check_from
stops_at_record offer bytes raw front count i sites e total lt so_far is =
    let k : count - i ≡ suc (count - (i + 1)) = omega arith in
    let one : with_front front (check_from offer bytes raw (count - i) i sites) ≡ Err e = rw (k, is) refl in
    sym so_far ∙ one

pub stops_at_sites : (offer : Offer) (bytes raw : List ℕ) (front : List Record) (count i : ℕ) (sites : List Site) (r : Record) (e : RelocFault) (total : Result (List Record) RelocFault) → i < count
    → formed offer (record_at offer.segments offer.references raw (8 * i)) ≡ Ok r → with_front front (check_from offer bytes raw (count - i) i sites) ≡ total → C.sites_at bytes sites r ≡ Err e → total ≡ Err e
unfolding check_from
stops_at_sites offer bytes raw front count i sites r e total lt is so_far named =
    let k : count - i ≡ suc (count - (i + 1)) = omega arith in
    let one : with_front front (check_from offer bytes raw (count - i) i sites) ≡ Err e = rw (k, is, named) refl in
    sym so_far ∙ one

pub is_done : (offer : Offer) (bytes raw : List ℕ) (front : List Record) (count i : ℕ) (sites : List Site) (total : Result (List Record) RelocFault) → count ≤ i
    → with_front front (check_from offer bytes raw (count - i) i sites) ≡ total → total ≡ Ok front
unfolding check_from
is_done offer bytes raw front count i sites total le so_far =
    let k : count - i ≡ 0 = omega arith in
    let one : with_front front (check_from offer bytes raw (count - i) i sites) ≡ Ok front = rw k (ap (λ ys. Ok ys) (C.append-nil front)) in
    sym so_far ∙ one

-- nothing was checked before the first
pub begins : (said : Result (List Record) RelocFault) → with_front [] said ≡ said
begins (Ok x) = refl
begins (Err e) = refl

-- a fact of a success beside what is known already
pub on_ok_both : {T : Type 0} (r : Result T RelocFault) (P Q : Type 0) → P → OnOk r Q → OnOk r (P × Q)
on_ok_both (Ok x) P Q p q = (p, q)
on_ok_both (Err e) P Q p q = tt

pub ok_same : {A : Type 0} (x y : A) → ◌≡◌ {A = Result A RelocFault} (Ok x) (Ok y) → x ≡ y
ok_same x y h = cc

pub never : {A B : Type 0} (x : A) (e : RelocFault) (total : Result B RelocFault) → ◌≡◌ {A = Result A RelocFault} (Ok x) (Err e) → total ≡ Err e
never x e total h = cc

-- what the records answer, the segment does
abbrev held_with : List ℕ → Result (List Record) RelocFault → Result Held RelocFault
held_with bytes said = said >>= λ rs. Ok (record { bytes = bytes; records = rs })

told : (result : Result (Unit {0}) RelocFault) (old before after : ℕ) (bytes : List ℕ) (records : List Record) (said : Result (List Record) RelocFault) → old ≤ before → Answers (λ _. records) before after result said
    → Answers {Y = Held} (λ _. record { bytes = bytes; records = records }) old after result (held_with bytes said)
told (Ok x) old before after bytes records said le h = rw h refl
told (Err e) old before after bytes records said le h = fails_on old before after e said (held_with bytes said) le h (λ is. rw is refl)

pub checked_told : (file : List ℕ) (t : C.Tables) (s : C.Segment) (result : Result (Unit {0}) RelocFault) (old before after : ℕ) (bytes table : List ℕ) (count : ℕ) (records : List Record) → old ≤ before → bytes ≡ C.data_of file s → table ≡ C.records_of file s → count ≡ s.records
    → Answers (λ _. records) before after result (check_from (C.offer_of file t) bytes table count 0 []) → Answers {Y = Held} (λ _. record { bytes = bytes; records = records }) old after result (C.checked file t s)
unfolding C.checked
checked_told file t s result old before after bytes table count records le data_is table_is many h =
    rw data_is (told result old before after (C.data_of file s) records _ le (rw (data_is, table_is, many) at h))
