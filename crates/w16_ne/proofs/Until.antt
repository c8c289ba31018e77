-- Reading names until there is none, as a loop does.
use Rattle.w16_ne.proofs
use proofs.Common as C
use proofs.Common.{◌≡◌, ℕ, zero, suc, ◌-◌, ◌+◌, ◌≤◌, ◌<◌, List, Option, Some, None, [], ◌∷◌, ◌++◌, Result, Ok, Err, refl, sym, ap, ◌∙◌, arith, NeFault, Found, Reading, ◌>>=◌, Gives, length_at, Entry, size, name_at, names_from, ltb, eqb, Bool, true, false, cond, length, take, drop}
use proofs.Each.{with_front, regroup}
use Rattle.w16_store.specs.declared.store.StoreFault.TheVariants as stores
use Rattle.w16_ne.specs.declared.fault.NeFault.TheVariants as faults

-- what failed is told further: a fault of the file as it was, one of the store over a longer time
pub fails_on : {A B : Type 0} (file : Option (List ℕ)) (old before after : ℕ) (e : NeFault) (read : Result A NeFault) (total : Result B NeFault) → old ≤ before → C.Refuses file before after e read → (read ≡ Err e → total ≡ Err e) → C.Refuses file old after e total
fails_on file old before after faults.OutOfMemory read total le h on = tt
fails_on file old before after (faults.Store stores.Device) read total le h on = omega arith
fails_on file old before after (faults.Store stores.Missing) read total le h on = h
fails_on file old before after (faults.Store stores.Short) read total le h on = absurd h
fails_on file old before after faults.NotMz read total le h on = on h
fails_on file old before after faults.NotNe read total le h on = on h
fails_on file old before after (faults.Target t) read total le h on = on h
fails_on file old before after faults.Unsupported read total le h on = on h
fails_on file old before after faults.Truncated read total le h on = on h
fails_on file old before after faults.BadTable read total le h on = on h

pub gives_on : {X Y : Type 0} (view : X → Y) (file : Option (List ℕ)) (old before after : ℕ) (r : Result X NeFault) (read total : Reading Y) → old ≤ before → read ≡ total → Gives view file before after r read → Gives view file old after r total
gives_on view file old before after (Ok x) read total le same h = sym same ∙ h
gives_on view file old before after (Err e) read total le same h = fails_on file old before after e read total le h (λ q. sym same ∙ q)

-- the same of a function over bytes that were read
pub told_on : {A B : Type 0} (e : NeFault) (read : Reading A) (total : Reading B) → C.Refused e read → (read ≡ Err e → total ≡ Err e) → C.Refused e total
told_on faults.OutOfMemory read total h on = tt
told_on (faults.Store e) read total h on = absurd h
told_on faults.NotMz read total h on = on h
told_on faults.NotNe read total h on = on h
told_on (faults.Target t) read total h on = on h
told_on faults.Unsupported read total h on = on h
told_on faults.Truncated read total h on = on h
told_on faults.BadTable read total h on = on h

pub goes_on : (file : Option (List ℕ)) (front : List Entry) (count i at : ℕ) (e : Entry) (total : Reading (List Entry)) → i < count → name_at file at ≡ Ok (Some e)
    → with_front front (names_from file (count - i) at) ≡ total → with_front (front ++ e ∷ []) (names_from file (count - (i + 1)) (at + size e)) ≡ total
goes_on file front count i at e total lt h so_far =
    let k : count - i ≡ suc (count - (i + 1)) = omega arith in
    let one : with_front front (names_from file (count - i) at) ≡ with_front (front ++ e ∷ []) (names_from file (count - (i + 1)) (at + size e)) = rw (k, h) (regroup front e (names_from file (count - (i + 1)) (at + size e))) in
    sym one ∙ so_far

pub stops : (file : Option (List ℕ)) (front : List Entry) (count i at : ℕ) (e : NeFault) (total : Reading (List Entry)) → i < count → name_at file at ≡ Err e
    → with_front front (names_from file (count - i) at) ≡ total → total ≡ Err e
stops file front count i at e total lt h so_far =
    let k : count - i ≡ suc (count - (i + 1)) = omega arith in
    let one : with_front front (names_from file (count - i) at) ≡ Err e = rw (k, h) refl in
    sym so_far ∙ one

pub is_done : (file : Option (List ℕ)) (front : List Entry) (count i at : ℕ) (total : Reading (List Entry)) → i < count → name_at file at ≡ Ok None
    → with_front front (names_from file (count - i) at) ≡ total → total ≡ Ok front
is_done file front count i at total lt h so_far =
    let k : count - i ≡ suc (count - (i + 1)) = omega arith in
    let one : with_front front (names_from file (count - i) at) ≡ Ok front = rw (k, h) (ap (λ ys. Ok ys) (C.append-nil front)) in
    sym so_far ∙ one

-- a fault ends the reading, now or later

pub err_now : (file : Option (List ℕ)) (count i at : ℕ) (e : NeFault) → i < count → name_at file at ≡ Err e → names_from file (count - i) at ≡ Err e
err_now file count i at e lt h = let k : count - i ≡ suc (count - (i + 1)) = omega arith in rw (k, h) refl

pub err_later : (file : Option (List ℕ)) (count i at : ℕ) (x : Entry) (e : NeFault) → i < count → name_at file at ≡ Ok (Some x)
    → names_from file (count - (i + 1)) (at + size x) ≡ Err e → names_from file (count - i) at ≡ Err e
err_later file count i at x e lt h later = let k : count - i ≡ suc (count - (i + 1)) = omega arith in rw (k, h, later) refl

pub err_over : (file : Option (List ℕ)) (count i at : ℕ) → count ≤ i → names_from file (count - i) at ≡ Err faults.Truncated
err_over file count i at le = let k : count - i ≡ 0 = omega arith in rw k refl

-- no entry is at or behind the end, and one that is there ends before it
pub past_the_end : (file : Option (List ℕ)) (len at : ℕ) → length_at file ≡ Ok len → len ≤ at → name_at file at ≡ Err faults.Truncated
unfolding name_at
past_the_end None len at h le = cc
past_the_end (Some file) len at h le =
    let e : length file ≡ len = cc in
    let short : ltb (length file) (at + 1) ≡ true = grind (arith, C.nat_tests) in
    rw short refl

pub none_behind : (file : Option (List ℕ)) (len at : ℕ) → length_at file ≡ Ok len → len ≤ at → names_from file len at ≡ Err faults.Truncated
none_behind file zero at h le = refl
none_behind file (suc n) at h le = rw (past_the_end file (suc n) at h le) refl

pub names_are : (file : Option (List ℕ)) (len at : ℕ) → length_at file ≡ Ok len → C.names_at file at ≡ names_from file len at
unfolding C.names_at
names_are file len at h = rw h refl

pub found_long : (bytes : List ℕ) (f : Found) → f.start + f.len ≤ length bytes → size (C.found_in bytes f) ≡ f.len + 3
found_long bytes f le = omega (arith, le, C.length-take f.len (drop f.start bytes), C.length-drop f.start bytes)

pub reads_ok : {A B : Type 0} (b : Bool) (fault : NeFault) (x : A) (f : A → Reading B) (y : B) → (cond b (Err fault) (Ok x) >>= f) ≡ Ok y → (b ≡ false) × (f x ≡ Ok y)
reads_ok true fault x f y h = cc
reads_ok false fault x f y h = (refl, h)

pub goes_past : {A : Type 0} (b : Bool) (read : Reading (Option A)) (x : A) → cond b (Ok None) read ≡ Ok (Some x) → read ≡ Ok (Some x)
goes_past true read x h = cc
goes_past false read x h = h

pub entry_ends : (file : Option (List ℕ)) (len at : ℕ) (e : Entry) → length_at file ≡ Ok len → name_at file at ≡ Ok (Some e) → at + size e ≤ len
unfolding name_at
entry_ends None len at e h r = cc
entry_ends (Some file) len at e h r =
    let first = reads_ok (ltb (length file) (at + 1)) faults.Truncated (take 1 (drop at file)) _ (Some e) r in
    let count = C.get_or (take 1 (drop at file)) 0 0 in
    let text = goes_past (eqb count 0) _ e first.1 in
    let rest = reads_ok (ltb (length file) (at + 1 + (count + 2))) faults.Truncated (take (count + 2) (drop (at + 1) file)) _ (Some e) text in
    let whole : length file ≡ len = cc in
    let inside : at + 1 + (count + 2) ≤ length file = grind (arith, C.nat_tests, rest.0) in
    let is : (take count (take (count + 2) (drop (at + 1) file)), C.word_of (take (count + 2) (drop (at + 1) file)) count) ≡ e = cc (rest.1) in
    let long = ap (λ x. length x.0) is in
    omega (arith, long, inside, whole, C.length-take count (take (count + 2) (drop (at + 1) file)))
