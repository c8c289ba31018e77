-- The code follows references as its store's answers have them.
use Rattle.w16_loader.proofs
use proofs.Common as C
use proofs.Common.{◌≡◌, ℕ, zero, suc, ◌+◌, ◌-◌, ◌<◌, ◌≤◌, inl, inr, Bool, true, false, List, [], ◌∷◌, ◌++◌, length, map, take, Some, None, Ok, Err, refl, sym, ap, ◌∙◌, subst, arith, slice_get, position, AllZip, length-take-le, is_named, Tables, Modules, dll, There, New, Refused, Meant}
use proofs.Common.{Read, Found, Referent, Bound, Followed, LoadFault, around_in, found_in, referent_of, IsFault, Files, answers_of, left_from, pair_of, found_after, referent_after, tables_in, IsFoundOf, Begins, reached_of, AreAccepted, AreHeld, ClosesTo, LeadsBy, LeadsTo, RefusesBy}
use proofs.Pending.{next_left, last_left, more_left, none_left, first_left}
use proofs.{Files.position_map, Files.there, Holdings.held_for, Values.fault_so}
use Rattle.w16_loading.specs.Answers.{Answers, ClosesFrom, ReadsFile, follow}
use Rattle.w16_loader.specs.declared.closure.Closure.{Closure}
use Rattle.w16_loading.specs.Closure as closing
use Rattle.w16_loader.specs.declared.closure.Followed.TheVariants as leads
use Rattle.w16_loader.specs.declared.fault.LoadFault.TheVariants as faults

abbrev name_of : closing.Found → List ℕ
name_of c = c.read.tables.name

-- What is found, and the first modules of a list.

module _ {A : Type 0} where
  begins_part : (xs ys : List (Found A)) (cs : List closing.Found) → Begins (xs ++ ys) cs → Begins xs cs
  begins_part [] ys cs h = tt
  begins_part (x ∷ xs) ys [] h = absurd h
  begins_part (x ∷ xs) ys (c ∷ cs) h = (h.0, begins_part xs ys cs h.1)

  begins_long : (xs : List (Found A)) (cs : List closing.Found) → Begins xs cs → length xs ≤ length cs
  begins_long [] cs h = omega arith
  begins_long (x ∷ xs) [] h = absurd h
  begins_long (x ∷ xs) (c ∷ cs) h = let le : length xs ≤ length cs = begins_long xs cs h.1 in omega (arith, le)

  begins_zip : (xs : List (Found A)) (cs : List closing.Found) → AllZip IsFoundOf xs cs → Begins xs cs
  begins_zip [] cs h = tt
  begins_zip (x ∷ xs) [] h = absurd h
  begins_zip (x ∷ xs) (c ∷ cs) h = (h.0, begins_zip xs cs h.1)

  zip_long : (xs : List (Found A)) (cs : List closing.Found) → AllZip IsFoundOf xs cs → length cs ≤ length xs
  zip_long [] [] h = omega arith
  zip_long [] (c ∷ cs) h = absurd h
  zip_long (x ∷ xs) [] h = absurd h
  zip_long (x ∷ xs) (c ∷ cs) h = let le : length cs ≤ length xs = zip_long xs cs h.1 in omega (arith, le)

  -- the module at a place
  record At (xs : List (Found A)) (cs : List closing.Found) (place : ℕ) (f : Found A) : Type 0 where
    c : closing.Found
    at : slice_get (take (length xs) cs) place ≡ Some c
    is : IsFoundOf f c

  at_place : (xs : List (Found A)) (cs : List closing.Found) → Begins xs cs → (place : ℕ) (f : Found A) → slice_get xs place ≡ Some f → At xs cs place f
  at_place [] cs h place f e = cc
  at_place (x ∷ xs) [] h place f e = absurd h
  at_place (x ∷ xs) (c ∷ cs) h zero f e = let same : x ≡ f = cc in record { c = c; at = refl; is = subst (λ y. IsFoundOf y c) same h.0 }
  at_place (x ∷ xs) (c ∷ cs) h (suc place) f e = let r = at_place xs cs h.1 place f e in record { c = r.c; at = r.at; is = r.is }

  -- the module after those that were there
  record Next (xs : List (Found A)) (cs : List closing.Found) (f : Found A) : Type 0 where
    c : closing.Found
    at : slice_get cs (length xs) ≡ Some c
    is : IsFoundOf f c
    taken : take (suc (length xs)) cs ≡ take (length xs) cs ++ c ∷ []

  next_of : (xs : List (Found A)) (cs : List closing.Found) (f : Found A) → Begins (xs ++ f ∷ []) cs → Next xs cs f
  next_of [] [] f h = absurd h
  next_of [] (c ∷ cs) f h = record { c = c; at = refl; is = h.0; taken = refl }
  next_of (x ∷ xs) [] f h = absurd h
  next_of (x ∷ xs) (c ∷ cs) f h = let r = next_of xs cs f h.1 in record { c = r.c; at = r.at; is = r.is; taken = ap (λ ys. c ∷ ys) r.taken }

  same_names : (xs : List (Found A)) (cs : List closing.Found) → Begins xs cs → map name_of (take (length xs) cs) ≡ map name_of (map (found_in []) xs)
  same_names [] cs h = refl
  same_names (x ∷ xs) [] h = absurd h
  same_names (x ∷ xs) (c ∷ cs) h = let e : c.read.tables.name ≡ x.module.name = ap (λ (t : Tables). t.name) h.0.1 in let es = same_names xs cs h.1 in λ i. e i ∷ es i

  -- a name means the same among both
  meant_same : (modules : Modules) (files : Files) (xs : List (Found A)) (cs : List closing.Found) → Begins xs cs → (name : List ℕ) → closing.meant (around_in modules files) (take (length xs) cs) name ≡ C.meant_in modules xs name
  meant_same modules files xs cs h name =
      let places : position (λ (c : closing.Found). is_named c.read.tables.name name) (take (length xs) cs) ≡ position (λ (c : closing.Found). is_named c.read.tables.name name) (map (found_in []) xs) =
      sym (position_map (λ n. is_named n name) name_of (take (length xs) cs)) ∙ ap (position (λ n. is_named n name)) (same_names xs cs h) ∙ position_map (λ n. is_named n name) name_of (map (found_in []) xs) in
      ap (λ p. C.option_or (C.option_map There (C.handle_named modules name)) (C.option_map New p)) places

-- What a load makes of files, among modules that have the same names.

module _ (answers : Answers) (a : C.Around) where
  reads_as : (fs gs : List closing.Found) → ((name : List ℕ) → closing.meant a fs name ≡ closing.meant a gs name) → length fs ≡ length gs → (file : List ℕ) (r : closing.Reading) → ReadsFile answers a fs file r → ReadsFile answers a gs file r
  reads_as fs gs same many file (Refused refusal) (inl says) = inl says
  reads_as fs gs same many file (Refused refusal) (inr (t, says, none, inl h)) = inr (t, says, sym (same t.name) ∙ none, inl h)
  reads_as fs gs same many file (Refused refusal) (inr (t, says, none, inr h)) = inr (t, says, sym (same t.name) ∙ none, inr (h.0, (let le : a.free ≤ length fs = h.1 in omega (arith, le, many)), h.2))
  reads_as fs gs same many file (Meant referent) (t, says, e) = (t, says, sym (same t.name) ∙ e)
  reads_as fs gs same many file (Read read) (says, none, sound, held, few) = (says, sym (same read.tables.name) ∙ none, sound, held, (let lt : length fs < a.free = few in omega (arith, lt, many)))

  -- One reference more.
  module _ (closure : closing.Closure) (place : ℕ) (name : List ℕ) (rest : List (ℕ × List ℕ)) (pending : closure.pending ≡ (place, name) ∷ rest) (n : ℕ) (outcome : C.OrRefused closing.Closure) where
    abbrev left : closing.Closure
    left = record closure { pending = rest }

    abbrev Ends : closing.Reading → Type 0
    Ends r = C.MatchResult (follow left place name r) (λ next. ClosesFrom answers a n next outcome) (λ refusal. outcome ≡ Err refusal)

    abbrev ByName : C.Option closing.Referent → Type 0
    ByName p = C.MatchOption p ((r : closing.Reading) × ReadsFile answers a closure.found (dll name) r × Ends r) (λ referent. ClosesFrom answers a n (closing.with_bound left place referent) outcome)

    by_name : (referent : closing.Referent) → closing.meant a closure.found name ≡ Some referent → ClosesFrom answers a n (closing.with_bound left place referent) outcome → ClosesFrom answers a (suc n) closure outcome
    by_name referent e f = (place, name, rest, pending, subst ByName (sym e) f)

    by_file : closing.meant a closure.found name ≡ None → (r : closing.Reading) → ReadsFile answers a closure.found (dll name) r → Ends r → ClosesFrom answers a (suc n) closure outcome
    by_file none r reads f = (place, name, rest, pending, subst ByName (sym none) (r, reads, f))

held_at : (answers : Answers) (all : List closing.Found) → AreHeld answers all → (place : ℕ) (f : closing.Found) → slice_get all place ≡ Some f → answers.holds f.file f.read
held_at answers [] held place f e = cc
held_at answers (x ∷ xs) held zero f e = let same : x ≡ f = cc in subst (λ (y : closing.Found). answers.holds y.file y.read) same held.0
held_at answers (x ∷ xs) held (suc place) f e = held_at answers xs held.1 place f e

module _ {A : Type 0} (answers : Answers) (modules : Modules) (all : List closing.Found) (held : AreHeld answers all) (found : List (Found A)) (begins : Begins found all) where
  abbrev a : C.Around
  a = around_in modules []

  abbrev fs : List closing.Found
  fs = take (length found) all

  long : length fs ≡ length found
  long = length-take-le (length found) all (begins_long found all begins)

  reads_here : (file : List ℕ) (r : closing.Reading) → C.ReadsIn answers modules found file r → ReadsFile answers a fs file r
  reads_here = reads_as answers a (map (found_in []) found) fs (λ name. sym (meant_same modules [] found all begins name)) (C.length-map found (found_in []) ∙ sym long)

  -- one reference of the module at a place, as the code keeps it
  module _ (place : ℕ) (f : Found A) (at : slice_get found place ≡ Some f) (before : ℕ) (done : ℕ) (le : done ≤ length f.module.references) (bound : List Bound) (name : List ℕ)
      (pending : left_from place before fs ≡ (place, name) ∷ left_from place done fs) where
    abbrev has : ℕ → ℕ → List (ℕ × closing.Referent) → closing.Closure
    has done many bounds = record { found = take many all; pending = left_from place done (take many all); bound = bounds }

    abbrev here : closing.Closure
    here = has before (length found) (map pair_of bound)

    pub refused_on : (refusal : C.LoadRefusal) → C.IsRefusedName answers modules found name refusal → ClosesTo answers modules here (Err refusal)
    refused_on refusal (none, (why, reads, e)) = (1, by_file answers a here place name (left_from place done fs) pending 0 (Err refusal) (meant_same modules [] found all begins name ∙ none) (Refused why) (reads_here (dll name) (Refused why) reads) (ap Err e))

    pub follows_on : (followed : Followed A) → LeadsTo answers modules found name followed → Begins (found_after found followed) all → (n : ℕ) (outcome : C.OrRefused closing.Closure)
        → ClosesFrom answers a n (has done (length (found_after found followed)) (map pair_of (bound ++ record { place = place; referent = referent_after (length found) followed } ∷ []))) outcome
        → ClosesFrom answers a (suc n) here outcome
    follows_on (leads.Meant referent) h more n outcome c =
        let b = sym (C.map-append pair_of bound (record { place = place; referent = referent } ∷ [])) in
        let next : ClosesFrom answers a n (closing.with_bound (record here { pending = left_from place done fs }) place (referent_of referent)) outcome =
        subst (λ bs. ClosesFrom answers a n (record { found = fs; pending = left_from place done fs; bound = bs }) outcome) (sym b) c in
        by_case h next
      where
        by_case : LeadsTo answers modules found name (leads.Meant referent) → ClosesFrom answers a n (closing.with_bound (record here { pending = left_from place done fs }) place (referent_of referent)) outcome → ClosesFrom answers a (suc n) here outcome
        by_case (inl e) next = by_name answers a here place name (left_from place done fs) pending n outcome (referent_of referent) (meant_same modules [] found all begins name ∙ e) next
        by_case (inr k) next = by_file answers a here place name (left_from place done fs) pending n outcome (meant_same modules [] found all begins name ∙ k.0) (Meant (referent_of referent))
            (reads_here (dll name) (Meant (referent_of referent)) k.1) next
    follows_on (leads.New g) (inl e) more n outcome c = absurd e
    follows_on (leads.New g) (inr (none, (file, (accepted, new, few)))) more n outcome c =
        let m = next_of found all g more in
        let is : m.c.read.tables ≡ tables_in g.module = m.is.1 in
        let holds : answers.holds (dll name) m.c.read = subst (λ k. answers.holds k m.c.read) (m.is.0 ∙ file) (held_at answers all held (length found) m.c m.at) in
        let unnamed : closing.meant a fs m.c.read.tables.name ≡ None = meant_same modules [] found all begins m.c.read.tables.name ∙ ap (λ (t : Tables). C.meant_in modules found t.name) is ∙ new in
        let reads : ReadsFile answers a fs (dll name) (Read m.c.read) = (
          subst (λ t. answers.says (dll name) (Ok t)) (sym is) accepted.0,
          unnamed,
          subst (λ t. answers.sound (dll name) t true) (sym is) accepted.1,
          holds,
          omega (arith, long, few),
        ) in
        by_file answers a here place name (left_from place done fs) pending n outcome (meant_same modules [] found all begins name ∙ none) (Read m.c.read) reads
        (subst (λ x. ClosesFrom answers a n x outcome) (sym (new_is m)) c)
      where
        its_references : (x : At found all place f) → done ≤ length x.c.read.tables.references
        its_references x = let same : length x.c.read.tables.references ≡ length f.module.references = ap (λ (t : Tables). length t.references) x.is.1 in omega (arith, same, le)

        new_is : (m : Next found all g) → closing.with_bound (closing.with_found (has done (length found) (map pair_of bound)) (dll name) m.c.read) place (New (length fs))
            ≡ has done (length (found_after found (leads.New g))) (map pair_of (bound ++ record { place = place; referent = referent_after (length found) (leads.New g) } ∷ []))
        new_is m =
            let x = at_place found all begins place f at in
            let its_file = m.is.0 ∙ file in
            let many : suc (length found) ≡ length (found ++ g ∷ []) = (let l : length (found ++ g ∷ []) ≡ length found + 1 = C.length-append found (g ∷ []) in omega (arith, l)) in
            let t : fs ++ m.c ∷ [] ≡ take (length (found ++ g ∷ [])) all = sym m.taken ∙ ap (λ k. take k all) many in
            let p : left_from place done fs ++ C.references_of (length fs) m.c ≡ left_from place done (take (length (found ++ g ∷ [])) all) =
            sym (more_left fs place x.c x.at done m.c (its_references x)) ∙ ap (left_from place done) t in
            let b = ap (λ k. map pair_of bound ++ (place, New k) ∷ []) long ∙ sym (C.map-append pair_of bound (record { place = place; referent = referent_after (length found) (leads.New g) } ∷ [])) in
            (λ i. record { found = fs ++ record { file = sym its_file i; read = m.c.read } ∷ []; pending = left_from place done fs ++ C.references_of (length fs) m.c; bound = map pair_of bound ++ (place, New (length fs)) ∷ [] })
            ∙ (λ i. record { found = t i; pending = p i; bound = b i })

  -- after the last reference of a module come those of the next
  pub after_last : (place count : ℕ) → count ≡ length (C.references_at found place) → left_from place count fs ≡ left_from (suc place) 0 fs
  after_last place count e = turn (C.nat_lt place (length found)) refl
    where
      turn : (b : Bool) → C.nat_lt place (length found) ≡ b → left_from place count fs ≡ left_from (suc place) 0 fs
      turn true t =
          let s = there found place (C.ltb-true place (length found) t) in
          let x = at_place found all begins place s.0 s.1 in
          let many : count ≡ length s.0.module.references = e ∙ ap (λ o. length (elim o as (λ _. List (List ℕ)) [ None ↦ [] | Some f ↦ f.module.references ])) s.1 in
          let same : count ≡ length x.c.read.tables.references = many ∙ sym (ap (λ (t : Tables). length t.references) x.is.1) in
          ap (λ n. left_from place n fs) same ∙ last_left fs place x.c x.at
      turn false t =
          let le : length found ≤ place = C.ltb-false place (length found) t in
          none_left fs place count (omega (arith, le, long)) ∙ sym (none_left fs (suc place) 0 (omega (arith, le, long)))

module _ {A : Type 0} (answers : Answers) (modules : Modules) where
  before : (xs : List (Found A)) (followed : Followed A) (cs : List closing.Found) → Begins (found_after xs followed) cs → Begins xs cs
  before xs (leads.Meant referent) cs h = h
  before xs (leads.New g) cs h = begins_part xs (g ∷ []) cs h

  -- one reference
  module _ (place : ℕ) (old : Closure A) (f : Found A) (at : slice_get old.found.items place ≡ Some f) (number : ℕ) (some : 0 < number) (le : number ≤ length f.module.references) (name : List ℕ)
      (is : slice_get f.module.references (number - 1) ≡ Some name) where
    next_pending : (all : List closing.Found) → Begins old.found.items all → left_from place (number - 1) (take (length old.found.items) all) ≡ (place, name) ∷ left_from place number (take (length old.found.items) all)
    next_pending all was =
        let x = at_place old.found.items all was place f at in
        let here : slice_get x.c.read.tables.references (number - 1) ≡ Some name = ap (λ (t : Tables). slice_get t.references (number - 1)) x.is.1 ∙ is in
        let next : suc (number - 1) ≡ number = omega (arith, some) in
        next_left (take (length old.found.items) all) place x.c x.at (number - 1) name here ∙ ap (λ n. (place, name) ∷ left_from place n (take (length old.found.items) all)) next

    pub leads_on : (new : Closure A) (followed : Followed A) → LeadsTo answers modules old.found.items name followed → new.found.items ≡ found_after old.found.items followed
        → new.bound.items ≡ old.bound.items ++ record { place = place; referent = referent_after (length old.found.items) followed } ∷ []
        → LeadsBy answers modules new.found.items (reached_of place (number - 1) old) (reached_of place number new)
    leads_on new followed leads_there found bound = λ all begins held outcome c.
        let b : Begins (found_after old.found.items followed) all = subst (λ xs. Begins xs all) found begins in
        let was : Begins old.found.items all = before old.found.items followed all b in
        let same : reached_of place number new all
        ≡ record {
          found = take (length (found_after old.found.items followed)) all;
          pending = left_from place number
              (take (length (found_after old.found.items followed)) all);
          bound = map pair_of
              (old.bound.items ++ record { place = place; referent = referent_after (length old.found.items) followed } ∷
              []);
        } =
        (λ i. record { found = take (length (found i)) all; pending = left_from place number (take (length (found i)) all); bound = map pair_of (bound i) }) in (
          suc c.0,
          follows_on answers modules all held old.found.items was place f at (number - 1) number le old.bound.items name (next_pending all was) followed leads_there b c.0 outcome
              (subst (λ x. ClosesFrom answers (around_in modules []) c.0 x outcome) same c.1),
        )

    pub refused_at : (start after : ℕ) (fault : LoadFault) → IsFault (C.IsRefusedName answers modules old.found.items name) start after fault → IsFault (RefusesBy answers modules old.found.items (reached_of place (number - 1) old)) start after fault
    refused_at start after fault h =
        fault_so (λ refusal h accepted all begins held. refused_on answers modules all held old.found.items begins place f at (number - 1) number le old.bound.items name (next_pending all begins) refusal h) start start after fault (omega arith) h

  pub nowhere : (found : List (Found A)) (at : List closing.Found → closing.Closure) → LeadsBy answers modules found at at
  nowhere found at = λ all begins held outcome c. c

  pub through : (found more since : List (Found A)) (first middle last : List closing.Found → closing.Closure) → more ≡ found ++ since → LeadsBy answers modules found first middle → LeadsBy answers modules more middle last → LeadsBy answers modules more first last
  through found more since first middle last kept h k = λ all begins held outcome c. h all (begins_part found since all (subst (λ xs. Begins xs all) kept begins)) held outcome (k all begins held outcome c)

  -- all references of a module
  pub module_followed : (place count : ℕ) (first : List closing.Found → closing.Closure) (last : Closure A) → count ≡ length (C.references_at last.found.items place) → LeadsBy answers modules last.found.items first (reached_of place count last)
      → LeadsBy answers modules last.found.items first (reached_of (place + 1) 0 last)
  module_followed place count first last e h = λ all begins held outcome c.
      let next : left_from place count (take (length last.found.items) all) ≡ left_from (place + 1) 0 (take (length last.found.items) all) =
      after_last answers modules all held last.found.items begins place count e ∙ ap (λ n. left_from n 0 (take (length last.found.items) all)) (sym (C.add-one place)) in
      h all begins held outcome (subst (λ p. ClosesTo answers modules (record { found = take (length last.found.items) all; pending = p; bound = map pair_of last.bound.items }) outcome) (sym next) c)

  -- all references of all modules
  pub all_followed : (most : ℕ) (first : List closing.Found → closing.Closure) (last : Closure A) → length last.found.items ≤ most → LeadsBy answers modules last.found.items first (reached_of most 0 last) → LeadsBy answers modules last.found.items first (C.closed_of last)
  all_followed most first last few h = λ all begins held outcome c.
      let many : length (take (length last.found.items) all) ≡ length last.found.items = length-take-le (length last.found.items) all (begins_long last.found.items all begins) in
      let none : left_from most 0 (take (length last.found.items) all) ≡ [] = none_left (take (length last.found.items) all) most 0 (omega (arith, many, few)) in
      h all begins held outcome (subst (λ p. ClosesTo answers modules (record { found = take (length last.found.items) all; pending = p; bound = map pair_of last.bound.items }) outcome) (sym none) c)

  -- the module asked for alone
  module _ (made : Closure A) (f : Found A) (found : made.found.items ≡ f ∷ []) (bound : made.bound.items ≡ []) where
    begun_is : (all : List closing.Found) (n : Next [] all f) → reached_of 0 0 made all ≡ closing.begun f.file.items n.c.read
    begun_is all n =
        (λ i. record { found = take (length (found i)) all; pending = left_from 0 0 (take (length (found i)) all); bound = map pair_of (bound i) })
        ∙ (λ i. record { found = n.taken i; pending = left_from 0 0 (n.taken i); bound = [] })
        ∙ (λ i. record { found = record { file = n.is.0 i; read = n.c.read } ∷ []; pending = first_left n.c i; bound = [] })

    pub closes_by : (last : Closure A) (since : List (Found A)) → last.found.items ≡ made.found.items ++ since → LeadsBy answers modules last.found.items (reached_of 0 0 made) (C.closed_of last) → C.IsClosureBy answers modules f.file.items (tables_in f.module) last
    closes_by last since kept h = λ all zip held.
        let begins : Begins last.found.items all = begins_zip last.found.items all zip in
        let one : Begins (f ∷ []) all = subst (λ xs. Begins xs all) found (begins_part made.found.items since all (subst (λ xs. Begins xs all) kept begins)) in
        let n = next_of [] all f one in
        let whole : take (length last.found.items) all ≡ all = C.take_all (length last.found.items) all (zip_long last.found.items all zip) in
        let c = h all begins held (Ok (record { found = all; pending = []; bound = map pair_of last.bound.items }))
        (0, (refl, (λ i. Ok (record { found = sym whole i; pending = []; bound = map pair_of last.bound.items })))) in
        (n.c.read, n.is.1, subst (λ k. answers.holds k n.c.read) n.is.0 (held_at answers all held 0 n.c n.at), subst (λ x. ClosesTo answers modules x (Ok (record { found = all; pending = []; bound = map pair_of last.bound.items }))) (begun_is all n) c)

    pub refused_of : C.IsAccepted answers f.file.items (tables_in f.module) → (start after : ℕ) (fault : LoadFault) → IsFault (RefusesBy answers modules made.found.items (reached_of 0 0 made)) start after fault
        → IsFault (λ refusal. C.ClosesOf answers modules f.file.items (tables_in f.module) (Err refusal)) start after fault
    refused_of accepted start after (faults.Refused refusal) h = λ read same held.
        let one : closing.Found = record { file = f.file.items; read = read } in
        let begins : Begins made.found.items (one ∷ []) = subst (λ xs. Begins xs (one ∷ [])) (sym found) ((refl, same), tt) in
        let all : AreAccepted answers (map (found_in []) made.found.items) = subst (λ xs. AreAccepted answers (map (found_in []) xs)) (sym found) (accepted, tt) in
        subst (λ x. ClosesTo answers modules x (Err refusal)) (begun_is (one ∷ []) (record { c = one; at = refl; is = (refl, same); taken = refl })) (h all (one ∷ []) begins (held, tt))
    refused_of accepted start after faults.Device h = h
    refused_of accepted start after faults.OutOfMemory h = tt

  -- What is found is accepted.

  all_accepted : (xs ys : List (Found A)) → AreAccepted answers (map (found_in []) xs) → AreAccepted answers (map (found_in []) ys) → AreAccepted answers (map (found_in []) (xs ++ ys))
  all_accepted [] ys h k = k
  all_accepted (x ∷ xs) ys h k = (h.0, all_accepted xs ys h.1 k)

  pub accepts_more : (found : List (Found A)) (name : List ℕ) (followed : Followed A) → LeadsTo answers modules found name followed → (new : List (Found A)) → new ≡ found_after found followed
      → AreAccepted answers (map (found_in []) found) → AreAccepted answers (map (found_in []) new)
  accepts_more found name followed h new same all = subst (λ xs. AreAccepted answers (map (found_in []) xs)) (sym same) (more followed h)
    where
      more : (followed : Followed A) → LeadsTo answers modules found name followed → AreAccepted answers (map (found_in []) (found_after found followed))
      more (leads.Meant referent) h = all
      more (leads.New f) (inl h) = absurd h
      more (leads.New f) (inr (none, (file, (accepted, new, few)))) = all_accepted found (f ∷ []) all (subst (λ k. C.IsAccepted answers k (tables_in f.module)) (sym file) accepted, tt)

  since_accepted : (xs ys : List (Found A)) → AreAccepted answers (map (found_in []) (xs ++ ys)) → AreAccepted answers (map (found_in []) ys)
  since_accepted [] ys h = h
  since_accepted (x ∷ xs) ys h = since_accepted xs ys h.1

-- What refuses a load after some steps, does before them: files of the modules that were found in between may hold something.

begins_more : {A : Type 0} (xs ys : List (Found A)) (all cs : List closing.Found) → Begins xs all → AllZip IsFoundOf ys cs → Begins (xs ++ ys) (take (length xs) all ++ cs)
begins_more [] ys all cs h k = begins_zip ys cs k
begins_more (x ∷ xs) ys [] cs h k = absurd h
begins_more (x ∷ xs) ys (c ∷ all) cs h k = (h.0, begins_more xs ys all cs h.1 k)

held_more : (answers : Answers) (n : ℕ) (all cs : List closing.Found) → AreHeld answers all → AreHeld answers cs → AreHeld answers (take n all ++ cs)
held_more answers zero all cs h k = k
held_more answers (suc n) [] cs h k = k
held_more answers (suc n) (c ∷ all) cs h k = (h.0, held_more answers n all cs h.1 k)

module _ {A : Type 0} (honest : Type 0) (files : Files) (modules : Modules) where
  -- what was reached depends on no module after those that were found
  reached_same : (place done : ℕ) (old : Closure A) (all cs : List closing.Found) → Begins old.found.items all → reached_of place done old (take (length old.found.items) all ++ cs) ≡ reached_of place done old all
  reached_same place done old all cs begins =
      let n = length old.found.items in
      let many : length (take n all) ≡ n = length-take-le n all (begins_long old.found.items all begins) in
      let same : take n (take n all ++ cs) ≡ take n all = C.take-append-le n (take n all) cs (omega (arith, many)) ∙ C.take_all n (take n all) (omega (arith, many)) in
      λ i. record { found = same i; pending = left_from place done (same i); bound = map pair_of old.bound.items }

  pub refused_through : (place done : ℕ) (old : Closure A) (more since : List (Found A)) (middle : List closing.Found → closing.Closure) → more ≡ old.found.items ++ since
      → (AreAccepted (answers_of honest files) (map (found_in []) old.found.items) → AreAccepted (answers_of honest files) (map (found_in []) more))
      → LeadsBy (answers_of honest files) modules more (reached_of place done old) middle → (start before after : ℕ) → start ≤ before → (fault : LoadFault)
      → IsFault (RefusesBy (answers_of honest files) modules more middle) before after fault → IsFault (RefusesBy (answers_of honest files) modules old.found.items (reached_of place done old)) start after fault
  refused_through place done old more since middle kept accepts leads start before after le (faults.Refused refusal) h = λ accepted all begins held.
      let answers = answers_of honest files in
      let acc : AreAccepted answers (map (found_in []) more) = accepts accepted in
      let ws = held_for honest files since (since_accepted answers modules old.found.items since (subst (λ xs. AreAccepted answers (map (found_in []) xs)) kept acc)) in
      let now : Begins more (take (length old.found.items) all ++ ws.0) = subst (λ xs. Begins xs (take (length old.found.items) all ++ ws.0)) (sym kept) (begins_more old.found.items since all ws.0 begins ws.1) in
      let holds : AreHeld answers (take (length old.found.items) all ++ ws.0) = held_more answers (length old.found.items) all ws.0 held ws.2 in
      subst (λ x. ClosesTo answers modules x (Err refusal)) (reached_same place done old all ws.0 begins) (leads (take (length old.found.items) all ++ ws.0) now holds (Err refusal) (h acc (take (length old.found.items) all ++ ws.0) now holds))
  refused_through place done old more since middle kept accepts leads start before after le faults.Device k = omega (arith, le, k)
  refused_through place done old more since middle kept accepts leads start before after le faults.OutOfMemory k = tt
