-- What a load comes to, by what its store answered.
use Rattle.w16_loader.proofs
use proofs.Common as C
use proofs.Closed as M
use proofs.Common.{◌≡◌, ℕ, ◌<◌, ◌≤◌, inl, inr, zero, suc, Bool, true, List, [], ◌∷◌, map, fold, slice_index_or, All, Option, Some, None, IfOk, Result, Ok, Err, MatchResult, refl, sym, ap, ◌∙◌, subst, arith, AllZip, option_or, option_map, false, Heap, IsHeap, ModuleFile, IsModuleFile}
use proofs.Common.{Fills, ne_format, There, New, Refused, Meant, Read, Given, given, LoadingWorld, Modules, handle_named, without_module, Says, LoadAnswer, around, begun, dll, Found, AreSaid, Files, IsOfFile, all_bound, closed_in, fills_with, around_in, IsAlike, IsFoundOf}
use proofs.Common.{IsClosureOf, LoadsHeld, load_answer, refused_by, AreHeld, answers_of}
use proofs.Holdings.{bound_found, held_alike, some_held}
use proofs.{Bindings.targets_in_all, Givings.turn_since}
use Rattle.w16_loader.specs.{Devices.is_fault_device, Binding.IsFailure, Binding.IsUnread, declared.closure.Closure.Closure}
use Rattle.w16_loading.specs.Answers.{Answers, ClosesFrom, GivesFrom, LoadsFrom, ReadsFile, follow, told}
use Rattle.w16_loading.specs.{Load.used_again, Fewest.FillsFewest}
use Rattle.w16_loading.proofs.{Fewest.fill_fewest, Fillings.in_turn_so, Fillings.one_heap, Named.named_heap}
use Rattle.std.specs.FinMap as finmap
use Rattle.w16_loading.specs.Closure as closing
use Rattle.w16_loading.specs.declared.FetchFault.TheVariants as fetches
use Rattle.w16_loader.specs.declared.fault.LoadFault.TheVariants as faults

-- Modules that are alike.

alike_same : (fs : List closing.Found) → AllZip IsAlike fs fs
alike_same [] = tt
alike_same (f ∷ fs) = ((refl, refl), alike_same fs)

module _ {A : Type 0} where
  pub found_alike : (xs : List (Found A)) (fs gs : List closing.Found) → AllZip IsFoundOf xs fs → AllZip IsAlike fs gs → AllZip IsFoundOf xs gs
  found_alike [] [] [] is alike = tt
  found_alike [] [] (g ∷ gs) is alike = alike
  found_alike [] (f ∷ fs) gs is alike = absurd is
  found_alike (x ∷ xs) [] gs is alike = absurd is
  found_alike (x ∷ xs) (f ∷ fs) [] is alike = alike
  found_alike (x ∷ xs) (f ∷ fs) (g ∷ gs) is alike = ((alike.0.0 ∙ is.0.0, alike.0.1 ∙ is.0.1), found_alike xs fs gs is.1 alike.1)

  pub closure_alike : (made : Closure A) (meant : closing.Closure) (found : List closing.Found) → IsClosureOf made meant → AllZip IsAlike meant.found found → IsClosureOf made (record meant { found = found })
  closure_alike made meant found is alike = record { found = found_alike made.found.items meant.found found is.found alike; bound = is.bound }

  found_are : (files : Files) (fs : List (Found A)) → AllZip IsFoundOf fs (map (C.found_in files) fs)
  found_are files [] = tt
  found_are files (f ∷ fs) = ((refl, refl), found_are files fs)

  -- the closure that the code made, as loading has it
  pub is_closure : (files : Files) (made : Closure A) → IsClosureOf made (closed_in files made)
  is_closure files made = record { found = found_are files made.found.items; bound = refl }

-- Where the store is honest, the files of modules say what is held of them.

module _ (honest : Type 0) (files : Files) where
  held_files : (fs : List closing.Found) → AreHeld (answers_of honest files) fs → honest → All (IsOfFile files) fs
  held_files [] held h = C.All-nil (IsOfFile files)
  held_files (f ∷ fs) held h = C.All-cons (IsOfFile files) f fs (held.0.2 h, held.0.1) (held_files fs held.1 h)

  held_is : (fs : List closing.Found) → AreHeld (answers_of honest files) fs → (f : closing.Found) → C.Member f fs → IsModuleFile f.read
  held_is [] held f m = absurd m
  held_is (x ∷ xs) held f (inl e) = subst (λ (y : closing.Found). IsModuleFile y.read) (sym e) held.0.0
  held_is (x ∷ xs) held f (inr m) = held_is xs held.1 f m

-- a request that discards as few as it can
given_fewest : (answers : Answers) (old : Heap) (slot : ℕ) (held : List ℕ) (fault : Option C.FetchFault) (new : Heap) → IsHeap old → GivesFrom Fills answers old slot held fault new → GivesFrom FillsFewest answers old slot held fault new
given_fewest answers old slot held None new is (bytes, long, read, f) = (bytes, long, read, (f, fill_fewest old slot bytes true new is f))
given_fewest answers old slot held (Some fetches.NoRoom) new is (bytes, long, f) = (bytes, long, (f, fill_fewest old slot bytes false new is f))
given_fewest answers old slot held (Some fetches.Store) new is f = f
given_fewest answers old slot held (Some fetches.Damaged) new is f = f

-- New modules that have names.
module _ (honest : Type 0) (files : Files) (start after : ℕ) (old : LoadingWorld) (meant : closing.Closure) (handles : List ℕ) (mid : LoadingWorld) (us : C.AreUnbound old meant handles mid) (is : C.AreHandles old.handles)
    (accepted : C.AreAccepted (answers_of honest files) meant.found) where
  abbrev some : (found : List closing.Found) × AllZip IsAlike meant.found found × AreHeld (answers_of honest files) found
  some = held_alike honest files meant.found accepted

  some_unbound : C.IsUnbound old (record meant { found = some.0 }) handles mid
  some_unbound = us some.0 some.1

  some_said : honest → AreSaid files mid.modules handles (map (λ (f : closing.Found). f.read) some.0)
  some_said h = M.are_said old (record meant { found = some.0 }) handles mid some_unbound files (held_files honest files some.0 some.2 h)

  -- one of them isn't bound
  pub unbound_held : (modules : Modules) → ((handle : ℕ) → C.without_values (finmap.get modules handle) ≡ C.without_values (finmap.get mid.modules handle))
      → ((handle : ℕ) → C.is_member handle handles ≡ false → finmap.get modules handle ≡ finmap.get mid.modules handle) → (before : ℕ) → start ≤ before → (fault : C.LoadFault) → IsUnread (C.length handles) fault → (is_fault_device fault ≡ true → before < after)
      → ((reads : List ModuleFile) → honest → AreSaid files mid.modules handles reads → IsFailure before after fault)
      → IfOk (refused_by fault) (λ answer. LoadsHeld honest files start after old meant (load_answer answer) (fold without_module (record mid { modules = modules }) handles))
  unbound_held modules alike same before le (faults.Refused refusal) unread rose exact = (
    some.0,
    some.1,
    some.2,
    inr (
      unread.0,
      fetches.Damaged,
      (refl, (λ e. cc), λ h. absurd (exact (map (λ (x : closing.Found). x.read) some.0) h (some_said h))),
      ap C.refused_with unread.2,
      M.taken_back old (record meant { found = some.0 }) handles mid some_unbound modules alike same is,
    ),
  )
  unbound_held modules alike same before le faults.Device unread rose exact = (
    some.0,
    some.1,
    some.2,
    inr (
      0,
      fetches.Store,
      (refl, (λ e. let lt = rose refl in omega (arith, le, lt)), λ h. refl),
      refl,
      M.taken_back old (record meant { found = some.0 }) handles mid some_unbound modules alike same is,
    ),
  )
  unbound_held modules alike same before le faults.OutOfMemory unread rose exact = tt

  -- They are bound to targets, which are their files' where the store is honest.
  module _ (modules : Modules) (targets : List (List (List C.Target))) (are : C.AreTargets mid.modules handles targets) (b : modules ≡ all_bound (finmap.get mid.modules) mid.modules handles targets)
      (keeps : (reads : List ModuleFile) → honest → AreSaid files mid.modules handles reads → targets ≡ targets_in_all reads) where
    abbrev made : (found : List closing.Found) × AllZip IsAlike meant.found found × AreHeld (answers_of honest files) found × (targets_in_all (map (λ (f : closing.Found). f.read) found) ≡ targets)
    made = bound_found honest files meant.found some.0 targets accepted some.1 some.2 (M.targets_long old meant handles mid (us meant.found (alike_same meant.found)) targets are)
        (λ h. keeps (map (λ (f : closing.Found). f.read) some.0) h (some_said h))

    abbrev reads : List ModuleFile
    reads = map (λ (f : closing.Found). f.read) made.0

    abbrev closure : closing.Closure
    closure = record meant { found = made.0 }

    u : C.IsUnbound old closure handles mid
    u = us made.0 made.1

    is_file : (g : Given) → C.Member g (given closure u.choice) → IsModuleFile g.found.read
    is_file g m = held_is honest files made.0 made.2 g.found (C.given_found 0 made.0 u.choice.handles u.choice.slots g m)

    bound : modules ≡ all_bound (finmap.get mid.modules) mid.modules handles (map (λ (read : ModuleFile). map C.targets_of read.segments) reads)
    bound = b ∙ ap (all_bound (finmap.get mid.modules) mid.modules handles) (sym made.3)

    abbrev answers : Answers
    answers = told honest ne_format files start after

    -- what a fill comes to, whatever these files are
    abbrev pub AreFilled : (before : ℕ) → Option C.Failure → Heap → Type 0
    AreFilled before failure heap = (reads : List ModuleFile) → C.AreReadAs modules handles reads → (honest → AreSaid files modules handles reads × C.AreItsFiles modules handles reads) → C.AreUnfilled modules mid.handles handles
        → C.InTurn (C.gives_over honest before after) mid.handles.heap (fills_with modules 0 handles reads) failure heap

    fewest : (before : ℕ) → start ≤ before → (failure : Option C.Failure) (heap : Heap) → AreFilled before failure heap → C.InTurn (GivesFrom FillsFewest answers) mid.handles.heap (fills_with modules 0 handles reads) failure heap
    fewest before le failure heap filled =
        let of_files = λ (h : honest). held_files honest files made.0 made.2 h in
        in_turn_so (GivesFrom Fills answers) (GivesFrom FillsFewest answers) IsHeap
        (λ before slot bytes fault after sound f. (given_fewest answers before slot bytes fault after sound f, one_heap answers before slot bytes fault after sound f))
        mid.handles.heap heap (fills_with modules 0 handles reads) failure (subst (λ (w : LoadingWorld). IsHeap w.handles.heap) (sym u.after) (named_heap old closure u.choice is u.is_choice))
        (turn_since honest start before after after le (omega arith) mid.handles.heap (fills_with modules 0 handles reads) failure heap
        (filled reads (M.are_read old closure handles mid u is_file modules bound)
        (λ h. (M.still_said old closure handles mid u files (of_files h) modules bound, M.are_its_files old closure handles mid u files (of_files h) modules bound))
        (M.are_unfilled old closure handles mid u is_file modules bound)))

    pub filled_held : (before : ℕ) → start ≤ before → (heap : Heap) → AreFilled before None heap
        → LoadsHeld honest files start after old meant (Says (slice_index_or handles 0 0)) (record mid { modules = modules; handles = record mid.handles { heap = heap } })
    filled_held before le heap filled = (made.0, made.1, made.2, inl (inr (M.filled_load old closure handles mid u is_file modules bound (GivesFrom FillsFewest answers) heap (fewest before le None heap filled))))

    pub unfilled_held : (before : ℕ) → start ≤ before → (place : ℕ) (fault : C.FetchFault) (heap : Heap) → AreFilled before (Some (record { place = place; fault = fault })) heap
        → LoadsHeld honest files start after old meant (C.refusal_of place fault) (fold without_module (record mid { modules = modules; handles = record mid.handles { heap = heap } }) handles)
    unfilled_held before le place fault heap filled =
        (made.0, made.1, made.2, inl (inr (M.unfilled_load old closure handles mid u is_file modules bound (GivesFrom FillsFewest answers) is place fault heap (fewest before le (Some (record { place = place; fault = fault })) heap filled))))

-- A closure by answers that differ in why reads fail alone, around modules that are the same.
module _ (honest : Type 0) (files : Files) (start after : ℕ) (rest : LoadingWorld) (modules : Modules) (handles : C.Handles) where
  abbrev world : LoadingWorld
  world = C.in_store rest modules handles files start

  abbrev over : Answers
  over = told honest ne_format files start after

  reads_over : (found : List closing.Found) (name : List ℕ) (r : closing.Reading) → ReadsFile (answers_of honest files) (around_in modules []) found name r → ReadsFile over (around world) found name r
  reads_over found name (Refused refusal) h = h
  reads_over found name (Meant referent) h = h
  reads_over found name (Read read) h = h

  closes_over : (n : ℕ) (closure : closing.Closure) (outcome : C.OrRefused closing.Closure) → ClosesFrom (answers_of honest files) (around_in modules []) n closure outcome → ClosesFrom over (around world) n closure outcome
  closes_over zero closure outcome h = h
  closes_over (suc n) closure outcome (place, name, left, e, more) = (place, name, left, e, by_name (λ c h. closes_over n c outcome h) (closing.meant (around_in modules []) closure.found name) more)
    where
      here : closing.Closure
      here = record closure { pending = left }

      ends : ((c : closing.Closure) → ClosesFrom (answers_of honest files) (around_in modules []) n c outcome → ClosesFrom over (around world) n c outcome)
          → (r : closing.Reading) → MatchResult (follow here place name r) (λ next. ClosesFrom (answers_of honest files) (around_in modules []) n next outcome) (λ refusal. outcome ≡ Err refusal)
          → MatchResult (follow here place name r) (λ next. ClosesFrom over (around world) n next outcome) (λ refusal. outcome ≡ Err refusal)
      ends go (Refused refusal) h = h
      ends go (Meant referent) h = go (closing.with_bound here place referent) h
      ends go (Read read) h = go (closing.with_bound (closing.with_found here (dll name) read) place (New (C.length closure.found))) h

      by_name : ((c : closing.Closure) → ClosesFrom (answers_of honest files) (around_in modules []) n c outcome → ClosesFrom over (around world) n c outcome)
          → (p : Option closing.Referent)
          → C.MatchOption p ((r : closing.Reading) × ReadsFile (answers_of honest files) (around_in modules []) closure.found (dll name) r
          × MatchResult (follow here place name r) (λ next. ClosesFrom (answers_of honest files) (around_in modules []) n next outcome) (λ refusal. outcome ≡ Err refusal))
          (λ referent. ClosesFrom (answers_of honest files) (around_in modules []) n (closing.with_bound here place referent) outcome)
          → C.MatchOption p ((r : closing.Reading) × ReadsFile over (around world) closure.found (dll name) r
          × MatchResult (follow here place name r) (λ next. ClosesFrom over (around world) n next outcome) (λ refusal. outcome ≡ Err refusal))
          (λ referent. ClosesFrom over (around world) n (closing.with_bound here place referent) outcome)
      by_name go None (r, reads, h) = (r, reads_over closure.found (dll name) r reads, ends go r h)
      by_name go (Some referent) h = go (closing.with_bound here place referent) h

  -- A load by its file.

  module _ (file : List ℕ) (t : C.Tables) (accepted : C.IsAccepted (answers_of honest files) file t) (unnamed : handle_named modules t.name ≡ None) (left : 0 < C.free_modules modules) where
    reads_new : (read : ModuleFile) → read.tables ≡ t → (answers_of honest files).holds file read → ReadsFile over (around world) [] file (Read read)
    reads_new read same held = (
      subst (λ u. over.says file (Ok u)) (sym same) accepted.0,
      ap (λ (u : C.Tables). closing.meant (around world) [] u.name) same ∙ ap (λ p. option_or (option_map There p) None) unnamed,
      subst (λ u. over.sound file u true) (sym same) accepted.1,
      held,
      left,
    )

    pub refused_closure : (before : ℕ) → start ≤ before → (fault : C.LoadFault) → C.IsFault (λ refusal. C.ClosesOf (answers_of honest files) modules file t (Err refusal)) before after fault
        → IfOk (C.refused_by fault) (λ answer. (b : Bool) → LoadsFrom FillsFewest over b world file (load_answer answer) world)
    refused_closure before le (faults.Refused refusal) h = λ b.
        let some = some_held honest files file t accepted in
        let c = h some.0 some.1 some.2 in
        inr (Read some.0, reads_new some.0 some.1 some.2, (c.0, Err refusal, closes_over c.0 (begun file some.0) (Err refusal) c.1, (refl, refl)))
    refused_closure before le faults.Device h = λ b. inl ((refl, (λ e. let lt : before < after = h in omega (arith, le, lt)), λ h. refl), refl, refl)
    refused_closure before le faults.OutOfMemory h = tt

    pub closed_load : {A : Type 0} (made : Closure A) → C.IsClosureBy (answers_of honest files) modules file t made → (new : LoadingWorld) (result : Result LoadAnswer C.AllocError)
        → IfOk result (λ answer. LoadsHeld honest files start after world (closed_in [] made) (load_answer answer) new) → IfOk result (λ answer. (b : Bool) → LoadsFrom FillsFewest over b world file (load_answer answer) new)
    closed_load made by new (Ok answer) (found, alike, held, f) = λ b.
        let c = by found (found_alike made.found.items (closed_in [] made).found found (is_closure [] made).found alike) held in
        inr (Read c.0, reads_new c.0 c.1 c.2, (c.3.0, Ok (record (closed_in [] made) { found = found }), closes_over c.3.0 (begun file c.0) (Ok (record (closed_in [] made) { found = found })) c.3.1, f))
    closed_load made by new (Err e) h = tt

  -- one of whose file no module is made
  pub refused_file : (file : List ℕ) (fault : C.LoadFault) → C.IsFault (λ refusal. ReadsFile (answers_of honest files) (around_in modules []) [] file (Refused refusal)) start after fault
      → IfOk (C.refused_by fault) (λ answer. (b : Bool) → LoadsFrom FillsFewest over b world file (load_answer answer) world)
  refused_file file (faults.Refused refusal) h = λ b. inr (Refused refusal, reads_over [] file (Refused refusal) h, (refl, refl))
  refused_file file faults.Device h = λ b. inl ((refl, (λ e. h), λ h. refl), refl, refl)
  refused_file file faults.OutOfMemory h = tt

  pub there_again : (file : List ℕ) (b : Bool) (handle : ℕ) (answer : C.Answer) (new : LoadingWorld) → ReadsFile (answers_of honest files) (around_in modules []) [] file (Meant (There handle))
      → (answer, new) ≡ used_again b world handle (finmap.get modules handle) → LoadsFrom FillsFewest over b world file answer new
  there_again file b handle answer new reads e = inr (Meant (There handle), reads_over [] file (Meant (There handle)) reads, e)

-- Where no module was found yet, a name that means nothing is none of a handle.
pub unnamed : (modules : Modules) (name : List ℕ) → ◌≡◌ {A = Option closing.Referent} (option_or (option_map There (handle_named modules name)) None) None → handle_named modules name ≡ None
unnamed modules name = turn _
  where
    turn : (p : Option ℕ) → ◌≡◌ {A = Option closing.Referent} (option_or (option_map There p) None) None → p ≡ None
    turn None e = refl
    turn (Some handle) e = cc

-- what is answered to both calls is answered to one
pub for_one : (P : Bool → LoadAnswer → Type 0) (is_load_module : Bool) (result : Result LoadAnswer C.AllocError) → IfOk result (λ answer. (b : Bool) → P b answer) → IfOk result (P is_load_module)
for_one P is_load_module (Ok answer) all = all _
for_one P is_load_module (Err e) all = tt
