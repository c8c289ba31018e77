-- What LoadModule and LoadLibrary are for, proved from their steps over any store.
use Rattle.w16_loading.proofs
use proofs.Common as C
use proofs.Given as M
use proofs.Common.{◌≡◌, ◌≢◌, ℕ, zero, ◌+◌, ◌<◌, ◌≤◌, ◌==◌, ◌&&◌, ◌||◌, inl, inr, ◌⊎◌, Bool, true, false, cond, List, [], ◌∷◌, map, Option, Some, None, IsSomeAnd, is_some, slice_get, refl, sym, ap, ◌∙◌, arith, Discardable}
use proofs.Common.{Heap, Object, object_at, bytes_at, is_fixed, Member, Segment, LoadingWorld, Module, Named, Loaded, Filling, Fills, LoadsFrom, told, Given, named, fills, fills_from, fills_of}
use proofs.Common.{Answer, Says, refusal_number, refused_with, Word}
use proofs.Answered.{HoldFiles, closure_loads, small_number}
use proofs.Fillings.{IsLost, any_do, filled_heap, filled_object, filled_other}
use proofs.LoadWorlds.{free_handle, handles_differ, named_new, segments_differ, sized, was_free}
use proofs.Undone.{fold_named, in_first, in_second}
use proofs.{ClosureFacts.IsClosure, Named.named_heap}
use Rattle.w16_laws.proofs.Preloads.{all_after}
use Rattle.w16_model.specs.{declared.Kind.TheVariants.Fixed, declared.Kind.TheVariants.Moveable}
use Rattle.w16_loading.specs.{Families.reply_of, Load.Answer.StoreFails, declared.LoadRefusal.LoadRefusal, declared.TheConstants.FIRST_MODULE, declared.TheConstants.MOST_USES, declared.FetchFault.FetchFault}
use Rattle.w16_laws.specs.{ModuleEffects.IsUsedOnce, ModuleEffects.LoadLaw}
use Rattle.std.specs.FinMap as finmap
use Rattle.w16_loading.specs.declared.FetchFault.TheVariants as faults
use Rattle.w16_loading.specs.declared.LoadRefusal.TheVariants as refusals

-- An object of some kind that isn't discardable keeps what a filling gave it.
module _ (k : C.Kind) (firm : k ≢ Discardable) (q : ℕ) where
  abbrev Has : (Option (List ℕ) → Type 0) → Heap → Type 0
  Has W heap = IsSomeAnd (object_at heap q) (λ o. (o.kind ≡ k) × W o.bytes)

  filled_keeps : (W : Option (List ℕ) → Type 0) → ((b : List ℕ) → W (Some b)) → (a : Heap) (slot : ℕ) (bytes : List ℕ) (b : Heap) → C.IsHeap a → Fills a slot bytes true b → Has W a → Has W b
  filled_keeps W some a slot bytes b is f h = elim (C.cases_eq q slot) [
    | inl e ↦ rw (e, filled_object a slot bytes b f) ((rw (e, f.there) at h).0, some bytes)
    | inr d ↦ kept (filled_other a slot bytes b f is q d)
  ]
    where
      lost : (p : Option Object) → IsSomeAnd p (IsLost b q) → IsSomeAnd p (λ o. (o.kind ≡ k) × W o.bytes) → ⊥
      lost None l h = l
      lost (Some o) l h = firm (sym h.0 ∙ l.0)

      kept : C.IsKeptOrDiscarded a b q → Has W b
      kept (inl e) = rw e h
      kept (inr l) = absurd (lost (object_at a q) l h)

  abbrev HasBytes : Heap → Type 0
  HasBytes = Has (λ p. is_some p ≡ true)

  -- so it has bytes at the end
  all_filled : (answers : C.Answers) (old new : Heap) (xs : List Filling) (x : Filling) → Member x xs → x.slot ≡ q → C.IsHeap old → C.InTurn (C.GivesFrom Fills answers) old xs None new → Has (λ p. Unit {0}) old → HasBytes new
  all_filled answers old new [] x m e is f h = absurd m
  all_filled answers old new (y ∷ xs) x m e is (Some fault, next, g, rest) h = cc (rest.0)
  all_filled answers old new (y ∷ xs) x (inl same) e is (None, next, g, rest) h = (any_do answers (λ a b. HasBytes a → HasBytes b) (λ a h. h) (λ a b c s t h. t (s h)) next new xs None (filled_heap old y.slot g.0 next g.3)
      (λ z n a b here read long again f. filled_keeps (λ p. is_some p ≡ true) (λ b. refl) a z.slot read b here f) rest).0 given_now
    where
      at : y.slot ≡ q
      at = rw (← same) e

      given_now : HasBytes next
      given_now = rw (← at, filled_object old y.slot g.0 next g.3) ((rw (← at, g.3.there) at h).0, refl)
  all_filled answers old new (y ∷ xs) x (inr m) e is (None, next, g, rest) h = all_filled answers next new xs x m e (filled_heap old y.slot g.0 next g.3) rest (filled_keeps (λ p. Unit {0}) (λ b. tt) old y.slot g.0 next is g.3 h)

-- A segment that is fixed or preload is filled.
fill_there : (f : C.SegmentData → List C.Far) (place : ℕ) (slots : List ℕ) (segments : List Segment) (parts : List C.SegmentData) → C.AllZip C.IsSegmentData segments parts → (i slot : ℕ) (s : Segment) → slice_get slots i ≡ Some slot → slice_get segments i ≡ Some s
    → (is_fixed s.kind || s.is_preload) ≡ true → (x : Filling) × Member x (fills_from place slots segments parts (map f parts)) × (x.slot ≡ slot)
fill_there f place [] segments parts all i slot s at there t = cc
fill_there f place (q ∷ qs) [] parts all i slot s at there t = cc
fill_there f place (q ∷ qs) (g ∷ gs) [] all i slot s at there t = absurd all
fill_there f place (q ∷ qs) (g ∷ gs) (d ∷ ds) all zero slot s at there t =
    let same : g ≡ s = cc in
    rw (same, t) (record { place = place; slot = q; bytes = d.image (f d) }, inl refl, (cc))
fill_there f place (q ∷ qs) (g ∷ gs) (d ∷ ds) all (C.suc i) slot s at there t = later _ _ _ (fill_there f _ qs gs ds all.1 i _ s at there t)
  where
    later : (b : Bool) (y : Filling) (ys : List Filling) → (x : Filling) × Member x ys × (x.slot ≡ slot) → (x : Filling) × Member x (cond {A = List Filling} b (y ∷ ys) ys) × (x.slot ≡ slot)
    later true y ys r = (r.0, inr r.1, r.2)
    later false y ys r = r

in_all : (module_of : Given → Module) (gs : List Given) (g : Given) (x : Filling) → Member g gs → Member x (fills_of module_of g) → Member x (C.flat_map (fills_of module_of) gs)
in_all module_of [] g x m n = absurd m
in_all module_of (h ∷ gs) g x (inl e) n = in_first x _ _ (rw e at n)
in_all module_of (h ∷ gs) g x (inr m) n = in_second x _ _ (in_all module_of gs g x m n)

module _ (answers : C.Answers) (are : HoldFiles answers) (old : LoadingWorld) (is : C.IsLoadingWorld old) (answer : ℕ) (new : LoadingWorld) where
  abbrev HasOrLost : Heap → ℕ → Segment → Type 0
  HasOrLost heap slot s = (is_some (bytes_at heap slot) ≡ true) ⊎ ((s.kind ≡ Discardable) × ((q : ℕ) → IsSomeAnd (object_at old.handles.heap q) (λ o. (o.kind ≡ Discardable) × (o.locks ≡ 0)) → bytes_at heap q ≡ None))

  abbrev IsReady : LoadingWorld → Type 0
  IsReady world = (handle i slot : ℕ) (m : Module) (s : Segment) → finmap.get old.modules handle ≡ None → finmap.get world.modules handle ≡ Some (Loaded m)
      → slice_get m.tables.segments i ≡ Some s → slice_get m.slots i ≡ Some slot → (s.kind ≡ Fixed) ⊎ (s.is_preload ≡ true) → HasOrLost world.handles.heap slot s

  abbrev Does : LoadingWorld → Type 0
  Does world = IsUsedOnce (finmap.get old.modules answer) (finmap.get world.modules answer) × IsReady world

  first : FIRST_MODULE ≡ 33
  first = refl

  -- A load that has come to its end.
  module _ (closure : C.Closure) (facts : IsClosure answers (C.around old).named closure) (choice : C.Choice) (good : C.IsChoice old closure.found choice) (heap : Heap) (filled : C.InTurn (C.GivesFrom Fills answers) (named old closure choice).handles.heap (fills old closure choice) None heap) where
    abbrev gs : List Given
    gs = C.given closure choice

    abbrev module_of : Given → Module
    module_of = C.bound old closure choice

    abbrev done : LoadingWorld
    done = C.with_heap (named old closure choice) heap

    module _ (g : Given) (member : Member g gs) (i slot : ℕ) (s : Segment) (there : slice_get g.found.read.tables.segments i ≡ Some s) (at : slice_get g.slots i ≡ Some slot) (t : (is_fixed s.kind || s.is_preload) ≡ true) where
      file : C.IsModuleFile g.found.read
      file = are g.found.file g.found.read (facts.held g.found (M.given_found 0 closure.found choice.handles choice.slots g member))

      x : (x : Filling) × Member x (fills_of module_of g) × (x.slot ≡ slot)
      x = fill_there _ g.place g.slots g.found.read.tables.segments g.found.read.segments file.segments i slot s at there t

      filling : Member x.0 (fills old closure choice)
      filling = in_all module_of gs g x.0 member x.1

      given_bytes : s.kind ≢ Discardable → is_some (bytes_at heap slot) ≡ true
      given_bytes firm = has_some (object_at heap slot)
          (all_filled s.kind firm slot answers (named old closure choice).handles.heap heap (fills old closure choice) x.0 filling x.2 (named_heap old closure choice is.handles good) filled
          (rw (named_new old (C.segments_of gs) (segments_differ answers are old is closure choice good facts heap filled) (slot, s) (M.given_segment gs g (slot, s) member (M.zip_member g.slots _ i slot s at there))).0 (refl, tt)))
        where
          has_some : (p : Option Object) → IsSomeAnd p (λ o. (o.kind ≡ s.kind) × (is_some o.bytes ≡ true)) → is_some (C.bytes_in p) ≡ true
          has_some None h = absurd h
          has_some (Some o) h = h.1

      -- an object that was there is no new segment's
      not_new : (q : ℕ) → is_some (object_at old.handles.heap q) ≡ true → (z : ℕ × Segment) → Member z (C.segments_of gs) → q ≢ z.0
      not_new q some z m e = cc (ap is_some (was_free answers are old is closure choice good facts heap filled z m))

      lost : bytes_at heap slot ≡ None → (q : ℕ) → IsSomeAnd (object_at old.handles.heap q) (λ o. (o.kind ≡ Discardable) × (o.locks ≡ 0)) → bytes_at heap q ≡ None
      lost none q may = all_after slot q answers (named old closure choice).handles.heap heap (fills old closure choice) x.0 filling x.2
          (λ z m e. let d = sized answers are old is closure choice good facts heap filled z m in not_new q some (z.slot, d.0) d.1 e) (named_heap old closure choice is.handles good) filled
          (rw ((fold_named old (C.segments_of gs)).others q (not_new q some)) may) none
        where
          there_is : (p : Option Object) → IsSomeAnd p (λ o. (o.kind ≡ Discardable) × (o.locks ≡ 0)) → is_some p ≡ true
          there_is None h = absurd h
          there_is (Some o) h = refl

          some : is_some (object_at old.handles.heap q) ≡ true
          some = there_is (object_at old.handles.heap q) may

      has_or_lost : HasOrLost heap slot s
      has_or_lost = by_kind s.kind refl
        where
          by_bytes : s.kind ≡ Discardable → (p : Option (List ℕ)) → bytes_at heap slot ≡ p → HasOrLost heap slot s
          by_bytes k None e = inr (k, lost e)
          by_bytes k (Some b) e = inl (ap is_some e)

          by_kind : (k : C.Kind) → s.kind ≡ k → HasOrLost heap slot s
          by_kind Discardable e = by_bytes e _ refl
          by_kind Fixed e = inl (given_bytes (λ d. cc))
          by_kind Moveable e = inl (given_bytes (λ d. cc))

    or_true : (b : Bool) → (b || true) ≡ true
    or_true true = refl
    or_true false = refl

    ready : IsReady done
    ready handle i slot m s unnamed there its slot_at asked = elim (M.put_named module_of gs old.modules handle (Loaded m) there) [
      | inr f ↦ cc
      | inl r ↦ let same : m ≡ module_of r.0 = cc (r.3) in has_or_lost r.0 r.1 i slot s (rw same at its) (rw same at slot_at) (wanted asked)
    ]
      where
        wanted : (s.kind ≡ Fixed) ⊎ (s.is_preload ≡ true) → (is_fixed s.kind || s.is_preload) ≡ true
        wanted (inl e) = rw e
        wanted (inr e) = rw e (or_true _)

    used : answer ≡ C.slice_index_or choice.handles 0 0 → FIRST_MODULE ≤ answer → IsUsedOnce (finmap.get old.modules answer) (finmap.get done.modules answer)
    used says le = by closure.found refl
      where
        by : (fs : List C.Found) → closure.found ≡ fs → IsUsedOnce (finmap.get old.modules answer) (finmap.get done.modules answer)
        by [] e = absurd (none choice.handles (good.many ∙ ap C.length e) says)
          where
            none : (hs : List ℕ) → C.length hs ≡ 0 → answer ≡ C.slice_index_or hs 0 0 → ⊥
            none [] e f = omega (arith, f, le, first)
            none (h ∷ hs) e f = omega (arith, e)
        by (f ∷ fs) e =
            let g : (g : Given) × Member g gs × (g.place ≡ 0 + 0) × (slice_get choice.handles 0 ≡ Some g.handle) = M.at_place 0 closure.found choice.handles choice.slots good.many good.slots.many 0 (rw e (omega arith)) in
            let same : answer ≡ g.0.handle = says ∙ M.index_place choice.handles 0 g.0.handle 0 g.3 in
            let place : g.0.place ≡ 0 + 0 = g.2 in
            rw (same, (free_handle answers are old is closure choice good facts heap filled g.0 g.1).2)
            (module_of g.0, M.put_here module_of 0 closure.found choice.handles choice.slots old.modules (handles_differ answers are old is closure choice good facts heap filled) g.0 g.1, ap (λ b. cond b 1 0) (C.eq-eqb g.0.place 0 (omega (arith, place))))

  module _ (le : FIRST_MODULE ≤ answer) where
    small : {A : Type 0} (refusal : LoadRefusal) → Says answer ≡ refused_with refusal → A
    small refusal e =
        let same : answer ≡ refusal_number refusal = cc in
        absurd (omega (arith, small_number refusal))

    fulfilled : (closure : C.Closure) → IsClosure answers (C.around old).named closure → C.Fulfils (C.GivesFrom Fills answers) old closure (Says answer) new → Does new
    fulfilled closure facts f = by f.failure f.filled f.answered f.after
      where
        by_fault : (place : ℕ) (fault : FetchFault) → Says answer ≡ C.refusal_of place fault → Does new
        by_fault place faults.NoRoom e = small refusals.NoRoom e
        by_fault place faults.Store e = cc
        by_fault place faults.Damaged e = small (cond (place == 0) refusals.BadFile refusals.BadReference) e

        by : (failure : Option C.Failure) → C.InTurn (C.GivesFrom Fills answers) (named old closure f.choice).handles.heap (fills old closure f.choice) failure f.heap → Says answer ≡ C.outcome_of failure (C.slice_index_or f.choice.handles 0 0)
            → new ≡ C.left failure (C.with_heap (named old closure f.choice) f.heap) (C.undone old f.choice f.heap) → Does new
        by (Some failure) filled says after = by_fault failure.place failure.fault says
        by None filled says after =
            let same : answer ≡ C.slice_index_or f.choice.handles 0 0 = cc in
            rw after (used closure facts f.choice f.is_choice f.heap filled same le, ready closure facts f.choice f.is_choice f.heap filled)

    again : (b : Bool) (handle : ℕ) (n : Named) → finmap.get old.modules handle ≡ Some n → ◌≡◌ {A = Answer × LoadingWorld} (Says answer, new) (C.used_again b old handle (Some n)) → Does new
    again b handle (C.BuiltIn name) there e =
        let says : Says answer ≡ Says handle = ap (λ x. x.0) e in
        let same : answer ≡ handle = cc in
        rw (ap (λ x. x.1) e) (rw (same, there) refl, λ a i slot m s none some its slot_at asked. cc)
    again b handle (Loaded m) there e = by (b && C.not m.tables.is_library) (C.nat_lt m.uses MOST_USES) e
      where
        more : Named
        more = Loaded (record m { uses = m.uses + 1 })

        by : (s t : Bool) → ◌≡◌ {A = Answer × LoadingWorld} (Says answer, new) (cond {A = Answer × LoadingWorld} s (refused_with refusals.LoadedTwice, old) (cond {A = Answer × LoadingWorld} t (Says handle, C.after_use old handle m) (refused_with refusals.NoRoom, old))) → Does new
        by true t e = small refusals.LoadedTwice (ap (λ x. x.0) e)
        by false false e = small refusals.NoRoom (ap (λ x. x.0) e)
        by false true e =
            let says : Says answer ≡ Says handle = ap (λ x. x.0) e in
            let same : answer ≡ handle = cc in
            rw (ap (λ x. x.1) e) (
              rw (same, there) (C.inserted_here old.modules handle more handle refl),
              λ a i slot n s none some its slot_at asked. elim (C.cases_eq a handle) [ inl d ↦ cc | inr d ↦ cc (C.inserted_other old.modules handle more a d) ],
            )

    loads : (b : Bool) (file : List ℕ) → LoadsFrom Fills answers b old file (Says answer) new → Does new
    loads b file f = elim (closure_loads answers old b file (Says answer) new f) [
      | inl f ↦ let few : answer < FIRST_MODULE = f.0 in absurd (omega (arith, few, le))
      | inr (inl f) ↦ again b f.0 f.1 f.2 f.3
      | inr (inr (closure, facts, f)) ↦ fulfilled closure facts f
    ]

    -- the answer that is printed
    printed : (b : Bool) (file : List ℕ) (a : Answer) → Word answer ≡ reply_of a → LoadsFrom Fills answers b old file a new → Does new
    printed b file (Says n) e f = let same : n ≡ answer = cc in loads b file (rw same at f)
    printed b file StoreFails e f = cc

    steps : (command : C.Command C.OfModules) (file : List ℕ) → (command ≡ C.LoadModule file) ⊎ (command ≡ C.LoadLibrary file) → C.ModuleStep (LoadsFrom Fills answers) old command (Word answer) new → Does new
    steps command file (inl e) step = let f = rw e at step in printed true file f.0 f.1 f.2
    steps command file (inr e) step = let f = rw e at step in printed false file f.0 f.1 f.2

pub load_law : (honest : Type 0) → LoadLaw honest
load_law honest format old new command file answer is which le step =
    steps (told _ format _ _ _) (λ name read h. h.0) old is _ (record new { failures = old.failures }) le _ file which step.step
