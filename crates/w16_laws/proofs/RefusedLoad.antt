-- What a refused load leaves.
use Rattle.w16_loading.proofs.Common.{LoadingWorld, ◌≡◌, with_heap, sym, inl, refl, List, ℕ, ◌⊎◌, ◌≤◌, [], ◌∷◌, inr, Answer, GivesFrom, Fills, Option, InTurn, named, Some, None, ◌∙◌, arith, ap, ◌<◌, Says, false, Heap}
use Rattle.w16_loading.proofs.{RefusedLoad.undone_discards, Answered.loaded_by}
use Rattle.w16_loading.proofs.Common as C
use Rattle.std.specs.FinMap as finmap
use Rattle.w16_loading.specs.declared.FetchFault.TheVariants as faults
use Rattle.w16_loading.specs.declared.{FetchFault.FetchFault, TheConstants.FIRST_MODULE, TheConstants.MOST_USES}
use Rattle.w16_laws.specs.Loading.{EarlyRefusalLaw, RefusedLoadLaw}

-- what a refusal leaves
abbrev Leaves : LoadingWorld → LoadingWorld → Type 0
Leaves old new = C.OnlyDiscards old.handles.heap new.handles.heap × (new ≡ with_heap old new.handles.heap)

same_leaves : (old new : LoadingWorld) → C.IsLoadingWorld old → new ≡ old → Leaves old new
same_leaves old new is e = rw e (record { sound = is.handles.heap; objects = λ q. inl refl; rest = refl }, refl)

-- a load that is answered with a handle of its own isn't refused
first_handle : (old : LoadingWorld) (handles : List ℕ) → C.All (C.IsFreeModule old.modules) handles → (handles ≡ []) ⊎ (FIRST_MODULE ≤ C.slice_index_or handles 0 0)
first_handle old [] free = inl refl
first_handle old (h ∷ hs) free = inr (C.Each-from_All (C.IsFreeModule _) (h ∷ hs) free).0.0

nothing_given : (place : ℕ) (fs : List C.Found) (ss : List (List ℕ)) → C.given_from place fs [] ss ≡ []
nothing_given place [] ss = refl
nothing_given place (f ∷ fs) ss = refl

fulfilled : (answers : C.Answers) (old : LoadingWorld) → C.IsLoadingWorld old → (closure : C.Closure) (answer : Answer) (new : LoadingWorld) → C.Fulfils (GivesFrom Fills answers) old closure answer new → C.IsRefusal answer → Leaves old new
fulfilled answers old is closure answer new f refusal = turn f.failure f.filled f.answered f.after
  where
    turn : (failure : Option C.Failure) → InTurn (GivesFrom Fills answers) (named old closure f.choice).handles.heap (C.fills old closure f.choice) failure f.heap → answer ≡ C.outcome_of failure (C.slice_index_or f.choice.handles 0 0)
        → new ≡ C.left failure (with_heap (named old closure f.choice) f.heap) (C.undone old f.choice f.heap) → Leaves old new
    turn (Some failure) filled answered after = rw after (undone_discards answers old is closure f.choice f.is_choice (Some failure) f.heap filled, refl)
    turn None filled answered after = elim (first_handle old f.choice.handles f.is_choice.free) [
      | inl e ↦ same_leaves old new is (after ∙ empty e)
      | inr le ↦ let few = rw answered at refusal in absurd (omega (arith, le, few))
    ]
      where
        -- with no handle there is no new module
        none_given : f.choice.handles ≡ [] → C.given closure f.choice ≡ []
        none_given e = rw e (nothing_given 0 closure.found f.choice.slots)

        same_heap : f.choice.handles ≡ [] → f.heap ≡ old.handles.heap
        same_heap e = (rw (none_given e) at filled).1

        empty : f.choice.handles ≡ [] → with_heap (named old closure f.choice) f.heap ≡ old
        empty e = rw (same_heap e, none_given e)

-- a handle is no refusal
not_refused : (old : LoadingWorld) → C.IsLoadingWorld old → (handle : ℕ) (n : C.Named) → finmap.get old.modules handle ≡ Some n → handle < FIRST_MODULE → ⊥
not_refused old is handle n e few =
    let number = rw e at (is.numbers handle) in omega (arith, number.0)

module _ (old : LoadingWorld) (is : C.IsLoadingWorld old) where
  abbrev Refused : Answer → LoadingWorld → Type 0
  Refused answer new = C.IsRefusal answer → Leaves old new

  same : (answer : Answer) → Refused answer old
  same answer refusal = same_leaves old old is refl

  used : (handle : ℕ) (m : C.Module) → finmap.get old.modules handle ≡ Some (C.Loaded m) → m.uses < MOST_USES → Refused (Says handle) (C.after_use old handle m)
  used handle m e few refusal = absurd (not_refused old is handle (C.Loaded m) e refusal)

pub refused_load_law : (honest : Type 0) → RefusedLoadLaw honest
refused_load_law honest format before after b old new file answer is =
    let answers = C.told honest format _ before after in
    loaded_by answers old (Refused old is) (same old is) b file _ new (used old is) (λ closure facts. fulfilled answers old is _ _ new)

-- Early refusals.

-- a file that stays is never damaged
abbrev is_damaged : FetchFault → C.Bool
is_damaged faults.Damaged = C.true
is_damaged other = false

abbrev damaged_in : Option C.Failure → C.Bool
damaged_in None = false
damaged_in (Some f) = is_damaged f.fault

module _ (answers : C.Answers) (never : answers.fails faults.Damaged → ⊥) where
  never_damaged : (fault : FetchFault) (old : Heap) (slot : ℕ) (bytes : List ℕ) (new : Heap) → GivesFrom Fills answers old slot bytes (Some fault) new → is_damaged fault ≡ false
  never_damaged faults.NoRoom old slot bytes new f = refl
  never_damaged faults.Store old slot bytes new f = refl
  never_damaged faults.Damaged old slot bytes new f = absurd (never f.0)

  not_damaged : (old new : Heap) (xs : List C.Filling) (failure : Option C.Failure) → InTurn (GivesFrom Fills answers) old xs failure new → damaged_in failure ≡ false
  not_damaged old new [] failure f = ap damaged_in f.0
  not_damaged old new (x ∷ xs) failure (None, next, g, rest) = not_damaged next new xs failure rest
  not_damaged old new (x ∷ xs) failure (Some fault, next, g, rest) = ap damaged_in rest.0 ∙ never_damaged fault old x.slot x.bytes next g

module _ (old : LoadingWorld) where
  abbrev Early : Answer → LoadingWorld → Type 0
  Early answer new = (number : ℕ) → answer ≡ Says number → 0 < number → number < FIRST_MODULE → new ≡ old

  fulfilled_late : (answers : C.Answers) → (answers.fails faults.Damaged → ⊥) → (closure : C.Closure) (answer : Answer) (new : LoadingWorld) → C.Fulfils (GivesFrom Fills answers) old closure answer new → Early answer new
  fulfilled_late answers never closure answer new f number says some few = turn f.failure (sym says ∙ f.answered) f.filled
    where
      turn : (failure : Option C.Failure) → Says number ≡ C.outcome_of failure (C.slice_index_or f.choice.handles 0 0) → InTurn (GivesFrom Fills answers) (named old closure f.choice).handles.heap (C.fills old closure f.choice) failure f.heap → new ≡ old
      turn None e filled = let same : number ≡ C.slice_index_or f.choice.handles 0 0 = cc in elim (first_handle old f.choice.handles f.is_choice.free) [
        | inl none ↦ let zero : C.slice_index_or f.choice.handles 0 0 ≡ 0 = rw none in absurd (omega arith)
        | inr le ↦ absurd (omega arith)
      ]
      turn (Some failure) e filled = by failure.fault e (not_damaged answers never (named old closure f.choice).handles.heap f.heap (C.fills old closure f.choice) (Some failure) filled)
        where
          by : (fault : FetchFault) → Says number ≡ C.refusal_of failure.place fault → is_damaged fault ≡ false → new ≡ old
          by faults.NoRoom e out = let zero : number ≡ 0 = cc in absurd (omega arith)
          by faults.Store e out = cc
          by faults.Damaged e out = cc

pub early_refusal_law : (honest : Type 0) → EarlyRefusalLaw honest
early_refusal_law honest format before after b old new file number truly is f some few =
    let answers = C.told _ format _ _ _ in
    loaded_by answers old (Early old) (λ answer n e x y. refl) b file (Says _) new
    (λ handle m e less n same x y. absurd (not_refused old is _ _ e (small _ n same y)))
    (λ closure facts. fulfilled_late old answers (λ fails. let e = fails.2 truly in cc) closure _ new) f number refl some few
  where
    small : (handle n : ℕ) → Says handle ≡ Says n → n < FIRST_MODULE → handle < FIRST_MODULE
    small handle n e lt = let same : handle ≡ n = cc in omega arith
