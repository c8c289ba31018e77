-- Steps by answers: what they are by other answers, and what a load leaves, whatever is answered.
use Rattle.w16_loading.proofs
use proofs.Common as C
use proofs.Common.{◌≡◌, ℕ, zero, suc, ◌<◌, inl, inr, ◌⊎◌, Bool, true, false, cond, ◌==◌, List, [], ◌∷◌, length, Option, Some, None, MatchResult, Ok, Err, refl, sym, ap, ◌∙◌, subst, Heap, FIRST_MODULE, FetchFault, Resource, LoadingWorld, Load, LoadRefusal, OrRefused, refusal_number, refused_with}
use proofs.Common.{Named, Reply, Fills, Closure, Reading, around, begun, dll, with_bound, meant, Refused, Meant, Read, There, New, named, fills, Answer, Fulfils, used_again, load_of, OfFar, IsRefusal, Loaded, Module, MOST_USES, Says, after_use, not}
use Rattle.w16_model.specs.Commands.{Command}
use proofs.Common.{◌&&◌}
use proofs.ClosureFacts.{IsClosure, began, bound_more, found_more}
use proofs.Cases.{IsLoadable, bool_as, option_as}
use proofs.{Importers.named_there, Fillings.in_turn_so}
use Rattle.std.specs.List.{AllByRecursion as Each}
use Rattle.w16_loading.specs.Families.{access_of}
use Rattle.w16_loading.specs.Answers.{Answers, ClosesFrom, GivesFrom, LoadsFileFrom, LoadsFrom, ReadsFile, follow}
use Rattle.std.specs.FinMap as finmap
use Rattle.w16_loading.specs.declared.FetchFault.TheVariants as faults
use Rattle.w16_loading.specs.declared.LoadRefusal.TheVariants as refusals
use Rattle.w16_loading.specs.Families.AnyCommand.{any}

-- A family's step by some fetches and loads is one by others, where these are those.

module _ (F G : C.Fetching) (L M : C.Loading) (old new : LoadingWorld) (reply : Reply) (fetch : (slot : ℕ) (fault : Option FetchFault) (next : LoadingWorld) → F old slot fault next → G old slot fault next) where
  accesses : (access : LoadingWorld → C.FarAnswer × LoadingWorld) (selector : ℕ) → C.Accesses F access old selector reply new → C.Accesses G access old selector reply new
  accesses access selector = bool_as (C.needs_fetch (access old).0 old selector) (λ e h. (h.0, h.1, fetch (C.far_slot old.handles selector) h.0 h.1 h.2, h.3)) (λ e h. h)

  locks : (handle : ℕ) → C.LocksResource F old handle reply new → C.LocksResource G old handle reply new
  locks handle = option_as (C.slot_of_resource old handle) (λ f. f) (λ x e. option_as (C.bytes_at old.handles.heap x.0) (λ f. (f.0, f.1, fetch x.0 f.0 f.1 f.2, f.3)) (λ bytes some f. f))

  module _ (made : (handle place slot : ℕ) (r : Resource) → C.IsFreeSlot old.handles slot → IsLoadable old handle place r → load_of old handle place ≡ None → (fault : Option FetchFault) (next : LoadingWorld)
      → F (C.with_resource old slot handle place r) slot fault next → G (C.with_resource old slot handle place r) slot fault next) (load : (b : Bool) (file : List ℕ) (answer : Answer) → L b old file answer new → M b old file answer new) where
    makes : (handle place : ℕ) → C.LoadsResource F old handle place reply new → C.LoadsResource G old handle place reply new
    makes handle place = option_as (C.resource_at old handle place) (λ f. f) (λ r at. bool_as (C.is_too_long r) (λ long f. f) (λ short f. by_load r (at, short) (load_of old handle place) refl f))
      where
        Made : C.Fetching → Resource → Option (ℕ × Load) → Type 0
        Made fetches r p = C.MatchOption p ((((slot : ℕ) → C.IsFreeSlot old.handles slot → ⊥) × C.AnswersNone old reply new) ⊎ C.LoadsNewResource fetches old handle place r reply new) (λ x. (reply, new) ≡ C.loaded_again old r x)

        by_load : (r : Resource) → IsLoadable old handle place r → (p : Option (ℕ × Load)) → load_of old handle place ≡ p → Made F r p → Made G r p
        by_load r at None e (inl f) = inl f
        by_load r at None e (inr f) = inr (record { slot = f.slot; free = f.free; fault = f.fault; next = f.next; fetched = made handle place f.slot r f.free at e f.fault f.next f.fetched; outcome = f.outcome })
        by_load r at (Some x) e f = f

    pub turned : (command : C.AnyCommand) → C.FamilyStep F L old command reply new → C.FamilyStep G M old command reply new
    turned (any OfFar command) f = accesses (access_of command) (C.selector_in (C.pointer_in command)) f
    turned (any _ (Command.LoadModule file)) f = (f.0, f.1, load true file f.0 f.2)
    turned (any _ (Command.LoadLibrary file)) f = (f.0, f.1, load false file f.0 f.2)
    turned (any _ (Command.LoadResource handle place)) f = makes handle place f
    turned (any _ (Command.LockResource handle)) f = locks handle f
    turned other f = f

-- One way to give bytes as another, in a load.
pub fulfils_as : (f g : C.Giving) (Is : Heap → Type 0) → ((old : Heap) (slot : ℕ) (bytes : List ℕ) (fault : Option FetchFault) (new : Heap) → Is old → f old slot bytes fault new → g old slot bytes fault new × Is new)
    → (old : LoadingWorld) (closure : Closure) (answer : Answer) (new : LoadingWorld) → (h : Fulfils f old closure answer new) → Is (named old closure h.choice).handles.heap → Fulfils g old closure answer new
fulfils_as f g Is turns old closure answer new h is = record {
  choice = h.choice;
  is_choice = h.is_choice;
  failure = h.failure;
  heap = h.heap;
  filled = in_turn_so f g Is turns (named old closure h.choice).handles.heap h.heap (fills old closure _) h.failure is h.filled;
  answered = h.answered;
  after = h.after;
}

-- Whatever is answered.

-- what is held of a module is a file
abbrev pub HoldFiles : Answers → Type 0
HoldFiles answers = (name : List ℕ) (read : C.ModuleFile) → answers.holds name read → C.IsModuleFile read

-- a refusal answers a number that is none of a handle
is_small : (refusal : LoadRefusal) → C.nat_lt (refusal_number refusal) FIRST_MODULE ≡ true
is_small refusals.NoRoom = refl
is_small refusals.NoFile = refl
is_small refusals.BadFile = refl
is_small refusals.ForOs2 = refl
is_small refusals.ForDos4 = refl
is_small refusals.ForOtherSystem = refl
is_small refusals.LoadedTwice = refl
is_small refusals.BadReference = refl

pub small_number : (refusal : LoadRefusal) → refusal_number refusal < FIRST_MODULE
small_number refusal = C.ltb-true _ _ (is_small _)

small_refusal : (place : ℕ) (fault : FetchFault) → IsRefusal (C.refusal_of place fault)
small_refusal place faults.Store = tt
small_refusal place faults.NoRoom = small_number refusals.NoRoom
small_refusal place faults.Damaged = small_number _

-- A load is refused in the same world; or of a module that is there; or of new modules, as they were told.
abbrev pub LoadsOf : Answers → C.Loading
LoadsOf answers b old file answer new =
    (IsRefusal answer × (new ≡ old))
    ⊎ ((handle : ℕ) × (n : Named) × (finmap.get old.modules handle ≡ Some n) × ((answer, new) ≡ used_again b old handle (Some n)))
    ⊎ ((closure : Closure) × IsClosure answers (around old).named closure × Fulfils (GivesFrom Fills answers) old closure answer new)

module _ (answers : Answers) (old : LoadingWorld) where
  abbrev IsEnd : OrRefused Closure → Type 0
  IsEnd outcome = C.IfOk outcome (IsClosure answers (around old).named)

  closed : (n : ℕ) (closure : Closure) (outcome : OrRefused Closure) → IsClosure answers (around old).named closure → ClosesFrom answers (around old) n closure outcome → IsEnd outcome
  closed zero closure outcome h f = subst IsEnd (sym f.1) h
  closed (suc n) closure outcome h (place, name, rest, e, more) = by_name (λ c k d. closed n c outcome k d) (meant (around old) closure.found name) more
    where
      here : Closure
      here = record closure { pending = rest }

      few : Each (λ (y : ℕ × List ℕ). y.0 < length closure.found) ((place, name) ∷ rest)
      few = subst (Each (λ (y : ℕ × List ℕ). y.0 < length closure.found)) e h.pending

      is : IsClosure answers (around old).named here
      is = record { held = h.held; new = h.new; apart = h.apart; pending = few.1; bound = h.bound; asked = h.asked }

      Goes : Type 0
      Goes = (c : Closure) → IsClosure answers (around old).named c → ClosesFrom answers (around old) n c outcome → IsEnd outcome

      by_meant : Goes → (referent : C.Referent) → ClosesFrom answers (around old) n (with_bound here place referent) outcome → IsEnd outcome
      by_meant go referent = go (with_bound here place referent) (bound_more answers (around old) here place referent few.0 is)

      by_reading : Goes → (r : Reading) → ReadsFile answers (around old) closure.found (dll name) r
          → MatchResult (follow here place name r) (λ c. ClosesFrom answers (around old) n c outcome) (λ refusal. outcome ≡ Err refusal) → IsEnd outcome
      by_reading go (Refused refusal) reads f = subst IsEnd (sym f) tt
      by_reading go (Meant referent) reads f = by_meant go referent f
      by_reading go (Read read) (says, none, sound, held, free) f = go (with_bound (C.with_found here (dll name) read) place (New (length closure.found))) (found_more answers (around old) here place (dll name) read few.0 is held none) f

      by_name : Goes → (p : Option C.Referent) → C.MatchOption p ((r : Reading) × ReadsFile answers (around old) closure.found (dll name) r
          × MatchResult (follow here place name r) (λ c. ClosesFrom answers (around old) n c outcome) (λ refusal. outcome ≡ Err refusal))
          (λ referent. ClosesFrom answers (around old) n (with_bound here place referent) outcome) → IsEnd outcome
      by_name go None (r, reads, f) = by_reading go r reads f
      by_name go (Some referent) f = by_meant go referent f

  pub closure_loads : (b : Bool) (file : List ℕ) (answer : Answer) (new : LoadingWorld) → LoadsFrom Fills answers b old file answer new → LoadsOf answers b old file answer new
  closure_loads b file answer new (inl f) = inl (subst IsRefusal (sym f.1) tt, f.2)
  closure_loads b file answer new (inr (r, reads, f)) = turn r reads f
    where
      refused : (refusal : LoadRefusal) → C.Refuses old refusal answer new → LoadsOf answers b old file answer new
      refused refusal f = inl (subst IsRefusal (sym f.0) (small_number refusal), f.1)

      turn : (r : Reading) → ReadsFile answers (around old) [] file r → LoadsFileFrom Fills answers b old file r answer new → LoadsOf answers b old file answer new
      turn (Refused refusal) e f = refused refusal f
      turn (Meant (There handle)) (t, says, e) f = by_name (C.handle_named old.modules t.name) refl e
        where
          by_name : (p : Option ℕ) → C.handle_named old.modules t.name ≡ p → C.option_or (C.option_map There p) None ≡ Some (There handle) → LoadsOf answers b old file answer new
          by_name None g e = cc
          by_name (Some k) g e =
              let same : k ≡ handle = cc in
              let n = named_there old.modules t.name handle (g ∙ ap Some same) in
              inr (inl (handle, n.0, n.1, f ∙ ap (used_again b old handle) n.1))
      turn (Meant (New place)) e f = absurd f
      turn (Read read) (says, none, sound, held, few) (count, outcome, closes, f) = ended outcome (closed count (begun file read) outcome (began answers (around old) file read held none) closes) f
        where
          ended : (outcome : OrRefused Closure) → IsEnd outcome
              → MatchResult outcome (λ closure. C.LoadsNew (GivesFrom Fills answers) old closure answer new ⊎ ((place : ℕ) × (fault : FetchFault) × answers.fails fault × (answer ≡ C.refusal_of place fault) × (new ≡ old))) (λ refusal. C.Refuses old refusal answer new)
              → LoadsOf answers b old file answer new
          ended (Ok closure) h (inl (inl f)) = refused refusals.NoRoom f.1
          ended (Ok closure) h (inl (inr f)) = inr (inr (closure, h, f))
          ended (Ok closure) h (inr (place, fault, may, says, same)) = inl (subst IsRefusal (sym says) (small_refusal place fault), same)
          ended (Err refusal) h f = refused refusal f

  -- What holds of the world before, and of what a load of a module that is there and one of new modules leave, holds of what any load leaves.
  module _ (P : Answer → LoadingWorld → Type 0) (good : (answer : Answer) → P answer old) where
    -- a load of a module that is there
    again : (b : Bool) (handle : ℕ) (p : Option Named) → ((m : Module) → p ≡ Some (Loaded m) → m.uses < MOST_USES → P (Says handle) (after_use old handle m)) → (answer : Answer) (new : LoadingWorld) → (answer, new) ≡ used_again b old handle p → P answer new
    again b handle p more answer new e = subst (λ (x : Answer × LoadingWorld). P x.0 x.1) (sym e) (by p more)
      where
        by : (p : Option Named) → ((m : Module) → p ≡ Some (Loaded m) → m.uses < MOST_USES → P (Says handle) (after_use old handle m)) → P (used_again b old handle p).0 (used_again b old handle p).1
        by None more = good (Says handle)
        by (Some (C.BuiltIn name)) more = good (Says handle)
        by (Some (Loaded m)) more = turn (b && not m.tables.is_library) (C.nat_lt m.uses MOST_USES) refl
          where
            outcome : Bool → Bool → Answer × LoadingWorld
            outcome s t = cond {A = Answer × LoadingWorld} s (refused_with refusals.LoadedTwice, old) (cond t (Says handle, after_use old handle m) (refused_with refusals.NoRoom, old))

            turn : (s t : Bool) → C.nat_lt m.uses MOST_USES ≡ t → P (outcome s t).0 (outcome s t).1
            turn true t f = good (refused_with refusals.LoadedTwice)
            turn false true f = more m refl (C.ltb-true m.uses MOST_USES f)
            turn false false f = good (refused_with refusals.NoRoom)

    pub loaded_by : (b : Bool) (file : List ℕ) (answer : Answer) (new : LoadingWorld) → ((handle : ℕ) (m : Module) → finmap.get old.modules handle ≡ Some (Loaded m) → m.uses < MOST_USES → P (Says handle) (after_use old handle m))
        → ((closure : Closure) → IsClosure answers (around old).named closure → Fulfils (GivesFrom Fills answers) old closure answer new → P answer new) → LoadsFrom Fills answers b old file answer new → P answer new
    loaded_by b file answer new more fulfil f = elim (closure_loads b file answer new f) [
      | inl h ↦ subst (P answer) (sym h.1) (good answer)
      | inr (inl h) ↦ again b h.0 (Some h.1) (λ m e. more h.0 m (h.2 ∙ e)) answer new h.3
      | inr (inr (closure, facts, h)) ↦ fulfil closure facts h
    ]
