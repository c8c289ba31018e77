-- Steps over an honest store are steps over any, and the requests of each discard as few objects as they can.
use Rattle.w16_loading.proofs
use proofs.Common as C
use proofs.Common.{◌≡◌, ℕ, zero, suc, inl, inr, Bool, List, [], Option, Some, None, MatchResult, LoadRefusal, OrRefused, Ok, Err, Heap, FetchFault, Store, LoadingWorld, Fills, Closure, Found, begun, dll, meant, Refused, Meant, Read, There, New, Answer, Command, Reply, ◌⊎◌, true, false, named}
use proofs.{Fillings.one_heap, Cases.IsLoadable, Cases.option_as, Fewest.fill_fewest, Named.named_heap, ResourceWorlds.made_world, Answered.fulfils_as, Answered.turned}
use Rattle.w16_loading.specs.Answers.{Answers, ClosesFrom, Ending, FetchesFrom, GivesFrom, GivesRead, LoadsFileFrom, LoadsFrom, ReadsFile, StepOver, follow, told, StepFrom}
use Rattle.w16_loading.specs.Families.{AnyCommand}
use Rattle.w16_loading.specs.Fewest.{FillsFewest, RequestsFewest}

result_as : (E : LoadRefusal → Type 0) {X Y : Closure → Type 0} (r : OrRefused Closure) → ((c : Closure) → X c → Y c) → MatchResult r X E → MatchResult r Y E
result_as E (Ok c) go f = go c f
result_as E (Err refusal) go f = f

-- each answer of one is an answer of the other
record IsWithin (a b : Answers) : Type 0 where
  pub says : (name : List ℕ) (said : OrRefused C.Tables) → a.says name said → b.says name said
  pub sound : (name : List ℕ) (t : C.Tables) (sound : Bool) → a.sound name t sound → b.sound name t sound
  pub holds : (name : List ℕ) (read : C.ModuleFile) → a.holds name read → b.holds name read
  pub again : (held read : List ℕ) → a.again held read → b.again held read
  pub gives : (world : LoadingWorld) (slot : ℕ) (bytes : List ℕ) → a.gives world slot bytes → b.gives world slot bytes
  pub fails : (fault : FetchFault) → a.fails fault → b.fails fault

module _ (a b : Answers) (within : IsWithin a b) where
  reads_as : (x : C.Around) (found : List Found) (name : List ℕ) (r : C.Reading) → ReadsFile a x found name r → ReadsFile b x found name r
  reads_as x found name (Refused refusal) (inl says) = inl (within.says name (Err refusal) says)
  reads_as x found name (Refused refusal) (inr (t, says, none, inl h)) = inr (t, within.says name (Ok t) says, none, inl (within.sound name t false h.0, h.1))
  reads_as x found name (Refused refusal) (inr (t, says, none, inr h)) = inr (t, within.says name (Ok t) says, none, inr (within.sound name t true h.0, h.1, h.2))
  reads_as x found name (Meant referent) (t, says, e) = (t, within.says name (Ok t) says, e)
  reads_as x found name (Read read) (says, none, sound, held, few) = (within.says name (Ok read.tables) says, none, within.sound name read.tables true sound, within.holds name read held, few)

  closes_as : (x : C.Around) (n : ℕ) (closure : Closure) (outcome : OrRefused Closure) → ClosesFrom a x n closure outcome → ClosesFrom b x n closure outcome
  closes_as x zero closure outcome f = f
  closes_as x (suc n) closure outcome (place, name, rest, e, more) = (
    place,
    name,
    rest,
    e,
    option_as (meant x closure.found name) (λ f. (f.0, reads_as x closure.found (dll name) f.0 f.1, result_as (λ refusal. outcome ≡ Err refusal) (follow (record closure { pending = rest }) place name f.0) (λ c. closes_as x n c outcome) f.2))
        (λ referent e. closes_as x n (C.with_bound (record closure { pending = rest }) place referent) outcome) more,
  )

  -- a load, by how its objects get bytes
  loads_as : (E F : Ending) (old : LoadingWorld) → ((closure : Closure) (answer : Answer) (new : LoadingWorld) → C.Fulfils (GivesFrom E a) old closure answer new → C.Fulfils (GivesFrom F b) old closure answer new)
      → (load : Bool) (file : List ℕ) (answer : Answer) (new : LoadingWorld) → LoadsFrom E a load old file answer new → LoadsFrom F b load old file answer new
  loads_as E F old fulfil load file answer new (inl h) = inl (within.fails Store h.0, h.1, h.2)
  loads_as E F old fulfil load file answer new (inr (r, reads, h)) = inr (r, reads_as (C.around old) [] file r reads, turn r h)
    where
      Ends : Ending → Answers → Closure → Type 0
      Ends ends answers closure = C.LoadsNew (GivesFrom ends answers) old closure answer new ⊎ ((place : ℕ) × (fault : FetchFault) × answers.fails fault × (answer ≡ C.refusal_of place fault) × (new ≡ old))

      ended : (outcome : OrRefused Closure) → MatchResult outcome (Ends E a) (λ refusal. C.Refuses old refusal answer new) → MatchResult outcome (Ends F b) (λ refusal. C.Refuses old refusal answer new)
      ended (Ok closure) (inl (inl h)) = inl (inl h)
      ended (Ok closure) (inl (inr h)) = inl (inr (fulfil closure answer new h))
      ended (Ok closure) (inr (place, fault, may, says, same)) = inr (place, fault, within.fails fault may, says, same)
      ended (Err refusal) h = h

      turn : (r : C.Reading) → LoadsFileFrom E a load old file r answer new → LoadsFileFrom F b load old file r answer new
      turn (Refused refusal) h = h
      turn (Meant (There handle)) h = h
      turn (Meant (New place)) h = h
      turn (Read read) (count, outcome, closes, h) = (count, outcome, closes_as (C.around old) count (begun file read) outcome closes, ended outcome h)

-- Steps by such answers, whose requests end otherwise where heaps are so.
module _ (E F : Ending) (Is : Heap → Type 0) (ends : (old : Heap) (slot : ℕ) (bytes : List ℕ) (answered : Bool) (new : Heap) → Is old → E old slot bytes answered new → F old slot bytes answered new) (a b : Answers) (within : IsWithin a b) where
  gives_as : (Sized P Q : List ℕ → Type 0) → ((bytes : List ℕ) → P bytes → Q bytes) → (old : Heap) (slot : ℕ) (fault : Option FetchFault) (new : Heap) → Is old → GivesRead E a.fails Sized P old slot fault new → GivesRead F b.fails Sized Q old slot fault new
  gives_as Sized P Q read old slot None new is (bytes, sized, p, f) = (bytes, sized, read bytes p, ends old slot bytes true new is f)
  gives_as Sized P Q read old slot (Some C.NoRoom) new is (bytes, sized, f) = (bytes, sized, ends old slot bytes false new is f)
  gives_as Sized P Q read old slot (Some Store) new is g = (within.fails Store g.0, g.1)
  gives_as Sized P Q read old slot (Some C.Damaged) new is g = (within.fails C.Damaged g.0, g.1)

  fetch_as : (old : LoadingWorld) → Is old.handles.heap → (slot : ℕ) (fault : Option FetchFault) (new : LoadingWorld) → FetchesFrom E a old slot fault new → FetchesFrom F b old slot fault new
  fetch_as old is slot fault new f = record { given = gives_as _ (a.gives old slot) (b.gives old slot) (within.gives old slot) old.handles.heap slot fault new.handles.heap is f.given; rest = f.rest }

  module _ (next : (old : Heap) (slot : ℕ) (held : List ℕ) (fault : Option FetchFault) (new : Heap) → Is old → GivesFrom E a old slot held fault new → Is new) (old : LoadingWorld)
      (chosen : (closure : Closure) (choice : C.Choice) → C.IsChoice old closure.found choice → Is (named old closure choice).handles.heap) where
    load_as : (load : Bool) (file : List ℕ) (answer : Answer) (new : LoadingWorld) → LoadsFrom E a load old file answer new → LoadsFrom F b load old file answer new
    load_as = loads_as a b within E F old (λ closure answer new h. fulfils_as (GivesFrom E a) (GivesFrom F b) Is
        (λ old slot held fault new is f. (gives_as _ (a.again held) (b.again held) (within.again held) old slot fault new is f, next old slot held fault new is f)) old closure answer new h (chosen closure h.choice h.is_choice))

    step_as : (new : LoadingWorld) (command : AnyCommand) (reply : Reply) → Is old.handles.heap
        → ((slot handle place : ℕ) (r : C.Resource) → C.IsFreeSlot old.handles slot → IsLoadable old handle place r → C.load_of old handle place ≡ None → Is (C.with_resource old slot handle place r).handles.heap)
        → StepFrom E a old command reply new → StepFrom F b old command reply new
    step_as new command reply is made step = record {
      counted = step.counted;
      files = step.files;
      step = turned (FetchesFrom E a) (FetchesFrom F b) (LoadsFrom E a) (LoadsFrom F b) old (record new { failures = old.failures }) reply (fetch_as old is)
          (λ handle place slot r free at none. fetch_as (C.with_resource old slot handle place r) (made slot handle place r free at none) slot)
          (λ load file answer. load_as load file answer (record new { failures = old.failures })) command step.step;
    }

-- what is told where the store is honest is told where nothing is known of it
told_within : (honest : Type 0) (format : C.Format) (files : List (List ℕ × List ℕ)) (before after : ℕ) → IsWithin (told honest format files before after) (told ⊥ format files before after)
told_within honest format files before after = record {
  says = λ name said s. (s.0, λ no. absurd no);
  sound = λ name t sound s no. absurd no;
  holds = λ name read h. (h.0, h.1, λ no. absurd no);
  again = λ held read h no. absurd no;
  gives = λ world slot bytes h. (h.0, λ no. absurd no);
  fails = λ fault h. (h.0, h.1, λ no. absurd no);
}

itself : (a : Answers) → IsWithin a a
itself a = record { says = λ name said s. s; sound = λ name t sound s. s; holds = λ name read h. h; again = λ held read h. h; gives = λ world slot bytes h. h; fails = λ fault h. h }

pub any_step_law : (honest : Type 0) → C.AnyStepLaw honest
any_step_law honest format old new command reply = step_as _ _ (λ heap. Unit {0}) (λ old slot bytes answered new is f. f) _ _
    (told_within _ format _ _ _) (λ old slot held fault new is f. tt) old (λ closure choice is. tt) new _ _ tt (λ slot handle place r free at none. tt)

pub requests_fewest_law : (honest : Type 0) → C.RequestsFewestLaw honest
requests_fewest_law honest format old new command reply is =
    let a = told _ format _ _ _ in
    step_as _ _ _ (λ old slot bytes answered new is f. (f, fill_fewest old _ _ _ new is f)) a a (itself a) (one_heap a) old (λ closure choice good. named_heap old closure _ is.handles good) new _ _ is.handles.heap
    (λ slot handle place r free at none. (made_world old is slot free handle place r at.0 at.1 none).handles.heap)

-- A step, a fetch or a load whose requests discard as few objects as they can is one.
module _ (a : Answers) (old : LoadingWorld) where
  pub fetch_fills : (slot : ℕ) (fault : Option FetchFault) (new : LoadingWorld) → FetchesFrom FillsFewest a old slot fault new → FetchesFrom Fills a old slot fault new
  fetch_fills = fetch_as FillsFewest Fills (λ heap. Unit {0}) (λ old slot bytes answered new is f. f.0) a a (itself a) old tt

  pub load_fills : (load : Bool) (file : List ℕ) (answer : Answer) (new : LoadingWorld) → LoadsFrom FillsFewest a load old file answer new → LoadsFrom Fills a load old file answer new
  load_fills = load_as FillsFewest Fills (λ heap. Unit {0}) (λ old slot bytes answered new is f. f.0) a a (itself a) (λ old slot held fault new is f. tt) old (λ closure choice is. tt)

  pub step_fills : (new : LoadingWorld) (command : AnyCommand) (reply : Reply) → StepFrom FillsFewest a old command reply new → StepFrom Fills a old command reply new
  step_fills new command reply = step_as FillsFewest Fills (λ heap. Unit {0}) (λ old slot bytes answered new is f. f.0) a a (itself a) (λ old slot held fault new is f. tt) old (λ closure choice is. tt) new command reply tt (λ slot handle place r free at none. tt)

pub any_requests_fewest : (honest : Type 0) (format : C.Format) (old new : LoadingWorld) (command : AnyCommand) (reply : Reply) → C.IsLoadingWorld old → StepOver honest format old command reply new → RequestsFewest old command reply new
any_requests_fewest honest format old new command reply is step = (format, requests_fewest_law ⊥ format old new _ _ is (any_step_law _ format old new _ _ step))
