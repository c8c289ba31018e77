-- What becomes of an access that met a fault: what the kernel fetches is the object that the access asked for.
use Rattle.w16_kernel.proofs
use proofs.Common as C
use proofs.Common.{None, Option, Some, slice_get, ◌-◌, ◌/◌, IsSourceFor, Module, segment_among, told, Bool, FarAnswer, List, LoadingWorld, ap, arith}
use proofs.Common.{false, far_slot, length, needs_fetch, refl, subst, sym, true, ℕ, ◌<◌, ◌∙◌, ◌≡◌, ◌≤◌, is_owned, stays}
use proofs.Absent.{lacks, slot_is}
use Rattle.w16_loading.specs.{Owner.Owner.OfSegment, Owner.Owner.Script}
use Rattle.w16_resource.specs.Parts.{FetchesResource}
use Rattle.w16_model.specs.declared.FarFault.TheVariants.{NotPresent}
use Rattle.w16_loader.specs.{declared.table.SegmentOf.SegmentOf, declared.segment_fetch.SegmentSource.SegmentSource, Fetching.GivesSegment}
use Rattle.w16_loader.proofs.Fetches.{fetches}
use Rattle.w16_loading.proofs.Requests.{fetch_fills}
use Rattle.std.specs.FinMap as finmap
use Rattle.w16_kernel.specs.declared.call.Reply.TheVariants as code

-- Look-ups that find nothing, and a module.

pub none_so : {A : Type 0} (r : Option A) {P : Type 0} → r ≡ None → P → C.IfNone r P
none_so None e h = h
none_so (Some a) e h = tt

pub no_module : {m : Module} → ◌≡◌ {A = Option Module} None (Some m) → ⊥
no_module e = cc

-- the module of a segment is the one of its handle
pub source_for : {A : Type 0} {world : LoadingWorld} {slot handle number : ℕ} {n m : Module} {source : SegmentSource A}
    → C.IsSegmentOf world slot handle number n → C.module_at world.modules handle ≡ Some m → number ≡ source.number
    → C.IsSourceOf m number source.file.now source.values.now → m.tables ≡ C.tables_in source.module.now → IsSourceFor world slot source
source_for {slot = slot} {handle = handle} {number = number} {n = n} {m = m} {source = source} segment loaded same of tables =
    let is : n ≡ m = (let e = sym segment.loaded ∙ loaded in cc) in record {
      handle = handle;
      m = m;
      segment = record {
        loaded = loaded;
        has = subst (λ k. (0 < k) × (slice_get m.slots (k - 1) ≡ Some slot)) same
            (subst (λ (m : Module). (0 < number) × (slice_get m.slots (number - 1) ≡ Some slot)) is segment.has);
      };
      source_of = subst (λ n. C.IsSourceOf m n source.file.now source.values.now) same of;
      tables = tables;
    }

-- An object that is no resource is a module's segment or the script's.
module _ {world : LoadingWorld} (slot : ℕ) (is : C.IsLoadingWorld world) (none : finmap.get world.loads slot ≡ None) where
  owner_is : C.owner_of world slot ≡ segment_among (finmap.entries world.modules) slot
  owner_is = rw (none, C.owner_of)

  pub unowned : C.owner_in None ≡ segment_among (finmap.entries world.modules) slot → C.owned_at world.handles slot ≡ None
  unowned e = (C.owner_law world slot Script is).0 (owner_is ∙ sym e)

  pub segment_there : (place : SegmentOf) → C.owner_in (Some place) ≡ segment_among (finmap.entries world.modules) slot → (m : Module) × C.IsSegmentOf world slot place.handle place.number m
  segment_there place e = (C.owner_law world slot (OfSegment place.handle place.number) is).0 (owner_is ∙ sym e)

-- A fetch of an object that a module owns.
module _ {honest : Type 0} {old : LoadingWorld} (is : C.IsLoadingOver honest old) (name : ℕ) where
  -- of a resource
  pub resource_fetched : {fault : Option C.FetchFault} {new : LoadingWorld} → C.IsLater old.files old.failures new.files new.failures → FetchesResource honest old (name / 8) fault new
      → C.KernelFetch honest old (name / 8) fault new
  resource_fetched stays fetch = (stays, fetch_fills (told honest C.ne_format old.files old.failures _) old (name / 8) _ _ fetch)

  -- or of a segment
  module _ {slot : ℕ} (at : slot ≡ name / 8) (unloaded : finmap.get old.loads (name / 8) ≡ None) {A : Type 0} {source : SegmentSource A}
      (found : finmap.get old.loads slot ≡ None → IsSourceFor old slot source) where
    here : IsSourceFor old (name / 8) source
    here = subst (λ q. IsSourceFor old q source) at (found (ap (finmap.get old.loads) at ∙ unloaded))

    -- its number is one of its file's
    pub within : (0 < source.number) × (source.number ≤ length source.module.now.segments)
    within = (here.segment.has.0, turn _ (slice_get here.m.tables.segments (source.number - 1)) refl (C.of_segment old is.0 (name / 8) here.handle source.number here.m here.segment))
      where
        turn : (P : C.Segment → Type 0) (p : Option C.Segment) → slice_get here.m.tables.segments (source.number - 1) ≡ p → C.IsSomeAnd p P → source.number ≤ length source.module.now.segments
        turn P None e h = absurd h
        turn P (Some x) e h =
            let inside = C.slice_get_within here.m.tables.segments (source.number - 1) x e in
            let as_long = ap (λ (t : C.Tables). length t.segments) here.tables ∙ C.length-map source.module.now.segments C.segment_in in
            let some = here.segment.has.0 in
            omega (arith, inside, as_long, some)

    pub fetched : {fault : Option C.FetchFault} {next : C.Handles} {left : List (List ℕ × List ℕ)} {count : ℕ} → C.IsLater old.files old.failures left count
        → GivesSegment honest old.files source.file.now source.module.now source.number source.values.now old.failures count old.handles (name / 8) fault next
        → C.KernelFetch honest old (name / 8) fault (record old { handles = next; files = left; failures = count })
    fetched {next = next} stays given = resource_fetched stays (rw stays.same (fetches honest old (name / 8) source.number source.file.now source.module.now source.values.now within.1
        (record { sound = is.0; of_files = is.1; handle = here.handle; m = here.m; segment = here.segment; source = here.source_of; tables = here.tables }) old.failures _ _ next given))

-- An access that met an object without bytes.
module _ {honest : Type 0} {old : LoadingWorld} (is : C.IsLoadingOver honest old) {selector : ℕ} (absent : C.IsAbsent old.handles selector)
    (few : selector < 65536) {name : ℕ} (named : name ≡ C.offset_in (C.global_handle old.handles selector)) where
  selected : far_slot old.handles selector ≡ name / 8
  selected = slot_is old.handles is.0.handles selector absent few name named

  -- whether it is a module's
  pub needs : {b : Bool} → is_owned old.handles (name / 8) ≡ b → needs_fetch (FarAnswer.Fault NotPresent) old selector ≡ b
  needs e = ap (is_owned old.handles) selected ∙ e

  pub lacking : is_owned old.handles (name / 8) ≡ true → C.LacksBytes old.handles name
  lacking = lacks old.handles is.0.handles selector absent few name named

  pub refetched : is_owned old.handles (name / 8) ≡ true → {new : LoadingWorld} → C.KernelFetch honest old (name / 8) None new → C.Refetches honest old selector NotPresent (C.Ok tt) new
  refetched owned f = (needs owned, rw selected f)

  pub unfetched : is_owned old.handles (name / 8) ≡ true → (failed : C.FetchFault) {new : LoadingWorld} → C.KernelFetch honest old (name / 8) (Some failed) new
      → new.handles ≡ old.handles → C.Refetches honest old selector NotPresent (C.Err (code.Failed failed)) new
  unfetched owned failed f same = C.inr (needs owned, same, failed, refl, rw selected f)
