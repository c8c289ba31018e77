-- Fetches that a far access asks for.
use Rattle.std.specs.Prelude.{◌≡◌, ℕ, ◌⊎◌, true, false, Option, Some, None, Result, Ok, Err}
use Rattle.w16_model.specs.{declared.FarFault.FarFault, Far.far_slot, Handles.Handles, Handles.Part, Handles.part_of_selector, Heap.bytes_at}
use Rattle.w16_store.specs.Later.{IsLater}
use Rattle.w16_loading.specs.{declared.FetchFault.FetchFault, Law.FetchesOver, Fetch.needs_fetch, Modules.IsSegmentOf, Modules.LoadingWorld, Modules.Module, Replies.Reply.Failed, Replies.Reply.Fault}
use Rattle.w16_format.specs.{Ne.ne_format, Tables.tables_in}
use Rattle.w16_loader.specs.{declared.segment_fetch.SegmentSource.SegmentSource, Fetching.IsSourceOf}
use Rattle.w16_kernel.specs.Runs.{reply_of}
use Rattle.w16_model.specs.Far as far
use Rattle.w16_kernel.specs.declared.call.Reply as code

-- a selector leads to an object without bytes
pub record IsAbsent (handles : Handles) (selector : ℕ) : Type 0 where
  pub place : Part
  pub named : part_of_selector handles selector ≡ Some place
  pub without_bytes : bytes_at handles.heap place.slot ≡ None

-- a fetch over a store
abbrev pub KernelFetch : Type 0 → LoadingWorld → ℕ → Option FetchFault → LoadingWorld → Type 0
KernelFetch honest old slot fault new = IsLater old.files old.failures new.files new.failures
    × FetchesOver honest ne_format old.failures new.failures old slot fault (record new { failures = old.failures })

-- What becomes of an access that met a fault. The object is fetched, and the access is to be made again; or it couldn't be fetched, or none had
-- to be, and that is the reply.
abbrev pub Refetches : Type 0 → LoadingWorld → ℕ → FarFault → Result (Unit {0}) code.Reply → LoadingWorld → Type 0
Refetches honest old selector fault (Ok again) new = (needs_fetch (far.FarAnswer.Fault fault) old selector ≡ true) × KernelFetch honest old (far_slot old.handles selector) None new
Refetches honest old selector fault (Err reply) new =
    ((needs_fetch (far.FarAnswer.Fault fault) old selector ≡ false) × (reply_of reply ≡ Fault fault) × (new ≡ old))
    ⊎ ((needs_fetch (far.FarAnswer.Fault fault) old selector ≡ true) × (new.handles ≡ old.handles) × (failed : FetchFault) × (reply_of reply ≡ Failed failed)
    × KernelFetch honest old (far_slot old.handles selector) (Some failed) new)

-- The bytes of a slot's object come from this segment of a module that is loaded.
pub record IsSourceFor {A : Type 0} (world : LoadingWorld) (slot : ℕ) (source : SegmentSource A) : Type 0 where
  pub handle : ℕ
  pub m : Module
  pub segment : IsSegmentOf world slot handle source.number m
  pub source_of : IsSourceOf m source.number source.file.now source.values.now
  pub tables : m.tables ≡ tables_in source.module.now
