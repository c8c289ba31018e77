-- Fetches: an object that a module owns gets its bytes again; and the far accesses that ask for them.
use Rattle.std.specs.Prelude.{◌≡◌, ℕ, ◌-◌, ◌⊎◌, Bool, true, false, ◌&&◌, MatchBool, List, [], length, Option, Some, None, MatchOption, Ok, Err, option_map, slice_index_or}
use Rattle.w16_model.specs.{Handles.Handles, Far.FarAnswer, Far.far_slot}
use Rattle.w16_loading.specs.Modules.{LoadingWorld, Module, IsSegmentOf, IsResourceOf, is_owned}
use Rattle.w16_loading.specs.{declared.FetchFault.FetchFault, Replies.Reply, Replies.Reply.Failed, File.Format, File.ModuleFile, File.SegmentData, File.numbered}
use Rattle.w16_store.specs.Files.{file_of}
use Rattle.w16_model.specs.declared.FarFault.TheVariants as far
use Rattle.w16_model.specs.Far as far_access
use Rattle.w16_loading.specs.Replies as replies

-- What the file of a module says, and what it gives of a segment, under the values that were bound at load, and of a resource.
abbrev pub read_of : Format → LoadingWorld → Module → Option ModuleFile
read_of format world m = elim (file_of world.files m.file) [
  | None ↦ None
  | Some file ↦ elim (format.says file) [ Ok read ↦ Some read | Err _ ↦ None ]
]

abbrev pub segment_bytes : Format → LoadingWorld → Module → ℕ → Option (List ℕ)
segment_bytes format world m number = elim (read_of format world m) [
  | None ↦ None
  | Some read ↦ option_map (λ (s : SegmentData). s.image (slice_index_or m.values (number - 1) [])) (numbered read.segments number)
]

abbrev pub resource_bytes : Format → LoadingWorld → Module → ℕ → Option (List ℕ)
resource_bytes format world m place = elim (file_of world.files m.file) [
  | None ↦ None
  | Some file ↦ elim (format.says file) [ Ok _ ↦ format.contents file place | Err _ ↦ None ]
]

-- the bytes that an object of a module is given
abbrev pub IsImage : Format → LoadingWorld → ℕ → List ℕ → Type 0
IsImage format world slot bytes =
    ((handle number : ℕ) × (m : Module) × IsSegmentOf world slot handle number m × (segment_bytes format world m number ≡ Some bytes))
    ⊎ ((handle place : ℕ) × (m : Module) × IsResourceOf world slot handle place m × (resource_bytes format world m place ≡ Some bytes))

-- Over any store these bytes are given to a segment or a resource of a module: those of a segment are some data, relocated under the values that
-- were bound at load.
abbrev pub IsRead : Format → LoadingWorld → ℕ → List ℕ → Type 0
IsRead format world slot bytes =
    ((handle number : ℕ) × (m : Module) × IsSegmentOf world slot handle number m
    × (source table : List ℕ) × (format.relocated m.tables source table (slice_index_or m.values (number - 1) []) (length bytes) ≡ Some bytes))
    ⊎ ((handle place : ℕ) × (m : Module) × IsResourceOf world slot handle place m)

-- what a fetch of a slot's object is, over the store that it is made over
abbrev pub Fetching : Type 1
Fetching = LoadingWorld → ℕ → Option FetchFault → LoadingWorld → Type 0

-- Far access.

abbrev pub outcome_in : {A : Type 0} → LoadingWorld → A × Handles → A × LoadingWorld
outcome_in world outcome = (outcome.0, record world { handles = outcome.1 })

abbrev pub far_read : ℕ → ℕ → ℕ → LoadingWorld → FarAnswer × LoadingWorld
far_read selector offset n world = outcome_in world (far_access.far_read world.handles selector offset n)

abbrev pub far_write : ℕ → ℕ → List ℕ → LoadingWorld → FarAnswer × LoadingWorld
far_write selector offset slice world = outcome_in world (far_access.far_write world.handles selector offset slice)

abbrev pub is_not_present : FarAnswer → Bool
is_not_present (FarAnswer.Fault far.NotPresent) = true
is_not_present other = false

-- what is printed of an access
abbrev pub reply_of_far : FarAnswer → replies.Reply
reply_of_far (FarAnswer.Bytes bytes) = replies.Reply.Bytes bytes
reply_of_far FarAnswer.Done = replies.Reply.Done
reply_of_far (FarAnswer.Fault fault) = replies.Reply.Fault fault

abbrev pub gives : FarAnswer × LoadingWorld → Reply → LoadingWorld → Type 0
gives outcome reply new = (reply ≡ (reply_of_far outcome.0)) × (new ≡ outcome.1)

-- An access that would meet a module's object without bytes fetches it and is made again, in the world that the fetch left.
abbrev pub needs_fetch : FarAnswer → LoadingWorld → ℕ → Bool
needs_fetch answer old selector = is_not_present answer && is_owned old (far_slot old.handles selector)

abbrev pub Accesses : Fetching → (LoadingWorld → FarAnswer × LoadingWorld) → LoadingWorld → ℕ → Reply → LoadingWorld → Type 0
Accesses fetches access old selector reply new =
    MatchBool (needs_fetch (access old).0 old selector)
    ((fault : Option FetchFault) × (next : LoadingWorld) × fetches old (far_slot old.handles selector) fault next
    × MatchOption fault (gives (access next) reply new) (λ f. (reply ≡ Failed f) × (new ≡ next)))
    (gives (access old) reply new)
