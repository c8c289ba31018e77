-- The new modules of a load with the handles and slots that they get, before any has bytes.
use Rattle.w16_loading.specs
use Rattle.std.specs.Prelude.{◌≡◌, ◌≢◌, ℕ, ◌+◌, ◌==◌, ◌||◌, false, not, is_some, sum_by, if◌then◌else◌, List, [], ◌∷◌, length, map, filter, fold, flat_map, zip, All, AllPairs, Some, None, slice_index_or}
use Rattle.std.specs.List.{AllZip, range_with_len}
use Rattle.w16_model.specs.{Heap.is_fixed, Changes.with_object, declared.Attributes.Attributes, Handles.Handles, Handles.IsFreeSlot, Handles.owner_of, declared.TheConstants.FIRST_SLOT}
use specs.File.{Segment, SegmentData, Far, targets_of}
use specs.Modules.{LoadingWorld, Lookup, Module, Modules, IsFreeModule, value_of}
use specs.Closure.{Closure, Found, Referent}
use specs.Closure.Referent.{There, New}
use specs.{Fill.Filling, Modules.Named.Loaded}
use Rattle.std.specs.FinMap as finmap

-- what a load chooses: a handle for each new module, and a slot for each of its segments
pub record Choice : Type 0 where
  pub handles : List ℕ
  pub slots : List (List ℕ)

abbrev pub all_slots : Choice → List ℕ
all_slots choice = flat_map (λ s. s) choice.slots

-- slots that are free and different, one for each segment
pub record AreSlots (world : LoadingWorld) (found : List Found) (slots : List (List ℕ)) : Type 0 where
  pub many : AllZip (λ (f : Found) (s : List ℕ). length s ≡ length f.read.tables.segments) found slots
  pub free : All (IsFreeSlot world.handles) (flat_map (λ s. s) slots)
  pub apart : AllPairs ◌≢◌ (flat_map (λ s. s) slots)

-- The slots that no object has. There are slots for all segments exactly where these are as many.
abbrev pub free_slots : Handles → List ℕ
free_slots handles = filter (λ slot. not (is_some (owner_of handles.attributes slot))) (range_with_len FIRST_SLOT handles.slots)

abbrev pub segments_in : List Found → ℕ
segments_in found = sum_by (λ f. length f.read.tables.segments) found

-- and handles
pub record IsChoice (world : LoadingWorld) (found : List Found) (choice : Choice) : Type 0 where
  pub many : length choice.handles ≡ length found
  pub free : All (IsFreeModule world.modules) choice.handles
  pub apart : AllPairs ◌≢◌ choice.handles
  pub slots : AreSlots world found choice.slots

-- a new module with what it got
pub record Given : Type 0 where
  pub place : ℕ
  pub found : Found
  pub handle : ℕ
  pub slots : List ℕ

abbrev pub given_from : ℕ → List Found → List ℕ → List (List ℕ) → List Given
given_from place (f ∷ fs) (h ∷ hs) (s ∷ ss) = record { place = place; found = f; handle = h; slots = s } ∷ given_from (place + 1) fs hs ss
given_from place fs hs ss = []

abbrev pub given : Closure → Choice → List Given
given closure choice = given_from 0 closure.found choice.handles choice.slots

-- Modules.

abbrev pub handle_meant : List ℕ → Referent → ℕ
handle_meant handles (There handle) = handle
handle_meant handles (New place) = slice_index_or handles place 0

-- what the references of the module at a place mean
abbrev pub imports_at : Closure → Choice → ℕ → List ℕ
imports_at closure choice place = map (λ b. handle_meant choice.handles b.1) (filter (λ b. b.0 == place) closure.bound)

-- The module asked for begins with one explicit use, the others with none. Values are bound once all have names.
abbrev pub unbound : Closure → Choice → Given → Module
unbound closure choice g = record {
  file = g.found.file;
  tables = g.found.read.tables;
  uses = if g.place == 0 then 1 else 0;
  slots = g.slots;
  values = [];
  imports = imports_at closure choice g.place;
}

abbrev pub with_modules : (Given → Module) → List Given → Modules → Modules
with_modules module_of gs modules = fold (λ all g. finmap.insert all g.handle (Loaded (module_of g))) modules gs

abbrev pub bound_in : Lookup → Module → List SegmentData → Module
bound_in looked_up m segments = record m { values = map (λ s. map (value_of looked_up m) (targets_of s)) segments }

abbrev pub bound : LoadingWorld → Closure → Choice → Given → Module
bound old closure choice g = bound_in (finmap.get (with_modules (unbound closure choice) (given closure choice) old.modules)) (unbound closure choice g) g.found.read.segments

-- Objects.

-- the segments with their slots
abbrev pub segments_of : List Given → List (ℕ × Segment)
segments_of gs = flat_map (λ g. zip g.slots g.found.read.tables.segments) gs

-- a module owns it
abbrev pub attributes_of : Segment → Attributes
attributes_of s = record { shared = false; owned = Some (record { size = s.size; code = s.is_code }); slots = 1 }

abbrev pub with_segment : LoadingWorld → ℕ × Segment → LoadingWorld
with_segment world x = record world {
  handles = record world.handles {
    heap = with_object world.handles.heap x.0 (record { kind = x.1.kind; locks = 0; bytes = None });
    attributes = finmap.insert world.handles.attributes x.0 (attributes_of x.1);
  };
}

-- the world in which all have names, and every segment is an object without bytes
abbrev pub named : LoadingWorld → Closure → Choice → LoadingWorld
named old closure choice =
    let world = fold with_segment old (segments_of (given closure choice)) in
    record world { modules = with_modules (bound old closure choice) (given closure choice) old.modules }

-- What gets bytes at once: the fixed and the preload segments, by module and by number, each with its slot, its data and its values.
abbrev pub fills_from : ℕ → List ℕ → List Segment → List SegmentData → List (List Far) → List Filling
fills_from place (slot ∷ slots) (segment ∷ segments) (s ∷ more) (values ∷ others) =
    let rest = fills_from place slots segments more others in
    if is_fixed segment.kind || segment.is_preload then record { place = place; slot = slot; bytes = s.image values } ∷ rest else rest
fills_from place slots segments more others = []

abbrev pub fills_of : (Given → Module) → Given → List Filling
fills_of module_of g = fills_from g.place g.slots g.found.read.tables.segments g.found.read.segments (module_of g).values

abbrev pub fills : LoadingWorld → Closure → Choice → List Filling
fills old closure choice = flat_map (fills_of (bound old closure choice)) (given closure choice)
