-- A resource is read from the file of its module: where it is there, and what a fetch of it is in a world of its files.
use Rattle.w16_resource.proofs
use proofs.Common as C
use proofs.Common.{listed_resources, resource_in, IsFileOf, ne_format, label_in, Bool, IfSome, IsSomeAnd, List, LoadingWorld, Module, None, Option, Some, [], ap, arith}
use proofs.Common.{cond, false, inr, map, not, numbered, option_map, owned_at, position, refl, rounded_size, subst, suc, sym, unwrap_or}
use proofs.Common.{zero, ℕ, ◌&&◌, ◌+◌, ◌-◌, ◌∙◌, ◌∷◌, ◌≡◌, told, Resource, IsLoadingWorld, resource_at, Entry, IsSourceAt, is_long}
use proofs.Given.{GivesSource, IsSourceOf, some_bytes}
use Rattle.w16_loading.specs.Modules.{IsResourceOf}
use Rattle.w16_loader.proofs.Fetches.{owned_fetch}
use Rattle.std.specs.FinMap as finmap
use Rattle.w16_loading.specs.File as file
use Rattle.w16_ne.specs.Modules as ne
use Rattle.w16_loading.specs.Modules as loading
use Rattle.w16_ne.specs.Resources as tables

-- places in a table as a load takes it
place_in : (types : List tables.Typed) (place : ℕ) → numbered (map resource_in (listed_resources types)) place ≡ option_map resource_in (ne.resource_at types place)
place_in types zero = refl
place_in types (suc i) =
    let some : C.nat_eq (suc i) 0 ≡ false = grind arith in
    let e : suc i - 1 ≡ i = omega arith in
    ap (λ b. cond b None (C.slice_get (map resource_in (listed_resources types)) (suc i - 1))) some ∙ ap (C.slice_get (map resource_in (listed_resources types))) e
    ∙ C.slice_get-map resource_in (listed_resources types) i

abbrev pub resource_of : Option Module → ℕ → Option Resource
resource_of p place = elim p as (λ _. Option Resource) [ None ↦ None | Some m ↦ numbered m.tables.resources place ]

pub in_tables : (m : Module) (t : ne.Tables) (place : ℕ) → m.tables ≡ C.tables_in t → resource_of (Some m) place ≡ option_map resource_in (ne.resource_at t.resources place)
in_tables m t place same = ap (λ u. numbered u.resources place) same ∙ place_in t.resources place

pub source_resource : (world : LoadingWorld) (handle place : ℕ) (name : List ℕ) (entry : Entry)
    → (s : IsSourceAt world.modules handle place name entry) → resource_at world handle place ≡ Some (resource_in (s.kind, entry))
source_resource world handle place name entry s = ap (λ p. resource_of p place) s.loaded ∙ in_tables s.m s.t place s.tables ∙ ap (option_map resource_in) s.there

-- the file of its module
pub file_there : (world : LoadingWorld) → C.IsOfFiles ne_format world
    → (handle place : ℕ) (name : List ℕ) (entry : Entry) (s : IsSourceAt world.modules handle place name entry) → (file : List ℕ) × IsFileOf world s.m file s.t
file_there world of handle place name entry s = C.stored_law world handle s.m s.t of s.loaded s.tables

-- In each world the resource of a load is there.
module _ (world : LoadingWorld) (slot : ℕ) (load : loading.Load) (has : finmap.get world.loads slot ≡ Some load) where
  abbrev Is : Resource → Type 0
  Is r = C.IsObjectOf world slot r.kind (rounded_size r.length_in) false

  its_resource : IsLoadingWorld world → IsSomeAnd (resource_at world load.handle load.place) Is
  its_resource is = (subst (λ p. IfSome p (C.IsLoad world slot)) has (is.loads slot)).resource

  pub there : IsLoadingWorld world → resource_at world load.handle load.place ≡ None → ⊥
  there is none = subst (λ p. IsSomeAnd p Is) none (its_resource is)

  module _ (name : List ℕ) (entry : Entry) (s : IsSourceAt world.modules load.handle load.place name entry) where
    -- the object is of its size
    pub sized : IsLoadingWorld world → owned_at world.handles slot ≡ Some (record { size = rounded_size entry.len; code = false })
    sized is = (subst (λ p. IsSomeAnd p Is) (source_resource world load.handle load.place name entry s) (its_resource is)).owned

    -- and it is short
    pub short : IsLoadingWorld world → is_long entry.len ≡ false
    short is = subst (λ p. IfSome p (λ r. C.is_too_long r ≡ false)) (source_resource world load.handle load.place name entry s) (subst (λ p. IfSome p (C.IsLoad world slot)) has (is.loads slot)).short

-- What gives a resource's object the bytes of its file is a fetch.
module _ {honest : Type 0} (world : LoadingWorld) (is : C.IsLoadingOver honest world) (slot : ℕ) (load : loading.Load) (has : finmap.get world.loads slot ≡ Some load)
    (name : List ℕ) (entry : Entry) (s : IsSourceAt world.modules load.handle load.place name entry) where
  module _ (h : honest) where
    of : (bytes : List ℕ) × IsFileOf world s.m bytes s.t
    of = file_there world (is.1 h) load.handle load.place name entry s

    known : IsSourceOf honest world name slot entry
    known =
        let few = short world slot load has name entry s is.0 in record {
          truly = h;
          file = of.0;
          stored = ap (C.file_of world.files) (sym s.named) ∙ of.1.stored;
          short = few;
          inside = s.inside of.0 of.1.tables (some_bytes entry.len few);
          sized = sized world slot load has name entry s is.0;
        }

  pub fetches : (later : ℕ) (fault : Option C.FetchFault) (new : C.Handles) → GivesSource honest world name entry later slot fault new
      → C.FetchesFrom C.FillsFewest (told honest ne_format world.files world.failures later) world slot fault (C.with_handles world new)
  unfolding known
  fetches later fault new f = owned_fetch honest (IsSourceOf honest world name slot entry) known _ world slot (λ bytes sized read. (
    inr (load.handle, load.place, s.m, here),
    λ h. subst (C.IsImage ne_format world slot) (sym (read (known h)))
        (inr (load.handle, load.place, s.m, here, C.resource_given world s.m (of h).0 s.t load.place (s.kind, entry) (of h).1 s.there)),
  )) world.failures later fault new f
    where
      here : IsResourceOf world slot load.handle load.place s.m
      here = record { loaded = s.loaded; loads = load.loads; has = has }

-- The place of a resource by its type and name.
label_same : (a b : tables.Label) → file.is_label (label_in a) (label_in b) ≡ tables.is_label a b
label_same (tables.Label.Number m) (tables.Label.Number n) = refl
label_same (tables.Label.Number m) (tables.Label.Text t) = refl
label_same (tables.Label.Text s) (tables.Label.Number n) = refl
label_same (tables.Label.Text s) (tables.Label.Text t) = refl

module _ (id kind : tables.Label) where
  abbrev in_world_is : Resource → Bool
  in_world_is r = file.is_label r.label (label_in id) && file.is_label r.kind_of (label_in kind)

  abbrev in_file_is : tables.Label × Entry → Bool
  in_file_is r = tables.is_label r.1.id id && tables.is_label r.0 kind

  first_same : (rs : List (tables.Label × Entry)) → C.prefix_len (λ r. not (in_world_is r)) (map resource_in rs) ≡ C.prefix_len (λ r. not (in_file_is r)) rs
  first_same [] = refl
  first_same (r ∷ rs) = λ i. cond (not (label_same r.1.id id i && label_same r.0 kind i)) (1 + first_same rs i) 0

  position_same : (rs : List (tables.Label × Entry)) → position in_world_is (map resource_in rs) ≡ position in_file_is rs
  position_same rs = λ i. cond (C.nat_lt (first_same rs i) (C.length-map rs resource_in i)) (Some (first_same rs i)) None

  pub place_found : (m : Module) (t : ne.Tables) → C.tables_in t ≡ m.tables → (p : Option Module) → Some m ≡ p
      → unwrap_or (option_map (λ i. i + 1) (position in_file_is (listed_resources t.resources))) 0
      ≡ elim p [ None ↦ 0 | Some n ↦ unwrap_or (option_map (λ i. i + 1) (position in_world_is n.tables.resources)) 0 ]
  place_found m t same p e = ap (λ q. unwrap_or (option_map (λ i. i + 1) q) 0) (sym (position_same (listed_resources t.resources)))
      ∙ ap (λ (u : file.Tables). unwrap_or (option_map (λ i. i + 1) (position in_world_is u.resources)) 0) same
      ∙ ap (λ (p : Option Module). elim p as (λ _. ℕ) [ None ↦ 0 | Some n ↦ unwrap_or (option_map (λ i. i + 1) (position in_world_is n.tables.resources)) 0 ]) e
