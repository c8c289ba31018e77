-- Steps by their cases, and one way to make each of them as another.
use Rattle.w16_loading.proofs.Common as C
use Rattle.w16_loading.proofs.Common.{◌≡◌, ℕ, inl, inr, ◌⊎◌, Bool, true, false, Option, Some, None, MatchOption, MatchBool, refl, LoadingWorld, Load, Reply, Dword, gives, load_of}

pub by_option : {A X : Type 0} {Y : A → Type 0} (p : Option A) → MatchOption p X Y → ((p ≡ None) × X) ⊎ ((a : A) × (p ≡ Some a) × Y a)
by_option None x = inl (refl, x)
by_option (Some a) y = inr (a, refl, y)

pub by_bool : {X Y : Type 0} (b : Bool) → MatchBool b X Y → ((b ≡ true) × X) ⊎ ((b ≡ false) × Y)
by_bool true x = inl (refl, x)
by_bool false y = inr (refl, y)

pub option_as : {A X Z : Type 0} {Y W : A → Type 0} (p : Option A) → (X → Z) → ((a : A) → p ≡ Some a → Y a → W a) → MatchOption p X Y → MatchOption p Z W
option_as None x y h = x h
option_as (Some a) x y h = y a refl h

pub bool_as : {X Z Y W : Type 0} (b : Bool) → (b ≡ true → X → Z) → (b ≡ false → Y → W) → MatchBool b X Y → MatchBool b Z W
bool_as true x y h = x refl h
bool_as false x y h = y refl h

-- a resource of a place that may be loaded
abbrev pub IsLoadable : LoadingWorld → ℕ → ℕ → C.Resource → Type 0
IsLoadable world handle place r = (C.resource_at world handle place ≡ Some r) × (C.is_too_long r ≡ false)

module _ (fetches : C.Fetching) (old : LoadingWorld) (reply : Reply) (new : LoadingWorld) where
  -- an access, after a fetch or without one
  pub access_cases : (access : LoadingWorld → C.FarAnswer × LoadingWorld) (selector : ℕ) → C.Accesses fetches access old selector reply new
      → ((fault : Option C.FetchFault) × (next : LoadingWorld) × fetches old (C.far_slot old.handles selector) fault next × MatchOption fault (gives (access next) reply new) (λ f. (reply ≡ C.Failed f) × (new ≡ next)))
      ⊎ gives (access old) reply new
  access_cases access selector step = elim (by_bool (C.needs_fetch (access old).0 old selector) step) [ inl (e, f) ↦ inl f | inr (e, f) ↦ inr f ]

  -- a load of a resource: none, one more, or the first
  pub resource_cases : (handle place : ℕ) → C.LoadsResource fetches old handle place reply new → C.AnswersNone old reply new
      ⊎ ((r : C.Resource) × IsLoadable old handle place r
      × (((x : ℕ × Load) × (load_of old handle place ≡ Some x) × ((reply, new) ≡ C.loaded_again old r x)) ⊎ ((load_of old handle place ≡ None) × C.LoadsNewResource fetches old handle place r reply new)))
  resource_cases handle place step = elim (by_option (C.resource_at old handle place) step) [
    | inl (e, f) ↦ inl f
    | inr (r, at, f) ↦ elim (by_bool (C.is_too_long r) f) [
      | inl (t, f) ↦ inl f
      | inr (short, f) ↦ elim (by_option (load_of old handle place) f) [
        | inl (none, inl f) ↦ inl f.1
        | inl (none, inr f) ↦ inr (r, (at, short), inr (none, f))
        | inr (x, e, f) ↦ inr (r, (at, short), inl (x, e, f))
      ]
    ]
  ]

  -- a lock of one: none, after a fetch, or without one
  pub lock_cases : (handle : ℕ) → C.LocksResource fetches old handle reply new → ((reply ≡ Dword 0) × (new ≡ old))
      ⊎ ((x : ℕ × Load) × (C.slot_of_resource old handle ≡ Some x)
      × (((fault : Option C.FetchFault) × (next : LoadingWorld) × fetches old x.0 fault next × ((reply, new) ≡ C.lock_outcome fault handle next)) ⊎ ((reply, new) ≡ C.locked old handle)))
  lock_cases handle step = elim (by_option (C.slot_of_resource old handle) step) [
    | inl (e, f) ↦ inl f
    | inr (x, e, f) ↦ elim (by_option (C.bytes_at old.handles.heap x.0) f) [ inl (none, f) ↦ inr (x, e, inl f) | inr (bytes, some, f) ↦ inr (x, e, inr f) ]
  ]
