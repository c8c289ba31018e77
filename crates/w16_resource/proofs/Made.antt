-- A first load of a resource: its new object is fetched, or goes again.
use Rattle.w16_resource.proofs
use proofs.Common as C
use proofs.Common.{FinMap, Kind, LacksBytes, LoadingWorld, None, Option, Owned, Resource, Some, ap, false, false≢true, inr, inserted_here, is_long, is_some}
use proofs.Common.{nat_cmp, ne_format, refl, rounded_size, subst, sym, told, ℕ, ◌/◌, ◌∙◌, ◌≡◌, ◌≤◌, Reply, Word, handle_of}
use proofs.Loaded.{made_resource}
use proofs.Taken.{back, here, named, taken, lacks_new, taken_back}
use Rattle.w16_loading.proofs.{CodeSteps.entered_code, Fillings.fetch_outcome, KeptCode.code_kept, Owners.loaded_of, Owners.resource_object, Requests.fetch_fills, ResourceWorlds.made_world}
use Rattle.std.specs.FinMap as finmap
use Rattle.w16_loading.specs.Modules as loading
use Rattle.w16_loading.specs.Families.AnyCommand.{any}

-- a free slot has no load
none_loaded : (old : LoadingWorld) → C.IsLoadingWorld old → (slot : ℕ) → C.IsFreeSlot old.handles slot → finmap.get old.loads slot ≡ None
none_loaded old is slot free = by (finmap.get old.loads slot) refl
  where
    by : (p : Option loading.Load) → finmap.get old.loads slot ≡ p → p ≡ None
    by None e = refl
    by (Some load) e =
        let m = loaded_of old is slot load e in
        absurd (false≢true (sym (ap is_some (C.unused_slot old.handles is.handles slot free)) ∙ resource_object old is slot load.handle load.place m.0 m.1))

module _ {honest : Type 0} {old : LoadingWorld} (is : C.IsLoadingOver honest old) {handle place : ℕ} {r : Resource} (first : C.IsFirstLoad old handle place r)
    {kind : Kind} (alike : r.kind ≡ kind) {len : ℕ} (long : r.length_in ≡ len) (few : is_long len ≡ false)
    {owned : Owned} (owns : owned ≡ record { size = rounded_size len; code = false }) {name : ℕ} {entered : C.Handles} (t : C.TakesOwned old.handles kind owned name entered) where
  abbrev load : loading.Load
  load = record { handle = handle; place = place; loads = 1 }

  abbrev made : LoadingWorld
  made = C.with_resource old t.slot handle place r

  short : C.is_too_long r ≡ false
  short = ap is_long long ∙ few

  owns_it : owned ≡ record { size = rounded_size r.length_in; code = false }
  owns_it = owns ∙ ap (λ n. record { size = rounded_size n; code = false }) (sym long)

  at : name / 8 ≡ t.slot
  at = here old.handles entered kind owned name t r (sym alike) owns_it

  object_is : name ≡ handle_of r.kind t.slot
  object_is = named old.handles entered kind owned name t r (sym alike) owns_it

  sound : C.IsLoadingOver honest made
  sound = (
    made_world old is.0 t.slot t.free handle place r first.there short first.unloaded,
    λ h. code_kept ne_format old made (entered_code ne_format old t.slot handle place r t.free) (is.1 h),
  )

  abbrev Loads : Reply → LoadingWorld → Type 0
  Loads reply left = C.FewestOver honest ne_format old (any _ (C.LoadResource handle place)) reply left

  -- With its object and its load it is fetched.
  abbrev Fetches : Option C.FetchFault → LoadingWorld → LoadingWorld → Type 0
  Fetches fault new mid = C.IsLoadingOver honest mid → LacksBytes mid.handles name → C.IsSome (finmap.get mid.loads (name / 8)) → C.FetchesResource honest mid (name / 8) fault new

  module _ {slot : ℕ} (s : slot ≡ name / 8) {loads : FinMap nat_cmp loading.Load} (e : loads ≡ finmap.insert old.loads slot load) {fault : Option C.FetchFault} {new : LoadingWorld}
      (fetch : Fetches fault new (record old { handles = entered; loads = loads })) (stays : C.IsLater old.files old.failures new.files new.failures) where
    made_is : record old { handles = entered; loads = loads } ≡ made
    made_is = λ i. record old {
      handles = taken old.handles entered kind owned name t r (sym alike) owns_it i;
      loads = (e ∙ ap (λ q. finmap.insert old.loads q load) (s ∙ at)) i;
    }

    fetched : C.FetchesResource honest made t.slot fault new
    fetched = subst (λ q. C.FetchesResource honest made q fault new) at
        (subst (Fetches fault new) made_is fetch sound (lacks_new old.handles t.slot r name object_is) (ap is_some (inserted_here old.loads t.slot load (name / 8) at)))

    -- the step, by what is left in the end
    step : (reply : Reply) (h : C.Handles) (l : FinMap nat_cmp loading.Load)
        → (reply, record new { handles = h; loads = l; failures = old.failures }) ≡ C.resource_outcome fault (handle_of r.kind t.slot) (record new { failures = old.failures }) old
        → Loads reply (record new { handles = h; loads = l })
    step reply h l outcome = record {
      counted = stays.counted;
      files = stays.same;
      step = made_resource _ old handle place reply (record new { handles = h; loads = l; failures = old.failures }) r first.there short None first.unloaded
          (inr (record { slot = t.slot; free = t.free; fault = fault; next = record new { failures = old.failures }; fetched = fetched; outcome = outcome }));
    }

  pub loads_first : {slot : ℕ} (s : slot ≡ name / 8) {loads : FinMap nat_cmp loading.Load} → loads ≡ finmap.insert old.loads slot load → {new : LoadingWorld}
      → Fetches None new (record old { handles = entered; loads = loads }) → C.IsLater old.files old.failures new.files new.failures
      → Loads (Word name) new
  loads_first s e {new = new} fetch stays = step s e fetch stays (Word name) new.handles new.loads (λ i. (Word (object_is i), record new { failures = old.failures }))

  -- or all is as it was
  pub loads_none : {slot : ℕ} (s : slot ≡ name / 8) {loads : FinMap nat_cmp loading.Load} → loads ≡ finmap.insert old.loads slot load → {fault : C.FetchFault} {new : LoadingWorld}
      → Fetches (Some fault) new (record old { handles = entered; loads = loads }) → C.IsLater old.files old.failures new.files new.failures
      → {reply : Reply} → ((handle : ℕ) (made old : LoadingWorld) → (reply, old) ≡ C.resource_outcome (Some fault) handle made old)
      → Loads reply (record new { handles = C.without_slot new.handles slot; loads = finmap.remove new.loads slot })
  loads_none {slot = slot} s e {fault = fault} {new = new} fetch stays {reply = reply} says =
      step s e fetch stays reply (C.without_slot new.handles slot) (finmap.remove new.loads slot) ((λ i. (reply, gone i)) ∙ says (handle_of r.kind t.slot) (record new { failures = old.failures }) old)
    where
      same : record new { failures = old.failures } ≡ made
      same = (fetch_outcome (fetch_fills (told honest ne_format old.files old.failures new.failures) made t.slot (Some fault)
          (record new { failures = old.failures }) (fetched s e fetch stays))).0 refl

      gone : record new { handles = C.without_slot new.handles slot; loads = finmap.remove new.loads slot; failures = old.failures } ≡ old
      gone = (λ i. record (same i) { handles = C.without_slot (same i).handles ((s ∙ at) i); loads = finmap.remove (same i).loads ((s ∙ at) i) })
          ∙ (λ i. record old {
            handles = taken_back old.handles t.slot r is.0.handles (C.unused_slot old.handles is.0.handles t.slot t.free) i;
            loads = back old.loads t.slot load (none_loaded old is.0 t.slot t.free) i;
          })
