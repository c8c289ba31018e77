-- The steps of the families, but for loads, keep code as its files say it.
use Rattle.w16_loading.proofs
use proofs.Common as C
use proofs.Common.{◌≡◌, ◌≢◌, ℕ, ◌+◌, ◌-◌, inl, inr, ◌⊎◌, Bool, true, false, cond, not, ◌==◌, List, [], ◌∷◌, Option, Some, None, option_map, unwrap_or, refl, sym, ap, ◌∙◌, subst, false≢true, cases_eq, Limit, Heap, after_touch, far_slot, after_write, inserted_here, inserted_other, Owned}
use proofs.Common.{LoadingWorld, Load, Module, module_at, module_in, Loaded, BuiltIn, without_objects, Fills, told, is_code, Go, Frees, owned_in, with_resource, Part, far_at}
use proofs.KeptBytes.{KeepsBytes, same_object, no_object, no_bytes}
use proofs.KeptCode.{with_code, KeepsCode, SameSource, FetchesCode, code_kept, same_source, as_it_was, fetched_code}
use proofs.{OwnedKept.locked as owned_locked, Undone.retained, Again.segment_image, Given.loaded_is, Bound.world_used_less, Bound.world_without, Stepping.without_load, FarCases.read_cases, FarCases.write_cases}
use Rattle.std.specs.FinMap as finmap
use Rattle.w16_loading.proofs.KeptBytes as kept

module _ (format : C.Format) where
  abbrev Good : LoadingWorld → Type 0
  Good world = C.IsOfFiles format world

  -- a world with another heap
  pub heap_kept : (old : LoadingWorld) (heap : Heap) → ((q : ℕ) → is_code old q ≡ true → KeepsBytes old.handles.heap heap q) → KeepsCode format old (C.with_heap old heap)
  heap_kept old heap keeps = with_code format old heap (λ slot handle number m s t. as_it_was format old heap slot number m (keeps slot t))

  -- and with other modules, of which each has the source of one that was there
  modules_kept : (old : LoadingWorld) (modules : C.Modules) → ((handle : ℕ) (m : Module) → module_at modules handle ≡ Some m → (before : Module) × (module_at old.modules handle ≡ Some before) × SameSource m before)
      → KeepsCode format old (record old { modules = modules })
  modules_kept old modules sources = record {
    files = refl;
    modules = sources;
    coded = λ q t. t;
    bytes = λ slot handle number m s t. as_it_was format old old.handles.heap slot number m (same_object old.handles.heap old.handles.heap slot refl);
  }

  -- and with other loads of resources
  pub loads_kept : (old : LoadingWorld) (loads : finmap.FinMap C.nat_cmp Load) → KeepsCode format old (record old { loads = loads })
  loads_kept old loads = record {
    files = refl;
    modules = λ handle m e. (m, e, same_source m);
    coded = λ q t. t;
    bytes = λ slot handle number m s t. as_it_was format old old.handles.heap slot number m (same_object old.handles.heap old.handles.heap slot refl);
  }

  -- Far accesses.

  as_before : (world : LoadingWorld) → KeepsCode format world world
  as_before world = heap_kept world world.handles.heap (λ q t. same_object world.handles.heap world.handles.heap q refl)

  pub read_keeps : (selector offset n : ℕ) (world : LoadingWorld) → KeepsCode format world (C.far_read selector offset n world).1
  read_keeps selector offset n world = read_cases (KeepsCode format world) world (as_before world) selector offset n
      (heap_kept world (after_touch world.handles.heap (far_slot world.handles selector)) (λ q t. same_object world.handles.heap (after_touch world.handles.heap (far_slot world.handles selector)) q refl))

  -- whether code is written to is asked of the object that is written to
  asked : (world : LoadingWorld) (selector offset n : ℕ) → C.far_fault world.handles selector offset n ≡ None → C.refuses_write world.handles selector ≡ is_code world (far_slot world.handles selector)
  asked world selector offset n = turn (C.part_of_selector world.handles selector)
    where
      turn : (p : Option Part) → ◌≡◌ {A = Option C.FarFault} (elim p [
        | None ↦ Some C.BadSelector
        | Some p ↦ elim (C.bytes_at world.handles.heap p.slot) [
          | None ↦ Some C.NotPresent
          | Some bytes ↦ cond (C.is_past (C.length bytes) p (offset + n)) (Some Limit) None
        ]
      ]) None → unwrap_or (option_map (λ (p : Part). is_code world p.slot) p) false ≡ is_code world (unwrap_or p (record { slot = 0; number = 0 })).slot
      turn None e = cc
      turn (Some p) e = refl

  pub write_keeps : (selector offset : ℕ) (slice : List ℕ) (world : LoadingWorld) → KeepsCode format world (C.far_write selector offset slice world).1
  write_keeps selector offset slice world = write_cases (KeepsCode format world) world (as_before world) selector offset slice
      (λ f e. heap_kept world (after_touch (after_write world.handles.heap (far_slot world.handles selector) (far_at world.handles selector offset) slice) (far_slot world.handles selector)) (others (sym (asked world selector offset (C.length slice) e) ∙ f)))
    where
      others : is_code world (far_slot world.handles selector) ≡ false → (q : ℕ) → is_code world q ≡ true
          → KeepsBytes world.handles.heap (after_touch (after_write world.handles.heap (far_slot world.handles selector) (far_at world.handles selector offset) slice) (far_slot world.handles selector)) q
      others f q t = same_object world.handles.heap (after_touch (after_write world.handles.heap (far_slot world.handles selector) (far_at world.handles selector offset) slice) (far_slot world.handles selector)) q
          (C.get-update_other world.handles.heap.objects (far_slot world.handles selector) (λ o. record o { bytes = option_map (λ bytes. C.put_part bytes (far_at world.handles selector offset) slice) o.bytes }) q (λ e. false≢true (sym f ∙ ap (is_code world) (sym e) ∙ t)))

  -- what an honest store gives is the object's image
  pub world_fetches : {honest : Type 0} → honest → (before after : ℕ) (old : LoadingWorld) → C.IsLoadingWorld old → (slot : ℕ) → FetchesCode format (told honest format old.files before after) old slot
  world_fetches truly before after old is slot handle number m bytes s coded given = segment_image format old slot handle number m bytes is s (given.1 truly)

  -- Uses.

  -- another count of uses
  pub other_uses : (old : LoadingWorld) (handle : ℕ) (m : Module) (uses : ℕ) → finmap.get old.modules handle ≡ Some (Loaded m) → KeepsCode format old (record old { modules = finmap.insert old.modules handle (Loaded (record m { uses = uses })) })
  other_uses old handle m uses there = modules_kept old (finmap.insert old.modules handle (Loaded (record m { uses = uses }))) (λ h n e. elim (cases_eq h handle) [
    | inl same ↦ (m, ap (module_at old.modules) same ∙ ap module_in there, source n (sym e ∙ ap module_in (inserted_here old.modules handle (Loaded (record m { uses = uses })) h same)))
    | inr other ↦ (n, ap module_in (sym (inserted_other old.modules handle (Loaded (record m { uses = uses })) h other)) ∙ e, same_source n)
  ])
    where
      source : (n : Module) → Some n ≡ Some (record m { uses = uses }) → SameSource n m
      source n e = let f : n ≡ record m { uses = uses } = cc in record { file = ap (λ (x : Module). x.file) f; values = ap (λ (x : Module). x.values) f; slots = ap (λ (x : Module). x.slots) f; tables = ap (λ (x : Module). x.tables) f }

  -- objects that go
  pub released_code : (gone : ℕ → Bool) (old : LoadingWorld) → KeepsCode format old (without_objects gone old)
  released_code gone old = record {
    files = refl;
    modules = λ handle m e. (m, e, same_source m);
    coded = λ q t. coded q (C.cases_Bool (gone q)) t;
    bytes = λ slot handle number m s t. as_it_was format old (without_objects gone old).handles.heap slot number m (kept_or_gone slot (C.cases_Bool (gone slot)));
  }
    where
      coded : (q : ℕ) → (gone q ≡ true) ⊎ (gone q ≡ false) → is_code (without_objects gone old) q ≡ true → is_code old q ≡ true
      coded q (inl g) t = absurd (false≢true (sym (ap (λ p. unwrap_or (option_map (λ (o : Owned). o.code) p) false) (ap owned_in (retained old.handles.attributes gone q ∙ ap (λ b. cond (not b) (finmap.get old.handles.attributes q) None) g))) ∙ t))
      coded q (inr g) t = sym (ap (λ p. unwrap_or (option_map (λ (o : Owned). o.code) p) false) (ap owned_in (retained old.handles.attributes gone q ∙ ap (λ b. cond (not b) (finmap.get old.handles.attributes q) None) g))) ∙ t

      kept_or_gone : (q : ℕ) → (gone q ≡ true) ⊎ (gone q ≡ false) → KeepsBytes old.handles.heap (without_objects gone old).handles.heap q
      kept_or_gone q (inl g) = no_object old.handles.heap (without_objects gone old).handles.heap q (retained old.handles.heap.objects gone q ∙ ap (λ b. cond (not b) (C.object_at old.handles.heap q) None) g)
      kept_or_gone q (inr g) = same_object old.handles.heap (without_objects gone old).handles.heap q (retained old.handles.heap.objects gone q ∙ ap (λ b. cond (not b) (C.object_at old.handles.heap q) None) g)

  less_used : (old : LoadingWorld) (handle : ℕ) → Good old → Good (C.used_less old handle)
  less_used old handle good = turn (module_at old.modules handle) refl
    where
      turn : (p : Option Module) → module_at old.modules handle ≡ p → Good (world_used_less old handle p)
      turn None e = good
      turn (Some m) e = code_kept format old (record old { modules = finmap.insert old.modules handle (Loaded (record m { uses = m.uses - 1 })) }) (other_uses old handle m (m.uses - 1) (loaded_is (finmap.get old.modules handle) m e)) good

  -- a module that goes
  gone_module : (old : LoadingWorld) (handle : ℕ) → KeepsCode format old (record old { modules = finmap.remove old.modules handle })
  gone_module old handle = modules_kept old (finmap.remove old.modules handle) (λ h m e. elim (cases_eq h handle) [
    | inl same ↦ absurd (none m (sym (ap module_in (C.taken_here old.modules handle h same)) ∙ e))
    | inr other ↦ (m, ap module_in (sym (C.taken_other old.modules handle h other)) ∙ e, same_source m)
  ])
    where
      none : (m : Module) → ◌≡◌ {A = Option Module} None (Some m) → ⊥
      none m e = cc

  one_goes : (old : LoadingWorld) (handle : ℕ) → Good old → Good (C.without_module old handle)
  one_goes old handle good = turn (module_at old.modules handle)
    where
      turn : (p : Option Module) → Good (world_without old handle p)
      turn None = good
      turn (Some m) =
          let left : LoadingWorld = without_objects (λ q. C.is_member q m.slots) old in
          code_kept format left (record left { modules = finmap.remove left.modules handle }) (gone_module left handle) (code_kept format old left (released_code (λ q. C.is_member q m.slots) old) good)

  all_go : (old : LoadingWorld) (gone : List ℕ) (new : LoadingWorld) → Go old gone new → Good old → Good new
  all_go old [] new go good = subst Good (sym go.1) good
  all_go old (handle ∷ gone) new go good = all_go (C.without_module old handle) gone new go.1 (one_goes old handle good)

  pub by_free : (old new : LoadingWorld) (handle answer : ℕ) → Frees old handle answer new → Good old → Good new
  by_free old new handle answer f good =
      let left : LoadingWorld = without_objects (C.is_left_over f.left) f.left in
      subst Good (sym f.after) (code_kept format left (C.without_orphans f.left) (loads_kept left (C.without_orphans f.left).loads)
      (code_kept format f.left left (released_code (C.is_left_over f.left) f.left) (all_go (C.used_less old handle) f.ended.gone f.left f.ended.went (less_used old handle good))))

  -- Built-ins.

  pub built_in_code : (old : LoadingWorld) (handle : ℕ) (name : List ℕ) → KeepsCode format old (record old { modules = finmap.insert old.modules handle (BuiltIn name) })
  built_in_code old handle name = modules_kept old (finmap.insert old.modules handle (BuiltIn name)) (λ h m e. elim (cases_eq h handle) [
    | inl same ↦ absurd (none m (sym (ap module_in (inserted_here old.modules handle (BuiltIn name) h same)) ∙ e))
    | inr other ↦ (m, ap module_in (sym (inserted_other old.modules handle (BuiltIn name) h other)) ∙ e, same_source m)
  ])
    where
      none : (m : Module) → ◌≡◌ {A = Option Module} None (Some m) → ⊥
      none m e = cc

  -- Resources.

  -- a new object, which isn't code
  pub entered_code : (old : LoadingWorld) (slot handle place : ℕ) (r : C.Resource) → C.IsFreeSlot old.handles slot → KeepsCode format old (with_resource old slot handle place r)
  entered_code old slot handle place r free = record {
    files = refl;
    modules = λ h m e. (m, e, same_source m);
    coded = λ q t. coded q t (cases_eq q slot);
    bytes = λ q h number m s t. as_it_was format old (with_resource old slot handle place r).handles.heap q number m (entered q (cases_eq q slot));
  }
    where
      owner : C.Attributes
      owner = C.attributes_for r

      coded : (q : ℕ) → is_code (with_resource old slot handle place r) q ≡ true → (q ≡ slot) ⊎ (q ≢ slot) → is_code old q ≡ true
      coded q t (inl e) = absurd (false≢true (sym (ap (λ p. unwrap_or (option_map (λ (o : Owned). o.code) p) false) (ap owned_in (inserted_here old.handles.attributes slot owner q e))) ∙ t))
      coded q t (inr d) = sym (ap (λ p. unwrap_or (option_map (λ (o : Owned). o.code) p) false) (ap owned_in (inserted_other old.handles.attributes slot owner q d))) ∙ t

      entered : (q : ℕ) → (q ≡ slot) ⊎ (q ≢ slot) → KeepsBytes old.handles.heap (with_resource old slot handle place r).handles.heap q
      entered q (inl e) = no_bytes old.handles.heap (with_resource old slot handle place r).handles.heap q (ap C.bytes_in (inserted_here old.handles.heap.objects slot (record { kind = r.kind; locks = 0; bytes = None }) q e))
      entered q (inr d) = same_object old.handles.heap (with_resource old slot handle place r).handles.heap q (inserted_other old.handles.heap.objects slot (record { kind = r.kind; locks = 0; bytes = None }) q d)

  -- which is fetched
  pub made_code : {answers : C.Answers} {slot : ℕ} {fault : Option C.FetchFault} {next : LoadingWorld} (old : LoadingWorld) → C.IsLoadingWorld old → (handle place : ℕ) (r : C.Resource) → C.IsFreeSlot old.handles slot
      → C.FetchesFrom Fills answers (with_resource old slot handle place r) slot fault next → Good old → Good next
  made_code {answers} {slot} {fault} {next} old is handle place r free f good = code_kept format made next fetched (code_kept format old made (entered_code old slot handle place r free) good)
    where
      made : LoadingWorld
      made = with_resource old slot handle place r

      not_code : is_code made slot ≡ true → ⊥
      not_code t = false≢true (sym (ap (λ p. unwrap_or (option_map (λ (o : Owned). o.code) p) false) (ap owned_in (inserted_here old.handles.attributes slot (C.attributes_for r) slot refl))) ∙ t)

      fetched : KeepsCode format made next
      fetched = fetched_code format (C.entered_heap old.handles.heap is.handles.heap slot r.kind (C.unused_slot old.handles is.handles slot free)) (λ h number m bytes s coded given. absurd (not_code coded)) f

  -- a lock
  pub locked_code : (old : LoadingWorld) (handle : ℕ) → Good old → Good (C.locked old handle).1
  locked_code old handle good = code_kept format old (C.locked old handle).1 (record {
    files = refl;
    modules = λ h m e. (m, e, same_source m);
    coded = λ q t. ap (λ p. unwrap_or (option_map (λ (o : Owned). o.code) p) false) (sym (owned_locked old.handles handle q)) ∙ t;
    bytes = λ slot h number m s t. as_it_was format old (C.global_lock old.handles handle).1.heap slot number m (kept.locked old.handles slot handle);
  }) good

  -- the last load of a resource gone
  pub last_code : (old : LoadingWorld) (slot : ℕ) → Good old → Good (without_load old slot)
  last_code old slot good =
      let left : LoadingWorld = without_objects (λ q. q == slot) old in
      code_kept format left (without_load old slot) (loads_kept left (finmap.remove left.loads slot)) (code_kept format old left (released_code (λ q. q == slot) old) good)
