-- Modules and resources that go take their objects with them, and spare every other.
use Rattle.w16_loading.proofs
use proofs.Common as C
use proofs.Common.{◌≡◌, ◌≢◌, ℕ, ◌+◌, ◌-◌, ◌≤◌, inl, inr, ◌⊎◌, ◌==◌, Bool, true, false, cond, not, nat_lt, List, [], ◌∷◌, Option, Some, None, is_some, slice_get, refl, sym, ap, ◌∙◌, subst, arith, false≢true, cases_eq, locks_at, is_member, object_at, inserted_here, inserted_other}
use proofs.Common.{taken_here, taken_other, LoadingWorld, Load, Module, Named, module_at, module_in, imports, Loaded, Frees, Go, is_left_over, free_resource, slot_of_resource, IsUnused}
use proofs.Importers.{HasImporter, Idle, idle_parts, none_idle}
use proofs.Spared.{IsSpared, same_spared, spared_then, spared_without}
use proofs.Stepping.{freed_by, resource_load, with_count, without_load}
use proofs.{Bound.world_used_less, Cascade.gone_with, Cascade.went, Given.loaded_is, Given.member_place, Owners.loaded_of, SparedByUses.named_slot, Undone.retained}
use Rattle.std.specs.FinMap as finmap

no_module : {A : Type 0} (p : Option Module) (m : Module) → p ≡ None → p ≡ Some m → A
no_module p m e f = let g : ◌≡◌ {A = Option Module} None (Some m) = sym e ∙ f in cc

-- a module that is left is one that was there, with its slots, its imports and its uses but one of the handle's
record IsLeftOf (handle a : ℕ) (n was : Module) : Type 0 where
  slots : n.slots ≡ was.slots
  imports : n.imports ≡ was.imports
  uses : was.uses ≤ n.uses + cond (a == handle) 1 0

-- a segment's object that is gone with its module
abbrev IsOfGone : LoadingWorld → ℕ → LoadingWorld → Type 0
IsOfGone old q world = (object_at world.handles.heap q ≡ None) × (a number : ℕ) × (m : Module) × C.IsSegmentOf old q a number m × (module_at world.modules a ≡ None)

-- on the way: an object is spared, or was a segment's of a module that is gone; and what is gone is unused
record OnTheWay (old : LoadingWorld) (handle q : ℕ) (world : LoadingWorld) : Type 0 where
  outcome : IsSpared old.handles.heap world.handles.heap q ⊎ IsOfGone old q world
  loads : world.loads ≡ old.loads
  sources : (a : ℕ) (n : Module) → module_at world.modules a ≡ Some n → (was : Module) × (module_at old.modules a ≡ Some was) × IsLeftOf handle a n was
  gone : (a : ℕ) (m : Module) → module_at old.modules a ≡ Some m → module_at world.modules a ≡ None → IsUnused old handle world a m

module _ (old : LoadingWorld) (is : C.IsLoadingWorld old) (q : ℕ) where
  abbrev Spared : LoadingWorld → Type 0
  Spared world = IsSpared old.handles.heap world.handles.heap q

  -- objects go
  object_left : (gone : ℕ → Bool) (world : LoadingWorld) (b : Bool) → gone q ≡ b → object_at (C.heap_without gone world.handles.heap) q ≡ cond (not b) (object_at world.handles.heap q) None
  object_left gone world b t = retained world.handles.heap.objects gone q ∙ ap (λ b. cond (not b) (object_at world.handles.heap q) None) t

  spared_left : (gone : ℕ → Bool) (world : LoadingWorld) → gone q ≡ false → Spared world → Spared (C.without_objects gone world)
  spared_left gone world t s = spared_then old.handles.heap world.handles.heap (C.heap_without gone world.handles.heap) q s (spared_without gone world.handles.heap q t)

  -- Resources.

  pub resource_ended : (handle : ℕ) → Spared (free_resource old handle).1 ⊎ ((object_at (free_resource old handle).1.handles.heap q ≡ None) × C.IsFreedResource old handle (free_resource old handle).1 q)
  resource_ended handle = turn (slot_of_resource old handle) refl
    where
      Ended : LoadingWorld → Type 0
      Ended world = Spared world ⊎ ((object_at world.handles.heap q ≡ None) × C.IsFreedResource old handle world q)

      last : (x : ℕ × Load) → slot_of_resource old handle ≡ Some x → nat_lt 1 x.1.loads ≡ false → nat_lt 0 (locks_at old.handles.heap x.0) ≡ false → Ended (without_load old x.0)
      last x e one loose = elim (cases_eq q x.0) [
        | inr d ↦ inl (spared_left (λ k. k == x.0) old (C.ne_eqb q x.0 d) (same_spared old.handles.heap q))
        | inl same ↦ inr (
          object_left (λ k. k == x.0) old true (C.eq-eqb q x.0 same),
          (
            named_slot old handle x e ∙ ap Some (sym same),
            subst (λ p. C.IsSomeAnd p (λ (load : Load). load.loads ≡ 1)) (sym (ap (finmap.get old.loads) same ∙ resource_load old handle x e)) (omega (arith, load.used, C.ltb-false 1 x.1.loads one)),
            ap (locks_at old.handles.heap) same ∙ omega (arith, C.ltb-false 0 (locks_at old.handles.heap x.0) loose),
            taken_here old.loads x.0 q same,
          ),
        )
      ]
        where
          load : C.IsLoad old x.0 x.1
          load = subst (λ p. C.IfSome p (C.IsLoad old x.0)) (resource_load old handle x e) (is.loads x.0)

      by_test : (x : ℕ × Load) → slot_of_resource old handle ≡ Some x → (b c : Bool) → nat_lt 1 x.1.loads ≡ b → nat_lt 0 (locks_at old.handles.heap x.0) ≡ c
          → Ended (cond {A = ℕ × LoadingWorld} b (0, with_count old x.0 x.1 (x.1.loads - 1)) (cond {A = ℕ × LoadingWorld} c (1, old) (0, without_load old x.0))).1
      by_test x e true c s t = inl (same_spared old.handles.heap q)
      by_test x e false true s t = inl (same_spared old.handles.heap q)
      by_test x e false false s t = last x e s t

      turn : (p : Option (ℕ × Load)) → slot_of_resource old handle ≡ p → Ended (freed_by old p).1
      turn None e = inl (same_spared old.handles.heap q)
      turn (Some x) e = by_test x e (nat_lt 1 x.1.loads) (nat_lt 0 (locks_at old.handles.heap x.0)) refl refl

  -- Modules.
  module _ (handle : ℕ) where
    abbrev begun : LoadingWorld
    begun = C.used_less old handle

    start : OnTheWay old handle q begun
    start = turn (module_at old.modules handle) refl
      where
        none_gone : (world : LoadingWorld) → ((a : ℕ) (m : Module) → module_at old.modules a ≡ Some m → is_some (module_at world.modules a) ≡ true) → (a : ℕ) (m : Module) → module_at old.modules a ≡ Some m → module_at world.modules a ≡ None → IsUnused old handle world a m
        none_gone world stays a m e none = absurd (false≢true (sym (ap is_some none) ∙ stays a m e))

        turn : (p : Option Module) → module_at old.modules handle ≡ p → OnTheWay old handle q (world_used_less old handle p)
        turn None e = record {
          outcome = inl (same_spared old.handles.heap q);
          loads = refl;
          sources = λ a n f. (n, f, record { slots = refl; imports = refl; uses = omega arith });
          gone = none_gone old (λ a m f. ap is_some f);
        }
        turn (Some m) e = record {
          outcome = inl (same_spared old.handles.heap q);
          loads = refl;
          sources = λ a n f. elim (cases_eq a handle) [
            | inl same ↦ (m, ap (module_at old.modules) same ∙ e, alike a same n (sym f ∙ ap module_in (inserted_here old.modules handle less a same)))
            | inr d ↦ (n, sym (ap module_in (inserted_other old.modules handle less a d)) ∙ f, record { slots = refl; imports = refl; uses = omega arith })
          ];
          gone = none_gone (world_used_less old handle (Some m)) (λ a k f. elim (cases_eq a handle) [
            | inl same ↦ ap (λ p. is_some (module_in p)) (inserted_here old.modules handle less a same)
            | inr d ↦ ap (λ p. is_some (module_in p)) (inserted_other old.modules handle less a d) ∙ ap is_some f
          ]);
        }
          where
            less : Named
            less = Loaded (record m { uses = m.uses - 1 })

            alike : (a : ℕ) → a ≡ handle → (n : Module) → Some n ≡ Some (record m { uses = m.uses - 1 }) → IsLeftOf handle a n m
            alike a same n f = let g : n ≡ record m { uses = m.uses - 1 } = cc in record {
              slots = ap (λ (x : Module). x.slots) g;
              imports = ap (λ (x : Module). x.imports) g;
              uses = subst (λ (x : Module). m.uses ≤ x.uses + cond (a == handle) 1 0) (sym g) (subst (λ b. m.uses ≤ m.uses - 1 + cond b 1 0) (sym (C.eq-eqb a handle same)) (omega arith));
            }

    -- an importer of the first world is one, if it is left
    importer : (world : LoadingWorld) → OnTheWay old handle q world → (a b : ℕ) (n : Module) → b ≢ a → module_at old.modules b ≡ Some n → is_member a n.imports ≡ true → (HasImporter world.modules a → ⊥) → module_at world.modules b ≡ None
    importer world h a b n d there t alone = turn (module_at world.modules b) refl
      where
        turn : (p : Option Module) → module_at world.modules b ≡ p → p ≡ None
        turn None e = refl
        turn (Some k) e =
            let s : (was : Module) × (module_at old.modules b ≡ Some was) × IsLeftOf handle b k was = h.sources b k e in
            let same : n ≡ s.0 = (let f : Some n ≡ Some s.0 = sym there ∙ s.1 in cc) in
            absurd (alone (record { who = b; importer = Loaded k; there = loaded_is (finmap.get world.modules b) k e; other = d; uses = ap (is_member a) (s.2.imports ∙ ap (λ (x : Module). x.imports) (sym same)) ∙ t }))

    abbrev IsAlone : Type 0
    IsAlone = (b : ℕ) (n : Module) → b ≢ handle → module_at old.modules b ≡ Some n → is_member handle n.imports ≡ true → ⊥

    -- one more goes
    module _ (alone : IsAlone) (world : LoadingWorld) (h : OnTheWay old handle q world) (k : ℕ) (idle : Idle world.modules k) where
      abbrev next : LoadingWorld
      next = gone_with world k idle.idle

      still_gone : (a : ℕ) → module_at world.modules a ≡ None → module_at next.modules a ≡ None
      still_gone a e = elim (cases_eq a k) [ inl same ↦ ap module_in (taken_here world.modules k a same) | inr d ↦ ap module_in (taken_other world.modules k a d) ∙ e ]

      its : (was : Module) × (module_at old.modules k ≡ Some was) × IsLeftOf handle k idle.idle was
      its = h.sources k idle.idle (ap module_in idle.loaded)

      outcome_then : Spared next ⊎ IsOfGone old q next
      outcome_then = by_test (C.cases_Bool (is_member q idle.idle.slots)) h.outcome
        where
          back : (n : ℕ) → n + 1 - 1 ≡ n
          back n = omega arith

          by_test : (is_member q idle.idle.slots ≡ true) ⊎ (is_member q idle.idle.slots ≡ false)
              → Spared world ⊎ IsOfGone old q world
              → Spared next ⊎ IsOfGone old q next
          by_test (inl t) o =
              let i : (i : ℕ) × (slice_get idle.idle.slots i ≡ Some q) = member_place idle.idle.slots q (C.is_member-true q idle.idle.slots t) in
              inr (
                object_left (λ q. is_member q idle.idle.slots) world true t,
                k,
                i.0 + 1,
                its.0,
                record { loaded = its.1; has = (omega arith, ap (slice_get its.0.slots) (back i.0) ∙ ap (λ s. slice_get s i.0) (sym its.2.slots) ∙ i.1) },
                ap module_in (taken_here world.modules k k refl),
              )
          by_test (inr t) (inl s) = inl (spared_left (λ q. is_member q idle.idle.slots) world t s)
          by_test (inr t) (inr g) = inr (object_left (λ q. is_member q idle.idle.slots) world false t ∙ g.0, g.1, g.2, g.3, g.4, still_gone g.1 g.5)

      gone_then : (a : ℕ) (m : Module) → module_at old.modules a ≡ Some m → module_at next.modules a ≡ None → IsUnused old handle next a m
      gone_then a m there none = elim (cases_eq a k) [
        | inr d ↦
            let g : IsUnused old handle world a m = h.gone a m there (sym (ap module_in (taken_other world.modules k a d)) ∙ none) in
            (g.0, none, λ b n e f t. let r = g.2 b n e f t in (r.0, still_gone b r.1))
        | inl same ↦ (
          few same,
          none,
          λ b n e f t. (
            λ own. alone b n (λ x. e (x ∙ sym own)) f (ap (λ x. is_member x n.imports) (sym own) ∙ t),
            still_gone b (importer world h a b n e f t (λ i. idle.alone (subst (HasImporter world.modules) same i))),
          ),
        )
      ]
        where
          few : a ≡ k → m.uses ≤ cond (a == handle) 1 0
          few same =
              let is_it : m ≡ its.0 = (let f : Some m ≡ Some its.0 = sym there ∙ ap (module_at old.modules) same ∙ its.1 in cc) in
              let le : its.0.uses ≤ idle.idle.uses + cond (k == handle) 1 0 = its.2.uses in
              subst (λ (x : Module). x.uses ≤ cond (a == handle) 1 0) (sym is_it) (subst (λ x. its.0.uses ≤ cond (x == handle) 1 0) (sym same) (omega (arith, le, idle.unused)))

      one_gone : OnTheWay old handle q next
      one_gone = record {
        outcome = outcome_then;
        loads = h.loads;
        sources = λ a n e. elim (cases_eq a k) [
          | inl same ↦ no_module (module_at next.modules a) n (ap module_in (taken_here world.modules k a same)) e
          | inr d ↦ h.sources a n (sym (ap module_in (taken_other world.modules k a d)) ∙ e)
        ];
        gone = gone_then;
      }

    all_gone : IsAlone → (world : LoadingWorld) (handles : List ℕ) (last : LoadingWorld) → Go world handles last → OnTheWay old handle q world → OnTheWay old handle q last
    all_gone alone world [] last g h = subst (OnTheWay old handle q) (sym g.1) h
    all_gone alone world (k ∷ ks) last g h =
        let idle : Idle world.modules k = idle_parts world.modules k g.0 in
        all_gone alone (C.without_module world k) ks last g.1 (subst (OnTheWay old handle q) (sym (went world k idle.idle idle.loaded)) (one_gone alone world h k idle))

    -- the handle's own module goes first, if any does, so none imports it
    first_alone : (k : ℕ) → Idle begun.modules k → IsAlone
    first_alone k idle b n d there t = elim (cases_eq k handle) [
      | inl same ↦ own same
      | inr other ↦ none_idle old is k (record { idle = its.0; loaded = loaded_is (finmap.get old.modules k) its.0 its.1; unused = unused other; alone = λ i. idle.alone (still i) })
    ]
      where
        its : (was : Module) × (module_at old.modules k ≡ Some was) × IsLeftOf handle k idle.idle was
        its = start.sources k idle.idle (ap module_in idle.loaded)

        unused : k ≢ handle → its.0.uses ≡ 0
        unused other =
            let le : its.0.uses ≤ idle.idle.uses + 0 = subst (λ b. its.0.uses ≤ idle.idle.uses + cond b 1 0) (C.ne_eqb k handle other) its.2.uses in
            omega (arith, le, idle.unused)

        -- none is gone yet
        there_yet : (b : ℕ) (n : Module) → module_at old.modules b ≡ Some n → module_at begun.modules b ≡ None → ⊥
        there_yet b n e = turn (module_at old.modules handle) refl
          where
            turn : (p : Option Module) → module_at old.modules handle ≡ p → module_at (world_used_less old handle p).modules b ≡ None → ⊥
            turn None f g = no_module (module_at old.modules b) n g e
            turn (Some m) f g = elim (cases_eq b handle) [
              | inl same ↦ no_module (module_at (world_used_less old handle (Some m)).modules b) (record m { uses = m.uses - 1 }) g (ap module_in (inserted_here old.modules handle (Loaded (record m { uses = m.uses - 1 })) b same))
              | inr d ↦ no_module (module_at old.modules b) n (sym (ap module_in (inserted_other old.modules handle (Loaded (record m { uses = m.uses - 1 })) b d)) ∙ g) e
            ]

        own : k ≡ handle → ⊥
        own same = there_yet b n there (importer begun start handle b n d there t (λ i. idle.alone (subst (HasImporter begun.modules) (sym same) i)))

        still : HasImporter old.modules k → HasImporter begun.modules k
        still i = by i.importer i.there i.uses
          where
            by_module : (n : Module) → module_at old.modules i.who ≡ Some n → is_member k n.imports ≡ true → (p : Option Module) → module_at begun.modules i.who ≡ p → HasImporter begun.modules k
            by_module n e t None f = absurd (there_yet i.who n e f)
            by_module n e t (Some m) f =
                let s : (was : Module) × (module_at old.modules i.who ≡ Some was) × IsLeftOf handle i.who m was = start.sources i.who m f in
                let same : n ≡ s.0 = (let g : Some n ≡ Some s.0 = sym e ∙ s.1 in cc) in
                record { who = i.who; importer = Loaded m; there = loaded_is (finmap.get begun.modules i.who) m f; other = i.other; uses = ap (is_member k) (s.2.imports ∙ ap (λ (x : Module). x.imports) (sym same)) ∙ t }

            by : (x : Named) → finmap.get old.modules i.who ≡ Some x → imports x k ≡ true → HasImporter begun.modules k
            by (C.BuiltIn name) there t = absurd (false≢true t)
            by (Loaded n) there t = by_module n (ap module_in there) t (module_at begun.modules i.who) refl

    pub uses_ended : (answer : ℕ) (new : LoadingWorld) → Frees old handle answer new → Spared new ⊎ ((object_at new.handles.heap q ≡ None) × C.IsUnloaded old handle new q)
    uses_ended answer new f = subst Ended (sym f.after) (by_test (C.cases_Bool (is_left_over f.left q)) h.outcome)
      where
        Ended : LoadingWorld → Type 0
        Ended world = Spared world ⊎ ((object_at world.handles.heap q ≡ None) × C.IsUnloaded old handle world q)

        went_so : (handles : List ℕ) → Go begun handles f.left → OnTheWay old handle q f.left
        went_so [] g = subst (OnTheWay old handle q) (sym g.1) start
        went_so (k ∷ ks) g = all_gone (first_alone k (idle_parts begun.modules k g.0)) begun (k ∷ ks) f.left g start

        h : OnTheWay old handle q f.left
        h = went_so f.ended.gone f.ended.went

        left_over : (p : Option Load) → finmap.get f.left.loads q ≡ p → elim p as (λ _. Bool) [ None ↦ false | Some load ↦ not (is_some (module_at f.left.modules load.handle)) ] ≡ true → (load : Load) × (finmap.get old.loads q ≡ Some load) × (module_at f.left.modules load.handle ≡ None)
        left_over None e t = absurd (false≢true t)
        left_over (Some load) e t = (load, ap (λ l. finmap.get l q) (sym h.loads) ∙ e, none (module_at f.left.modules load.handle) t)
          where
            none : (p : Option Module) → not (is_some p) ≡ true → p ≡ None
            none None t = refl
            none (Some m) t = absurd (false≢true t)

        by_test : (is_left_over f.left q ≡ true) ⊎ (is_left_over f.left q ≡ false) → Spared f.left ⊎ IsOfGone old q f.left
            → Ended (C.without_objects (is_left_over f.left) f.left)
        by_test (inl t) o =
            let l = left_over (finmap.get f.left.loads q) refl t in
            let m : (m : Module) × C.IsResourceOf old q l.0.handle l.0.place m = loaded_of old is q l.0 l.1 in
            inr (object_left (is_left_over f.left) f.left true t, (l.0.handle, l.0.place, m.0, inr m.1, h.gone l.0.handle m.0 m.1.loaded l.2))
        by_test (inr t) (inl s) = inl (spared_left (is_left_over f.left) f.left t s)
        by_test (inr t) (inr g) = inr (object_left (is_left_over f.left) f.left false t ∙ g.0, (g.1, g.2, g.3, inl g.4, h.gone g.1 g.3 g.4.loaded g.5))
