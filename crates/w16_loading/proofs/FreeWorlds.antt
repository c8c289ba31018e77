-- Uses that end keep what holds of every world.
use Rattle.w16_loading.proofs
use proofs.Common as C
use proofs.Common.{◌≡◌, ◌≢◌, ℕ, zero, suc, ◌+◌, ◌-◌, ◌<◌, ◌≤◌, inl, inr, ◌⊎◌, Bool, true, false, not, List, [], ◌∷◌, Option, Some, None, IfSome, is_some, slice_get, refl, sym, ap, ◌∙◌, subst, arith, nat_cmp, FinMap, false≢true, cases_eq, Kind, Owned, owned_at, Member, inserted_here}
use proofs.Common.{inserted_other, MOST_USES, LoadingWorld, Load, Module, Named, IsSegmentOf, name_of, module_at, module_in, importers, usage, is_idle, Loaded, Go, Frees, used_less, IsLoadingWorld, IsObjectOf}
use proofs.Given.{loaded_is, member_place, place_member}
use proofs.Importers.{Idle, idle_parts, is_then_idle, of_importer}
use proofs.Worlds.{SameModule, same_module, IsNumber, HasOwner, is_used, is_load, follows}
use proofs.ShrunkWorlds.{stays_of, owner_left, value_left, value_gone, released_handles}
use proofs.{Bound.world_used_less, Cascade.gone_with, Cascade.went, Owners.loaded_of}
use Rattle.std.specs.FinMap as finmap

no_value : {X A : Type 0} (p : Option X) (x : X) → p ≡ None → p ≡ Some x → A
no_value p x e f = let h : ◌≡◌ {A = Option _} None (Some x) = sym e ∙ f in cc

-- What is left on the way: modules are as they were but for their uses, and their objects and those of resources are as they were.
pub record Leaves (old now : LoadingWorld) : Type 0 where
  pub handles : C.AreHandles now.handles
  pub loads : now.loads ≡ old.loads
  pub named : (a : ℕ) (n : Named) → finmap.get now.modules a ≡ Some n → (was : Named) × (finmap.get old.modules a ≡ Some was) × (name_of n ≡ name_of was)
  pub sources : (a : ℕ) (m : Module) → module_at now.modules a ≡ Some m → (was : Module) × (module_at old.modules a ≡ Some was) × SameModule m was × (m.uses ≤ was.uses)
  pub of_segments : (a : ℕ) (m : Module) (q : ℕ) (kind : Kind) (size : ℕ) (code : Bool) → module_at now.modules a ≡ Some m → Member q m.slots → IsObjectOf old q kind size code → IsObjectOf now q kind size code
  pub of_loads : (q : ℕ) (load : Load) (kind : Kind) (size : ℕ) (code : Bool) → finmap.get old.loads q ≡ Some load → IsObjectOf old q kind size code → IsObjectOf now q kind size code
  pub owners : (q : ℕ) → is_some (owned_at now.handles q) ≡ true → ((a number : ℕ) × (m : Module) × IsSegmentOf now q a number m) ⊎ ((load : Load) × (finmap.get old.loads q ≡ Some load))

-- One use less.
module _ (old : LoadingWorld) (is : IsLoadingWorld old) where
  owned_by : (modules : C.Modules) → ((a : ℕ) (m : Module) → module_at old.modules a ≡ Some m → (n : Module) × (module_at modules a ≡ Some n) × SameModule n m)
      → (q : ℕ) → is_some (owned_at old.handles q) ≡ true → ((a number : ℕ) × (m : Module) × IsSegmentOf (record old { modules = modules }) q a number m) ⊎ ((load : Load) × (finmap.get old.loads q ≡ Some load))
  owned_by modules stays q some = turn (owned_at old.handles q) some (is.owners q)
    where
      turn : (p : Option Owned) → is_some p ≡ true → IfSome p (λ _. HasOwner old q) → ((a number : ℕ) × (m : Module) × IsSegmentOf (record old { modules = modules }) q a number m) ⊎ ((load : Load) × (finmap.get old.loads q ≡ Some load))
      turn None t h = absurd (false≢true t)
      turn (Some o) t (a, number, m, inl s) =
          let n : (n : Module) × (module_at modules a ≡ Some n) × SameModule n m = stays a m s.loaded in
          inl (a, number, n.0, record { loaded = n.1; has = (s.has.0, ap (λ x. slice_get x (number - 1)) n.2.slots ∙ s.has.1) })
      turn (Some o) t (a, number, m, inr r) = inr (record { handle = a; place = number; loads = r.loads }, r.has)

  all_there : Leaves old old
  all_there = record {
    handles = is.handles;
    loads = refl;
    named = λ a n e. (n, e, refl);
    sources = λ a m e. (m, e, same_module m, omega arith);
    of_segments = λ a m q kind size code e k h. h;
    of_loads = λ q load kind size code e h. h;
    owners = owned_by old.modules (λ a m e. (m, e, same_module m));
  }

  module _ (handle : ℕ) (m : Module) (there : finmap.get old.modules handle ≡ Some (Loaded m)) where
    abbrev less : Module
    less = record m { uses = m.uses - 1 }

    abbrev fewer : C.Modules
    fewer = finmap.insert old.modules handle (Loaded less)

    less_uses : Leaves old (record old { modules = fewer })
    less_uses = record {
      handles = is.handles;
      loads = refl;
      named = λ a n e. elim (cases_eq a handle) [
        | inl same ↦ (Loaded m, ap (finmap.get old.modules) same ∙ there, name n (sym e ∙ inserted_here old.modules handle (Loaded less) a same))
        | inr other ↦ (n, sym (inserted_other old.modules handle (Loaded less) a other) ∙ e, refl)
      ];
      sources = λ a n e. elim (cases_eq a handle) [
        | inl same ↦ let f : SameModule n m × (n.uses ≤ m.uses) = alike n (sym e ∙ ap module_in (inserted_here old.modules handle (Loaded less) a same)) in (m, ap (module_at old.modules) same ∙ ap module_in there, f.0, f.1)
        | inr other ↦ (n, ap module_in (sym (inserted_other old.modules handle (Loaded less) a other)) ∙ e, same_module n, omega arith)
      ];
      of_segments = λ a n q kind size code e k h. record { object = h.object; owned = h.owned };
      of_loads = λ q load kind size code e h. record { object = h.object; owned = h.owned };
      owners = owned_by fewer (λ a n e. elim (cases_eq a handle) [
        | inl same ↦ (less, ap module_in (inserted_here old.modules handle (Loaded less) a same), back n (sym e ∙ ap (module_at old.modules) same ∙ ap module_in there))
        | inr other ↦ (n, ap module_in (inserted_other old.modules handle (Loaded less) a other) ∙ e, same_module n)
      ]);
    }
      where
        name : (n : Named) → Some n ≡ Some (Loaded (record m { uses = m.uses - 1 })) → name_of n ≡ m.tables.name
        name n e = let f : n ≡ Loaded (record m { uses = m.uses - 1 }) = cc in ap name_of f

        alike : (n : Module) → Some n ≡ Some (record m { uses = m.uses - 1 }) → SameModule n m × (n.uses ≤ m.uses)
        alike n e =
            let f : n ≡ record m { uses = m.uses - 1 } = cc in
            (record { slots = ap (λ (x : Module). x.slots) f; tables = ap (λ (x : Module). x.tables) f }, subst (λ (x : Module). x.uses ≤ m.uses) (sym f) (omega arith))

        back : (n : Module) → Some n ≡ Some m → SameModule (record m { uses = m.uses - 1 }) n
        back n e = let f : m ≡ n = cc in record { slots = ap (λ (x : Module). x.slots) f; tables = ap (λ (x : Module). x.tables) f }

  used_one_less : (handle : ℕ) → Leaves old (used_less old handle)
  used_one_less handle = turn (module_at old.modules handle) refl
    where
      turn : (p : Option Module) → module_at old.modules handle ≡ p → Leaves old (world_used_less old handle p)
      turn None e = all_there
      turn (Some m) e = less_uses handle m (loaded_is (finmap.get old.modules handle) m e)

  -- a slot of a module that is left is of one segment, which was there
  was_segment : (now : LoadingWorld) → Leaves old now → (a : ℕ) (m : Module) (q : ℕ) → module_at now.modules a ≡ Some m → Member q m.slots → (was : Module) × (i : ℕ) × IsSegmentOf old q a (i + 1) was
  was_segment now l a m q e k =
      let was : (was : Module) × (module_at old.modules a ≡ Some was) × SameModule m was × (m.uses ≤ was.uses) = l.sources a m e in
      let i : (i : ℕ) × (slice_get m.slots i ≡ Some q) = member_place m.slots q k in
      (was.0, i.0, record { loaded = was.1; has = (omega arith, ap (slice_get was.0.slots) (back i.0) ∙ ap (λ s. slice_get s i.0) (sym was.2.slots) ∙ i.1) })
    where
      back : (n : ℕ) → n + 1 - 1 ≡ n
      back n = omega arith

  one_module : (now : LoadingWorld) → Leaves old now → (a b : ℕ) (m n : Module) (q : ℕ) → module_at now.modules a ≡ Some m → Member q m.slots → module_at now.modules b ≡ Some n → Member q n.slots → a ≡ b
  one_module now l a b m n q e k f j =
      let x : (was : Module) × (i : ℕ) × IsSegmentOf old q a (i + 1) was = was_segment now l a m q e k in
      let y : (was : Module) × (i : ℕ) × IsSegmentOf old q b (i + 1) was = was_segment now l b n q f j in
      (is.one_segment q a (x.1 + 1) b (y.1 + 1) x.0 y.0 x.2 y.2).0

  no_load : {A : Type 0} (now : LoadingWorld) → Leaves old now → (a : ℕ) (m : Module) (q : ℕ) (load : Load) → module_at now.modules a ≡ Some m → Member q m.slots → finmap.get old.loads q ≡ Some load → A
  no_load now l a m q load e k at =
      let x : (was : Module) × (i : ℕ) × IsSegmentOf old q a (i + 1) was = was_segment now l a m q e k in
      let r : (n : Module) × C.IsResourceOf old q load.handle load.place n = loaded_of old is q load at in
      absurd (is.no_resource q a (x.1 + 1) load.handle load.place x.0 r.0 x.2 r.1)

  -- One module more goes.
  module _ (now : LoadingWorld) (l : Leaves old now) (handle : ℕ) (m : Module) (there : finmap.get now.modules handle ≡ Some (Loaded m)) where
    abbrev mine : ℕ → Bool
    mine q = C.is_member q m.slots

    -- a module that is left is another
    still_there : (a : ℕ) (n : Named) → finmap.get (finmap.remove now.modules handle) a ≡ Some n → (a ≢ handle) × (finmap.get now.modules a ≡ Some n)
    still_there a n e = elim (cases_eq a handle) [
      | inl same ↦ no_value (finmap.get (finmap.remove now.modules handle) a) n (C.taken_here now.modules handle a same) e
      | inr other ↦ (other, sym (C.taken_other now.modules handle a other) ∙ e)
    ]

    still_loaded : (a : ℕ) (n : Module) → module_at (finmap.remove now.modules handle) a ≡ Some n → (a ≢ handle) × (module_at now.modules a ≡ Some n)
    still_loaded a n e = let r : (a ≢ handle) × (finmap.get now.modules a ≡ Some (Loaded n)) = still_there a (Loaded n) (loaded_is (finmap.get (finmap.remove now.modules handle) a) n e) in (r.0, ap module_in r.1)

    not_mine : (q : ℕ) → (Member q m.slots → ⊥) → mine q ≡ false
    not_mine q out = elim (C.cases_Bool (mine q)) [ inl t ↦ absurd (out (C.is_member-true q m.slots t)) | inr t ↦ t ]

    one_less : Leaves old (gone_with now handle m)
    one_less = record {
      handles = released_handles now.handles l.handles mine;
      loads = l.loads;
      named = λ a n e. l.named a n (still_there a n e).1;
      sources = λ a n e. l.sources a n (still_loaded a n e).1;
      of_segments = λ a n q kind size code e k h. let r : (a ≢ handle) × (module_at now.modules a ≡ Some n) = still_loaded a n e in
          stays_of now mine (finmap.remove now.modules handle) now.loads q kind size code (not_mine q (λ j. r.0 (one_module now l a handle n m q r.1 k (ap module_in there) j))) (l.of_segments a n q kind size code r.1 k h);
      of_loads = λ q load kind size code at h. stays_of now mine (finmap.remove now.modules handle) now.loads q kind size code (not_mine q (λ j. no_load now l handle m q load (ap module_in there) j at)) (l.of_loads q load kind size code at h);
      owners = λ q some. let left : (mine q ≡ false) × (is_some (owned_at now.handles q) ≡ true) = owner_left now mine (finmap.remove now.modules handle) now.loads q some in elim (l.owners q left.1) [
        | inl s ↦ inl (
          s.0,
          s.1,
          s.2,
          record {
            loaded = ap module_in
                (C.taken_other now.modules handle s.0 (λ same. false≢true
                (sym left.0 ∙ C.true-is_member q m.slots (its q s.2 (place_member s.2.slots (s.1 - 1) q s.3.has.1)
                (sym s.3.loaded ∙ ap (module_at now.modules) same ∙ ap module_in there))))) ∙ s.3.loaded;
            has = s.3.has;
          },
        )
        | inr load ↦ inr load
      ];
    }
      where
        its : (q : ℕ) (n : Module) → Member q n.slots → Some n ≡ Some m → Member q m.slots
        its q n k e = let f : n ≡ m = cc in subst (λ (x : Module). Member q x.slots) f k

  all_left : (now end : LoadingWorld) (handles : List ℕ) → Leaves old now → Go now handles end → Leaves old end
  all_left now end [] l go = subst (Leaves old) (sym go.1) l
  all_left now end (handle ∷ handles) l go =
      let idle : Idle now.modules handle = idle_parts now.modules handle go.0 in
      all_left (C.without_module now handle) end handles (subst (Leaves old) (sym (went now handle idle.idle idle.loaded)) (one_less now l handle idle.idle idle.loaded)) go.1

-- in the end none is idle
none_left : (now end : LoadingWorld) (handles : List ℕ) → Go now handles end → (handle : ℕ) → is_idle end.modules handle ≡ false
none_left now end [] go handle = ap (λ w. is_idle w.modules handle) go.1 ∙ go.0 handle
none_left now end (k ∷ handles) go handle = none_left (C.without_module now k) end handles go.1 handle

-- The sweep.
module _ (old : LoadingWorld) (is : IsLoadingWorld old) (end : LoadingWorld) (l : Leaves old end) (busy : (handle : ℕ) → is_idle end.modules handle ≡ false) where
  abbrev over : ℕ → Bool
  over q = C.is_left_over end q

  abbrev loads : FinMap nat_cmp Load
  loads = finmap.retain_keys end.loads (λ q. not (over q))

  -- what is left over, by its load
  over_by : (q : ℕ) (p : Option Load) → finmap.get end.loads q ≡ p → over q ≡ (elim p as (λ _. Bool) [ None ↦ false | Some load ↦ not (is_some (module_at end.modules load.handle)) ])
  over_by q p e = ap (λ p. elim p as (λ _. Bool) [ None ↦ false | Some load ↦ not (is_some (module_at end.modules load.handle)) ]) e

  was_load : (q : ℕ) (load : Load) → finmap.get end.loads q ≡ Some load → finmap.get old.loads q ≡ Some load
  was_load q load e = ap (λ (m : FinMap nat_cmp Load). finmap.get m q) (sym l.loads) ∙ e

  there_still : (q : ℕ) (load : Load) → over q ≡ false → finmap.get end.loads q ≡ Some load → (m : Module) × (module_at end.modules load.handle ≡ Some m)
  there_still q load t e = turn (module_at end.modules load.handle) refl (sym (over_by q (Some load) e) ∙ t)
    where
      turn : (p : Option Module) → module_at end.modules load.handle ≡ p → not (is_some p) ≡ false → (m : Module) × (module_at end.modules load.handle ≡ Some m)
      turn None f t = absurd (false≢true (sym t))
      turn (Some m) f t = (m, f)

  -- a load that is left
  left_load : (q : ℕ) (load : Load) → finmap.get loads q ≡ Some load → (over q ≡ false) × (finmap.get end.loads q ≡ Some load)
  left_load q load e = elim (C.cases_Bool (over q)) [ inl t ↦ no_value (finmap.get loads q) load (value_gone end.loads over q t) e | inr t ↦ (t, sym (value_left end.loads over q t) ∙ e) ]

  -- a segment isn't left over
  not_over : (a : ℕ) (m : Module) (q : ℕ) → module_at end.modules a ≡ Some m → Member q m.slots → over q ≡ false
  not_over a m q e k = turn (finmap.get end.loads q) refl
    where
      turn : (p : Option Load) → finmap.get end.loads q ≡ p → over q ≡ false
      turn None f = over_by q None f
      turn (Some load) f = no_load old is end l a m q load e k (was_load q load f)

  used : (a : ℕ) (m : Module) → module_at end.modules a ≡ Some m → (0 < usage end.modules a) × (m.uses ≤ MOST_USES)
  used a m e =
      let at : finmap.get end.modules a ≡ Some (Loaded m) = loaded_is (finmap.get end.modules a) m e in
      let was : (was : Module) × (module_at old.modules a ≡ Some was) × SameModule m was × (m.uses ≤ was.uses) = l.sources a m e in
      let full : was.0.uses ≤ MOST_USES = (is_used old is a was.0 was.1).1 in
      let fewer : m.uses ≤ was.0.uses = was.3 in
      (subst (λ p. 0 < C.usage_with p (importers end.modules a)) (sym at) (turn at m.uses (importers end.modules a) refl refl), omega (arith, full, fewer))
    where
      turn : finmap.get end.modules a ≡ Some (Loaded m) → (n k : ℕ) → m.uses ≡ n → importers end.modules a ≡ k → 0 < m.uses + importers end.modules a
      turn at zero zero x y = absurd (false≢true (sym (busy a) ∙ is_then_idle end.modules a (record { idle = m; loaded = at; unused = x; alone = λ i. let some : 0 < importers end.modules a = of_importer end.modules a i in absurd (omega (arith, some, y)) })))
      turn at (suc n) k x y = omega (arith, x)
      turn at zero (suc k) x y = omega (arith, y)

  numbers : (a : ℕ) (p : Option Named) → finmap.get end.modules a ≡ p → IfSome p (λ _. IsNumber a)
  numbers a None e = tt
  numbers a (Some n) e = let was : (was : Named) × (finmap.get old.modules a ≡ Some was) × (name_of n ≡ name_of was) = l.named a n e in subst (λ p. IfSome p (λ _. IsNumber a)) was.1 (is.numbers a)

  -- a module that is left, of a load
  same_still : (q : ℕ) (load : Load) (before : Module) → finmap.get loads q ≡ Some load → module_at old.modules load.handle ≡ Some before → (m : Module) × (module_at end.modules load.handle ≡ Some m) × SameModule m before
  same_still q load before e at =
      let left : (over q ≡ false) × (finmap.get end.loads q ≡ Some load) = left_load q load e in
      let m : (m : Module) × (module_at end.modules load.handle ≡ Some m) = there_still q load left.0 left.1 in
      let was : (was : Module) × (module_at old.modules load.handle ≡ Some was) × SameModule m.0 was × (m.0.uses ≤ was.uses) = l.sources load.handle m.0 m.1 in
      (m.0, m.1, subst (SameModule m.0) (one was.0 (sym was.1 ∙ at)) was.2)
    where
      one : (n : Module) → Some n ≡ Some before → n ≡ before
      one n e = cc

  pub orphans_world : IsLoadingWorld (C.without_orphans end)
  orphans_world = follows old (C.without_orphans end) is (record {
    handles = released_handles end.handles l.handles over;
    numbers = λ a. numbers a (finmap.get end.modules a) refl;
    names = λ a b x y e f t.
        let u : (was : Named) × (finmap.get old.modules a ≡ Some was) × (name_of x ≡ name_of was) = l.named a x e in
        let v : (was : Named) × (finmap.get old.modules b ≡ Some was) × (name_of y ≡ name_of was) = l.named b y f in
        is.names a b u.0 v.0 u.1 v.1 (subst (λ s. C.is_named s (name_of v.0) ≡ true) u.2 (subst (λ s. C.is_named (name_of x) s ≡ true) v.2 t));
    sources = λ a m e. let was : (was : Module) × (module_at old.modules a ≡ Some was) × SameModule m was × (m.uses ≤ was.uses) = l.sources a m e in (was.0, was.1, was.2);
    used = used;
    loads = λ q load e. let at : finmap.get old.loads q ≡ Some load = was_load q load (left_load q load e).1 in (load.loads, at, (is_load old is q load at).0, (is_load old is q load at).1);
    still = same_still;
    of_segments = λ a m q kind size code e k h. stays_of end over end.modules loads q kind size code (not_over a m q e k) (l.of_segments a m q kind size code e k h);
    of_loads = λ q load kind size code e h. let left : (over q ≡ false) × (finmap.get end.loads q ≡ Some load) = left_load q load e in
        stays_of end over end.modules loads q kind size code left.0 (l.of_loads q load kind size code (was_load q load left.1) h);
    owners = λ q some. let left : (over q ≡ false) × (is_some (owned_at end.handles q) ≡ true) = owner_left end over end.modules loads q some in elim (l.owners q left.1) [
      | inl s ↦ (s.0, s.1, s.2, inl (record { loaded = s.3.loaded; has = s.3.has }))
      | inr r ↦
          let at : finmap.get end.loads q ≡ Some r.0 = ap (λ (m : FinMap nat_cmp Load). finmap.get m q) l.loads ∙ r.1 in
          let m : (m : Module) × (module_at end.modules r.0.handle ≡ Some m) = there_still q r.0 left.0 at in
          (r.0.handle, r.0.place, m.0, inr (record { loaded = m.1; loads = r.0.loads; has = value_left end.loads over q left.0 ∙ at }))
    ];
  })

pub free_world : (old new : LoadingWorld) → IsLoadingWorld old → (handle answer : ℕ) → Frees old handle answer new → IsLoadingWorld new
free_world old new is handle answer f = subst IsLoadingWorld (sym f.after) (orphans_world old is f.left (all_left old is (used_less old _) _ f.ended.gone (used_one_less old is _) f.ended.went) (none_left (used_less old _) f.left f.ended.gone f.ended.went))
