-- Modules that are unused go to one end, whichever goes first.
use Rattle.w16_loading.proofs.Common.{ℕ, Bool, not, ◌≡◌, ◌∙◌, ap, cond, None, sym, true, refl, false, inl, taken_here, inr, taken_other, ◌≢◌, List, Go, without_module, [], ◌∷◌, ◌⊎◌, subst}
use Rattle.w16_loading.proofs.Importers.{Idle, HasImporter, is_then_idle, idle_parts}
use Rattle.w16_loading.proofs.{Absences.same_values, Undone.retained, Cascade.gone_with, Cascade.went}
use Rattle.std.specs.FinMap as finmap
use Rattle.w16_loading.proofs.Common as C
use Rattle.w16_laws.specs.Loading.{OneEndLaw}

-- the order in which two go doesn't matter
pub retained_swapped : {X : Type 0} (m : C.FinMap C.nat_cmp X) (a b : ℕ → Bool)
    → finmap.retain_keys (finmap.retain_keys m (λ q. not (a q))) (λ q. not (b q)) ≡ finmap.retain_keys (finmap.retain_keys m (λ q. not (b q))) (λ q. not (a q))
retained_swapped m a b = same_values _ _ (λ q.
    retained (finmap.retain_keys m (λ q. not _)) b q ∙ ap (λ p. cond (not (b q)) p None) (retained m a q)
    ∙ swapped (a q) (b q) (finmap.get m q)
    ∙ sym (retained (finmap.retain_keys m (λ q. not _)) a q ∙ ap (λ p. cond (not (a q)) p None) (retained m b q)))
  where
    swapped : {X : Type 0} (s t : Bool) (p : C.Option X) → cond (not t) (cond (not s) p None) None ≡ cond (not s) (cond (not t) p None) None
    swapped true true p = refl
    swapped true false p = refl
    swapped false true p = refl
    swapped false false p = refl

pub removed_swapped : {X : Type 0} (m : C.FinMap C.nat_cmp X) (a b : ℕ) → finmap.remove (finmap.remove m a) b ≡ finmap.remove (finmap.remove m b) a
removed_swapped m a b = same_values _ _ (λ q. elim (C.cases_eq q a) [
  | inl e ↦ elim (C.cases_eq q b) [
    | inl f ↦ taken_here _ b q f ∙ sym (taken_here _ a q e)
    | inr f ↦ taken_other _ b q f ∙ taken_here m a q e ∙ sym (taken_here _ a q e)
  ]
  | inr d ↦ elim (C.cases_eq q b) [
    | inl f ↦ taken_here _ b q f ∙ sym (taken_other _ a q d ∙ taken_here m b q f)
    | inr f ↦ taken_other _ b q f ∙ taken_other m a q d ∙ sym (taken_other _ a q d ∙ taken_other m b q f)
  ]
])

-- what is idle stays idle until it goes
stays_idle : (world : C.LoadingWorld) (handle k : ℕ) (m : C.Module) → k ≢ handle → Idle world.modules k → Idle (gone_with world handle m).modules k
stays_idle world handle k m d h = record {
  idle = h.idle;
  loaded = taken_other _ _ k d ∙ h.loaded;
  unused = h.unused;
  alone = λ i. h.alone (record { who = i.who; importer = i.importer; there = before i; other = i.other; uses = i.uses });
}
  where
    before : (i : HasImporter (finmap.remove world.modules handle) k) → finmap.get world.modules i.who ≡ C.Some i.importer
    before i = elim (C.cases_eq _ _) [
      | inl e ↦ absurd (none (sym (C.taken_here _ _ _ e) ∙ i.there))
      | inr f ↦ sym (taken_other _ _ _ f) ∙ i.there
    ]
      where
        none : ◌≡◌ {A = C.Option C.Named} None (C.Some i.importer) → ⊥
        none e = cc

-- two go in either order
swapped : (world : C.LoadingWorld) (a b : ℕ) (m n : C.Module) → gone_with (gone_with world a m) b n ≡ gone_with (gone_with world b n) a m
swapped world a b m n = λ i. record world {
  handles = record world.handles {
    heap = record world.handles.heap {
      objects = retained_swapped world.handles.heap.objects in_m in_n i;
      places = retained_swapped world.handles.heap.places in_m in_n i;
      order = C.filter_swapped (λ q. not (in_n q)) (λ q. not (in_m q)) world.handles.heap.order i;
    };
    attributes = retained_swapped world.handles.attributes in_m in_n i;
  };
  modules = removed_swapped world.modules a b i;
}
  where
    in_m : ℕ → Bool
    in_m q = C.is_member q m.slots

    in_n : ℕ → Bool
    in_n q = C.is_member q n.slots

-- what is idle may go first
goes_first : (old : C.LoadingWorld) (k : ℕ) → Idle old.modules k → (xs : List ℕ) (end : C.LoadingWorld) → Go old xs end → (rest : List ℕ) × Go (without_module old k) rest end
goes_first old k idle [] end go = absurd (C.false≢true (sym (go.0 k) ∙ is_then_idle old.modules k idle))
goes_first old k idle (x ∷ xs) end go = turn (λ later. goes_first (without_module old x) k later xs end go.1) (C.cases_eq k x)
  where
    first : Idle old.modules x
    first = idle_parts old.modules x go.0

    turn : (Idle (without_module old x).modules k → (rest : List ℕ) × Go (without_module (without_module old x) k) rest end) → (k ≡ x) ⊎ (k ≢ x) → (rest : List ℕ) × Go (without_module old k) rest end
    turn again (inl e) = (xs, subst (λ h. Go (without_module old h) xs end) (sym e) go.1)
    turn again (inr d) =
        let later = subst (λ w. Idle w.modules k) (sym (went old x first.idle first.loaded)) (stays_idle old x k first.idle d idle) in
        let rest = again later in
        let sooner = stays_idle old k x idle.idle (λ e. d (sym e)) first in
        let same = both_ways later sooner in (
          x ∷ rest.0,
          (
            subst (λ w. C.is_idle w.modules x ≡ true) (sym (went old k idle.idle idle.loaded)) (is_then_idle (gone_with old k idle.idle).modules x sooner),
            subst (λ w. Go w rest.0 end) same rest.1,
          ),
        )
      where
        both_ways : Idle (without_module old x).modules k → Idle (gone_with old k idle.idle).modules x → without_module (without_module old x) k ≡ without_module (without_module old k) x
        both_ways later sooner =
            ap (λ w. without_module w k) (went old x first.idle first.loaded)
            ∙ went (gone_with old x first.idle) k idle.idle (taken_other old.modules x k d ∙ idle.loaded)
            ∙ swapped old x k first.idle idle.idle
            ∙ sym (ap (λ w. without_module w x) (went old k idle.idle idle.loaded) ∙ went (gone_with old k idle.idle) x first.idle (taken_other old.modules k x (λ e. d (sym e)) ∙ first.loaded))

pub one_end_law : OneEndLaw
one_end_law old a b [] [] go other = go.1 ∙ sym other.1
one_end_law old a b (x ∷ xs) [] go other = absurd (C.false≢true (sym (other.0 x) ∙ go.0))
one_end_law old a b xs (y ∷ ys) go other =
    let rest = goes_first old y (idle_parts _ y other.0) xs a go in
    one_end_law (without_module old y) a b rest.0 ys rest.1 other.1
