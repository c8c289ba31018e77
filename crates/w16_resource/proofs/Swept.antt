-- The resources of modules that are gone go slot by slot, or all at once.
use Rattle.w16_resource.proofs
use proofs.Common as C
use proofs.Common.{Bool, List, LoadingWorld, None, Some, [], ap, arith, cases_eq, cond, false, filter, inl, inr, is_left_over, is_some, not, refl, retained, subst, sym}
use proofs.Common.{true, with_handles, without_load, without_orphan, without_orphans, without_slot, ℕ, ◌+◌, ◌<◌, ◌==◌, ◌||◌, ◌∙◌, ◌∷◌, ◌≡◌}
use proofs.Common.{◌≤◌}
use proofs.Taken.{one_gone, slot_gone}
use Rattle.std.specs.FinMap as finmap
use Rattle.w16_loading.specs.Modules as loading

-- whether a slot's is one, by its load
abbrev by_load : C.Modules → C.Option loading.Load → Bool
by_load modules p = elim p [ None ↦ false | Some load ↦ not (is_some (C.module_at modules load.handle)) ]

-- Some go and then others, or all at once.
module _ (a b c : ℕ → Bool) (all : (q : ℕ) → (a q || b q) ≡ c q) where
  either : {X : Type 0} (s t : Bool) (x y : X) → cond (not t) (cond (not s) x y) y ≡ cond (not (s || t)) x y
  either true true x y = refl
  either true false x y = refl
  either false t x y = refl

  twice : {X : Type 0} (m : C.FinMap C.nat_cmp X) → finmap.retain_keys (finmap.retain_keys m (λ q. not (a q))) (λ q. not (b q)) ≡ finmap.retain_keys m (λ q. not (c q))
  twice m = C.same_values (finmap.retain_keys (finmap.retain_keys m (λ q. not (a q))) (λ q. not (b q))) (finmap.retain_keys m (λ q. not (c q))) (λ q.
      retained (finmap.retain_keys m (λ q. not (a q))) b q ∙ ap (λ p. cond (not (b q)) p None) (retained m a q) ∙ either (a q) (b q) (finmap.get m q) None
      ∙ ap (λ t. cond (not t) (finmap.get m q) None) (all q) ∙ sym (retained m c q))

  one_filtered : (x : ℕ) (inner rest : List ℕ) → filter (λ q. not (b q)) inner ≡ rest → (s : Bool) → (s || b x) ≡ c x
      → filter (λ q. not (b q)) (cond {A = List ℕ} (not s) (x ∷ inner) inner) ≡ cond {A = List ℕ} (not (c x)) (x ∷ rest) rest
  one_filtered x inner rest same true e = same ∙ ap (λ t. cond {A = List ℕ} (not t) (x ∷ rest) rest) e
  one_filtered x inner rest same false e = ap (λ (l : List ℕ). cond {A = List ℕ} (not (b x)) (x ∷ l) l) same ∙ ap (λ t. cond {A = List ℕ} (not t) (x ∷ rest) rest) e

  filtered : (xs : List ℕ) → filter (λ q. not (b q)) (filter (λ q. not (a q)) xs) ≡ filter (λ q. not (c q)) xs
  filtered [] = refl
  filtered (x ∷ xs) = one_filtered x (filter (λ q. not (a q)) xs) (filter (λ q. not (c q)) xs) (filtered xs) (a x) (all x)

module _ (world : LoadingWorld) (slot : ℕ) where
  -- what goes when it has gone
  one_less : is_left_over world slot ≡ true → (q : ℕ) → ((q == slot) || is_left_over (without_load world slot) q) ≡ is_left_over world q
  one_less mine q = elim (cases_eq q slot) [
    | inl e ↦ ap (λ b. b || is_left_over (without_load world slot) q) (C.eq-eqb q slot e) ∙ sym (ap (is_left_over world) e ∙ mine)
    | inr d ↦ ap (λ b. b || is_left_over (without_load world slot) q) (C.ne_eqb q slot d) ∙ ap (by_load world.modules) (C.taken_other world.loads slot q d)
  ]

  abbrev later : ℕ → Bool
  later q = is_left_over (without_load world slot) q

  after_one : is_left_over world slot ≡ true → without_orphans (without_load world slot) ≡ without_orphans world
  after_one mine = λ i. record world {
    handles = record world.handles {
      heap = record world.handles.heap {
        objects = twice (λ q. q == slot) later (is_left_over world) (one_less mine) world.handles.heap.objects i;
        places = twice (λ q. q == slot) later (is_left_over world) (one_less mine) world.handles.heap.places i;
        order = filtered (λ q. q == slot) later (is_left_over world) (one_less mine) world.handles.heap.order i;
      };
      attributes = twice (λ q. q == slot) later (is_left_over world) (one_less mine) world.handles.attributes i;
    };
    loads = (ap (λ m. finmap.retain_keys m (λ q. not (later q))) (one_gone world.loads slot) ∙ twice (λ q. q == slot) later (is_left_over world) (one_less mine) world.loads) i;
  }

  pub sweeps_on : without_orphans (without_orphan world slot) ≡ without_orphans world
  sweeps_on = by (is_left_over world slot) refl
    where
      by : (b : Bool) → is_left_over world slot ≡ b → without_orphans (cond b (without_load world slot) world) ≡ without_orphans world
      by true e = after_one e
      by false e = refl

  -- and it is none any more
  pub swept_here : is_left_over (without_orphan world slot) slot ≡ false
  swept_here = by (is_left_over world slot) refl
    where
      by : (b : Bool) → is_left_over world slot ≡ b → is_left_over (cond b (without_load world slot) world) slot ≡ false
      by true e = ap (by_load world.modules) (C.taken_here world.loads slot slot refl)
      by false e = e

  -- others stay
  pub swept_other : (q : ℕ) → is_left_over world q ≡ false → is_left_over (without_orphan world slot) q ≡ false
  swept_other q none = by (is_left_over world slot) refl
    where
      by : (b : Bool) → is_left_over world slot ≡ b → is_left_over (cond b (without_load world slot) world) q ≡ false
      by true e = elim (cases_eq q slot) [
        | inl same ↦ ap (by_load world.modules) (C.taken_here world.loads slot q same)
        | inr other ↦ ap (by_load world.modules) (C.taken_other world.loads slot q other) ∙ none
      ]
      by false e = none

-- where none is left, all stays
pub all_swept : (world : LoadingWorld) → ((q : ℕ) → is_left_over world q ≡ false) → without_orphans world ≡ world
all_swept world out = λ i. record (C.none_gone (is_left_over world) world out i) { loads = C.all_retained world.loads (is_left_over world) out i }

-- One slot.
module _ (world : LoadingWorld) (slot : ℕ) where
  -- its resource goes where its module isn't there
  pub no_module : (load : loading.Load) → finmap.get world.loads slot ≡ Some load → is_some (C.module_at world.modules load.handle) ≡ false
      → record (with_handles world (without_slot world.handles slot)) { loads = finmap.remove world.loads slot } ≡ without_orphan world slot
  no_module load there none = ap (λ (w : LoadingWorld). record w { loads = finmap.remove world.loads slot }) (slot_gone world slot)
      ∙ sym (ap (λ p. cond (by_load world.modules p) (without_load world slot) world) there ∙ ap (λ b. cond (not b) (without_load world slot) world) none)

pub mapped_some : {X Y : Type 0} (p : C.Option X) (f : X → Y) → is_some (C.option_map f p) ≡ is_some p
mapped_some None f = refl
mapped_some (Some x) f = refl

-- Slots one after another.
pub next_done : (world next : LoadingWorld) (slot : ℕ) → next ≡ without_orphan world slot → ((q : ℕ) → q < slot → is_left_over world q ≡ false) → (q : ℕ) → q < slot + 1 → is_left_over next q ≡ false
next_done world next slot same done q lt = subst (λ w. is_left_over w q ≡ false) (sym same) (elim (cases_eq q slot) [
  | inl e ↦ subst (λ k. is_left_over (without_orphan world slot) k ≡ false) (sym e) (swept_here world slot)
  | inr d ↦ swept_other world slot q (done q (let f = d in omega (arith, lt, f)))
])

-- where none is left up to here, and none was after
pub none_left : (old world : LoadingWorld) (end slot : ℕ) → ((q : ℕ) → q < slot → is_left_over world q ≡ false) → end ≤ slot → ((q : ℕ) → end ≤ q → finmap.get old.loads q ≡ None)
    → ((q : ℕ) → is_left_over old q ≡ false → is_left_over world q ≡ false) → world ≡ without_orphans world
none_left old world end slot done le none behind = sym (all_swept world (λ q. elim (C.cases_lt q slot) [
  | inl lt ↦ done q lt
  | inr ge ↦ behind q (ap (by_load old.modules) (none q (omega (arith, ge, le))))
]))
