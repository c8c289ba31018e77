-- What a module was bound to stays until it goes.
use Rattle.w16_loading.proofs.Common.{Module, ◌≡◌, Modules, ℕ, module_at, Some, ap, Option, sym, ◌∙◌, None, module_in, inl, inr, List, ◌≢◌, LoadingWorld, refl, ◌⊎◌, [], ◌∷◌, Fills, ◌+◌}
use Rattle.w16_loading.proofs.{Given.put_all, Given.given_handle, Bound.world_without, Bound.world_used_less, Stepping.family, Stepping.nothing_asked, Stepping.Parts, Answered.loaded_by}
use Rattle.w16_loading.specs.Answers.{FetchesFrom, LoadsFrom, Answers, told, GivesFrom}
use Rattle.std.specs.FinMap as finmap
use Rattle.w16_loading.proofs.Common as C
use Rattle.w16_laws.specs.Loading.{BoundOnceLaw}

abbrev pub Same : Module → Module → Type 0
Same m n = (n.values ≡ m.values) × (n.slots ≡ m.slots) × (n.imports ≡ m.imports)

-- modules that are in both have the same bindings
abbrev pub Good : Modules → Modules → Type 0
Good old new = (handle : ℕ) (m n : Module) → module_at old handle ≡ Some m → module_at new handle ≡ Some n → Same m n

equal : (m n : Module) → n ≡ m → Same m n
equal m n e = (ap (λ x. x.values) e, ap (λ x. x.slots) e, ap (λ x. x.imports) e)

one : (p : Option Module) (m n : Module) → p ≡ Some m → p ≡ Some n → Same m n
one p m n e f = let g : n ≡ m = cc in equal m n g

pub unchanged : (old new : Modules) → new ≡ old → Good old new
unchanged old new e handle m n a b = one _ m n a (sym (ap (λ x. module_at x handle) e) ∙ b)

absurd_none : {A : Type 0} (p : Option C.Named) (m : Module) → p ≡ None → module_in p ≡ Some m → A
absurd_none p m e f = let g : ◌≡◌ {A = Option Module} None (Some m) = sym (ap module_in e) ∙ f in cc

-- a handle that was free
put_new : (old : Modules) (k : ℕ) (x : C.Named) → finmap.get old k ≡ None → Good old (finmap.insert old k x)
put_new old k x none handle m n a b = elim (C.cases_eq handle k) [
  | inl e ↦ absurd_none _ m (ap (finmap.get old) e ∙ none) a
  | inr d ↦ one _ m n a (ap module_in (sym (C.inserted_other old k x _ d)) ∙ b)
]

-- another count of uses
put_uses : (old : Modules) (k : ℕ) (x : Module) (uses : ℕ) → module_at old k ≡ Some x → Good old (finmap.insert old k (C.Loaded (record x { uses = uses })))
put_uses old k x uses there handle m n a b = elim (C.cases_eq handle k) [
  | inl e ↦ here (sym a ∙ ap (module_at old) e ∙ there) (sym b ∙ ap module_in (C.inserted_here old k (C.Loaded (record x { uses = uses })) _ e))
  | inr d ↦ one _ m n a (ap module_in (sym (C.inserted_other old k (C.Loaded (record x { uses = uses })) _ d)) ∙ b)
]
  where
    here : Some m ≡ Some x → Some n ≡ Some (record x { uses = uses }) → Same m n
    here e f = let g : m ≡ x = cc in let h : n ≡ record x { uses = uses } = cc in
        (ap (λ y. y.values) h ∙ sym (ap (λ y. y.values) g), ap (λ y. y.slots) h ∙ sym (ap (λ y. y.slots) g), ap (λ y. y.imports) h ∙ sym (ap (λ y. y.imports) g))

-- Loads.

new_modules : (old : Modules) (module_of : C.Given → Module) (fs : List C.Found) (hs : List ℕ) (ss : List (List ℕ)) → ((k : ℕ) → C.Member k hs → finmap.get old k ≡ None) → Good old (C.with_modules module_of (C.given_from 0 fs hs ss) old)
new_modules old module_of fs hs ss free handle m n a b = one _ m n a (ap module_in (sym (put_all _ _ old _ out)) ∙ b)
  where
    out : (g : C.Given) → C.Member g (C.given_from 0 fs hs ss) → handle ≢ g.handle
    out g mem e = absurd_none _ m (ap (finmap.get old) e ∙ free _ (given_handle 0 fs hs ss g mem)) a

fulfilled : (gives : C.Giving) (old : LoadingWorld) (closure : C.Closure) (answer : C.Answer) (new : LoadingWorld) → C.Fulfils gives old closure answer new → Good old.modules new.modules
fulfilled gives old closure answer new f = C.subst (λ w. Good old.modules w.modules) (sym f.after) (turn _)
  where
    turn : (failure : Option C.Failure) → Good old.modules (C.left failure (C.with_heap (C.named old closure f.choice) f.heap) (C.undone old f.choice f.heap)).modules
    turn (Some failure) = unchanged _ _ refl
    turn None = new_modules old.modules (C.bound old closure _) closure.found f.choice.handles f.choice.slots (λ k m. (C.Each-at (C.IsFreeModule _) f.choice.handles (C.Each-from_All _ _ f.is_choice.free) k m).2)

-- Uses that end.

left_good : (old mid new : Modules) → Good old mid → ((handle : ℕ) → (module_at new handle ≡ None) ⊎ (module_at new handle ≡ module_at mid handle)) → Good old new
left_good old mid new good l handle m n a b = turn (l _)
  where
    turn : (module_at new handle ≡ None) ⊎ (module_at new handle ≡ module_at mid handle) → Same m n
    turn (inl e) = let h : ◌≡◌ {A = Option Module} None (Some n) = sym e ∙ b in cc
    turn (inr e) = good _ m n a (sym e ∙ b)

gone_one : (old : LoadingWorld) (k handle : ℕ) → (module_at (C.without_module old k).modules handle ≡ None) ⊎ (module_at (C.without_module old k).modules handle ≡ module_at old.modules handle)
gone_one old k handle = turn (module_at old.modules k)
  where
    removed : (module_at (finmap.remove old.modules k) handle ≡ None) ⊎ (module_at (finmap.remove old.modules k) handle ≡ module_at old.modules handle)
    removed = elim (C.cases_eq handle k) [ inl e ↦ inl (ap module_in (C.taken_here old.modules k handle e)) | inr d ↦ inr (ap module_in (C.taken_other old.modules k handle d)) ]

    turn : (p : Option Module) → (module_at (world_without old k p).modules handle ≡ None) ⊎ (module_at (world_without old k p).modules handle ≡ module_at old.modules handle)
    turn None = inr refl
    turn (Some m) = removed

gone : (old : LoadingWorld) (ks : List ℕ) (new : LoadingWorld) → C.Go old ks new → (handle : ℕ) → (module_at new.modules handle ≡ None) ⊎ (module_at new.modules handle ≡ module_at old.modules handle)
gone old [] new f handle = inr (ap (λ w. module_at w.modules handle) f.1)
gone old (k ∷ ks) new f handle = turn (gone (C.without_module old k) ks new f.1 handle) (gone_one old k handle)
  where
    turn : (module_at new.modules handle ≡ None) ⊎ (module_at new.modules handle ≡ module_at (C.without_module old k).modules handle)
        → (module_at (C.without_module old k).modules handle ≡ None) ⊎ (module_at (C.without_module old k).modules handle ≡ module_at old.modules handle)
        → (module_at new.modules handle ≡ None) ⊎ (module_at new.modules handle ≡ module_at old.modules handle)
    turn (inl e) f = inl e
    turn (inr e) (inl f) = inl (e ∙ f)
    turn (inr e) (inr f) = inr (e ∙ f)

less_used : (old : LoadingWorld) (k : ℕ) → Good old.modules (C.used_less old k).modules
less_used old k = turn _ refl
  where
    turn : (p : Option Module) → module_at old.modules k ≡ p → Good old.modules (world_used_less old k p).modules
    turn None e = unchanged _ _ refl
    turn (Some m) e = put_uses _ k m _ e

freed : (old : LoadingWorld) (k answer : ℕ) (new : LoadingWorld) → C.Frees old k answer new → Good old.modules new.modules
freed old k answer new f = C.subst (λ w. Good old.modules w.modules) (sym f.after) (left_good old.modules (C.used_less old k).modules f.left.modules (less_used old k) (gone (C.used_less old k) f.ended.gone f.left f.ended.went))

-- Steps.

pub bound_law : (honest : Type 0) → BoundOnceLaw honest
bound_law honest format old new command reply step = family (FetchesFrom Fills answers) (LoadsFrom Fills answers) (λ slice. Unit {0}) old Bound parts (record new { failures = old.failures }) reply command (nothing_asked command) step.step
  where
    answers : Answers
    answers = told honest format old.files old.failures new.failures

    Bound : LoadingWorld → Type 0
    Bound world = Good old.modules world.modules

    same : Good old.modules old.modules
    same = unchanged old.modules old.modules refl

    parts : Parts (FetchesFrom Fills answers) (LoadsFrom Fills answers) (λ slice. Unit {0}) old Bound
    parts = record {
      start = same;
      handles = λ command reply next step. same;
      resizes = λ command reply next step. same;
      reads = λ selector offset n world good. good;
      writes = λ selector offset slice world ours good. good;
      fetched = λ slot fault next f. unchanged old.modules next.modules (ap (λ w. w.modules) f.rest);
      built = λ name handle none free. put_new old.modules handle (C.BuiltIn name) free.2;
      loaded = λ b file answer next f. loaded_by answers old (λ answer. Bound) (λ answer. same) b file answer next
          (λ handle m there few. put_uses old.modules handle m (m.uses + 1) (ap module_in there)) (λ closure facts. fulfilled (GivesFrom Fills answers) old closure answer next) f;
      freed = λ handle answer new f. freed old handle answer new f;
      counted = λ slot load count there some few. same;
      made = λ slot handle place r fault next free at none f. unchanged old.modules next.modules (ap (λ w. w.modules) f.rest);
      locks = λ handle world good. good;
      last = λ slot load there. same;
    }
