-- A module in another number of uses.
use Rattle.w16_loader.proofs
use proofs.Common.{◌≡◌, ℕ, ◌+◌, ◌-◌, Bool, true, false, cond, if◌then◌else◌, nat_lt, Option, Some, None, refl, sym, ap, ◌∙◌, IsTrue, IsFalse, MOST_USES, LoadingWorld, Module, Modules, Named, module_in, module_at, Loaded, BuiltIn, used_again, after_use, Says, used_less, in_world}
use Rattle.w16_model.proofs.Maps.{put_same, put_where_taken}
use Rattle.std.specs.FinMap as finmap

pub loaded_in : (named : Option Named) (m : Module) → module_in named ≡ Some m → named ≡ Some (Loaded m)
loaded_in None m e = cc
loaded_in (Some (Loaded n)) m e = cc
loaded_in (Some (BuiltIn name)) m e = cc

-- Where there is no module, nothing changes.
module _ (rest : LoadingWorld) (old new : Modules) (handle : ℕ) (none : None ≡ module_at old handle) (same : new ≡ old) where
  pub none_used : used_again false (in_world rest old) handle (finmap.get old handle) ≡ (Says handle, in_world rest new)
  none_used = turn (finmap.get old handle) none ∙ ap (λ x. (Says handle, in_world rest x)) (sym same)
    where
      turn : (p : Option Named) → None ≡ module_in p → used_again false (in_world rest old) handle p ≡ (Says handle, in_world rest old)
      turn None e = refl
      turn (Some (Loaded m)) e = cc
      turn (Some (BuiltIn name)) e = refl

  pub none_less : in_world rest new ≡ used_less (in_world rest old) handle
  none_less = rw (same, sym none, used_less) refl

pub use_imports : (room : Bool) (lent other : Module) → (IsTrue room → other ≡ record lent { uses = lent.uses + 1 }) → (IsFalse room → other ≡ lent) → other.imports ≡ lent.imports
use_imports true lent other more full = ap (λ x. x.imports) (more refl)
use_imports false lent other more full = ap (λ x. x.imports) (full refl)

-- A module that was taken out, lent to be changed, and put back as another.
module _ (rest : LoadingWorld) (old between new : Modules) (handle : ℕ) (m lent other : Module) (there : Some m ≡ module_at old handle) (gone : between ≡ finmap.remove old handle) (put : new ≡ finmap.insert between handle (Loaded other)) (same : lent ≡ m) where
  put_in : new ≡ finmap.insert old handle (Loaded other)
  put_in = put ∙ ap (λ modules. finmap.insert modules handle (Loaded other)) gone ∙ put_where_taken old handle (Loaded other)

  was : finmap.get old handle ≡ Some (Loaded m)
  was = loaded_in (finmap.get old handle) m (sym there)

  pub more_of_module : (room : Bool) → room ≡ nat_lt lent.uses MOST_USES → (IsTrue room → other ≡ record lent { uses = lent.uses + 1 }) → (IsFalse room → other ≡ lent)
      → used_again false (in_world rest old) handle (finmap.get old handle) ≡ (Says (if room then handle else 0), in_world rest new)
  more_of_module room is more full = ap (used_again false (in_world rest old) handle) was ∙ from room (is ∙ ap (λ (x : Module). nat_lt x.uses MOST_USES) same) more full
    where
      from : (room : Bool) → room ≡ nat_lt m.uses MOST_USES → (IsTrue room → other ≡ record lent { uses = lent.uses + 1 }) → (IsFalse room → other ≡ lent)
          → used_again false (in_world rest old) handle (Some (Loaded m)) ≡ (Says (if room then handle else 0), in_world rest new)
      from true is more full =
          ap (λ b. cond b (Says handle, after_use (in_world rest old) handle m) (Says 0, in_world rest old)) (sym is)
          ∙ ap (λ modules. (Says handle, in_world rest modules)) (sym (put_in ∙ ap (λ x. finmap.insert old handle (Loaded x)) (more refl ∙ ap (λ (x : Module). record x { uses = x.uses + 1 }) same)))
      from false is more full =
          ap (λ b. cond b (Says handle, after_use (in_world rest old) handle m) (Says 0, in_world rest old)) (sym is)
          ∙ ap (λ modules. (Says 0, in_world rest modules)) (sym (put_in ∙ ap (λ x. finmap.insert old handle (Loaded x)) (full refl ∙ same) ∙ put_same old handle (Loaded m) was))

  pub less_of_module : other ≡ record lent { uses = lent.uses - 1 } → in_world rest new ≡ used_less (in_world rest old) handle
  less_of_module less = rw (put_in, less, same, sym there, used_less) refl
