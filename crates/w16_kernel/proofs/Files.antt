-- A world stays one, and all that is loaded stays as its file says, where a file comes under a name that no file had, or one goes from which nothing is loaded.

use Rattle.w16_kernel.proofs.Common.{◌≡◌, ℕ, Bool, true, false, cond, List, [], ◌∷◌, Option, Some, None, Ok, Err, IfSome, IsSomeAnd, ◌+◌, ◌<◌, ◌≤◌, is_some}
use Rattle.w16_kernel.proofs.Common.{subst, refl, sym, ap, ◌∙◌, false≢true, Module, module_at, ne_format, World, LoadingWorld, IsWorldOver, IsLoadingWorld}
use Rattle.w16_store.proofs.{Finding.file_of-nil, Finding.file_of-cons, Naming.named_by}
use Rattle.w16_store.specs.{Files.file_of, Files.AreWith, Files.AreWithout, Names.is_named}
use Rattle.std.specs.Prelude.{Result, OnOk, OnErr, IsTrue, IsFalse}
use Rattle.w16_kernel.specs.{Growing.Growing, Growing.IsLoadedFrom, Growing.RemovesFile, declared.growing.AddFault.AddFault}
use Rattle.w16_loading.specs.{File.ModuleFile, Law.IsOfFiles}
use Rattle.w16_loading.specs.declared.TheConstants.{FIRST_MODULE, MOST_MODULES}
use Rattle.w16_loading.proofs.Given.{loaded_is}
use Rattle.std.specs.FinMap as finmap
use Rattle.w16_loading.proofs.Worlds.{follows, same_module, is_used, is_load, owner_stays}

-- equal names are of the same file
file_alike : (files : List (List ℕ × List ℕ)) (a b : List ℕ) → is_named a b ≡ true → file_of files a ≡ file_of files b
file_alike [] a b h = file_of-nil a ∙ sym (file_of-nil b)
file_alike (f ∷ fs) a b h = rw (file_of-cons f fs a, file_of-cons f fs b, named_by f.0 a b h, file_alike fs a b h) refl

abbrev with_files : World → List (List ℕ × List ℕ) → World
with_files w files = record w { loading = record w.loading { files = files } }

module _ (honest : Type 0) (old : World) (is : IsWorldOver honest old) (files : List (List ℕ × List ℕ))
    (same : (handle : ℕ) (m : Module) → module_at old.loading.modules handle ≡ Some m → is_some (file_of old.loading.files m.file) ≡ true
    → file_of files m.file ≡ file_of old.loading.files m.file) where
  abbrev other : LoadingWorld
  other = record old.loading { files = files }

  was_there : (P : ModuleFile → Type 0) (p : Option (List ℕ))
      → IsSomeAnd (elim p as (λ _. Option ModuleFile) [
        | None ↦ None
        | Some file ↦ elim (ne_format.says file) as (λ _. Option ModuleFile)
            [ Ok read ↦ Some read | Err _ ↦ None ]
      ]) P → is_some p ≡ true
  was_there P None h = absurd h
  was_there P (Some file) h = refl

  of_files : IsOfFiles ne_format old.loading → IsOfFiles ne_format other
  unfolding file_of
  of_files of = record {
    code = λ slot handle number m s coded. rw (its_file m handle s.loaded) (of.code slot handle number m (record { loaded = s.loaded; has = s.has }) coded);
    modules = λ handle m e. rw (its_file m handle e) (of.modules handle m e);
  }
    where
      its_file : (m : Module) (handle : ℕ) → module_at old.loading.modules handle ≡ Some m → file_of files m.file ≡ file_of old.loading.files m.file
      its_file m handle e = same handle m e (was_there _ (file_of old.loading.files m.file) (of.modules handle m e))

  loading : IsLoadingWorld other
  loading = follows old.loading other is.0.loading (record {
    handles = is.0.loading.handles;
    numbers = is.0.loading.numbers;
    names = is.0.loading.names;
    sources = λ handle m e. (m, e, same_module m);
    used = is_used old.loading is.0.loading;
    loads = λ slot load e. let l = is_load old.loading is.0.loading slot load e in (load.loads, e, l.0, l.1);
    still = λ slot load before at e. (before, e, same_module before);
    of_segments = λ handle m slot kind size code e k h. record { object = h.object; owned = h.owned };
    of_loads = λ slot load kind size code e h. record { object = h.object; owned = h.owned };
    owners = owner_stays old.loading is.0.loading other (λ handle m e. (m, e, same_module m)) (λ slot load e. (load.loads, e));
  })

  world_with : IsWorldOver honest (with_files old files)
  world_with = (record { loading = loading; heaps = record { handles = is.0.heaps.handles; heaps = is.0.heaps.heaps }; uncoded = is.0.uncoded }, λ h. of_files (is.1 h))

-- so it does whatever becomes of an addition
pub kept_grown : (honest : Type 0) (w : World) (store new : Growing) (name bytes : List ℕ) (result : Result (Unit {0}) AddFault) → IsWorldOver honest (with_files w store.files)
    → OnOk result (file_of store.files name ≡ None) → OnOk result (AreWith name bytes store.files new.files) → OnErr result (new ≡ store) → IsWorldOver honest (with_files w new.files)
kept_grown honest w store new name bytes (Ok _) is unnamed added same = world_with honest (with_files w store.files) is new.files (λ handle m e there. turn m.file there (is_named name m.file) refl)
  where
    turn : (file : List ℕ) → is_some (file_of store.files file) ≡ true → (b : Bool) → is_named name file ≡ b → file_of new.files file ≡ file_of store.files file
    turn file there true e = absurd (false≢true (ap is_some (sym (sym (file_alike store.files name file e) ∙ unnamed)) ∙ there))
    turn file there false e = added file ∙ ap (λ b. cond b (Some bytes) (file_of store.files file)) e
kept_grown honest w store new name bytes (Err fault) is unnamed added same = subst (λ (s : Growing). IsWorldOver honest (with_files w s.files)) (sym same) is

-- no module is loaded from a file where none is among the handles that there are
module _ (w : World) (honest : Type 0) (is : IsWorldOver honest w) (name : List ℕ)
    (others : (handle : ℕ) (m : Module) → handle < FIRST_MODULE + MOST_MODULES → module_at w.loading.modules handle ≡ Some m → is_named name m.file ≡ false) where
  of_another : (handle : ℕ) (m : Module) → module_at w.loading.modules handle ≡ Some m → is_named name m.file ≡ false
  of_another handle m e =
      let there = loaded_is (finmap.get w.loading.modules handle) m e in
      let inside = subst (λ p. IfSome p (λ _. (FIRST_MODULE ≤ handle) × (handle < FIRST_MODULE + MOST_MODULES))) there (is.0.loading.numbers handle) in
      others handle m inside.1 e

  pub unused : IsLoadedFrom w.loading.modules name → ⊥
  unused from = false≢true (sym (of_another from.handle from.m from.loaded) ∙ from.named)

  pub kept_without : (files : List (List ℕ × List ℕ)) → AreWithout name w.loading.files files → IsWorldOver honest (with_files w files)
  kept_without files gone = world_with honest w is files (λ handle m e there. gone m.file ∙ ap (λ b. cond b None (file_of w.loading.files m.file)) (of_another handle m e))

-- so it does whether a file is taken away or not
pub kept_removed : (honest : Type 0) (w : World) (store new : Growing) (name : List ℕ) (b : Bool) → IsWorldOver honest (with_files w store.files)
    → (IsTrue b → AreWithout name store.files new.files) → (IsFalse b → new ≡ store)
    → ((handle : ℕ) (m : Module) → handle < FIRST_MODULE + MOST_MODULES → module_at w.loading.modules handle ≡ Some m → is_named name m.file ≡ false) → IsWorldOver honest (with_files w new.files)
kept_removed honest w store new name true is gone same others = kept_without (with_files w store.files) honest is name others new.files (gone refl)
kept_removed honest w store new name false is gone same others = subst (λ (s : Growing). IsWorldOver honest (with_files w s.files)) (sym (same refl)) is

pub removes : (honest : Type 0) (w : World) (before after : List (List ℕ × List ℕ)) (name : List ℕ) → IsWorldOver honest (with_files w before)
    → true ≡ is_some (file_of before name) → AreWithout name before after
    → ((handle : ℕ) (m : Module) → handle < FIRST_MODULE + MOST_MODULES → module_at w.loading.modules handle ≡ Some m → is_named name m.file ≡ false)
    → RemovesFile (with_files w before) name (with_files w after)
removes honest w before after name is had gone others = record { unused = unused (with_files w before) honest is name others; had = sym had; files = gone; rest = refl }

pub none_had : {X : Type 0} (o : Option X) → false ≡ is_some o → o ≡ None
none_had None e = refl
none_had (Some x) e = absurd (false≢true e)
