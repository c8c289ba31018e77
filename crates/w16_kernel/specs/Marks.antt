-- Modules that a table of a client's marks, a byte for each handle: which of the others was loaded next, and which the end of a use frees next.
use Rattle.std.specs.Prelude.{◌≡◌, ◌≢◌, ◌<◌, ◌≤◌, ℕ, Bool, true, false, not, ◌&&◌, ◌==◌, nat_lt, min, if◌then◌else◌, List, [], ◌∷◌, length, slice_index_or, Option, Some, None, is_some}
use Rattle.w16_loading.specs.Modules.{Module, Modules, imports, module_at}
use Rattle.w16_kernel.specs.declared.kernel.marks.TheConstants.{MODULE_HANDLES}
use Rattle.std.specs.FinMap as finmap

-- whether a table marks a handle; it doesn't where it has no byte for it
abbrev pub is_marked : List ℕ → ℕ → Bool
is_marked marks handle = not (slice_index_or marks handle 0 == 0)

-- how many handles a table has a byte for, of those that a module may have
abbrev pub told_handles : List ℕ → ℕ
told_handles marks = min (length marks) MODULE_HANDLES

-- a module is new: a table has a byte for its handle, and doesn't mark it
unfoldable pub is_new : Modules → List ℕ → ℕ → Bool
is_new modules marks handle = nat_lt handle (told_handles marks) && not (is_marked marks handle) && is_some (module_at modules handle)

-- a module's file refers to a module or a built-in
unfoldable pub refers_to : Modules → ℕ → ℕ → Bool
refers_to modules handle other = elim (finmap.get modules handle) [ None ↦ false | Some n ↦ imports n other ]

-- a module leads to another by these, each of which the one before refers to; to itself by none
abbrev pub RefersBy : Modules → List ℕ → ℕ → ℕ → Type 0
RefersBy modules [] handle other = handle ≡ other
RefersBy modules (next ∷ way) handle other = (refers_to modules handle next ≡ true) × RefersBy modules way next other

-- The next new module comes after those that it refers to: each of them that is new leads back to it. None is left where no module is new.
abbrev pub ComesNext : Modules → List ℕ → Option ℕ → Type 0
ComesNext modules marks None = (handle : ℕ) → is_new modules marks handle ≡ false
ComesNext modules marks (Some handle) =
    (is_new modules marks handle ≡ true)
    × ((other : ℕ) → refers_to modules handle other ≡ true → is_new modules marks other ≡ true → (way : List ℕ) × RefersBy modules way other handle)

-- Nobody uses a module once a module has a use less, and the marked ones have gone. Every module's handle is below MODULE_HANDLES.
pub record IsLeftIdle (modules : Modules) (ended : ℕ) (marks : List ℕ) (handle : ℕ) : Type 0 where
  pub idle : Module
  pub there : module_at modules handle ≡ Some idle
  pub unused : idle.uses ≤ (if handle == ended then 1 else 0)
  pub stays : is_marked marks handle ≡ false
  pub alone : (other : ℕ) → other < MODULE_HANDLES → other ≢ handle → is_marked marks other ≡ false → refers_to modules other handle ≡ false

-- The next module that goes then, of those that the table has a byte for; none where it marks all that go.
abbrev pub GoesNext : Modules → ℕ → List ℕ → Option ℕ → Type 0
GoesNext modules ended marks None = (handle : ℕ) → handle < told_handles marks → IsLeftIdle modules ended marks handle → ⊥
GoesNext modules ended marks (Some handle) = (handle < told_handles marks) × IsLeftIdle modules ended marks handle
