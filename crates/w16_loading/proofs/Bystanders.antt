-- What each step leaves of objects that it isn't about, and of pinned ones, whatever the store answers.
use Rattle.w16_loading.proofs
use proofs.Common as C
use proofs.Common.{◌≡◌, ℕ, inl, inr, ◌⊎◌, true, false, List, Some, None, refl, sym, subst, Handles, object_at, Call, CallStep, Calls, FetchesFrom, LoadsFrom, Fills, told, IsReleased, IsStepAbout, MayGo, call_of, Command, OfFar, OfModules, OfResources, FreeResource, LoadingWorld}
use proofs.Common.{Reply, ResizeStep, GlobalReAlloc, GlobalDiscard}
use proofs.Spared.{HasPinned, IsSpared, same_spared}
use proofs.SparedByFrees.{resource_ended, uses_ended}
use proofs.SparedByLoads.{modules_loaded, resource_loaded}
use proofs.SparedByUses.{access_spares, access_stands, lock_spares, lock_stands}
use proofs.{Cases.by_option, CallsKept.answered, Owners.some_of}
use Rattle.w16_loading.specs.Families.{AnyCommand}
use Rattle.w16_model.specs.Calls as calls
use Rattle.w16_model.proofs.Bystanders as calls_proofs
use Rattle.w16_loading.specs.Families.AnyCommand.{any}

-- a resize is the call that it stands for
resize_call : (old : Handles) (command : C.Command C.OfResizes) (reply : Reply) (next : Handles) → C.ResizeReplies old command reply next → (answer : calls.Answer) × CallStep old (call_of command) answer next
resize_call old command reply next step = let s : (answer : calls.Answer) × ResizeStep old command answer next = some_of (λ answer. ResizeStep old command answer next) (C.answer_in reply) step in by command s.0 s.1
  where
    by : (command : C.Command C.OfResizes) (answer : calls.Answer) → ResizeStep old command answer next → (answer : calls.Answer) × CallStep old (call_of command) answer next
    by (GlobalReAlloc handle size flags) (calls.Answer.Word answer) step = (calls.Answer.Word _, step)
    by (GlobalDiscard handle) (calls.Answer.Word answer) step = (calls.Answer.Word _, step)
    by (GlobalReAlloc handle size flags) (calls.Answer.Dword answer) step = absurd step
    by (GlobalReAlloc handle size flags) (calls.Answer.Walked answer) step = absurd step
    by (GlobalDiscard handle) (calls.Answer.Dword answer) step = absurd step
    by (GlobalDiscard handle) (calls.Answer.Walked answer) step = absurd step

module _ (answers : C.Answers) (old : LoadingWorld) (is : C.IsLoadingWorld old) (q : ℕ) (there : C.is_some (object_at old.handles.heap q) ≡ true) (new : LoadingWorld) (reply : Reply) where
  abbrev Spared : LoadingWorld → Type 0
  Spared world = IsSpared old.handles.heap world.handles.heap q

  -- an object is spared, or gone with its module
  abbrev SparedOrReleased : AnyCommand → Type 0
  SparedOrReleased command = Spared new ⊎ IsReleased command old new q

  same_world : new ≡ old → Spared new
  same_world e = subst Spared (sym e) (same_spared old.handles.heap q)

  call_spares : (call : Call) (answer : calls.Answer) (next : Handles) → CallStep old.handles call answer next → (C.IsAbout old.handles call q → ⊥) → IsSpared old.handles.heap next.heap q
  call_spares call answer next step out = (calls_proofs.bystanders_law old.handles next call answer q is.handles step there out, λ pinned. calls_proofs.pinned_law old.handles next call answer q is.handles step pinned (λ m. out))

  built : (name : List ℕ) (handle : ℕ) → C.GivesBuiltIn old name handle new → Spared new
  built name handle step = elim (by_option (C.handle_named old.modules name) step) [ inl (e, inl f) ↦ same_world f.2 | inl (e, inr f) ↦ subst Spared (sym f.1) (same_spared old.handles.heap q) | inr (there, e, f) ↦ same_world f.1 ]

  modules : (command : C.Command C.OfModules) → C.ModuleStep (LoadsFrom Fills answers) old command reply new → SparedOrReleased (any OfModules command)
  modules (C.Builtin name) f = inl (built name f.0 f.2)
  modules (C.LoadModule file) f = inl (modules_loaded answers old is q there true file f.0 new f.2)
  modules (C.LoadLibrary file) f = inl (modules_loaded answers old is q there false file f.0 new f.2)
  modules (C.FreeLibrary handle) f = uses_ended old is q handle f.0 new f.2
  modules (C.FreeModule handle) f = uses_ended old is q handle f.0 new f.2
  modules other f = inl (same_world f.1)

  resources : (command : C.Command C.OfResources) → C.ResourceStep (FetchesFrom Fills answers) old command reply new → (IsStepAbout old.handles (any OfResources command) q → ⊥) → SparedOrReleased (any OfResources command)
  resources (C.LoadResource handle place) f out = inl (resource_loaded answers old is q there new reply handle place f)
  resources (C.LockResource handle) f out = inl (lock_spares answers old is q there new reply handle out f)
  resources (FreeResource handle) f out = subst (λ w. IsSpared old.handles.heap w.handles.heap q ⊎ IsReleased (any _ (FreeResource handle)) old w q) (sym f.1) (resource_ended old is q handle)
  resources other f out = inl (same_world f.1)

  family_spares : (command : AnyCommand) → C.FamilyStep (FetchesFrom Fills answers) (LoadsFrom Fills answers) old command reply new → (IsStepAbout old.handles command q → ⊥) → SparedOrReleased command
  family_spares (any C.OfHandles command) f out = let c : (answer : calls.Answer) × CallStep old.handles (Calls command) answer f.0 = answered old is command reply f.0 f.1 in inl (subst Spared (sym f.2) (call_spares (Calls command) c.0 f.0 c.1 out))
  family_spares (any C.OfResizes command) f out = let c : (answer : calls.Answer) × CallStep old.handles (call_of command) answer f.0 = resize_call old.handles command reply f.0 f.1 in inl (subst Spared (sym f.2) (call_spares (call_of command) c.0 f.0 c.1 out))
  family_spares (any OfFar command) f out = inl (access_spares answers old is q there new reply command out f)
  family_spares (any OfModules command) f out = modules command f
  family_spares (any OfResources command) f out = resources command f out
  family_spares (any C.OfLocals command) f out = absurd f

  -- Where the object is pinned, its own accesses, locks and calls leave it in place too, but for its reallocation and freeing.
  module _ (pinned : HasPinned old.handles.heap q) where
    abbrev Stands : LoadingWorld → Type 0
    Stands world = C.StandsStill old.handles.heap world.handles.heap q

    abbrev StandsOrReleased : AnyCommand → Type 0
    StandsOrReleased command = Stands new ⊎ IsReleased command old new q

    spared_stands : (command : AnyCommand) → SparedOrReleased command → StandsOrReleased command
    spared_stands command (inl s) = inl (s.1 pinned)
    spared_stands command (inr r) = inr r

    resource_stands : (command : C.Command C.OfResources) → C.ResourceStep (FetchesFrom Fills answers) old command reply new → StandsOrReleased (any OfResources command)
    resource_stands (C.LockResource handle) f = inl (lock_stands answers old is q there new reply pinned handle f)
    resource_stands other f = spared_stands (any OfResources other) (resources other f (λ about. about))

    family_stands : (command : AnyCommand) → C.FamilyStep (FetchesFrom Fills answers) (LoadsFrom Fills answers) old command reply new → (C.step_may_move_own command ≡ true → IsStepAbout old.handles command q → ⊥) → StandsOrReleased command
    family_stands (any C.OfHandles command) f out = let c : (answer : calls.Answer) × CallStep old.handles (Calls command) answer f.0 = answered old is command reply f.0 f.1 in inl (subst Stands (sym f.2) (calls_proofs.pinned_law old.handles f.0 (Calls command) c.0 q is.handles c.1 pinned out))
    family_stands (any C.OfResizes command) f out = let c : (answer : calls.Answer) × CallStep old.handles (call_of command)
        answer f.0 = resize_call old.handles command reply f.0 f.1 in inl
        (subst Stands (sym f.2) (calls_proofs.pinned_law old.handles f.0 (call_of command) c.0 q is.handles c.1 pinned
        out))
    family_stands (any OfFar command) f out = inl (access_stands answers old is q there new reply pinned command f)
    family_stands (any OfModules command) f out = spared_stands (any OfModules command) (modules command f)
    family_stands (any OfResources command) f out = resource_stands command f
    family_stands (any C.OfLocals command) f out = absurd f

-- the count of failures is no matter
may_go : (old new : LoadingWorld) (failures q : ℕ) (command : AnyCommand) → MayGo command old (record new { failures = failures }) q → MayGo command old new q
may_go old new failures q (any _ (C.FreeLibrary handle)) g = g
may_go old new failures q (any _ (C.FreeModule handle)) g = g
may_go old new failures q (any _ (FreeResource handle)) g = g
may_go old new failures q command g = absurd g

pub bystanders_law : (honest : Type 0) → C.StepBystandersLaw honest
bystanders_law honest format old new command reply q is step there out =
    elim (family_spares (told _ format _ _ _) old is q there (record new { failures = old.failures }) reply command step.step out) [
      | inl s ↦ inl s.0
      | inr r ↦ inr (r.0, may_go old new old.failures q command r.1)
    ]

pub pinned_law : (honest : Type 0) → C.StepPinnedLaw honest
pinned_law honest format old new command reply q is step pinned out =
    elim (family_stands (told _ format _ _ _) old is q (some _ pinned) (record new { failures = old.failures }) reply pinned command step.step out) [
      | inl s ↦ inl s
      | inr r ↦ inr (r.0, may_go old new old.failures q command r.1)
    ]
  where
    some : (p : C.Option C.Object) → C.IsSomeAnd p (λ o. C.is_pinned_object o ≡ true) → C.is_some p ≡ true
    some None h = absurd h
    some (Some o) h = refl
