-- Steps that take no bytes of an object: each has as many as before, and each local heap stays.
use Rattle.w16_machine.proofs
use proofs.Common as C
use proofs.Common.{◌≡◌, ℕ, false, inl, inr, List, length, Option, Some, None, option_map, IsSomeAnd, refl, sym, ap, subst, false≢true, selector_in, offset_in, Read, Write, Fill, Calls, OfFar, LoadingWorld, Reply, HasSamePlaces, ◌⊎◌, ◌∙◌, bytes_in, object_at, size_at}
use proofs.LocalFrame.{frame_law}
use proofs.LocalFar.{read_same, write_same, tables_stay}
use proofs.Stepped.{call_replies, fetching, loading, once}
use Rattle.w16_loading.specs.{Families.Loading, Families.access_of, Law.far_reads_file, Fetch.Fetching}
use Rattle.w16_model.specs.Commands.Command.{GlobalFree, GlobalDiscard}
use Rattle.w16_model.specs.{CallLaws.may_change, Far.pointer_in}
use Rattle.w16_loading.proofs.Cases.{by_option}
use Rattle.std.specs.FinMap as finmap
use Rattle.w16_loading.specs.Families as families
use Rattle.w16_loading.specs.Families.AnyCommand.{any}

-- a call that takes no bytes changes none
call_keeps : (command : C.Command C.OfHandles) → C.may_take_bytes (any C.OfHandles command) ≡ false → may_change (Calls command) ≡ false
call_keeps (C.GlobalAlloc flags size) m = m
call_keeps (GlobalFree handle) m = m
call_keeps (C.GlobalCompact size) m = m
call_keeps other m = refl

reply_same : (old new : C.Handles) (command : C.Command C.OfHandles) (answer : Option C.Answer) → C.may_take_bytes (any C.OfHandles command) ≡ false → IsSomeAnd answer (λ answer. C.HandleStep old command answer new) → HasSamePlaces old new
reply_same old new command None m step = absurd step
reply_same old new command (Some answer) m step =
    let k = C.contents old new (Calls command) answer (C.call_outcome old new _ _ step) (call_keeps command m) in
    record { addresses = k.addresses; attributes = k.attributes; kinds = k.kinds; sizes = λ q. ap (option_map _) (k.bytes q) }

module _ (fetches : Fetching) (loads : Loading) (old new : LoadingWorld) (reply : Reply) where
  same_world : (next : LoadingWorld) → HasSamePlaces old.handles next.handles → new ≡ next → HasSamePlaces old.handles new.handles
  same_world next same e = subst (λ (w : LoadingWorld). HasSamePlaces old.handles w.handles) (sym e) same

  unchanged : new ≡ old → HasSamePlaces old.handles new.handles
  unchanged e = same_world old (record { addresses = refl; attributes = refl; kinds = λ q. refl; sizes = λ q. refl }) e

  far_sizes : (command : C.Command C.OfFar) → far_reads_file old command ≡ false → families.FarStep fetches old command reply new → HasSamePlaces old.handles new.handles
  far_sizes command none step = same_world (access_of command old).1 (by command) (once fetches (access_of command) old new (selector_in (pointer_in command)) reply none step)
    where
      by : (command : C.Command C.OfFar) → HasSamePlaces old.handles (access_of command old).1.handles
      by (Read pointer count) = read_same old.handles (selector_in pointer) (offset_in pointer) count
      by (Write pointer bytes) = write_same old.handles (selector_in pointer) (offset_in pointer) bytes
      by (Fill pointer count byte) = write_same old.handles (selector_in pointer) (offset_in pointer) (C.repeated count byte)

  built_in_sizes : (name : List ℕ) (answer : ℕ) → families.GivesBuiltIn old name answer new → HasSamePlaces old.handles new.handles
  built_in_sizes name answer step = elim (by_option (C.handle_named old.modules name) step) [
    | inl (e, inl f) ↦ unchanged f.2
    | inl (e, inr f) ↦ same_world (record old { modules = finmap.insert old.modules answer (C.BuiltIn name) }) (record { addresses = refl; attributes = refl; kinds = λ q. refl; sizes = λ q. refl }) f.1
    | inr (handle, e, f) ↦ unchanged f.1
  ]

  modules_sizes : (command : C.Command C.OfModules) → C.may_take_bytes (any C.OfModules command) ≡ false → C.ModuleStep loads old command reply new → HasSamePlaces old.handles new.handles
  modules_sizes (C.Builtin name) m step = built_in_sizes name step.0 step.2
  modules_sizes (C.GetModuleHandle name) m step = unchanged step.1
  modules_sizes (C.GetModuleUsage handle) m step = unchanged step.1
  modules_sizes (C.GetProcAddress handle label) m step = unchanged step.1
  modules_sizes other m step = absurd (false≢true (sym m))

  resources_sizes : (command : C.Command C.OfResources) → C.may_take_bytes (any C.OfResources command) ≡ false → C.ResourceStep fetches old command reply new → HasSamePlaces old.handles new.handles
  resources_sizes (C.FindResource handle name kind) m step = unchanged step.1
  resources_sizes (C.SizeofResource handle place) m step = unchanged step.1
  resources_sizes other m step = absurd (false≢true (sym m))

pub places_law : (honest : Type 0) → C.SamePlacesLaw honest
places_law honest format old new (any C.OfHandles command) reply m step = reply_same _ _ command (C.answer_in reply) m (call_replies honest format old new command reply step)
places_law honest format old new (any _ (C.GlobalReAlloc handle size flags)) reply m step = absurd (false≢true (sym m))
places_law honest format old new (any _ (GlobalDiscard handle)) reply m step = absurd (false≢true (sym m))
places_law honest format old new (any OfFar command) reply m step = far_sizes (fetching honest format old new) (loading honest format old new) old (record new { failures = old.failures }) reply command m step.step
places_law honest format old new (any C.OfModules command) reply m step = modules_sizes (fetching honest format old new) (loading honest format old new) old (record new { failures = old.failures }) reply command m step.step
places_law honest format old new (any C.OfResources command) reply m step = resources_sizes (fetching honest format old new) (loading honest format old new) old (record new { failures = old.failures }) reply command m step.step
places_law honest format old new (any C.OfLocals command) reply m step = absurd step.step

pub heaps_law : (honest : Type 0) → C.HeapsLaw honest
heaps_law honest format old new command reply is m step = tables_stay old new is step.1 (places_law honest format _ _ command reply m step.0)

abbrev IsAlike : C.World → C.World → ℕ → Type 0
IsAlike old new slot = (C.kind_at new.loading.handles slot ≡ C.kind_at old.loading.handles slot) × (size_at new.loading.handles slot ≡ size_at old.loading.handles slot)

-- A local call for which no heap may grow.
pub local_places_law : C.LocalSamePlacesLaw
local_places_law old new command reply is none step = by_frame (frame_law old new command reply is step)
  where
    sized : (p : Option (List ℕ)) (n : ℕ) (P : List ℕ → Type 0) → IsSomeAnd p (λ b. (length b ≡ n) × P b) → option_map length p ≡ Some n
    sized None n P h = absurd h
    sized (Some b) n P h = ap Some h.0

    rewritten : (at : C.LocalHeap) (p r : Option C.Object) → IsSomeAnd p (λ before. IsSomeAnd r (C.IsRewritten at before))
        → (option_map (λ o. o.kind) r ≡ option_map (λ o. o.kind) p) × (option_map length (bytes_in r) ≡ option_map length (bytes_in p))
    rewritten at None r h = absurd h
    rewritten at (Some before) None h = absurd h
    rewritten at (Some before) (Some after) h = (ap Some h.kind, sized after.bytes (length at.bytes) (C.IsSameOutside at.table.lo at.table.hi at.bytes) h.has ∙ sym (ap (option_map length) h.had))

    of_current : (slot : ℕ) (p : Option C.LocalHeap) → IsSomeAnd p (λ at. (at.slot ≡ slot) × IsSomeAnd (object_at old.loading.handles.heap slot) (λ before. IsSomeAnd (object_at new.loading.handles.heap slot) (C.IsRewritten at before)))
        → IsAlike old new slot
    of_current slot None h = absurd h
    of_current slot (Some at) h = rewritten at (object_at old.loading.handles.heap slot) (object_at new.loading.handles.heap slot) h.1

    by_kept : (slot : ℕ) → C.IsObjectKept old new slot → IsAlike old new slot
    by_kept slot (inl same) = (ap (option_map (λ o. o.kind)) same, ap (λ p. option_map length (bytes_in p)) same)
    by_kept slot (inr h) = of_current slot (C.current_heap old) h

    by_frame : C.KeepsRest old new ⊎ C.KeepsRestLonger old command new → HasSamePlaces old.loading.handles new.loading.handles
    by_frame (inl k) = record { addresses = ap (λ h. h.heap.places) k.handles; attributes = ap (λ h. h.attributes) k.handles; kinds = λ slot. (by_kept slot (k.objects slot)).0; sizes = λ slot. (by_kept slot (k.objects slot)).1 }
    by_frame (inr r) = absurd (false≢true (sym none ∙ r.may))
