-- What calls on handles, resizes among them, leave of what modules own: each object, and code with its bytes or none. So they keep what holds of
-- every world, and code as its files say it.
use Rattle.w16_loading.proofs
use proofs.Common as C
use proofs.Common.{◌≡◌, ◌≢◌, ℕ, ◌+◌, ◌-◌, true, false, Option, Some, None, IsSomeAnd, is_some, option_map, unwrap_or, refl, sym, ap, ◌∙◌, subst, false≢true, Owned, object_at, Handles, AreHandles, slot_of_handle, is_owned, owns, Walked, Call, CallStep, Calls, ReAllocs, handle_in, IsAbout}
use proofs.Common.{Format, Reply, ResizeStep, GlobalReAlloc, GlobalDiscard, IsLoadingWorld}
use proofs.KeptCode.{KeepsCode, same_source, as_it_was}
use proofs.KeptWorlds.{IsLeft, same_left, put_left, kept_left, left_owned, left_bytes, world_stays}
use proofs.{OwnedKept.SameOwned, OwnedKept.owned_by, Owners.some_of}
use Rattle.w16_model.specs.{Calls.Answer, Calls.Answer.Word, Calls.Answer.Dword}
use Rattle.std.specs.FinMap as finmap

module _ (old : Handles) (is : AreHandles old) (call : Call) (answer : Answer) (new : Handles) (q : ℕ) (mine : is_owned old q ≡ true) where
  there : is_some (object_at old.heap q) ≡ true
  there = sym (is.attributed q) ∙ some (finmap.get old.attributes q) mine
    where
      some : (p : Option C.Attributes) → is_some (C.owned_in p) ≡ true → is_some p ≡ true
      some None t = absurd (false≢true t)
      some (Some a) t = refl

  same : object_at new.heap q ≡ object_at old.heap q → IsLeft old.heap new.heap q
  same = same_left old.heap new.heap q there

  -- what a module owns isn't what such a call names
  not_named : (handle : ℕ) → owns old handle ≡ false → slot_of_handle old handle ≢ Some q
  not_named handle own e = false≢true (sym own ∙ ap (λ p. unwrap_or (option_map (is_owned old) p) false) e ∙ mine)

  not_about : (p : Option ℕ) → handle_in call ≡ p → IsSomeAnd p (λ handle. owns old handle ≡ false) → IsAbout old call q → ⊥
  not_about None e h about = absurd h
  not_about (Some handle) e own about = not_named handle own (subst (λ p. IsSomeAnd p (λ handle. slot_of_handle old handle ≡ Some q)) e about)

  none_about : handle_in call ≡ None → IsAbout old call q → ⊥
  none_about e about = subst (λ p. IsSomeAnd p (λ handle. slot_of_handle old handle ≡ Some q)) e about

  other : C.Outcome old call answer new → (IsAbout old call q → ⊥) → IsLeft old.heap new.heap q
  other o out = kept_left old.heap new.heap q there (C.bystander old new is call answer q o (λ m. there) out)

  left : C.Outcome old call answer new → IsLeft old.heap new.heap q
  left (C.IsSame s e) = same (ap (λ (h : Handles). object_at h.heap q) e)
  left (C.IsUnmoved s e) = same (ap (λ (h : Handles). object_at h.heap q) e)
  left (C.IsLocked l) = subst (λ (h : Handles). IsLeft old.heap h.heap q) (sym l.rest) (put_left old.heap l.slot l.object (record l.object { locks = l.object.locks + 1 }) l.named.there refl refl q there)
  left (C.IsUnlocked u) = subst (λ (h : Handles). IsLeft old.heap h.heap q) (sym u.rest) (put_left old.heap u.slot u.object (record u.object { locks = u.object.locks - 1 }) u.named.there refl refl q there)
  left (C.IsFreed f) = same (ap (λ (h : Handles). object_at h.heap q) f.rest ∙ C.taken_other old.heap.objects f.slot q (λ e. not_named f.handle f.own (f.named.found ∙ ap Some (sym e))))
  left (C.IsNewest n) = same (ap (λ (h : Handles). object_at h.heap q) n.rest)
  left (C.IsOldest n) = same (ap (λ (h : Handles). object_at h.heap q) n.rest)
  left (C.IsEntered e) = other (C.IsEntered e) (none_about (ap handle_in e.asked))
  left (C.IsAllocated a) = other (C.IsAllocated a) (none_about (ap handle_in a.asked))
  left (C.IsCompacted c) = other (C.IsCompacted c) (none_about (ap handle_in c.asked))
  left (C.IsModified m) = other (C.IsModified m) (not_about (Some m.handle) (ap handle_in m.asked) m.own)
  left (C.IsDiscarded d) = other (C.IsDiscarded d) (not_about (Some d.handle) (ap handle_in d.asked) d.own)
  left (C.IsResized r) = other (C.IsResized r) (not_about (Some r.handle) (ap handle_in r.asked) r.own)

module _ (old : C.LoadingWorld) (is : IsLoadingWorld old) where
  module _ (call : Call) (answer : Answer) (next : Handles) (step : CallStep old.handles call answer next) where
    is_left : (q : ℕ) → is_owned old.handles q ≡ true → IsLeft old.handles.heap next.heap q
    is_left q mine = left old.handles is.handles call answer next q mine (C.outcome old.handles next call answer is.handles step)

    attributes_stay : SameOwned old.handles next
    attributes_stay = owned_by old.handles is.handles call answer next (C.outcome old.handles next call answer is.handles step)

    are : AreHandles next
    are = by call answer step
      where
        by : (call : Call) (answer : Answer) → CallStep old.handles call answer next → AreHandles next
        by (Calls command) answer step = C.handle_law old.handles next command answer is.handles step
        by (ReAllocs handle size flags) (Word answer) step = C.resize_law old.handles next handle size flags answer is.handles step
        by (ReAllocs handle size flags) (Dword answer) step = absurd step
        by (ReAllocs handle size flags) (Walked answer) step = absurd step

    pub call_world : IsLoadingWorld (record old { handles = next })
    call_world = world_stays old is next are attributes_stay (λ slot kind size code h. left_owned old.handles.heap next.heap slot kind size (is_left slot (ap is_some h.owned)) h.object)

    pub call_code : (format : Format) → KeepsCode format old (record old { handles = next })
    call_code format = record {
      files = refl;
      modules = λ h m e. (m, e, same_source m);
      coded = λ q t. ap (λ p. unwrap_or (option_map (λ (o : Owned). o.code) p) false) (sym (attributes_stay q)) ∙ t;
      bytes = λ slot h number m s t. as_it_was format old next.heap slot number m (left_bytes old.handles.heap next.heap slot (is_left slot (owned (C.owned_at old.handles slot) t)));
    }
      where
        owned : (p : Option Owned) → unwrap_or (option_map (λ (o : Owned). o.code) p) false ≡ true → is_some p ≡ true
        owned None t = t
        owned (Some o) t = refl

  -- by what is printed of them
  module _ (command : C.Command C.OfHandles) (reply : Reply) (next : Handles) (step : C.HandleReplies old.handles command reply next) where
    pub answered : (answer : Answer) × CallStep old.handles (Calls command) answer next
    answered = some_of (λ answer. CallStep old.handles (Calls command) answer next) (C.answer_in reply) step

    pub handles_world : IsLoadingWorld (record old { handles = next })
    handles_world = call_world (Calls command) answered.0 next answered.1

    pub handles_owners : SameOwned old.handles next
    handles_owners = attributes_stay (Calls command) answered.0 next answered.1

    pub handles_code : (format : Format) → KeepsCode format old (record old { handles = next })
    handles_code = call_code (Calls command) answered.0 next answered.1

  module _ (command : C.Command C.OfResizes) (reply : Reply) (next : Handles) (step : C.ResizeReplies old.handles command reply next) where
    resized : (call : Call) × (answer : Answer) × CallStep old.handles call answer next
    resized = let s : (answer : Answer) × ResizeStep old.handles command answer next = some_of (λ answer. ResizeStep old.handles command answer next) (C.answer_in reply) step in by command s.0 s.1
      where
        by : (command : C.Command C.OfResizes) (answer : Answer) → ResizeStep old.handles command answer next → (call : Call) × (answer : Answer) × CallStep old.handles call answer next
        by (GlobalReAlloc handle size flags) (Word answer) step = (ReAllocs handle size flags, Word answer, step)
        by (GlobalDiscard handle) (Word answer) step = (ReAllocs handle 0 C.GMEM_MOVEABLE, Word answer, step)
        by (GlobalReAlloc handle size flags) (Dword answer) step = absurd step
        by (GlobalReAlloc handle size flags) (Walked answer) step = absurd step
        by (GlobalDiscard handle) (Dword answer) step = absurd step
        by (GlobalDiscard handle) (Walked answer) step = absurd step

    pub resizes_world : IsLoadingWorld (record old { handles = next })
    resizes_world = call_world resized.0 resized.1 next resized.2

    pub resizes_owners : SameOwned old.handles next
    resizes_owners = attributes_stay resized.0 resized.1 next resized.2

    pub resizes_code : (format : Format) → KeepsCode format old (record old { handles = next })
    resizes_code = call_code resized.0 resized.1 next resized.2
