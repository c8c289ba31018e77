-- Far accesses over a store, with what they fetch.
use Rattle.w16_kernel.proofs
use proofs.Common as C
use proofs.Common.{Err, None, Some, Ok, ne_format, Refetches, IsWorldOver, reply_of, Bool, Dword, FarAnswer, FarFault, FarReplies, Fill, Handles, LoadingWorld}
use Rattle.w16_model.specs.Commands.{Command}
use Rattle.w16_model.specs.Commands.Family.{OfFar}
use proofs.Common.{OfFar, Read, Step, Table, World, Write, ap, false, false≢true, far_slot, gives, inl, inr, left_in, needs_fetch, refl}
use proofs.Common.{reply_of_far, selector_in, subst, sym, true, with_handles, ℕ, ◌∙◌, ◌≡◌, Moved}
use proofs.Stepping.{stay}
use Rattle.w16_loading.specs.{Law.FetchesOver, Families.access_of, Replies.Reply.Bytes, Replies.Reply.Done, Replies.Reply.Fault}
use Rattle.w16_model.specs.Far.{pointer_in}
use Rattle.w16_kernel.specs.{declared.call.Reply.Reply}
use Rattle.w16_loading.specs.Replies as printed
use Rattle.w16_loading.specs.Families.AnyCommand.{any}

-- what a reply prints, of an access to handles in whatever world has them
given : (old : LoadingWorld) (next : Handles) (command : Command OfFar) (reply : printed.Reply) → FarReplies old.handles command reply next
    → gives (access_of command old) reply (with_handles old next)
given old next (Read pointer count) (Bytes bytes) s = (ap reply_of_far s.0, ap (with_handles old) s.1)
given old next (Read pointer count) Done s = (ap reply_of_far s.0, ap (with_handles old) s.1)
given old next (Read pointer count) (Fault fault) s = (ap reply_of_far s.0, ap (with_handles old) s.1)
given old next (Write pointer bytes) (Bytes read) s = (ap reply_of_far s.0, ap (with_handles old) s.1)
given old next (Write pointer bytes) Done s = (ap reply_of_far s.0, ap (with_handles old) s.1)
given old next (Write pointer bytes) (Fault fault) s = (ap reply_of_far s.0, ap (with_handles old) s.1)
given old next (Fill pointer count byte) (Bytes read) s = (ap reply_of_far s.0, ap (with_handles old) s.1)
given old next (Fill pointer count byte) Done s = (ap reply_of_far s.0, ap (with_handles old) s.1)
given old next (Fill pointer count byte) (Fault fault) s = (ap reply_of_far s.0, ap (with_handles old) s.1)
given old next command reply s = absurd s

abbrev pub Makes : Type 0 → World → Command OfFar → printed.Reply → World → Type 0
Makes honest old command reply new = Step honest ne_format old (any OfFar command) reply new

-- the selector of an access, whether the access has to fetch, and what
abbrev selector_of : Command OfFar → ℕ
selector_of command = selector_in (pointer_in command)

abbrev needs : Command OfFar → LoadingWorld → Bool
needs command old = needs_fetch (access_of command old).0 old (selector_of command)

abbrev slot_of : Command OfFar → LoadingWorld → ℕ
slot_of command old = far_slot old.handles (selector_of command)

module _ (honest : Type 0) (old : World) (is : IsWorldOver honest old) (command : Command OfFar) (reply : printed.Reply) where
  -- what fetches nothing
  made_once : (next : Handles) → needs command old.loading ≡ false → FarReplies old.loading.handles command reply next
      → Makes honest old command reply (record old { loading = with_handles old.loading next })
  made_once next none s =
      let step = C.handles_step honest ne_format old.loading next (any OfFar command) reply none s in
      (step, (λ i. record { loading = with_handles old.loading next; heaps = sym (stay honest old is _ _ _ none step) i; ds = old.ds }))

  -- one that has to fetch
  abbrev Fetching : LoadingWorld → Bool → Type 0
  Fetching new b = C.MatchBool b
      ((fault : C.Option C.FetchFault) × (next : LoadingWorld) × FetchesOver honest ne_format old.loading.failures new.failures old.loading (slot_of command old.loading) fault next
      × C.MatchOption fault (gives (access_of command next) reply (record new { failures = old.loading.failures }))
      (λ f. (reply ≡ C.Failed f) × (record new { failures = old.loading.failures } ≡ next)))
      (gives (access_of command old.loading) reply (record new { failures = old.loading.failures }))

  -- what is made again after a fetch, and the sweep
  made_again : (mid : LoadingWorld) (next : Handles) → needs command old.loading ≡ true
      → C.KernelFetch honest old.loading (slot_of command old.loading) None mid → FarReplies mid.handles command reply next
      → Makes honest old command reply (C.world_of (with_handles mid next) (left_in next.heap old.heaps) old.ds)
  made_again mid next needed f s =
      let m : LoadingWorld = record mid { failures = old.loading.failures } in (
        record { counted = f.0.counted; files = f.0.same; step = subst (Fetching (with_handles mid next)) (sym needed) (None, m, f.1, given m next command reply s) },
        refl,
      )

  -- what can't be fetched
  not_made : (fault : C.FetchFault) (new : LoadingWorld) → needs command old.loading ≡ true
      → C.KernelFetch honest old.loading (slot_of command old.loading) (Some fault) new → reply ≡ C.Failed fault → new.handles ≡ old.loading.handles
      → Makes honest old command reply (C.world_of new old.heaps old.ds)
  not_made fault new needed f e same = (
    record { counted = f.0.counted; files = f.0.same; step = subst (Fetching new) (sym needed) (Some fault, record new { failures = old.loading.failures }, f.1, (e, refl)) },
    (λ i. C.world_of new ((sym still ∙ ap (λ (h : Handles). left_in h.heap old.heaps) (sym same)) i) old.ds),
  )
    where
      still : left_in old.loading.handles.heap old.heaps ≡ old.heaps
      still = stay honest old is _ _ _ refl (C.handles_step honest ne_format old.loading old.loading.handles (any _ Moved) (Dword old.loading.handles.moved) tt (refl, refl))

-- An access that met a fault, or none.
met_fault : (old : LoadingWorld) (next : Handles) (command : Command OfFar) (fault : FarFault) → FarReplies old.handles command (Fault fault) next → FarAnswer.Fault fault ≡ (access_of command old).0
met_fault old next (Read pointer count) fault s = s.0
met_fault old next (Write pointer bytes) fault s = s.0
met_fault old next (Fill pointer count byte) fault s = s.0

abbrev is_fault : printed.Reply → Bool
is_fault (Fault fault) = true
is_fault reply = false

needs_nothing : (old : LoadingWorld) (selector : ℕ) (reply : printed.Reply) (answer : FarAnswer) → reply ≡ reply_of_far answer → is_fault reply ≡ false → needs_fetch answer old selector ≡ false
needs_nothing old selector reply (FarAnswer.Bytes bytes) e none = refl
needs_nothing old selector reply FarAnswer.Done e none = refl
needs_nothing old selector reply (FarAnswer.Fault fault) e none = absurd (false≢true (sym none ∙ ap is_fault e))

-- The steps as the code makes them, of parts that it opened: an access answers at once, or it left all as it was, and was ended or made again.
module _ (honest : Type 0) (opened old : World) (same : opened ≡ old) (given_is : IsWorldOver honest old) (command : Command OfFar) where
  is : IsWorldOver honest opened
  is = rw same given_is

  back : (reply : printed.Reply) (new : World) → Makes honest opened command reply new → Makes honest old command reply new
  back reply new = subst (λ w. Makes honest w command reply new) same

  pub answered : (reply : printed.Reply) → is_fault reply ≡ false → (new : LoadingWorld) → new ≡ with_handles opened.loading new.handles → FarReplies opened.loading.handles command reply new.handles
      → Makes honest old command reply (C.world_of new opened.heaps opened.ds)
  answered reply none new rest s = back _ _ (subst (λ w. Makes honest opened command reply (C.world_of w opened.heaps opened.ds)) (sym rest)
      (made_once honest opened is command reply new.handles (needs_nothing opened.loading (selector_of command) reply
      (access_of command opened.loading).0 (given opened.loading new.handles command reply s).0 none) s))

  module _ (mid : LoadingWorld) (kept : mid ≡ opened.loading) (fault : FarFault) (met : FarReplies opened.loading.handles command (Fault fault) mid.handles)
      (selector : ℕ) (named : selector ≡ selector_of command) where
    refetched : (result : C.Result (Unit {0}) Reply) (new : LoadingWorld) → Refetches honest mid selector fault result new → Refetches honest opened.loading (selector_of command) fault result new
    refetched result new f = rw (named, kept) at f

    met_needs : (b : Bool) → needs_fetch (FarAnswer.Fault fault) opened.loading (selector_of command) ≡ b → needs command opened.loading ≡ b
    met_needs b e = subst (λ answer. needs_fetch answer opened.loading (selector_of command) ≡ b) (met_fault opened.loading mid.handles command fault met) e

    pub ended_by : (reply : Reply) (new : LoadingWorld) → Refetches honest mid selector fault (Err reply) new → Makes honest old command (reply_of reply) (C.world_of new opened.heaps opened.ds)
    ended_by reply new f = back _ _ (turn (refetched (Err reply) new f))
      where
        turn : Refetches honest opened.loading (selector_of command) fault (Err reply) new → Makes honest opened command (reply_of reply) (C.world_of new opened.heaps opened.ds)
        turn (inl (none, e, left)) = rw (left, e) (made_once honest opened is command _ opened.loading.handles (met_needs false none) (rw kept at met))
        turn (inr (needed, left, failed, e, f)) = not_made honest opened is command (reply_of reply) failed new (met_needs true needed) f e left

    pub remade_by : (again : LoadingWorld) → Refetches honest mid selector fault (Ok tt) again → (reply : printed.Reply) (new : LoadingWorld)
        → new ≡ with_handles again new.handles → FarReplies again.handles command reply new.handles
        → Makes honest old command reply (C.world_of new (left_in new.handles.heap opened.heaps) opened.ds)
    remade_by again f reply new rest s = back _ _ (subst (λ (w : LoadingWorld). Makes honest opened command reply (C.world_of w (left_in w.handles.heap opened.heaps) opened.ds)) (sym rest)
        (let g = refetched (Ok tt) again f in made_again honest opened is command reply again new.handles (met_needs true g.0) g.1 s))
