-- What a script reads of code is its file's, relocated.
use Rattle.w16_loading.proofs
use proofs.Common as C
use proofs.Common.{inl, inr, ◌≡◌, ℕ, ◌+◌, ◌/◌, true, ◌==◌, if◌then◌else◌, List, [], Option, Some, None, IsSomeAnd, refl, sym, ap, ◌∙◌, subst, part, Handles, selector_of, selector_in, offset_in, FarAnswer, far_slot, far_bytes, LoadingWorld, segment_bytes, far_read, gives, ◌-◌, ◌*◌}
use proofs.Common.{option_map, arith, Part, part_of_selector, far_at, REACH}
use proofs.KeptCode.{code_kept, fetched_code, image_of}
use proofs.{Cases.access_cases, CodeSteps.world_fetches}
use Rattle.w16_loading.specs.{Answers.Answers, Answers.FetchesFrom, Answers.told, Fill.Fills}
use Rattle.w16_model.specs.Handles.{owner_of}
use Rattle.w16_model.proofs.{Naming.names_law, Runs.first_in, Runs.is_owner}
use Rattle.w16_loading.specs.Replies as replies

abbrev ReadsOf : Handles → ℕ → ℕ → ℕ → Option C.FarFault → FarAnswer × Handles
ReadsOf old selector offset n p = elim p [
  | Some fault ↦ (FarAnswer.Fault fault, old)
  | None ↦ (FarAnswer.Bytes (part (far_bytes old selector) (far_at old selector offset) n), record old { heap = C.after_touch old.heap (far_slot old selector) })
]

-- the first selector of an object reaches it from its begin on
first_part : (handles : Handles) → C.AreHandles handles → (selector slot : ℕ) → C.slot_of_selector handles selector ≡ Some slot → part_of_selector handles selector ≡ Some (record { slot = slot; number = 0 })
first_part handles is selector slot named = turn (C.object_at handles.heap slot) refl ((names_law handles selector slot).1.0 named)
  where
    turn : (p : Option C.Object) → C.object_at handles.heap slot ≡ p → IsSomeAnd p (λ _. selector ≡ selector_of slot) → part_of_selector handles selector ≡ Some (record { slot = slot; number = 0 })
    turn None there h = absurd h
    turn (Some o) there h =
        let at = ap (λ n. n / 8) h ∙ (omega arith) in
        let owned = is_owner handles.attributes handles.slots is.runs slot slot (first_in handles.slots handles.attributes is.runs slot (is.attributed slot ∙ ap C.is_some there)) in
        let low : (selector == selector_of (selector / 8)) ≡ true = C.eq-eqb selector (selector_of (selector / 8)) (h ∙ ap selector_of (sym at)) in
        ap (λ b. if b then option_map (λ s. let p : Part = record { slot = s; number = selector / 8 - s } in p) (owner_of handles.attributes (selector / 8)) else None) low
        ∙ ap (λ n. option_map (λ s. let p : Part = record { slot = s; number = n - s } in p) (owner_of handles.attributes n)) at
        ∙ ap (option_map (λ s. let p : Part = record { slot = s; number = slot - s } in p)) owned
        ∙ (let none : slot - slot ≡ 0 = omega arith in λ i. Some (record { slot = slot; number = none i }))

abbrev part_in : Option Part → Part
part_in p = C.unwrap_or p (record { slot = 0; number = 0 })

-- a read that is answered, in a world where code is its file's
read_bytes : (format : C.Format) (world : LoadingWorld) (selector offset n slot handle number : ℕ) (m : C.Module) (bytes : List ℕ) → C.CodeIsItsFiles format world → C.IsSegmentOf world slot handle number m → C.is_code world slot ≡ true
    → part_of_selector world.handles selector ≡ Some (record { slot = slot; number = 0 }) → (replies.Reply.Bytes bytes) ≡ (C.reply_of_far (far_read selector offset n world).0) → IsSomeAnd (segment_bytes format world m number) (λ image. bytes ≡ part image offset n)
read_bytes format world selector offset n slot handle number m bytes code segment coded named answered = turn (C.far_fault world.handles _ offset n) refl answered
  where
    turn : (p : Option C.FarFault) → C.far_fault world.handles selector offset n ≡ p → (replies.Reply.Bytes bytes) ≡ (C.reply_of_far (ReadsOf world.handles selector offset n p).0) → IsSomeAnd (segment_bytes format world m number) (λ image. bytes ≡ part image offset n)
    turn (Some fault) e f = cc
    turn None e f =
        let same : bytes ≡ part (far_bytes world.handles selector) (far_at world.handles selector offset) n = cc in
        let r = C.reached world.handles selector offset n e in
        let at = ap (λ p. (part_in p).slot) named in
        let from = ap (λ p. REACH * (part_in p).number + offset) named ∙ (omega arith) in
        let its = ap (C.bytes_at world.handles.heap) (sym at) ∙ r.here in
        let said = subst (λ p. C.IfSome p (λ b. segment_bytes format world m number ≡ Some b)) its (code slot handle number m segment coded) in
        subst (λ p. IsSomeAnd p (λ image. bytes ≡ part image offset n)) (sym said) (same ∙ ap (λ k. part (far_bytes world.handles selector) k n) from ∙ ap (λ p. part (C.unwrap_or p []) offset n) r.here)

pub code_reads_law : (honest : Type 0) → C.CodeReadsLaw honest
code_reads_law honest format old later pointer count bytes slot handle number m truly is of over named segment coded =
    elim (access_cases (FetchesFrom Fills answers) old (replies.Reply.Bytes bytes) new (far_read (selector_in pointer) (offset_in pointer) count) (selector_in pointer) over.step) [
      | inl (fault, next, f, g) ↦ fetched fault next f g
      | inr g ↦ read_bytes format old (selector_in pointer) (offset_in pointer) count slot handle number m bytes of.code segment coded (first_part old.handles is.handles (selector_in pointer) slot named) g.0
    ]
  where
    new : LoadingWorld
    new = record later { failures = old.failures }

    answers : Answers
    answers = told honest format old.files old.failures later.failures

    after : (next : LoadingWorld) → FetchesFrom Fills answers old (far_slot old.handles (selector_in pointer)) None next → gives (far_read (selector_in pointer) (offset_in pointer) count next) ((replies.Reply.Bytes bytes)) new
        → IsSomeAnd (segment_bytes format old m number) (λ image. bytes ≡ part image (offset_in pointer) count)
    after next f g =
        let good = code_kept format old next (fetched_code format is.handles.heap (world_fetches format truly old.failures later.failures old is (far_slot old.handles (selector_in pointer))) f) of in
        let there : part_of_selector next.handles (selector_in pointer) ≡ Some (record { slot = slot; number = 0 }) = ap (λ (w : LoadingWorld). part_of_selector w.handles (selector_in pointer)) f.rest ∙ first_part old.handles is.handles (selector_in pointer) slot named in
        let in_next : C.IsSegmentOf next slot handle number m = record { loaded = ap (λ w. C.module_at w.modules handle) f.rest ∙ segment.loaded; has = segment.has } in
        let read : IsSomeAnd (segment_bytes format next m number) (λ image. bytes ≡ part image (offset_in pointer) count) =
        read_bytes format next (selector_in pointer) (offset_in pointer) count slot handle number m bytes good.code in_next (ap (λ w. C.is_code w slot) f.rest ∙ coded) there g.0 in
        subst (λ p. IsSomeAnd p (λ image. bytes ≡ part image (offset_in pointer) count)) (ap (λ w. image_of format w.files m.file m.values number) f.rest) read

    fetched : (fault : Option C.FetchFault) (next : LoadingWorld) → FetchesFrom Fills answers old (far_slot old.handles (selector_in pointer)) fault next
        → C.MatchOption fault (gives (far_read (selector_in pointer) (offset_in pointer) count next) ((replies.Reply.Bytes bytes)) new) (λ f. ((replies.Reply.Bytes bytes) ≡ C.Failed f) × (new ≡ next))
        → IsSomeAnd (segment_bytes format old m number) (λ image. bytes ≡ part image (offset_in pointer) count)
    fetched None next f g = after next f g
    fetched (Some fault) next f g = differ g.0
      where
        differ : (replies.Reply.Bytes bytes) ≡ C.Failed fault → IsSomeAnd (segment_bytes format old m number) (λ image. bytes ≡ part image (offset_in pointer) count)
        differ e = cc
