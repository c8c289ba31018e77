-- Steps of loading: what they leave of the bytes of global objects, and what far accesses put there and read.
use Rattle.w16_loading.proofs.Common as C
use Rattle.w16_loading.proofs.Common.{REACH, ◌≡◌, ℕ, ◌+◌, ◌*◌, ◌⊎◌, inl, inr, true, IsSomeAnd, List, length, Option, Some, None, is_some, refl, sym, ap, ◌∙◌, subst, arith, drop, ◌<◌, cases_eq, part, object_at, bytes_at, bytes_in, Handles, selector_in, offset_in, FarAnswer}
use Rattle.w16_model.specs.Commands.{Command}
use Rattle.w16_loading.specs.Families.{AnyCommand}
use Rattle.w16_model.specs.Commands.Family.{OfFar}
use Rattle.w16_loading.proofs.Common.{Write, Fill, Answers, FetchesFrom, Fills, told, gives, IsLoadingWorld, LoadingWorld, Command, OfResizes, OfFar, Reply, Calls, call_of}
use Rattle.w16_loading.proofs.{Cases.access_cases, Cases.lock_cases, CallsKept.answered, FetchWorlds.fetched_world, Fillings.fetch_outcome, Spared.fetch_spares}
use Rattle.w16_model.proofs.Common.{slice_get, length-take, Done, FarEffect, IsWritten, Reaches, next_slot, Part, part_of_selector, Word}
use Rattle.w16_model.proofs.FarLaws.{far_effect_law}
use Rattle.std.proofs.lemmas.Option.{slice_get_within}
use Rattle.w16_model.specs.Law.{FarStep as HandlesFarStep}
use Rattle.w16_loading.specs.Answers.{StepOver}
use Rattle.w16_machine.proofs.Common.{Bytes, Fault, Read, FetchFault, Answer, Format, bystanders_law}
use Rattle.w16_writes.specs.LastWrite.{Access, byte_in, read, slot_after_step, written}
use Rattle.w16_writes.proofs.Bytes.{some_such, none_or, which, only, Agree, agree_new, agree_same, get-part, get-written, get-unwritten}
use Rattle.w16_writes.proofs.Calls.{HeapsAgree, call_agrees, goes_free, had_no_object, kept_agrees, no_object}
use Rattle.w16_loading.specs.declared.FetchFault.TheVariants as faults
use Rattle.w16_loading.proofs.Locks.{lock_contents}
use Rattle.w16_loading.specs.Families.AnyCommand.{any}

-- the byte at a place of a slot's object
abbrev pub get : Handles → ℕ → ℕ → Option ℕ
get h slot i = byte_in (bytes_at h.heap slot) i

-- an access has this byte at a place of a slot's object
pub record HasIn (h : Handles) (slot i byte : ℕ) (access : Access) : Type 0 where
  pub number : ℕ
  pub selected : part_of_selector h (selector_in access.pointer) ≡ Some (record { slot = slot; number = number })
  pub index : ℕ
  pub place : i ≡ REACH * number + offset_in access.pointer + index
  pub has : slice_get access.bytes index ≡ Some byte

abbrev HandlesAgree : Handles → Handles → Type 0
HandlesAgree old new = (q : ℕ) → HeapsAgree old.heap new.heap q

-- What a step puts is there, what it reads was there, and elsewhere bytes agree, each object's at its slot after the step.
pub record Keeps (old new : Handles) (to : ℕ → ℕ) (puts gets : Option Access) : Type 0 where
  pub put : (slot i byte : ℕ) → is_some (get new slot i) ≡ true → IsSomeAnd puts (HasIn new slot i byte) → get new slot i ≡ Some byte
  pub got : (slot i byte : ℕ) → is_some (get old slot i) ≡ true → IsSomeAnd gets (HasIn old slot i byte) → get old slot i ≡ Some byte
  pub kept : (slot i : ℕ) → is_some (get old slot i) ≡ true → is_some (get new (to slot) i) ≡ true → ((byte : ℕ) → IsSomeAnd puts (HasIn new (to slot) i byte) → ⊥) → get new (to slot) i ≡ get old slot i
  -- another slot had no object
  pub free : (slot : ℕ) → (to slot ≡ slot) ⊎ (object_at old.heap (to slot) ≡ None)

abbrev pub KeepsSegments : Handles → Handles → AnyCommand → Reply → Type 0
KeepsSegments old new command reply = Keeps old new (λ q. slot_after_step old command reply new q) (written command reply) (read command reply)

-- a step that is no answered access
quiet : {old new : Handles} {to : ℕ → ℕ} → ((q : ℕ) → Agree (bytes_at old.heap q) (bytes_at new.heap (to q))) → ((q : ℕ) → (to q ≡ q) ⊎ (object_at old.heap (to q) ≡ None)) → Keeps old new to None None
quiet agree free = record { put = λ slot i byte t h. absurd h; got = λ slot i byte t h. absurd h; kept = λ slot i p q out. (agree slot).one i p q; free = free }

-- one that leaves objects their slots
calm : {old new : Handles} → HandlesAgree old new → Keeps old new (λ q. q) None None
calm agree = quiet agree (λ q. inl refl)

-- A fetch gives bytes to an object that had none, and other objects keep theirs or lose them.
fetch_agrees : {answers : Answers} {old : LoadingWorld} {slot : ℕ} {fault : Option FetchFault} {next : LoadingWorld} → IsLoadingWorld old → FetchesFrom Fills answers old slot fault next → HandlesAgree old.handles next.handles
fetch_agrees {answers} {old} {slot} {fault} {next} is fetched q = elim (cases_eq q slot) [
  | inl e ↦ subst (HeapsAgree old.handles.heap next.handles.heap) (sym e) (elim (fetch_outcome fetched).1 [
    | inl same ↦ agree_same (ap (λ (w : LoadingWorld). bytes_at w.handles.heap slot) same)
    | inr (read, sized, given, g) ↦ agree_new (ap bytes_in g.there ∙ g.absent)
  ])
  | inr d ↦ kept_agrees old.handles.heap next.handles.heap q (fetch_spares is.handles.heap fetched q d).0
]

abbrev handles_of : LoadingWorld → Handles
handles_of w = w.handles

-- An access is made in the world, or in what a fetch leaves of it; or that is all.
record Made (old : LoadingWorld) (command : Command OfFar) (reply : Reply) (new : LoadingWorld) : Type 0 where
  pub mid : Handles
  pub agree : HandlesAgree old.handles mid
  pub runs : mid.attributes ≡ old.handles.attributes
  pub made : ((answer : FarAnswer) × (reply ≡ C.reply_of_far answer) × FarEffect mid command answer new.handles) ⊎ ((fault : FetchFault) × (reply ≡ C.Failed fault) × (new.handles ≡ mid))

module _ (answers : Answers) (old : LoadingWorld) (is : IsLoadingWorld old) {command : Command OfFar} {reply : Reply} {new : LoadingWorld} where
  accessed : (access : LoadingWorld → FarAnswer × LoadingWorld) (selector : ℕ) → ((w : LoadingWorld) → new.handles ≡ (access w).1.handles → HandlesFarStep w.handles command (access w).0 new.handles)
      → C.Accesses (FetchesFrom Fills answers) access old selector reply new → Made old command reply new
  accessed access selector does step = elim (access_cases (FetchesFrom Fills answers) old reply new access selector step) [
    | inl (fault, next, f, g) ↦
        let agree = fetch_agrees is f in
        let runs = ap (λ (w : LoadingWorld). w.handles.attributes) f.rest in
        elim (none_or fault g) [
          | inl g ↦ in_world next (fetched_world is f) agree runs g
          | inr (x, g) ↦ record { mid = next.handles; agree = agree; runs = runs; made = inr (x, g.0, ap handles_of g.1) }
        ]
    | inr g ↦ in_world old is (λ q. agree_same refl) refl g
  ]
    where
      in_world : (w : LoadingWorld) → IsLoadingWorld w → HandlesAgree old.handles w.handles → w.handles.attributes ≡ old.handles.attributes → gives (access w) reply new → Made old command reply new
      in_world w are agree runs g = record { mid = w.handles; agree = agree; runs = runs; made = inl ((access w).0, g.0, far_effect_law w.handles new.handles command (access w).0 are.handles (does w (ap handles_of g.1))) }

far_made : (answers : Answers) (old : LoadingWorld) → IsLoadingWorld old → (command : Command OfFar) (reply : Reply) (new : LoadingWorld) → C.FarStep (FetchesFrom Fills answers) old command reply new → Made old command reply new
far_made answers old is (Read pointer count) reply new step = accessed answers old is _ _ (λ w e. (refl, e)) step
far_made answers old is (Write pointer bytes) reply new step = accessed answers old is _ _ (λ w e. (refl, e)) step
far_made answers old is (Fill pointer count byte) reply new step = accessed answers old is _ _ (λ w e. (refl, e)) step

-- What an access reached.
module _ {mid new : Handles} {selector end : ℕ} {becomes : ℕ → List ℕ → List ℕ → Type 0} (r : Reaches mid selector end becomes new) where
  reached : (before after : List ℕ) × (bytes_at mid.heap r.slot ≡ Some before) × (bytes_at new.heap r.slot ≡ Some after) × becomes (REACH * r.number) before after
  reached =
      let (o, there, h) = some_such (object_at mid.heap r.slot) r.object in
      let (before, e, h) = some_such o.bytes h in
      (before, h.0, ap bytes_in there ∙ e, ap bytes_in h.2, h.1)

  -- The selector reaches as much over the same runs, and nothing else.
  selected : (h : Handles) → h.attributes ≡ mid.attributes → part_of_selector h selector ≡ Some (record { slot = r.slot; number = r.number })
  selected h same = ap (λ a. part_of_selector (record mid { attributes = a }) selector) same ∙ r.found

  here : (h : Handles) → h.attributes ≡ mid.attributes → {p : Part} → part_of_selector h selector ≡ Some p → ◌≡◌ {A = Part} p (record { slot = r.slot; number = r.number })
  here h same e = only e (selected h same)

  runs : new.attributes ≡ mid.attributes
  runs = ap (λ (h : Handles). h.attributes) r.rest

-- What an answered write leaves of what agreed before it, and what it puts.
module _ {mid new : Handles} (pointer : ℕ) (slice : List ℕ) (r : Reaches mid (selector_in pointer) (offset_in pointer + length slice) (λ begin before after. IsWritten before (begin + offset_in pointer) slice after) new) where
  abbrev access : Access
  access = record { pointer = pointer; bytes = slice }

  write_puts : (slot i byte : ℕ) → is_some (get new slot i) ≡ true → HasIn new slot i byte access → get new slot i ≡ Some byte
  write_puts slot i byte p h =
      let (before, after, had, has, w) = reached r in
      let at = here r new (runs r) h.selected in
      ap (λ (p : Part). get new p.slot i) at ∙ ap (λ b. byte_in b i) has ∙ ap (slice_get after) (h.place ∙ ap (λ (p : Part). REACH * p.number + offset_in pointer + h.index) at)
      ∙ get-written before (REACH * r.number + offset_in pointer) slice after w h.index byte h.has

  write_keeps : (old : Handles) → HandlesAgree old mid → (slot i : ℕ) → is_some (get old slot i) ≡ true → is_some (get new slot i) ≡ true → ((byte : ℕ) → HasIn new slot i byte access → ⊥) → get new slot i ≡ get old slot i
  write_keeps old agree slot i p q out = same ∙ (agree slot).one i p (ap is_some (sym same) ∙ q)
    where
      same : get new slot i ≡ get mid slot i
      same = elim (cases_eq slot r.slot) [
        | inl e ↦
            let (before, after, had, has, w) = reached r in
            ap (λ s. get new s i) e ∙ ap (λ b. byte_in b i) has
            ∙ get-unwritten before (REACH * r.number + offset_in pointer) slice after w i (λ k byte place h. out byte (record { number = r.number; selected = selected r new (runs r) ∙ ap (λ s. Some (record { slot = s; number = r.number })) (sym e); index = k; place = place; has = h }))
            ∙ ap (λ b. byte_in b i) (sym had) ∙ ap (λ s. get mid s i) (sym e)
        | inr d ↦ ap (λ o. byte_in (bytes_in o) i) (r.others slot d)
      ]

-- And a read.
module _ (old : Handles) {mid new : Handles} (pointer count : ℕ) (bytes : List ℕ) (agree : HandlesAgree old mid) (runs : mid.attributes ≡ old.attributes)
    (r : Reaches mid (selector_in pointer) (offset_in pointer + count) (λ begin before after. (after ≡ before) × (bytes ≡ part before (begin + offset_in pointer) count)) new) where
  read_keeps : HandlesAgree old new
  read_keeps q = subst (Agree (bytes_at old.heap q)) (sym same) (agree q)
    where
      same : bytes_at new.heap q ≡ bytes_at mid.heap q
      same = elim (cases_eq q r.slot) [
        | inl e ↦ let (before, after, had, has, b) = reached r in ap (bytes_at new.heap) e ∙ has ∙ ap Some b.0 ∙ sym had ∙ ap (bytes_at mid.heap) (sym e)
        | inr d ↦ ap bytes_in (r.others q d)
      ]

  read_gives : (slot i byte : ℕ) → is_some (get old slot i) ≡ true → HasIn old slot i byte (record { pointer = pointer; bytes = bytes }) → get old slot i ≡ Some byte
  read_gives slot i byte p h =
      let (before, after, had, has, b) = reached r in
      let at = here r old (sym runs) h.selected in
      let now : get mid slot i ≡ Some byte = ap (λ (p : Part). get mid p.slot i) at ∙ ap (λ b. byte_in b i) had ∙ ap (slice_get before) (h.place ∙ ap (λ (p : Part). REACH * p.number + offset_in pointer + h.index) at)
      ∙ sym (get-part before (REACH * r.number + offset_in pointer) count h.index (shorter before b.1)) ∙ ap (λ l. slice_get l h.index) (sym b.1) ∙ h.has in
      sym ((agree slot).one i p (ap is_some now)) ∙ now
    where
      shorter : (before : List ℕ) → bytes ≡ part before (REACH * r.number + offset_in pointer) count → h.index < count
      shorter before e = omega (arith, slice_get_within bytes h.index byte h.has, ap length e ∙ length-take count (drop (REACH * r.number + offset_in pointer) before))

far_keeps_by : {old : LoadingWorld} {command : Command OfFar} {reply : Reply} {new : LoadingWorld} → Made old command reply new → KeepsSegments old.handles new.handles (any OfFar command) reply
far_keeps_by {old} {command} {reply} {new} m = elim m.made [
  | inl (answer, e, effect) ↦ subst (Does command) (sym e) (answered command answer effect)
  | inr (fault, e, same) ↦ subst (Does command) (sym e) (failed command fault same)
]
  where
    Does : Command OfFar → Reply → Type 0
    Does command reply = KeepsSegments old.handles new.handles (any OfFar command) reply

    unchanged : new.handles ≡ m.mid → HandlesAgree old.handles new.handles
    unchanged e q = subst (λ (h : Handles). HeapsAgree old.handles.heap h.heap q) (sym e) (m.agree q)

    failed : (command : Command OfFar) (fault : FetchFault) → new.handles ≡ m.mid → Does command (C.Failed fault)
    failed (Read pointer count) fault e = calm (unchanged e)
    failed (Write pointer bytes) fault e = calm (unchanged e)
    failed (Fill pointer count byte) fault e = calm (unchanged e)

    puts : (pointer : ℕ) (slice : List ℕ) → Reaches m.mid (selector_in pointer) (offset_in pointer + length slice) (λ begin before after. IsWritten before (begin + offset_in pointer) slice after) new.handles
        → Keeps old.handles new.handles (λ q. q) (Some (record { pointer = pointer; bytes = slice })) None
    puts pointer slice r = record { put = write_puts pointer slice r; got = λ slot i byte p h. absurd h; kept = write_keeps pointer slice r old.handles m.agree; free = λ slot. inl refl }

    answered : (command : Command OfFar) (answer : FarAnswer) → FarEffect m.mid command answer new.handles → Does command (C.reply_of_far answer)
    answered (Read pointer count) (Fault fault) e = calm (unchanged e)
    answered (Write pointer bytes) (Fault fault) e = calm (unchanged e)
    answered (Fill pointer count byte) (Fault fault) e = calm (unchanged e)
    answered (Read pointer count) (Bytes bytes) r = record {
      put = λ slot i byte p h. absurd h;
      got = read_gives old.handles pointer count bytes m.agree m.runs r;
      kept = λ slot i p q out. (read_keeps old.handles pointer count bytes m.agree m.runs r slot).one i p q;
      free = λ slot. inl refl;
    }
    answered (Write pointer slice) Done r = puts pointer slice r
    answered (Fill pointer count byte) Done r = puts pointer (C.repeated count byte) r
    answered (Read pointer count) Done r = absurd r
    answered (Write pointer slice) (Bytes bytes) r = absurd r
    answered (Fill pointer count byte) (Bytes bytes) r = absurd r

-- Other steps.

-- A resize is the call that it stands for, with the answer that is printed, so it keeps segments.
resizes_keep : (old new : Handles) → C.AreHandles old → (command : C.Command C.OfResizes) (reply : Reply) → C.ResizeReplies old command reply new → KeepsSegments old new (any OfResizes command) reply
resizes_keep old new is command reply step =
    let (answer, says, step) = some_such (C.answer_in reply) step in
    let to = λ (q : ℕ). ap (λ (p : Option Answer). elim p as (λ _. ℕ) [ None ↦ q | Some answer ↦ next_slot old (call_of command) answer new q ]) (sym says) in
    let call = by command answer step in
    quiet (λ q. subst (λ s. Agree (bytes_at old.heap q) (bytes_at new.heap s)) (to q) (call_agrees old new is _ answer call q))
    (λ q. subst (λ s. (s ≡ q) ⊎ (object_at old.heap s ≡ None)) (to q) (goes_free old new is _ answer call q))
  where
    by : (command : C.Command C.OfResizes) (answer : Answer) → C.ResizeStep old command answer new → C.CallStep old (call_of command) answer new
    by (C.GlobalReAlloc handle size flags) (Word answer) step = step
    by (C.GlobalDiscard handle) (Word answer) step = step
    by command answer step = absurd step

module _ (honest : Type 0) (format : Format) (old new : LoadingWorld) (is : IsLoadingWorld old) (reply : Reply) (q : ℕ) where
  abbrev Agrees : LoadingWorld → Type 0
  Agrees w = HeapsAgree old.handles.heap w.handles.heap q

  -- a call on handles
  called : (command : C.Command C.OfHandles) (answer : Answer) (next : Handles) → C.CallStep old.handles (Calls command) answer next → new.handles ≡ next → Agrees new
  called command answer next step e = subst (λ (h : Handles). HeapsAgree old.handles.heap h.heap q) (sym e) (call_agrees old.handles next is.handles (Calls command) answer step q)

  -- a lock of a resource, after a fetch where it has no bytes
  lock_agrees : (answers : Answers) (handle : ℕ) → C.LocksResource (FetchesFrom Fills answers) old handle reply new → Agrees new
  lock_agrees answers handle step = elim (lock_cases (FetchesFrom Fills answers) old reply new handle step) [
    | inl f ↦ subst Agrees (sym f.1) (agree_same refl)
    | inr (x, e, inl (fault, next, f, g)) ↦ becomes g (after fault next (fetch_agrees is f q))
    | inr (x, e, inr f) ↦ becomes f (locks old (agree_same refl))
  ]
    where
      locks : (w : LoadingWorld) → Agrees w → Agrees (C.locked w handle).1
      locks w a = subst (Agree (bytes_at old.handles.heap q)) (sym ((lock_contents w.handles handle).bytes q)) a

      becomes : {end : Reply × LoadingWorld} → ◌≡◌ {A = Reply × LoadingWorld} (reply, new) end → Agrees end.1 → Agrees new
      becomes e a = subst (λ (p : Reply × LoadingWorld). Agrees p.1) (sym e) a

      after : (fault : Option FetchFault) (next : LoadingWorld) → Agrees next → Agrees (C.lock_outcome fault handle next).1
      after None next a = locks next a
      after (Some faults.NoRoom) next a = a
      after (Some faults.Store) next a = a
      after (Some faults.Damaged) next a = a

  -- a step that is about no object
  stands_by : (command : AnyCommand) → StepOver honest format old command reply new → (C.IsStepAbout old.handles command q → ⊥) → Agrees new
  stands_by command step out = elim (which (object_at old.handles.heap q)) [
    | inl e ↦ had_no_object e
    | inr (o, e) ↦ elim (bystanders_law honest format old new command reply q is step (ap is_some e) out) [ inl kept ↦ kept_agrees old.handles.heap new.handles.heap q kept | inr gone ↦ no_object gone.0 ]
  ]

module _ (honest : Type 0) (format : Format) (old new : LoadingWorld) (is : IsLoadingWorld old) where
  abbrev answers : Answers
  answers = told honest format old.files old.failures new.failures

  idle : {command : AnyCommand} {reply : Reply} → StepOver honest format old command reply new → ((q : ℕ) → C.IsStepAbout old.handles command q → ⊥) → HandlesAgree old.handles new.handles
  idle {command} {reply} step out q = stands_by honest format old new is reply q command step (out q)

  pub loading_keeps : (command : AnyCommand) (reply : Reply) → StepOver honest format old command reply new → KeepsSegments old.handles new.handles command reply
  loading_keeps (any C.OfHandles command) reply step = calm (λ q. let f = step.step in let c = answered old is command reply f.0 f.1 in called honest format old new is reply q command c.0 f.0 c.1 (ap handles_of f.2))
  loading_keeps (any OfResizes command) reply step = let f = step.step in subst (λ (h : Handles). KeepsSegments old.handles h (any OfResizes command) reply) (sym (ap handles_of f.2)) (resizes_keep old.handles f.0 is.handles command reply f.1)
  loading_keeps (any OfFar command) reply step = far_keeps_by (far_made answers old is command reply (record new { failures = old.failures }) step.step)
  loading_keeps (any C.OfModules command) reply step = calm (idle step (λ q about. about))
  loading_keeps (any _ (C.LockResource handle)) reply step = calm (λ q. lock_agrees honest format old (record new { failures = old.failures }) is reply q answers handle step.step)
  loading_keeps (any C.OfResources other) reply step = calm (idle step (λ q about. about))
  loading_keeps (any C.OfLocals command) reply step = absurd step.step
