-- An object that is there keeps its owner, or is gone with it, whatever the store answers.
use Rattle.w16_loading.proofs
use proofs.Common as C
use proofs.Common.{◌≡◌, ◌≢◌, ℕ, inl, inr, ◌-◌, ◌==◌, Bool, true, false, cond, not, List, [], ◌∷◌, Option, Some, None, refl, sym, ap, ◌∙◌, subst, false≢true, part, FarAnswer, Handles, owned_in, Answers, Fills, told, Frees, Go, left, LoadingWorld, given, named, without_objects}
use proofs.Undone.{same_owned, chosen, retained}
use proofs.Stepping.{Parts, family, nothing_asked}
use proofs.Answered.{loaded_by}
use proofs.{Named.free_slot, CallsKept.handles_owners, CallsKept.resizes_owners}
use Rattle.std.specs.FinMap as finmap
use Rattle.w16_model.specs.declared.FarFault.TheVariants as far
use Rattle.w16_model.specs.Far as far_access
use Rattle.w16_loading.proofs.OwnedKept as kept

module _ (answers : Answers) (old : LoadingWorld) (is : C.IsLoadingWorld old) (q : ℕ) (there : C.is_some (C.object_at old.handles.heap q) ≡ true) where
  abbrev Kept : LoadingWorld → Type 0
  Kept world = C.KeepsOwner old.handles world.handles q

  -- a world in which it has the owner that it has in another
  as_in : (w v : LoadingWorld) → C.owned_at v.handles q ≡ C.owned_at w.handles q → Kept w → Kept v
  as_in w v e (inl same) = inl (e ∙ same)
  as_in w v e (inr none) = inr (e ∙ none)

  not_free : (slot : ℕ) → C.IsFreeSlot old.handles slot → q ≢ slot
  not_free slot free e = false≢true (sym (ap C.is_some (ap (C.object_at old.handles.heap) e ∙ C.unused_slot old.handles is.handles slot free)) ∙ there)

  read : (selector offset n : ℕ) (w : LoadingWorld) → Kept w → Kept (C.far_read selector offset n w).1
  read selector offset n w = turn (C.far_fault w.handles selector offset n)
    where
      turn : (p : Option C.FarFault) → Kept w → Kept (record w {
        handles = (elim p as (λ _. FarAnswer × Handles) [
          | Some fault ↦ (FarAnswer.Fault fault, w.handles)
          | None ↦ (FarAnswer.Bytes (part (far_access.far_bytes w.handles selector) (far_access.far_at w.handles selector offset) n), record w.handles { heap = C.after_touch w.handles.heap (far_access.far_slot w.handles selector) })
        ]).1;
      })
      turn None k = k
      turn (Some fault) k = k

  written : (selector offset : ℕ) (slice : List ℕ) (w : LoadingWorld) → Unit {0} → Kept w → Kept (C.far_write selector offset slice w).1
  written selector offset slice w ours = turn (C.refuses_write w.handles selector)
    where
      plain : (p : Option C.FarFault) → Kept w → Kept (record w {
        handles = (elim p as (λ _. FarAnswer × Handles) [
          | Some fault ↦ (FarAnswer.Fault fault, w.handles)
          | None ↦ (FarAnswer.Done, record w.handles { heap = C.after_touch (far_access.after_write w.handles.heap (far_access.far_slot w.handles selector) (far_access.far_at w.handles selector offset) slice) (far_access.far_slot w.handles selector) })
        ]).1;
      })
      plain None k = k
      plain (Some fault) k = k

      turn : (b : Bool) → Kept w → Kept (record w { handles = (cond {A = FarAnswer × Handles} b (FarAnswer.Fault far.ReadOnly, w.handles) (far_access.data_write w.handles selector offset slice)).1 })
      turn true k = k
      turn false k = plain (C.far_fault w.handles selector offset (C.length slice)) k

  -- objects that go
  retains : (gone : ℕ → Bool) (w : LoadingWorld) → Kept w → Kept (without_objects gone w)
  retains gone w k = turn (gone q) (retained w.handles.attributes gone q) k
    where
      turn : (b : Bool) → finmap.get (without_objects gone w).handles.attributes q ≡ cond (not b) (finmap.get w.handles.attributes q) None → Kept w → Kept (without_objects gone w)
      turn true e k = inr (ap owned_in e)
      turn false e k = as_in w (without_objects gone w) (ap owned_in e) k

  go : (w : LoadingWorld) (handles : List ℕ) (last : LoadingWorld) → Go w handles last → Kept w → Kept last
  go w [] last g k = subst Kept (sym g.1) k
  go w (handle ∷ handles) last g k = go (C.without_module w handle) handles last g.1 (turn (C.module_at w.modules handle))
    where
      turn : (p : Option C.Module) → Kept (elim p as (λ _. LoadingWorld) [ None ↦ w | Some m ↦ let rest = without_objects (λ q. C.is_member q m.slots) w in record rest { modules = finmap.remove rest.modules handle } ])
      turn None = k
      turn (Some m) = retains (λ q. C.is_member q m.slots) w k

  freed : (handle answer : ℕ) (new : LoadingWorld) → Frees old handle answer new → Kept new
  freed handle answer new f = subst Kept (sym f.after) (retains _ f.left (go (C.used_less old handle) f.ended.gone f.left f.ended.went (turn (C.module_at old.modules handle))))
    where
      turn : (p : Option C.Module) → Kept (elim p as (λ _. LoadingWorld) [ None ↦ old | Some m ↦ record old { modules = finmap.insert old.modules handle (C.Loaded (record m { uses = m.uses - 1 })) } ])
      turn None = inl refl
      turn (Some m) = inl refl

  -- objects that come get free slots
  fulfilled : (closure : C.Closure) (answer : C.Answer) (new : LoadingWorld) → C.Fulfils (C.GivesFrom Fills answers) old closure answer new → Kept new
  fulfilled closure answer new f = subst Kept (sym f.after) (turn f.failure)
    where
      apart : (x : ℕ × C.Segment) → C.Member x (C.segments_of (given closure f.choice)) → q ≢ x.0
      apart x k = not_free x.0 (free_slot old closure f.choice f.is_choice x.0 (chosen 0 closure.found f.choice.handles f.choice.slots x k))

      turn : (failure : Option C.Failure) → Kept (left failure (C.with_heap (named old closure f.choice) f.heap) (C.undone old f.choice f.heap))
      turn None = inl (same_owned old (C.segments_of (given closure f.choice)) q apart)
      turn (Some failure) = inl refl

  parts : Parts (C.FetchesFrom Fills answers) (C.LoadsFrom Fills answers) (λ slice. Unit {0}) old Kept
  parts = record {
    start = inl refl;
    handles = λ command reply next step. inl (handles_owners old is command reply next step q);
    resizes = λ command reply next step. inl (resizes_owners old is command reply next step q);
    reads = read;
    writes = written;
    fetched = λ slot fault next f. subst Kept (sym f.rest) (inl refl);
    built = λ name handle none free. inl refl;
    loaded = λ b file answer new f. loaded_by answers old (λ answer. Kept) (λ answer. inl refl) b file answer new (λ handle m here few. inl refl) (λ closure facts. fulfilled closure answer new) f;
    freed = freed;
    counted = λ slot load count here some few. inl refl;
    made = λ slot handle place r fault next free at none f. subst Kept (sym f.rest) (inl (ap owned_in (C.inserted_other old.handles.attributes slot (C.attributes_for r) q (not_free slot free))));
    locks = λ handle w k. as_in w (C.locked w handle).1 (kept.locked w.handles handle q) k;
    last = λ slot load here. retains (λ q. q == slot) old (inl refl);
  }

pub owners_law : (honest : Type 0) → C.OwnersLaw honest
owners_law honest format old new command reply is step slot there =
    let answers = told honest format old.files old.failures new.failures in
    family (C.FetchesFrom _ _) (C.LoadsFrom Fills answers) (λ slice. Unit {0}) old (λ w. C.KeepsOwner old.handles w.handles slot)
    (parts _ old is _ there) (record new { failures = old.failures }) reply command (nothing_asked command) step.step
