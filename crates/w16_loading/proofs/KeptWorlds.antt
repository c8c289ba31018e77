-- A world stays one where its objects keep their kinds, and their sizes or no bytes at all.
use Rattle.w16_loading.proofs
use proofs.Common.{◌≡◌, ℕ, inl, inr, Bool, true, List, length, Option, Some, None, IfSome, IsSomeAnd, is_some, refl, sym, ap, ◌∙◌, subst, false≢true, cases_eq, Kind, Heap, Object, object_at, with_object, Handles, AreHandles, IsKeptOrDiscarded, inserted_here, inserted_other, bytes_in}
use proofs.Common.{LoadingWorld, IsLoadingWorld, IsObjectOf}
use proofs.Worlds.{same_module, is_used, is_load, owner_stays, follows}
use proofs.{Fillings.IsLost, KeptBytes.KeepsBytes, OwnedKept.SameOwned}

-- an object that a module owns, of a kind and a size
abbrev pub IsOwned : Heap → ℕ → Kind → ℕ → Type 0
IsOwned heap slot kind size = IsSomeAnd (object_at heap slot) (λ o. (o.kind ≡ kind) × IfSome o.bytes (λ bytes. length bytes ≡ size))

-- an object is left: of its kind, and with its bytes or none
abbrev pub IsLeft : Heap → Heap → ℕ → Type 0
IsLeft old new q = IsSomeAnd (object_at old q) (λ o. IsSomeAnd (object_at new q) (λ p. (p.kind ≡ o.kind) × IfSome p.bytes (λ b. o.bytes ≡ Some b)))

its_bytes : (p r : Option (List ℕ)) → p ≡ r → IfSome p (λ b. r ≡ Some b)
its_bytes None r e = tt
its_bytes (Some b) r e = sym e

pub same_left : (old new : Heap) (q : ℕ) → is_some (object_at old q) ≡ true → object_at new q ≡ object_at old q → IsLeft old new q
same_left old new q there e = subst (λ r. IsSomeAnd (object_at old q) (λ o. IsSomeAnd r (λ p. (p.kind ≡ o.kind) × IfSome p.bytes (λ b. o.bytes ≡ Some b)))) (sym e) (turn _ there)
  where
    turn : (p : Option Object) → is_some p ≡ true → IsSomeAnd p (λ o. IsSomeAnd p (λ r. (r.kind ≡ o.kind) × IfSome r.bytes (λ b. o.bytes ≡ Some b)))
    turn None t = absurd (false≢true t)
    turn (Some o) t = (refl, its_bytes _ _ refl)

pub put_left : (old : Heap) (id : ℕ) (before after : Object) → object_at old id ≡ Some before → after.kind ≡ before.kind → after.bytes ≡ before.bytes → (q : ℕ) → is_some (object_at old q) ≡ true → IsLeft old (with_object old id after) q
put_left old id before after there kind bytes q some = elim (cases_eq q id) [
  | inl e ↦ subst (λ p. IsSomeAnd p (λ o. IsSomeAnd (object_at (with_object old id after) q) (λ p. (p.kind ≡ o.kind) × IfSome p.bytes (λ b. o.bytes ≡ Some b)))) (sym (ap (object_at old) e ∙ there))
      (subst (λ p. IsSomeAnd p (λ p. (p.kind ≡ before.kind) × IfSome p.bytes (λ b. before.bytes ≡ Some b))) (sym (inserted_here old.objects id after q e)) (kind, its_bytes after.bytes before.bytes bytes))
  | inr d ↦ same_left old (with_object old id after) q some (inserted_other old.objects id after q d)
]

pub kept_left : (old new : Heap) (q : ℕ) → is_some (object_at old q) ≡ true → IsKeptOrDiscarded old new q → IsLeft old new q
kept_left old new q there (inl e) = same_left old new q there e
kept_left old new q there (inr h) = turn _ h
  where
    turn : (p : Option Object) → IsSomeAnd p (IsLost new q) → IsSomeAnd p (λ o. IsSomeAnd (object_at new q) (λ p. (p.kind ≡ o.kind) × IfSome p.bytes (λ b. o.bytes ≡ Some b)))
    turn None h = absurd h
    turn (Some o) h = subst (λ p. IsSomeAnd p (λ p. (p.kind ≡ o.kind) × IfSome p.bytes (λ b. o.bytes ≡ Some b))) (sym h.3) (refl, tt)

-- so it has the kind and size that it had,
pub left_owned : (old new : Heap) (slot : ℕ) (kind : Kind) (size : ℕ) → IsLeft old new slot → IsOwned old slot kind size → IsOwned new slot kind size
left_owned old new slot kind size left owned = turn _ _ owned left
  where
    sizes : (p r : Option (List ℕ)) → IfSome p (λ bytes. length bytes ≡ size) → IfSome r (λ b. p ≡ Some b) → IfSome r (λ bytes. length bytes ≡ size)
    sizes p None h k = tt
    sizes p (Some r) h k = subst (λ p. IfSome p (λ bytes. length bytes ≡ size)) k h

    turn : (p r : Option Object) → IsSomeAnd p (λ o. (o.kind ≡ kind) × IfSome o.bytes (λ bytes. length bytes ≡ size)) → IsSomeAnd p (λ o. IsSomeAnd r (λ x. (x.kind ≡ o.kind) × IfSome x.bytes (λ b. o.bytes ≡ Some b)))
        → IsSomeAnd r (λ o. (o.kind ≡ kind) × IfSome o.bytes (λ bytes. length bytes ≡ size))
    turn None r h k = absurd h
    turn (Some p) None h k = absurd k
    turn (Some p) (Some r) h k = (k.0 ∙ h.0, sizes _ _ h.1 k.1)

-- and its bytes, or none
pub left_bytes : (old new : Heap) (q : ℕ) → IsLeft old new q → KeepsBytes old new q
left_bytes old new q left = turn _ _ left
  where
    turn : (p r : Option Object) → IsSomeAnd p (λ o. IsSomeAnd r (λ x. (x.kind ≡ o.kind) × IfSome x.bytes (λ b. o.bytes ≡ Some b))) → IfSome (bytes_in r) (λ b. bytes_in p ≡ Some b)
    turn None r k = absurd k
    turn (Some p) None k = absurd k
    turn (Some p) (Some r) k = k.1

-- such a world is one
pub world_recounted : (old : LoadingWorld) → IsLoadingWorld old → (next : Handles) → AreHandles next → (failures : ℕ) → SameOwned old.handles next
    → ((slot : ℕ) (kind : Kind) (size : ℕ) (code : Bool) → IsObjectOf old slot kind size code → IsOwned next.heap slot kind size) → IsLoadingWorld (record old { handles = next; failures = failures })
world_recounted old is next are failures owned keeps = follows old (record old { handles = next; failures = failures }) is (record {
  handles = are;
  numbers = is.numbers;
  names = is.names;
  sources = λ handle m e. (m, e, same_module m);
  used = is_used old is;
  loads = λ slot load e. (load.loads, e, (is_load old is _ _ e).0, (is_load old is _ _ e).1);
  still = λ slot load before at e. (before, e, same_module _);
  of_segments = λ handle m slot kind size code e k h. object _ _ _ _ h;
  of_loads = λ slot load kind size code e h. object _ _ _ _ h;
  owners = λ slot t. owner_stays old is (record old { handles = next; failures = failures }) (λ handle m e. (m, e, same_module m)) (λ q load e. (load.loads, e)) _ (ap is_some (sym (owned _)) ∙ t);
})
  where
    object : (slot : ℕ) (kind : Kind) (size : ℕ) (code : Bool) → IsObjectOf old slot kind size code → IsObjectOf (record old { handles = next; failures = failures }) slot kind size code
    object slot kind size code h = record { object = keeps _ _ _ _ h; owned = owned _ ∙ h.owned }

-- and at the same count of failures
pub world_stays : (old : LoadingWorld) → IsLoadingWorld old → (next : Handles) → AreHandles next → SameOwned old.handles next → ((slot : ℕ) (kind : Kind) (size : ℕ) (code : Bool) → IsObjectOf old slot kind size code → IsOwned next.heap slot kind size) → IsLoadingWorld (record old { handles = next })
world_stays old is next are owned keeps = world_recounted old is _ are _ owned keeps

-- whatever the count
pub recounted : (world : LoadingWorld) → IsLoadingWorld world → (failures : ℕ) → IsLoadingWorld (record world { failures = failures })
recounted world is failures = world_recounted _ is _ is.handles _ (λ q. refl) (λ slot kind size code h. h.object)
