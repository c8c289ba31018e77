-- An allocation, and a write of all its bytes.
use Rattle.w16_loading.proofs
use proofs.Common as C
use proofs.Common.{◌≡◌, ℕ, inl, inr, Bool, true, false, cond, ◌<◌, List, ◌++◌, length, All, Option, Some, None, refl, sym, ap, ◌∙◌, subst, arith, nat_cmp, FinMap, false≢true, Heap, Object, with_newest, Request, IsNew, discarded, discards_needed, put_part, after_write, revival_options}
use proofs.Common.{inserted_here, inserted_other, Fills}
use Rattle.std.specs.FinMap as finmap

-- the last object put under an id counts
put_twice : (m : FinMap nat_cmp Object) (id : ℕ) (a b : Object) → finmap.insert (finmap.insert m id a) id b ≡ finmap.insert m id b
put_twice m id a b = C.same_map C.nat_cmp_total C.nat_cmp-IsAntisymmetric _ _ (λ q. elim (C.cases_eq q id) [
  | inl e ↦ inserted_here _ id b q e ∙ sym (inserted_here m id b q e)
  | inr d ↦ inserted_other _ id b q d ∙ inserted_other m id a q d ∙ sym (inserted_other m id b q d)
])

-- an object that was put and then changed
put_changed : (m : FinMap nat_cmp Object) (id : ℕ) (a : Object) (f : Object → Object) → C.update (finmap.insert m id a) id f ≡ finmap.insert m id (f a)
put_changed m id a f =
    (λ i. elim (inserted_here m id a id refl i) [ Some p ↦ finmap.insert (finmap.insert m id a) id (f p) | None ↦ finmap.insert m id a ]) ∙ put_twice m id a _

-- all bytes replaced
all_replaced : (b bytes : List ℕ) → length b ≡ length bytes → put_part b 0 bytes ≡ bytes
all_replaced b bytes e = ap (λ rest. bytes ++ rest) (C.drop_all _ b (omega (arith, e))) ∙ C.append-nil _

module _ (old : Heap) (slot : ℕ) (o : Object) (bytes : List ℕ) (ours : All (λ b. b < 256) bytes) where
  abbrev with_bytes : List ℕ → Object
  with_bytes b = record o { bytes = Some b }

  abbrev put : ℕ → Object → Heap
  put k x = C.with_ordered (discarded old k (Some slot)) slot x (with_newest slot x)

  abbrev Good : ℕ → Object → Heap → Type 0
  Good k x new = C.Settles old (C.stays_for slot revival_options) (put k x) new

  -- what is written into the heap in which the object has other bytes
  abbrev standing : ℕ → List ℕ → FinMap nat_cmp ℕ → Heap
  standing k b places = record (put k (with_bytes b)) { places = places }

  written : (k : ℕ) (b : List ℕ) (places : FinMap nat_cmp ℕ) → length b ≡ length bytes → Good k (with_bytes b) (standing k b places) → Good k (with_bytes bytes) (after_write (standing k b places) slot 0 bytes)
  written k b places e s = record {
    same = λ i. record (put k (with_bytes bytes)) { places = places; objects = objects i };
    sound = C.written_heap (standing k b places) s.sound slot (with_bytes b) (inserted_here (discarded old k (Some slot)).objects slot (with_bytes b) slot refl) b refl 0 bytes (omega (arith, e)) ours;
    kept = s.kept;
  }
    where
      objects : C.update (finmap.insert (discarded old k (Some slot)).objects slot (with_bytes b)) slot (λ x. record x { bytes = C.option_map (λ c. put_part c 0 bytes) x.bytes })
          ≡ finmap.insert (discarded old k (Some slot)).objects slot (with_bytes bytes)
      objects = put_changed (discarded old k (Some slot)).objects slot (with_bytes b) (λ x. record x { bytes = C.option_map (λ c. put_part c 0 bytes) x.bytes })
          ∙ ap (λ c. finmap.insert (discarded old k (Some slot)).objects slot (with_bytes c)) (all_replaced b bytes e)

  -- a new object of the right kind has some bytes
  some_bytes : (x : Object) → IsNew false (length bytes) o.kind o.locks x → (b : List ℕ) × (length b ≡ length bytes) × (x ≡ with_bytes b)
  some_bytes x is = from x.bytes refl is.new_bytes
    where
      from : (p : Option (List ℕ)) → x.bytes ≡ p → C.IsSomeAnd p (C.AreNew false (length bytes)) → (b : List ℕ) × (length b ≡ length bytes) × (x ≡ with_bytes b)
      from None e new = absurd new
      from (Some b) e new = (b, new.0, λ i. record { kind = is.same_kind i; locks = is.same_locks i; bytes = e i })

  written_any : (k : ℕ) (x : Object) (next : Heap) → IsNew false (length bytes) o.kind o.locks x → Good k x next → Good k (with_bytes bytes) (after_write next slot 0 bytes)
  written_any k x next is s =
      let b : (b : List ℕ) × (length b ≡ length bytes) × (x ≡ with_bytes b) = some_bytes x is in
      let t : Good k (with_bytes b.0) next = subst (λ y. Good k y next) b.2 s in
      subst (λ (h : Heap). Good k (with_bytes bytes) (after_write h slot 0 bytes)) (sym t.same) (written k b.0 next.places b.1 (subst (Good k (with_bytes b.0)) t.same t))

  abbrev Gives : Option ℕ → Bool → Heap → Type 0
  Gives p answered new = Request old slot (record { options = revival_options; prefix = p; becomes = λ x. x ≡ with_bytes bytes; order = with_newest slot }) answered new

  request : (next : Heap) (p : Option ℕ) (answered : Bool) → Request old slot (record { options = revival_options; prefix = p; becomes = IsNew false (length bytes) o.kind o.locks; order = with_newest slot }) answered next
      → Gives p answered (elim answered [ true ↦ after_write next slot 0 bytes | false ↦ next ])
  request next None true r = absurd (false≢true (sym r.0))
  request next None false r = r
  request next (Some k) false r = absurd (false≢true r.0)
  request next (Some k) true r = (refl, (with_bytes bytes, refl, written_any k r.1.0 next r.1.1 r.1.2))

pub fill_law : C.FillLaw
fill_law old next slot o bytes answered there absent ours a = turn _ a.request
  where
    turn : (t : Bool) → Request old slot (record { options = revival_options; prefix = discards_needed old (length bytes) (Some slot) revival_options; becomes = IsNew false (length bytes) o.kind o.locks; order = with_newest slot }) t next
        → Fills old slot bytes t (cond t (after_write next slot 0 bytes) next)
    turn true r = record { before = o; there = there; absent = absent; some = a.some; rounded = a.rounded; are_bytes = ours; request = request old _ o _ ours _ _ _ r }
    turn false r = record { before = o; there = there; absent = absent; some = a.some; rounded = a.rounded; are_bytes = ours; request = request old _ o _ ours _ _ _ r }
