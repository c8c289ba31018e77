-- An object's bytes, lent to a work.
use Rattle.w16_global.proofs
use proofs.Common as C
use proofs.Common.{◌≡◌, ℕ, ◌+◌, ◌-◌, ◌<◌, ◌≤◌, IsSomeAnd, List, [], length, All, Option, Some, None, refl, sym, ap, ◌∙◌, subst, arith, part, Attributes, after_write, bytes_at, counted, Global, AreJoined, Lends}
use proofs.Common.{Holding}
use proofs.Owners.{written_joined}
use proofs.Loans.{lent_written, part_length}
use Rattle.std.proofs.Common.{take_all}
use Rattle.w16_global.specs.Loans.{after_lent, bytes_from}
use Rattle.w16_selectors.specs.Descriptors as selectors

-- The whole of an object's bytes, of which there are so many.
module _ (h : Holding) (id size : ℕ) (sized : Some size ≡ C.option_map length (bytes_at h.heap id)) where
  whole : bytes_at h.heap id ≡ Some (bytes_from h.heap id 0 size)
  whole = turn (bytes_at h.heap id) sized
    where
      turn : (b : Option (List ℕ)) → Some size ≡ C.option_map length b → b ≡ Some (part (C.unwrap_or b []) 0 size)
      turn None e = cc
      turn (Some bytes) e = let long : size ≡ length bytes = cc in ap Some (sym (take_all size bytes (omega (arith, long))))

  pub has_whole : C.HasPart h.heap id 0 size
  has_whole = turn (bytes_at h.heap id) sized
    where
      turn : (b : Option (List ℕ)) → Some size ≡ C.option_map length b → IsSomeAnd b (λ bytes. 0 + size ≤ length bytes)
      turn None e = cc
      turn (Some bytes) e = let long : size ≡ length bytes = cc in omega (arith, long)

  module _ {seen : List ℕ} (is : seen ≡ bytes_from h.heap id 0 size) where
    pub may : (P : List ℕ → Type 0) → IsSomeAnd (bytes_at h.heap id) P → P seen
    may P some = subst (λ b. IsSomeAnd b P) (whole ∙ ap Some (sym is)) some

    pub many : length seen ≡ size
    many = ap length is ∙ part_length (bytes_at h.heap id) 0 size has_whole

    pub lent_as : (done : List ℕ → List ℕ → Type 0) {after : List ℕ} → length after ≡ length seen → All (λ b. b < 256) after → done seen after
        → (lent : Lends h.heap id done) × (after_lent id 0 size h after ≡ record h { heap = after_write h.heap id 0 lent.after; written = counted h.written (length lent.bytes) })
    lent_as done {after} long all does = (
      record { bytes = seen; after = after; had = whole ∙ ap Some (sym is); long = long; are_bytes = all; does = does },
      lent_written h id 0 size has_whole after (long ∙ many) all ∙ ap (λ k. record h { heap = after_write h.heap id 0 after; written = counted h.written k }) (sym many),
    )

-- an object with bytes has a size
pub no_bytes : (P : List ℕ → Type 0) (b : Option (List ℕ)) → IsSomeAnd b P → C.option_map length b ≡ None → ⊥
no_bytes P None some e = absurd some
no_bytes P (Some bytes) some e = cc

-- the value of the whole
abbrev global_of : Holding → List (Option Attributes) → ℕ → Global
global_of h xs m = record { handles = C.handles_of h xs m; written = h.written }

pub lent_shown : (h : Holding) (xs : List (Option Attributes)) (m : ℕ) {g : Global} → global_of h xs m ≡ g → (slot : ℕ) (done : List ℕ → List ℕ → Type 0) (new : Holding)
    → (lent : Lends h.heap slot done) × (new ≡ record h { heap = after_write h.heap slot 0 lent.after; written = counted h.written (length lent.bytes) })
    → (lent : Lends g.handles.heap slot done) × (global_of new xs m ≡ record g { handles = record g.handles { heap = after_write g.handles.heap slot 0 lent.after }; written = counted g.written (length lent.bytes) })
lent_shown h xs m shown slot done new said =
    subst (λ g. (lent : Lends g.handles.heap slot done) × (global_of new xs m ≡ record g { handles = record g.handles { heap = after_write g.handles.heap slot 0 lent.after }; written = counted g.written (length lent.bytes) }))
    shown (said.0, ap (λ k. global_of k xs m) said.1)

-- The handles with an object's bytes rewritten are some, and the selectors are right.
pub lent_joined : {h : Holding} {xs : List (Option Attributes)} {t : selectors.DescriptorTable} → AreJoined h xs t → (new : Holding) (slot : ℕ) (done : List ℕ → List ℕ → Type 0) (lent : Lends h.heap slot done)
    {count : ℕ} → new ≡ record h { heap = after_write h.heap slot 0 lent.after; written = count } → AreJoined new xs t
lent_joined {h} {xs} {t} are new slot done lent {count} said = of_object _ refl lent.had
  where
    of_object : (p : Option C.Object) → C.object_at h.heap slot ≡ p → (elim p as (λ _. Option (List ℕ)) [ Some o ↦ o.bytes | None ↦ None ]) ≡ Some lent.bytes → AreJoined new xs t
    of_object None there has = cc
    of_object (Some o) there has =
        let long = lent.long in
        subst (λ k. AreJoined k xs t) (sym said) (written_joined are slot 0 _ _ o there has (omega (arith, long)) lent.are_bytes count)
