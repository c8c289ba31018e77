-- An object that was revived and then written has what was written; one that couldn't be revived has no room for any bytes.
use Rattle.w16_loader.proofs.Common as C
use Rattle.w16_loader.proofs.Common.{◌≡◌, ℕ, ◌<◌, true, false, IsSomeAnd, List, length, All, Option, Some, None, refl, sym, ap, ◌∙◌, subst, false≢true, Kind, Owned, Handles, Heap, Object, object_at, bytes_at, owned_at, revival_options, Allocates, IsNew, Lends, Fills}

pub some_at : {A : Type 0} (P : A → Type 0) (p : Option A) → IsSomeAnd p P → (a : A) × (p ≡ Some a) × P a
some_at P None h = absurd h
some_at P (Some a) h = (a, refl, h)

-- what was allocated has as many bytes as were asked for
allocated_bytes : (old new : Heap) (id n : ℕ) (kind : Kind) (locks : ℕ) → Allocates old id n kind locks revival_options true new → IsSomeAnd (bytes_at new id) (λ b. length b ≡ n)
allocated_bytes old new id n kind locks a = turn (C.discards_needed old n (Some id) revival_options) a.request
  where
    many : (p : Option (List ℕ)) → IsSomeAnd p (C.AreNew revival_options.zero n) → IsSomeAnd p (λ b. length b ≡ n)
    many None h = h
    many (Some b) h = h.0

    turn : (p : Option ℕ) → C.Request old id (record { options = revival_options; prefix = p; becomes = IsNew revival_options.zero n kind locks; order = C.with_newest id }) true new → IsSomeAnd (bytes_at new id) (λ b. length b ≡ n)
    turn None r = absurd (false≢true (sym r.0))
    turn (Some k) r = subst (λ p. IsSomeAnd (elim p as (λ _. Option (List ℕ)) [ Some o ↦ o.bytes | None ↦ None ]) (λ b. length b ≡ n))
        (sym (ap (λ h. object_at h id) r.1.2.same ∙ C.inserted_here (C.discarded old k (Some id)).objects id r.1.0 id refl)) (many _ r.1.1.new_bytes)

module _ (old : Handles) (slot : ℕ) (absent : bytes_at old.heap slot ≡ None) where
  -- its object has none
  none_at : (o : Object) → object_at old.heap slot ≡ Some o → o.bytes ≡ None
  none_at o there = ap (λ (p : Option Object). elim p as (λ _. Option (List ℕ)) [ Some x ↦ x.bytes | None ↦ None ]) (sym there) ∙ absent

  module _ (mid : Handles) (revived : C.Revives old slot true mid) where
    abbrev AsksFor : ℕ → Object → Type 0
    AsksFor n o = Allocates old.heap slot n o.kind o.locks revival_options true mid.heap

    owned : (w : Owned) × (owned_at old slot ≡ Some w) × IsSomeAnd (object_at old.heap slot) (AsksFor w.size)
    owned = some_at (λ (w : Owned). IsSomeAnd (object_at old.heap slot) (AsksFor w.size)) (owned_at old slot) revived.owned

    object : (o : Object) × (object_at old.heap slot ≡ Some o) × AsksFor owned.0.size o
    object = some_at (AsksFor owned.0.size) (object_at old.heap slot) owned.2

    many : IsSomeAnd (bytes_at mid.heap slot) (λ b. length b ≡ owned.0.size)
    many = allocated_bytes old.heap mid.heap slot owned.0.size object.0.kind object.0.locks object.2

    pub revived_bytes : (P : Type 0) → P → IsSomeAnd (bytes_at mid.heap slot) (λ _. P)
    revived_bytes P p = turn (bytes_at mid.heap slot) many
      where
        turn : (b : Option (List ℕ)) → IsSomeAnd b (λ x. length x ≡ owned.0.size) → IsSomeAnd b (λ _. P)
        turn None h = absurd h
        turn (Some x) h = p

    pub given_bytes : (new : Handles) (done : List ℕ → List ℕ → Type 0) (IsBytes : List ℕ → Type 0) (lent : Lends mid.heap slot done) → IsBytes lent.after
        → new ≡ record mid { heap = C.after_write mid.heap slot 0 lent.after } → C.GivesBytes old slot IsBytes new
    given_bytes new done IsBytes lent are said = record {
      bytes = lent.after;
      sized = subst (λ p. IsSomeAnd p (λ (w : Owned). length lent.after ≡ w.size)) (sym owned.1) long;
      are = are;
      filled = subst (λ (h : Handles). Fills old.heap slot lent.after true h.heap) (sym said)
          (C.fill_law old.heap mid.heap slot object.0 lent.after true object.1 (none_at object.0 object.1) lent.are_bytes
          (subst (λ n. AsksFor n object.0) (sym long) object.2));
      rest = said ∙ ap (λ (h : Handles). record h { heap = C.after_write mid.heap slot 0 lent.after }) revived.rest ∙ ap (λ (h : Handles). record old { heap = h.heap }) (sym said);
    }
      where
        long : length lent.after ≡ owned.0.size
        long = lent.long ∙ subst (λ b. IsSomeAnd b (λ x. length x ≡ owned.0.size)) lent.had many

  -- no bytes have room, as many as the owner says
  pub none_filled : C.Revives old slot false old → (bytes : List ℕ) → IsSomeAnd (owned_at old slot) (λ w. length bytes ≡ w.size) → All (λ b. b < 256) bytes → Fills old.heap slot bytes false old.heap
  none_filled refused bytes sized ours = by (owned_at old slot) refused.owned sized
    where
      by : (p : Option Owned) → IsSomeAnd p (λ w. IsSomeAnd (object_at old.heap slot) (λ o. Allocates old.heap slot w.size o.kind o.locks revival_options false old.heap)) → IsSomeAnd p (λ w. length bytes ≡ w.size)
          → Fills old.heap slot bytes false old.heap
      by None h long = absurd h
      by (Some w) h long =
          let o : (o : Object) × (object_at old.heap slot ≡ Some o) × Allocates old.heap slot w.size o.kind o.locks revival_options false old.heap = some_at (λ (o : Object). Allocates old.heap slot w.size o.kind o.locks revival_options false old.heap) (object_at old.heap slot) h in
          C.fill_law old.heap old.heap slot o.0 bytes false o.1 (none_at o.0 o.1) ours (subst (λ n. Allocates old.heap slot n o.0.kind o.0.locks revival_options false old.heap) (sym long) o.2)
