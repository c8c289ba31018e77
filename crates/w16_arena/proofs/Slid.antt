-- The heap of parts whose blocks slid: the same objects at other addresses.
use Rattle.w16_arena.proofs
use proofs.Common as C
use proofs.Common.{◌≡◌, ℕ, ◌+◌, ◌<◌, ◌≤◌, ◌⊎◌, inl, inr, ◌&&◌, IfSome, IsSomeAnd, is_some, List, get_or, Option, Some, None, option_map, refl, sym, ap, ◌∙◌, subst, arith, false≢true, Block, Entry, Object, IsCountedBy, block_with, hold_of_entry, Layout, heap_of}
use proofs.Lookups.{IsOrder, ordered_arranged, sound_of, holds_at, object_here, place_here}
use proofs.{Parts.AreParts, Pairs.BothOrNone, Pairs.with_two}
use Rattle.std.specs.FinMap as finmap

-- whether an id is in the order of use is a matter of whether it has a block
pub listed_same : (e : Option Entry) (b c : Option Block) → is_some b ≡ is_some c → C.is_listed e b ≡ C.is_listed e c
listed_same None b c same = refl
listed_same (Some e) b c same = ap (λ t. C.is_discardable e.kind && t) same

-- a pinned block isn't loose, so it stands where it stood
pub pinned_stands : (low high : ℕ) (memory after : List ℕ) (b c : Block) → C.Slides low high memory after b c → C.IsTrue (C.is_pinned b) → c.at ≡ b.at
pinned_stands low high memory after b c s t = elim s.place [ inl e ↦ e | inr f ↦ absurd (false≢true (sym (ap C.holds_still f.0) ∙ t)) ]

module _ {entries : List (Option Entry)} {layout : Layout} {order memory : List ℕ} (parts : AreParts entries layout order memory)
    {low high : ℕ} {new : Layout} {after : List ℕ} (moved : C.AreMoved low high layout memory new after) where
  abbrev R : Block → Block → Type 0
  R = C.Slides low high memory after

  ids_same : (b c : Block) → R b c → c.id ≡ b.id
  ids_same b c s = ap (λ (x : Block). x.id) s.same

  pub slid_with : (q : ℕ) → BothOrNone R (block_with layout.blocks q) (block_with new.blocks q)
  slid_with = with_two R ids_same layout.blocks new.blocks moved.blocks

  -- they are parts again
  pub slid_parts : AreParts entries new order after
  slid_parts = record {
    sound = sound_of entries new order (ordered_arranged new moved.ordered) holds listed counted;
    ids = ap (λ (l : Layout). l.cap) moved.same ∙ parts.ids;
    high = let size = moved.size in let hi = ap (λ (l : Layout). l.hi) moved.same in let high = parts.high in omega arith;
  }
    where
      holds : (q : ℕ) (x : Block) → block_with new.blocks q ≡ Some x → IsSomeAnd (get_or entries q None) (λ e. x.hold ≡ hold_of_entry e)
      holds q x here = from (block_with layout.blocks q) refl (subst (BothOrNone R (block_with layout.blocks q)) here (slid_with q))
        where
          from : (b : Option Block) → block_with layout.blocks q ≡ b → BothOrNone R b (Some x) → IsSomeAnd (get_or entries q None) (λ e. x.hold ≡ hold_of_entry e)
          from None e s = absurd s
          from (Some b) e s = subst (λ h. IsSomeAnd (get_or entries q None) (λ e. h ≡ hold_of_entry e)) (sym (ap (λ (y : Block). y.hold) s.same)) (holds_at entries layout order parts.sound q b e)

      -- the same blocks have bytes, so counts of locks are as they have to be
      counted : (q : ℕ) → IfSome (get_or entries q None) (IsCountedBy (block_with new.blocks q))
      counted q = from (get_or entries q None) (block_with layout.blocks q) (block_with new.blocks q) (slid_with q) (parts.sound.counted q)
        where
          from : (e : Option Entry) (b c : Option Block) → BothOrNone R b c → IfSome e (IsCountedBy b) → IfSome e (IsCountedBy c)
          from None b c s h = tt
          from (Some e) None None s h = h
          from (Some e) None (Some y) s h = absurd s
          from (Some e) (Some x) None s h = absurd s
          from (Some e) (Some x) (Some y) s h = (h.0, h.1, λ none. cc)

      -- and the order of use is as it was
      listed : IsOrder entries new order
      listed = record {
        members = λ q. parts.sound.in_order q ∙ listed_same (get_or entries q None) (block_with layout.blocks q) (block_with new.blocks q) (both (block_with layout.blocks q) (block_with new.blocks q) (slid_with q));
        once = parts.sound.no_repeats;
      }
        where
          both : (b c : Option Block) → BothOrNone R b c → is_some b ≡ is_some c
          both None None s = refl
          both None (Some c) s = absurd s
          both (Some b) None s = absurd s
          both (Some b) (Some c) s = refl

  -- each id has the object that it had
  pub slid_object : (q : ℕ) → C.object_at (heap_of entries new order after) q ≡ C.object_at (heap_of entries layout order memory) q
  slid_object q = object_here slid_parts q ∙ (λ i. option_map (λ (e : Entry). let o : Object = record { kind = e.kind; locks = e.locks; bytes = same_bytes (block_with layout.blocks q) (block_with new.blocks q) (slid_with q) i } in o) (get_or entries q None)) ∙ sym (object_here parts q)
    where
      same_bytes : (b c : Option Block) → BothOrNone R b c → option_map (λ (x : Block). C.slice_range after x.at (x.at + x.size)) c ≡ option_map (λ (x : Block). C.slice_range memory x.at (x.at + x.size)) b
      same_bytes None None s = refl
      same_bytes None (Some c) s = absurd s
      same_bytes (Some b) None s = absurd s
      same_bytes (Some b) (Some c) s = ap Some (C.range_part after c.at c.size ∙ s.bytes ∙ sym (C.range_part memory b.at b.size))

  -- outside the two addresses it stands where it stood
  pub slid_still : (q : ℕ) → IfSome (finmap.get (heap_of entries new order after).places q) (λ at. ((at < low) ⊎ (high ≤ at)) → finmap.get (heap_of entries layout order memory).places q ≡ Some at)
  slid_still q =
      subst (λ (p : Option ℕ). IfSome p (λ at. ((at < low) ⊎ (high ≤ at)) → finmap.get (heap_of entries layout order memory).places q ≡ Some at)) (sym (place_here slid_parts q))
      (from (block_with layout.blocks q) (block_with new.blocks q) refl (slid_with q))
    where
      from : (b c : Option Block) → block_with layout.blocks q ≡ b → BothOrNone R b c → IfSome (option_map (λ (x : Block). x.at) c) (λ at. ((at < low) ⊎ (high ≤ at)) → finmap.get (heap_of entries layout order memory).places q ≡ Some at)
      from b None e s = tt
      from None (Some c) e s = absurd s
      from (Some b) (Some c) e s = λ out.
          let some : 0 < b.size = (C.Each-at (λ (x : Block). (layout.lo ≤ x.at) × (0 < x.size) × (C.block_end x ≤ layout.hi)) layout.blocks (C.laid_each layout.lo layout.hi layout.blocks parts.sound.table.laid) b (C.member_with layout.blocks q b e).0).1 in
          place_here parts q ∙ ap (option_map (λ (x : Block). x.at)) e ∙ ap Some (sym (elim s.place [
            | inl same ↦ same
            | inr slid ↦ let size : c.size ≡ b.size = ap (λ (x : Block). x.size) s.same in elim out [ inl below ↦ absurd (omega (arith, slid.1)) | inr above ↦ absurd (omega (arith, slid.2, size)) ]
          ]))

  -- and so does a pinned one, wherever
  pub slid_pinned : (q : ℕ) (x : Block) → block_with layout.blocks q ≡ Some x → C.IsTrue (C.is_pinned x) → finmap.get (heap_of entries new order after).places q ≡ Some x.at
  slid_pinned q x here t = place_here slid_parts q ∙ from (block_with new.blocks q) (subst (λ b. BothOrNone R b (block_with new.blocks q)) here (slid_with q))
    where
      from : (c : Option Block) → BothOrNone R (Some x) c → option_map (λ (y : Block). y.at) c ≡ Some x.at
      from None s = absurd s
      from (Some c) s = ap Some (pinned_stands low high memory after x c s t)
