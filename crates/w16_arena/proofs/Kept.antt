-- What a block's new size leaves of the bytes: those of the others, its own as far as it has them before and after, and all outside the bounds.
use Rattle.w16_arena.proofs.Common as C
use Rattle.w16_arena.proofs.Common.{ℕ, ◌≡◌, ◌+◌, ◌≤◌, List, [], ◌∷◌, Some, refl, subst, arith, inl, inr, AllByRecursion, Block, Span, part, block_end, IsUsed, Layout, IsOrdered, all_but, holes_of, AreSameOutsideBoth, contents}

-- a shorter place is used too
used_less : (a b c : ℕ) (hs : List Span) → b ≤ c → IsUsed a c hs → IsUsed a b hs
used_less a b c [] le used = tt
used_less a b c (h ∷ hs) le used = (elim used.0 [ inl before ↦ inl before | inr behind ↦ inr (omega arith) ], used_less a b c hs le used.1)

contents_both : (before after : List Span) (old new : List ℕ) → AreSameOutsideBoth before after old new → (bs : List Block)
    → AllByRecursion (λ c. IsUsed c.at (block_end c) before) bs → AllByRecursion (λ c. IsUsed c.at (block_end c) after) bs → contents new bs ≡ contents old bs
contents_both before after old new same [] one two = refl
contents_both before after old new same (b ∷ bs) one two = λ i. (b.id, same.same b.at b.size one.0 two.0 i) ∷ contents_both before after old new same bs one.1 two.1 i

-- An object's block that has another place or size.
module _ (l : Layout) (b : Block) (at n : ℕ) (ordered : IsOrdered l) {new : Layout} (value : new ≡ record l { blocks = C.replaced (record b { at = at; size = n }) l.blocks }) (laid : IsOrdered new)
    {old_bytes new_bytes : List ℕ} (same : AreSameOutsideBoth (holes_of l) (holes_of new) old_bytes new_bytes) where
  abbrev changed : Block
  changed = record b { at = at; size = n }

  abbrev then : Layout
  then = record l { blocks = C.placed changed (all_but b.id l.blocks) }

  ordered_then : IsOrdered then
  ordered_then = subst IsOrdered value laid

  same_then : AreSameOutsideBoth (holes_of l) (holes_of then) old_bytes new_bytes
  same_then = subst (λ k. AreSameOutsideBoth (holes_of l) (holes_of k) old_bytes new_bytes) value same

  used_then : IsUsed at (at + n) (holes_of then) × AllByRecursion (λ c. IsUsed c.at (block_end c) (holes_of then)) (all_but b.id l.blocks)
  used_then = C.All-first (λ c. IsUsed c.at (block_end c) (holes_of then)) changed (all_but b.id l.blocks) (C.used_each then.lo then.hi then.blocks ordered_then.laid)

  used_now : AllByRecursion (λ c. IsUsed c.at (block_end c) (holes_of l)) l.blocks
  used_now = C.used_each l.lo l.hi l.blocks ordered.laid

  pub others_kept : contents new_bytes (all_but b.id l.blocks) ≡ contents old_bytes (all_but b.id l.blocks)
  others_kept = contents_both (holes_of l) (holes_of then) old_bytes new_bytes same_then (all_but b.id l.blocks) (C.All-all_but (λ c. IsUsed c.at (block_end c) (holes_of l)) b.id l.blocks used_now) used_then.1

  pub outside_kept : C.IsSameOutside l.lo l.hi old_bytes new_bytes
  outside_kept =
      let le = C.laid_le l.lo l.hi l.blocks ordered.laid in
      C.outside_but l.lo l.hi l.lo 0 l.blocks then.blocks old_bytes new_bytes ordered.laid ordered_then.laid (omega arith) (omega arith) (record { long = same_then.long; same = λ at m one two _. same_then.same at m one two })

  -- what it keeps of its own bytes where it stands
  pub own_kept : C.block_with l.blocks b.id ≡ Some b → at ≡ b.at → (m : ℕ) → m ≤ b.size → m ≤ n → part new_bytes b.at m ≡ part old_bytes b.at m
  own_kept known here m le more = same_then.same b.at m (used_less b.at (b.at + m) (block_end b) (holes_of l) (omega arith) (C.each_with (λ c. IsUsed c.at (block_end c) (holes_of l)) b.id b l.blocks known used_now))
      (used_less b.at (b.at + m) (b.at + n) (holes_of then) (omega arith) (subst (λ a. IsUsed a (a + n) (holes_of then)) here used_then.0))
