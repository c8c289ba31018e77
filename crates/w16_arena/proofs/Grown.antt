-- An object's block that has more bytes, where it stood or elsewhere: its place, the others, and what was moved.
use Rattle.w16_arena.proofs
use proofs.Common.{◌≡◌, ◌≢◌, ℕ, ◌+◌, ◌<◌, ◌≤◌, ◌==◌, cond, List, length, All, Some, sym, ap, ◌∙◌, subst, arith, inl, inr, Block, part, Misses, block_with, Layout, IsApart, IsOrdered, all_but, replaced, each_with, contents, moved_between, Placed, AreMoved, AreFreeBytes, but_for, HasGrown}
use proofs.Replaced.{but_same, but_for_same, is_placed}
use proofs.{ButFor.own_lies, Keeping.moved_kept}

-- An object's block b stands where n bytes are free for it, its own bytes with it. The others stand where they stood or slid in a range, and so many bytes were moved.
pub record HasWay (n : ℕ) (b : Block) (old : Layout) (memory : List ℕ) (p : Placed) (new : Layout) (after : List ℕ) : Type 0 where
  pub block : block_with new.blocks b.id ≡ Some (record b { at = p.at })
  pub bytes : part after p.at b.size ≡ part memory b.at b.size
  pub slid : AreMoved p.slid.from p.slid.to (but_for b.id old) memory (but_for b.id new) after
  pub laid : IsOrdered new
  pub free : AreFreeBytes (but_for b.id new) n p.at
  pub moved : p.moved ≡ moved_between (all_but b.id old.blocks) (all_but b.id new.blocks) + cond (p.at == b.at) 0 b.size

-- a block that got n free bytes, once others slid
pub has_grown : (n : ℕ) (b : Block) (old mid new : Layout) (memory mid_memory after : List ℕ) (p : Placed) → AreMoved p.slid.from p.slid.to (but_for b.id old) memory (but_for b.id mid) mid_memory → AreFreeBytes (but_for b.id mid) n p.at
    → part after p.at b.size ≡ part memory b.at b.size → new ≡ record mid { blocks = replaced (record b { at = p.at; size = n }) mid.blocks } → IsOrdered new
    → contents after (all_but b.id mid.blocks) ≡ contents mid_memory (all_but b.id mid.blocks) → length after ≡ length mid_memory → All (λ b. b < 256) after
    → p.moved ≡ moved_between (all_but b.id old.blocks) (all_but b.id mid.blocks) + cond (p.at == b.at) 0 b.size → HasGrown n b old memory p new after
has_grown n b old mid new memory mid_memory after p moved free came value laid others long small count =
    let x : Block = record b { at = p.at; size = n } in
    let but = sym (but_for_same mid x value) in
    record {
      value = is_placed mid x value;
      laid = laid;
      bytes = came;
      slid = subst (λ m. AreMoved p.slid.from p.slid.to (but_for b.id old) memory m after) but (moved_kept _ _ _ _ memory _ after moved others long small);
      free = subst (λ m. AreFreeBytes m n p.at) but free;
      moved = count ∙ ap (λ bs. moved_between (all_but b.id old.blocks) bs + cond (p.at == b.at) 0 b.size) (sym (but_same mid x value));
    }

-- the same of one that got them where it stands
pub grown_there : (n : ℕ) (b : Block) (old mid new : Layout) (memory mid_memory after : List ℕ) (p : Placed) → HasWay n b old memory p mid mid_memory → b.size < n
    → new ≡ record mid { blocks = replaced (record b { at = p.at; size = n }) mid.blocks } → IsOrdered new → ((m : ℕ) → m ≤ b.size → m ≤ n → part after p.at m ≡ part mid_memory p.at m)
    → contents after (all_but b.id mid.blocks) ≡ contents mid_memory (all_but b.id mid.blocks) → length after ≡ length mid_memory → All (λ b. b < 256) after → HasGrown n b old memory p new after
grown_there n b old mid new memory mid_memory after p way more value laid own others long small =
    has_grown n b old mid new memory _ after p way.slid way.free (own b.size (omega arith) (omega arith) ∙ way.bytes) value laid others long small way.moved

-- A block and free bytes: it has none of them, so it doesn't stand there.
module _ {l : Layout} (ordered : IsOrdered l) (x : Block) (known : block_with l.blocks x.id ≡ Some x) (n at : ℕ) (free : AreFreeBytes l n at) where
  pub own_apart : IsApart (record x { at = at; size = n }) x
  own_apart = elim (each_with (λ y. Misses y.at y.size at (at + n)) x.id x l.blocks known free.misses) [ inl before ↦ inr before | inr behind ↦ inl behind ]

  pub elsewhere : 0 < n → at ≢ x.at
  elsewhere some same = let size = (own_lies ordered x known).1 in elim own_apart [ inl before ↦ absurd (omega arith) | inr behind ↦ absurd (omega arith) ]
