-- The first part is a hole, a block, or none.
use Rattle.w16_arena.proofs
use proofs.Common.{◌≡◌, ◌-◌, ◌≤◌, ◌<◌, ℕ, IsSomeAnd, List, length, Option, Some, None, slice_get, refl, sym, ap, subst, arith, Block, Entry, Item, Table, IsSound, entry_at, heap_in, IsFirstItem, by_its_id, rank, IfHole, IfBlock, IsFirstHole, IsFirstBlock, table_of}
use proofs.Shown.{known, told}
use proofs.Walks.{IsPartAt, apart, item_of, first_hole, first_block, part_inside}
use Rattle.w16_arena.proofs.Arena.walk_from.Goals as goal

-- what is told of a block, of the item that is some
part_told : (t : Table) (b : Block) (item : Item) (o : Option Block) → o ≡ Some b → IsSomeAnd (entry_at t b.id) (λ e. item ≡ item_of b e) → IsPartAt t o (Some item)
part_told t b item o is told = subst (λ x. IsPartAt t x (Some item)) (sym is) (from _ told)
  where
    from : (d : Option Entry) → IsSomeAnd d (λ e. item ≡ item_of b e) → IsSomeAnd d (λ e. Some item ≡ Some (item_of b e))
    from None k = absurd k
    from (Some e) k = ap Some k

pub returns-in_err-hole-clause-found : goal.returns-in_err-hole-clause-found
returns-in_err-hole-clause-found g c =
    let s = c.self.inside in
    let t = table_of s.entries.items s.blocks s.order.ids in
    let behind = c.in_err-hole.ensures.none in
    told c.self.invariant c.self.view_is (λ t. (memory : List ℕ) → t.hi ≤ length memory → IsFirstItem by_its_id (heap_in t memory) c.args.from c.from_residual.result)
    (λ memory whole. subst (IsFirstItem _ _ _) (sym c.from_residual.ensures)
    (first_block c.self.invariant.sound memory whole c.args.from _ None refl (λ a e hole l. absurd (behind.no_hole a e hole l)) (subst (λ o. IsPartAt t o None) (sym behind.no_block) refl)))

pub returns-in-Hole-clause-found : goal.returns-in-Hole-clause-found
returns-in-Hole-clause-found g c =
    let s = c.self.inside in
    let t = table_of s.entries.items s.blocks s.order.ids in
    let first = subst (λ p. IfHole p (IsFirstHole s.blocks c.args.from)) c.in-Hole.is c.in_ok-hole.ensures.hole in
    told c.self.invariant c.self.view_is (λ t. (memory : List ℕ) → t.hi ≤ length memory → IsFirstItem by_its_id (heap_in t memory) c.args.from (Some (record { at = c.in-Hole.hole.from; size = c.in-Hole.hole.to - c.in-Hole.hole.from; owner = None })))
    (λ memory whole. first_hole c.self.invariant.sound memory whole _ _ _ first.hole first.above first.first)

-- the block that was found
module _ (g : _) (c : goal.After-item_of g) where
  first : IsFirstBlock c.self.inside.blocks c.args.from c.in-Block.block
  first = subst (λ p. IfBlock p (IsFirstBlock c.self.inside.blocks c.args.from)) c.in-Block.is c.in_ok-hole.ensures.block

  part : IsPartAt (table_of c.self.inside.entries.items c.self.inside.blocks c.self.inside.order.ids) (slice_get c.self.inside.blocks.blocks (rank c.args.from c.self.inside.blocks.blocks)) (Some c.item_of.result)
  part = part_told (table_of c.self.inside.entries.items c.self.inside.blocks c.self.inside.order.ids) c.in-Block.block
      c.item_of.result _ first.block (known c.self.invariant c.self.view_is
      (λ t. IsSomeAnd (entry_at t c.in-Block.block.id) (λ e. c.item_of.result ≡ item_of c.in-Block.block e))
      c.item_of.ensures.value)

pub returns-in-Block-clause-found : goal.returns-in-Block-clause-found
returns-in-Block-clause-found g c =
    told c.self.invariant c.self.view_is (λ t. (memory : List ℕ) → t.hi ≤ length memory → IsFirstItem by_its_id (heap_in t memory) c.args.from (Some c.item_of.result))
    (λ memory whole. first_block c.self.invariant.sound memory whole _ _ _ refl
    (λ a e hole l. subst (λ o. IsSomeAnd o (λ x. x.at < a)) (sym (first g c).block) ((first g c).first a e hole l)) (part g c))

pub returns-in-Block-clause-inside : goal.returns-in-Block-clause-inside
returns-in-Block-clause-inside g c =
    part_inside (table_of _ c.self.inside.blocks _) c.self.invariant.sound c.part_from.ensures.ordered.small (rank c.args.from c.self.inside.blocks.blocks) (Some c.item_of.result) (part g c)

pub returns-in-Hole-clause-inside : goal.returns-in-Hole-clause-inside
returns-in-Hole-clause-inside g c =
    let first = subst (λ p. IfHole p (IsFirstHole c.self.inside.blocks c.args.from)) c.in-Hole.is c.in_ok-hole.ensures.hole in
    let hole = first.hole in let small = c.part_from.ensures.ordered.small in (omega arith, omega arith)

pub returns-in-Block-clause-apart : goal.returns-in-Block-clause-apart
returns-in-Block-clause-apart g c = λ memory whole other is l. apart (told c.self.invariant c.self.view_is IsSound c.self.invariant.sound) memory whole _ other (returns-in-Block-clause-found g c memory whole).0 is l

pub returns-in-Hole-clause-apart : goal.returns-in-Hole-clause-apart
returns-in-Hole-clause-apart g c = λ memory whole other is l.
    apart (told c.self.invariant c.self.view_is IsSound c.self.invariant.sound) memory whole (record { at = c.in-Hole.hole.from; size = c.in-Hole.hole.to - c.in-Hole.hole.from; owner = None }) other (returns-in-Hole-clause-found g c memory whole).0 is l
