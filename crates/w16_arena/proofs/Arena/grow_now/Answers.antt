use Rattle.w16_arena.proofs
use proofs.Common as C
use proofs.Common.{◌≡◌, ◌≤◌, Some, ℕ, ◌-◌, true, ap, ◌∙◌, if◌then◌else◌, Block, IsMultiple, block_with, heap_in, table_of, heap_of}
use proofs.Regrown.{kept_grown, rest_grown, stands_grown, hole_grown}
use proofs.{Written.counted_if, Keeping.none_changed, Shown.known as known_in, Shown.told, Sized.of_object}
use Rattle.w16_arena.proofs.Arena.grow_now.Given as Given
use Rattle.w16_arena.proofs.Arena.grow_now.Goals as goal

-- what is required, of the table inside
module _ (g : Given.Over) (c : goal.After-clear_if g) where
  known : block_with c.self.inside.blocks.blocks c.args.block.id ≡ Some c.args.block
  known = known_in c.self.invariant c.self.view_is (λ t. block_with t.blocks c.args.block.id ≡ Some c.args.block) c.requires.known

  inside : c.self.inside.blocks.hi ≤ C.length (g.S.Space.bytes c.args.space.now)
  inside = known_in c.self.invariant c.self.view_is (λ t. t.hi ≤ C.length (g.S.Space.bytes c.args.space.now)) c.requires.memory.inside

  rounded : IsMultiple c.self.inside.blocks.grain c.args.size
  rounded = known_in c.self.invariant c.self.view_is (λ t. IsMultiple t.grain c.args.size) c.requires.rounded

pub invariant_of-self-2 : goal.invariant_of-self-2
invariant_of-self-2 g c =
    let m = g.S.Space.bytes c.args.space.now in let b = c.args.block in let n = c.args.size in let e = c.in_ok-placed.ensures in let p = c.in_ok-placed.placed in
    kept_grown c.self.invariant b (known g c) c.bounds.ensures.ordered m (inside g c) n c.requires.more (rounded g c) c.args.options p e.grown.value e.grown.laid e.grown.slid e.grown.free e.grown.bytes c.reveal_bytes.ensures c.clear_if.ensures.bytes

pub returns-clause-stands : goal.returns-clause-stands
returns-clause-stands g c =
    let m = g.S.Space.bytes c.args.space.now in let b = c.args.block in let n = c.args.size in let e = c.in_ok-placed.ensures in let p = c.in_ok-placed.placed in
    told c.self.invariant c.self.view_is (λ t. C.IsSomeAnd (C.object_at (heap_in t m) b.id)
    (λ o. C.Stands (heap_in t m) b.id n (C.IsGrown c.args.options.zero n o) (λ _ order. order) c.args.options p
    (heap_of c.self.inside.entries.items c.grow_block.new.blocks c.self.inside.order.ids
    (g.S.Space.bytes c.clear_if.new.space))))
    (of_object (table_of _ c.self.inside.blocks _) c.self.invariant.sound m (inside g c) b (known g c)
    (λ o. C.Stands (heap_of c.self.inside.entries.items c.self.inside.blocks c.self.inside.order.ids m) b.id n
    (C.IsGrown c.args.options.zero n o) (λ _ order. order) c.args.options p
    (heap_of c.self.inside.entries.items c.grow_block.new.blocks c.self.inside.order.ids
    (g.S.Space.bytes _)))
    (stands_grown c.self.invariant b (known g c) c.bounds.ensures.ordered m (inside g c) n c.requires.more (rounded g c) c.args.options p e.grown.value e.grown.laid e.grown.slid e.grown.free e.grown.bytes c.reveal_bytes.ensures c.clear_if.ensures.bytes (λ off. (e.still off).0) e.grown.moved))

pub returns-clause-hole : goal.returns-clause-hole
returns-clause-hole g c =
    let m = g.S.Space.bytes c.args.space.now in let b = c.args.block in let n = c.args.size in let e = c.in_ok-placed.ensures in let p = c.in_ok-placed.placed in
    λ off. told c.self.invariant c.self.view_is (λ t. C.StaysOrMovesToHole (heap_in t m) b.id n (heap_of c.self.inside.entries.items c.grow_block.new.blocks c.self.inside.order.ids (g.S.Space.bytes c.clear_if.new.space)))
    (hole_grown c.self.invariant b (known g c) c.bounds.ensures.ordered m (inside g c) n c.requires.more (rounded g c) c.args.options p e.grown.value e.grown.laid e.grown.slid e.grown.free e.grown.bytes c.reveal_bytes.ensures c.clear_if.ensures.bytes (λ off. (e.still off).0) (e.still off).1)

pub returns-clause-rest : goal.returns-clause-rest
returns-clause-rest g c =
    let m = g.S.Space.bytes c.args.space.now in let b = c.args.block in let n = c.args.size in let e = c.in_ok-placed.ensures in let p = c.in_ok-placed.placed in
    told c.self.invariant c.self.view_is (λ t. C.KeepsRest g.H.Holes.are_in g.S.Space.bytes g.S.Space.lenders t
    c.args.space.now (table_of c.self.inside.entries.items c.grow_block.new.blocks c.self.inside.order.ids)
    c.clear_if.new.space) (rest_grown c.self.invariant b (known g c) c.bounds.ensures.ordered m (inside g c) n
    c.requires.more (rounded g c) c.args.options p e.grown.value e.grown.laid e.grown.slid e.grown.free e.grown.bytes
    c.reveal_bytes.ensures c.clear_if.ensures.bytes g.met.H.Holes.stay e.rest c.clear_if.ensures.rest
    c.clear_if.ensures.lenders)

pub returns-clause-written : goal.returns-clause-written
returns-clause-written g c =
    c.clear_if.ensures.written ∙ counted_if c.args.options.zero (g.S.Space.written _) (c.args.size - c.args.block.size)
    ∙ ap (λ w. C.counted w (if c.args.options.zero then c.args.size - c.args.block.size else 0)) c.in_ok-placed.ensures.written

pub returns-clause-discarded : goal.returns-clause-discarded
returns-clause-discarded g c = ap (λ s. s.discarded) c.self.view_is

pub returns-clause-sound : goal.returns-clause-sound
returns-clause-sound g c = told c.self.invariant c.self.view_is (λ t. C.IsSound t) c.self.invariant.sound

pub returns-clause-enough : goal.returns-clause-enough
returns-clause-enough g c = told c.self.invariant c.self.view_is (λ t. C.may_grow_in t c.args.block.id c.args.size c.args.options.compact ≡ true) c.in_ok-placed.ensures.enough

pub invariant_of-self : goal.invariant_of-self
invariant_of-self g c = rw c.in_err-placed.ensures.refused.1 c.self.invariant

pub grow_block-requires-clause-known : goal.grow_block-requires-clause-known
grow_block-requires-clause-known g c = known_in c.self.invariant c.self.view_is (λ t. block_with t.blocks c.args.block.id ≡ Some c.args.block) c.requires.known

pub grow_block-requires-clause-rounded : goal.grow_block-requires-clause-rounded
grow_block-requires-clause-rounded g c = known_in c.self.invariant c.self.view_is (λ t. IsMultiple t.grain c.args.size) c.requires.rounded

pub grow_block-requires-clause-memory : goal.grow_block-requires-clause-memory
grow_block-requires-clause-memory g c = known_in c.self.invariant c.self.view_is (λ t. C.HasRange g.H.Holes.are_in (C.holes_in t) t.hi (g.S.Space.bytes c.args.space.now)) c.requires.memory

pub returns-in_err-placed-clause-rest : goal.returns-in_err-placed-clause-rest
returns-in_err-placed-clause-rest g c = let r = c.in_err-placed.ensures.refused in
    told c.self.invariant c.self.view_is (λ t. C.KeepsRest g.H.Holes.are_in g.S.Space.bytes g.S.Space.lenders t c.args.space.now (table_of c.self.inside.entries.items c.grow_block.new.blocks c.self.inside.order.ids) c.grow_block.new.space)
    (rw (r.1, r.2) (none_changed c.args.space.now c.self.invariant.sound (known_in c.self.invariant c.self.view_is (λ t. g.H.Holes.are_in (C.holes_in t) (g.S.Space.bytes c.args.space.now)) c.requires.memory.kept)))
