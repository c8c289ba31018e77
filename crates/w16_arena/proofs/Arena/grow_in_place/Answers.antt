use Rattle.w16_arena.proofs
use proofs.Common as C
use proofs.Common.{◌≡◌, ◌+◌, ◌≤◌, false, [], length, IfSome, Some, refl, subst, arith, ℕ, ◌-◌, ap, ◌∙◌, if◌then◌else◌, Block, block_end, hole_after, IsMultiple, block_with, heap_in, Layout, Placed}
use proofs.Fitting.{id_known, fits_more, spare_small, ends_inside}
use proofs.InPlace.{kept_resized, rest_resized, is_extended, not_extended}
use proofs.Extending.{long_after, others_after, grown_after}
use proofs.{Written.counted_if, Shown.known as known_in, Shown.told, Keeping.leaves_cleared, Keeping.used_placed}
use Rattle.w16_arena.proofs.Arena.grow_in_place.Goals as goal

pub free_after-requires-clause-id : goal.free_after-requires-clause-id
free_after-requires-clause-id g c = id_known c.self.inside.blocks _ (known_in c.self.invariant c.self.view_is (λ t. block_with t.blocks c.args.block.id ≡ Some c.args.block) c.requires.known) c.bounds.ensures.ordered

pub overflow_add-block : goal.overflow_add-block
overflow_add-block g c =
    let l = c.self.inside.blocks in let b = c.args.block in
    let known = known_in c.self.invariant c.self.view_is (λ t. block_with t.blocks b.id ≡ Some b) c.requires.known in
    let free = subst (λ p. IfSome p (λ b. c.free_after.result ≡ hole_after l.hi l.blocks (block_end b))) known c.free_after.ensures.value in
    let least = spare_small l b known c.bounds.ensures.ordered in
    let small = c.bounds.ensures.ordered.small in
    record { fits = omega arith }

pub returns-then-block-free_after-clause-refused : goal.returns-then-block-free_after-clause-refused
returns-then-block-free_after-clause-refused g c =
    let m = g.S.Space.bytes c.args.space.now in
    let l = c.self.inside.blocks in let b = c.args.block in let n = c.args.size in
    let known = known_in c.self.invariant c.self.view_is (λ t. block_with t.blocks b.id ≡ Some b) c.requires.known in
    let free = subst (λ p. IfSome p (λ b. c.free_after.result ≡ hole_after l.hi l.blocks (block_end b))) known c.free_after.ensures.value in
    let short = c.if-block-free_after.true in (
      told c.self.invariant c.self.view_is (λ t. C.Reallocates (heap_in t m) b.id n c.args.options false (heap_in t m))
          (not_extended c.self.invariant b known n m (known_in c.self.invariant c.self.view_is (λ t. t.hi ≤ length m) c.requires.memory.inside) (known_in c.self.invariant c.self.view_is (λ t. IsMultiple t.grain n) c.requires.rounded) _ c.requires.more c.requires.held (omega arith)),
      refl,
      refl,
    )

pub resize-requires-clause-id : goal.resize-requires-clause-id
resize-requires-clause-id g c = id_known c.self.inside.blocks _ (known_in c.self.invariant c.self.view_is (λ t. block_with t.blocks c.args.block.id ≡ Some c.args.block) c.requires.known) c.bounds.ensures.ordered

pub resize-requires-clause-fits : goal.resize-requires-clause-fits
resize-requires-clause-fits g c =
    let l = c.self.inside.blocks in let b = c.args.block in
    let known = known_in c.self.invariant c.self.view_is (λ t. block_with t.blocks b.id ≡ Some b) c.requires.known in
    let free = subst (λ p. IfSome p (λ b. c.free_after.result ≡ hole_after l.hi l.blocks (block_end b))) known c.free_after.ensures.value in
    let long = c.if-block-free_after.false in
    fits_more l b known c.bounds.ensures.ordered _ c.requires.more (omega arith) (known_in c.self.invariant c.self.view_is (λ t. IsMultiple t.grain c.args.size) c.requires.rounded)

pub overflow_add-block-2 : goal.overflow_add-block-2
overflow_add-block-2 g c =
    let l = c.self.inside.blocks in let b = c.args.block in
    let end = ends_inside l b (known_in c.self.invariant c.self.view_is (λ t. block_with t.blocks b.id ≡ Some b) c.requires.known) c.bounds.ensures.ordered in
    let small = c.bounds.ensures.ordered.small in
    record { fits = omega arith }

pub clear_if-requires : goal.clear_if-requires
clear_if-requires g c =
    let l = c.self.inside.blocks in let b = c.args.block in
    let known = known_in c.self.invariant c.self.view_is (λ t. block_with t.blocks b.id ≡ Some b) c.requires.known in
    let free = subst (λ p. IfSome p (λ b. c.free_after.result ≡ hole_after l.hi l.blocks (block_end b))) known c.free_after.ensures.value in
    let enough = c.if-block-free_after.false in
    let end = (fits_more l b known c.bounds.ensures.ordered c.args.size c.requires.more (omega arith) (known_in c.self.invariant c.self.view_is (λ t. IsMultiple t.grain c.args.size) c.requires.rounded)).inside.2 in
    let inside = known_in c.self.invariant c.self.view_is (λ t. t.hi ≤ length (g.S.Space.bytes c.args.space.now)) c.requires.memory.inside in
    let long = c.resize.ensures.bytes.rest.bytes.long in
    let more = c.requires.more in
    omega arith

pub invariant_of-self : goal.invariant_of-self
invariant_of-self g c = kept_resized c.self.invariant _ (known_in c.self.invariant c.self.view_is (λ t. block_with t.blocks c.args.block.id ≡ Some c.args.block) c.requires.known) c.args.size c.resize.ensures.value c.resize.ensures.ordered

pub returns-clause-resized : goal.returns-clause-resized
returns-clause-resized g c =
    let m = g.S.Space.bytes c.args.space.now in let mid = g.S.Space.bytes c.resize.new.space in let after = g.S.Space.bytes c.clear_if.new.space in
    let l = c.self.inside.blocks in let b = c.args.block in let n = c.args.size in
    let p : Placed = record { at = b.at; slid = record { from = 0; to = 0 }; moved = 0 } in
    let known = known_in c.self.invariant c.self.view_is (λ t. block_with t.blocks b.id ≡ Some b) c.requires.known in
    let free = subst (λ p. IfSome p (λ b. c.free_after.result ≡ hole_after l.hi l.blocks (block_end b))) known c.free_after.ensures.value in
    let enough = c.if-block-free_after.false in
    let fits = fits_more l b known c.bounds.ensures.ordered _ c.requires.more (omega arith) (known_in c.self.invariant c.self.view_is (λ t. IsMultiple t.grain c.args.size) c.requires.rounded) in
    let inside = known_in c.self.invariant c.self.view_is (λ t. t.hi ≤ length m) c.requires.memory.inside in
    let kept = c.resize.ensures in let more = c.requires.more in
    let long = long_after c.self.invariant b known n fits more kept.value kept.ordered m mid after inside kept.bytes.rest.bytes.long kept.small kept.bytes.contents kept.own c.args.options.zero c.clear_if.ensures.bytes in
    let others = others_after c.self.invariant b known n fits more kept.value kept.ordered m mid after inside kept.bytes.rest.bytes.long kept.small kept.bytes.contents kept.own c.args.options.zero c.clear_if.ensures.bytes in
    let grown = grown_after c.self.invariant b known n fits more kept.value kept.ordered m mid after inside kept.bytes.rest.bytes.long kept.small kept.bytes.contents kept.own c.args.options.zero c.clear_if.ensures.bytes in
    rw c.forget_discards.ensures (told c.self.invariant c.self.view_is (λ t. C.IsResized (heap_in t m) b.id n c.args.options p [] (C.heap_of c.self.inside.entries.items c.resize.new.blocks c.self.inside.order.ids after))
    (is_extended c.self.invariant b known n kept.value kept.ordered m inside after long others (omega arith) (known_in c.self.invariant c.self.view_is (λ t. IsMultiple t.grain n) c.requires.rounded) c.args.options p refl refl fits.inside.2
    more c.requires.held (omega arith) grown refl))

pub returns-clause-rest : goal.returns-clause-rest
returns-clause-rest g c =
    let l = c.self.inside.blocks in let b = c.args.block in
    let known = known_in c.self.invariant c.self.view_is (λ t. block_with t.blocks b.id ≡ Some b) c.requires.known in
    let free = subst (λ p. IfSome p (λ b. c.free_after.result ≡ hole_after l.hi l.blocks (block_end b))) known c.free_after.ensures.value in
    let enough = c.if-block-free_after.false in
    let fits = fits_more l b known c.bounds.ensures.ordered _ c.requires.more (omega arith) (known_in c.self.invariant c.self.view_is (λ t. IsMultiple t.grain c.args.size) c.requires.rounded) in let from = fits.inside.0 in let end = fits.inside.2 in let more = c.requires.more in
    rw c.forget_discards.ensures (told c.self.invariant c.self.view_is (λ t. C.KeepsRest g.H.Holes.are_in g.S.Space.bytes g.S.Space.lenders t c.args.space.now (C.table_of c.self.inside.entries.items c.resize.new.blocks c.self.inside.order.ids) c.clear_if.new.space)
    (rest_resized c.self.invariant b known c.args.size c.resize.ensures.value c.resize.ensures.ordered
    (leaves_cleared b.at (b.at + c.args.size) g.met.H.Holes.stay c.resize.ensures.bytes.rest
    (C.rest_wider c.clear_if.ensures.rest (omega arith) (omega arith)) c.clear_if.ensures.lenders (omega arith)
    (omega arith) (used_placed (C.but_for b.id l) c.resize.new.blocks (record b { size = c.args.size })
    c.resize.ensures.value c.resize.ensures.ordered))))

pub returns-clause-written : goal.returns-clause-written
returns-clause-written g c =
    c.clear_if.ensures.written ∙ counted_if c.args.options.zero (g.S.Space.written _) (c.args.size - c.args.block.size)
    ∙ ap (λ w. C.counted w (if c.args.options.zero then c.args.size - c.args.block.size else 0)) c.resize.ensures.bytes.count
