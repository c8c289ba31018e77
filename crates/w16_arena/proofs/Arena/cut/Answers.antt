use Rattle.w16_arena.proofs
use proofs.Common.{◌≡◌, ◌≤◌, [], length, Some, refl, arith, IsMultiple, block_with, heap_in, IsResized, Placed, KeepsRest, table_of, heap_of}
use proofs.Shown.{known as known_in, told}
use proofs.Fitting.{id_known, fits_less}
use proofs.InPlace.{kept_resized, rest_resized, is_cut, others_with}
use Rattle.w16_arena.proofs.Arena.cut.Goals as goal

pub resize-requires-clause-id : goal.resize-requires-clause-id
resize-requires-clause-id g c = id_known _ _ (known_in c.self.invariant c.self.view_is (λ t. block_with t.blocks c.args.block.id ≡ Some c.args.block) c.requires.known) c.bounds.ensures.ordered

pub resize-requires-clause-fits : goal.resize-requires-clause-fits
resize-requires-clause-fits g c = fits_less _ _ (known_in c.self.invariant c.self.view_is (λ t. block_with t.blocks c.args.block.id ≡ Some c.args.block) c.requires.known) c.bounds.ensures.ordered _ c.requires.some c.requires.less
    (known_in c.self.invariant c.self.view_is (λ t. IsMultiple t.grain c.args.size) c.requires.rounded)

pub invariant_of-self : goal.invariant_of-self
invariant_of-self g c = kept_resized c.self.invariant _ (known_in c.self.invariant c.self.view_is (λ t. block_with t.blocks c.args.block.id ≡ Some c.args.block) c.requires.known) c.args.size c.resize.ensures.value c.resize.ensures.ordered

pub returns-clause-resized : goal.returns-clause-resized
returns-clause-resized g c = λ options.
    let m = g.S.Space.bytes c.args.space.now in
    let p : Placed = record { at = c.args.block.at; slid = record { from = 0; to = 0 }; moved = 0 } in
    let b = c.args.block in let n = c.args.size in
    let known = known_in c.self.invariant c.self.view_is (λ t. block_with t.blocks b.id ≡ Some b) c.requires.known in
    let fits = fits_less _ b known c.bounds.ensures.ordered n c.requires.some c.requires.less (known_in c.self.invariant c.self.view_is (λ t. IsMultiple t.grain n) c.requires.rounded) in
    rw c.forget_discards.ensures (told c.self.invariant c.self.view_is (λ t. IsResized (heap_in t m) b.id n options p [] (heap_of c.self.inside.entries.items c.resize.new.blocks c.self.inside.order.ids (g.S.Space.bytes c.resize.new.space)))
    (is_cut c.self.invariant b known n c.resize.ensures.value c.resize.ensures.ordered m (known_in c.self.invariant c.self.view_is (λ t. t.hi ≤ length m) c.requires.memory.inside)
    (g.S.Space.bytes _) c.resize.ensures.bytes.rest.bytes.long (others_with c.self.invariant b known n c.resize.ensures.value c.resize.ensures.ordered m _ c.resize.ensures.bytes.contents)
    c.requires.some (known_in c.self.invariant c.self.view_is (λ t. IsMultiple t.grain n) c.requires.rounded) options p refl refl fits.inside.2 c.requires.less (c.resize.ensures.own n c.requires.less (omega arith)) refl))

pub returns-clause-rest : goal.returns-clause-rest
returns-clause-rest g c =
    let known = known_in c.self.invariant c.self.view_is (λ t. block_with t.blocks c.args.block.id ≡ Some c.args.block) c.requires.known in
    rw c.forget_discards.ensures (told c.self.invariant c.self.view_is (λ t. KeepsRest g.H.Holes.are_in g.S.Space.bytes g.S.Space.lenders t c.args.space.now (table_of c.self.inside.entries.items c.resize.new.blocks c.self.inside.order.ids) c.resize.new.space)
    (rest_resized c.self.invariant _ known c.args.size c.resize.ensures.value c.resize.ensures.ordered c.resize.ensures.bytes.rest))
