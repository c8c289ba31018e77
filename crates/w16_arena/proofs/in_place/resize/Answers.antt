use Rattle.w16_arena.proofs.Common.{◌≡◌, IfSome, refl, subst, Block, Layout, replaced}
use Rattle.w16_arena.proofs.Kept.{own_kept, others_kept, outside_kept}
use Rattle.w16_arena.proofs.in_place.resize.Given as Given
use Rattle.w16_arena.proofs.in_place.resize.Goals as goal

value : (g : Given.Over) (c : goal.After-reveal_bytes g) → c.resize.new.self ≡ record c.args.blocks.now { blocks = replaced (record c.args.block { size = c.args.size }) c.args.blocks.now.blocks }
value g c = subst (λ p. IfSome p (λ b. c.resize.new.self ≡ record c.args.blocks.now { blocks = replaced (record b { size = c.args.size }) c.args.blocks.now.blocks })) c.requires.known c.resize.ensures.value

pub returns-clause-bytes : goal.returns-clause-bytes
returns-clause-bytes g c =
    let l = c.args.blocks.now in let b = c.args.block in let e = c.resize.ensures in
    record {
      contents = others_kept l b b.at c.args.size c.bounds.ensures.ordered (value g c) e.ordered e.rest.bytes;
      rest = record { kept = e.rest.kept; bytes = record { long = e.rest.bytes.long; outside = outside_kept l b b.at c.args.size c.bounds.ensures.ordered (value g c) e.ordered e.rest.bytes }; loans = e.rest.loans };
      count = e.written;
    }

pub returns-clause-own : goal.returns-clause-own
returns-clause-own g c =
    let b = c.args.block in let e = c.resize.ensures in
    own_kept c.args.blocks.now b b.at _ c.bounds.ensures.ordered (value g c) e.ordered e.rest.bytes c.requires.known refl
