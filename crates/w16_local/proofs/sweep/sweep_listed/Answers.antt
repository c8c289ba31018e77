use Rattle.std.proofs.Common.{arith, refl, ◌∙◌}
use Rattle.w16_local.proofs.Sweeping.{swept_all, swept_at, swept_none}
use Rattle.w16_local.proofs.sweep.sweep_listed.Goals as goal

pub live-init : goal.live-init
live-init g c = swept_none c.args.global.now.handles.heap _ _ c.args.heaps.now.items c.args.live.now.items c.requires refl c.len-i.result (c.len-i.ensures ∙ c.args.live.now.ok.0)

pub look_at-requires : goal.look_at-requires
look_at-requires g c = let inside = c.live.invariant.inside in let some = c.live-test.true in omega (arith, inside, some)

pub live-preserved : goal.live-preserved
live-preserved g c = let some = c.live-test.true in c.look_at.ensures _ (swept_at c.args.global.now.handles.heap _ _ c.live.i _ (omega (arith, some)) c.live.heaps.items c.live.live.items c.live.invariant)

pub returns-clause-tables : goal.returns-clause-tables
returns-clause-tables g c = let none = c.live-test.false in swept_all c.args.global.now.handles.heap _ _ c.live.heaps.items c.live.live.items (swept_at c.args.global.now.handles.heap _ _ c.live.i 0 (omega (arith, none)) c.live.heaps.items c.live.live.items c.live.invariant)

pub returns-clause-listed : goal.returns-clause-listed
returns-clause-listed g c = c.live.invariant.listed
