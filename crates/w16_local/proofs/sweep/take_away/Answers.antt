use Rattle.w16_local.proofs.Common.{None, arith, get_or-set_other, get_or-set_same}
use Rattle.w16_local.proofs.Locals.{past}
use Rattle.w16_local.proofs.sweep.take_away.Goals as goal

pub returns-then-slot-len-clause-taken : goal.returns-then-slot-len-clause-taken
returns-then-slot-len-clause-taken g c = get_or-set_same c.args.heaps.now.items c.args.slot None None (let e = c.if-slot-len.true in omega (arith, e, c.args.heaps.now.ok.0))

pub returns-else-slot-len-clause-taken : goal.returns-else-slot-len-clause-taken
returns-else-slot-len-clause-taken g c = past c.args.heaps.now.items c.args.slot (let e = c.if-slot-len.false in omega (arith, e, c.args.heaps.now.ok.0))

pub returns-then-slot-len-clause-rest : goal.returns-then-slot-len-clause-rest
returns-then-slot-len-clause-rest g c q d = get_or-set_other c.args.heaps.now.items c.args.slot q None None d
