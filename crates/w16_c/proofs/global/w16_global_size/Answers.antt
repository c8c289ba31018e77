use Rattle.std.proofs.Common.{inl, refl, sym}
use Rattle.w16_c.proofs.Loans.{answered}
use Rattle.w16_c.proofs.global.w16_global_size.Goals as goal

pub returns : goal.returns
returns c = (inl (refl, answered (sym c.in-Some.ensures.some) c.put_back.ensures.held c.in-Some.ensures.same c.put_back.ensures.same (rw c.deref.ensures at c.global_size.ensures)), inl refl)
