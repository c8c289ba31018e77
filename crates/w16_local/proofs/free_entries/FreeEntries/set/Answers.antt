use Rattle.std.proofs.Common.{◌≡◌, ◌∙◌, ◌+◌, ◌<◌, ℕ, ap, arith, inl, inr, length, set}
use Rattle.std.proofs.lemmas.List.{get_or-set_other, length-set}
use Rattle.std.specs.Prelude.{slice_index}
use Rattle.w16_local.specs.FreeEntries.{all_of}
use Rattle.w16_local.proofs.FreeEntries.{all_length, kept_free, set_at}
use Rattle.w16_local.proofs.free_entries.FreeEntries.set.Goals as goal

entry_lt : {n : ℕ} (m : ℕ) → n < m → m ≡ 1024 → n < 1024
entry_lt m lt e = omega arith

pub loop-free-preserved : goal.loop-free-preserved
loop-free-preserved g c =
    let many = c.loop-free.invariant.many in let lt = c.loop-free-test.true in
    let n = all_length c.self.invariant in let f = ap length c.self.view_is in let r = c.requires in record {
      many = ap length c.set.ensures ∙ length-set c.loop-free.self-inside.kept c.loop-free.free 1 ∙ many;
      used = c.loop-free.invariant.used;
      low = let low = c.loop-free.invariant.low in omega arith;
      upto = inl (omega arith);
      same = ap (all_of (c.loop-free.free + 1)) c.set.ensures ∙ kept_free c.loop-free.free c.loop-free.self-inside.kept many (omega arith) ∙ c.loop-free.invariant.same;
      rest = λ k le. ap (λ xs. slice_index xs k) c.set.ensures ∙ get_or-set_other c.loop-free.self-inside.kept c.loop-free.free k 1 0 (omega arith) ∙ c.loop-free.invariant.rest k (omega arith);
    }

pub invariant_of-self : goal.invariant_of-self
invariant_of-self g c =
    let many = c.loop-free.invariant.many in let low = c.loop-free.invariant.low in let ends = c.loop-free-test.false in let used = c.loop-free.invariant.used in let most = c.max-self-inside.ensures in
    let n = all_length c.self.invariant in let f = ap length c.self.view_is in let r = c.requires in let few = c.self.invariant.few in record {
      many = ap length c.set-2.ensures ∙ length-set c.loop-free.self-inside.kept c.args.entry c.args.value ∙ many;
      few = omega arith;
      rest = λ k le. ap (λ xs. slice_index xs k) c.set-2.ensures ∙ get_or-set_other c.loop-free.self-inside.kept c.args.entry k c.args.value 0 (omega arith) ∙ c.loop-free.invariant.rest k (elim c.loop-free.invariant.upto [ inl low ↦ omega arith | inr same ↦ omega arith ]);
    }

pub returns : goal.returns
returns g c =
    let many = c.loop-free.invariant.many in let low = c.loop-free.invariant.low in let ends = c.loop-free-test.false in let used = c.loop-free.invariant.used in let most = c.max-self-inside.ensures in
    let n = all_length c.self.invariant in let f = ap length c.self.view_is in let r = c.requires in let few = c.self.invariant.few in
    rw (← c.self.view_is, c.set-2.ensures, most, used) (set_at c.self.inside.used c.loop-free.free c.args.entry c.args.value c.loop-free.self-inside.kept many low (omega arith) c.loop-free.invariant.upto (omega arith) few
    ∙ ap (λ xs. set xs c.args.entry c.args.value) c.loop-free.invariant.same)
