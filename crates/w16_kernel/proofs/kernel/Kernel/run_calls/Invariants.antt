use Rattle.w16_kernel.proofs.Common.{◌≡◌, ◌≤◌, take, length, vec_len, vec_capacity, KernelStep}
use Rattle.w16_kernel.proofs.Running.{Ran}
use Rattle.w16_kernel.proofs.kernel.Kernel.run_calls.Given as goal

-- the calls so far, and their replies, are a run to the present world; there is an answer for each, and room for all
abbrev pub invariant-loop-call : goal.invariant-loop-call
invariant-loop-call g l = record {
  ran : Ran (KernelStep g.S.Store.is_honest) l.fn.self (take l.call-index l.calls) l.answers.items l.self;
  count : vec_len l.answers ≡ l.call-index;
  room : length l.calls ≤ vec_capacity l.answers;
}
