-- The names of definitions and of lower crates that the proofs of this crate cite, passed on from one place. Declares nothing.
pub use Rattle.std.proofs.Common.{Err, None, Ok, Option, Result, Some, lit<}
pub use Rattle.std.proofs.raw_atomic.Walks.{proved}
pub use Rattle.std_alloc.proofs.BoxSteps.Form.{B, Bx, D, P, R, args, box_ty, box_typed, handle, word, τ}
pub use Rattle.std_alloc.proofs.BoxSteps.Steps.{box_in, box_out}
pub use Rattle.std_alloc.proofs.ResultValues.{and_tt}
pub use Rattle.std_alloc.specs.Box.Ownership.{box_owns}
pub use Rattle.core.proofs.alloc.Calls.{Fits, Goes-blank, handle_tells, token}
pub use Rattle.core.proofs.mem.Facts.{says_two}
pub use Rattle.core.proofs.option.Made.{Some-of, none_of}
pub use Rattle.w16_c.specs.Ownership.{clones, held_owns, machine_row}
pub use Rattle.w16_kernel.proofs.Common.{KernelStep, ne_format}
pub use Rattle.w16_loading.proofs.Common.{GlobalDiscard}
pub use Rattle.w16_loading.specs.Replies.Reply.{Walked}
pub use Rattle.w16_loading.specs.declared.FetchFault.{FetchFault}
pub use Rattle.w16_machine.proofs.Common.{Bool, Command, DS, Done, Dword, Failed, Fill, GlobalAlloc, GlobalCompact, GlobalReAlloc, Heap, List}
pub use Rattle.w16_model.specs.Commands.{Command}
pub use Rattle.w16_model.specs.Commands.Family.{OfHandles}
pub use Rattle.w16_machine.proofs.Common.{OfFar, OfHandles, Read, Reply, Word, World, Write, []}
pub use Rattle.w16_machine.proofs.Common.{bytes_at, empty_world, false, length, part, refl, subst, sym, true, ℕ}
pub use Rattle.w16_machine.proofs.Common.{◌+◌, ◌∷◌, ◌≡◌}
pub use Rattle.w16_model.proofs.Common.{GetSelectorBase, GetSelectorLimit, GlobalFlags, GlobalFree, GlobalHandle, GlobalLRUNewest, GlobalLRUOldest, GlobalLock, GlobalSize, GlobalUnlock, Moved}
pub use Rattle.w16_model.proofs.Common.{owns, selector_of}
pub use Rattle.w16_model.proofs.Common.{◌++◌}
pub use Rattle.w16_model.specs.declared.FarFault.{FarFault}
pub use Rattle.w16_model.specs.declared.Refusal.{Refusal}
