-- The names of definitions and of lower crates that the proofs of this crate cite, passed on from one place. Declares nothing.
pub use Rattle.std.proofs.Common.{Err, None, Option, Some, filter, if◌then◌else◌, nat_le, rules, vec_capacity, vec_len, ◌==◌}
pub use Rattle.std.proofs.lemmas.List.{map_push, length-map, length-take-le, take_all}
pub use Rattle.std.proofs.lemmas.Option.{slice_get_within}
pub use Rattle.std.specs.List.{slice_get}
pub use Rattle.std.specs.Prelude.{IfNone, IfOk, OnErr, MatchBool, MatchOption, Ok, Result, ◌%◌, ◌+◌, ◌-◌, ◌/◌, ◌≢◌}
pub use Rattle.w16_format.specs.Ne.{ne_format}
pub use Rattle.w16_format.specs.Tables.{segment_in, tables_in}
pub use Rattle.w16_global.proofs.Common.{common_steps, take_more}
pub use Rattle.w16_kernel.specs.Fetching.{IsAbsent, IsSourceFor, KernelFetch, Refetches}
pub use Rattle.w16_resource.specs.Parts.{IsLoadingOver}
pub use Rattle.w16_kernel.specs.Parts.{IsWorldOver, KernelStep, OnLocals, OthersStay, ReadsCode, Unswept, discardable_beside, object_slot, surviving_heaps, with_surviving, word_of, world_of}
pub use Rattle.w16_kernel.specs.Runs.{TakesMemory, answer_of, command_of, label_of, load_command, reply_of, write_of}
pub use Rattle.w16_kernel.specs.Stops.{StopsEarly}
pub use Rattle.w16_kernel.specs.declared.call.Answer.{Answer}
pub use Rattle.w16_kernel.specs.declared.call.Call.{Call}
pub use Rattle.w16_loader.proofs.Common.{IsSourceOf, LacksBytes}
pub use Rattle.w16_loader.specs.Registry.{owner_in}
pub use Rattle.w16_loading.proofs.CodeReads.{code_reads_law}
pub use Rattle.w16_loading.proofs.Common.{IsSegmentOf, Module, Modules, Segment, Tables, handle_of, map, module_at, not, segment_among, slice_get-get_or, ◌++◌}
pub use Rattle.w16_loading.proofs.Owners.{of_segment, owner_law}
pub use Rattle.w16_loading.specs.Answers.{FetchesFrom, LoadsFrom, StepOver, told}
pub use Rattle.w16_loading.specs.Fill.{Fills}
pub use Rattle.w16_store.specs.Later.{IsLater}
pub use Rattle.w16_loading.specs.Families.{FamilyStep}
pub use Rattle.w16_model.specs.Commands.{Command}
pub use Rattle.w16_model.specs.Commands.Family.{OfFar}
pub use Rattle.w16_model.specs.Commands.Command.{GlobalFree, GlobalCompact, Moved, GlobalReAlloc, GlobalDiscard}
pub use Rattle.w16_loading.specs.Owner.{owner_of}
pub use Rattle.w16_local.proofs.Beginning.{on_any}
pub use Rattle.w16_machine.proofs.Common.{AreHandles, Bool, Command, Discardable, Dword, Event, Failed, FarAnswer, FarFault, FarReplies, FetchFault, Fill, FinMap, Fixed}
pub use Rattle.w16_machine.proofs.Common.{Handles, Heap, IfSome, IsCommand, IsLoadingWorld, IsLocalIn, IsOfLocals, IsSomeAnd, Kind, List, LoadingStep, LoadingWorld, Moveable, Object}
pub use Rattle.w16_machine.proofs.Common.{OfFar, OfHandles, OfLocals, OfModules, OfResizes, OfResources, Read, Reply, Run, Step, Table, Word, World, Write, [], after_loading, answer_in, ap}
pub use Rattle.w16_machine.proofs.Common.{arith, bytes_at, bytes_in, cond, data_write, false, false≢true, far_fault, far_slot, get-retain_keys, get_or, gives}
pub use Rattle.w16_machine.proofs.Common.{has_range, inl, inr, is_in_order, is_member, is_some, left_in, length, nat_cmp}
pub use Rattle.w16_machine.proofs.Common.{nat_cmp-IsAntisymmetric, nat_cmp_total, needs_fetch, object_at, offset_in, option_map}
pub use Rattle.w16_machine.proofs.Common.{owned_at}
pub use Rattle.w16_machine.proofs.Common.{refl, refuses_write, reply_of_far, same_map, selector_in, subst, sym, take, taken_here, taken_other, true, unwrap_or, with_handles, ℕ, ◌&&◌, ◌<◌, ◌∙◌, ◌∷◌}
pub use Rattle.w16_machine.proofs.Common.{◌≡◌, ◌≤◌}
unfoldable pub use Rattle.w16_machine.proofs.Common.{repeated}
pub use Rattle.w16_machine.proofs.Runs.{run_append}
pub use Rattle.w16_machine.proofs.LocalStays.{heaps_law}
pub use Rattle.w16_machine.proofs.Stepped.{handles_step}
pub use Rattle.w16_machine.proofs.Worlds.{files_law, world_law}
pub use Rattle.w16_machine.specs.Rows.{may_take_bytes}
pub use Rattle.w16_machine.specs.LocalStays.{step_may_take}
pub use Rattle.w16_machine.specs.Machine.{Steps}
pub use Rattle.w16_machine.specs.Law.{IsSame}
pub use Rattle.w16_writes.proofs.Promises.{promised_append, promised_none, promised_step}
pub use Rattle.w16_writes.specs.Promises.{Promises}
pub use Rattle.w16_model.proofs.Listed.{walk_law}
pub use Rattle.w16_model.specs.Law.{HasOneWalk}
pub use Rattle.w16_model.proofs.Naming.{names_law}
pub use Rattle.w16_model.proofs.Runs.{numbered, reach_law, slots_none}
pub use Rattle.w16_model.specs.Calls.{alloc_options, global_handle, kind_asked}
pub use Rattle.w16_model.specs.Handles.{Part, dword_of, slots_at, selector_of, slot_of_handle}
pub use Rattle.w16_model.specs.Owned.{is_owned}
pub use Rattle.std.proofs.lemmas.Bool.{cases_eq, le-leb}
pub use Rattle.std.proofs.lemmas.List.Sums.{count_by-le-length, length-filter}
pub use Rattle.w16_model.specs.Heap.{is_discardable}
pub use Rattle.w16_model.specs.Changes.{without}
pub use Rattle.w16_model.specs.Outcomes.{CallStep, Outcome}
pub use Rattle.w16_model.specs.Outcomes.Outcome.{IsAllocated, IsCompacted, IsDiscarded, IsEntered, IsFreed, IsLocked, IsModified, IsNewest, IsOldest, IsResized, IsUnlocked, IsUnmoved}
pub use Rattle.w16_model.specs.CallLaws.{IsKeptOrDiscarded, OnlyLeave, handle_in, may_change}
pub use Rattle.w16_model.proofs.CallOutcomes.{outcome}
pub use Rattle.w16_model.specs.Outcomes.Call.{Calls, ReAllocs}
pub use Rattle.w16_model.specs.declared.TheConstants.{GMEM_MOVEABLE}
pub use Rattle.w16_model.specs.declared.Attributes.{Attributes}
pub use Rattle.w16_model.proofs.Bystanders.{bystanders_law}
pub use Rattle.w16_model.proofs.CallOrders.{allocated, compacted, stays}
pub use Rattle.w16_model.proofs.Prefixes.{filter_swapped}
pub use Rattle.w16_model.proofs.KindChanges.{other_of, twice_out}
pub use Rattle.w16_model.proofs.Orders.{without_absent}
