-- The names of definitions and of lower crates that the proofs of this crate cite, passed on from one place. Declares nothing.
pub use Rattle.std.proofs.Common.{Err, None, Ok, Option, Result, Some, find}
pub use Rattle.std.proofs.lemmas.Bool.{le-leb, lt-ltb}
pub use Rattle.std.proofs.lemmas.List.{length-replicate}
pub use Rattle.w16_loading.proofs.Begun.{empty_of_files_law}
pub use Rattle.w16_loading.proofs.Bystanders.{bystanders_law, pinned_law}
pub use Rattle.w16_loading.proofs.CodeLaw.{code_law}
pub use Rattle.w16_loading.proofs.Common.{Accesses, All, All-from_Each, AllPairs-from_EachPair, Allocates, AllocatesFewest, AreHandles, AreNew, Asked, Bool, BuiltIn, Builtin, Calls, Dword, Each-at, Each-from_All, Failed, FamilyStep, FarAnswer}
pub use Rattle.w16_model.specs.Commands.{Command}
pub use Rattle.w16_loading.specs.Families.{AnyCommand}
pub use Rattle.w16_model.specs.Commands.Family.{OfHandles, OfResizes, OfFar, OfModules, OfResources, OfLocals}
pub use Rattle.w16_model.specs.Commands.Command.{LocalInit, LocalAlloc, LocalReAlloc, LocalDiscard, LocalFree, LocalLock, LocalUnlock, LocalSize, LocalFlags, LocalHandle, LocalCompact, DS}
pub use Rattle.w16_loading.proofs.Common.{Fill, FinMap, FindResource, Format, GetModuleHandle, GetModuleUsage, GetProcAddress, GlobalReAlloc, HandleReplies, Handles, Heap, IfOk, IfSome, IsBlockOf, IsHeap, IsCommand, IsLoadingWorld}
pub use Rattle.w16_loading.proofs.Common.{IsNew, IsOfFiles, IsSomeAnd, KeepsOthers, List, Command, LoadingWorld, MatchBool, MatchOption, Member}
pub use Rattle.w16_loading.proofs.Common.{ModuleStep, Object, OfFar, OfHandles, OfModules, OfResizes, OfResources, Reached, Reply, ResizeReplies, ResourceStep, Settles, SizeofResource, StandsStill, Word, Write, [], absent, address_law}
pub use Rattle.w16_loading.proofs.Common.{after_touch, after_write, allocation_law, and_parts, answer_in, ap, arith, blocks, bytes_at, bytes_in, call_outcome, cases_Bool, cases_eq, cond, contents, discarded, discards_needed, eligible, entries_sorted}
pub use Rattle.w16_loading.proofs.Common.{eq-eqb, eqb-true, false, false≢true, far_at, far_bytes, far_fault, far_slot, found_member, get-empty, get-entries, get-retain_keys, get-update_other, get-update_same, get_or, gives}
pub use Rattle.w16_loading.proofs.Common.{handle_named, inl, inr, inserted_here, inserted_other, is_fixed, is_in_order, is_member, is_pinned_object, is_some, keys_rise, length, length-put_part, ltb-true, member_found, module_at, nat_cmp, nat_cmp-IsAntisymmetric}
pub use Rattle.w16_loading.proofs.Common.{nat_cmp_total, nat_lt, ne_eqb, needs_fetch, not, object_at, offset_in, option_map, other_handles, others_law, owned_at, part, put_part, reached, refl, refuses_write, replicate, reply_of_far, same_map, selector_in}
pub use Rattle.w16_loading.proofs.Common.{slot_of_selector, stays_for, subst, suc, sym, take, taken_here, taken_other, true, unwrap_or, with_newest, with_object, with_ordered, written_heap, zero, ℕ, ◌&&◌, ◌+◌, ◌-◌, ◌/◌, ◌<◌, ◌==◌, ◌||◌, ◌∙◌, ◌∷◌, ◌≡◌, ◌≢◌, ◌≤◌}
pub use Rattle.w16_loading.proofs.Common.{◌⊎◌}
unfoldable pub use Rattle.w16_loading.proofs.Common.{repeated}
pub use Rattle.w16_loading.proofs.KeptBytes.{KeepsBytes, same_object}
pub use Rattle.w16_loading.proofs.KeptCode.{KeepsCode, as_it_was, code_kept, same_source}
pub use Rattle.w16_loading.proofs.KeptOwners.{owners_law}
pub use Rattle.w16_loading.proofs.KeptWorlds.{IsOwned, world_stays}
pub use Rattle.w16_loading.proofs.WorldLaw.{keeps_worlds_law}
pub use Rattle.w16_loading.specs.Families.{ResizesStep}
pub use Rattle.w16_loading.specs.Modules.{with_handles}
pub use Rattle.w16_loading.specs.Law.{FarReplies}
pub use Rattle.w16_loading.specs.Replies.Reply.{Done}
pub use Rattle.w16_loading.specs.declared.FetchFault.{FetchFault}
pub use Rattle.w16_machine.specs.Bystanders.{IsLocalAbout, IsLocalSpared, StepSparesLaw}
pub use Rattle.w16_machine.specs.Fewest.{IsFewest}
pub use Rattle.w16_machine.specs.Law.{AreLocalHeaps, AreNamed, EmptyLaw, FilesLaw, IsLocalIn, IsOfLocals, IsWorld, OnHandles, WorldLaw, empty_world}
pub use Rattle.w16_loading.specs.Law.{IsCommand}
pub use Rattle.w16_machine.specs.Local.{Acts, Becomes, Beginning, IsLocalTable, IsLowestFree, LocalHeap, LocalObject, Stays, beginning, beginning_in, current_heap, has_range, heap_of, id_at}
pub use Rattle.w16_machine.specs.Local.{id_named, is_name, is_range, left_in, local_in, local_of, name_at, name_of, new_table, object_named, range_in, rounded_down, rounded_up, segment_bytes, selector_or_ds, with_local, with_table}
pub use Rattle.w16_machine.specs.LocalCalls.{AllocatesIn, AllocatesObject, Answers, CompactsIn, DiscardsObject, EntersObject, GivesUp, HasNoEntry, HasNoRoom, IsEmptyFixed, IsRefusedAlloc, Leaves, LocalInits, LocalStep}
pub use Rattle.w16_machine.specs.LocalCalls.{MakesObject, ModifiesObject, OnNamed, ResizesObject, SizesObject, is_absent_asked, local_flags_of, local_kind, local_options, lock_refused, locks_left, moveable_or_discardable, near_pointer}
pub use Rattle.w16_machine.specs.LocalFewest.{AllocFewest, AllocLaw, AllocatedFewest, CompactLaw, GrowsFewest, IsRefusedSize, LacksBytes, LacksGrowth, Left, ReallocFewest, ReallocLaw, ReallocatedFewest}
pub use Rattle.w16_machine.specs.LocalGrowth.{Grows, IsGrowth, IsLongerSize, Lengthens, OnceLonger, StaysShort, growth_flags, longer, with_longer}
pub use Rattle.w16_machine.specs.LocalLaw.{IsHeapLeft, IsLeftByGrowth, IsLengthened, KeepsRestLonger, LeavesLonger, flags_in, may_grow, BeginLaw, FrameLaw}
pub use Rattle.w16_machine.specs.LocalLaw.{GoesLaw, HasSameObjects, IsHeapKept, IsLocalKept, IsNamedBy, IsObjectKept, IsRewritten, KeepsRest, MayBegin, NamesLaw}
pub use Rattle.w16_machine.specs.LocalLaw.{NewHeapLaw, OthersLaw, PinnedLaw, asks_for_room, but_bytes, may_move_named, named_by}
pub use Rattle.w16_machine.specs.LocalStays.{HasSamePlaces, HeapsLaw, LocalSamePlacesLaw, SamePlacesLaw, kind_at, size_at}
pub use Rattle.w16_machine.specs.Rows.{may_take_bytes}
pub use Rattle.w16_machine.specs.Machine.{Event, LoadingStep, Run, Step, after_loading}
pub use Rattle.w16_machine.specs.World.{World}
pub use Rattle.w16_machine.specs.declared.local.TheConstants.{LAST_LOCAL_END, LMEM_MODIFY, LMEM_MOVEABLE, LMEM_NOCOMPACT, LOCAL_ENTRIES, LOCAL_GRAIN}
pub use Rattle.w16_model.proofs.Absence.{discard_absent, discard_is}
pub use Rattle.w16_model.proofs.CallOrders.{allocated, compacted, stays, touched_rest}
pub use Rattle.w16_model.proofs.Common.{Answer, AreResized, Bytes, Enters, Fault, GlobalAlloc, GlobalCompact, HandleStep, IsCountedBy, IsMultiple, IsSound, IsTable, LacksPlace, LacksRoom, MakesRoom, Misses, MovesLittle, OnlyLeave, Read}
pub use Rattle.w16_model.proofs.Common.{ReallocatesFewest, Table, after_discard, after_free, after_lock, after_modify, after_unlock, block_end, block_with, by_id, compaction_prefix, data_write, entry_at, fits_in_place, growth_for, has_flag, heap_in}
pub use Rattle.w16_model.proofs.Common.{hold_of_entry, hold_of_object, is_discardable, is_listed, leb-true, min, most_room, nat_le, needed, newest, object_in, prefix_for, removed, room, size_of, slice_range, snapshot, take_all, touched, without, ◌*◌}
pub use Rattle.w16_model.proofs.Empty.{empty_law}
pub use Rattle.w16_model.proofs.Fewest.{compaction_law, global_alloc_law, global_compact_law, lacking}
pub use Rattle.w16_model.proofs.Heaps.{block_member, member_block}
pub use Rattle.w16_model.proofs.KeptHandles.{same_updated, written_sized}
pub use Rattle.w16_model.proofs.KeptRest.{rest_law}
pub use Rattle.w16_model.proofs.KindChanges.{rest_order, twice_out}
pub use Rattle.w16_model.proofs.Laid.{laid_each}
pub use Rattle.w16_model.proofs.Parts.{part-put_part}
pub use Rattle.w16_model.proofs.Places.{same_id, two_placed}
pub use Rattle.w16_model.proofs.Prefixes.{none_about}
pub use Rattle.w16_model.proofs.Reallocations.{asked, fewest_law, moves_law}
pub use Rattle.w16_model.proofs.ResizedHandles.{resize_fewest_law}
pub use Rattle.w16_model.proofs.Sound.{sound_law}
pub use Rattle.w16_model.proofs.Tables.{length_range, member_with, object_is}
pub use Rattle.w16_model.specs.Discards.{Snapshot}
pub use Rattle.w16_model.specs.Ends.{ending, is_answered, is_resized}
pub use Rattle.w16_model.specs.Fewest.{CompactsFewest}
pub use Rattle.w16_model.specs.Law.{FarStep, KeepsAddresses}
pub use Rattle.w16_model.specs.Owned.{is_code}
pub use Rattle.w16_model.specs.Reallocation.{IsResized}
pub use Rattle.w16_model.specs.Table.{IsSameOutside}
pub use Rattle.w16_model.specs.declared.Block.{Block}
pub use Rattle.w16_model.specs.declared.Entry.{Entry}
pub use Rattle.w16_model.specs.declared.FarFault.{FarFault}
pub use Rattle.w16_model.specs.declared.FarFault.TheVariants.{ReadOnly}
pub use Rattle.w16_model.specs.declared.Hold.{Hold}
pub use Rattle.w16_model.specs.declared.Hold.TheVariants.{Loose, Pinned}
pub use Rattle.w16_model.specs.declared.Kind.{Kind}
pub use Rattle.w16_model.specs.declared.Kind.TheVariants.{Discardable, Fixed, Moveable}
pub use Rattle.w16_model.specs.declared.Owned.{Owned}
pub use Rattle.w16_model.specs.declared.Refusal.{Refusal}
pub use Rattle.w16_model.specs.declared.RoomOptions.{RoomOptions}
pub use Rattle.w16_model.specs.declared.Span.{Span}
