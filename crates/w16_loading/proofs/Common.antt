-- The names of definitions and of lower crates that the proofs of this crate cite, passed on from one place. Declares nothing.
pub use Rattle.std.proofs.Common.{Err, MatchResult, None, Ok, Option, Some, codes, count_by, flat_map, length-append, position, slice_index, slice_index_or, zip, ◌%◌}
pub use Rattle.std.proofs.lemmas.List.{append-nil, append_assoc, drop_all, length-drop, length-map, take-append-drop}
pub use Rattle.std.proofs.lemmas.List.Quantifiers.{position-Some}
pub use Rattle.std.proofs.lemmas.List.Sums.{length-filter}
pub use Rattle.std.proofs.lemmas.Option.{slice_get-get_or}
pub use Rattle.std.proofs.lemmas.Slice.Zip.{AllZip-left}
pub use Rattle.std.specs.FinMap.{get-retain_keys, nat_cmp-IsAntisymmetric, same_map}
pub use Rattle.std.specs.List.{AllZip, list_all, position_or_len}
pub use Rattle.std.specs.Option.{option_or}
pub use Rattle.w16_loading.specs.Answers.{Answers, ClosesFrom, FetchesFrom, GivesFrom, HasTables, IsOwnedSize, LoadsFrom, ReadsFile, follow, said_by, told}
pub use Rattle.w16_loading.specs.Bystanders.{IsFreedResource, IsReleased, IsStepAbout, IsUnloaded, IsUnused, MayGo, StepBystandersLaw, StepPinnedLaw, call_of, step_may_move_own}
pub use Rattle.w16_loading.specs.Closure.{Around, Closure, Found, Reading, Referent, are_sound, around, begun, dll, meant, with_bound, with_found}
pub use Rattle.w16_loading.specs.Closure.Reading.{Meant, Read, Refused}
pub use Rattle.w16_loading.specs.Closure.Referent.{New, There}
pub use Rattle.w16_loading.specs.Families.{AddsBuiltIn, FamilyStep, FarStep, GivesBuiltIn, Loading, ModuleStep, ResourceStep, built_in}
pub use Rattle.w16_model.specs.Commands.{Command}
pub use Rattle.w16_loading.specs.Families.{AnyCommand}
pub use Rattle.w16_model.specs.Commands.Family.{OfHandles, OfResizes, OfFar, OfModules, OfResources, OfLocals}
pub use Rattle.w16_model.specs.Commands.Command.{GlobalReAlloc, GlobalDiscard, Builtin, LoadModule, LoadLibrary, FreeLibrary, FreeModule, GetModuleHandle, GetModuleUsage, GetProcAddress, FindResource, LoadResource, LockResource, FreeResource, SizeofResource}
pub use Rattle.w16_loading.specs.Fetch.{Accesses, Fetching, IsImage, far_read, far_write, gives, needs_fetch, read_of, reply_of_far, resource_bytes, segment_bytes}
pub use Rattle.w16_loading.specs.Fewest.{RequestsFewestLaw}
pub use Rattle.w16_loading.specs.File.{Far, Format, IsModuleFile, IsSegmentData, ModuleFile, Resource, Saying, Segment, SegmentData, Tables, Target, numbered, targets_of}
pub use Rattle.w16_loading.specs.File.Entry.{InSegment}
pub use Rattle.w16_loading.specs.File.Target.{Import, ImportName, Internal, InternalEntry, System}
pub use Rattle.w16_loading.specs.Fill.{Failure, Filling, Fills, Giving, InTurn, asked_of, is_of_read}
pub use Rattle.w16_loading.specs.Free.{Frees, Go, is_left_over, used_less, without_module, without_orphans}
pub use Rattle.w16_loading.specs.Law.{AnyStepLaw, CodeIsItsFiles, CodeLaw, CodeReadsLaw, EmptyLaw, EmptyOfFilesLaw, IsCommand, is_code}
pub use Rattle.w16_loading.specs.Law.{FillLaw, IsContent, IsFormat, IsItsFiles, IsLoad, IsLoadingWorld, IsModule, IsObjectOf, IsOfFiles, IsRefusal, KeepsOwner}
pub use Rattle.w16_loading.specs.Law.{KeepsWorldsLaw, ModulesAreItsFiles, OnlyDiscards, OwnersLaw, TakenBackLaw, UndoneLaw, ValuesLaw}
pub use Rattle.w16_loading.specs.Law.{without_values}
pub use Rattle.w16_loading.specs.Load.{Answer, Fulfils, LoadsNew, Refuses, after_use, left, outcome_of, refusal_of, refused_with, undone, used_again}
pub use Rattle.w16_loading.specs.Load.Answer.{Says}
pub use Rattle.w16_loading.specs.Modules.{IsFreeModule, IsResourceOf, IsSegmentOf, Load, LoadingWorld, Lookup, Module, Modules, Named, address_at, address_by_name, address_by_ordinal}
pub use Rattle.w16_loading.specs.Modules.{address_named, handle_named, imported, importers, importers_among, imports, is_idle, module_at, module_in, name_of, usage, usage_with, with_heap}
pub use Rattle.w16_loading.specs.Modules.Named.{BuiltIn, Loaded}
pub use Rattle.w16_loading.specs.Naming.{AreSlots, Choice, Given, IsChoice, all_slots, attributes_of, bound, bound_in, fills, fills_from, fills_of, free_slots, given, given_from, handle_meant, imports_at, named, segments_in, segments_of, unbound, with_modules, with_segment}
pub use Rattle.w16_loading.specs.Owner.{IsOwnerOf, Owner, OwnerLaw, number_in, owner_of, segment_among}
pub use Rattle.w16_loading.specs.Owner.Owner.{OfResource, OfSegment, Script}
pub use Rattle.w16_loading.specs.Refusals.{OrRefused, by_reference, refusal_number}
pub use Rattle.w16_loading.specs.Release.{heap_without, without_objects}
pub use Rattle.w16_loading.specs.Replies.{HandleReplies, Reply, ResizeReplies, answer_in}
pub use Rattle.w16_loading.specs.Replies.Reply.{Dword, Failed, Word}
pub use Rattle.w16_loading.specs.Resizes.{ResizeStep}
pub use Rattle.w16_loading.specs.Resource.{AnswersNone, LoadsNewResource, LoadsResource, LocksResource, attributes_for, free_resource, is_too_long, load_of, loaded_again, lock_outcome, locked, resource_at, resource_outcome, slot_of_resource, with_resource}
pub use Rattle.w16_loading.specs.declared.FetchFault.{FetchFault}
pub use Rattle.w16_loading.specs.declared.LoadRefusal.{LoadRefusal}
pub use Rattle.w16_loading.specs.declared.FetchFault.TheVariants.{Damaged, NoRoom, Store}
pub use Rattle.w16_loading.specs.declared.TheConstants.{FIRST_MODULE, LARGEST_OWNED, MOST_MODULES, MOST_USES}
pub use Rattle.w16_model.proofs.Accesses.{Reached, reached}
pub use Rattle.w16_model.proofs.Bystanders.{bystander, kept_or_discarded}
pub use Rattle.w16_model.proofs.CallLaws.{contents}
pub use Rattle.w16_model.proofs.CallOutcomes.{call_outcome, outcome}
pub use Rattle.w16_model.proofs.Common.{All, Allocates, AllocatesFewest, AreHandles, AreNew, Asked, Bool, Call, Calls, FarAnswer, Fill, FinMap, GlobalLock, Handles, Heap, IfOk, IfSome, IsAbout, IsAllocated, IsCompacted}
pub use Rattle.w16_model.proofs.Common.{IsCounted, IsDiscarded, IsEntered, IsFreeRun, IsFreeSlot, IsFreed, IsHeap, IsKeptOrDiscarded, IsLocked, IsModified, IsNew, IsNewest, IsOldest, IsResized, IsRun, IsSame, IsSized, IsSomeAnd}
pub use Rattle.w16_model.proofs.Common.{IsTrue, IsUnlocked, IsUnmoved, KeepsContents, KeepsOthers, List, MatchBool, MatchOption, Object, Outcome, Part, ReAllocs, Request, Resized, Settles, StandsStill, Walked, Write, [], absent, after_touch}
pub use Rattle.w16_model.proofs.Common.{after_write, and_parts, ap, arith, attributes_asked, blocks, bytes_at, cases_Bool, cases_eq, cond, discarded, discards_needed, drop, eligible, entries_sorted, eq-eqb, eqb-true, false, false≢true, far_at}
pub use Rattle.w16_model.proofs.Common.{far_bytes, far_fault, far_slot, filter, find, fold, get-empty, get-entries, get_or, global_lock, handle_in, handle_of, if◌then◌else◌, inl, inr, is_fixed, is_in_order, is_member, is_owned}
pub use Rattle.w16_model.proofs.Common.{is_past, is_pinned_object, is_some, length, length-take-le, locks_at, ltb-false, ltb-true, map, nat_cmp, nat_cmp_total, nat_lt, ne_eqb, not, not-true, object_at, offset_in, option_map, owns, part}
pub use Rattle.w16_model.proofs.Common.{part_of_selector, put_part, range_with_len, refl, refuses_write, replicate, rounded_size, selector_in, selector_of, slice_get, slot_of_handle, slot_of_selector, slots_at, slots_for, stays_for, subst}
pub use Rattle.w16_model.proofs.Common.{suc, sum_by-cons, sym, take, true, unwrap_or, update, with_newest, with_object, with_ordered, zero, ℕ, ◌&&◌, ◌++◌, ◌+◌, ◌*◌, ◌-◌, ◌/◌, ◌<◌, ◌==◌, ◌||◌, ◌∙◌, ◌∷◌, ◌≡◌, ◌≢◌, ◌≤◌, ◌⊎◌}
pub use Rattle.w16_model.proofs.Common.{realloc_options}
unfoldable pub use Rattle.w16_model.proofs.Common.{repeated}
pub use Rattle.w16_model.proofs.Discards.{is_member-true, true-is_member}
pub use Rattle.w16_model.proofs.Fewest.{allocation_law}
pub use Rattle.w16_model.proofs.Gaps.{All-from_Each, AllPairs-from_EachPair, Each-at, Each-from, Each-from_All, EachPair, EachPair-from_AllPairs, Member, filter_member, member_filter, pairs_filter}
pub use Rattle.w16_model.proofs.Heaps.{IsBlockOf, found_member, get-update_other, get-update_same, keys_rise, member_found}
pub use Rattle.w16_model.proofs.Housed.{was_free}
pub use Rattle.w16_model.proofs.KeptHandles.{other_handles, read_handles, settled, sized_is, with_absent_object, write_handles}
pub use Rattle.w16_model.proofs.KeptHeaps.{AreBytes, Stands, bytes_in, entered_heap, inserted_here, inserted_other, same_grained, same_placed, taken_here, taken_other, written_heap}
pub use Rattle.w16_model.proofs.Others.{others_law}
pub use Rattle.w16_model.proofs.Runs.{owned_slots, run_of_one, some_slots, unowned_beside, unused, unused_slot}
pub use Rattle.w16_model.proofs.Outcomes.{address_law}
pub use Rattle.w16_model.proofs.Parts.{All-repeated, length-put_part}
pub use Rattle.w16_model.proofs.Prefixes.{filter_swapped}
pub use Rattle.w16_model.proofs.ResizedHandles.{handle_law, resize_law}
pub use Rattle.w16_model.specs.Far.{pointer_in}
pub use Rattle.w16_model.specs.Outcomes.{CallStep}
pub use Rattle.w16_model.specs.Owned.{owned_at, owned_in, revival_options}
pub use Rattle.w16_model.specs.declared.Attributes.{Attributes}
pub use Rattle.w16_model.specs.declared.Block.{Block}
pub use Rattle.w16_model.specs.declared.FarFault.{FarFault}
pub use Rattle.w16_model.specs.declared.FarFault.TheVariants.{BadSelector, Limit, NotPresent}
pub use Rattle.w16_model.specs.declared.Kind.{Kind}
pub use Rattle.w16_model.specs.declared.Kind.TheVariants.{Discardable, Moveable}
pub use Rattle.w16_model.specs.declared.Owned.{Owned}
pub use Rattle.w16_model.specs.declared.TheConstants.{FIRST_SLOT, GMEM_MOVEABLE, REACH}
pub use Rattle.w16_store.proofs.Naming.{is_named-Decides}
unfoldable pub use Rattle.w16_store.specs.Files.{file_of}
unfoldable pub use Rattle.w16_store.specs.Names.{is_named}
