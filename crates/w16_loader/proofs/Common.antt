-- The names of definitions and of lower crates that the proofs of this crate cite, passed on from one place. Declares nothing.
pub use Rattle.std.proofs.Common.{AllPairs, Err, None, Ok, OnErr, Option, Result, Some, add-one, lit<, rules, set, vec_capacity, vec_len, ◌*◌}
pub use Rattle.std.proofs.lemmas.Iterator.Adapters.{YieldsList-from_vec}
pub use Rattle.std.proofs.lemmas.Iterator.Consumers.{YieldsList-end, YieldsList-from_enumerate, YieldsList-turn}
pub use Rattle.std.proofs.lemmas.List.{drop-append-le, drop_more, get_or-append_right, get_or-map, get_or-replicate, get_or-set_other, get_or-set_same, get_or_append_left, get_or_default, get_or_past}
pub use Rattle.std.proofs.lemmas.List.{length-append, length-replicate, length-set, length_push, map-append, map_push, set-get_or, take-append-le, take_all, take_at, take_more, take_more_set}
pub use Rattle.std.proofs.lemmas.List.Elements.{All-from_recursion, All-push, All-replicate}
pub use Rattle.std.proofs.lemmas.List.FromFn.{get_or-enumerate_from, length-enumerate_from}
pub use Rattle.std.proofs.lemmas.Option.{get_or_from_slice_get, slice_get_cases, slice_get_within}
pub use Rattle.std.specs.Cmp.{nat_cmp_is}
pub use Rattle.std.specs.FinMap.{entries-insert, len-empty, len-entries, len-remove}
pub use Rattle.std.specs.FinMap.Entries.{by_order, put}
pub use Rattle.std.specs.Int.{from_bool}
pub use Rattle.std.specs.List.{enumerate_from, prefix_len}
pub use Rattle.std.specs.Prelude.{IsFalse, OnSome, is_none}
pub use Rattle.std.specs.declared.alloc.AllocError.{AllocError}
pub use Rattle.std.specs.declared.cmp.Ordering.TheVariants.{Less}
pub use Rattle.w16_format.proofs.Common.{All-cons, All-head, All-nil, All-tail, Held, IsFileOf, IsImage, IsRelocated, data_in, data_of, far_of, find, is_ok, length-take}
pub use Rattle.w16_format.proofs.Common.{min, module_file, naming, ne_format, segment_in, slice_get-map, tables_in, targets_in}
unfoldable pub use Rattle.w16_format.proofs.Common.{check_from, checked, tables_at, text_at}
pub use Rattle.w16_format.proofs.Fetched.{sound_law}
pub use Rattle.w16_format.proofs.Files.{accepted, has_room, is_format, read_back, refused, stored_law, tables_apart}
pub use Rattle.w16_format.proofs.Relocated.{is_relocated, words_same}
pub use Rattle.w16_format.specs.Data.{target_of}
pub use Rattle.w16_global.proofs.Common.{Global, IfNone, Lends, OnOk, cases_lt, get-by_id, le-ltb, length-repeated, without_slot}
pub use Rattle.w16_global.specs.Owned.{HasNoSlot, LacksBytes}
pub use Rattle.w16_loader.specs.Answering.{AreAccepted, AreHeld, ClosesOf, ClosesTo, IsAccepted, IsClosureBy, IsNewIn, IsRefusedFile, IsRefusedName, LeadsBy, LeadsByAnswer, LeadsTo, MakesOf, ReadsIn, RefusesBy, answers_of}
pub use Rattle.w16_loader.specs.Reached.{Begins, IsAlike, IsFoundOf, closed_of, reached_of}
pub use Rattle.w16_loader.specs.Binding.{AreSaid, AreTargets, AreValuesOf, IsFailure, IsForEach, IsSaid, IsStoredAs, all_bound, bound_as, values_for, with_values}
pub use Rattle.w16_loader.specs.Closing.{Files, IsFault, IsFileWith, IsThere, IsUnsound, around_in, fault_of_tables, fault_of_relocations, found_in, meant_in, referent_of, said}
pub use Rattle.w16_loader.specs.Entries.{named_of}
pub use Rattle.w16_loader.specs.Fetching.{GivesBytes, IsFetchable, IsSoundIn, IsSourceOf, IsWritten, fault_in, image_in, in_parts}
pub use Rattle.w16_loader.specs.Filling.{AreItsFiles, AreReadAs, AreUnfilled, HasUnfilled, IsReadAs, IsUnfilled, Part, failure_at, fills_in, fills_of_part, fills_with, gives_over, slots_at}
pub use Rattle.w16_loader.specs.Following.{FindsFew, LeadsByName, pair_of, closed_in, found_after, left_from, references_at, references_from, references_of, referent_after}
pub use Rattle.w16_loader.specs.Loading.{IsOfFile, LoadsHeld, load_answer, fault_of_failure, in_store, is_application, refused_by}
pub use Rattle.w16_loader.specs.Naming.{AreUnbound, GetNames, GetsName, IsClosureOf, IsFit, IsNamingFault, IsUnbound, Takes, free_handles, imports_among, unbound_by}
pub use Rattle.w16_loader.specs.Registry.{AreCounts, IsTable, counted_of, first_named, in_world, listed, registered}
pub use Rattle.w16_loader.specs.declared.closure.Bound.{Bound}
pub use Rattle.w16_loader.specs.declared.closure.Followed.{Followed}
pub use Rattle.w16_loader.specs.declared.entry.Entry.{Entry}
pub use Rattle.w16_loader.specs.declared.fault.LoadFault.TheVariants.{Device, OutOfMemory}
pub use Rattle.w16_loader.specs.declared.fault.LoadFault.{LoadFault}
pub use Rattle.w16_loader.specs.declared.tagged.Found.{Found}
pub use Rattle.w16_loader.specs.declared.found.Reading.{Reading}
pub use Rattle.w16_loader.specs.declared.found.Referent.{Referent}
pub use Rattle.w16_loader.specs.declared.loading.LoadAnswer.{LoadAnswer}
pub use Rattle.w16_loading.proofs.Absences.{none_gone, same_values}
pub use Rattle.w16_loading.proofs.Bound.{world_without}
pub use Rattle.w16_loading.proofs.Cascade.{gone_with, went}
pub use Rattle.w16_loading.proofs.CodeLoads.{sound_values}
pub use Rattle.w16_loading.proofs.Common.{All, All-from_Each, All-repeated, AllPairs-from_EachPair, AllZip, AllZip-left, Allocates, Answer, AreHandles, AreNew, AreSlots, Around, Bool, BuiltIn, Choice, Closure, Each-at}
pub use Rattle.w16_loading.proofs.Common.{Each-from, Each-from_All, EachPair, EachPair-from_AllPairs, Failure, Far, Filling, Fills, FinMap, Fulfils, Given, Giving, Go, Handles, Heap, IfOk, IfSome}
pub use Rattle.w16_loading.proofs.Common.{InTurn, IsChoice, IsFreeModule, IsFreeSlot, IsHeap, IsItsFiles, IsKeptOrDiscarded, IsModuleFile, IsNew, IsObjectOf, IsOwnedSize, IsSegmentData, IsSomeAnd, IsTrue, List, Loaded}
pub use Rattle.w16_loading.proofs.Common.{LoadingWorld, Lookup, MatchOption, MatchResult, Meant, Member, Module, ModuleFile, Modules, Named, New, Object, Read, Refused, Request, Says, Segment, SegmentData, Tables}
pub use Rattle.w16_loading.proofs.Common.{Target, There, [], address_at, after_use, after_write, all_slots, and_parts, ap, append-nil, append_assoc, are_sound, arith, around, attributes_of, begun, bound, bytes_at, cases_Bool, cases_eq, cond, count_by, discarded}
pub use Rattle.w16_loading.proofs.Common.{discards_needed, dll, drop, drop_all, eq-eqb, false, false≢true, fills, fills_from, fills_of, filter, flat_map, fold, free_slots, get_or, given, given_from, handle_meant, handle_named, handle_of, heap_without}
pub use Rattle.w16_loading.proofs.Common.{if◌then◌else◌, importers_among, imports, inl, inr, inserted_here, inserted_other, is_fixed, is_idle, is_in_order, is_member, is_member-true, is_of_read, is_owned, is_some, left, length, length-drop}
pub use Rattle.w16_loading.proofs.Common.{length-map, length-take-le, list_all, ltb-false, ltb-true, map, member_filter, module_at, module_in, name_of, named, nat_cmp, nat_cmp-IsAntisymmetric, nat_cmp_total, nat_lt, ne_eqb, not, numbered, object_at, option_map}
pub use Rattle.w16_loading.proofs.Common.{option_or, outcome_of, owned_at, pairs_filter, position, position_or_len, range_with_len, read_of, refl, refusal_of, replicate, revival_options, rounded_size, same_map, segment_among, segment_bytes, segments_in, segments_of}
pub use Rattle.w16_loading.proofs.Common.{slice_get, slice_get-get_or, slice_index, slice_index_or, slot_of_handle, subst, suc, sum_by-cons, sym, take, taken_here, taken_other, targets_of, true, true-is_member, unbound, undone, unwrap_or, usage_with, used_again}
pub use Rattle.w16_loading.proofs.Common.{used_less, with_heap, with_modules, with_newest, with_object, with_segment, without_module, without_objects, without_values, zero, zip, ℕ, ◌%◌, ◌&&◌, ◌++◌, ◌+◌, ◌-◌, ◌/◌, ◌<◌, ◌==◌, ◌||◌, ◌∙◌, ◌∷◌, ◌≡◌, ◌≢◌}
pub use Rattle.w16_loading.proofs.Common.{◌≤◌, ◌⊎◌}
unfoldable pub use Rattle.w16_loading.proofs.Common.{file_of, is_named, repeated}
pub use Rattle.w16_loading.proofs.Filled.{fill_law}
pub use Rattle.w16_loading.proofs.Fillings.{filled_other}
pub use Rattle.w16_loading.proofs.Given.{first_apart, given_found, given_handle, given_index, given_long, given_segment, loaded_is, one_place, place_member, put_all, put_here}
pub use Rattle.w16_loading.proofs.Importers.{entry_there, there_entry}
pub use Rattle.w16_loading.proofs.LoadWorlds.{named_new}
pub use Rattle.w16_loading.proofs.Named.{apart_after, given_slots_apart}
pub use Rattle.w16_loading.proofs.Owners.{of_segment}
pub use Rattle.w16_loading.proofs.Undone.{chosen, fold_named, in_first, in_second, retained, taken_away, taken_back_law, undone_law, zipped}
pub use Rattle.w16_loading.proofs.Values.{values_law}
pub use Rattle.w16_loading.specs.Free.{EndsUse}
pub use Rattle.w16_loading.specs.Law.{empty_loading_world}
pub use Rattle.w16_loading.specs.Modules.{free_modules, value_of, with_handles}
pub use Rattle.w16_loading.specs.declared.FetchFault.{FetchFault}
pub use Rattle.w16_loading.specs.declared.FetchFault.TheVariants.{Damaged, NoRoom, Store}
pub use Rattle.w16_loading.specs.declared.TheConstants.{FIRST_MODULE, LARGEST_OWNED, MOST_MODULES, MOST_USES}
pub use Rattle.w16_model.proofs.Common.{by_id}
pub use Rattle.w16_model.proofs.Gaps.{Each-map}
pub use Rattle.w16_model.proofs.KeptRest.{at_once}
pub use Rattle.w16_model.proofs.Orders.{without_absent}
pub use Rattle.w16_model.proofs.Prefixes.{filter_same}
pub use Rattle.w16_model.proofs.Runs.{IsIn, no_owner, none_owns, slots_beside, slots_with, unowned_beside, unused_slot}
pub use Rattle.w16_model.specs.Handles.{owner_of}
pub use Rattle.w16_model.specs.Law.{Revives, TakesOwned}
pub use Rattle.w16_model.specs.declared.Attributes.{Attributes}
pub use Rattle.w16_model.specs.declared.Kind.{Kind}
pub use Rattle.w16_model.specs.declared.Kind.TheVariants.{Discardable, Fixed, Moveable}
pub use Rattle.w16_model.specs.declared.Owned.{Owned}
pub use Rattle.w16_model.specs.declared.TheConstants.{FIRST_SLOT, GRAIN}
pub use Rattle.w16_ne.proofs.Common.{IsSized, drop-cons, err_from_is_err_and, filter-append}
pub use Rattle.w16_loading.specs.declared.LoadRefusal.{LoadRefusal}
pub use Rattle.w16_loading.specs.Refusals.{OrRefused, is_of_format}
pub use Rattle.w16_loading.specs.Load.{refused_with}
pub use Rattle.w16_ne.specs.declared.fault.NeFault.{NeFault}
pub use Rattle.w16_ne.specs.declared.segment_table.TheConstants.{LARGEST_SEGMENT, SEGMENT_UNIT}
pub use Rattle.w16_reloc.proofs.Common.{Refuses}
pub use Rattle.w16_reloc.specs.declared.fault.RelocFault.{RelocFault}
pub use Rattle.w16_reloc.specs.declared.record.Record.{Record}
pub use Rattle.w16_store.specs.Files.{HasBytes, length_of}
pub use Rattle.w16_loader.specs.Devices.{is_of_device}
