-- The names of definitions and of lower crates that the proofs of this crate cite, passed on from one place. Declares nothing.
pub use Rattle.std.proofs.lemmas.List.{same_lists}
pub use Rattle.std.proofs.lemmas.List.Elements.{All-nil}
pub use Rattle.std.proofs.lemmas.Nat.{and_mask}
pub use Rattle.std.specs.Prelude.{IsSome}
pub use Rattle.w16_format.proofs.Bytes.{padded_length}
pub use Rattle.w16_format.proofs.Common.{get_or-map-range_with_len, listed_resources, nat_eq, padded, resource_in}
pub use Rattle.w16_format.proofs.Fetched.{resource_given}
pub use Rattle.w16_format.proofs.Files.{stored_law}
pub use Rattle.w16_format.specs.Law.{IsFileOf}
pub use Rattle.w16_format.specs.Ne.{ne_format}
pub use Rattle.w16_format.specs.Tables.{label_in}
pub use Rattle.w16_global.specs.Owned.{LacksBytes}
pub use Rattle.w16_loader.proofs.Common.{AreHandles, Bool, Discardable, FetchFault, FinMap, Fixed, GRAIN, Handles, HasNoSlot, Held, IfNone, IfSome, IsFreeSlot, IsObjectOf, IsSomeAnd, IsWritten, Kind}
pub use Rattle.w16_loader.proofs.Common.{LARGEST_OWNED, Less, List, LoadingWorld, MatchOption, Module, Modules, Moveable, None, Object, Ok}
pub use Rattle.w16_loader.proofs.Common.{Option, Result, Some, TakesOwned, [], ap, arith, by_id, by_order, cases_eq, cases_lt, cond, drop}
pub use Rattle.w16_loader.proofs.Common.{entries-insert, eq-eqb, err_from_is_err_and, false, false≢true, filter, find, get-by_id, get_or}
pub use Rattle.w16_loader.proofs.Common.{get_or-set_other, get_or-set_same, get_or_default, get_or_past, inl, inr, inserted_here}
pub use Rattle.w16_loader.proofs.Common.{inserted_other}
pub use Rattle.w16_loader.proofs.Common.{is_in_order, is_some, le-ltb, len-empty, len-entries, length, length-drop, length-map}
pub use Rattle.w16_loader.proofs.Common.{length-take, ltb-false, map, module_at, nat_cmp, nat_cmp_is, nat_cmp_total, nat_lt}
pub use Rattle.w16_loader.proofs.Common.{ne_eqb, none_gone, not, numbered, object_at, option_map, owned_at, position, prefix_len, put, refl}
pub use Rattle.w16_loader.proofs.Common.{retained, rounded_size, rules, same_values, set, slice_get, slice_get-map, slice_index_or}
pub use Rattle.w16_loader.proofs.Common.{subst, suc, sym, tables_in, take, taken_here, taken_other, true, unwrap_or, with_object, without_objects, without_absent}
pub use Rattle.w16_loader.proofs.Common.{without_slot, zero, ℕ, ◌%◌, ◌&&◌, ◌+◌, ◌-◌, ◌/◌, ◌<◌, ◌==◌, ◌||◌, ◌∙◌, ◌∷◌, ◌≡◌, ◌≤◌}
pub use Rattle.w16_loader.proofs.Common.{◌⊎◌}
unfoldable pub use Rattle.w16_loader.proofs.Common.{file_of}
pub use Rattle.w16_loader.specs.Fetching.{fetch_fault}
pub use Rattle.w16_loader.specs.Registry.{in_world}
pub use Rattle.w16_loading.proofs.Absences.{all_retained}
pub use Rattle.w16_loading.proofs.Common.{MatchBool, bytes_at, eqb-true, owned_in}
pub use Rattle.w16_loading.proofs.ShrunkWorlds.{value_gone, value_left}
pub use Rattle.w16_loading.proofs.Stepping.{freed_by, resource_load, with_count}
pub use Rattle.w16_loading.specs.Answers.{FetchesFrom, told}
pub use Rattle.w16_loading.specs.Fewest.{FewestOver, FillsFewest}
pub use Rattle.w16_model.specs.Commands.Family.{OfResources}
pub use Rattle.w16_model.specs.Commands.Command.{LoadResource, LockResource}
pub use Rattle.w16_loading.specs.Fetch.{Fetching, IsImage}
pub use Rattle.w16_loading.specs.File.{Resource}
pub use Rattle.w16_loading.specs.Free.{is_left_over, without_orphans}
pub use Rattle.w16_loading.specs.Law.{IsLoad, IsLoadingWorld, IsOfFiles}
pub use Rattle.w16_loading.specs.Modules.{with_handles}
pub use Rattle.w16_loading.specs.Replies.{Reply}
pub use Rattle.w16_loading.specs.Replies.Reply.{Dword, Word}
pub use Rattle.w16_loading.specs.Resource.{AnswersNone, LoadsNewResource, LoadsResource, LocksResource, attributes_for, free_resource, is_too_long, load_of, loaded_again, lock_outcome}
pub use Rattle.w16_loading.specs.Resource.{locked, reply_of_call, resource_at, resource_outcome, slot_of_resource, with_resource}
pub use Rattle.w16_loading.specs.declared.FetchFault.TheVariants.{Store}
pub use Rattle.w16_model.proofs.Naming.{names_law}
pub use Rattle.w16_model.proofs.Runs.{unused_slot}
pub use Rattle.w16_model.specs.Calls.{flags_of, global_flags, global_lock, is_shared, locks_at}
pub use Rattle.w16_model.specs.Changes.{without}
pub use Rattle.w16_model.specs.Handles.{Gives, handle_of, selector_of, slot_of_handle, slot_of_selector}
pub use Rattle.w16_model.specs.Heap.{IsCounted, is_discardable}
pub use Rattle.w16_model.specs.Owned.{is_owned}
pub use Rattle.w16_model.specs.declared.Owned.{Owned}
pub use Rattle.w16_ne.specs.Resources.{Entry, entry_of, label_of}
pub use Rattle.w16_reloc.specs.Segments.{Refuses}
pub use Rattle.w16_reloc.specs.declared.fault.RelocFault.{RelocFault}
pub use Rattle.w16_resource.specs.Loads.{listed, load_in, loads_in, without_load, without_orphan}
pub use Rattle.w16_resource.specs.Parts.{FetchesResource, IsLoadingOver}
pub use Rattle.w16_resource.specs.Sources.{IsFirstLoad, IsSourceAt, is_long}
pub use Rattle.w16_resource.specs.declared.listing.Load.{Load}
pub use Rattle.w16_store.specs.Later.{IsLater}
