-- The names of definitions and of lower crates that the proofs of this crate cite, passed on from one place. Declares nothing.
pub use Rattle.std.proofs.Common.{All, Bool, Err, List, None, Ok, Option, Result, Some, [], add-one, ap, append_assoc, arith, bit_and, cond, drop, eqb, false, get_or, inl, inr, is_some, length, length-append, length-drop, ltb, map, max}
pub use Rattle.std.proofs.Common.{min, not, option_map, refl, rules, slice_get, subst, suc, sym, take, take_all, true, unwrap_or, vec_len, zero, zero-add, ℕ, ◌&&◌, ◌*◌, ◌++◌, ◌+◌, ◌-◌, ◌<◌, ◌==◌, ◌^◌, ◌||◌, ◌∙◌, ◌∷◌, ◌≡◌, ◌≢◌, ◌≤◌, ◌⊎◌}
pub use Rattle.std.proofs.Math.ListN.{drop_of_length-le}
pub use Rattle.std.proofs.Math.Seq.{drop-cons}
pub use Rattle.std.proofs.lemmas.Bool.Decides.{nat_tests, same_from_decides}
pub use Rattle.std.proofs.lemmas.Grind.{common_steps}
pub use Rattle.std.proofs.lemmas.List.{append-nil, append_cancel_left, drop-append-le, drop-drop, drop-take, get_or-drop, get_or-take, get_or_past, length-map, length-take, map-append, map_push, take-append-drop, take-append-le, take-take, take_min}
pub use Rattle.std.proofs.lemmas.List.Elements.{All-append, All-push, filter-append, recursion_from_All}
pub use Rattle.std.proofs.lemmas.List.Sums.{sum_by-cons}
pub use Rattle.std.proofs.lemmas.Result.{err_from_is_err_and}
pub use Rattle.std.proofs.lemmas.Slice.Eq.{bytes_eq-Decides}
pub use Rattle.std.specs.Char.{to_ascii_uppercase}
pub use Rattle.std.specs.List.{AllByRecursion, find, flat_map, list_any}
pub use Rattle.std.specs.Prelude.{nat_eq, nat_le, nat_lt, slice_index}
pub use Rattle.std.specs.Str.{bytes_eq, str_to_ascii_uppercase}
pub use Rattle.w16_ne.specs.Entries.{bundle_end, bundles_from, entry_size, is_astray, sound_entry}
unfoldable pub use Rattle.w16_ne.specs.Entries.{bundle_in, entries_in, table_at}
pub use Rattle.w16_ne.specs.EntriesFormat.{AreBundles, AreEntries, IsEntryTable, IsInside}
pub use Rattle.w16_ne.specs.Header.{entry_length, entry_table, flags_of, imported_names, nonresident_length, nonresident_names, reference_count, reference_table, resident_names, resource_table, segment_count, segment_table, shift_of, target_of}
unfoldable pub use Rattle.w16_ne.specs.Header.{fields_of, header_at, place_at}
pub use Rattle.w16_ne.specs.HeaderFormat.{IsAccepted, IsHeader, IsOldHeader}
pub use Rattle.w16_ne.specs.Law.{FrontLaw, IsOfEnd, ModuleFormatLaw, OneModuleLaw, PartsLaw}
pub use Rattle.w16_ne.specs.Listing.{IsListing}
pub use Rattle.w16_ne.specs.ModuleFormat.{IsModule, IsPart}
pub use Rattle.w16_ne.specs.Modules.{Tables, listed_resources, tables_of}
unfoldable pub use Rattle.w16_ne.specs.Modules.{tables_at, tables_behind}
pub use Rattle.w16_ne.specs.Names.{Entry, Finds, IsPiece, at_place, first_text, found_in, names_from, names_in, ordinal_in, piece_at, size}
unfoldable pub use Rattle.w16_ne.specs.Names.{name_at, names_at, nonresident_at, resident_at, table_names}
pub use Rattle.w16_ne.specs.NamesFormat.{AreListed, AreNames, IsName}
pub use Rattle.w16_ne.specs.Reading.{Gives, IsFailure, IsOfFile, Reading, Refused, Refuses, Tells, bytes_or, dword_of, each, front_at, length_at, reaches, word_of, ◌>>=◌}
unfoldable pub use Rattle.w16_ne.specs.References.{references_at, text_at, texts_at}
pub use Rattle.w16_ne.specs.ReferencesFormat.{AreReferences, IsReferenceTable, IsText}
pub use Rattle.w16_ne.specs.Resources.{Label, Number, Text, Typed, all_typed, are_all_placed, are_placed, blocks_from, entry_of, filled, is_placed, label_of, resource_count}
unfoldable pub use Rattle.w16_ne.specs.Resources.{block_at, blocks_at, label_at, resource_at, resources_at, resources_of, typed_at, typed_in}
pub use Rattle.w16_ne.specs.ResourcesFormat.{AreBlocks, AreResources, HasResources, IsBlock, IsLabel, IsResource, IsResourceTable}
pub use Rattle.w16_ne.specs.Rows.{AreAdded, AreRows, HasLabel, entry_in, grouped, kind_at, label_in, total}
pub use Rattle.w16_ne.specs.Segments.{IsSized, or_64k, rounded}
unfoldable pub use Rattle.w16_ne.specs.Segments.{data_at, entries_at, records_at, segment_at, segments_at}
pub use Rattle.w16_ne.specs.SegmentsFormat.{AreRecords, AreSegments, IsData, IsSegment, IsSegmentTable}
pub use Rattle.w16_ne.specs.Texts.{HasText, text_in, texts_behind}
pub use Rattle.w16_ne.specs.declared.entry_table.Entry.TheVariants.{Constant, InSegment}
pub use Rattle.w16_ne.specs.declared.fault.NeFault.{NeFault}
pub use Rattle.w16_ne.specs.declared.fault.NeFault.TheVariants.{Truncated}
pub use Rattle.w16_ne.specs.declared.name_piece.Found.{Found}
pub use Rattle.w16_ne.specs.declared.names.Place.{Place}
pub use Rattle.w16_ne.specs.declared.resource_blocks.Block.{Block}
pub use Rattle.w16_ne.specs.declared.resource_rows.Group.{Group}
pub use Rattle.w16_ne.specs.declared.resource_rows.Row.{Row}
pub use Rattle.w16_ne.specs.declared.resource_rows.Rows.{Rows}
pub use Rattle.w16_ne.specs.declared.segment_table.Segment.{Segment}
pub use Rattle.w16_store.proofs.Naming.{is_named-Decides}
pub use Rattle.w16_store.specs.Files.{bytes_of}
unfoldable pub use Rattle.w16_store.specs.Files.{file_of}
unfoldable pub use Rattle.w16_store.specs.Names.{is_named}
