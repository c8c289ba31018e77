-- The names of definitions and of lower crates that the proofs of this crate cite, passed on from one place. Declares nothing.
pub use Rattle.std.proofs.Common.{Err, Ok, Result}
pub use Rattle.std.proofs.lemmas.Bool.{le-leb, lt-ltb, ltb-true}
pub use Rattle.std.proofs.lemmas.List.Elements.{All-map}
pub use Rattle.std.proofs.lemmas.Option.{slice_get-map}
pub use Rattle.std.specs.Prelude.{None, Option, Some, find, is_ok}
pub use Rattle.w16_format.specs.Data.{contents_in, data_in, far_in, far_of, padded, records_in, targets_in}
pub use Rattle.w16_format.specs.Law.{IsFileOf, IsRelocated}
pub use Rattle.w16_format.specs.Layout.{layout_code}
pub use Rattle.w16_format.specs.Ne.{content_at, has_bytes, module_file, ne_format, refusal_by_format, plain_format, read_as, written}
pub use Rattle.w16_format.specs.Samples.{HasResource, IsLibrary, IsProgram, SamplesLaw}
unfoldable pub use Rattle.w16_format.specs.Samples.{tapp, tlib, tres}
pub use Rattle.w16_format.specs.Tables.{entry_in, resource_in, segment_in, tables_in}
pub use Rattle.w16_loading.proofs.Common.{AllZip, Far, IfOk, IfSome, IsContent, IsFormat, IsItsFiles, IsModuleFile, IsOfFiles, IsSegmentData, IsSomeAnd, LoadingWorld, MatchResult, Module, ModuleFile}
pub use Rattle.w16_loading.proofs.Common.{SegmentData, and_parts, are_sound, list_all, module_at, numbered, read_of, resource_bytes, rounded_size, segment_bytes, slice_index_or}
unfoldable pub use Rattle.w16_loading.proofs.Common.{repeated}
pub use Rattle.w16_loading.specs.Refusals.{OrRefused}
pub use Rattle.w16_loading.specs.declared.TheConstants.{LARGEST_OWNED}
pub use Rattle.w16_model.proofs.Common.{All-drop, All-take, IsMultiple, and_from}
pub use Rattle.w16_model.specs.declared.TheConstants.{GRAIN}
pub use Rattle.w16_ne.proofs.Common.{All, AreSegments, Bool, IsData, IsModule, IsSegment, Label, List, Tables, [], ap, arith, cond, drop, false, get_or, inl, inr, is_some, length, length-take, listed_resources, map, max, min}
pub use Rattle.w16_ne.proofs.Common.{nat_eq, nat_lt, option_map, or_64k, ordinal_in, refl, rounded, segment_table, shift_of, slice_get, subst, suc, sym, take, true, unwrap_or, word_of, zero, ℕ, ◌&&◌, ◌+◌, ◌-◌, ◌<◌, ◌∙◌, ◌∷◌, ◌≡◌}
pub use Rattle.w16_ne.proofs.Common.{◌≤◌}
unfoldable pub use Rattle.w16_ne.proofs.Common.{block_at, blocks_at, bundle_in, data_at, entries_at, entries_in, fields_of, file_of, header_at, is_named, label_at, name_at, names_at, nonresident_at, place_at, records_at}
unfoldable pub use Rattle.w16_ne.proofs.Common.{references_at, resident_at, resources_at, resources_of, segment_at, segments_at, table_at, table_names, tables_at, tables_behind, text_at, texts_at, typed_at, typed_in}
pub use Rattle.w16_ne.proofs.ModuleFormat.{module_format}
pub use Rattle.w16_ne.specs.Modules.{entry_at, resource_at}
pub use Rattle.w16_ne.specs.Resources.{Entry}
pub use Rattle.w16_ne.specs.declared.fault.NeFault.{NeFault}
pub use Rattle.w16_ne.specs.declared.fault.NeFault.TheVariants.{Store, Target}
pub use Rattle.w16_ne.specs.declared.segment_table.Segment.{Segment}
pub use Rattle.w16_reloc.proofs.Common.{All-cons, All-head, All-nil, All-tail, Held, IsFar, IsImage, IsSound, byte, data_of, get_or-map-range_with_len, image_at, image_of, length-map-range_with_len, naming, offer_of, patches, records_of, ◌%◌, ◌/◌, ◌>>=◌}
unfoldable pub use Rattle.w16_reloc.proofs.Common.{chain_at, check_from, checked, record_at, site_at, sites_at, target_at}
pub use Rattle.w16_reloc.proofs.NamingLemmas.{image_bytes, image_is_of, naming_is}
pub use Rattle.w16_reloc.proofs.SoundLemmas.{passed_is_sound, sound_passes}
pub use Rattle.w16_reloc.specs.Segments.{any_offer}
pub use Rattle.w16_reloc.specs.Sound.{IsSoundSegment}
pub use Rattle.w16_reloc.specs.declared.fault.RelocFault.{RelocFault}
pub use Rattle.w16_reloc.specs.declared.record.Record.{Record}
pub use Rattle.w16_store.specs.declared.store.StoreFault.TheVariants.{Missing}
