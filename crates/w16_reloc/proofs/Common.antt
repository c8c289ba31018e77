-- The names of definitions and of lower crates that the proofs of this crate cite, passed on from one place. Declares nothing.
pub use Rattle.std.proofs.Common.{Err, None, Ok, Option, Result, Some, vec_capacity, ◌%◌, ◌/◌}
pub use Rattle.std.proofs.lemmas.Grind.{same_number_lists}
pub use Rattle.std.proofs.lemmas.List.{drop_more}
pub use Rattle.std.proofs.lemmas.List.Elements.{All-cons, All-head, All-more, All-nil, All-tail}
pub use Rattle.std.proofs.lemmas.List.FromFn.{fill_by_all, get_or-map-range_with_len, length-map-range_with_len}
pub use Rattle.std.specs.Prelude.{OnOk, count_by}
pub use Rattle.w16_ne.proofs.Common.{All, AllByRecursion, Bool, List, Reading, Tables, [], ap, append-nil, append_assoc, arith, bit_and, bytes_or, cond, drop, drop_of_length-le, each}
pub use Rattle.w16_ne.proofs.Common.{err_from_is_err_and, false, get_or, get_or-drop, get_or_past, inl, inr, length, list_any, max, nat_eq, nat_le, nat_lt, nat_tests, not, reaches, refl, rounded, rules, segment_count}
pub use Rattle.w16_ne.proofs.Common.{segment_table, shift_of, slice_get, subst, suc, sum_by-cons, sym, tables_of, take, take_all, true, vec_len, word_of, zero, ℕ, ◌&&◌, ◌*◌, ◌++◌, ◌+◌, ◌-◌, ◌<◌, ◌||◌, ◌∙◌, ◌∷◌, ◌≡◌}
pub use Rattle.w16_ne.proofs.Common.{◌≢◌, ◌≤◌, ◌⊎◌}
unfoldable pub use Rattle.w16_ne.proofs.Common.{data_at, entries_at, fields_of, file_of, header_at, nonresident_at, place_at, records_at, references_at, resident_at, resources_at, segment_at, segments_at, table_at, tables_at, tables_behind}
pub use Rattle.w16_ne.specs.declared.fault.NeFault.{NeFault}
pub use Rattle.w16_ne.specs.declared.segment_table.Segment.{Segment}
pub use Rattle.w16_reloc.specs.Apply.{IsFileOutside, IsOpen, IsReady, IsWalked, IsWritten, joined, over, over_each}
pub use Rattle.w16_reloc.specs.Check.{AreMarks, IsOfRecords, formed, ◌>>=◌}
unfoldable pub use Rattle.w16_reloc.specs.Check.{chain_at, check_from, site_at, sites_at}
pub use Rattle.w16_reloc.specs.Faults.{IsAtFault, IsFirstFault, LeadsTo, NamesNext}
pub use Rattle.w16_reloc.specs.Images.{IsImage, Patch, added_at, byte, found_at, image_at, moved, patches, patches_of, stored_at, value_of, word_bytes}
pub use Rattle.w16_reloc.specs.Law.{IsFar}
pub use Rattle.w16_reloc.specs.Naming.{chain_from, image_of, naming, offsets_of}
pub use Rattle.w16_reloc.specs.Records.{IsRecord, Offer, is_named}
unfoldable pub use Rattle.w16_reloc.specs.Records.{record_at, target_at}
pub use Rattle.w16_reloc.specs.Segments.{Answers, Held, LiesIn, Refuses, any_offer, data_of, offer_in, offer_of, records_of}
unfoldable pub use Rattle.w16_reloc.specs.Segments.{checked}
pub use Rattle.w16_reloc.specs.Sites.{AreApart, AreSound, Site, covers, meets}
pub use Rattle.w16_reloc.specs.Sound.{AreNamed, AreRecords, IsChain, IsSound, IsSoundSegment, Names, all_sites, chain_width, of_width, value_width, width_of}
pub use Rattle.w16_reloc.specs.declared.fault.RelocFault.{RelocFault}
pub use Rattle.w16_reloc.specs.declared.fault.RelocFault.TheVariants.{BadRecord, Overlap, SiteOutside, Store}
pub use Rattle.w16_reloc.specs.declared.record.Fixup.{Fixup}
pub use Rattle.w16_reloc.specs.declared.record.Part.{Part}
pub use Rattle.w16_reloc.specs.declared.record.Part.TheVariants.{LowByte, Offset, Pointer, Selector}
pub use Rattle.w16_reloc.specs.declared.record.Record.{Record}
pub use Rattle.w16_reloc.specs.declared.record.Record.TheVariants.{Added, Stored, System}
pub use Rattle.w16_reloc.specs.declared.value.Far.{Far}
