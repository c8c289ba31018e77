-- The names of definitions and of lower crates that the proofs of this crate cite, passed on from one place. Declares nothing.
pub use Rattle.std.proofs.Common.{Bor, Fits, MutBor, length-append, w64, w8, ◌^◌}
pub use Rattle.std.proofs.Math.Seq.{take-add}
pub use Rattle.std.proofs.alloc.Calls.{Al}
pub use Rattle.std.proofs.lemmas.List.{take-append-drop}
pub use Rattle.std.proofs.lemmas.List.Elements.{All-from_get_or}
pub use Rattle.std.proofs.raw_atomic.Walks.{proved}
pub use Rattle.std.specs.Prelude.{Vec}
pub use Rattle.std.specs.Vec.{with_items}
pub use Rattle.w16_model.proofs.Common.{All, List, [], ap, append_assoc, arith, common_steps, drop, drop-drop, drop_at, get_or, length, length-take-le, part, put_part, refl, rules, subst, sym, take, take_at, ℕ, ◌++◌, ◌+◌, ◌-◌, ◌<◌, ◌∙◌, ◌∷◌, ◌≡◌, ◌≤◌, ◌⊎◌}
unfoldable pub use Rattle.w16_model.proofs.Common.{repeated}
pub use Rattle.w16_model.proofs.Parts.{drop-put_part, length-part, part_below, take-put_part}
pub use Rattle.w16_region.specs.Bytes.{counted, lengths}
unfoldable pub use Rattle.w16_region.specs.Bytes.{word_in}
pub use Rattle.w16_region.specs.declared.framed.Framed.{Framed}
pub use Rattle.w16_region.specs.declared.region.Region.{Region}
