-- What a store answered of files.
use Rattle.w16_loader.proofs.Common as C
use Rattle.w16_loader.proofs.Common.{◌≡◌, ℕ, ◌<◌, inl, inr, true, false, List, Option, Some, None, Ok, Err, refl, sym, ap, ◌∙◌, subst, file_of, tables_at, ModuleFile, are_sound, module_file, ne_format, tables_in, Files, IsFault, said, answers_of}
use Rattle.w16_loading.specs.Answers.{HasTables, said_by}
use Rattle.w16_store.specs.{declared.store.StoreFault.StoreFault, Files.IsHonestFault, Files.IsMissing, Files.length_of, Later.RoseIf, Later.is_device}
use Rattle.w16_loader.specs.Closing.{fault_of_length}
use Rattle.w16_ne.specs.Modules as ne
use Rattle.w16_store.specs.declared.store.StoreFault.TheVariants as stores
use Rattle.w16_loading.specs.declared.LoadRefusal.TheVariants.{BadFile, NoFile}
use Rattle.w16_loader.specs.declared.fault.LoadFault.TheVariants as faults

-- What is said of a file that has these tables.
pub record Told (p : Option (List ℕ)) (t : ne.Tables) : Type 0 where
  pub bytes : List ℕ
  pub there : p ≡ Some bytes
  pub tables : tables_at (Some bytes) ≡ Ok t
  pub says : said_by ne_format.says p ≡ Ok (module_file bytes t)

has_tables : (r : C.OrRefused ModuleFile) (t : C.Tables) → HasTables r (Ok t) → (read : ModuleFile) × (r ≡ Ok read) × (read.tables ≡ t)
has_tables (Ok read) t h = (read, refl, h)
has_tables (Err refusal) t h = absurd h

pub told_of : (p : Option (List ℕ)) (t : ne.Tables) → HasTables (said_by ne_format.says p) (Ok (tables_in t)) → Told p t
told_of None t h = absurd h
told_of (Some bytes) t h =
    let r = has_tables _ _ h in
    let back = (C.read_back bytes r.0 r.1).1 in
    let same = C.tables_apart back.0 t (ap (λ x. x.tables) (sym back.2) ∙ r.2) in
    record { bytes = bytes; there = refl; tables = back.1 ∙ ap Ok same; says = r.1 ∙ ap Ok (back.2 ∙ ap (module_file bytes) same) }

pub read_told : (p : Option (List ℕ)) (t : ne.Tables) → C.IsFileWith p t → HasTables (said_by ne_format.says p) (Ok (tables_in t))
read_told None t is = absurd is
read_told (Some bytes) t is = subst (λ r. HasTables r (Ok (tables_in t))) (sym is.1) refl

module _ (honest : Type 0) (files : Files) (name : List ℕ) where
  pub refuses_told : (before after : ℕ) (fault : C.LoadFault) → IsFault (λ refusal. C.is_of_format refusal ≡ true) 0 1 fault → (honest → IsFault (λ refusal. said (file_of files name) ≡ Err refusal) before after fault) → (fault ≡ faults.Device → before < after)
      → IsFault (λ refusal. (answers_of honest files).says name (Err refusal)) before after fault
  refuses_told before after (faults.Refused refusal) few exact rose = (inr few, λ h. subst (λ r. HasTables r (Err refusal)) (sym (exact h)) refl)
  refuses_told before after faults.Device few exact rose = rose refl
  refuses_told before after faults.OutOfMemory few exact rose = tt

  -- its length can't be had
  pub length_told : (before after : ℕ) (fault : StoreFault) → IsMissing (file_of files name) fault → (honest → IsHonestFault before after fault (length_of (file_of files name))) → RoseIf is_device before after fault
      → IsFault (λ refusal. (answers_of honest files).says name (Err refusal)) before after (fault_of_length fault)
  length_told before after stores.Missing none exact rose = (inl (refl, none refl), λ h. subst (λ p. HasTables (said_by ne_format.says p) (Err NoFile)) (sym (none refl)) refl)
  length_told before after stores.Device none exact rose = rose refl
  length_told before after stores.Short none exact rose = (inr refl, λ h. absurd (never (file_of files name) (exact h)))
    where
      never : (p : Option (List ℕ)) → length_of p ≡ Err stores.Short → ⊥
      never None e = cc
      never (Some bytes) e = cc

  module _ (t : ne.Tables) (says : (answers_of honest files).says name (Ok (tables_in t))) where
    pub sound_told : ((bytes : List ℕ) → honest → file_of files name ≡ Some bytes → tables_at (Some bytes) ≡ Ok t → are_sound (module_file bytes t) ≡ true) → (answers_of honest files).sound name (tables_in t) true
    sound_told sound = λ h.
        let told = told_of (file_of files name) t (says.1 h) in
        subst (λ r. C.MatchResult r (λ read. are_sound read ≡ true) (λ refusal. ⊥)) (sym told.says) (sound told.bytes h told.there told.tables)

    pub unsound_told : (before after : ℕ) (fault : C.LoadFault) → IsFault (λ refusal. refusal ≡ BadFile) 0 1 fault
        → ((bytes : List ℕ) → honest → file_of files name ≡ Some bytes → tables_at (Some bytes) ≡ Ok t → IsFault (C.IsUnsound bytes t) before after fault) → (fault ≡ faults.Device → before < after)
        → IsFault (λ refusal. (answers_of honest files).sound name (tables_in t) false × (refusal ≡ BadFile)) before after fault
    unsound_told before after (faults.Refused refusal) few exact rose = (
      λ h. (let told = told_of (file_of files name) t (says.1 h) in subst (λ r. C.MatchResult r (λ read. are_sound read ≡ false) (λ refusal. ⊥)) (sym told.says) (exact told.bytes h told.there told.tables).1),
      few,
    )
    unsound_told before after faults.Device few exact rose = rose refl
    unsound_told before after faults.OutOfMemory few exact rose = tt
