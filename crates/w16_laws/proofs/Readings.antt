-- What a load reads and follows, by cases.
use Rattle.w16_loading.proofs.Common.{◌≡◌, ℕ, ◌<◌, Bool, true, false, cond, nat_lt, List, [], ◌∷◌, length, Option, Some, None, Ok, Err, refl, ltb-true, Saying, OrRefused, by_reference, ModuleFile, Around, Closure, Found, Reading, Referent, meant, are_sound, dll, with_bound, with_found}
use Rattle.w16_loading.proofs.Common.{Refused, Meant, Read, New}
use Rattle.w16_loading.specs.declared.LoadRefusal.{LoadRefusal}
use Rattle.w16_loading.specs.declared.LoadRefusal.TheVariants.{BadFile, NoFile, NoRoom}
use Rattle.w16_laws.specs.Closing.{reading, followed, after}

module _ (says : Saying) (a : Around) where
  -- what a load makes of a file: it is refused, or means what is there, or is read while a handle is free
  read_cases : (P : Reading → Type 0) (found : List Found) (file : List ℕ) → ((refusal : LoadRefusal) → P (Refused refusal)) → ((referent : Referent) → P (Meant referent)) → ((read : ModuleFile) → length found < a.free → P (Read read)) → P (reading says a found file)
  read_cases P found file refused there new = by_file (a.file file)
    where
      by_tests : (read : ModuleFile) (s t : Bool) → nat_lt (length found) a.free ≡ t → P (cond {A = Reading} s (cond t (Read read) (Refused NoRoom)) (Refused BadFile))
      by_tests read true true t = new read (ltb-true (length found) a.free t)
      by_tests read true false t = refused NoRoom
      by_tests read false f t = refused BadFile

      by_name : (read : ModuleFile) (m : Option Referent) → P (elim m [ Some referent ↦ Meant referent | None ↦ cond (are_sound read) (cond (nat_lt (length found) a.free) (Read read) (Refused NoRoom)) (Refused BadFile) ])
      by_name read (Some referent) = there referent
      by_name read None = by_tests read (are_sound read) (nat_lt (length found) a.free) refl

      by_format : (r : OrRefused ModuleFile) → P (elim r [
        | Err refusal ↦ Refused refusal
        | Ok read ↦ elim (meant a found read.tables.name) [ Some referent ↦ Meant referent | None ↦ cond (are_sound read) (cond (nat_lt (length found) a.free) (Read read) (Refused NoRoom)) (Refused BadFile) ]
      ])
      by_format (Err refusal) = refused refusal
      by_format (Ok read) = by_name read (meant a found read.tables.name)

      by_file : (p : Option (List ℕ)) → P (reading says (record a { file = λ name. p }) found file)
      by_file None = refused NoFile
      by_file (Some bytes) = by_format (says bytes)

  -- what a reference leaves: it means what is there, or it is refused, or a module is new
  module _ (P : OrRefused Closure → Type 0) (closure : Closure) (place : ℕ) (name : List ℕ) (there : (referent : Referent) → P (Ok (with_bound closure place referent))) (refused : (refusal : LoadRefusal) → P (Err (by_reference refusal)))
      (new : (read : ModuleFile) → length closure.found < a.free → P (Ok (with_bound (with_found closure (dll name) read) place (New (length closure.found))))) where
    pub follow_cases : P (followed says a closure place name)
    follow_cases = by_meant (meant a closure.found name)
      where
        by_meant : (m : Option Referent) → P (elim m [
          | Some referent ↦ Ok (with_bound closure place referent)
          | None ↦ elim (reading says a closure.found (dll name)) [
            | Refused refusal ↦ Err (by_reference refusal)
            | Meant referent ↦ Ok (with_bound closure place referent)
            | Read read ↦ Ok (with_bound (with_found closure (dll name) read) place (New (length closure.found)))
          ]
        ])
        by_meant (Some referent) = there referent
        by_meant None = read_cases (λ r. P (elim r [
          | Refused refusal ↦ Err (by_reference refusal)
          | Meant referent ↦ Ok (with_bound closure place referent)
          | Read read ↦ Ok (with_bound (with_found closure (dll name) read) place (New (length closure.found)))
        ])) closure.found (dll name) refused there new

  abbrev pub from_next : ℕ → OrRefused Closure → OrRefused Closure
  from_next n r = elim r [ Ok next ↦ after says a n next | Err refusal ↦ Err refusal ]

  abbrev pub from_list : ℕ → Closure → List (ℕ × List ℕ) → OrRefused Closure
  from_list n closure p = elim p [ [] ↦ Ok closure | (x ∷ rest) ↦ from_next n (followed says a (record closure { pending = rest }) x.0 x.1) ]
