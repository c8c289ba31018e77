-- Which modules a load finds where each file says the same whenever it is read.
use Rattle.w16_loading.specs
use Rattle.std.specs.Prelude.{ℕ, if◌then◌else◌, nat_lt, List, length, Some, None, Ok, Err, zero, suc, [], ◌∷◌, ◌≡◌, IfOk}
use specs.Closure.{Around, Found, Reading, are_sound, meant, Closure, dll, with_bound, with_found}
use specs.Closure.Reading.{Meant, Read, Refused}
use specs.declared.LoadRefusal.TheVariants.{BadFile, NoFile, NoRoom}
use specs.{File.Saying, Closure.Referent.New, Refusals.OrRefused, Refusals.by_reference}

-- A name that is there decides before the relocations do, and these before the count of handles, with which each new module is counted.
abbrev pub reading : Saying → Around → List Found → List ℕ → Reading
reading says a found file = elim (a.file file) [
  | None ↦ Refused NoFile
  | Some bytes ↦ elim (says bytes) [
    | Err refusal ↦ Refused refusal
    | Ok read ↦ elim (meant a found read.tables.name) [
      | Some referent ↦ Meant referent
      | None ↦ if are_sound read then (if nat_lt (length found) a.free then Read read else Refused NoRoom) else Refused BadFile
    ]
  ]
]

-- One reference: a name that is there, or else of its file.
abbrev pub followed : Saying → Around → Closure → ℕ → List ℕ → OrRefused Closure
followed says a closure place name = elim (meant a closure.found name) [
  | Some referent ↦ Ok (with_bound closure place referent)
  | None ↦ elim (reading says a closure.found (dll name)) [
    | Refused refusal ↦ Err (by_reference refusal)
    | Meant referent ↦ Ok (with_bound closure place referent)
    | Read read ↦ Ok (with_bound (with_found closure (dll name) read) place (New (length closure.found)))
  ]
]

-- the closure after that many references, or why the load is refused
abbrev pub after : Saying → Around → ℕ → Closure → OrRefused Closure
after says a zero closure = Ok closure
after says a (suc n) closure = elim closure.pending [
  | [] ↦ Ok closure
  | (x ∷ rest) ↦ elim (followed says a (record closure { pending = rest }) x.0 x.1) [
    | Ok next ↦ after says a n next
    | Err refusal ↦ Err refusal
  ]
]

-- all references followed, or the first refusal
abbrev pub Closes : Saying → Around → Closure → OrRefused Closure → Type 0
Closes says a closure outcome = (n : ℕ) × (after says a n closure ≡ outcome) × IfOk outcome (λ c. c.pending ≡ [])
