-- A closure has one outcome.
use Rattle.w16_loading.proofs
use proofs.Common as C
use proofs.Common.{◌≡◌, ℕ, zero, suc, List, [], ◌∷◌, OrRefused, Ok, Err, IfOk, refl, sym, ap, ◌∙◌, subst, Closure, Bool, ClosesFrom, MatchResult, ModuleFile, None, Option, Read, Reading, ReadsFile, Referent, Refused, Some, are_sound, around, cond}
use proofs.Common.{dll, false, follow, inl}
use proofs.Common.{inr, length, meant, nat_lt, true, with_bound}
use Rattle.w16_laws.proofs.Readings.{from_next, from_list}
use Rattle.w16_loading.specs.declared.LoadRefusal.{LoadRefusal}
use Rattle.w16_loading.specs.declared.LoadRefusal.TheVariants.{BadFile, NoRoom}
use Rattle.std.proofs.lemmas.Bool.{le-ltb, lt-ltb}
use Rattle.w16_laws.specs.Closing.{after, reading, followed}
use Rattle.w16_laws.specs.Loading.{OneClosureLaw, ClosureFilesLaw}

abbrev IsDone : OrRefused Closure → Type 0
IsDone outcome = IfOk outcome (λ c. c.pending ≡ [])

module _ (says : C.Saying) (around : C.Around) where
  -- with nothing pending nothing changes
  still : (n : ℕ) (closure : Closure) → closure.pending ≡ [] → after says around n closure ≡ Ok closure
  still zero closure e = refl
  still (suc n) closure e = ap (from_list says around n closure) e

  -- two outcomes are one
  abbrev One : ℕ → ℕ → Type 0
  One n m = (closure : Closure) → IsDone (after says around n closure) → IsDone (after says around m closure) → after says around n closure ≡ after says around m closure

  one_next : (n m : ℕ) → One n m → (r : OrRefused Closure) → IsDone (from_next says around n r) → IsDone (from_next says around m r) → from_next says around n r ≡ from_next says around m r
  one_next n m one (Ok next) a b = one next a b
  one_next n m one (Err refusal) a b = refl

  one_list : (n m : ℕ) → One n m → (closure : Closure) (p : List (ℕ × List ℕ)) → IsDone (from_list says around n closure p) → IsDone (from_list says around m closure p) → from_list says around n closure p ≡ from_list says around m closure p
  one_list n m one closure [] a b = refl
  one_list n m one closure (x ∷ rest) a b = one_next n m one (followed says around (record closure { pending = rest }) x.0 x.1) a b

  one : (n m : ℕ) → One n m
  one zero m closure a b = sym (still m closure a)
  one (suc n) zero closure a b = still (suc n) closure b
  one (suc n) (suc m) closure a b = one_list n m (one n m) closure closure.pending a b

pub one_law : OneClosureLaw
one_law says around closure a b x y = sym x.1 ∙ one says around x.0 y.0 closure (subst IsDone (sym x.1) x.2) (subst IsDone (sym y.1) y.2) ∙ y.1

-- Over an honest store a load finds what its files say.

module _ {honest : Type 0} (truly : honest) (format : C.Format) (before later : ℕ) (old : C.LoadingWorld) where
  abbrev a : C.Around
  a = around old

  abbrev answers : C.Answers
  answers = C.told honest format old.files before later

  module _ (found : List C.Found) (name : List ℕ) where
    abbrev by_tests : ModuleFile → Bool → Bool → Reading
    by_tests read s t = cond s (cond t (Read read) (Refused NoRoom)) (Refused BadFile)

    abbrev by_name : ModuleFile → Option C.Referent → Reading
    by_name read p = elim p [ Some referent ↦ C.Meant referent | None ↦ by_tests read (C.are_sound read) (C.nat_lt (length found) a.free) ]

    abbrev reading_of : OrRefused ModuleFile → Reading
    reading_of said = elim said [ Err refusal ↦ Refused refusal | Ok read ↦ by_name read (meant a found read.tables.name) ]

    said_so : (p : Option (List ℕ)) → reading format.says (record a { file = λ name. p }) found [] ≡ reading_of (C.said_by format.says p)
    said_so None = refl
    said_so (Some bytes) = refl

    -- what is told of a file, where it says this
    abbrev said : OrRefused ModuleFile
    said = C.said_by format.says (C.file_of old.files name)

    refused : (s : OrRefused ModuleFile) (refusal : LoadRefusal) → C.HasTables s (Err refusal) → reading_of s ≡ Refused refusal
    refused (Err known) refusal e = ap Refused e
    refused (Ok read) refusal h = absurd h

    named_so : (s : OrRefused ModuleFile) (t : C.Tables) (p : Option Referent) → meant a found t.name ≡ p → C.HasTables s (Ok t) → (read : ModuleFile) × (s ≡ Ok read) × (meant a found read.tables.name ≡ p)
    named_so (Err refusal) t p e h = absurd h
    named_so (Ok read) t p e same = (read, refl, ap (λ (t : C.Tables). meant a found t.name) same ∙ e)

    new_so : (read : ModuleFile) → said ≡ Ok read → meant a found read.tables.name ≡ None → (s t : Bool) → MatchResult said (λ read. are_sound read ≡ s) (λ refusal. ⊥) → nat_lt (length found) a.free ≡ t → reading_of said ≡ by_tests read s t
    new_so read e none s t sound few =
        let are : are_sound read ≡ s = subst (λ r. MatchResult r (λ read. are_sound read ≡ s) (λ refusal. ⊥)) e sound in
        ap reading_of e ∙ ap (by_name read) none ∙ (λ i. by_tests read (are i) (few i))

    reads_so : (r : Reading) → ReadsFile answers a found name r → reading_of said ≡ r
    reads_so (Refused refusal) (inl says) = refused said refusal (says.1 truly)
    reads_so (Refused refusal) (inr (t, says, none, how)) = let r = named_so said t None none (says.1 truly) in elim how [
      | inl (sound, e) ↦ new_so r.0 r.1 r.2 false (nat_lt (length found) a.free) (sound truly) refl ∙ ap Refused (sym e)
      | inr (sound, le, e) ↦ new_so r.0 r.1 r.2 true false (sound truly) (le-ltb (length found) a.free le) ∙ ap Refused (sym e)
    ]
    reads_so (C.Meant referent) (t, says, e) = let r = named_so said t (Some referent) e (says.1 truly) in ap reading_of r.1 ∙ ap (by_name r.0) r.2
    reads_so (C.Read read) (says, none, sound, held, few) = new_so read (held.2 truly) none true true (sound truly) (lt-ltb (length found) a.free few)

    reads : (r : Reading) → C.ReadsFile answers a found name r → reading format.says a found name ≡ r
    reads r h = said_so (C.file_of old.files name) ∙ reads_so r h

  -- so each reference leads where they say
  closes : (n : ℕ) (closure : Closure) (outcome : OrRefused Closure) → ClosesFrom answers a n closure outcome → (after format.says a n closure ≡ outcome) × IsDone outcome
  closes zero closure outcome (none, e) = (sym e, subst IsDone (sym e) none)
  closes (suc n) closure outcome (place, name, rest, e, more) = let r = follows (λ c. closes n c outcome) (meant a closure.found name) more in (ap (from_list format.says a n closure) e ∙ r.0, r.1)
    where
      here : Closure
      here = record closure { pending = rest }

      Ends : OrRefused Closure → Type 0
      Ends r = (from_next format.says a n r ≡ outcome) × IsDone outcome

      ends : ((c : Closure) → ClosesFrom answers a n c outcome → Ends (Ok c)) → (r : OrRefused Closure) → MatchResult r (λ c. ClosesFrom answers a n c outcome) (λ refusal. outcome ≡ Err refusal) → Ends r
      ends go (Ok c) f = go c f
      ends go (Err refusal) e = (sym e, subst IsDone (sym e) tt)

      follows : ((c : Closure) → ClosesFrom answers a n c outcome → Ends (Ok c)) → (p : Option Referent)
          → C.MatchOption p ((r : Reading) × ReadsFile answers a closure.found (dll name) r × MatchResult (follow here place name r) (λ c. ClosesFrom answers a n c outcome) (λ refusal. outcome ≡ Err refusal))
          (λ referent. ClosesFrom answers a n (with_bound here place referent) outcome)
          → Ends (elim p [ Some referent ↦ Ok (with_bound here place referent) | None ↦ follow here place name (reading format.says a closure.found (dll name)) ])
      follows go (Some referent) f = go (with_bound here place referent) f
      follows go None (r, h, f) = subst (λ x. Ends (follow here place name x)) (sym (reads closure.found (dll name) r h)) (ends go (follow here place name r) f)

pub files_law : (honest : Type 0) → ClosureFilesLaw honest
files_law honest format before later old count closure outcome truly f = let c = closes truly format before later old _ _ _ f in (count, c.0, c.1)
