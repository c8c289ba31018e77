-- Lemmas on whole runs.
use Rattle.w16_script.proofs
use proofs.Common as C
use proofs.Common.{◌≡◌, ℕ, ◌+◌, ◌≤◌, ◌<◌, List, [], ◌∷◌, ◌++◌, length, map, take, refl, ap, ◌∙◌, subst, arith, inl, inr, Bool, true, ◌==◌, Consumes, Ended, Read, Write, Memory, state_with, start, without_cr, last_of, fresh, IsWithinLimits, FailsAt, Feeds, Stops, FailsLater, Fails}
use proofs.{RunLemmas.RunsLines-none, RunLemmas.RunsLines-append, FeedLemmas.count-append}
use Rattle.std.proofs.lemmas.List.{length-map}

-- before the first byte no limit is passed
pub fresh-fits : IsWithinLimits fresh
fresh-fits = record { replies = omega arith; lines = omega arith; last = λ filled. omega arith; short = omega arith }

-- What a test of the length says.

pub empty-from : (xs ys : List ℕ) (test : Bool) → test ≡ (length xs == 0) → test ≡ true → xs ≡ ys → ys ≡ []
empty-from xs [] test h e same = refl
empty-from xs (y ∷ ys) test h e same = grind (arith, C.nat_tests)

-- The last line.

length-last_of : (line n : _) → (0 < length line → n < 1000000) → n ≤ 1000000 → n + length (last_of line) ≤ 1000000
length-last_of line n h k = grind (arith, C.nat_tests)

-- there is none
pub Finishes-none : {steps a v : _} {s : C.Progress} {counts : Ended} → s.line ≡ [] → counts.lines ≡ s.lines → counts.replies ≡ s.replies → C.Finishes steps a s v a v counts
Finishes-none empty lines replies = record { runs = rw empty RunsLines-none; lines = rw empty (omega (arith, lines)); replies = rw empty (omega (arith, replies)) }

-- the text was fed, and its end came
pub Script-from : {steps a b c v x w registers text counts : _} {t : C.Progress} → Feeds steps a fresh (start v) text b t w → IsWithinLimits t → C.Finishes steps b t w c (state_with x registers) counts → C.Script steps a v text c x counts
Script-from {registers} {t} p small q =
    let bound = length-last_of t.line t.lines small.last small.lines in
    let joined = C.length-append (map without_cr p.raw) (last_of t.line) in
    let mapped = length-map p.raw without_cr in
    let (raw, rest) = p.parts tt in
    record {
      raw = p.raw;
      rest = t.line;
      whole = p.whole;
      parts = (raw, (rest, small.short));
      few = omega (arith, bound, joined, mapped, p.lines);
      registers = registers;
      runs = RunsLines-append p.runs q.runs;
      lines = omega (arith, q.lines, p.lines, joined, mapped);
      replies = omega (arith, q.replies, p.replies, count-append C.has_reply (map without_cr p.raw) (last_of t.line));
    }

-- Faults.

-- a piece met a fault
pub FailsLater-piece : (steps left a b c t v x w registers text piece fault : _) → Feeds steps a fresh (start v) text b t w → IsWithinLimits t → length piece ≤ 65536 → Stops steps b t w piece fault c (state_with x registers)
    → FailsLater steps left a v (text ++ piece) fault c x
FailsLater-piece steps left a b c t v x w registers text piece fault p fits short q =
    let stop : (f : C.RunFault) → Stops steps b t w piece f c (state_with x registers) → C.StopsWithin steps a v (text ++ piece) f c x =
    λ f q. record { before = text; piece = piece; pieces = refl; short = short; between = b; here = t; state = w; feeds = p; fits = fits; registers = registers; stops = q } in
    elim fault as (λ f. Stops steps b t w piece f c (state_with x registers) → FailsLater steps left a v (text ++ piece) f c x) [
      | Read ↦ λ q. absurd q.stops.2
      | Write ↦ λ q. inl (stop Write q)
      | Memory ↦ λ q. inl (stop Memory q)
      | C.TooLong ↦ stop C.TooLong
    ] q

-- the last line met a fault
pub FailsLater-last : (steps left a b c t v x w registers text fault : _) → C.IsAtEnd left → Feeds steps a fresh (start v) text b t w → IsWithinLimits t → 0 < length t.line → FailsAt steps b w t.line fault c (state_with x registers)
    → FailsLater steps left a v text fault c x
FailsLater-last steps left a b c t v x w registers text fault end p small filled q =
    let stop : (f : C.RunFault) → FailsAt steps b w t.line f c (state_with x registers) → C.StopsLast steps left a v text f c x =
    λ f q. record { at_end = end; between = b; here = t; state = w; feeds = p; fits = small; filled = filled; registers = registers; fails = q } in
    elim fault as (λ f. FailsAt steps b w t.line f c (state_with x registers) → FailsLater steps left a v text f c x) [
      | Write ↦ λ q. inr (inl (stop Write q))
      | Memory ↦ λ q. inr (stop Memory q)
      | other ↦ λ q. absurd q
    ] q

-- any fault after the start is one of the run
pub Fails-later : (steps left held old text fault holds new : _) → FailsLater steps left held old text fault holds new → Fails steps left held old text fault holds new
Fails-later steps left held old text fault holds new h = grind arith

-- a read of nothing consumed nothing
pub Consumes-none : (a b c text bytes : _) (n : ℕ) → n ≡ 0 → Consumes a b text → Consumes b c (take n bytes) → Consumes a c text
Consumes-none a b c text bytes n none p q =
    subst (Consumes a c) (ap (λ k. text ++ take k bytes) none ∙ C.append-nil text) (C.Consumes-trans a b c text (take n bytes) p q)
