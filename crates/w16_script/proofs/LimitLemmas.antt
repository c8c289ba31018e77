-- Lemmas on the limits of a script.
use Rattle.w16_script.proofs.Common as C
use Rattle.w16_script.proofs.Common.{◌≡◌, ◌≢◌, ℕ, suc, ◌+◌, ◌-◌, ◌<◌, List, [], ◌∷◌, ◌++◌, length, take, drop, sym, ap, ◌∙◌, inl, inr, refl, arith}

-- no byte of a line is an LF
HasNoLf-at : (bytes : List ℕ) (i : ℕ) → C.HasNoLf bytes → i < length bytes → C.get_or bytes i 0 ≢ 10
HasNoLf-at [] i h within = absurd (omega arith)
HasNoLf-at (x ∷ xs) i h within = grind (arith, HasNoLf-at xs)

-- after the last line that may be
pub Overflows-lines : (here : C.Progress) (bytes : List ℕ) → 0 < length bytes → C.IsWithinLimits here → here.lines ≡ 1000000 → C.Overflows here bytes
Overflows-lines here [] some fits full = absurd (omega arith)
Overflows-lines here (byte ∷ more) some fits full = record { front = []; byte = byte; more = more; whole = refl; fits = simp C.append-nil fits; over = inl full }

-- in a line that goes on too long
pub Overflows-line : (here : C.Progress) (bytes : List ℕ) → C.HasNoLf bytes → C.IsWithinLimits here → here.lines ≢ 1000000 → 4096 < length here.line + length bytes → C.Overflows here bytes
Overflows-line here bytes one_line fits few long =
    let n = 4096 - length here.line in
    let size = fits.short in
    let within : n < length bytes = omega (arith, size, long) in
    let full : length (here.line ++ take n bytes) ≡ 4096 = C.length-append here.line (take n bytes) ∙ omega (arith, size, within, C.length-take n bytes) in
    record {
      front = take n bytes;
      byte = C.get_or bytes n 0;
      more = drop (suc n) bytes;
      whole = sym (C.take-append-drop n bytes) ∙ ap (λ l. take n bytes ++ l) (C.drop-cons bytes n 0 within);
      fits = record { replies = fits.replies; lines = fits.lines; last = λ filled. omega (arith, few, fits.lines); short = omega (arith, full) };
      over = inr (full, HasNoLf-at bytes n one_line within);
    }

pub ruleset overflows = (Overflows-lines, Overflows-line)
