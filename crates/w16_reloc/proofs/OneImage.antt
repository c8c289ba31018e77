-- A sound segment has one image.
use Rattle.w16_reloc.proofs.Common as C
use Rattle.w16_reloc.proofs.Common.{◌≡◌, ℕ, List, [], ◌∷◌, refl, sym, ◌∙◌, Record, Added, Far, Names}

one_chain : (file : List ℕ) (at : ℕ) (a b : List ℕ) → C.IsChain file at a → C.IsChain file at b → a ≡ b
one_chain file at [] [] first second = refl
one_chain file at [] (t ∷ ts) first second = absurd (second.1 first)
one_chain file at (s ∷ ss) [] first second = absurd (first.1 second)
one_chain file at (s ∷ ss) (t ∷ ts) first second =
    let same : s ≡ t = sym first.0 ∙ second.0 in
    let rest = one_chain file (C.word_of file t) ss ts (rw (← same) first.2) second.2 in
    cc

one_name : (file : List ℕ) (r : Record) (a b : List ℕ) → Names file r a → Names file r b → a ≡ b
one_name file (C.Stored fixup) a b first second = one_chain file fixup.offset a b first second
one_name file (Added fixup) a b first second = first ∙ sym second
one_name file C.System a b first second = first ∙ sym second

one_naming : (file : List ℕ) (records : List Record) (a b : List (List ℕ)) → C.AreNamed file records a → C.AreNamed file records b → a ≡ b
one_naming file [] [] [] first second = refl
one_naming file [] [] (t ∷ ts) first second = absurd second
one_naming file [] (s ∷ ss) b first second = absurd first
one_naming file (r ∷ rs) [] b first second = absurd first
one_naming file (r ∷ rs) (s ∷ ss) [] first second = absurd second
one_naming file (r ∷ rs) (s ∷ ss) (t ∷ ts) first second =
    let here = one_name file r s t first.0 second.0 in
    let rest = one_naming file rs ss ts first.1 second.1 in
    cc

pub one_image : (file : List ℕ) (records : List Record) (values : List Far) (named others : List (List ℕ)) (first second : List ℕ) → C.IsSound file records named → C.IsSound file records others
    → C.IsImage file records values named first → C.IsImage file records values others second → C.length first ≡ C.length second → first ≡ second
one_image file records values named others first second a b one two same =
    let naming = one_naming file records named others a.0 b.0 in
    let each : (o : ℕ) → C.get_or first o 0 ≡ C.get_or second o 0 = λ o. one o ∙ sym ((rw (← naming) at two) o) in
    C.same_number_lists first second same (λ k lt. each k)
