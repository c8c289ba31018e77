-- Lemmas on commands and their targets.
use Rattle.w16_script.proofs.Common.{◌≡◌, ℕ, List, ◌∷◌, Option, Some, None, ap, ◌∙◌, false, Name, words_of, GoesTo, Makes, Said, Reads, is_silent, text_of}
use Rattle.w16_loading.specs.Families.{AnyCommand}
use Rattle.w16_script.proofs.ReadingLemmas.{name-one, behind_one}

-- neither a register and an equals sign nor a name
pub no_head : (word behind : _) → ((r : ℕ) (rest : List (List ℕ)) → GoesTo (word ∷ behind) (Some r) rest → ⊥) → ((name : Name) → word ≡ text_of name → ⊥) → (target : Option ℕ) (name : Name) (rest : List (List ℕ)) → GoesTo (word ∷ behind) target (text_of name ∷ rest) → ⊥
no_head word behind loose none None name rest goes = none name (cc)
no_head word behind loose none (Some r) name rest goes = loose r (text_of name ∷ rest) goes

-- it is bad if they make none
pub Reads-unmade : (registers line words rest target name : _) → words_of line ≡ words → is_silent words ≡ false → GoesTo words target (text_of name ∷ rest) → ((command : AnyCommand) → Makes registers name rest command → ⊥) → Reads registers line Said.Bad
Reads-unmade registers line words rest target name is loud goes none = (
  ap is_silent is ∙ loud,
  λ other command spells.
      let there = rw is at spells.goes in
      let (targets, texts, rests) = behind_one words target other name spells.name rest spells.rest goes there in
      none command (rw (name-one name spells.name texts, rests) spells.makes),
)
