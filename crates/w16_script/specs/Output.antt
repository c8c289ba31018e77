-- What lines print: the replies of some run of the machine.
use Rattle.std.specs.Prelude.{◌≡◌, ℕ, Bool, not, List, [], ◌∷◌, ◌++◌, Option}
use Rattle.std.specs.Io.KnownBytes.{Appends}
use Rattle.w16_model.specs.declared.Item.{Item}
use Rattle.w16_machine.specs.{Law.IsWorldWalk, World.World, Machine.Event, Machine.Steps, Machine.Run}
use Rattle.w16_writes.specs.Promises.{Promises}
use Rattle.w16_script.specs.{Registers.stored_all, State.State, Words.words_of, Grammar.Said, Grammar.Reads, Grammar.is_silent, Grammar.target_of, Printed.reply_text, Printed.walk_text, Printed.error_text}
use Rattle.w16_loading.specs.Replies as replies

-- what is printed for a reply, in the world that its command left: for `Walked` the walk of that world
abbrev pub Shows : World → replies.Reply → List ℕ → Type 0
Shows world (replies.Reply.Walked count) output = (items : List Item) × IsWorldWalk world items × (output ≡ walk_text items)
Shows world reply output = output ≡ reply_text reply

-- what a line that says this prints, where its command, if it is one, is the only event
abbrev pub PrintsLine : Said → List Event → List ℕ → Type 0
PrintsLine Said.Silent [] output = output ≡ []
PrintsLine Said.Bad [] output = output ≡ error_text
PrintsLine (Said.Says target command) (event ∷ []) output = (event.command ≡ command) × Shows event.after event.reply output
PrintsLine said events output = ⊥

-- What lines print, where the events are their commands in order. The registers are old before the lines and new
-- after them, and each line is read with those that the replies before it left.
abbrev pub Prints : List ℕ → List (List ℕ) → List Event → List ℕ → List ℕ → Type 0
Prints old [] events output new = (events ≡ []) × (output ≡ []) × (new ≡ old)
Prints old (line ∷ lines) events output new =
    (said : Said) × (first : List Event) × (more : List Event) × (front : List ℕ) × (back : List ℕ)
    × Reads old line said × PrintsLine said first front × (events ≡ first ++ more) × (output ≡ front ++ back)
    × Prints (stored_all old (target_of said) first) lines more back new

-- Lines were run, from the state old to new, and what they print was written: held and holds are what the
-- writer had before and has now, where it tells that. The run keeps what every run promises.
pub record RunsLines (steps : Steps) (held : Option (List ℕ)) (old : State) (lines : List (List ℕ)) (holds : Option (List ℕ)) (new : State) : Type 0 where
  pub events : List Event
  pub output : List ℕ
  pub run : Run steps old.world events new.world
  pub prints : Prints old.registers lines events output new.registers
  pub appends : Appends held holds output
  pub promises : Promises old.world events

-- whether a line has a reply
abbrev pub has_reply : List ℕ → Bool
has_reply line = not (is_silent (words_of line))
