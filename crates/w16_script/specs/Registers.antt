-- The registers of a script.
use Rattle.std.specs.Prelude.{◌≡◌, ℕ, ◌<◌, List, [], ◌∷◌, replicate, slice_set, Option, Some}
use Rattle.std.specs.Fmt.{decimal}
use Rattle.w16_loading.specs.Replies as replies
use Rattle.w16_machine.specs.Machine.{Event}

-- before the first line
abbrev pub zeros : List ℕ
zeros = replicate 100 0

-- the name of a register: `r` and its number in decimal, from `r0` to `r99`
abbrev pub IsRegister : List ℕ → ℕ → Type 0
IsRegister word r = (r < 100) × (word ≡ 114 ∷ decimal r)

-- after a reply that goes to this register, if to any: a word or a double word is stored
abbrev pub stored : List ℕ → Option ℕ → replies.Reply → List ℕ
stored registers (Some r) (replies.Reply.Word n) = slice_set registers r n
stored registers (Some r) (replies.Reply.Dword n) = slice_set registers r n
stored registers target reply = registers

-- after the events of one line
abbrev pub stored_all : List ℕ → Option ℕ → List Event → List ℕ
stored_all registers target [] = registers
stored_all registers target (event ∷ events) = stored_all (stored registers target event.reply) target events
