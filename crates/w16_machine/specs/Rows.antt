-- The table of the commands, with a row for each name: its family, how it is written, what kinds of arguments it has, the command that it makes of them, the
-- kind of its reply, and whether it may take bytes of an object of the global heap.
use Rattle.std.specs.Prelude.{◌≡◌, ℕ, suc, Bool, true, false, List, [], ◌∷◌, codes, Option, Some}
use Rattle.std.specs.List.{slice_get}
use Rattle.w16_loading.specs.Families.{AnyCommand}
use Rattle.w16_loading.specs.Families.AnyCommand.{any}
use Rattle.w16_model.specs.Commands.{Command, Family}
use Rattle.w16_model.specs.Commands.Family.{OfHandles, OfResizes, OfFar, OfModules, OfResources, OfLocals}
use Rattle.w16_model.specs.Commands.Command.{GlobalAlloc, GlobalFree, GlobalLock, GlobalUnlock, GlobalSize, GlobalFlags, GlobalHandle, GetSelectorBase, GetSelectorLimit, GlobalCompact, GlobalLRUNewest, GlobalLRUOldest, Moved, Walk, GlobalReAlloc, GlobalDiscard}
use Rattle.w16_model.specs.Commands.Command.{Read, Write, Fill, Builtin, LoadModule, LoadLibrary, FreeLibrary, FreeModule, GetModuleHandle, GetModuleUsage, GetProcAddress, FindResource, LoadResource, LockResource, FreeResource, SizeofResource}
use Rattle.w16_model.specs.Commands.Command.{LocalInit, LocalAlloc, LocalReAlloc, LocalDiscard, LocalFree, LocalLock, LocalUnlock, LocalSize, LocalFlags, LocalHandle, LocalCompact, DS}
use Rattle.w16_machine.specs.{World.World, Machine.Step, declared.name.Name.Name, declared.name.Parameter.Parameter, declared.access.TheConstants.MOST_READ, declared.access.TheConstants.MOST_FILLED}
use Rattle.w16_machine.specs.declared.name.Name.TheVariants as name
use Rattle.w16_machine.specs.declared.name.Parameter.TheVariants as p
use Rattle.w16_loading.specs.{File.Format, Replies.Reply}
use Rattle.w16_loading.specs.Replies as replies
use Rattle.w16_model.specs.Commands as commands

-- An argument as a value, and the value at a place in a list of them: 0, or no bytes and no text, where there is no such argument.

pub data Argument : Type 0 where
  Word : (value : ℕ) → Argument
  Dword : (value : ℕ) → Argument
  Count : (value : ℕ) → Argument
  Byte : (value : ℕ) → Argument
  Bytes : (bytes : List ℕ) → Argument
  Text : (text : List ℕ) → Argument
  Label : (label : commands.Label) → Argument

abbrev pub word_of : Option Argument → ℕ
word_of (Some (Word n)) = n
word_of other = 0

abbrev pub dword_of : Option Argument → ℕ
dword_of (Some (Dword n)) = n
dword_of other = 0

abbrev pub count_of : Option Argument → ℕ
count_of (Some (Count n)) = n
count_of other = 0

abbrev pub byte_of : Option Argument → ℕ
byte_of (Some (Byte n)) = n
byte_of other = 0

abbrev pub bytes_of : Option Argument → List ℕ
bytes_of (Some (Bytes bytes)) = bytes
bytes_of other = []

abbrev pub text_in : Option Argument → List ℕ
text_in (Some (Text text)) = text
text_in other = []

abbrev pub label_in : Option Argument → commands.Label
label_in (Some (Label label)) = label
label_in other = commands.Label.Number 0

abbrev pub word : List Argument → ℕ → ℕ
word arguments place = word_of (slice_get arguments place)

abbrev pub dword : List Argument → ℕ → ℕ
dword arguments place = dword_of (slice_get arguments place)

abbrev pub count : List Argument → ℕ → ℕ
count arguments place = count_of (slice_get arguments place)

abbrev pub byte : List Argument → ℕ → ℕ
byte arguments place = byte_of (slice_get arguments place)

abbrev pub bytes : List Argument → ℕ → List ℕ
bytes arguments place = bytes_of (slice_get arguments place)

abbrev pub text : List Argument → ℕ → List ℕ
text arguments place = text_in (slice_get arguments place)

abbrev pub label : List Argument → ℕ → commands.Label
label arguments place = label_in (slice_get arguments place)

-- what a parameter's argument is
abbrev pub ValueOf : Parameter → Type 0
ValueOf p.Bytes = List ℕ
ValueOf p.Text = List ℕ
ValueOf p.Label = commands.Label
ValueOf other = ℕ

abbrev pub value_at : (parameter : Parameter) → List Argument → ℕ → ValueOf parameter
value_at p.Word arguments place = word arguments place
value_at p.Dword arguments place = dword arguments place
value_at (p.Count most) arguments place = count arguments place
value_at p.Byte arguments place = byte arguments place
value_at p.Bytes arguments place = bytes arguments place
value_at p.Text arguments place = text arguments place
value_at p.Label arguments place = label arguments place

-- what makes a command of a family of arguments for these parameters
abbrev pub Maker : Type 0 → List Parameter → Type 0
Maker Family [] = Family
Maker Family (parameter ∷ parameters) = ValueOf parameter → Maker Family parameters

-- the command that is made of the arguments from a place on
abbrev pub made : (Family : Type 0) (parameters : List Parameter) → Maker Family parameters → List Argument → ℕ → Family
made Family [] command arguments place = command
made Family (parameter ∷ parameters) maker arguments place = made Family parameters (maker (value_at parameter arguments place)) arguments (suc place)

-- The kinds of replies: a handle, a name, an offset, a size, flags or a count in a word; a far pointer, a size or an address in a double word; one of these,
-- unless a read of a file fails; bytes; the heap's walk; or only that it is done.
pub data ReplyKind : Type 0 where
  AWord : ReplyKind
  ADword : ReplyKind
  FetchedWord : ReplyKind
  FetchedDword : ReplyKind
  SomeBytes : ReplyKind
  AWalk : ReplyKind
  OnlyDone : ReplyKind

-- A reply is of a kind. A store may fail a fetch, and an access may meet a fault.
abbrev pub IsOfKind : ReplyKind → Reply → Type 0
IsOfKind AWord (replies.Reply.Word n) = Unit {0}
IsOfKind ADword (replies.Reply.Dword n) = Unit {0}
IsOfKind FetchedWord (replies.Reply.Word n) = Unit {0}
IsOfKind FetchedWord (replies.Reply.Failed fault) = Unit {0}
IsOfKind FetchedDword (replies.Reply.Dword n) = Unit {0}
IsOfKind FetchedDword (replies.Reply.Failed fault) = Unit {0}
IsOfKind SomeBytes (replies.Reply.Bytes bytes) = Unit {0}
IsOfKind SomeBytes (replies.Reply.Fault fault) = Unit {0}
IsOfKind SomeBytes (replies.Reply.Failed fault) = Unit {0}
IsOfKind AWalk (replies.Reply.Walked count) = Unit {0}
IsOfKind OnlyDone replies.Reply.Done = Unit {0}
IsOfKind OnlyDone (replies.Reply.Fault fault) = Unit {0}
IsOfKind OnlyDone (replies.Reply.Failed fault) = Unit {0}
IsOfKind kind reply = ⊥

-- Bytes are taken by a discard, which calls for room, loads and fetches may make, and where an object ends, by GlobalFree or with the last use of a
-- module or a resource; GlobalReAlloc also cuts an object, or gives it another slot.
pub record Row : Type 0 where
  pub text : List ℕ
  pub parameters : List Parameter
  pub command : List Argument → AnyCommand
  pub reply : ReplyKind
  pub takes : Bool

abbrev row : (family : Family) → List ℕ → (parameters : List Parameter) → Maker (Command family) parameters → ReplyKind → Bool → Row
row family written parameters maker reply takes =
    record { text = written; parameters = parameters; command = λ arguments. any family (made (Command family) parameters maker arguments 0); reply = reply; takes = takes }

-- A far access takes bytes only where it fetches, and a call on local heaps only where a heap grows. Both depend on the world, and take the local heaps
-- away themselves that lose their segments: so their rows say false.
abbrev pub row_of : Name → Row
row_of name.GlobalAlloc = row OfHandles (codes "GlobalAlloc") (p.Word ∷ p.Dword ∷ []) GlobalAlloc AWord true
row_of name.GlobalFree = row OfHandles (codes "GlobalFree") (p.Word ∷ []) GlobalFree AWord true
row_of name.GlobalLock = row OfHandles (codes "GlobalLock") (p.Word ∷ []) GlobalLock ADword false
row_of name.GlobalUnlock = row OfHandles (codes "GlobalUnlock") (p.Word ∷ []) GlobalUnlock AWord false
row_of name.GlobalSize = row OfHandles (codes "GlobalSize") (p.Word ∷ []) GlobalSize ADword false
row_of name.GlobalFlags = row OfHandles (codes "GlobalFlags") (p.Word ∷ []) GlobalFlags AWord false
row_of name.GlobalHandle = row OfHandles (codes "GlobalHandle") (p.Word ∷ []) GlobalHandle ADword false
row_of name.GetSelectorBase = row OfHandles (codes "GetSelectorBase") (p.Word ∷ []) GetSelectorBase ADword false
row_of name.GetSelectorLimit = row OfHandles (codes "GetSelectorLimit") (p.Word ∷ []) GetSelectorLimit ADword false
row_of name.GlobalCompact = row OfHandles (codes "GlobalCompact") (p.Dword ∷ []) GlobalCompact ADword true
row_of name.GlobalReAlloc = row OfResizes (codes "GlobalReAlloc") (p.Word ∷ p.Dword ∷ p.Word ∷ []) GlobalReAlloc AWord true
row_of name.GlobalDiscard = row OfResizes (codes "GlobalDiscard") (p.Word ∷ []) GlobalDiscard AWord true
row_of name.GlobalLRUNewest = row OfHandles (codes "GlobalLRUNewest") (p.Word ∷ []) GlobalLRUNewest AWord false
row_of name.GlobalLRUOldest = row OfHandles (codes "GlobalLRUOldest") (p.Word ∷ []) GlobalLRUOldest AWord false
row_of name.Moved = row OfHandles (codes "Moved") [] Moved ADword false
row_of name.Walk = row OfHandles (codes "Walk") [] Walk AWalk false
row_of name.Read = row OfFar (codes "Read") (p.Dword ∷ p.Count MOST_READ ∷ []) Read SomeBytes false
row_of name.Write = row OfFar (codes "Write") (p.Dword ∷ p.Bytes ∷ []) Write OnlyDone false
row_of name.Fill = row OfFar (codes "Fill") (p.Dword ∷ p.Count MOST_FILLED ∷ p.Byte ∷ []) Fill OnlyDone false
row_of name.Builtin = row OfModules (codes "Builtin") (p.Text ∷ []) Builtin AWord false
row_of name.LoadModule = row OfModules (codes "LoadModule") (p.Text ∷ []) LoadModule FetchedWord true
row_of name.LoadLibrary = row OfModules (codes "LoadLibrary") (p.Text ∷ []) LoadLibrary FetchedWord true
row_of name.FreeLibrary = row OfModules (codes "FreeLibrary") (p.Word ∷ []) FreeLibrary AWord true
row_of name.FreeModule = row OfModules (codes "FreeModule") (p.Word ∷ []) FreeModule AWord true
row_of name.GetModuleHandle = row OfModules (codes "GetModuleHandle") (p.Text ∷ []) GetModuleHandle AWord false
row_of name.GetModuleUsage = row OfModules (codes "GetModuleUsage") (p.Word ∷ []) GetModuleUsage AWord false
row_of name.GetProcAddress = row OfModules (codes "GetProcAddress") (p.Word ∷ p.Label ∷ []) GetProcAddress ADword false
row_of name.FindResource = row OfResources (codes "FindResource") (p.Word ∷ p.Label ∷ p.Label ∷ []) FindResource AWord false
row_of name.LoadResource = row OfResources (codes "LoadResource") (p.Word ∷ p.Word ∷ []) LoadResource FetchedWord true
row_of name.SizeofResource = row OfResources (codes "SizeofResource") (p.Word ∷ p.Word ∷ []) SizeofResource ADword false
row_of name.LockResource = row OfResources (codes "LockResource") (p.Word ∷ []) LockResource FetchedDword true
row_of name.FreeResource = row OfResources (codes "FreeResource") (p.Word ∷ []) FreeResource AWord true
row_of name.LocalInit = row OfLocals (codes "LocalInit") (p.Word ∷ p.Word ∷ p.Dword ∷ []) LocalInit AWord false
row_of name.LocalAlloc = row OfLocals (codes "LocalAlloc") (p.Word ∷ p.Word ∷ []) LocalAlloc AWord false
row_of name.LocalReAlloc = row OfLocals (codes "LocalReAlloc") (p.Word ∷ p.Word ∷ p.Word ∷ []) LocalReAlloc AWord false
row_of name.LocalDiscard = row OfLocals (codes "LocalDiscard") (p.Word ∷ []) LocalDiscard AWord false
row_of name.LocalFree = row OfLocals (codes "LocalFree") (p.Word ∷ []) LocalFree AWord false
row_of name.LocalLock = row OfLocals (codes "LocalLock") (p.Word ∷ []) LocalLock AWord false
row_of name.LocalUnlock = row OfLocals (codes "LocalUnlock") (p.Word ∷ []) LocalUnlock AWord false
row_of name.LocalSize = row OfLocals (codes "LocalSize") (p.Word ∷ []) LocalSize AWord false
row_of name.LocalFlags = row OfLocals (codes "LocalFlags") (p.Word ∷ []) LocalFlags AWord false
row_of name.LocalHandle = row OfLocals (codes "LocalHandle") (p.Word ∷ []) LocalHandle AWord false
row_of name.LocalCompact = row OfLocals (codes "LocalCompact") (p.Word ∷ []) LocalCompact AWord false
row_of name.DS = row OfLocals (codes "DS") (p.Word ∷ []) DS OnlyDone false

-- the name of a command
abbrev pub name_of : AnyCommand → Name
name_of (any _ (GlobalAlloc _ _)) = name.GlobalAlloc
name_of (any _ (GlobalFree _)) = name.GlobalFree
name_of (any _ (GlobalLock _)) = name.GlobalLock
name_of (any _ (GlobalUnlock _)) = name.GlobalUnlock
name_of (any _ (GlobalSize _)) = name.GlobalSize
name_of (any _ (GlobalFlags _)) = name.GlobalFlags
name_of (any _ (GlobalHandle _)) = name.GlobalHandle
name_of (any _ (GetSelectorBase _)) = name.GetSelectorBase
name_of (any _ (GetSelectorLimit _)) = name.GetSelectorLimit
name_of (any _ (GlobalCompact _)) = name.GlobalCompact
name_of (any _ (GlobalLRUNewest _)) = name.GlobalLRUNewest
name_of (any _ (GlobalLRUOldest _)) = name.GlobalLRUOldest
name_of (any _ Moved) = name.Moved
name_of (any _ Walk) = name.Walk
name_of (any _ (GlobalReAlloc _ _ _)) = name.GlobalReAlloc
name_of (any _ (GlobalDiscard _)) = name.GlobalDiscard
name_of (any _ (Read _ _)) = name.Read
name_of (any _ (Write _ _)) = name.Write
name_of (any _ (Fill _ _ _)) = name.Fill
name_of (any _ (Builtin _)) = name.Builtin
name_of (any _ (LoadModule _)) = name.LoadModule
name_of (any _ (LoadLibrary _)) = name.LoadLibrary
name_of (any _ (FreeLibrary _)) = name.FreeLibrary
name_of (any _ (FreeModule _)) = name.FreeModule
name_of (any _ (GetModuleHandle _)) = name.GetModuleHandle
name_of (any _ (GetModuleUsage _)) = name.GetModuleUsage
name_of (any _ (GetProcAddress _ _)) = name.GetProcAddress
name_of (any _ (FindResource _ _ _)) = name.FindResource
name_of (any _ (LoadResource _ _)) = name.LoadResource
name_of (any _ (LockResource _)) = name.LockResource
name_of (any _ (FreeResource _)) = name.FreeResource
name_of (any _ (SizeofResource _ _)) = name.SizeofResource
name_of (any _ (LocalInit _ _ _)) = name.LocalInit
name_of (any _ (LocalAlloc _ _)) = name.LocalAlloc
name_of (any _ (LocalReAlloc _ _ _)) = name.LocalReAlloc
name_of (any _ (LocalDiscard _)) = name.LocalDiscard
name_of (any _ (LocalFree _)) = name.LocalFree
name_of (any _ (LocalLock _)) = name.LocalLock
name_of (any _ (LocalUnlock _)) = name.LocalUnlock
name_of (any _ (LocalSize _)) = name.LocalSize
name_of (any _ (LocalFlags _)) = name.LocalFlags
name_of (any _ (LocalHandle _)) = name.LocalHandle
name_of (any _ (LocalCompact _)) = name.LocalCompact
name_of (any _ (DS _)) = name.DS

abbrev pub may_take_bytes : AnyCommand → Bool
may_take_bytes command = (row_of (name_of command)).takes

abbrev pub reply_kind : AnyCommand → ReplyKind
reply_kind command = (row_of (name_of command)).reply

-- Each step's reply is of the kind that its command's row has.
abbrev pub ReplyKindLaw : (honest : Type 0) → Type 0
ReplyKindLaw honest = (format : Format) (old new : World) (command : AnyCommand) (reply : Reply) → Step honest format old command reply new → IsOfKind (reply_kind command) reply
