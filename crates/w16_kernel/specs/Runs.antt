-- Calls and replies as the machine sees them.
use Rattle.w16_kernel.specs
use Rattle.std.specs.Prelude.{◌≤◌, ℕ, Bool, true, false, List, length, IsSome}
use Rattle.w16_model.specs.Commands.{Command}
use Rattle.w16_loading.specs.Families.{AnyCommand}
use Rattle.w16_model.specs.Commands.Family.{OfHandles, OfResizes, OfFar, OfModules, OfResources, OfLocals}
use Rattle.w16_model.specs.Commands.Command.{GlobalAlloc, GlobalFree, GlobalLock, GlobalUnlock, GlobalSize, GlobalFlags, GlobalHandle, GetSelectorBase, GetSelectorLimit, GlobalCompact}
use Rattle.w16_model.specs.Commands.Command.{GlobalLRUNewest, GlobalLRUOldest, Moved, Walk, GlobalReAlloc, GlobalDiscard, Read, Write, Fill, Builtin, LoadModule, LoadLibrary, FreeLibrary}
use Rattle.w16_model.specs.Commands.Command.{FreeModule, GetModuleHandle, GetModuleUsage, GetProcAddress, FindResource, LoadResource, LockResource, FreeResource, SizeofResource, LocalInit}
use Rattle.w16_model.specs.Commands.Command.{LocalAlloc, LocalReAlloc, LocalDiscard, LocalFree, LocalLock, LocalUnlock, LocalSize, LocalFlags, LocalHandle, LocalCompact, DS}
use Rattle.w16_machine.specs.{World.World, Local.beginning}
use Rattle.w16_machine.specs.declared.access.TheConstants.{MOST_READ, MOST_FILLED}
use specs.{declared.call.Call.Call, declared.call.Label.Label, declared.call.Reply.Reply, declared.call.Answer.Answer, declared.far.Written.Written}
use Rattle.w16_model.specs.Bytes as far_bytes
use Rattle.w16_loading.specs.Replies as printed
use Rattle.w16_model.specs.Commands as commands
use Rattle.w16_kernel.specs.declared.call.Call.TheVariants as calls
use Rattle.w16_kernel.specs.declared.call.Label.TheVariants as labels
use Rattle.w16_kernel.specs.declared.call.Reply.TheVariants as replies
use Rattle.w16_kernel.specs.declared.call.Answer.TheVariants as answers
use Rattle.w16_kernel.specs.declared.far.Written.TheVariants as written
use Rattle.w16_loading.specs.Families.AnyCommand.{any}

-- what a label is
abbrev pub label_of : Label → commands.Label
label_of (labels.Number n) = commands.Label.Number n
label_of (labels.Text text) = commands.Label.Text text.now

-- a load of a file, by LoadModule or by LoadLibrary
abbrev pub load_command : Bool → List ℕ → Command OfModules
load_command true file = LoadModule file
load_command false file = LoadLibrary file

-- the command of a call
abbrev pub command_of : Call → AnyCommand
command_of (calls.GlobalAlloc flags size) = (any _ (GlobalAlloc flags.0 size))
command_of (calls.GlobalFree handle) = (any _ (GlobalFree handle))
command_of (calls.GlobalLock handle) = (any _ (GlobalLock handle))
command_of (calls.GlobalUnlock handle) = (any _ (GlobalUnlock handle))
command_of (calls.GlobalSize handle) = (any _ (GlobalSize handle))
command_of (calls.GlobalFlags handle) = (any _ (GlobalFlags handle))
command_of (calls.GlobalHandle selector) = (any _ (GlobalHandle selector))
command_of (calls.GetSelectorBase selector) = (any _ (GetSelectorBase selector))
command_of (calls.GetSelectorLimit selector) = (any _ (GetSelectorLimit selector))
command_of (calls.GlobalCompact size) = (any _ (GlobalCompact size))
command_of (calls.GlobalReAlloc handle size flags) = (any _ (GlobalReAlloc handle size flags.0))
command_of (calls.GlobalDiscard handle) = (any _ (GlobalDiscard handle))
command_of (calls.GlobalLRUNewest handle) = (any _ (GlobalLRUNewest handle))
command_of (calls.GlobalLRUOldest handle) = (any _ (GlobalLRUOldest handle))
command_of calls.Moved = (any _ Moved)
command_of calls.Walk = (any _ Walk)
command_of (calls.Read pointer count) = (any _ (Read pointer count))
command_of (calls.Write pointer bytes) = (any _ (Write pointer bytes.now))
command_of (calls.Fill pointer count byte) = (any _ (Fill pointer count byte))
command_of (calls.LocalInit selector start end) = (any _ (LocalInit selector start end))
command_of (calls.LocalAlloc flags size) = (any _ (LocalAlloc flags.0 size))
command_of (calls.LocalReAlloc name size flags) = (any _ (LocalReAlloc name size flags.0))
command_of (calls.LocalDiscard name) = (any _ (LocalDiscard name))
command_of (calls.LocalFree name) = (any _ (LocalFree name))
command_of (calls.LocalLock name) = (any _ (LocalLock name))
command_of (calls.LocalUnlock name) = (any _ (LocalUnlock name))
command_of (calls.LocalSize name) = (any _ (LocalSize name))
command_of (calls.LocalFlags name) = (any _ (LocalFlags name))
command_of (calls.LocalHandle pointer) = (any _ (LocalHandle pointer))
command_of (calls.LocalCompact size) = (any _ (LocalCompact size))
command_of (calls.DS selector) = (any _ (DS selector))
command_of (calls.Builtin name) = (any _ (Builtin name.now))
command_of (calls.LoadModule file) = (any _ (LoadModule file.now))
command_of (calls.LoadLibrary file) = (any _ (LoadLibrary file.now))
command_of (calls.FreeLibrary handle) = (any _ (FreeLibrary handle))
command_of (calls.FreeModule handle) = (any _ (FreeModule handle))
command_of (calls.GetModuleHandle name) = (any _ (GetModuleHandle name.now))
command_of (calls.GetModuleUsage handle) = (any _ (GetModuleUsage handle))
command_of (calls.GetProcAddress handle label) = (any _ (GetProcAddress handle (label_of label)))
command_of (calls.FindResource handle name kind) = (any _ (FindResource handle (label_of name) (label_of kind)))
command_of (calls.LoadResource handle place) = (any _ (LoadResource handle place))
command_of (calls.LockResource handle) = (any _ (LockResource handle))
command_of (calls.FreeResource handle) = (any _ (FreeResource handle))
command_of (calls.SizeofResource handle place) = (any _ (SizeofResource handle place))

-- the bytes that a far write writes, and its command
abbrev pub bytes_written : Written → List ℕ
bytes_written (written.Bytes bytes) = bytes.now
bytes_written (written.Repeated count byte) = far_bytes.repeated count byte

abbrev pub write_of : ℕ → Written → Command OfFar
write_of pointer (written.Bytes bytes) = Write pointer bytes.now
write_of pointer (written.Repeated count byte) = Fill pointer count byte

-- the machine's reply
abbrev pub reply_of : Reply → printed.Reply
reply_of (replies.Word n) = printed.Reply.Word n
reply_of (replies.Dword n) = printed.Reply.Dword n
reply_of (replies.Bytes bytes) = printed.Reply.Bytes bytes.now
reply_of replies.Done = printed.Reply.Done
reply_of (replies.Fault fault) = printed.Reply.Fault fault
reply_of (replies.Failed fault) = printed.Reply.Failed fault
reply_of (replies.Walk count) = printed.Reply.Walked count

-- and that of a reply that keeps its bytes
abbrev pub answer_of : Answer → printed.Reply
answer_of (answers.Word n) = printed.Reply.Word n
answer_of (answers.Dword n) = printed.Reply.Dword n
answer_of (answers.Bytes bytes) = printed.Reply.Bytes bytes.items
answer_of answers.Done = printed.Reply.Done
answer_of (answers.Fault fault) = printed.Reply.Fault fault
answer_of (answers.Failed fault) = printed.Reply.Failed fault
answer_of (answers.Walk count) = printed.Reply.Walked count

-- a call's numbers are those that a command may have
abbrev pub IsCall : Call → Type 0
IsCall (calls.Read pointer count) = count ≤ MOST_READ
IsCall (calls.Fill pointer count byte) = count ≤ MOST_FILLED
IsCall call = Unit {0}

-- a room of so many bytes is enough for those that a call reads
abbrev pub HasRoom : Call → ℕ → Type 0
HasRoom (calls.Read pointer count) room = count ≤ room
HasRoom call room = Unit {0}

-- a reply has no more bytes than may be asked for
abbrev pub IsReply : Reply → Type 0
IsReply (replies.Bytes bytes) = length bytes.now ≤ MOST_READ
IsReply reply = Unit {0}

-- which commands take memory of the host in a world: one by which a local heap begins, one that adds a built-in, and loads of modules
abbrev pub TakesMemory : World → AnyCommand → Type 0
TakesMemory old (any _ (LocalInit selector start end)) = IsSome (beginning old selector start end)
TakesMemory old (any _ (Builtin name)) = Unit {0}
TakesMemory old (any _ (LoadModule file)) = Unit {0}
TakesMemory old (any _ (LoadLibrary file)) = Unit {0}
TakesMemory old command = ⊥
