-- The commands of a script: calls of the manual, far accesses and questions about the heap, with their arguments as numbers, bytes and texts.
use Rattle.std.specs.Prelude.{ℕ, List}

-- A command's family says what its step is about: objects of the global heap named by handles or selectors, the size and the kind of one, bytes that
-- a far pointer points to, modules, resources, or local heaps.
pub data Family : Type 0 where
  OfHandles : Family
  OfResizes : Family
  OfFar : Family
  OfModules : Family
  OfResources : Family
  OfLocals : Family

-- what names an export, a resource or its type: a number or a text
pub data Label : Type 0 where
  Number : (value : ℕ) → Label
  Text : (text : List ℕ) → Label

-- each command once, with the family that it is of
pub data Command : Family → Type 0 where
  GlobalAlloc : (flags size : ℕ) → Command OfHandles
  GlobalFree : (handle : ℕ) → Command OfHandles
  GlobalLock : (handle : ℕ) → Command OfHandles
  GlobalUnlock : (handle : ℕ) → Command OfHandles
  GlobalSize : (handle : ℕ) → Command OfHandles
  GlobalFlags : (handle : ℕ) → Command OfHandles
  GlobalHandle : (selector : ℕ) → Command OfHandles
  GetSelectorBase : (selector : ℕ) → Command OfHandles
  GetSelectorLimit : (selector : ℕ) → Command OfHandles
  GlobalCompact : (size : ℕ) → Command OfHandles
  GlobalLRUNewest : (handle : ℕ) → Command OfHandles
  GlobalLRUOldest : (handle : ℕ) → Command OfHandles
  Moved : Command OfHandles
  Walk : Command OfHandles
  GlobalReAlloc : (handle size flags : ℕ) → Command OfResizes
  GlobalDiscard : (handle : ℕ) → Command OfResizes
  Read : (pointer count : ℕ) → Command OfFar
  Write : (pointer : ℕ) (bytes : List ℕ) → Command OfFar
  Fill : (pointer count byte : ℕ) → Command OfFar
  Builtin : (name : List ℕ) → Command OfModules
  LoadModule : (file : List ℕ) → Command OfModules
  LoadLibrary : (file : List ℕ) → Command OfModules
  FreeLibrary : (handle : ℕ) → Command OfModules
  FreeModule : (handle : ℕ) → Command OfModules
  GetModuleHandle : (name : List ℕ) → Command OfModules
  GetModuleUsage : (handle : ℕ) → Command OfModules
  GetProcAddress : (handle : ℕ) (label : Label) → Command OfModules
  FindResource : (handle : ℕ) (name kind : Label) → Command OfResources
  LoadResource : (handle place : ℕ) → Command OfResources
  LockResource : (handle : ℕ) → Command OfResources
  FreeResource : (handle : ℕ) → Command OfResources
  SizeofResource : (handle place : ℕ) → Command OfResources
  LocalInit : (selector start end : ℕ) → Command OfLocals
  LocalAlloc : (flags size : ℕ) → Command OfLocals
  LocalReAlloc : (name size flags : ℕ) → Command OfLocals
  LocalDiscard : (name : ℕ) → Command OfLocals
  LocalFree : (name : ℕ) → Command OfLocals
  LocalLock : (name : ℕ) → Command OfLocals
  LocalUnlock : (name : ℕ) → Command OfLocals
  LocalSize : (name : ℕ) → Command OfLocals
  LocalFlags : (name : ℕ) → Command OfLocals
  LocalHandle : (pointer : ℕ) → Command OfLocals
  LocalCompact : (size : ℕ) → Command OfLocals
  DS : (selector : ℕ) → Command OfLocals

-- a command of whichever family: a family, and a command of it
abbrev pub AnyCommand : Type 0
AnyCommand = (family : Family) × Command family
