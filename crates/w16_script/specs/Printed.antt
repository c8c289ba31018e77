-- How replies are printed.
use Rattle.std.specs.Prelude.{ℕ, List, [], ◌∷◌, ◌++◌, codes, Option, Some, None}
use Rattle.std.specs.{Int.w16, Int.w32, Int.to_be_bytes, Fmt.decimal, List.flat_map}
use Rattle.hex.specs.Hex.{encode_lower}
use Rattle.w16_model.specs.declared.FarFault.TheVariants.{BadSelector, ReadOnly, NotPresent, Limit}
use Rattle.w16_model.specs.declared.Kind.TheVariants.{Fixed, Moveable, Discardable}
use Rattle.w16_model.specs.{declared.FarFault.FarFault, declared.Kind.Kind, declared.Item.Item, declared.Owner.Owner}
use Rattle.w16_loading.specs.declared.FetchFault.{FetchFault}
use Rattle.w16_loading.specs.declared.FetchFault.TheVariants.{NoRoom, Store, Damaged}
use Rattle.w16_loading.specs.Replies as replies

-- a fault's name
abbrev pub fault_text : FarFault → List ℕ
fault_text BadSelector = codes "selector"
fault_text ReadOnly = codes "readonly"
fault_text NotPresent = codes "notpresent"
fault_text Limit = codes "limit"

-- and that of a fetch
abbrev pub fetch_text : FetchFault → List ℕ
fetch_text NoRoom = codes "room"
fetch_text Store = codes "store"
fetch_text Damaged = codes "damaged"

-- bytes in hexadecimal, set off by a space where there are any
abbrev pub digits_behind : List ℕ → List ℕ
digits_behind [] = []
digits_behind (byte ∷ bytes) = 32 ∷ encode_lower (byte ∷ bytes)

-- a reply without the end of its line: a word in four digits, a double word in eight; `end` after the lines of a walk
abbrev pub body_of : replies.Reply → List ℕ
body_of (replies.Reply.Word n) = encode_lower (to_be_bytes w16 n)
body_of (replies.Reply.Dword n) = encode_lower (to_be_bytes w32 n)
body_of (replies.Reply.Bytes bytes) = codes "bytes" ++ digits_behind bytes
body_of replies.Reply.Done = codes "ok"
body_of (replies.Reply.Fault fault) = codes "fault " ++ fault_text fault
body_of (replies.Reply.Failed fault) = codes "fault " ++ fetch_text fault
body_of (replies.Reply.Walked count) = codes "end"

-- what is printed for a reply
abbrev pub reply_text : replies.Reply → List ℕ
reply_text reply = body_of reply ++ 10 ∷ []

-- what is printed for a bad line
abbrev pub error_text : List ℕ
error_text = codes "error syntax" ++ 10 ∷ []

-- Walks.

abbrev pub kind_text : Kind → List ℕ
kind_text Fixed = codes "fixed"
kind_text Moveable = codes "moveable"
kind_text Discardable = codes "discardable"

-- an object by its handle in four digits, its kind, and its lock count in decimal; or a hole
abbrev pub owner_text : Option Owner → List ℕ
owner_text (Some owner) = encode_lower (to_be_bytes w16 owner.name) ++ codes " " ++ kind_text owner.kind ++ codes " " ++ decimal owner.locks
owner_text None = codes "free"

-- what is printed for an item: its address and its size in eight digits each, and what stands there
abbrev pub item_text : Item → List ℕ
item_text item = encode_lower (to_be_bytes w32 item.at) ++ codes " " ++ encode_lower (to_be_bytes w32 item.size) ++ codes " " ++ owner_text item.owner ++ 10 ∷ []

-- after the last item
abbrev pub end_text : List ℕ
end_text = codes "end" ++ 10 ∷ []

-- and for a whole walk
abbrev pub walk_text : List Item → List ℕ
walk_text items = flat_map item_text items ++ end_text
