-- Why a load is refused.
use Rattle.std.specs.Prelude.{ℕ, Bool, true, false, Result}
use Rattle.w16_loading.specs.declared.LoadRefusal.{LoadRefusal}
use Rattle.w16_loading.specs.declared.LoadRefusal.TheVariants.{NoRoom, NoFile, BadFile, ForOs2, ForDos4, ForOtherSystem, LoadedTwice, BadReference}

abbrev pub OrRefused : Type 0 → Type 0
OrRefused A = Result A LoadRefusal

-- what the load answers
abbrev pub refusal_number : LoadRefusal → ℕ
refusal_number NoRoom = 0
refusal_number NoFile = 2
refusal_number BadFile = 11
refusal_number ForOs2 = 12
refusal_number ForDos4 = 13
refusal_number ForOtherSystem = 14
refusal_number LoadedTwice = 16
refusal_number BadReference = 20

-- a format may refuse a file so
abbrev pub is_of_format : LoadRefusal → Bool
is_of_format BadFile = true
is_of_format ForOs2 = true
is_of_format ForDos4 = true
is_of_format ForOtherSystem = true
is_of_format other = false

-- what a refused file is to the module that refers to it
abbrev pub by_reference : LoadRefusal → LoadRefusal
by_reference NoRoom = NoRoom
by_reference other = BadReference
