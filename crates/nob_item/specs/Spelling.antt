-- Which items have a spelling, and the one spelling of each.
use Rattle.std.specs.Prelude.{◌≡◌, ℕ, ◌<◌, ◌≤◌, ◌^◌, List, [], ◌∷◌, ◌++◌}
use Rattle.byteorder.specs.Endian.{big_bytes}
use Rattle.nob_pickle.specs.Limits.{Fits as PickleFits}
use Rattle.nob_pickle.specs.Spelling.{spelling as pickle}
use Rattle.nob_item.specs.declared.item.Item.{Item}
use Rattle.nob_item.specs.declared.item.Item.TheVariants as items

-- a call is numbered 1 to 2^48
abbrev pub IsCallNumber : ℕ → Type 0
IsCallNumber call = (1 ≤ call) × (call ≤ 2 ^ 48)

-- an item is numbered 1 to 2^40
abbrev pub IsItemNumber : ℕ → Type 0
IsItemNumber item = (1 ≤ item) × (item ≤ 2 ^ 40)

-- a status is 0 to 3
abbrev pub IsStatus : ℕ → Type 0
IsStatus status = status ≤ 3

-- what stands in front of a Call's value
abbrev pub call_head : ℕ → ℕ → ℕ → List ℕ
call_head call target method = 1 ∷ (big_bytes 8 call ++ (big_bytes 8 target ++ big_bytes 2 method))

-- what stands in front of a Reply's value
abbrev pub reply_head : ℕ → ℕ → List ℕ
reply_head call status = 2 ∷ (big_bytes 8 call ++ status ∷ [])

-- a note: its first byte and a number
abbrev pub note : ℕ → ℕ → List ℕ
note first number = first ∷ big_bytes 8 number

-- the one spelling of an item: a first byte that says what it is, then its numbers, then the pickle of its value
abbrev pub spelling : Item → List ℕ
spelling (items.Call call target method value) = call_head call target method ++ pickle value
spelling (items.Reply call status value) = reply_head call status ++ pickle value
spelling (items.Settle item) = note 3 item
spelling (items.Dirty index) = note 4 index
spelling (items.DirtyOk index) = note 5 index
spelling (items.DirtyNo index) = note 6 index
spelling (items.Clean index) = note 7 index

-- an item that has a spelling: each of its numbers is in range, and its value has a spelling
abbrev pub Fits : Item → Type 0
Fits (items.Call call target method value) = IsCallNumber call × (target < 2 ^ 64) × (method < 2 ^ 16) × PickleFits value
Fits (items.Reply call status value) = IsCallNumber call × IsStatus status × PickleFits value
Fits (items.Settle item) = IsItemNumber item
Fits (items.Dirty index) = index < 2 ^ 64
Fits (items.DirtyOk index) = index < 2 ^ 64
Fits (items.DirtyNo index) = index < 2 ^ 64
Fits (items.Clean index) = index < 2 ^ 64

-- the bytes are the spelling of an item that has one
abbrev pub Spelt : List ℕ → Item → Type 0
Spelt bytes item = Fits item × (bytes ≡ spelling item)
