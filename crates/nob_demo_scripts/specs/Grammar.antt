-- The grammar of pair scripts: the one spelling of each header and step.
use Rattle.std.specs.Prelude.{ℕ, ◌^◌, ◌<◌, ◌≤◌, List, [], ◌∷◌, ◌++◌, codes, suc, ◌==◌, if◌then◌else◌}
use Rattle.std.specs.Fmt.{decimal}
use Rattle.hex.specs.Hex.{encode_lower, IsBytes}
use Rattle.nob_session.specs.Items.{IsItem}
use Rattle.nob_demo_scripts.specs.declared.step.Side.{Side}
use Rattle.nob_demo_scripts.specs.declared.step.Side.TheVariants.{First, Second}
use Rattle.nob_demo_scripts.specs.declared.step.Call.{Call}
use Rattle.nob_demo_scripts.specs.declared.step.Call.TheVariants.{Put, Send, Get, Tick, Close, Open}
use Rattle.nob_demo_scripts.specs.declared.step.Step.{Step}
use Rattle.nob_demo_scripts.specs.declared.step.Step.TheVariants.{At, Deliver}

-- the limits at the end of the first line
abbrev pub limits_text : ℕ → ℕ → List ℕ
limits_text window retry = decimal window ++ (codes " retry " ++ decimal retry)

-- the first line: the limits of both ends
abbrev pub header_text : ℕ → ℕ → List ℕ
header_text window retry = codes "pair window " ++ limits_text window retry

-- limits in their ranges
abbrev pub IsLimits : ℕ → ℕ → Type 0
IsLimits window retry = (1 ≤ window) × (window ≤ 64) × (1 ≤ retry) × (retry ≤ 255)

-- how many bytes stand before the first space
abbrev pub length_of_word : List ℕ → ℕ
length_of_word [] = 0
length_of_word (byte ∷ bytes) = if byte == 32 then 0 else suc (length_of_word bytes)

-- the number of an end's space
abbrev pub side_text : Side → List ℕ
side_text First = codes "1 "
side_text Second = codes "2 "

-- what is done at an end
abbrev pub call_text : Call → List ℕ
call_text (Put item) = codes "put " ++ encode_lower item
call_text Send = codes "send"
call_text Get = codes "get"
call_text Tick = codes "tick"
call_text Close = codes "close"
call_text Open = codes "open"

-- a step's line
abbrev pub step_text : Step → List ℕ
step_text (At side call) = side_text side ++ call_text call
step_text (Deliver k) = codes "deliver " ++ decimal k

-- a call that can be spelled: an item has 1 to 16,384 bytes
abbrev pub IsCall : Call → Type 0
IsCall (Put item) = IsItem item × IsBytes item
IsCall Send = Unit {0}
IsCall Get = Unit {0}
IsCall Tick = Unit {0}
IsCall Close = Unit {0}
IsCall Open = Unit {0}

-- a step that can be spelled: a frame's number is below 2^64
abbrev pub IsStep : Step → Type 0
IsStep (At side call) = IsCall call
IsStep (Deliver k) = k < 2 ^ 64
