-- How often something stands among items and messages: Calls and Replies by their numbers.
use Rattle.std.specs.Prelude.{ℕ, ◌+◌, ◌&&◌, ◌==◌, Bool, false, length, filter, List}
use Rattle.nob_item.specs.declared.item.Item.{Item}
use Rattle.nob_item.specs.declared.item.Item.TheVariants as items
use Rattle.nob_model_types.specs.declared.message.Message.{Message}
use Rattle.nob_model_work.specs.declared.work.Outstanding.{Outstanding}
use Rattle.nob_model_work.specs.declared.work.Run.{Run}

-- how many elements pass a test
abbrev pub count_of : {A : Type 0} → (A → Bool) → List A → ℕ
count_of test xs = length (filter test xs)

-- whether an item is Call k
abbrev pub makes_call : ℕ → Item → Bool
makes_call k (items.Call call target method value) = call == k
makes_call k (items.Reply call status value) = false
makes_call k (items.Settle item) = false
makes_call k (items.Dirty index) = false
makes_call k (items.DirtyOk index) = false
makes_call k (items.DirtyNo index) = false
makes_call k (items.Clean index) = false

-- whether a message is Call k from p in a session
abbrev pub brings_call : (p session k : ℕ) → Message → Bool
brings_call p session k message = message.from == p && message.session == session && makes_call k message.item

-- whether a job that runs is Call k from p in a session
abbrev pub runs_call : (p session k : ℕ) → Run → Bool
runs_call p session k run = brings_call p session k run.message

-- how many messages of Call k from p in a session wait, are ready or run
abbrev pub calls_outstanding : (p session k : ℕ) → Outstanding → ℕ
calls_outstanding p session k W = count_of (brings_call p session k) W.waiting + count_of (brings_call p session k) W.ready + count_of (runs_call p session k) W.running
