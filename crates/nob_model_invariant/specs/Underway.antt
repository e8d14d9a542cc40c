-- What is under way between two spaces, and when a reference in it is guarded: its sender is entered for it.
use Rattle.std.specs.Prelude.{◌≡◌, ⊤, ℕ, ◌&&◌, ◌||◌, not, ◌==◌, Bool, true, false, length, drop, List, [], ◌∷◌, Option, Some, None}
use Rattle.nob_item.specs.declared.item.Item.{Item}
use Rattle.nob_item.specs.declared.item.Item.TheVariants as items
use Rattle.nob_model_types.specs.declared.entry.Entry.{Entry}
use Rattle.nob_model_types.specs.Turns.{carries}
use Rattle.nob_model.specs.Right.{own_ref}
use Rattle.nob_model_journal.specs.Journals.{sent_to, acted_from}
use Rattle.nob_model_invariant.specs.Asking.{ask_in}

-- the items that b hasn't acted on of those that a sent it, the first first
abbrev pub under_way : (n a b : ℕ) → List Entry → List Item
under_way n a b J = drop (length (acted_from a b J)) (sent_to n a b J)

-- whether an item calls the object of an index, the agent aside
abbrev pub calls_object : ℕ → Item → Bool
calls_object x (items.Call call target method value) = not (target == 0) && target == x
calls_object x (items.Reply call status value) = false
calls_object x (items.Settle item) = false
calls_object x (items.Dirty index) = false
calls_object x (items.DirtyOk index) = false
calls_object x (items.DirtyNo index) = false
calls_object x (items.Clean index) = false

-- whether an item to a space needs the object of an index there: it calls it, or carries a counted reference to it
abbrev pub needs_object : (to x : ℕ) → Item → Bool
needs_object to x item = calls_object x item || carries (own_ref to x) item

-- whether a client is known to be entered behind an item that asks this: as before where it asks nothing, else not
abbrev pub unless_asked : Option Bool → Bool → Bool
unless_asked None entered = entered
unless_asked (Some ask) entered = false

-- items to a space are guarded for an index: the sender is entered where one needs the object, and no Dirty or Clean for it stands before that
abbrev pub AreGuarded : (to x : ℕ) → Bool → List Item → Type 0
AreGuarded to x entered [] = ⊤
AreGuarded to x entered (item ∷ more) = (needs_object to x item ≡ true → entered ≡ true) × AreGuarded to x (unless_asked (ask_in x item) entered) more
