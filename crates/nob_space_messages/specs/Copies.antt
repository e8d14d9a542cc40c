-- How many copies of each owner's references the messages carry.
use Rattle.std.specs.Prelude.{◌≡◌, ℕ, ◌+◌, ◌≤◌, List, [], ◌∷◌, length, filter, get_or}
use Rattle.nob_model_types.specs.declared.message.Message.{Message}
use Rattle.nob_space_messages.specs.Waiting.{is_copy_of}

-- the count of an owner among the counts by number
abbrev pub count_at : List ℕ → ℕ → ℕ
count_at counts owner = get_or counts owner 0

-- how many copies of counted references of this owner a message carries
abbrev pub copies_of : ℕ → Message → ℕ
copies_of owner message = length (filter (is_copy_of owner) message.copies)

-- how many some messages carry
abbrev pub copies_in : ℕ → List Message → ℕ
copies_in owner [] = 0
copies_in owner (message ∷ messages) = copies_of owner message + copies_in owner messages

-- the counts are those of the copies that the messages carry
abbrev pub AreCarried : List ℕ → List Message → Type 0
AreCarried counts messages = (owner : ℕ) → count_at counts owner ≡ copies_in owner messages

-- no count is above a number
abbrev pub AreFew : List ℕ → ℕ → Type 0
AreFew counts most = (owner : ℕ) → count_at counts owner ≤ most
