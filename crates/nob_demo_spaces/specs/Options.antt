-- The options of the subcommands `spaces` and `draw`, and what they say.
use Rattle.std.specs.Prelude.{◌≡◌, ℕ, Bool, false, List, [], ◌∷◌, codes, Option, Some, None, IfSome}
use Rattle.std.specs.Option.{option_map_or}
use Rattle.std.specs.Str.{bytes_eq}
use Rattle.std.specs.Str.Parse.{digits_value, without_leading_plus}
use Rattle.clap.specs.Words.{Row, Rule, Shape, Text, new_rule, one_of}
use Rattle.clap.specs.Simple.{new_shape}
use Rattle.clap.specs.Values.{IsUnsignedIn}
use Rattle.clap.specs.declared.builder.action.ArgAction.TheVariants.{SetTrue}
use Rattle.clap.specs.declared.builder.value_parser.ValueParser.TheVariants.{Unsigned}
use Rattle.nob_keeper.specs.Keep.{Keep}
use Rattle.nob_keeper.specs.Keep.TheVariants.{All, Nothing}
use Rattle.nob_demo_spaces.specs.Scenes.{Setting, most_spaces, most_calls}
use Rattle.nob_demo_spaces.specs.declared.excerpt.Excerpt.{Excerpt}

-- the option `--NAME N`, where N is a number from the lowest to the highest, as clap sees it
abbrev pub number_rule : (name : Text) (lowest highest : ℕ) → Rule
number_rule name lowest highest = record (new_rule name) { long = Some name; value_names = 1; parser = Some (Unsigned lowest highest) }

-- the option `--NAME TEXT`, as clap sees it
abbrev pub text_rule : (name : Text) → Rule
text_rule name = record (new_rule name) { long = Some name; value_names = 1 }

-- the flag `--NAME`, as clap sees it
abbrev pub flag_rule : (name : Text) → Rule
flag_rule name = record (new_rule name) { long = Some name; action = Some SetTrue }

-- the greatest number of 64 bits
abbrev pub greatest : ℕ
greatest = 18446744073709551615

-- the last option of `spaces`, by what the nodes keep: the flag `traces` where that is all, `keep` where it is nothing
abbrev pub last_rule : Keep → Rule
last_rule All = flag_rule (codes "traces")
last_rule Nothing = text_rule (codes "keep")

-- the options of `spaces`, by what the nodes keep: five with a number in its range, and the last one
abbrev pub spaces_rules : Keep → List Rule
spaces_rules keep = number_rule (codes "spaces") 2 (most_spaces keep) ∷ number_rule (codes "workers") 1 16 ∷ number_rule (codes "calls") 0 (most_calls keep) ∷ number_rule (codes "loss") 0 9 ∷ number_rule (codes "seed") 0 greatest ∷ last_rule keep ∷ []

-- the subcommand `spaces` as clap sees it, by what the nodes keep
abbrev pub spaces_shape : Keep → Shape
spaces_shape keep = record (new_shape (codes "spaces")) { rules = spaces_rules keep }

-- the options of `draw`: the numbers of two rows, which count from 1; the owner and the index of the object whose life is drawn; the space whose part is; and the flag `brief`
abbrev pub draw_rules : List Rule
draw_rules = number_rule (codes "from") 1 greatest ∷ number_rule (codes "to") 1 greatest ∷ number_rule (codes "owner") 1 32 ∷ number_rule (codes "index") 0 greatest ∷ number_rule (codes "space") 1 32 ∷ flag_rule (codes "brief") ∷ []

-- the subcommand `draw` as clap sees it
abbrev pub draw_shape : Shape
draw_shape = record (new_shape (codes "draw")) { rules = draw_rules }

-- the number that the text of an option says; where the option isn't there, the number that stands by default
abbrev pub number_said : (default : ℕ) → Option Text → ℕ
number_said default None = default
number_said default (Some text) = digits_value 10 (without_leading_plus text)

-- the number that the text of an option says, where it is there
abbrev pub number_if : Option Text → Option ℕ
number_if None = None
number_if (Some text) = Some (digits_value 10 (without_leading_plus text))

-- whether the text of a flag says that it is set: `true`
abbrev pub is_said : Option Text → Bool
is_said text = option_map_or (λ t. bytes_eq t (codes "true")) text false

-- the scene that the options say of which clap found these rows, whose nodes keep this: 3 spaces, 2 workers, 50 calls, no loss and seed 1, where an option isn't there
abbrev pub setting_in : Keep → List Row → Setting
setting_in keep rows = record {
  spaces = number_said 3 (one_of (codes "spaces") rows);
  workers = number_said 2 (one_of (codes "workers") rows);
  calls = number_said 50 (one_of (codes "calls") rows);
  loss = number_said 0 (one_of (codes "loss") rows);
  seed = number_said 1 (one_of (codes "seed") rows);
  traces = is_said (one_of (codes "traces") rows);
  keep = keep;
}

-- what of a run the options say of which clap found these rows: from the first, to the last that there may be, of any object and space, and small ones too, where an option isn't there
abbrev pub excerpt_in : List Row → Excerpt
excerpt_in rows = record {
  from = number_said 1 (one_of (codes "from") rows);
  to = number_said greatest (one_of (codes "to") rows);
  owner = number_if (one_of (codes "owner") rows);
  index = number_if (one_of (codes "index") rows);
  space = number_if (one_of (codes "space") rows);
  brief = is_said (one_of (codes "brief") rows);
}

-- where the option has a text, it is a number from the lowest to the highest
abbrev pub IsWithin : (lowest highest : ℕ) → Option Text → Type 0
IsWithin lowest highest text = IfSome text (IsUnsignedIn lowest highest)

-- the options of `spaces` of which clap found these rows say numbers in range, by what the nodes keep
pub record SceneIsWithin (keep : Keep) (rows : List Row) : Type 0 where
  pub spaces : IsWithin 2 (most_spaces keep) (one_of (codes "spaces") rows)
  pub workers : IsWithin 1 16 (one_of (codes "workers") rows)
  pub calls : IsWithin 0 (most_calls keep) (one_of (codes "calls") rows)
  pub loss : IsWithin 0 9 (one_of (codes "loss") rows)
  pub seed : IsWithin 0 greatest (one_of (codes "seed") rows)

-- the options of `draw` of which clap found these rows say numbers in range
pub record DrawIsWithin (rows : List Row) : Type 0 where
  pub from : IsWithin 1 greatest (one_of (codes "from") rows)
  pub to : IsWithin 1 greatest (one_of (codes "to") rows)
  pub owner : IsWithin 1 32 (one_of (codes "owner") rows)
  pub index : IsWithin 0 greatest (one_of (codes "index") rows)
  pub space : IsWithin 1 32 (one_of (codes "space") rows)

-- the options of the subcommand of this name, of which clap found these rows, say numbers in range, by what the nodes of a scene keep
pub record AreWithin (keep : Keep) (name : Text) (rows : List Row) : Type 0 where
  pub scene : name ≡ codes "spaces" → SceneIsWithin keep rows
  pub draw : name ≡ codes "draw" → DrawIsWithin rows
