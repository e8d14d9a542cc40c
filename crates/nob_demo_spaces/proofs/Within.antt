-- Where clap takes words that name a subcommand, the numbers of its options are in range.
use Rattle.std.proofs.Common.{◌≡◌, ◌∙◌, ℕ, Bool, true, false, List, [], ◌∷◌, Option, Some, None, codes, is_some, option_map, refl, sym, ap, subst, true≢false}
use Rattle.std.specs.Prelude.{if◌then◌else◌, find, slice_get, unwrap_or, option_and_then}
use Rattle.std.specs.List.{All, slice_index_or}
use Rattle.std.specs.Option.{option_map_or}
use Rattle.std.specs.Str.{bytes_eq}
use Rattle.std.proofs.lemmas.List.Elements.{All-from_recursion}
use Rattle.std.proofs.lemmas.Slice.Eq.{bytes_eq-Decides}
use Rattle.clap.specs.Facts.{parser_of_value}
use Rattle.clap.specs.Kinds.{Kinds, value_kinds, values_kinds}
use Rattle.clap.specs.Simple.{App, Shape, argument_words, built, entered, help_shape, label_of, names_of, rows_at}
use Rattle.clap.specs.Faults.{entered_fault, level_fault}
use Rattle.clap.specs.Values.{IsUnsignedIn, read_as, reading_of, refused_kind}
use Rattle.clap.specs.ValueTests.{accepts}
use Rattle.clap.specs.Walk.{Row, Rule, Text, answers_to, arg_by_id, nothing_held, one_of, row_text, walk}
use Rattle.clap.specs.declared.builder.value_parser.ValueParser.{ValueParser}
use Rattle.clap.specs.declared.builder.value_parser.ValueParser.TheVariants.{Unsigned}
use Rattle.clap.specs.declared.builder.value_parser.Reading.{Reading}
use Rattle.clap.specs.declared.builder.value_parser.Reading.TheVariants.{AsWritten}
use Rattle.clap.proofs.ValueTestLemmas.{accepts-Accepts}
use Rattle.nob_keeper.specs.Keep.{Keep}
use Rattle.nob_keeper.specs.Keep.TheVariants as keeps
use Rattle.nob_demo_spaces.specs.Scenes.{most_spaces, most_calls}
use Rattle.nob_demo_spaces.specs.Options.{AreWithin, DrawIsWithin, IsWithin, SceneIsWithin, greatest}
use Rattle.nob_demo_spaces.specs.Words.{TakenAreWithin, keep_in, nobj, takes_words, word_faults}
use Rattle.nob_demo_spaces.proofs.Taken.{Good, IsOwn, find_own, good_level, left_none, never, right_none}

-- ---- one option

value_passes : (i : Bool) (p : ValueParser) (t : Text) → value_kinds i p t ≡ [] → accepts i p t ≡ true
value_passes i p t e = go (accepts i p t) e
  where
    go : (b : Bool) → (if b then [] else refused_kind p ∷ []) ≡ [] → b ≡ true
    go true e = refl
    go false e = absurd (never (refused_kind p) [] e)

first_passes : (i : Bool) (p : ValueParser) (how : Reading) (vs : List Text) (t : Text) → values_kinds i p vs ≡ [] → how ≡ AsWritten
    → option_map (read_as how) (slice_get vs 0) ≡ Some t → accepts i p t ≡ true
first_passes i p how [] t e w h = let bad : false ≡ true = ap is_some h in absurd (true≢false (sym bad))
first_passes i p how (v ∷ vs) t e w h =
    let is : v ≡ t = ap (λ o. unwrap_or o v) (subst (λ how. Some (read_as how v) ≡ Some t) w h) in
    subst (λ t. accepts i p t ≡ true) is (value_passes i p v (left_none _ _ e))

-- the option of this name has numbers in this range
abbrev HasNumber : (lowest highest : ℕ) (name : Text) → List Rule → Type 0
HasNumber lowest highest name c = (a : Rule) × (arg_by_id c name ≡ Some a) × (a.parser ≡ Some (Unsigned lowest highest))

within : (c : List Rule) (rows : List Row) → All (Good c) rows → (lowest highest : ℕ) (name : Text) → HasNumber lowest highest name c → IsWithin lowest highest (one_of name rows)
within c rows all lowest highest name has = go (one_of name rows) refl
  where
    text : (t : Text) (found : Option Row) → find (λ r. bytes_eq r.id name) rows ≡ found → option_and_then row_text found ≡ Some t → IsUnsignedIn lowest highest t
    text t None f e = let bad : false ≡ true = ap is_some e in absurd (true≢false (sym bad))
    text t (Some r) f e =
        let own = find_own (Good c) (λ r. bytes_eq r.id name) rows all r f in
        let id : r.id ≡ name = (bytes_eq-Decides r.id name).0 own.1 in
        let good = own.0 has.0 (subst (λ (x : Text). arg_by_id c x ≡ Some has.0) (sym id) has.1) in
        let p : parser_of_value has.0.parser ≡ Unsigned lowest highest = ap parser_of_value has.2 in
        let passes = first_passes has.0.ignore_case (Unsigned lowest highest) r.reading r.values t
        (subst (λ (p : ValueParser). values_kinds has.0.ignore_case p r.values ≡ []) p good.0) (good.1 ∙ ap reading_of p) e in
        accepts-Accepts has.0.ignore_case (Unsigned lowest highest) t passes

    go : (o : Option Text) → one_of name rows ≡ o → IsWithin lowest highest o
    go None e = tt
    go (Some t) e = text t (find (λ r. bytes_eq r.id name) rows) refl e

-- ---- the subcommands

record HasNumbers (keep : Keep) (c : List Rule) : Type 0 where
  spaces : HasNumber 2 (most_spaces keep) (codes "spaces") c
  workers : HasNumber 1 16 (codes "workers") c
  calls : HasNumber 0 (most_calls keep) (codes "calls") c
  loss : HasNumber 0 9 (codes "loss") c
  seed : HasNumber 0 greatest (codes "seed") c

record HasExcerpt (c : List Rule) : Type 0 where
  from : HasNumber 1 greatest (codes "from") c
  to : HasNumber 1 greatest (codes "to") c
  owner : HasNumber 1 32 (codes "owner") c
  index : HasNumber 0 greatest (codes "index") c
  space : HasNumber 1 32 (codes "space") c

-- the rules of a subcommand are found by their names, and the subcommands `spaces` and `draw` have the numbers
record IsRight (keep : Keep) (s : Shape) : Type 0 where
  own : All (IsOwn s.rules) s.rules
  scene : bytes_eq s.name (codes "spaces") ≡ true → HasNumbers keep s.rules
  draw : bytes_eq s.name (codes "draw") ≡ true → HasExcerpt s.rules

abbrev leaf : Keep → ℕ → Shape
leaf keep i = slice_index_or (built (nobj keep)).subs i help_shape

pair_right : (keep : Keep) → IsRight keep (leaf keep 0)
pair_right keep = record {
  own = All-from_recursion (IsOwn (leaf keep 0).rules) (leaf keep 0).rules ((refl, refl), tt);
  scene = λ e. absurd (true≢false (sym e));
  draw = λ e. absurd (true≢false (sym e));
}

script_right : (keep : Keep) → IsRight keep (leaf keep 1)
script_right keep = record {
  own = All-from_recursion (IsOwn (leaf keep 1).rules) (leaf keep 1).rules ((refl, refl), tt);
  scene = λ e. absurd (true≢false (sym e));
  draw = λ e. absurd (true≢false (sym e));
}

check_right : (keep : Keep) → IsRight keep (leaf keep 2)
check_right keep = record {
  own = All-from_recursion (IsOwn (leaf keep 2).rules) (leaf keep 2).rules ((refl, refl), tt);
  scene = λ e. absurd (true≢false (sym e));
  draw = λ e. absurd (true≢false (sym e));
}

draw_right : (keep : Keep) → IsRight keep (leaf keep 3)
draw_right keep = record {
  own = All-from_recursion (IsOwn (leaf keep 3).rules) (leaf keep 3).rules ((refl, refl), ((refl, refl), ((refl, refl), ((refl, refl), ((refl, refl), ((refl, refl), ((refl, refl), tt)))))));
  scene = λ e. absurd (true≢false (sym e));
  draw = λ e. record { from = (_, refl, refl); to = (_, refl, refl); owner = (_, refl, refl); index = (_, refl, refl); space = (_, refl, refl) };
}

spaces_right : (keep : Keep) → IsRight keep (leaf keep 4)
spaces_right keeps.All = record {
  own = All-from_recursion (IsOwn (leaf keeps.All 4).rules) (leaf keeps.All 4).rules ((refl, refl), ((refl, refl), ((refl, refl), ((refl, refl), ((refl, refl), ((refl, refl), ((refl, refl), tt)))))));
  scene = λ e. record {
    spaces = (_, refl, refl);
    workers = (_, refl, refl);
    calls = (_, refl, refl);
    loss = (_, refl, refl);
    seed = (_, refl, refl);
  };
  draw = λ e. absurd (true≢false (sym e));
}
spaces_right keeps.Nothing = record {
  own = All-from_recursion (IsOwn (leaf keeps.Nothing 4).rules) (leaf keeps.Nothing 4).rules ((refl, refl), ((refl, refl), ((refl, refl), ((refl, refl), ((refl, refl), ((refl, refl), ((refl, refl), tt)))))));
  scene = λ e. record {
    spaces = (_, refl, refl);
    workers = (_, refl, refl);
    calls = (_, refl, refl);
    loss = (_, refl, refl);
    seed = (_, refl, refl);
  };
  draw = λ e. absurd (true≢false (sym e));
}

help_right : (keep : Keep) → IsRight keep (leaf keep 5)
help_right keep = record {
  own = All-from_recursion (IsOwn (leaf keep 5).rules) (leaf keep 5).rules ((refl, refl), tt);
  scene = λ e. absurd (true≢false (sym e));
  draw = λ e. absurd (true≢false (sym e));
}

all_right : (keep : Keep) → All (IsRight keep) (built (nobj keep)).subs
all_right keeps.All = All-from_recursion (IsRight keeps.All) (built (nobj keeps.All)).subs (pair_right keeps.All, (script_right keeps.All, (check_right keeps.All, (draw_right keeps.All, (spaces_right keeps.All, (help_right keeps.All, tt))))))
all_right keeps.Nothing = All-from_recursion (IsRight keeps.Nothing) (built (nobj keeps.Nothing)).subs (pair_right keeps.Nothing, (script_right keeps.Nothing, (check_right keeps.Nothing, (draw_right keeps.Nothing, (spaces_right keeps.Nothing, (help_right keeps.Nothing, tt))))))

-- ---- the whole

no_kinds : (ks : Kinds) → takes_words ks ≡ true → ks ≡ []
no_kinds [] e = refl
no_kinds (k ∷ ks) e = absurd (true≢false (sym e))

scene_within : (keep : Keep) (s : Shape) (rows : List Row) → All (Good s.rules) rows → HasNumbers keep s.rules → SceneIsWithin keep rows
scene_within keep s rows all has = record {
  spaces = within s.rules rows all 2 (most_spaces keep) (codes "spaces") has.spaces;
  workers = within s.rules rows all 1 16 (codes "workers") has.workers;
  calls = within s.rules rows all 0 (most_calls keep) (codes "calls") has.calls;
  loss = within s.rules rows all 0 9 (codes "loss") has.loss;
  seed = within s.rules rows all 0 greatest (codes "seed") has.seed;
}

draw_within : (s : Shape) (rows : List Row) → All (Good s.rules) rows → HasExcerpt s.rules → DrawIsWithin rows
draw_within s rows all has = record {
  from = within s.rules rows all 1 greatest (codes "from") has.from;
  to = within s.rules rows all 1 greatest (codes "to") has.to;
  owner = within s.rules rows all 1 32 (codes "owner") has.owner;
  index = within s.rules rows all 0 greatest (codes "index") has.index;
  space = within s.rules rows all 1 32 (codes "space") has.space;
}

are_within : (keep : Keep) (s : Shape) → IsRight keep s → (name : Text) (rows : List Row) → All (Good s.rules) rows → s.name ≡ name → AreWithin keep name rows
are_within keep s is name rows all named = record {
  scene = λ e. scene_within keep s rows all (is.scene ((bytes_eq-Decides s.name (codes "spaces")).1 (named ∙ e)));
  draw = λ e. draw_within s rows all (is.draw ((bytes_eq-Decides s.name (codes "draw")).1 (named ∙ e)));
}

at_leaf : (keep : Keep) (subs : List Shape) → All (IsRight keep) subs → (called name : Text) (words : List Text) (rows : List Row) (found : Option Shape) → find (λ s. answers_to called (label_of s)) subs ≡ found
    → option_map_or (λ s. level_fault s [] nothing_held words false []) found [] ≡ []
    → option_map (λ s. rows_at s words) found ≡ Some (name, rows) → AreWithin keep name rows
at_leaf keep subs right called name words rows None f fault e = let bad : false ≡ true = ap is_some e in absurd (true≢false (sym bad))
at_leaf keep subs right called name words rows (Some s) f fault e =
    let is_right = (find_own (IsRight keep) _ subs right s f).0 in
    let both : rows_at s words ≡ (name, rows) = ap (λ o. unwrap_or o (rows_at s words)) e in
    let all = good_level s is_right.own [] words fault in
    are_within keep s is_right name rows (subst (All (Good s.rules)) (ap (λ (p : Text × List Row). p.1) both) all) (ap (λ (p : Text × List Row). p.0) both)

at_stop : (keep : Keep) (a : App) → All (IsRight keep) a.subs → (stop : Option (Text × List Text)) (name : Text) (rows : List Row) → entered_fault a stop ≡ [] → entered a stop ≡ Some (name, rows) → AreWithin keep name rows
at_stop keep a right None name rows fault e = let bad : false ≡ true = ap is_some e in absurd (true≢false (sym bad))
at_stop keep a right (Some p) name rows fault e = at_leaf keep a.subs right p.0 name p.1 rows (find (λ s. answers_to p.0 (label_of s)) a.subs) refl fault e

pub taken_are_within : TakenAreWithin
taken_are_within words name rows taken e =
    let a = built (nobj (keep_in words)) in
    let fault = no_kinds (word_faults words) taken in
    at_stop (keep_in words) a (all_right (keep_in words)) (walk a.top.rules (names_of a) nothing_held (argument_words a words)).stopped name rows (left_none _ _ (right_none _ _ fault)) e
