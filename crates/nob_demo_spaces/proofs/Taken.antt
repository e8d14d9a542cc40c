-- Where clap takes the words of a subcommand, each value that it found passes its option's parser.
use Rattle.std.proofs.Common.{◌≡◌, ◌∙◌, ◌&&◌, ◌||◌, ◌++◌, ℕ, zero, suc, Bool, true, false, List, [], ◌∷◌, length, drop, Option, Some, None, is_some, refl, sym, ap, subst, true≢false, arith}
use Rattle.std.specs.Prelude.{if◌then◌else◌, ◌==◌, find, fold, slice_get, unwrap_or, encode_utf8}
use Rattle.std.specs.List.{All}
use Rattle.std.specs.Option.{option_map_or}
use Rattle.std.specs.Str.{bytes_eq, chars}
use Rattle.std.proofs.lemmas.Bool.{ne_eqb}
use Rattle.std.proofs.lemmas.List.Elements.{All-nil, All-cons, All-head, All-tail, All-append}
use Rattle.std.proofs.lemmas.Slice.Eq.{bytes_eq-Decides}
use Rattle.clap.specs.Facts.{parser_of_value}
use Rattle.clap.specs.Kinds.{Kinds, or_else, request_kinds, values_kinds}
use Rattle.clap.specs.Simple.{Shape}
use Rattle.clap.specs.Faults.{action_fault, bundle_fault, bundle_step_fault, default_fault, defaults_fault, flag_word_fault, flags_fault, given_default_fault, level_fault, long_fault, option_fault, other_fault, positional_fault, react_fault, settle_fault, short_fault, step_fault, stray_fault, turn_fault, use_fault, values_fault, walk_fault, word_fault}
use Rattle.clap.specs.Lexer.{long_of, short_of}
use Rattle.clap.specs.Walk.{Held, Names, Outcome, Row, Rule, Step, Text, Waiting, Walk, action_of, after_flag, after_step, arg_by_id, arg_by_index, arg_by_long, arg_by_short, at_row, attached_value, bundle_met, bundle_step, default_rows, done, flag_met, has_row, idle, is_pending, long_met, long_or_other, more_values, next, nothing_held, option, option_met, option_word, plain, plain_word, positional, pushed, reacted, reading_by, refused, rows_after, settled, settled_rows, short_met, short_or_plain, subcommand, subcommand_met, subcommand_or_other, takes_several, takes_values, to_positional, trailing, used, used_as, used_by_id, value, values_or_missing, waits, walk, walk_from, walked, walked_from, with_default, with_values, without, word_met}
use Rattle.clap.specs.declared.builder.action.ArgAction.{ArgAction}
use Rattle.clap.specs.declared.builder.action.ArgAction.TheVariants as action
use Rattle.clap.specs.declared.builder.value_parser.ValueParser.{ValueParser}
use Rattle.clap.specs.declared.error.kind.ErrorKind.{ErrorKind}
use Rattle.clap.specs.declared.error.kind.ErrorKind.TheVariants as kind
use Rattle.clap.specs.declared.parser.matches.ValueSource.{ValueSource}
use Rattle.clap.specs.declared.parser.matches.ValueSource.TheVariants.{DefaultValue, CommandLine}

-- ---- lists of kinds

pub left_none : (a b : Kinds) → or_else a b ≡ [] → a ≡ []
left_none [] b e = refl
left_none (k ∷ ks) b e = e

pub never : (k : ErrorKind) (ks : Kinds) → k ∷ ks ≡ [] → ⊥
never k ks e = let bad : suc (length ks) ≡ 0 = ap length e in absurd (omega arith)

pub right_none : (a b : Kinds) → or_else a b ≡ [] → b ≡ []
right_none [] b e = e
right_none (k ∷ ks) b e = absurd (never k ks e)

both_none : (a b : Kinds) → a ≡ [] → b ≡ [] → or_else a b ≡ []
both_none a b e f = rw e f

all_none : (i : Bool) (p : ValueParser) (xs ys : List Text) → values_kinds i p xs ≡ [] → values_kinds i p ys ≡ [] → values_kinds i p (xs ++ ys) ≡ []
all_none i p [] ys e f = f
all_none i p (x ∷ xs) ys e f = both_none _ _ (left_none _ _ e) (all_none i p xs ys (right_none _ _ e) f)

-- ---- rules that are found again by their names, and count nothing

abbrev counts : ArgAction → Bool
counts action.Count = true
counts _ = false

abbrev pub IsOwn : List Rule → Rule → Type 0
IsOwn c a = (arg_by_id c a.id ≡ Some a) × (counts (action_of a) ≡ false)

pub find_own : {X : Type 0} (P : X → Type 0) (p : X → Bool) (xs : List X) → All P xs → (a : X) → find p xs ≡ Some a → P a × (p a ≡ true)
find_own P p [] all a e = let bad : false ≡ true = ap is_some e in absurd (true≢false (sym bad))
find_own P p (x ∷ xs) all a e = go (p x) refl (find_own P p xs (All-tail P x xs all) a) e
  where
    go : (b : Bool) → p x ≡ b → (find p xs ≡ Some a → P a × (p a ≡ true)) → (if b then Some x else find p xs) ≡ Some a → P a × (p a ≡ true)
    go true q later e =
        let is : x ≡ a = ap (λ o. unwrap_or o x) e in
        (subst P is (All-head P x xs all), subst (λ y. p y ≡ true) is q)
    go false q later e = later e

-- ---- rows whose values pass

-- the values of a row pass the parser of the rule of its name, which says how they are read
abbrev pub Good : List Rule → Row → Type 0
Good c r = (a : Rule) → arg_by_id c r.id ≡ Some a → (values_fault a r.values ≡ []) × (r.reading ≡ reading_by a)

module _ (s : Shape) (own : All (IsOwn s.rules) s.rules) where
  abbrev AllGood : List Row → Type 0
  AllGood rows = All (Good s.rules) rows

  good_at : (id : Text) (change : Row → List Row) (missing : List Row) (rows : List Row) → AllGood rows
      → ((r : Row) → Good s.rules r → bytes_eq r.id id ≡ true → AllGood (change r)) → AllGood missing → AllGood (at_row id change missing rows)
  good_at id change missing [] all kept fresh = fresh
  good_at id change missing (r ∷ rs) all kept fresh =
      go (bytes_eq r.id id) refl (good_at id change missing rs (All-tail (Good s.rules) r rs all) kept fresh)
    where
      go : (b : Bool) → bytes_eq r.id id ≡ b → AllGood (at_row id change missing rs) → AllGood (if b then change r ++ rs else r ∷ at_row id change missing rs)
      go true e later = All-append (Good s.rules) (change r) rs (kept r (All-head (Good s.rules) r rs all) e) (All-tail (Good s.rules) r rs all)
      go false e later = All-cons (Good s.rules) r _ (All-head (Good s.rules) r rs all) later

  one_good : (r : Row) → Good s.rules r → AllGood (r ∷ [])
  one_good r good = All-cons (Good s.rules) r [] good (All-nil (Good s.rules))

  same_rule : (a b : Rule) → IsOwn s.rules a → arg_by_id s.rules a.id ≡ Some b → a ≡ b
  same_rule a b is e = ap (λ o. unwrap_or o a) (sym is.0 ∙ e)

  good_values : (a : Rule) → IsOwn s.rules a → (from : ValueSource) (vs : List Text) → values_fault a vs ≡ [] → (rows : List Row) → AllGood rows
      → AllGood (with_values a.id (reading_by a) from vs rows)
  good_values a is from vs pass rows all = good_at a.id (more_values from vs) _ rows all kept (one_good _ fresh)
    where
      passes : (b : Rule) → arg_by_id s.rules a.id ≡ Some b → (values_fault b vs ≡ []) × (reading_by a ≡ reading_by b)
      passes b e = subst (λ (b : Rule). (values_fault b vs ≡ []) × (reading_by a ≡ reading_by b)) (same_rule a b is e) (pass, refl)

      fresh : (b : Rule) → arg_by_id s.rules a.id ≡ Some b → (values_fault b vs ≡ []) × (reading_by a ≡ reading_by b)
      fresh = passes

      kept : (r : Row) → Good s.rules r → bytes_eq r.id a.id ≡ true → AllGood (more_values from vs r)
      kept r good e = one_good _ (λ b found.
          let id : r.id ≡ a.id = (bytes_eq-Decides r.id a.id).0 e in
          (all_none b.ignore_case (parser_of_value b.parser) r.values vs (good b found).0 (passes b (subst (λ (t : Text). arg_by_id s.rules t ≡ Some b) id found)).0, (good b found).1))

  good_without : (id : Text) (rows : List Row) → AllGood rows → AllGood (without id rows)
  good_without id rows all = good_at id (λ _. []) [] rows all (λ r good e. All-nil (Good s.rules)) (All-nil (Good s.rules))

  good_used : (a : Rule) → IsOwn s.rules a → (again : Bool) (values : List Text) (rows : List Row) → use_fault again a values rows ≡ [] → AllGood rows
      → AllGood (used a values rows)
  good_used a is again values rows e all = go (action_of a) is.1 (right_none _ _ e)
    where
      go : (x : ArgAction) → counts x ≡ false → action_fault x again a (values_or_missing a values) rows ≡ [] → AllGood (used_as x a.id (reading_by a) (values_or_missing a values) rows)
      go action.Set p e = good_values a is CommandLine _ (right_none _ _ e) _ (good_without a.id rows all)
      go action.SetTrue p e = good_values a is CommandLine _ (right_none _ _ e) _ (good_without a.id rows all)
      go action.SetFalse p e = good_values a is CommandLine _ (right_none _ _ e) _ (good_without a.id rows all)
      go action.Append p e = good_values a is CommandLine _ e rows all
      go action.Count p e = absurd (true≢false p)
      go action.Help p e = all
      go action.HelpShort p e = all
      go action.HelpLong p e = all
      go action.Version p e = all

  good_settled : (h : Held) → settle_fault s.rules s.args_override_self h ≡ [] → AllGood h.rows → AllGood (settled s.rules h).rows
  good_settled h e all = go h.pending e
    where
      by_id : (id : Text) (values : List Text) (found : Option Rule) → arg_by_id s.rules id ≡ found
          → option_map_or (λ a. use_fault s.args_override_self a values h.rows) found [] ≡ [] → AllGood (used_by_id found values h.rows)
      by_id id values None f e = all
      by_id id values (Some a) f e = good_used a (find_own (IsOwn s.rules) _ s.rules own a f).0 s.args_override_self values h.rows e all

      go : (p : Option (Text × List Text)) → option_map_or (λ p. option_map_or (λ a. use_fault s.args_override_self a p.1 h.rows) (arg_by_id s.rules p.0) []) p [] ≡ []
          → AllGood (settled_rows s.rules p h.rows)
      go None e = all
      go (Some p) e = by_id p.0 p.1 (arg_by_id s.rules p.0) refl e

  good_reacted : (a : Rule) → IsOwn s.rules a → (values : List Text) (h : Held) → react_fault s.rules s.args_override_self a values h ≡ [] → AllGood h.rows
      → AllGood (reacted s.rules a values h).rows
  good_reacted a is values h e all = good_used a is s.args_override_self values _ (right_none _ _ e) (good_settled h (left_none _ _ e) all)

  good_option : (a : Rule) → IsOwn s.rules a → (v : Option Text) (h : Held) → option_fault s.rules s.args_override_self a v h ≡ [] → AllGood h.rows
      → AllGood (option_met s.rules a v h).0.rows
  good_option a is (Some v) h e all = good_reacted a is (v ∷ []) h e all
  good_option a is None h e all = good_settled h e all

  good_long : (found : Option Rule) → ((a : Rule) → found ≡ Some a → IsOwn s.rules a) → (v : Option Text) (h : Held)
      → long_fault s.rules s.args_override_self found v h ≡ [] → AllGood h.rows → AllGood (long_met s.rules found v h).0.rows
  good_long None is v h e all = all
  good_long (Some a) is v h e all = go (takes_values a) e
    where
      flag : (v : Option Text) → (if is_some v then kind.TooManyValues ∷ [] else react_fault s.rules s.args_override_self a [] h) ≡ [] → AllGood (flag_met s.rules a v h).0.rows
      flag (Some v) e = all
      flag None e = good_reacted a (is a refl) [] h e all

      go : (b : Bool) → (if b then option_fault s.rules s.args_override_self a v h else (if is_some v then kind.TooManyValues ∷ [] else react_fault s.rules s.args_override_self a [] h)) ≡ []
          → AllGood (if b then option_met s.rules a v h else flag_met s.rules a v h).0.rows
      go true e = good_option a (is a refl) v h e all
      go false e = flag v e

  good_short : (found : Option Rule) → ((a : Rule) → found ≡ Some a → IsOwn s.rules a) → (rest : Text) (h : Held) (next_met : Held → Held × Outcome) (next_fault : Held → Kinds)
      → ((h : Held) → next_fault h ≡ [] → AllGood h.rows → AllGood (next_met h).0.rows)
      → short_fault s.rules s.args_override_self found rest h next_fault ≡ [] → AllGood h.rows → AllGood (short_met s.rules found rest h next_met).0.rows
  good_short None is rest h next_met next_fault more e all = all
  good_short (Some a) is rest h next_met next_fault more e all = go (takes_values a) e
    where
      go : (b : Bool) → (if b then option_fault s.rules s.args_override_self a (attached_value rest) h else or_else (react_fault s.rules s.args_override_self a [] h) (next_fault (reacted s.rules a [] h))) ≡ []
          → AllGood (if b then option_met s.rules a (attached_value rest) h else next_met (reacted s.rules a [] h)).0.rows
      go true e = good_option a (is a refl) (attached_value rest) h e all
      go false e = more (reacted s.rules a [] h) (right_none _ _ e) (good_reacted a (is a refl) [] h (left_none _ _ e) all)

  good_bundle_step : (o : Option ℕ) (flags : Text) (skip : ℕ) (so_far : Outcome) (h : Held) (next_met : Text → ℕ → Outcome → Held → Held × Outcome) (next_fault : Text → ℕ → Held → Kinds)
      → ((rest : Text) (skip : ℕ) (so_far : Outcome) (h : Held) → next_fault rest skip h ≡ [] → AllGood h.rows → AllGood (next_met rest skip so_far h).0.rows)
      → bundle_step_fault s.rules s.args_override_self o flags skip h next_fault ≡ [] → AllGood h.rows → AllGood (bundle_step s.rules o flags skip so_far h next_met).0.rows
  good_bundle_step None flags skip so_far h next_met next_fault more e all = all
  good_bundle_step (Some x) flags zero so_far h next_met next_fault more e all =
      let rest = drop (length (encode_utf8 x)) flags in
      good_short (arg_by_short s.rules x) (λ a f. (find_own (IsOwn s.rules) _ s.rules own a f).0) rest h (next_met rest 0 done) (next_fault rest 0) (more rest 0 done) e all
  good_bundle_step (Some x) flags (suc skip) so_far h next_met next_fault more e all = more _ skip so_far h e all

  good_bundle : (k : ℕ) (flags : Text) (skip : ℕ) (so_far : Outcome) (h : Held) → flags_fault s.rules s.args_override_self k flags skip h ≡ [] → AllGood h.rows
      → AllGood (bundle_met s.rules k flags skip so_far h).0.rows
  unfolding bundle_met flags_fault
  good_bundle zero flags skip so_far h e all = all
  good_bundle (suc k) flags skip so_far h e all =
      good_bundle_step (slice_get (chars flags) 0) flags skip so_far h (bundle_met s.rules k) (flags_fault s.rules s.args_override_self k) (good_bundle k) e all

  good_plain : (waiting : Waiting) (word : Text) (h : Held) → AllGood h.rows → AllGood (plain_word s.rules waiting word h).0.rows
  good_plain idle word h all = all
  good_plain positional word h all = all
  good_plain (option id) word h all = go (arg_by_id s.rules id)
    where
      go : (found : Option Rule) → AllGood (option_word found id word h).0.rows
      go None = all
      go (Some a) = all

  good_after : (waiting : Waiting) (word : Text) (h : Held) (outcome : Outcome) → AllGood h.rows → AllGood (after_flag s.rules waiting word h outcome).0.rows
  good_after waiting word h done all = all
  good_after waiting word h (waits id) all = all
  good_after waiting word h plain all = good_plain waiting word h all
  good_after waiting word h refused all = good_plain waiting word h all

  good_flag_word : (p : Option (Text × Option Text)) (waiting : Waiting) (word : Text) (h : Held) → flag_word_fault s.rules s.args_override_self p word h ≡ [] → AllGood h.rows
      → AllGood (long_or_other s.rules waiting word p h).0.rows
  good_flag_word (Some p) waiting word h e all =
      good_after waiting word _ _ (good_long (arg_by_long s.rules p.0) (λ a f. (find_own (IsOwn s.rules) _ s.rules own a f).0) p.1 h e all)
  good_flag_word None waiting word h e all = go (short_of word) e
    where
      go : (flags : Option Text) → option_map_or (λ flags. bundle_fault s.rules s.args_override_self flags h) flags [] ≡ [] → AllGood (short_or_plain s.rules waiting word flags h).0.rows
      go None e = good_plain waiting word h all
      go (Some flags) e = good_after waiting word _ _ (good_bundle (length flags) flags h.skip plain (record h { skip = 0 }) e all)

  good_other : (met : Option Text) (waiting : Waiting) (position : ℕ) (word : Text) (h : Held) → other_fault s met word h ≡ [] → AllGood h.rows
      → AllGood (subcommand_or_other s.rules met waiting position word h).0.rows
  good_other (Some name) waiting position word h e all = all
  good_other None waiting position word h e all = go (bytes_eq word (45 ∷ 45 ∷ [])) e
    where
      go : (b : Bool) → (if b then [] else flag_word_fault s.rules s.args_override_self (long_of word) word h) ≡ []
          → AllGood (if b then (h, trailing position) else long_or_other s.rules waiting word (long_of word) h).0.rows
      go true e = all
      go false e = good_flag_word (long_of word) waiting word h e all

  good_word : (names : Names) (is_trailing : Bool) (waiting : Waiting) (position : ℕ) (word : Text) (h : Held) → word_fault s names is_trailing waiting word h ≡ [] → AllGood h.rows
      → AllGood (word_met s.rules names is_trailing waiting position word h).0.rows
  good_word names true waiting position word h e all = all
  good_word names false waiting position word h e all = good_other (subcommand_met names waiting word) waiting position word h e all

  good_step : (word : Text) (w : Walk) (h : Held) (step : Step) → step_fault s w.position h step ≡ [] → AllGood h.rows → AllGood (after_step s.rules word w h step).held.rows
  good_step word w h (next waiting) e all = all
  good_step word w h (trailing position) e all = all
  good_step word w h (subcommand name) e all = all
  good_step word w h value e all = go (arg_by_index s.rules w.position) e
    where
      settles : (a : Rule) (b : Bool) → (if b then [] else settle_fault s.rules s.args_override_self h) ≡ [] → AllGood (pushed a.id word (if b then h else settled s.rules h)).rows
      settles a true e = all
      settles a false e = good_settled h e all

      go : (found : Option Rule) → option_map_or (λ a. positional_fault s.rules s.args_override_self a h) found (stray_fault s) ≡ [] → AllGood (to_positional s.rules found word w h).held.rows
      go None e = all
      go (Some a) e = settles a (is_pending a h.pending && takes_several a) e

  good_turn : (names : Names) (w : Walk) (word : Text) → turn_fault s names w word ≡ [] → AllGood w.held.rows → AllGood (walked s.rules names w word).held.rows
  unfolding walked
  good_turn names w word e all = go w.stopped e
    where
      met : Held × Step
      met = word_met s.rules names w.is_trailing w.waiting w.position word w.held

      go : (p : Option (Text × List Text)) → (if is_some p then [] else or_else (word_fault s names w.is_trailing w.waiting word w.held) (step_fault s w.position met.0 met.1)) ≡ []
          → AllGood (walked_from s.rules names p w word).held.rows
      go (Some p) e = all
      go None e = good_step word w met.0 met.1 (right_none _ _ e) (good_word names w.is_trailing w.waiting w.position word w.held (left_none _ _ e) all)

  good_walk : (names : Names) (words : List Text) (w : Walk) → walk_fault s names w words ≡ [] → AllGood w.held.rows → AllGood (fold (walked s.rules names) w words).held.rows
  unfolding walk_fault
  good_walk names [] w e all = all
  good_walk names (word ∷ words) w e all = good_walk names words (walked s.rules names w word) (right_none _ _ e) (good_turn names w word (left_none _ _ e) all)

  good_default : (a : Rule) → IsOwn s.rules a → (rows : List Row) → default_fault rows a ≡ [] → AllGood rows → AllGood (with_default rows a)
  good_default a is rows e all = go (has_row a.id rows) a.defaults e
    where
      go : (b : Bool) (ds : List Text) → (if b || (length ds == 0) then [] else given_default_fault a ds) ≡ [] → AllGood (if b then rows else default_rows a.id (reading_by a) ds rows)
      go true ds e = all
      go false [] e = all
      go false (d ∷ ds) e =
          let some : (suc (length ds) == 0) ≡ false = ne_eqb _ _ (λ e. omega (arith, e)) in
          let given : given_default_fault a (d ∷ ds) ≡ [] = subst (λ (b : Bool). (if b then [] else given_default_fault a (d ∷ ds)) ≡ []) some e in
          good_values a is DefaultValue (d ∷ ds) (right_none (request_kinds (action_of a)) (values_fault a (d ∷ ds)) given) rows all

  good_defaults : (rules : List Rule) → All (IsOwn s.rules) rules → (rows : List Row) → defaults_fault rows rules ≡ [] → AllGood rows → AllGood (fold with_default rows rules)
  unfolding defaults_fault
  good_defaults [] are rows e all = all
  good_defaults (a ∷ rest) are rows e all =
      good_defaults rest (All-tail (IsOwn s.rules) a rest are) (with_default rows a) (right_none _ _ e)
      (good_default a (All-head (IsOwn s.rules) a rest are) rows (left_none _ _ e) all)

  pub good_level : (names : Names) (words : List Text) → level_fault s names nothing_held words false [] ≡ [] → AllGood (rows_after s.rules names words)
  good_level names words e =
      let walks = left_none _ _ e in
      let later = right_none _ _ e in
      good_defaults s.rules own _ (left_none _ _ (right_none _ _ later))
      (good_settled (walk s.rules names nothing_held words).held (left_none _ _ later) (good_walk names words (walk_from nothing_held) walks (All-nil (Good s.rules))))
