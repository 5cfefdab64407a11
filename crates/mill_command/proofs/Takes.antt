-- Clap's test that a command takes the words, and its list of faults: the test holds where the list is empty.
use Rattle.std.proofs.Common.{◌≡◌, ◌∙◌, ◌<◌, ◌≤◌, ◌&&◌, ◌||◌, ◌∷◌, [], ℕ, zero, suc, Bool, true, false, not, cond, refl, sym, ap, ap₂, arith, true≢false, inl, inr, List, length, drop, Option, Some, None, is_some, nat_le, nat_lt}
use Rattle.std.specs.Prelude.{encode_utf8, slice_get, ◌==◌}
use Rattle.std.specs.List.{list_all, list_any, find}
use Rattle.std.specs.Option.{option_map_or}
use Rattle.std.specs.Str.{bytes_eq, chars}
use Rattle.std.specs.Prelude.{codes}
use Rattle.std.specs.Bool.{Decides}
use Rattle.std.proofs.Math.Bool.{and_comm, and_assoc}
use Rattle.std.proofs.lemmas.Bool.{cases_lt}
use Rattle.std.proofs.lemmas.Bool.Decides.{Decides-eqb, Decides-ltb, leb_tells, same_from_decides}
use Rattle.clap.proofs.WalkLemmas.{both}
use Rattle.mill_command.proofs.Faultless.{and_true}
use Rattle.clap.specs.Lexer.{long_of, short_of}
use Rattle.clap.specs.Values.{is_request, refused_kind}
use Rattle.clap.specs.ValueTests.{accepts}
use Rattle.clap.specs.Facts.{explicit_source, parser_of_value, unwrap_or_range}
use Rattle.clap.specs.Walk.{Held, Names, Row, Rule, Step, Text, Waiting, Walk, action_of, answers_to, arg_by_id, arg_by_index, arg_by_long, arg_by_short, attached_value, finished, has_row, is_empty, is_pending, most_values, next, nothing_held, reacted, settled, subcommand, subcommand_met, takes_several, takes_values, trailing, value, values_or_missing, walk, walk_from, walked, with_default, word_met}
use Rattle.clap.specs.Simple.{App, Shape, entered, label_of, names_of}
use Rattle.clap.specs.Takes.{action_passes, bundle_step_passes, built_takes, count_passes, default_passes, entered_passes, flag_word_passes, flags_pass, is_given, is_valid, level_passes, long_passes, option_passes, other_passes, positional_passes, react_passes, set_passes, settle_passes, short_passes, step_passes, turn_passes, use_passes, walk_passes, word_passes}
use Rattle.clap.specs.Kinds.{Kinds, check_kinds, or_else, range_kinds, request_kinds, value_kinds, values_kinds}
use Rattle.clap.specs.Faults.{action_fault, bundle_step_fault, built_fault, check_fault, count_fault, defaults_fault, entered_fault, flag_word_fault, flags_fault, level_fault, long_fault, option_fault, other_fault, positional_fault, react_fault, repeat_fault, set_fault, settle_fault, short_fault, step_fault, stray_fault, turn_fault, use_fault, values_fault, walk_fault, word_fault}
use Rattle.clap.specs.declared.builder.action.ArgAction.{ArgAction}
use Rattle.clap.specs.declared.builder.action.ArgAction.TheVariants.{Set, Append, SetTrue, SetFalse, Count, Help, HelpShort, HelpLong, Version}
use Rattle.clap.specs.declared.builder.value_parser.ValueParser.{ValueParser}
use Rattle.clap.specs.declared.error.kind.ErrorKind.{ErrorKind}
use Rattle.clap.specs.declared.error.kind.ErrorKind.TheVariants as kind

-- ---- tests

-- the list is empty
abbrev pub none : Kinds → Bool
none [] = true
none (k ∷ ks) = false

none_or : (a b : Kinds) → (none a && none b) ≡ none (or_else a b)
none_or [] b = refl
none_or (k ∷ ks) b = refl

both_none : (p q : Bool) (a b : Kinds) → p ≡ none a → q ≡ none b → (p && q) ≡ none (or_else a b)
both_none p q a b x y = ap₂ (λ s t. s && t) x y ∙ none_or a b

none_cond : (b : Bool) (k : ErrorKind) → b ≡ none (cond b [] (k ∷ []))
none_cond true k = refl
none_cond false k = refl

-- ---- one use of an argument

values_test : (i : Bool) (p : ValueParser) (vs : List Text) → list_all (accepts i p) vs ≡ none (values_kinds i p vs)
values_test i p [] = refl
values_test i p (v ∷ vs) = both_none (accepts i p v) (list_all (accepts i p) vs) (value_kinds i p v) (values_kinds i p vs) (none_cond (accepts i p v) (refused_kind p)) (values_test i p vs)

count_test : (a : Rule) (vs : List Text) (rows : List Row) → count_passes a vs rows ≡ none (count_fault a vs rows)
count_test a [] rows = none_cond _ (refused_kind (parser_of_value a.parser))
count_test a (v ∷ vs) rows = values_test a.ignore_case (parser_of_value a.parser) (v ∷ vs)

repeat_test : (has again : Bool) → (not has || again) ≡ none (cond (has && not again) (kind.ArgumentConflict ∷ []) [])
repeat_test true true = refl
repeat_test true false = refl
repeat_test false again = refl

set_test : (again : Bool) (a : Rule) (vs : List Text) (rows : List Row) → set_passes again a vs rows ≡ none (set_fault again a vs rows)
set_test again a vs rows = both_none _ _ (repeat_fault again a.id rows) (values_fault a vs) (repeat_test (has_row a.id rows) again) (values_test a.ignore_case (parser_of_value a.parser) vs)

action_test : (x : ArgAction) (again : Bool) (a : Rule) (vs : List Text) (rows : List Row) → action_passes x again a vs rows ≡ none (action_fault x again a vs rows)
action_test Set again a vs rows = set_test again a vs rows
action_test SetTrue again a vs rows = set_test again a vs rows
action_test SetFalse again a vs rows = set_test again a vs rows
action_test Append again a vs rows = values_test a.ignore_case (parser_of_value a.parser) vs
action_test Count again a vs rows = count_test a vs rows
action_test Help again a vs rows = refl
action_test HelpShort again a vs rows = refl
action_test HelpLong again a vs rows = refl
action_test Version again a vs rows = refl

le_decides : (a b : ℕ) → Decides (nat_le a b) (a ≤ b)
le_decides a b = (
  λ e. elim (leb_tells a b) [
    | inl t ↦ t.1
    | inr f ↦ absurd (true≢false (sym e ∙ f.0))
  ],
  λ low. elim (leb_tells a b) [
    | inl t ↦ t.0
    | inr f ↦ let high : b < a = f.1 in absurd (omega arith)
  ],
)

not_less : (a b : ℕ) → (a < b → false ≡ true) → b ≤ a
not_less a b no_less = elim (cases_lt a b) [
  | inl less ↦ absurd (true≢false (sym (no_less less)))
  | inr most ↦ most
]

-- a number of values in the range
module _ (least most n : ℕ) where
  range_tells : (b one fits few many : Bool) → (b ≡ true → (0 < least) × (n ≡ 0)) → Decides one (least ≡ most) → Decides fits (least ≡ n) → Decides few (n < least) → Decides many (most < n)
      → Decides (none (cond b (kind.InvalidValue ∷ []) (cond one (cond fits [] (kind.WrongNumberOfValues ∷ [])) (cond few (kind.TooFewValues ∷ []) (cond many (kind.TooManyValues ∷ []) [])))))
      ((least ≤ n) × (n ≤ most))
  range_tells true one fits few many z d2 d3 d4 d5 = (
    λ e. absurd (true≢false (sym e)),
    λ p. let some : 0 < least = (z refl).0 in let nothing : n ≡ 0 = (z refl).1 in let low : least ≤ n = p.0 in absurd (omega arith),
  )
  range_tells false true true few many z d2 d3 d4 d5 = (
    λ e. let same : least ≡ most = d2.0 refl in let fit : least ≡ n = d3.0 refl in (omega arith, omega arith),
    λ p. refl,
  )
  range_tells false true false few many z d2 d3 d4 d5 = (
    λ e. absurd (true≢false (sym e)),
    λ p. let same : least ≡ most = d2.0 refl in let low : least ≤ n = p.0 in let high : n ≤ most = p.1 in
        let fit : least ≡ n = omega arith in absurd (true≢false (sym (d3.1 fit))),
  )
  range_tells false false fits true many z d2 d3 d4 d5 = (
    λ e. absurd (true≢false (sym e)),
    λ p. let less : n < least = d4.0 refl in let low : least ≤ n = p.0 in absurd (omega arith),
  )
  range_tells false false fits false true z d2 d3 d4 d5 = (
    λ e. absurd (true≢false (sym e)),
    λ p. let more : most < n = d5.0 refl in let high : n ≤ most = p.1 in absurd (omega arith),
  )
  range_tells false false fits false false z d2 d3 d4 d5 = (
    λ e. (not_less n least d4.1, not_less most n d5.1),
    λ p. refl,
  )

  range_test : (nat_le least n && nat_le n most) ≡ none (range_kinds least most n)
  range_test = same_from_decides {P = (least ≤ n) × (n ≤ most)} (nat_le least n && nat_le n most) (none (range_kinds least most n)) (
    λ e. ((le_decides least n).0 (both _ _ e).0, (le_decides n most).0 (both (nat_le least n) _ e).1),
    λ p. and_true (nat_le least n) (nat_le n most) ((le_decides least n).1 p.0) ((le_decides n most).1 p.1),
  )
      (range_tells (nat_lt 0 least && n == 0) (least == most) (least == n) (nat_lt n least) (nat_lt most n)
      (λ e. ((Decides-ltb 0 least).0 (both _ _ e).0, (Decides-eqb n 0).0 (both (nat_lt 0 least) _ e).1))
      (Decides-eqb least most) (Decides-eqb least n) (Decides-ltb n least) (Decides-ltb most n))

use_test : (again : Bool) (a : Rule) (vs : List Text) (rows : List Row) → use_passes again a vs rows ≡ none (use_fault again a vs rows)
use_test again a vs rows =
    let least = (unwrap_or_range a.range).start_inclusive in
    let acts = action_passes (action_of a) again a (values_or_missing a vs) rows in
    sym (and_assoc (nat_le least (length vs)) (nat_le (length vs) (most_values a)) acts)
    ∙ both_none (nat_le least (length vs) && nat_le (length vs) (most_values a)) acts (range_kinds least (most_values a) (length vs)) (action_fault (action_of a) again a (values_or_missing a vs) rows)
    (range_test least (most_values a) (length vs)) (action_test (action_of a) again a (values_or_missing a vs) rows)

-- ---- the walk

rule_test : (again : Bool) (o : Option Rule) (vs : List Text) (rows : List Row) → option_map_or (λ a. use_passes again a vs rows) o true ≡ none (option_map_or (λ a. use_fault again a vs rows) o [])
rule_test again None vs rows = refl
rule_test again (Some a) vs rows = use_test again a vs rows

module _ (c : List Rule) (again : Bool) where
  pending_test : (p : Option (Text × List Text)) (rows : List Row) → option_map_or (λ q. option_map_or (λ a. use_passes again a q.1 rows) (arg_by_id c q.0) true) p true
      ≡ none (option_map_or (λ q. option_map_or (λ a. use_fault again a q.1 rows) (arg_by_id c q.0) []) p [])
  pending_test None rows = refl
  pending_test (Some q) rows = rule_test again (arg_by_id c q.0) q.1 rows

  settle_test : (h : Held) → settle_passes c again h ≡ none (settle_fault c again h)
  settle_test h = pending_test h.pending h.rows

  react_test : (a : Rule) (vs : List Text) (h : Held) → react_passes c again a vs h ≡ none (react_fault c again a vs h)
  react_test a vs h = both_none _ _ (settle_fault c again h) (use_fault again a vs (settled c h).rows) (settle_test h) (use_test again a vs (settled c h).rows)

  option_test : (a : Rule) (v : Option Text) (h : Held) → option_passes c again a v h ≡ none (option_fault c again a v h)
  option_test a (Some v) h = react_test a (v ∷ []) h
  option_test a None h = settle_test h

  flag_test : (b : Bool) (a : Rule) (h : Held) → (not b && react_passes c again a [] h) ≡ none (cond b (kind.TooManyValues ∷ []) (react_fault c again a [] h))
  flag_test true a h = refl
  flag_test false a h = react_test a [] h

  long_test : (o : Option Rule) (v : Option Text) (h : Held) → long_passes c again o v h ≡ none (long_fault c again o v h)
  long_test None v h = refl
  long_test (Some a) v h = go (takes_values a)
    where
      go : (b : Bool) → cond b (option_passes c again a v h) (not (is_some v) && react_passes c again a [] h)
          ≡ none (cond b (option_fault c again a v h) (cond (is_some v) (kind.TooManyValues ∷ []) (react_fault c again a [] h)))
      go true = option_test a v h
      go false = flag_test (is_some v) a h

  -- the test of at most k flags of a bundle
  abbrev IsFlagsTest : ℕ → Type 0
  IsFlagsTest k = (flags : Text) (skip : ℕ) (h : Held) → flags_pass c again k flags skip h ≡ none (flags_fault c again k flags skip h)

  short_test : (k : ℕ) → IsFlagsTest k → (o : Option Rule) (rest : Text) (h : Held)
      → short_passes c again o rest h (flags_pass c again k rest 0) ≡ none (short_fault c again o rest h (flags_fault c again k rest 0))
  short_test k more None rest h = refl
  short_test k more (Some a) rest h = go (takes_values a)
    where
      go : (b : Bool) → cond b (option_passes c again a (attached_value rest) h) (react_passes c again a [] h && flags_pass c again k rest 0 (reacted c a [] h))
          ≡ none (cond b (option_fault c again a (attached_value rest) h) (or_else (react_fault c again a [] h) (flags_fault c again k rest 0 (reacted c a [] h))))
      go true = option_test a (attached_value rest) h
      go false = both_none _ _ (react_fault c again a [] h) (flags_fault c again k rest 0 (reacted c a [] h)) (react_test a [] h) (more rest 0 (reacted c a [] h))

  bundle_step_test : (k : ℕ) → IsFlagsTest k → (x : Option ℕ) (flags : Text) (skip : ℕ) (h : Held)
      → bundle_step_passes c again x flags skip h (flags_pass c again k) ≡ none (bundle_step_fault c again x flags skip h (flags_fault c again k))
  bundle_step_test k more None flags skip h = refl
  bundle_step_test k more (Some x) flags zero h = short_test k more (arg_by_short c x) (drop (length (encode_utf8 x)) flags) h
  bundle_step_test k more (Some x) flags (suc skip) h = more (drop (length (encode_utf8 x)) flags) skip h

  flags_test : (k : ℕ) → IsFlagsTest k
  unfolding flags_pass flags_fault
  flags_test zero flags skip h = refl
  flags_test (suc k) flags skip h = bundle_step_test k (flags_test k) (slice_get (chars flags) 0) flags skip h

  bundle_test : (o : Option Text) (h : Held)
      → option_map_or (λ flags. flags_pass c again (length flags) flags h.skip (record h { skip = 0 })) o true
      ≡ none (option_map_or (λ flags. flags_fault c again (length flags) flags h.skip (record h { skip = 0 })) o [])
  bundle_test None h = refl
  bundle_test (Some flags) h = flags_test (length flags) flags h.skip (record h { skip = 0 })

  flag_word_test : (o : Option (Text × Option Text)) (word : Text) (h : Held) → flag_word_passes c again o word h ≡ none (flag_word_fault c again o word h)
  flag_word_test (Some p) word h = long_test (arg_by_long c p.0) p.1 h
  flag_word_test None word h = bundle_test (short_of word) h

module _ (s : Shape) where
  help_test : (b d : Bool) → (not b || d) ≡ none (cond (b && not d) (kind.DisplayHelp ∷ kind.InvalidSubcommand ∷ []) [])
  help_test true true = refl
  help_test true false = refl
  help_test false d = refl

  other_test : (o : Option Text) (word : Text) (h : Held) → other_passes s o word h ≡ none (other_fault s o word h)
  other_test (Some name) word h = help_test (bytes_eq name (codes "help")) s.disable_help_subcommand
  other_test None word h = go (bytes_eq word (45 ∷ 45 ∷ []))
    where
      go : (b : Bool) → (b || flag_word_passes s.rules s.args_override_self (long_of word) word h) ≡ none (cond b [] (flag_word_fault s.rules s.args_override_self (long_of word) word h))
      go true = refl
      go false = flag_word_test s.rules s.args_override_self (long_of word) word h

  word_test : (is_trailing : Bool) (names : Names) (waiting : Waiting) (word : Text) (h : Held) → word_passes s names is_trailing waiting word h ≡ none (word_fault s names is_trailing waiting word h)
  word_test true names waiting word h = refl
  word_test false names waiting word h = other_test (subcommand_met names waiting word) word h

  stray_test : (b : Bool) → false ≡ none (cond b (kind.UnknownArgument ∷ []) (kind.UnknownArgument ∷ kind.InvalidSubcommand ∷ []))
  stray_test true = refl
  stray_test false = refl

  positional_test : (o : Option Rule) (h : Held) → option_map_or (λ a. positional_passes s.rules s.args_override_self a h) o false
      ≡ none (option_map_or (λ a. positional_fault s.rules s.args_override_self a h) o (stray_fault s))
  positional_test None h = stray_test s.is_leaf
  positional_test (Some a) h = go (is_pending a h.pending && takes_several a)
    where
      go : (b : Bool) → (b || settle_passes s.rules s.args_override_self h) ≡ none (cond b [] (settle_fault s.rules s.args_override_self h))
      go true = refl
      go false = settle_test s.rules s.args_override_self h

  step_test : (step : Step) (position : ℕ) (h : Held) → step_passes s position h step ≡ none (step_fault s position h step)
  step_test (next waiting) position h = refl
  step_test (trailing p) position h = refl
  step_test (subcommand name) position h = refl
  step_test value position h = positional_test (arg_by_index s.rules position) h

  turn_test : (names : Names) (w : Walk) (word : Text) → turn_passes s names w word ≡ none (turn_fault s names w word)
  turn_test names w word = go (is_some w.stopped)
    where
      go : (b : Bool) → (b || (word_passes s names w.is_trailing w.waiting word w.held && step_passes s w.position (word_met s.rules names w.is_trailing w.waiting w.position word w.held).0 (word_met s.rules names w.is_trailing w.waiting w.position word w.held).1))
          ≡ none (cond b [] (or_else (word_fault s names w.is_trailing w.waiting word w.held) (step_fault s w.position (word_met s.rules names w.is_trailing w.waiting w.position word w.held).0 (word_met s.rules names w.is_trailing w.waiting w.position word w.held).1)))
      go true = refl
      go false = both_none _ _ (word_fault s names w.is_trailing w.waiting word w.held) (step_fault s w.position (word_met s.rules names w.is_trailing w.waiting w.position word w.held).0 (word_met s.rules names w.is_trailing w.waiting w.position word w.held).1)
          (word_test w.is_trailing names w.waiting word w.held) (step_test (word_met s.rules names w.is_trailing w.waiting w.position word w.held).1 w.position (word_met s.rules names w.is_trailing w.waiting w.position word w.held).0)

  walk_test : (words : List Text) (names : Names) (w : Walk) → walk_passes s names w words ≡ none (walk_fault s names w words)
  unfolding walk_passes walk_fault
  walk_test [] names w = refl
  walk_test (word ∷ rest) names w = both_none _ _ (turn_fault s names w word) (walk_fault s names (walked s.rules names w word) rest) (turn_test names w word) (walk_test rest names (walked s.rules names w word))

-- ---- after the walk

-- the argument's default passes, and it has no rule on another
abbrev pub is_bare : Rule → Bool
is_bare a = default_passes a && a.is_free

unasked : (x : ArgAction) → not (is_request x) ≡ true → request_kinds x ≡ []
unasked Set e = refl
unasked Append e = refl
unasked SetTrue e = refl
unasked SetFalse e = refl
unasked Count e = refl
unasked Help e = absurd (true≢false (sym e))
unasked HelpShort e = absurd (true≢false (sym e))
unasked HelpLong e = absurd (true≢false (sym e))
unasked Version e = absurd (true≢false (sym e))

none_nil : (kinds : Kinds) → none kinds ≡ true → kinds ≡ []
none_nil [] e = refl
none_nil (k ∷ ks) e = absurd (true≢false (sym e))

no_default : (has empty passes : Bool) (x : ArgAction) (more : Kinds) → (empty || (not (is_request x) && passes)) ≡ true → passes ≡ none more
    → cond (has || empty) [] (or_else (request_kinds x) more) ≡ []
no_default true empty passes x more e same = refl
no_default false true passes x more e same = refl
no_default false false passes x more e same =
    let is = both (not (is_request x)) passes e in
    ap₂ or_else (unasked x is.0) (none_nil more (sym same ∙ is.1))

defaults_pass : (c : List Rule) → list_all is_bare c ≡ true → list_all default_passes c ≡ true
defaults_pass [] bare = refl
defaults_pass (a ∷ c) bare =
    let here = both (is_bare a) (list_all is_bare c) bare in
    and_true (default_passes a) (list_all default_passes c) (both (default_passes a) a.is_free here.0).0 (defaults_pass c here.1)

defaults_none : (c : List Rule) (rows : List Row) → list_all is_bare c ≡ true → defaults_fault rows c ≡ []
unfolding defaults_fault
defaults_none [] rows bare = refl
defaults_none (a ∷ c) rows bare =
    let here = both (is_bare a) (list_all is_bare c) bare in
    ap₂ or_else (no_default (has_row a.id rows) (is_empty a.defaults) (list_all (accepts a.ignore_case (parser_of_value a.parser)) a.defaults) (action_of a) (values_fault a a.defaults)
    (both (default_passes a) a.is_free here.0).0 (values_test a.ignore_case (parser_of_value a.parser) a.defaults))
    (defaults_none c (with_default rows a) here.1)

all_free : (c : List Rule) → list_all is_bare c ≡ true → list_all (λ (a : Rule). a.is_free) c ≡ true
all_free [] bare = refl
all_free (a ∷ c) bare =
    let here = both (is_bare a) (list_all is_bare c) bare in
    and_true a.is_free (list_all (λ (x : Rule). x.is_free) c) (both (default_passes a) a.is_free here.0).1 (all_free c here.1)

help_wanted : (arg has any : Bool) → (not arg || (has || any)) ≡ not (not has && (arg && not any))
help_wanted true true any = refl
help_wanted true false true = refl
help_wanted true false false = refl
help_wanted false true any = refl
help_wanted false false any = refl

command_wanted : (required has : Bool) → (not required || has) ≡ not (not has && required)
command_wanted true true = refl
command_wanted true false = refl
command_wanted false true = refl
command_wanted false false = refl

one_wanted : (required given alls anys : Bool) → alls ≡ not anys → ((not required || given) && alls) ≡ not ((required && not given) || anys)
one_wanted true true alls anys e = e
one_wanted true false alls anys e = refl
one_wanted false given alls anys e = e

all_given : (rows : List Row) (c : List Rule) → list_all (λ (a : Rule). not a.required || is_given a.id rows) c ≡ not (list_any (λ (a : Rule). a.required && not (is_given a.id rows)) c)
all_given rows [] = refl
all_given rows (a ∷ c) = one_wanted a.required (is_given a.id rows) _ _ (all_given rows c)

arguments_wanted : (negates alls anys : Bool) → alls ≡ not anys → (negates || alls) ≡ not (not negates && anys)
arguments_wanted true alls anys e = refl
arguments_wanted false alls anys e = e

checks_test : (a b d : Bool) → (not a && (not b && not d)) ≡ none (check_kinds a b d)
checks_test true b d = refl
checks_test false true d = refl
checks_test false false true = refl
checks_test false false false = refl

valid_test : (s : Shape) (rows : List Row) (has : Bool) → list_all is_bare s.rules ≡ true → is_valid s rows has ≡ none (check_fault s rows has)
valid_test s rows has bare =
    let any = list_any (λ (r : Row). explicit_source r.source) rows in
    let negates = s.subcommand_negates_reqs && has in
    let alls = list_all (λ (a : Rule). not a.required || is_given a.id rows) s.rules in
    let anys = list_any (λ (a : Rule). a.required && not (is_given a.id rows)) s.rules in
    ap (λ free. (not s.arg_required_else_help || (has || any)) && ((not s.subcommand_required || has) && (free && (negates || alls)))) (all_free s.rules bare)
    ∙ ap₂ (λ x y. x && y) (help_wanted s.arg_required_else_help has any) (ap₂ (λ x y. x && y) (command_wanted s.subcommand_required has) (arguments_wanted negates alls anys (all_given rows s.rules)))
    ∙ checks_test (not has && (s.arg_required_else_help && not any)) (not has && s.subcommand_required) (not negates && anys)

passed_under : (w x b : Bool) → ((w && x) && b) ≡ (w && (b && x))
passed_under true x b = and_comm x b
passed_under false x b = refl

level_test : (s : Shape) (names : Names) (words : List Text) (has : Bool) (below : Kinds) → list_all is_bare s.rules ≡ true
    → (level_passes s names nothing_held words has && none below) ≡ none (level_fault s names nothing_held words has below)
level_test s names words has below bare =
    let end = (walk s.rules names nothing_held words).held in
    let settles = settle_passes s.rules s.args_override_self end in
    let rows = finished s.rules end in
    let defaults = list_all default_passes s.rules in
    passed_under (walk_passes s names (walk_from nothing_held) words) (settles && (defaults && is_valid s rows has)) (none below)
    ∙ both_none _ _ (walk_fault s names (walk_from nothing_held) words) _ (walk_test s words names (walk_from nothing_held))
    (both_none _ _ below _ refl (both_none _ _ (settle_fault s.rules s.args_override_self end) _ (settle_test s.rules s.args_override_self end)
    (both_none _ _ (defaults_fault (settled s.rules end).rows s.rules) (check_fault s rows has)
    (defaults_pass s.rules bare ∙ sym (ap none (defaults_none s.rules (settled s.rules end).rows bare))) (valid_test s rows has bare))))

-- ---- both levels

abbrev is_bare_shape : Shape → Bool
is_bare_shape s = list_all is_bare s.rules

abbrev pub is_bare_app : App → Bool
is_bare_app a = is_bare_shape a.top && list_all is_bare_shape a.subs

and_yes : (b : Bool) → b ≡ (b && true)
and_yes true = refl
and_yes false = refl

sub_test : (p : Shape → Bool) (subs : List Shape) (words : List Text) → list_all is_bare_shape subs ≡ true
    → option_map_or (λ (s : Shape). level_passes s [] nothing_held words false) (find p subs) true ≡ none (option_map_or (λ (s : Shape). level_fault s [] nothing_held words false []) (find p subs) [])
sub_test p [] words bare = refl
sub_test p (s ∷ subs) words bare = go (p s) (sub_test p subs words (both (is_bare_shape s) (list_all is_bare_shape subs) bare).1)
  where
    go : (b : Bool) → option_map_or (λ (x : Shape). level_passes x [] nothing_held words false) (find p subs) true ≡ none (option_map_or (λ (x : Shape). level_fault x [] nothing_held words false []) (find p subs) [])
        → option_map_or (λ (x : Shape). level_passes x [] nothing_held words false) (cond b (Some s) (find p subs)) true ≡ none (option_map_or (λ (x : Shape). level_fault x [] nothing_held words false []) (cond b (Some s) (find p subs)) [])
    go true rest = and_yes (level_passes s [] nothing_held words false) ∙ level_test s [] words false [] (both (is_bare_shape s) (list_all is_bare_shape subs) bare).0
    go false rest = rest

entered_test : (a : App) (stop : Option (Text × List Text)) → list_all is_bare_shape a.subs ≡ true → entered_passes a stop ≡ none (entered_fault a stop)
entered_test a None bare = refl
entered_test a (Some p) bare = sub_test (λ s. answers_to p.0 (label_of s)) a.subs p.1 bare

-- a built command of which the defaults pass, and no argument has a rule on another, passes where it has no fault
pub built_test : (a : App) (words : List Text) → is_bare_app a ≡ true → built_takes a nothing_held words ≡ none (built_fault a nothing_held words)
built_test a words bare =
    let stop = (walk a.top.rules (names_of a) nothing_held words).stopped in
    let level = level_passes a.top (names_of a) nothing_held words (is_some (entered a stop)) in
    let shapes = both (is_bare_shape a.top) (list_all is_bare_shape a.subs) bare in
    and_comm (entered_passes a stop) level ∙ ap (λ b. level && b) (entered_test a stop shapes.1)
    ∙ level_test a.top (names_of a) words (is_some (entered a stop)) (entered_fault a stop) shapes.0
