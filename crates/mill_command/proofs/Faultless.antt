-- A level of words in which clap finds no fault gives each of its required arguments a value, and those that take numbers a number.
use Rattle.std.proofs.Common.{◌≡◌, ◌∙◌, ◌&&◌, ◌||◌, ◌++◌, ◌∷◌, [], ℕ, zero, suc, Bool, true, false, not, cond, refl, sym, ap, subst, true≢false, List, length, drop, Option, Some, None, is_some, nat_lt}
use Rattle.std.specs.Prelude.{if◌then◌else◌, encode_utf8, slice_get, option_and_then}
use Rattle.std.specs.List.{find, fold, list_all, list_any}
use Rattle.std.specs.Option.{option_map_or}
use Rattle.std.specs.Str.{bytes_eq, chars}
use Rattle.std.specs.Prelude.{codes}
use Rattle.std.proofs.lemmas.List.Folds.{list_all-append}
use Rattle.clap.specs.Lexer.{long_of, short_of}
use Rattle.clap.specs.Values.{reading_of}
use Rattle.std.proofs.lemmas.Slice.Eq.{bytes_eq-Decides}
use Rattle.clap.specs.Facts.{explicit_source, parser_of_value, unwrap_or_range}
use Rattle.clap.specs.Walk.{Held, Names, Outcome, Row, Rule, Step, Text, Waiting, Walk, action_of, after_flag, after_step, arg_by_id, arg_by_index, arg_by_long, arg_by_short, at_row, attached_value, bundle_met, bundle_step, default_rows, done, first_of, flag_met, has_row, idle, is_pending, long_met, more_values, most_values, next, nothing_held, option, option_met, option_word, plain, plain_word, positional, reacted, reading_by, refused, rows_after, settled, settled_rows, short_met, stop_after, subcommand, subcommand_met, takes_several, takes_values, to_positional, trailing, used_as, used_by_id, value, values_or_missing, waits, walk, walk_from, walked, walked_from, with_default, with_values, without, word_met, short_or_plain, long_or_other, subcommand_or_other}
use Rattle.clap.specs.Simple.{Shape}
use Rattle.clap.specs.Takes.{is_given}
use Rattle.clap.specs.Kinds.{Kinds, check_kinds, or_else, range_kinds, values_kinds, value_kinds}
use Rattle.clap.specs.ValueTests.{accepts}
use Rattle.clap.specs.Faults.{action_fault, bundle_step_fault, check_fault, defaults_fault, flag_word_fault, flags_fault, level_fault, long_fault, option_fault, other_fault, positional_fault, react_fault, settle_fault, short_fault, step_fault, stray_fault, turn_fault, use_fault, values_fault, repeat_fault, walk_fault, word_fault}
use Rattle.clap.specs.declared.builder.action.ArgAction.{ArgAction}
use Rattle.clap.specs.declared.builder.action.ArgAction.TheVariants.{Set, Append, SetTrue, SetFalse, Count, Help, HelpShort, HelpLong, Version}
use Rattle.clap.specs.declared.builder.range.ValueRange.{ValueRange}
use Rattle.clap.specs.declared.builder.value_parser.Reading.{Reading}
use Rattle.clap.specs.declared.builder.value_parser.Reading.TheVariants.{WithoutMinus}
use Rattle.clap.specs.declared.builder.value_parser.ValueParser.{ValueParser}
use Rattle.clap.specs.declared.error.kind.ErrorKind.{ErrorKind}
use Rattle.clap.specs.declared.error.kind.ErrorKind.TheVariants as kind
use Rattle.clap.specs.declared.parser.matches.ValueSource.{ValueSource}
use Rattle.clap.specs.declared.parser.matches.ValueSource.TheVariants.{DefaultValue, CommandLine}
use Rattle.clap.proofs.WalkLemmas.{both}
use Rattle.mill_command.specs.Set.{up_to}

-- ---- lists of kinds

abbrev is_cons : Kinds → Bool
is_cons [] = false
is_cons (k ∷ ks) = true

pub cons_nil : (k : ErrorKind) (ks : Kinds) → k ∷ ks ≡ [] → ⊥
cons_nil k ks e = true≢false (ap is_cons e)

pub first_none : (a b : Kinds) → or_else a b ≡ [] → a ≡ []
first_none [] b e = refl
first_none (k ∷ ks) b e = absurd (cons_nil k ks e)

pub second_none : (a b : Kinds) → or_else a b ≡ [] → b ≡ []
second_none [] b e = e
second_none (k ∷ ks) b e = absurd (cons_nil k ks e)

none_if : (b : Bool) (k : ErrorKind) (ks : Kinds) → cond b (k ∷ ks) [] ≡ [] → b ≡ false
none_if true k ks e = absurd (cons_nil k ks e)
none_if false k ks e = refl

pub and_true : (a b : Bool) → a ≡ true → b ≡ true → (a && b) ≡ true
and_true true b p q = q
and_true false b p q = p

-- ---- rows with values

abbrev pub is_full : List Text → Bool
is_full [] = false
is_full (v ∷ vs) = true

abbrev pub is_unsigned : Reading → Bool
is_unsigned WithoutMinus = true
is_unsigned _ = false

-- the greatest number that is taken under an id, where numbers are
abbrev pub most_of : Text → Option ℕ
most_of id = if bytes_eq id (codes "workers") then Some 64 else (if bytes_eq id (codes "n") then Some 100 else None)

-- the values are numbers from 1 to this one, and are read so
abbrev pub are_numbers : ℕ → Reading → List Text → Bool
are_numbers most how values = is_unsigned how && list_all (accepts false (up_to most)) values

-- the values are numbers up to the greatest, where there is one
abbrev pub are_numbers_if : Option ℕ → Reading → List Text → Bool
are_numbers_if None how values = true
are_numbers_if (Some most) how values = are_numbers most how values

-- under an id that takes numbers the values are such numbers
abbrev pub suits : Text → Reading → List Text → Bool
suits id how values = are_numbers_if (most_of id) how values

-- the row has a value, and where its id takes numbers, such numbers
abbrev pub is_right : Row → Bool
is_right r = is_full r.values && suits r.id r.reading r.values

abbrev pub all_right : List Row → Bool
all_right rows = list_all is_right rows

append_full : (xs ys : List Text) → is_full xs ≡ true → is_full (xs ++ ys) ≡ true
append_full [] ys e = absurd (true≢false (sym e))
append_full (x ∷ xs) ys e = refl

append_suits : (o : Option ℕ) (one other : Reading) (xs ys : List Text) → are_numbers_if o one xs ≡ true → are_numbers_if o other ys ≡ true
    → are_numbers_if o one (xs ++ ys) ≡ true
append_suits None one other xs ys p q = refl
append_suits (Some most) one other xs ys p q =
    let first = both (is_unsigned one) (list_all (accepts false (up_to most)) xs) p in
    let more = both (is_unsigned other) (list_all (accepts false (up_to most)) ys) q in
    and_true (is_unsigned one) (list_all (accepts false (up_to most)) (xs ++ ys)) first.0
    (list_all-append (accepts false (up_to most)) xs ys ∙ and_true _ _ first.1 more.1)

at_row_right : (id : Text) (change : Row → List Row) (missing rows : List Row)
    → ((r : Row) → bytes_eq r.id id ≡ true → is_right r ≡ true → all_right (change r) ≡ true)
    → all_right missing ≡ true → all_right rows ≡ true → all_right (at_row id change missing rows) ≡ true
at_row_right id change missing [] keeps m f = m
at_row_right id change missing (r ∷ rs) keeps m f = go (bytes_eq r.id id) refl (at_row_right id change missing rs keeps m (both (is_right r) (all_right rs) f).1)
  where
    go : (b : Bool) → bytes_eq r.id id ≡ b → all_right (at_row id change missing rs) ≡ true → all_right (cond b (change r ++ rs) (r ∷ at_row id change missing rs)) ≡ true
    go true same rest = list_all-append is_right (change r) rs
        ∙ and_true (all_right (change r)) (all_right rs) (keeps r same (both (is_right r) (all_right rs) f).0) (both (is_right r) (all_right rs) f).1
    go false same rest = and_true (is_right r) (all_right (at_row id change missing rs)) (both (is_right r) (all_right rs) f).0 rest

more_right : (id : Text) (how : Reading) (s : ValueSource) (values : List Text) (r : Row) → suits id how values ≡ true → bytes_eq r.id id ≡ true → is_right r ≡ true
    → all_right (more_values s values r) ≡ true
more_right id how s values r v same h =
    let old = both (is_full r.values) (suits r.id r.reading r.values) h in
    let under : suits r.id how values ≡ true = ap (λ (t : Text). suits t how values) ((bytes_eq-Decides r.id id).0 same) ∙ v in
    and_true (is_full (r.values ++ values) && suits r.id r.reading (r.values ++ values)) true
    (and_true (is_full (r.values ++ values)) (suits r.id r.reading (r.values ++ values)) (append_full r.values values old.0)
    (append_suits (most_of r.id) r.reading how r.values values old.1 under)) refl

with_values_right : (id : Text) (how : Reading) (s : ValueSource) (values : List Text) (rows : List Row) → is_full values ≡ true → suits id how values ≡ true
    → all_right rows ≡ true → all_right (with_values id how s values rows) ≡ true
with_values_right id how s values rows full v f = at_row_right id (more_values s values) _ rows (λ r same h. more_right id how s values r v same h)
    (and_true (is_full values && suits id how values) true (and_true (is_full values) (suits id how values) full v) refl) f

without_right : (id : Text) (rows : List Row) → all_right rows ≡ true → all_right (without id rows) ≡ true
without_right id rows f = at_row_right id (λ _. []) [] rows (λ r same h. refl) refl f

-- ---- one use of an argument

abbrev pub takes_some : ArgAction → ValueRange → Bool
takes_some Set range = nat_lt 0 range.start_inclusive
takes_some Help range = true
takes_some Version range = true
takes_some _ range = false

-- the parser takes numbers up to the greatest, where there is one
abbrev pub ParsesIf : Option ℕ → ValueParser → Type 0
ParsesIf None parser = Unit {0}
ParsesIf (Some most) parser = parser ≡ up_to most

-- the argument sets a value at each use, or asks for help or the version; one whose id takes numbers has their parser, and its defaults are such numbers
pub record IsSound (a : Rule) : Type 0 where
  pub sets : takes_some (action_of a) (unwrap_or_range a.range) ≡ true
  pub parser : ParsesIf (most_of a.id) (parser_of_value a.parser)
  pub default : suits a.id (reading_by a) a.defaults ≡ true

pub other_sound : (a : Rule) → most_of a.id ≡ None → takes_some (action_of a) (unwrap_or_range a.range) ≡ true → IsSound a
other_sound a other sets = record {
  sets = sets;
  parser = subst (λ o. ParsesIf o (parser_of_value a.parser)) (sym other) tt;
  default = ap (λ o. are_numbers_if o (reading_by a) a.defaults) other;
}

abbrev pub AreSound : List Rule → Type 0
AreSound [] = Unit {0}
AreSound (a ∷ c) = IsSound a × AreSound c

passed : (b : Bool) (k : ErrorKind) → cond b [] (k ∷ []) ≡ [] → b ≡ true
passed true k e = refl
passed false k e = absurd (cons_nil k [] e)

all_accepted : (i : Bool) (p : ValueParser) (vs : List Text) → values_kinds i p vs ≡ [] → list_all (accepts i p) vs ≡ true
all_accepted i p [] e = refl
all_accepted i p (v ∷ vs) e = and_true (accepts i p v) (list_all (accepts i p) vs)
    (passed (accepts i p v) _ (first_none (value_kinds i p v) (values_kinds i p vs) e)) (all_accepted i p vs (second_none (value_kinds i p v) (values_kinds i p vs) e))

-- values in which clap finds no fault suit the argument
values_suit : (a : Rule) (vs : List Text) → IsSound a → values_fault a vs ≡ [] → suits a.id (reading_by a) vs ≡ true
values_suit a vs sound none = go (most_of a.id) sound.parser
  where
    go : (o : Option ℕ) → ParsesIf o (parser_of_value a.parser) → are_numbers_if o (reading_by a) vs ≡ true
    go None is = refl
    go (Some most) is =
        and_true (is_unsigned (reading_by a)) (list_all (accepts false (up_to most)) vs)
        (ap (λ (p : ValueParser). is_unsigned (reading_of p)) is)
        (ap (λ (p : ValueParser). list_all (accepts a.ignore_case p) vs) (sym is) ∙ all_accepted a.ignore_case (parser_of_value a.parser) vs none)

no_values : (least most : ℕ) (more : Kinds) → nat_lt 0 least ≡ true → or_else (range_kinds least most 0) more ≡ [] → ⊥
no_values least most more some none =
    let refused : range_kinds least most 0 ≡ kind.InvalidValue ∷ [] = rw some refl in
    cons_nil kind.InvalidValue [] (sym refused ∙ first_none (range_kinds least most 0) more none)

used_right : (x : ArgAction) (again : Bool) (a : Rule) (values : List Text) (rows : List Row) → IsSound a → takes_some x (unwrap_or_range a.range) ≡ true
    → or_else (range_kinds (unwrap_or_range a.range).start_inclusive (most_values a) (length values)) (action_fault x again a (values_or_missing a values) rows) ≡ []
    → all_right rows ≡ true → all_right (used_as x a.id (reading_by a) (values_or_missing a values) rows) ≡ true
used_right Set again a [] rows sound s none f = absurd (no_values (unwrap_or_range a.range).start_inclusive (most_values a) _ s none)
used_right Set again a (v ∷ vs) rows sound s none f =
    let acts = second_none (range_kinds (unwrap_or_range a.range).start_inclusive (most_values a) (length (v ∷ vs))) _ none in
    with_values_right a.id (reading_by a) CommandLine (v ∷ vs) (without a.id rows) refl
    (values_suit a (v ∷ vs) sound (second_none (repeat_fault again a.id rows) (values_fault a (v ∷ vs)) acts)) (without_right a.id rows f)
used_right Help again a values rows sound s none f = f
used_right Version again a values rows sound s none f = f
used_right Append again a values rows sound s none f = absurd (true≢false (sym s))
used_right SetTrue again a values rows sound s none f = absurd (true≢false (sym s))
used_right SetFalse again a values rows sound s none f = absurd (true≢false (sym s))
used_right Count again a values rows sound s none f = absurd (true≢false (sym s))
used_right HelpShort again a values rows sound s none f = absurd (true≢false (sym s))
used_right HelpLong again a values rows sound s none f = absurd (true≢false (sym s))

abbrev IsSoundIf : Option Rule → Type 0
IsSoundIf None = Unit {0}
IsSoundIf (Some a) = IsSound a

find_sound : (p : Rule → Bool) (c : List Rule) → AreSound c → IsSoundIf (find p c)
find_sound p [] s = tt
find_sound p (a ∷ c) s = go (p a) (find_sound p c s.1)
  where
    go : (b : Bool) → IsSoundIf (find p c) → IsSoundIf (cond b (Some a) (find p c))
    go true rest = s.0
    go false rest = rest

used_by_id_right : (again : Bool) (o : Option Rule) (values : List Text) (rows : List Row) → IsSoundIf o
    → option_map_or (λ a. use_fault again a values rows) o [] ≡ [] → all_right rows ≡ true → all_right (used_by_id o values rows) ≡ true
used_by_id_right again None values rows s none f = f
used_by_id_right again (Some a) values rows s none f = used_right (action_of a) again a values rows s s.sets none f

-- ---- the walk over the words

module _ (c : List Rule) (again : Bool) (sound : AreSound c) where
  settled_rows_right : (p : Option (Text × List Text)) (rows : List Row)
      → option_map_or (λ q. option_map_or (λ a. use_fault again a q.1 rows) (arg_by_id c q.0) []) p [] ≡ [] → all_right rows ≡ true
      → all_right (settled_rows c p rows) ≡ true
  settled_rows_right None rows none f = f
  settled_rows_right (Some q) rows none f = used_by_id_right again (arg_by_id c q.0) q.1 rows (find_sound (λ a. bytes_eq a.id q.0) c sound) none f

  settled_right : (h : Held) → settle_fault c again h ≡ [] → all_right h.rows ≡ true → all_right (settled c h).rows ≡ true
  settled_right h none f = settled_rows_right h.pending h.rows none f

  reacted_right : (a : Rule) (values : List Text) (h : Held) → IsSound a → react_fault c again a values h ≡ [] → all_right h.rows ≡ true
      → all_right (reacted c a values h).rows ≡ true
  reacted_right a values h s none f = used_right (action_of a) again a values (settled c h).rows s s.sets (second_none (settle_fault c again h) _ none)
      (settled_right h (first_none (settle_fault c again h) _ none) f)

  option_right : (a : Rule) (v : Option Text) (h : Held) → IsSound a → option_fault c again a v h ≡ [] → all_right h.rows ≡ true
      → all_right (option_met c a v h).0.rows ≡ true
  option_right a (Some v) h s none f = reacted_right a (v ∷ []) h s none f
  option_right a None h s none f = settled_right h none f

  flag_right : (a : Rule) (v : Option Text) (h : Held) → IsSound a
      → cond (is_some v) (kind.TooManyValues ∷ []) (react_fault c again a [] h) ≡ [] → all_right h.rows ≡ true → all_right (flag_met c a v h).0.rows ≡ true
  flag_right a (Some v) h s none f = f
  flag_right a None h s none f = reacted_right a [] h s none f

  long_right : (o : Option Rule) (v : Option Text) (h : Held) → IsSoundIf o → long_fault c again o v h ≡ [] → all_right h.rows ≡ true
      → all_right (long_met c o v h).0.rows ≡ true
  long_right None v h s none f = f
  long_right (Some a) v h s none f = go (takes_values a) none
    where
      go : (b : Bool) → cond b (option_fault c again a v h) (cond (is_some v) (kind.TooManyValues ∷ []) (react_fault c again a [] h)) ≡ []
          → all_right (cond b (option_met c a v h) (flag_met c a v h)).0.rows ≡ true
      go true e = option_right a v h s e f
      go false e = flag_right a v h s e f

  -- a bundle of at most k flags keeps the rows full
  abbrev Bundles : ℕ → Type 0
  Bundles k = (flags : Text) (skip : ℕ) (so_far : Outcome) (h : Held) → flags_fault c again k flags skip h ≡ [] → all_right h.rows ≡ true
      → all_right (bundle_met c k flags skip so_far h).0.rows ≡ true

  short_right : (k : ℕ) → Bundles k → (o : Option Rule) (rest : Text) (h : Held) → IsSoundIf o
      → short_fault c again o rest h (flags_fault c again k rest 0) ≡ [] → all_right h.rows ≡ true
      → all_right (short_met c o rest h (bundle_met c k rest 0 done)).0.rows ≡ true
  short_right k more None rest h s none f = f
  short_right k more (Some a) rest h s none f = go (takes_values a) none
    where
      go : (b : Bool) → cond b (option_fault c again a (attached_value rest) h) (or_else (react_fault c again a [] h) (flags_fault c again k rest 0 (reacted c a [] h))) ≡ []
          → all_right (cond b (option_met c a (attached_value rest) h) (bundle_met c k rest 0 done (reacted c a [] h))).0.rows ≡ true
      go true e = option_right a (attached_value rest) h s e f
      go false e = more rest 0 done (reacted c a [] h) (second_none (react_fault c again a [] h) _ e)
          (reacted_right a [] h s (first_none (react_fault c again a [] h) _ e) f)

  bundle_step_right : (k : ℕ) → Bundles k → (x : Option ℕ) (flags : Text) (skip : ℕ) (so_far : Outcome) (h : Held)
      → bundle_step_fault c again x flags skip h (flags_fault c again k) ≡ [] → all_right h.rows ≡ true
      → all_right (bundle_step c x flags skip so_far h (bundle_met c k)).0.rows ≡ true
  bundle_step_right k more None flags skip so_far h none f = f
  bundle_step_right k more (Some x) flags zero so_far h none f =
      short_right k more (arg_by_short c x) (drop (length (encode_utf8 x)) flags) h (find_sound _ c sound) none f
  bundle_step_right k more (Some x) flags (suc skip) so_far h none f = more (drop (length (encode_utf8 x)) flags) skip so_far h none f

  bundle_right : (k : ℕ) → Bundles k
  unfolding bundle_met flags_fault
  bundle_right zero flags skip so_far h none f = f
  bundle_right (suc k) flags skip so_far h none f = bundle_step_right k (bundle_right k) (slice_get (chars flags) 0) flags skip so_far h none f

-- the step names no command for help
abbrev IsNamed : Shape → Step → Type 0
IsNamed s (subcommand name) = (bytes_eq name (codes "help") && not s.disable_help_subcommand) ≡ false
IsNamed s _ = Unit {0}

-- what a word is leaves each row with a value, and names no command for help
abbrev IsKept : Shape → Held × Step → Type 0
IsKept s m = (all_right m.0.rows ≡ true) × IsNamed s m.1

-- the subcommand that was met is not the one for help
abbrev pub IsStopped : Shape → Option (Text × List Text) → Type 0
IsStopped s None = Unit {0}
IsStopped s (Some p) = (bytes_eq p.0 (codes "help") && not s.disable_help_subcommand) ≡ false

abbrev IsGood : Shape → Walk → Type 0
IsGood s w = (all_right w.held.rows ≡ true) × IsStopped s w.stopped

module _ (s : Shape) (sound : AreSound s.rules) where
  option_word_kept : (o : Option Rule) (id word : Text) (h : Held) → all_right h.rows ≡ true → IsKept s ((option_word o id word h).0, next (option_word o id word h).1)
  option_word_kept None id word h f = (f, tt)
  option_word_kept (Some a) id word h f = (f, tt)

  plain_kept : (waiting : Waiting) (word : Text) (h : Held) → all_right h.rows ≡ true → IsKept s (plain_word s.rules waiting word h)
  plain_kept idle word h f = (f, tt)
  plain_kept (option id) word h f = option_word_kept (arg_by_id s.rules id) id word h f
  plain_kept positional word h f = (f, tt)

  after_flag_kept : (waiting : Waiting) (word : Text) (h : Held) (o : Outcome) → all_right h.rows ≡ true → IsKept s (after_flag s.rules waiting word h o)
  after_flag_kept waiting word h done f = (f, tt)
  after_flag_kept waiting word h (waits id) f = (f, tt)
  after_flag_kept waiting word h plain f = plain_kept waiting word h f
  after_flag_kept waiting word h refused f = plain_kept waiting word h f

  short_kept : (o : Option Text) (waiting : Waiting) (word : Text) (h : Held)
      → option_map_or (λ flags. flags_fault s.rules s.args_override_self (length flags) flags h.skip (record h { skip = 0 })) o [] ≡ [] → all_right h.rows ≡ true
      → IsKept s (short_or_plain s.rules waiting word o h)
  short_kept None waiting word h none f = plain_kept waiting word h f
  short_kept (Some flags) waiting word h none f = after_flag_kept waiting word _ _
      (bundle_right s.rules s.args_override_self sound (length flags) flags h.skip plain (record h { skip = 0 }) none f)

  flag_word_kept : (o : Option (Text × Option Text)) (waiting : Waiting) (word : Text) (h : Held)
      → flag_word_fault s.rules s.args_override_self o word h ≡ [] → all_right h.rows ≡ true → IsKept s (long_or_other s.rules waiting word o h)
  flag_word_kept (Some p) waiting word h none f = after_flag_kept waiting word _ _
      (long_right s.rules s.args_override_self sound (arg_by_long s.rules p.0) p.1 h (find_sound _ s.rules sound) none f)
  flag_word_kept None waiting word h none f = short_kept (short_of word) waiting word h none f

  other_kept : (o : Option Text) (waiting : Waiting) (position : ℕ) (word : Text) (h : Held) → other_fault s o word h ≡ [] → all_right h.rows ≡ true
      → IsKept s (subcommand_or_other s.rules o waiting position word h)
  other_kept (Some name) waiting position word h none f = (f, none_if _ kind.DisplayHelp (kind.InvalidSubcommand ∷ []) none)
  other_kept None waiting position word h none f = go (bytes_eq word (45 ∷ 45 ∷ [])) none
    where
      go : (b : Bool) → cond b [] (flag_word_fault s.rules s.args_override_self (long_of word) word h) ≡ []
          → IsKept s (cond b (h, trailing position) (long_or_other s.rules waiting word (long_of word) h))
      go true e = (f, tt)
      go false e = flag_word_kept (long_of word) waiting word h e f

  word_kept : (is_trailing : Bool) (names : Names) (waiting : Waiting) (position : ℕ) (word : Text) (h : Held)
      → word_fault s names is_trailing waiting word h ≡ [] → all_right h.rows ≡ true → IsKept s (word_met s.rules names is_trailing waiting position word h)
  word_kept true names waiting position word h none f = (f, tt)
  word_kept false names waiting position word h none f = other_kept (subcommand_met names waiting word) waiting position word h none f

  positional_good : (o : Option Rule) (word : Text) (w : Walk) (h : Held)
      → option_map_or (λ a. positional_fault s.rules s.args_override_self a h) o (stray_fault s) ≡ [] → all_right h.rows ≡ true → IsStopped s w.stopped
      → IsGood s (to_positional s.rules o word w h)
  positional_good None word w h none f stop = (f, stop)
  positional_good (Some a) word w h none f stop = (go (is_pending a h.pending && takes_several a) none, tt)
    where
      go : (b : Bool) → cond b [] (settle_fault s.rules s.args_override_self h) ≡ [] → all_right (cond b h (settled s.rules h)).rows ≡ true
      go true e = f
      go false e = settled_right s.rules s.args_override_self sound h e f

  step_good : (step : Step) (word : Text) (w : Walk) (h : Held) → step_fault s w.position h step ≡ [] → all_right h.rows ≡ true → IsNamed s step
      → IsStopped s w.stopped → IsGood s (after_step s.rules word w h step)
  step_good (next waiting) word w h none f named stop = (f, stop)
  step_good (trailing position) word w h none f named stop = (f, stop)
  step_good (subcommand name) word w h none f named stop = (f, named)
  step_good value word w h none f named stop = positional_good (arg_by_index s.rules w.position) word w h none f stop

  turn_good_from : (o : Option (Text × List Text)) (names : Names) (w : Walk) (word : Text)
      → cond (is_some o) [] (or_else (word_fault s names w.is_trailing w.waiting word w.held)
      (step_fault s w.position (word_met s.rules names w.is_trailing w.waiting w.position word w.held).0 (word_met s.rules names w.is_trailing w.waiting w.position word w.held).1)) ≡ []
      → IsStopped s o → IsGood s w → IsGood s (walked_from s.rules names o w word)
  turn_good_from (Some p) names w word none stop good = (good.0, stop)
  turn_good_from None names w word none stop good =
      let kept = word_kept w.is_trailing names w.waiting w.position word w.held (first_none _ _ none) good.0 in
      step_good (word_met s.rules names w.is_trailing w.waiting w.position word w.held).1 word w
      (word_met s.rules names w.is_trailing w.waiting w.position word w.held).0
      (second_none (word_fault s names w.is_trailing w.waiting word w.held) _ none) kept.0 kept.1 good.1

  turn_good : (names : Names) (w : Walk) (word : Text) → turn_fault s names w word ≡ [] → IsGood s w → IsGood s (walked s.rules names w word)
  unfolding walked
  turn_good names w word none good = turn_good_from w.stopped names w word none good.1 good

  walk_good : (words : List Text) (names : Names) (w : Walk) → walk_fault s names w words ≡ [] → IsGood s w → IsGood s (fold (walked s.rules names) w words)
  unfolding walk_fault
  walk_good [] names w none good = good
  walk_good (word ∷ rest) names w none good = walk_good rest names (walked s.rules names w word) (second_none (turn_fault s names w word) _ none)
      (turn_good names w word (first_none (turn_fault s names w word) _ none) good)

-- ---- after the walk

default_rows_right : (id : Text) (how : Reading) (values : List Text) (rows : List Row) → suits id how values ≡ true → all_right rows ≡ true → all_right (default_rows id how values rows) ≡ true
default_rows_right id how [] rows v f = f
default_rows_right id how (x ∷ xs) rows v f = with_values_right id how DefaultValue (x ∷ xs) rows refl v f

with_default_right : (rows : List Row) (a : Rule) → IsSound a → all_right rows ≡ true → all_right (with_default rows a) ≡ true
with_default_right rows a sound f = go (has_row a.id rows)
  where
    go : (b : Bool) → all_right (cond b rows (default_rows a.id (reading_by a) a.defaults rows)) ≡ true
    go true = f
    go false = default_rows_right a.id (reading_by a) a.defaults rows sound.default f

defaults_right : (c : List Rule) (rows : List Row) → AreSound c → all_right rows ≡ true → all_right (fold with_default rows c) ≡ true
defaults_right [] rows sound f = f
defaults_right (a ∷ c) rows sound f = defaults_right c (with_default rows a) sound.1 (with_default_right rows a sound.0 f)

-- a row stays where values are added under some id
values_keep : (id other : Text) (how : Reading) (s : ValueSource) (values : List Text) (rows : List Row) → has_row other rows ≡ true → has_row other (with_values id how s values rows) ≡ true
values_keep id other how s values [] has = absurd (true≢false (sym has))
values_keep id other how s values (r ∷ rs) has = go (bytes_eq r.id id) (λ e. values_keep id other how s values rs e)
  where
    rest : (b : Bool) → (has_row other rs ≡ true → has_row other (with_values id how s values rs) ≡ true) → (b || has_row other rs) ≡ true
        → (b || has_row other (with_values id how s values rs)) ≡ true
    rest true keeps e = refl
    rest false keeps e = keeps e

    go : (b : Bool) → (has_row other rs ≡ true → has_row other (with_values id how s values rs) ≡ true)
        → has_row other (cond b (more_values s values r ++ rs) (r ∷ with_values id how s values rs)) ≡ true
    go true keeps = has
    go false keeps = rest (bytes_eq r.id other) keeps has

-- and there is one under that id
values_make : (id : Text) (how : Reading) (s : ValueSource) (values : List Text) (rows : List Row) → has_row id (with_values id how s values rows) ≡ true
values_make id how s values [] = ap (λ b. b || false) ((bytes_eq-Decides id id).1 refl)
values_make id how s values (r ∷ rs) = go (bytes_eq r.id id) refl (values_make id how s values rs)
  where
    go : (b : Bool) → bytes_eq r.id id ≡ b → has_row id (with_values id how s values rs) ≡ true
        → has_row id (cond b (more_values s values r ++ rs) (r ∷ with_values id how s values rs)) ≡ true
    go true e more = ap (λ b. b || has_row id rs) e
    go false e more = ap (λ b. b || has_row id (with_values id how s values rs)) e ∙ more

default_keeps : (other : Text) (rows : List Row) (a : Rule) → has_row other rows ≡ true → has_row other (with_default rows a) ≡ true
default_keeps other rows a has = go (has_row a.id rows)
  where
    values : (vs : List Text) → has_row other (default_rows a.id (reading_by a) vs rows) ≡ true
    values [] = has
    values (v ∷ vs) = values_keep a.id other (reading_by a) DefaultValue (v ∷ vs) rows has

    go : (b : Bool) → has_row other (cond b rows (default_rows a.id (reading_by a) a.defaults rows)) ≡ true
    go true = has
    go false = values a.defaults

default_makes : (rows : List Row) (a : Rule) → is_full a.defaults ≡ true → has_row a.id (with_default rows a) ≡ true
default_makes rows a full = go (has_row a.id rows) refl
  where
    values : (vs : List Text) → is_full vs ≡ true → has_row a.id (default_rows a.id (reading_by a) vs rows) ≡ true
    values [] e = absurd (true≢false (sym e))
    values (v ∷ vs) e = values_make a.id (reading_by a) DefaultValue (v ∷ vs) rows

    go : (b : Bool) → has_row a.id rows ≡ b → has_row a.id (cond b rows (default_rows a.id (reading_by a) a.defaults rows)) ≡ true
    go true e = e
    go false e = values a.defaults full

defaults_keep : (other : Text) (c : List Rule) (rows : List Row) → has_row other rows ≡ true → has_row other (fold with_default rows c) ≡ true
defaults_keep other [] rows has = has
defaults_keep other (a ∷ c) rows has = defaults_keep other c (with_default rows a) (default_keeps other rows a has)

-- an argument with a default has a row
pub defaults_make : (id : Text) (c : List Rule) (rows : List Row) → list_any (λ (a : Rule). bytes_eq a.id id && is_full a.defaults) c ≡ true
    → has_row id (fold with_default rows c) ≡ true
defaults_make id [] rows e = absurd (true≢false (sym e))
defaults_make id (a ∷ c) rows e = go (bytes_eq a.id id && is_full a.defaults) refl e (λ more. defaults_make id c (with_default rows a) more)
  where
    go : (b : Bool) → (bytes_eq a.id id && is_full a.defaults) ≡ b → (b || list_any (λ (x : Rule). bytes_eq x.id id && is_full x.defaults) c) ≡ true
        → (list_any (λ (x : Rule). bytes_eq x.id id && is_full x.defaults) c ≡ true → has_row id (fold with_default (with_default rows a) c) ≡ true)
        → has_row id (fold with_default (with_default rows a) c) ≡ true
    go true here rest makes =
        let is = both (bytes_eq a.id id) (is_full a.defaults) here in
        defaults_keep id c (with_default rows a) (sym (ap (λ (t : Text). has_row t (with_default rows a)) ((bytes_eq-Decides a.id id).0 is.0)) ∙ default_makes rows a is.1)
    go false here rest makes = makes rest

-- what a level in which clap finds no fault has
pub record IsFaultless (s : Shape) (names : Names) (words : List Text) (has : Bool) (below : Kinds) : Type 0 where
  pub right : all_right (rows_after s.rules names words) ≡ true
  pub stop : IsStopped s (stop_after s.rules names words)
  pub checked : check_fault s (rows_after s.rules names words) has ≡ []
  pub under : below ≡ []

pub level_faultless : (s : Shape) (names : Names) (words : List Text) (has : Bool) (below : Kinds) → AreSound s.rules
    → level_fault s names nothing_held words has below ≡ [] → IsFaultless s names words has below
level_faultless s names words has below sound none =
    let end = (walk s.rules names nothing_held words).held in
    let good = walk_good s sound words names (walk_from nothing_held) (first_none _ _ none) (refl, tt) in
    let after_walk = second_none (walk_fault s names (walk_from nothing_held) words) _ none in
    let after_below = second_none below _ after_walk in
    let settles = first_none (settle_fault s.rules s.args_override_self end) _ after_below in
    let after_settle = second_none (settle_fault s.rules s.args_override_self end) _ after_below in
    record {
      right = defaults_right s.rules (settled s.rules end).rows sound (settled_right s.rules s.args_override_self sound end settles good.0);
      stop = good.1;
      checked = second_none (defaults_fault (settled s.rules end).rows s.rules) _ after_settle;
      under = first_none below _ after_walk;
    }

none_wanted : (a b d : Bool) → check_kinds a b d ≡ [] → (b ≡ false) × (d ≡ false)
none_wanted true b d none = absurd (cons_nil _ [] none)
none_wanted false true d none = absurd (cons_nil _ [] none)
none_wanted false false true none = absurd (cons_nil _ [] none)
none_wanted false false false none = (refl, refl)

-- where the last checks find nothing, a subcommand that must be there is, and so is each argument that must be
pub none_missing : (s : Shape) (rows : List Row) (has : Bool) → check_fault s rows has ≡ []
    → ((not has && s.subcommand_required) ≡ false) × ((not (s.subcommand_negates_reqs && has) && list_any (λ (a : Rule). a.required && not (is_given a.id rows)) s.rules) ≡ false)
none_missing s rows has none = none_wanted (not has && (s.arg_required_else_help && not (list_any (λ (r : Row). explicit_source r.source) rows)))
    (not has && s.subcommand_required) (not (s.subcommand_negates_reqs && has) && list_any (λ (a : Rule). a.required && not (is_given a.id rows)) s.rules) none

-- ---- values

abbrev IsFullIf : Option Row → Type 0
IsFullIf None = Unit {0}
IsFullIf (Some r) = is_full r.values ≡ true

find_full : (p : Row → Bool) (rows : List Row) → all_right rows ≡ true → IsFullIf (find p rows)
find_full p [] f = tt
find_full p (r ∷ rs) f = go (p r) (find_full p rs (both (is_right r) (all_right rs) f).1)
  where
    go : (b : Bool) → IsFullIf (find p rs) → IsFullIf (cond b (Some r) (find p rs))
    go true rest = (both (is_full r.values) (suits r.id r.reading r.values) (both (is_right r) (all_right rs) f).0).0
    go false rest = rest

-- an id has a value
abbrev pub HasValue : Text → List Row → Type 0
HasValue id rows = (v : Text) × (first_of id rows ≡ Some v)

first_value_of : (values : List Text) → is_full values ≡ true → (v : Text) × (slice_get values 0 ≡ Some v)
first_value_of [] f = absurd (true≢false (sym f))
first_value_of (v ∷ vs) f = (v, refl)

-- a row that was given has a value
pub given_value : (id : Text) (rows : List Row) → all_right rows ≡ true → is_given id rows ≡ true → HasValue id rows
given_value id rows f given = go (find (λ (r : Row). bytes_eq r.id id) rows) (find_full _ rows f) given
  where
    go : (o : Option Row) → IsFullIf o → option_map_or (λ (r : Row). explicit_source r.source) o false ≡ true
        → (v : Text) × (option_and_then (λ (r : Row). slice_get r.values 0) o ≡ Some v)
    go None full e = absurd (true≢false (sym e))
    go (Some r) full e = first_value_of r.values full

-- and has a row
pub given_row : (id : Text) (rows : List Row) → is_given id rows ≡ true → has_row id rows ≡ true
given_row id [] given = absurd (true≢false (sym given))
given_row id (r ∷ rs) given = go (bytes_eq r.id id) given (λ more. given_row id rs more)
  where
    go : (b : Bool) → option_map_or (λ (x : Row). explicit_source x.source) (cond b (Some r) (find (λ (x : Row). bytes_eq x.id id) rs)) false ≡ true
        → (is_given id rs ≡ true → has_row id rs ≡ true) → (b || has_row id rs) ≡ true
    go true e below = refl
    go false e below = below e
