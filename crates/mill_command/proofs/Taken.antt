-- Words that clap takes make a request.
use Rattle.std.proofs.Common.{◌≡◌, ◌∙◌, ◌&&◌, ◌||◌, ◌∷◌, [], ℕ, Bool, true, false, not, cond, refl, sym, ap, subst, arith, true≢false, List, Option, Some, None, Err, is_some}
use Rattle.std.specs.Prelude.{codes, option_and_then}
use Rattle.std.specs.Option.{option_map, option_map_or}
use Rattle.std.specs.Str.{bytes_eq}
use Rattle.std.specs.List.{list_any}
use Rattle.std.proofs.lemmas.Slice.Eq.{bytes_eq-Decides}
use Rattle.clap.specs.Walk.{Row, Rule, Text, has_row, nothing_held, rows_after, settled, stop_after, first_of, walk}
use Rattle.clap.specs.Simple.{Shape, filled, built_leaf, built, entered, help_shape, inherited, is_simple, names_of, rows_at, subcommand_of}
use Rattle.clap.proofs.OnLiterals.{clap_on_literals}
use Rattle.mill_command.proofs.Takes.{built_test, is_bare_app, none}
use Rattle.clap.specs.Takes.{built_takes, is_given, takes}
use Rattle.clap.specs.Faults.{entered_fault, is_simple_and_free, level_fault}
use Rattle.mill_command.specs.Set.{commands, verify, rest, plan, drop, level, stock, sample, workers}
use Rattle.clap.specs.Kinds.{IsAmong, Kinds}
use Rattle.clap.specs.declared.error.kind.ErrorKind.{ErrorKind}
use Rattle.mill_command.specs.Requests.{IsBounded, ReadsWords, Refuses, Request, drop_of, faults, is_taken, level_of, number_in, plan_of, request, request_in, rest_of, sample_of, stock_of, verify_of, verify as verify_files, rest as rest_list, plan as plan_to, drop as drop_at, level as level_at, stock as stock_to, sample as sample_with}
use Rattle.mill_command.specs.declared.refusal.Refusal.{Refusal}
use Rattle.mill_command.specs.declared.refusal.Refusal.TheVariants as refusal
use Rattle.mill_command.proofs.Faultless.{AreSound, IsSound, IsStopped, defaults_make, given_row, given_value, is_full, level_faultless, none_missing, other_sound}
use Rattle.mill_command.proofs.Numbers.{HasNumber, number_found}

-- the shapes of the program and its commands, as building leaves them
abbrev top : Shape
top = (built commands).top

abbrev above : Shape
above = record commands.top { is_built = true }

abbrev verify_shape : Shape
verify_shape = built_leaf (inherited above verify.top)

abbrev rest_shape : Shape
rest_shape = built_leaf (inherited above rest.top)

abbrev plan_shape : Shape
plan_shape = built_leaf (inherited above plan.top)

abbrev drop_shape : Shape
drop_shape = built_leaf (inherited above drop.top)

abbrev level_shape : Shape
level_shape = built_leaf (inherited above level.top)

abbrev stock_shape : Shape
stock_shape = built_leaf (inherited above stock.top)

abbrev sample_shape : Shape
sample_shape = built_leaf (inherited above sample.top)

abbrev topic_shape : Shape
topic_shape = built_leaf help_shape

abbrev HasRequest : Option Request → Type 0
HasRequest o = (asked : Request) × (o ≡ Some asked) × IsBounded asked

verify_some : (job part file : Option Text) (count : Option ℕ) → ((v : Text) × (job ≡ Some v)) → ((v : Text) × (part ≡ Some v)) → ((v : Text) × (file ≡ Some v))
    → HasNumber 64 count → HasRequest (verify_of job part file count)
verify_some job part file count j p f w = (verify_files j.0 p.0 f.0 w.0, rw (j.1, p.1, f.1, w.1) refl, (w.2, w.3))

rest_some : (job part list : Option Text) (count : Option ℕ) → ((v : Text) × (job ≡ Some v)) → ((v : Text) × (part ≡ Some v)) → ((v : Text) × (list ≡ Some v))
    → HasNumber 64 count → HasRequest (rest_of job part list count)
rest_some job part list count j p l w = (rest_list j.0 p.0 l.0 w.0, rw (j.1, p.1, l.1, w.1) refl, (w.2, w.3))

plan_some : (job part out : Option Text) (count : Option ℕ) → ((v : Text) × (job ≡ Some v)) → ((v : Text) × (part ≡ Some v)) → ((v : Text) × (out ≡ Some v))
    → HasNumber 64 count → HasRequest (plan_of job part out count)
plan_some job part out count j p o w = (plan_to j.0 p.0 o.0 w.0, rw (j.1, p.1, o.1, w.1) refl, (w.2, w.3))

drop_some : (job part x y : Option Text) → ((v : Text) × (job ≡ Some v)) → ((v : Text) × (part ≡ Some v)) → ((v : Text) × (x ≡ Some v)) → ((v : Text) × (y ≡ Some v))
    → HasRequest (drop_of job part x y)
drop_some job part x y j p a b = (drop_at j.0 p.0 a.0 b.0, rw (j.1, p.1, a.1, b.1) refl, tt)

level_some : (job part z : Option Text) → ((v : Text) × (job ≡ Some v)) → ((v : Text) × (part ≡ Some v)) → ((v : Text) × (z ≡ Some v)) → HasRequest (level_of job part z)
level_some job part z j p a = (level_at j.0 p.0 a.0, rw (j.1, p.1, a.1) refl, tt)

stock_some : (job file out : Option Text) → ((v : Text) × (job ≡ Some v)) → ((v : Text) × (file ≡ Some v)) → ((v : Text) × (out ≡ Some v)) → HasRequest (stock_of job file out)
stock_some job file out j f o = (stock_to j.0 f.0 o.0, rw (j.1, f.1, o.1) refl, tt)

sample_some : (n count : Option ℕ) → HasNumber 100 n → HasNumber 64 count → HasRequest (sample_of n count)
sample_some n count s w = (sample_with s.0 w.0, rw (s.1, w.1) refl, (s.2, s.3, w.2, w.3))

one_given : (a : Bool) → (not a || false) ≡ false → a ≡ true
one_given true e = refl
one_given false e = absurd (true≢false e)

three_given : (a b d : Bool) → (not a || (not b || (not d || false))) ≡ false → (a ≡ true) × (b ≡ true) × (d ≡ true)
three_given true true true e = (refl, refl, refl)
three_given true true false e = absurd (true≢false e)
three_given true false d e = absurd (true≢false e)
three_given false b d e = absurd (true≢false e)

four_given : (a b d f : Bool) → (not a || (not b || (not d || (not f || false)))) ≡ false → (a ≡ true) × (b ≡ true) × (d ≡ true) × (f ≡ true)
four_given true true true true e = (refl, refl, refl, refl)
four_given true true true false e = absurd (true≢false e)
four_given true true false f e = absurd (true≢false e)
four_given true false d f e = absurd (true≢false e)
four_given false b d f e = absurd (true≢false e)

-- the arguments of each level are as the proof on its walk wants them
workers_sound : IsSound (filled workers)
unfolding clap_on_literals
workers_sound = record { sets = refl; parser = refl; default = refl }

top_sound : AreSound top.rules
top_sound = (other_sound _ refl refl, (other_sound _ refl refl, tt))

verify_sound : AreSound verify_shape.rules
verify_sound = (workers_sound, (other_sound _ refl refl, (other_sound _ refl refl, (other_sound _ refl refl, (other_sound _ refl refl, tt)))))

rest_sound : AreSound rest_shape.rules
rest_sound = (workers_sound, (other_sound _ refl refl, (other_sound _ refl refl, (other_sound _ refl refl, (other_sound _ refl refl, tt)))))

plan_sound : AreSound plan_shape.rules
plan_sound = (workers_sound, (other_sound _ refl refl, (other_sound _ refl refl, (other_sound _ refl refl, (other_sound _ refl refl, tt)))))

drop_sound : AreSound drop_shape.rules
drop_sound = (workers_sound, (other_sound _ refl refl, (other_sound _ refl refl, (other_sound _ refl refl, (other_sound _ refl refl, (other_sound _ refl refl, tt))))))

level_sound : AreSound level_shape.rules
level_sound = (workers_sound, (other_sound _ refl refl, (other_sound _ refl refl, (other_sound _ refl refl, (other_sound _ refl refl, tt)))))

stock_sound : AreSound stock_shape.rules
stock_sound = (workers_sound, (other_sound _ refl refl, (other_sound _ refl refl, (other_sound _ refl refl, (other_sound _ refl refl, tt)))))

sample_sound : AreSound sample_shape.rules
unfolding clap_on_literals
sample_sound = (workers_sound, (record { sets = refl; parser = refl; default = refl }, (other_sound _ refl refl, tt)))

-- there is a row for the workers
has_workers : (c : List Rule) (words : List Text) → list_any (λ (a : Rule). bytes_eq a.id (codes "workers") && is_full a.defaults) c ≡ true
    → has_row (codes "workers") (rows_after c [] words) ≡ true
has_workers c words e = defaults_make (codes "workers") c (settled c (walk c [] nothing_held words).held).rows e

verify_asks : (words : List Text) → level_fault verify_shape [] nothing_held words false [] ≡ [] → HasRequest (request_in (codes "verify") (rows_after verify_shape.rules [] words))
verify_asks words none =
    let rows = rows_after verify_shape.rules [] words in
    let level = level_faultless verify_shape [] words false [] verify_sound none in
    let given = three_given (is_given (codes "job") rows) (is_given (codes "part") rows) (is_given (codes "file") rows) (none_missing verify_shape rows false level.checked).1 in
    verify_some (first_of (codes "job") rows) (first_of (codes "part") rows) (first_of (codes "file") rows) (number_in (codes "workers") rows)
    (given_value (codes "job") rows level.right given.0) (given_value (codes "part") rows level.right given.1) (given_value (codes "file") rows level.right given.2)
    (number_found (codes "workers") 64 rows refl (omega arith) level.right (has_workers verify_shape.rules words refl))

rest_asks : (words : List Text) → level_fault rest_shape [] nothing_held words false [] ≡ [] → HasRequest (request_in (codes "rest") (rows_after rest_shape.rules [] words))
rest_asks words none =
    let rows = rows_after rest_shape.rules [] words in
    let level = level_faultless rest_shape [] words false [] rest_sound none in
    let given = three_given (is_given (codes "job") rows) (is_given (codes "part") rows) (is_given (codes "list") rows) (none_missing rest_shape rows false level.checked).1 in
    rest_some (first_of (codes "job") rows) (first_of (codes "part") rows) (first_of (codes "list") rows) (number_in (codes "workers") rows)
    (given_value (codes "job") rows level.right given.0) (given_value (codes "part") rows level.right given.1) (given_value (codes "list") rows level.right given.2)
    (number_found (codes "workers") 64 rows refl (omega arith) level.right (has_workers rest_shape.rules words refl))

plan_asks : (words : List Text) → level_fault plan_shape [] nothing_held words false [] ≡ [] → HasRequest (request_in (codes "plan") (rows_after plan_shape.rules [] words))
plan_asks words none =
    let rows = rows_after plan_shape.rules [] words in
    let level = level_faultless plan_shape [] words false [] plan_sound none in
    let given = three_given (is_given (codes "job") rows) (is_given (codes "part") rows) (is_given (codes "out") rows) (none_missing plan_shape rows false level.checked).1 in
    plan_some (first_of (codes "job") rows) (first_of (codes "part") rows) (first_of (codes "out") rows) (number_in (codes "workers") rows)
    (given_value (codes "job") rows level.right given.0) (given_value (codes "part") rows level.right given.1) (given_value (codes "out") rows level.right given.2)
    (number_found (codes "workers") 64 rows refl (omega arith) level.right (has_workers plan_shape.rules words refl))

drop_asks : (words : List Text) → level_fault drop_shape [] nothing_held words false [] ≡ [] → HasRequest (request_in (codes "drop") (rows_after drop_shape.rules [] words))
drop_asks words none =
    let rows = rows_after drop_shape.rules [] words in
    let level = level_faultless drop_shape [] words false [] drop_sound none in
    let given = four_given (is_given (codes "job") rows) (is_given (codes "part") rows) (is_given (codes "x") rows) (is_given (codes "y") rows) (none_missing drop_shape rows false level.checked).1 in
    drop_some (first_of (codes "job") rows) (first_of (codes "part") rows) (first_of (codes "x") rows) (first_of (codes "y") rows)
    (given_value (codes "job") rows level.right given.0) (given_value (codes "part") rows level.right given.1)
    (given_value (codes "x") rows level.right given.2) (given_value (codes "y") rows level.right given.3)

level_asks : (words : List Text) → level_fault level_shape [] nothing_held words false [] ≡ [] → HasRequest (request_in (codes "level") (rows_after level_shape.rules [] words))
level_asks words none =
    let rows = rows_after level_shape.rules [] words in
    let level = level_faultless level_shape [] words false [] level_sound none in
    let given = three_given (is_given (codes "job") rows) (is_given (codes "part") rows) (is_given (codes "z") rows) (none_missing level_shape rows false level.checked).1 in
    level_some (first_of (codes "job") rows) (first_of (codes "part") rows) (first_of (codes "z") rows)
    (given_value (codes "job") rows level.right given.0) (given_value (codes "part") rows level.right given.1) (given_value (codes "z") rows level.right given.2)

stock_asks : (words : List Text) → level_fault stock_shape [] nothing_held words false [] ≡ [] → HasRequest (request_in (codes "stock") (rows_after stock_shape.rules [] words))
stock_asks words none =
    let rows = rows_after stock_shape.rules [] words in
    let level = level_faultless stock_shape [] words false [] stock_sound none in
    let given = three_given (is_given (codes "job") rows) (is_given (codes "file") rows) (is_given (codes "out") rows) (none_missing stock_shape rows false level.checked).1 in
    stock_some (first_of (codes "job") rows) (first_of (codes "file") rows) (first_of (codes "out") rows)
    (given_value (codes "job") rows level.right given.0) (given_value (codes "file") rows level.right given.1) (given_value (codes "out") rows level.right given.2)

sample_asks : (words : List Text) → level_fault sample_shape [] nothing_held words false [] ≡ [] → HasRequest (request_in (codes "sample") (rows_after sample_shape.rules [] words))
sample_asks words none =
    let rows = rows_after sample_shape.rules [] words in
    let level = level_faultless sample_shape [] words false [] sample_sound none in
    let given = one_given (is_given (codes "n") rows) (none_missing sample_shape rows false level.checked).1 in
    sample_some (number_in (codes "n") rows) (number_in (codes "workers") rows)
    (number_found (codes "n") 100 rows refl (omega arith) level.right (given_row (codes "n") rows given))
    (number_found (codes "workers") 64 rows refl (omega arith) level.right (has_workers sample_shape.rules words refl))

-- the command that answers to a name, given which names are its own
abbrev met : Bool → Bool → Bool → Bool → Bool → Bool → Bool → Bool → Option Shape
met v r p d l t s h =
    cond (v || false) (Some verify_shape) (cond (r || false) (Some rest_shape) (cond (p || false) (Some plan_shape) (cond (d || false) (Some drop_shape) (cond (l || false) (Some level_shape) (cond (t || false) (Some stock_shape) (cond (s || false) (Some sample_shape) (cond (h || false) (Some topic_shape) None)))))))

-- the subcommand that was met is one of the commands
named : (v r p d l t s h : Bool) (words : List Text) → h ≡ false
    → option_map_or (λ (s : Shape). level_fault s [] nothing_held words false []) (met v r p d l t s h) [] ≡ []
    → is_some (option_map (λ (s : Shape). rows_at s words) (met v r p d l t s h)) ≡ true
    → HasRequest (option_and_then (λ (m : Text × List Row). request_in m.0 m.1) (option_map (λ (s : Shape). rows_at s words) (met v r p d l t s h)))
named true r p d l t s h words other none some = verify_asks words none
named false true p d l t s h words other none some = rest_asks words none
named false false true d l t s h words other none some = plan_asks words none
named false false false true l t s h words other none some = drop_asks words none
named false false false false true t s h words other none some = level_asks words none
named false false false false false true s h words other none some = stock_asks words none
named false false false false false false true h words other none some = sample_asks words none
named false false false false false false false true words other none some = absurd (true≢false other)
named false false false false false false false false words other none some = absurd (true≢false (sym some))

-- the name of the command for help, either way round
help_named : (name : Text) → (bytes_eq name (codes "help") && true) ≡ false → bytes_eq (codes "help") name ≡ false
help_named name other = go (bytes_eq (codes "help") name) refl
  where
    go : (b : Bool) → bytes_eq (codes "help") name ≡ b → b ≡ false
    go false e = refl
    go true e = let same : bytes_eq name (codes "help") ≡ true = (bytes_eq-Decides name (codes "help")).1 (sym ((bytes_eq-Decides (codes "help") name).0 e)) in
        absurd (true≢false (sym (ap (λ b. b && true) same) ∙ other))

entered_asks : (stop : Option (Text × List Text)) → IsStopped top stop → entered_fault (built commands) stop ≡ [] → is_some (entered (built commands) stop) ≡ true
    → HasRequest (option_and_then (λ (m : Text × List Row). request_in m.0 m.1) (entered (built commands) stop))
entered_asks None stop none some = absurd (true≢false (sym some))
entered_asks (Some p) stop none some = named (bytes_eq (codes "verify") p.0) (bytes_eq (codes "rest") p.0) (bytes_eq (codes "plan") p.0) (bytes_eq (codes "drop") p.0) (bytes_eq (codes "level") p.0) (bytes_eq (codes "stock") p.0) (bytes_eq (codes "sample") p.0) (bytes_eq (codes "help") p.0) p.1 (help_named p.0 stop) none some

wanted : (b : Bool) → (not b && true) ≡ false → b ≡ true
wanted true e = refl
wanted false e = absurd (true≢false e)

-- words in which clap finds no fault make a request
pub taken_asks : (words : List Text) → faults words ≡ [] → HasRequest (option_and_then (λ (m : Text × List Row). request_in m.0 m.1) (subcommand_of commands words))
taken_asks words none =
    let stop = stop_after top.rules (names_of (built commands)) words in
    let level = level_faultless top (names_of (built commands)) words (is_some (entered (built commands) stop)) (entered_fault (built commands) stop) top_sound none in
    entered_asks stop level.stop level.under (wanted (is_some (entered (built commands) stop)) (none_missing top (rows_after top.rules (names_of (built commands)) words) (is_some (entered (built commands) stop)) level.checked).0)

pub are_plain : is_simple commands ≡ true
unfolding clap_on_literals
are_plain = refl

pub are_simple : is_simple_and_free commands ≡ true
unfolding clap_on_literals
are_simple = refl

are_bare : is_bare_app (built commands) ≡ true
unfolding clap_on_literals
are_bare = refl

-- clap's test of whether it takes the words is that it finds no fault in them
pub takes_faultless : (words : List Text) → takes commands words ≡ none (faults words)
takes_faultless words = ap (λ b. b && built_takes (built commands) nothing_held words) are_plain ∙ built_test (built commands) words are_bare

among_some : (k : ErrorKind) (kinds : Kinds) → IsAmong k kinds → none kinds ≡ false
among_some k [] e = absurd e
among_some k (x ∷ xs) e = refl

not_taken : (words : List Text) (k : ErrorKind) → IsAmong k (faults words) → is_taken words ≡ false
not_taken words k e = takes_faultless words ∙ among_some k (faults words) e

-- where clap finds no fault, the request is that of the subcommand
pub taken : (words : List Text) → faults words ≡ [] → request words ≡ option_and_then (λ (m : Text × List Row). request_in m.0 m.1) (subcommand_of commands words)
taken words e = ap (λ b. cond b (option_and_then (λ (m : Text × List Row). request_in m.0 m.1) (subcommand_of commands words)) None) (takes_faultless words ∙ ap none e)

-- a refusal is one of words that aren't taken
pub refused : (words : List Text) (r : Refusal) → Refuses (faults words) r → ReadsWords words (Err r)
refused words (refusal.Help text) e = (not_taken words e.0 e.1, e)
refused words (refusal.NotTaken text) e = (not_taken words e.0 e.1, e)
refused words refusal.WantOfMemory e = tt

-- words that clap takes make a request
pub whole : (words : List Text) → is_some (request words) ≡ is_taken words
whole words = go (is_taken words) refl
  where
    all : (kinds : Kinds) → none kinds ≡ true → kinds ≡ []
    all [] e = refl
    all (k ∷ ks) e = absurd (true≢false (sym e))

    go : (b : Bool) → is_taken words ≡ b → is_some (cond b (option_and_then (λ (m : Text × List Row). request_in m.0 m.1) (subcommand_of commands words)) None) ≡ b
    go true e = ap is_some (taken_asks words (all (faults words) (sym (takes_faultless words) ∙ e))).1
    go false e = refl

abbrev IsBoundedIf : Option Request → Type 0
IsBoundedIf None = Unit {0}
IsBoundedIf (Some asked) = IsBounded asked

-- and its numbers are in their ranges
pub bounded : (words : List Text) → faults words ≡ [] → (asked : Request)
    → option_and_then (λ (m : Text × List Row). request_in m.0 m.1) (subcommand_of commands words) ≡ Some asked → IsBounded asked
bounded words none asked is =
    let some = taken_asks words none in
    subst (λ (o : Option Request). IsBoundedIf o) (sym some.1 ∙ is) some.2
