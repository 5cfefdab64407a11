-- Words that clap takes name the three files.
use Rattle.std.proofs.Common.{◌≡◌, ◌∙◌, ◌&&◌, ◌||◌, ◌∷◌, [], ℕ, Bool, true, false, not, cond, refl, sym, ap, subst, arith, true≢false, List, Option, Some, None, Err, is_some}
use Rattle.std.specs.Prelude.{codes}
use Rattle.std.specs.Str.{bytes_eq}
use Rattle.std.specs.List.{list_any}
use Rattle.clap.specs.Walk.{Names, Rule, Text, first_of, has_row, nothing_held, rows_after, settled, stop_after, walk}
use Rattle.clap.specs.Simple.{Shape, built, entered, filled, is_simple, matches_of, names_of}
use Rattle.clap.specs.Takes.{built_takes, is_given, takes}
use Rattle.clap.specs.Faults.{entered_fault, is_simple_and_free}
use Rattle.clap.specs.Kinds.{IsAmong, Kinds}
use Rattle.clap.specs.declared.error.kind.ErrorKind.{ErrorKind}
use Rattle.clap.proofs.OnLiterals.{clap_on_literals}
use Rattle.mill_command.specs.Requests.{Refuses, number_in}
use Rattle.mill_command.specs.Set.{workers}
use Rattle.mill_command.specs.declared.refusal.Refusal.{Refusal}
use Rattle.mill_command.specs.declared.refusal.Refusal.TheVariants as refusal
use Rattle.mill_command.proofs.Faultless.{AreSound, IsSound, defaults_make, given_value, is_full, level_faultless, none_missing, other_sound}
use Rattle.mill_command.proofs.Numbers.{HasNumber, number_found}
use Rattle.mill_command.proofs.Takes.{built_test, is_bare_app, none}
use Rattle.mill_report_run.specs.Words.{IsBounded, ReadsWords, Request, faults, is_taken, request, request_in, request_with, taken_words}

-- the program's arguments, as building leaves them
abbrev top : Shape
top = (built taken_words).top

abbrev HasRequest : Option Request → Type 0
HasRequest o = (asked : Request) × (o ≡ Some asked) × IsBounded asked

some_request : (job part file : Option Text) (count : Option ℕ) → ((v : Text) × (job ≡ Some v)) → ((v : Text) × (part ≡ Some v)) → ((v : Text) × (file ≡ Some v))
    → HasNumber 64 count → HasRequest (request_with job part file count)
some_request job part file count j p f w =
    (record { files = record { job = j.0; part = p.0; program = f.0 }; workers = w.0 }, rw (j.1, p.1, f.1, w.1) refl, (w.2, w.3))

three_given : (a b d : Bool) → (not a || (not b || (not d || false))) ≡ false → (a ≡ true) × (b ≡ true) × (d ≡ true)
three_given true true true e = (refl, refl, refl)
three_given true true false e = absurd (true≢false e)
three_given true false d e = absurd (true≢false e)
three_given false b d e = absurd (true≢false e)

-- the arguments are as the proof on the walk over the words wants them
workers_sound : IsSound (filled workers)
unfolding clap_on_literals
workers_sound = record { sets = refl; parser = refl; default = refl }

top_sound : AreSound top.rules
top_sound = (workers_sound, (other_sound _ refl refl, (other_sound _ refl refl, (other_sound _ refl refl, (other_sound _ refl refl, (other_sound _ refl refl, tt))))))

-- there is a row for the workers
has_workers : (c : List Rule) (names : Names) (words : List Text) → list_any (λ (a : Rule). bytes_eq a.id (codes "workers") && is_full a.defaults) c ≡ true
    → has_row (codes "workers") (rows_after c names words) ≡ true
has_workers c names words e = defaults_make (codes "workers") c (settled c (walk c names nothing_held words).held).rows e

-- words in which clap finds no fault make a request
pub taken_asks : (words : List Text) → faults words ≡ [] → HasRequest (request_in (matches_of taken_words words))
taken_asks words none =
    let names = names_of (built taken_words) in
    let stop = stop_after top.rules names words in
    let has = is_some (entered (built taken_words) stop) in
    let rows = rows_after top.rules names words in
    let level = level_faultless top names words has (entered_fault (built taken_words) stop) top_sound none in
    let given = three_given (is_given (codes "job") rows) (is_given (codes "part") rows) (is_given (codes "file") rows) (none_missing top rows has level.checked).1 in
    some_request (first_of (codes "job") rows) (first_of (codes "part") rows) (first_of (codes "file") rows) (number_in (codes "workers") rows)
    (given_value (codes "job") rows level.right given.0) (given_value (codes "part") rows level.right given.1) (given_value (codes "file") rows level.right given.2)
    (number_found (codes "workers") 64 rows refl (omega arith) level.right (has_workers top.rules names words refl))

pub are_plain : is_simple taken_words ≡ true
unfolding clap_on_literals
are_plain = refl

pub are_simple : is_simple_and_free taken_words ≡ true
unfolding clap_on_literals
are_simple = refl

are_bare : is_bare_app (built taken_words) ≡ true
unfolding clap_on_literals
are_bare = refl

-- clap's test of whether it takes the words is that it finds no fault in them
takes_faultless : (words : List Text) → takes taken_words words ≡ none (faults words)
takes_faultless words = ap (λ b. b && built_takes (built taken_words) nothing_held words) are_plain ∙ built_test (built taken_words) words are_bare

among_some : (k : ErrorKind) (kinds : Kinds) → IsAmong k kinds → none kinds ≡ false
among_some k [] e = absurd e
among_some k (x ∷ xs) e = refl

not_taken : (words : List Text) (k : ErrorKind) → IsAmong k (faults words) → is_taken words ≡ false
not_taken words k e = takes_faultless words ∙ among_some k (faults words) e

-- where clap finds no fault, the request is that of its values
pub taken : (words : List Text) → faults words ≡ [] → request words ≡ request_in (matches_of taken_words words)
taken words e = ap (λ b. cond b (request_in (matches_of taken_words words)) None) (takes_faultless words ∙ ap none e)

-- a refusal is one of words that aren't taken
pub refused : (words : List Text) (r : Refusal) → Refuses (faults words) r → ReadsWords words (Err r)
refused words (refusal.Help text) e = (not_taken words e.0 e.1, e)
refused words (refusal.NotTaken text) e = (not_taken words e.0 e.1, e)
refused words refusal.WantOfMemory e = tt

-- words that clap takes make a request
pub whole : (words : List Text) → is_some (request words) ≡ is_taken words
whole words = go (is_taken words) refl
  where
    all : (kinds : Kinds) → none kinds ≡ true → kinds ≡ []
    all [] e = refl
    all (k ∷ ks) e = absurd (true≢false (sym e))

    go : (b : Bool) → is_taken words ≡ b → is_some (cond b (request_in (matches_of taken_words words)) None) ≡ b
    go true e = ap is_some (taken_asks words (all (faults words) (sym (takes_faultless words) ∙ e))).1
    go false e = refl

abbrev IsBoundedIf : Option Request → Type 0
IsBoundedIf None = Unit {0}
IsBoundedIf (Some asked) = IsBounded asked

-- and its number of threads is in its range
pub bounded : (words : List Text) → faults words ≡ [] → (asked : Request) → request_in (matches_of taken_words words) ≡ Some asked → IsBounded asked
bounded words none asked is =
    let some = taken_asks words none in
    subst (λ (o : Option Request). IsBoundedIf o) (sym some.1 ∙ is) some.2

chosen : (b : Bool) (o : Option Request) (r : Request) → b ≡ false → cond b o None ≡ Some r → ⊥
chosen true o r e h = cc
chosen false o r e h = cc

-- words that aren't taken make no request
pub no_request : (words : List Text) (r : Request) → is_taken words ≡ false → request words ≡ Some r → ⊥
no_request words r e h = chosen (is_taken words) (request_in (matches_of taken_words words)) r e h

-- words make at most one request
pub same_request : (o : Option Request) (a b : Request) → o ≡ Some a → o ≡ Some b → a ≡ b
same_request o a b e h = cc
