-- The unknown keys of a table, along the list of its keys.
use Rattle.std.proofs.Common.{◌≡◌, ◌∙◌, ℕ, List, [], ◌∷◌, String, Global, Option, Some, None, true, false, if◌then◌else◌, refl, sym}
use Rattle.std.specs.String.{string_bytes}
use Rattle.std.specs.Map.{keys_of}
use Rattle.toml.specs.declared.value.Value.{Value}
use Rattle.toml.specs.View.{members_view}
use Rattle.mill_job.specs.Keys.{is_name_of, unknown_but}
use Rattle.mill_job.specs.declared.key.Key.{Key}

-- the first text that is none of these keys'
abbrev pub first_but : List Key → List (String Global) → Option (List ℕ)
first_but keys [] = None
first_but keys (name ∷ names) = if is_name_of keys (string_bytes name) then first_but keys names else Some (string_bytes name)

pub first_but-keys : (keys : List Key) (es : List (String Global × Value)) → first_but keys (keys_of es) ≡ unknown_but keys (members_view es)
first_but-keys keys [] = refl
first_but-keys keys (e ∷ es) = rw (first_but-keys keys es) refl

pub goes_on : (keys : List Key) (names rest : List (String Global)) (name : String Global) (answer : Option (List ℕ)) → names ≡ name ∷ rest → is_name_of keys (string_bytes name) ≡ true
    → first_but keys names ≡ answer → first_but keys rest ≡ answer
goes_on keys names rest name answer e known so_far =
    let one : first_but keys names ≡ first_but keys rest = rw (e, known) refl in
    sym one ∙ so_far

pub stops : (keys : List Key) (names rest : List (String Global)) (name : String Global) (answer : Option (List ℕ)) → names ≡ name ∷ rest → is_name_of keys (string_bytes name) ≡ false
    → first_but keys names ≡ answer → Some (string_bytes name) ≡ answer
stops keys names rest name answer e unknown so_far =
    let one : first_but keys names ≡ Some (string_bytes name) = rw (e, unknown) refl in
    sym one ∙ so_far

pub is_done : (keys : List Key) (names : List (String Global)) (answer : Option (List ℕ)) → names ≡ [] → first_but keys names ≡ answer → None ≡ answer
is_done keys names answer e so_far =
    let one : first_but keys names ≡ None = rw e refl in
    sym one ∙ so_far
