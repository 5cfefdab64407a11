-- The fixtures of an array, which are read one by one, each with nothing wrong before the next.
use Rattle.std.proofs.Common.{◌≡◌, ◌≢◌, ◌∙◌, ap, sym, refl, ℕ, suc, ◌+◌, ◌<◌, ◌≤◌, drop, get_or, Bool, true, false, ◌&&◌, List, [], ◌∷◌, ◌++◌, length, All, Option, Some, None, is_some, Ok, Err, if◌then◌else◌, arith}
use Rattle.std.proofs.lemmas.Bool.{le-leb, lt-leb}
use Rattle.std.proofs.lemmas.List.{append_assoc, append-nil, at_drop_more, at_drop_all, length-map}
use Rattle.std.proofs.lemmas.List.Elements.{All-nil}
use Rattle.std.proofs.lemmas.Option.{same_Some}
use Rattle.std.specs.List.{list_all}
use Rattle.std.specs.Prelude.{ℤ, nat_le}
use Rattle.mill_base.specs.declared.points.Box2.{Box2}
use Rattle.mill_base.specs.declared.unit.Unit.{Unit}
use Rattle.toml.specs.declared.value.Value.{Value}
use Rattle.toml.specs.View.{view, items_view}
use Rattle.mill_job.specs.Fixtures.{AreFixtures, IsFixture, are_fixtures, fixture_of, fixtures_of, is_fixture, rows, with_rest}
use Rattle.mill_job.specs.Tables.{as_integers, checked, kind_fault}
use Rattle.mill_job.specs.declared.fault.JobFault.{JobFault}
use Rattle.mill_job.specs.declared.fault.JobFault.TheVariants.{Range}
use Rattle.mill_job.specs.declared.fixtures.Fixture.{Fixture}
use Rattle.mill_job.specs.declared.key.Key.TheVariants.{KeepOut}

-- ---- one of them

-- out of range unless a test holds
abbrev pub unless : Bool → Option JobFault
unless holds = if holds then None else Some (Range KeepOut)

-- what is taken passes its test, and what is refused doesn't
pub passes : {V : Type 0} (test : Bool) (v w : V) → Ok w ≡ checked (unless test) v → (test ≡ true) × (w ≡ v)
passes true v w e = (refl, cc)
passes false v w e = absurd (cc)

pub fails : {V : Type 0} (test : Bool) (v : V) (fault : JobFault) → Err fault ≡ checked (unless test) v → (test ≡ false) × (fault ≡ Range KeepOut)
fails true v fault e = absurd (cc)
fails false v fault e = (refl, cc)

-- one of two tests fails
pub first_fails : (a b : Bool) (fixture : Fixture) (fault : JobFault) → a ≡ false → fault ≡ Range KeepOut → Err fault ≡ checked (unless (a && b)) fixture
first_fails false b fixture fault e f = ap Err f
first_fails true b fixture fault e f = absurd (cc)

pub second_fails : (a b : Bool) (fixture : Fixture) (fault : JobFault) → a ≡ true → b ≡ false → fault ≡ Range KeepOut → Err fault ≡ checked (unless (a && b)) fixture
second_fails true false fixture fault e g f = ap Err f
second_fails true true fixture fault e g f = absurd (cc)
second_fails false b fixture fault e g f = absurd (cc)

abbrev pub box : Box2 → ℤ → Fixture
box area height = record { area = area; height = height }

-- both hold
pub stands : (a b : Bool) (area given : Box2) (height z : ℤ) → a ≡ true → b ≡ true → area ≡ given → height ≡ z → Ok (box area height) ≡ checked (unless (a && b)) (box given z)
stands true true area given height z e g is at = rw (is, at) refl
stands true false area given height z e g is at = absurd (cc)
stands false b area given height z e g is at = absurd (cc)

pub is_fixture-other : (unit : Unit) (zs : List ℤ) → length zs ≢ 5 → is_fixture unit zs ≡ false
is_fixture-other unit [] h = refl
is_fixture-other unit (a ∷ []) h = refl
is_fixture-other unit (a ∷ b ∷ []) h = refl
is_fixture-other unit (a ∷ b ∷ c ∷ []) h = refl
is_fixture-other unit (a ∷ b ∷ c ∷ d ∷ []) h = refl
is_fixture-other unit (a ∷ b ∷ c ∷ d ∷ e ∷ []) h = absurd (h refl)
is_fixture-other unit (a ∷ b ∷ c ∷ d ∷ e ∷ f ∷ zs) h = refl

-- a list of five members, by its members
pub are_five : (vs : List Value) (a b c d e : Value) → length vs ≡ 5 → a ≡ get_or vs 0 a → b ≡ get_or vs 1 b → c ≡ get_or vs 2 c → d ≡ get_or vs 3 d → e ≡ get_or vs 4 e → vs ≡ a ∷ b ∷ c ∷ d ∷ e ∷ []
are_five [] a b c d e h ea eb ec ed ee = absurd (omega arith)
are_five (u ∷ []) a b c d e h ea eb ec ed ee = absurd (omega arith)
are_five (u ∷ v ∷ []) a b c d e h ea eb ec ed ee = absurd (omega arith)
are_five (u ∷ v ∷ w ∷ []) a b c d e h ea eb ec ed ee = absurd (omega arith)
are_five (u ∷ v ∷ w ∷ x ∷ []) a b c d e h ea eb ec ed ee = absurd (omega arith)
are_five (u ∷ v ∷ w ∷ x ∷ y ∷ []) a b c d e h ea eb ec ed ee = cc
are_five (u ∷ v ∷ w ∷ x ∷ y ∷ z ∷ vs) a b c d e h ea eb ec ed ee = absurd (omega arith)

-- ---- all of them

-- the rows from a value on are its own and those after it
pub next_row : (vs : List Value) (i : ℕ) (v : Value) → i < length vs → v ≡ get_or vs i v → rows (items_view (drop i vs)) ≡ with_rest (as_integers (view v)) (rows (items_view (drop (i + 1) vs)))
next_row vs i v there here =
    at_drop_more (λ (ws : List Value). rows (items_view ws)) vs i v there ∙ ap (λ (w : Value). with_rest (as_integers (view w)) (rows (items_view (drop (i + 1) vs)))) (sym here)

pub no_more_rows : (vs : List Value) (i : ℕ) → length vs ≤ i → rows (items_view (drop i vs)) ≡ Some []
no_more_rows vs i there = at_drop_all (λ (ws : List Value). rows (items_view ws)) vs i there

abbrev pub all_of : Option (List (List ℤ)) → List (List ℤ)
all_of None = []
all_of (Some zss) = zss

-- of all rows these fixtures were read, nothing is wrong with them, and the rest is left
pub record IsRead (unit : Unit) (all rest : Option (List (List ℤ))) (fixtures : List Fixture) : Type 0 where
  pub whole : is_some rest ≡ true
  pub test : list_all (is_fixture unit) (all_of rest) ≡ list_all (is_fixture unit) (all_of all)
  pub read : fixtures ++ fixtures_of rest ≡ fixtures_of all

pub at_next : (unit : Unit) (all : Option (List (List ℤ))) (vs : List Value) (i : ℕ) (v : Value) (row : Option (List ℤ)) (fixtures : List Fixture) → i < length vs → v ≡ get_or vs i v → row ≡ as_integers (view v)
    → IsRead unit all (rows (items_view (drop i vs))) fixtures → IsRead unit all (with_rest row (rows (items_view (drop (i + 1) vs)))) fixtures
at_next unit all vs i v row fixtures there here is read =
    let next : rows (items_view (drop i vs)) ≡ with_rest row (rows (items_view (drop (i + 1) vs))) = next_row vs i v there here ∙ ap (λ (r : Option (List ℤ)). with_rest r (rows (items_view (drop (i + 1) vs)))) (sym is) in
    rw (← next) read

-- a row with which nothing is wrong is read
pub one_read : (unit : Unit) (all rest : Option (List (List ℤ))) (fixtures : List Fixture) (row : Option (List ℤ)) (fixture : Fixture) → IsRead unit all (with_rest row rest) fixtures
    → Ok fixture ≡ checked (kind_fault KeepOut (is_fixture unit) row) (fixture_of row) → IsRead unit all rest (fixtures ++ fixture ∷ [])
one_read unit all rest fixtures None fixture h e = let none : false ≡ true = h.whole in absurd (cc)
one_read unit all None fixtures (Some zs) fixture h e = let none : false ≡ true = h.whole in absurd (cc)
one_read unit all (Some zss) fixtures (Some zs) fixture h e =
    let (good, is) = passes (is_fixture unit zs) (fixture_of (Some zs)) fixture e in
    let next : list_all (is_fixture unit) (zs ∷ zss) ≡ list_all (is_fixture unit) zss = rw good refl in
    record {
      whole = refl;
      test = sym next ∙ h.test;
      read = append_assoc fixtures (fixture ∷ []) (fixtures_of (Some zss)) ∙ ap (λ (f : Fixture). fixtures ++ f ∷ fixtures_of (Some zss)) is ∙ h.read;
    }

-- what is wrong with the next row is what is wrong with all
pub one_fails : (unit : Unit) (all rest : Option (List (List ℤ))) (fixtures : List Fixture) (row : Option (List ℤ)) (fault : JobFault) → IsRead unit all (with_rest row rest) fixtures
    → Err fault ≡ checked (kind_fault KeepOut (is_fixture unit) row) (fixture_of row) → Err fault ≡ checked (kind_fault KeepOut (are_fixtures unit) all) (fixtures_of all)
one_fails unit all rest fixtures None fault h e = let none : false ≡ true = h.whole in absurd (cc)
one_fails unit all None fixtures (Some zs) fault h e = let none : false ≡ true = h.whole in absurd (cc)
one_fails unit all (Some zss) fixtures (Some zs) fault h e =
    let (bad, is) = fails (is_fixture unit zs) (fixture_of (Some zs)) fault e in
    let next : list_all (is_fixture unit) (zs ∷ zss) ≡ false = rw bad refl in
    of_all all (sym h.test ∙ next) is
  where
    neither : (few : Bool) (test : Bool) → test ≡ false → (few && test) ≡ false
    neither true test g = g
    neither false test g = refl

    of_all : (all : Option (List (List ℤ))) → list_all (is_fixture unit) (all_of all) ≡ false → fault ≡ Range KeepOut → Err fault ≡ checked (kind_fault KeepOut (are_fixtures unit) all) (fixtures_of all)
    of_all None g f = absurd (cc)
    of_all (Some rs) g f =
        let no : are_fixtures unit rs ≡ false = neither (nat_le (length rs) 64) (list_all (is_fixture unit) rs) g in
        rw no (ap Err f)

-- all are read: they are the fixtures
pub all_read : (unit : Unit) (all : Option (List (List ℤ))) (fixtures : List Fixture) → is_some all ≡ true → IsRead unit all (Some []) fixtures → length fixtures ≤ 64
    → Ok fixtures ≡ checked (kind_fault KeepOut (are_fixtures unit) all) (fixtures_of all)
all_read unit None fixtures whole h few = let none : false ≡ true = whole in absurd (cc)
all_read unit (Some zss) fixtures whole h few =
    let same : fixtures ≡ fixtures_of (Some zss) = sym (append-nil fixtures) ∙ h.read in
    let size : length fixtures ≡ length zss = ap length same ∙ length-map zss (λ zs. fixture_of (Some zs)) in
    let fits : nat_le (length zss) 64 ≡ true = le-leb (length zss) 64 (omega (arith, few, size)) in
    let good : list_all (is_fixture unit) zss ≡ true = sym h.test in
    rw (fits, good) (ap Ok same)

-- ---- their number

length-with_rest : (row : Option (List ℤ)) (rest : Option (List (List ℤ))) (n : ℕ) (zss : List (List ℤ)) → ((yss : List (List ℤ)) → rest ≡ Some yss → length yss ≡ n) → with_rest row rest ≡ Some zss → length zss ≡ suc n
length-with_rest None rest n zss h e = absurd (cc)
length-with_rest (Some zs) None n zss h e = absurd (cc)
length-with_rest (Some zs) (Some yss) n zss h e =
    let same : zss ≡ zs ∷ yss = sym (same_Some _ _ e) in
    rw same (ap suc (h yss refl))

-- an array of rows has as many rows as members
pub length-rows : (vs : List Value) (zss : List (List ℤ)) → rows (items_view vs) ≡ Some zss → length zss ≡ length vs
length-rows [] zss e = let same : zss ≡ [] = sym (same_Some _ _ e) in rw same refl
length-rows (v ∷ vs) zss e = length-with_rest (as_integers (view v)) (rows (items_view vs)) (length vs) zss (length-rows vs) e

-- more rows than 64 are out of range
pub too_many : (unit : Unit) (all : Option (List (List ℤ))) → ((zss : List (List ℤ)) → all ≡ Some zss → 64 < length zss) → is_some all ≡ true → Err (Range KeepOut) ≡ checked (kind_fault KeepOut (are_fixtures unit) all) (fixtures_of all)
too_many unit None many whole = let none : false ≡ true = whole in absurd (cc)
too_many unit (Some zss) many whole =
    let long : nat_le (length zss) 64 ≡ false = lt-leb _ _ (many zss refl) in
    rw long refl

-- ---- what is known of them

pub are_some : (unit : Unit) (fixtures : List Fixture) → length fixtures ≤ 64 → All (IsFixture unit) fixtures → AreFixtures unit fixtures
unfolding AreFixtures
are_some unit fixtures few good = (few, good)

pub are_none : (unit : Unit) → AreFixtures unit []
unfolding AreFixtures
are_none unit = (omega arith, All-nil (IsFixture unit))

-- each of them stands as it must
pub each_of : (unit : Unit) (fixtures : List Fixture) → AreFixtures unit fixtures → All (IsFixture unit) fixtures
unfolding AreFixtures
each_of unit fixtures h = h.1
