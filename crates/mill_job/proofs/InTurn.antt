-- The tables of an array, which are read one by one, each with nothing wrong before the next.
use Rattle.std.proofs.Common.{◌≡◌, ◌∙◌, ◌⊎◌, inl, inr, ap, sym, refl, ℕ, suc, ◌+◌, ◌<◌, ◌≤◌, drop, get_or, Bool, true, false, ◌&&◌, List, [], ◌∷◌, ◌++◌, length, map, Option, Some, None, is_some, arith}
use Rattle.std.proofs.lemmas.Bool.{le-leb, lt-leb}
use Rattle.std.proofs.lemmas.Bool.Decides.{nat_tests}
use Rattle.std.proofs.lemmas.List.{append_assoc, at_drop_more, length-map}
use Rattle.std.specs.Prelude.{nat_le, ◌==◌}
use Rattle.toml.specs.declared.value.Value.{Value}
use Rattle.toml.specs.Data.{Members, as_table}
use Rattle.toml.specs.View.{view, items_view}
use Rattle.mill_job.specs.Tables.{first, kind_fault}
use Rattle.mill_job.specs.declared.fault.JobFault.{JobFault}
use Rattle.mill_job.specs.declared.fault.JobFault.TheVariants.{Range, WantOfMemory}
use Rattle.mill_job.specs.declared.fields.JobFields.{JobFields}
use Rattle.mill_job.specs.declared.key.Key.TheVariants.{Steps}
use Rattle.mill_job.specs.Lists.{all_of, each_fault, is_count, tables, with_rest}
use Rattle.mill_job.specs.Steps.{step_fault, step_of}
use Rattle.mill_job.specs.declared.step.Step.{Step}

-- the tables from a value on are its own and those after it
pub next_table : (vs : List Value) (i : ℕ) (v : Value) → i < length vs → v ≡ get_or vs i v → tables (items_view (drop i vs)) ≡ with_rest (as_table (view v)) (tables (items_view (drop (i + 1) vs)))
next_table vs i v there here =
    at_drop_more (λ (ws : List Value). tables (items_view ws)) vs i v there ∙ ap (λ (w : Value). with_rest (as_table (view w)) (tables (items_view (drop (i + 1) vs)))) (sym here)

-- of all tables these steps were read, nothing is wrong with them, and the rest is left
pub record IsRead (job : JobFields) (all rest : Option (List Members)) (steps : List Step) : Type 0 where
  pub whole : is_some rest ≡ true
  pub fault : each_fault job (all_of rest) ≡ each_fault job (all_of all)
  pub read : steps ++ map step_of (all_of rest) ≡ map step_of (all_of all)

pub at_next : (job : JobFields) (all : Option (List Members)) (vs : List Value) (i : ℕ) (v : Value) (table : Option Members) (steps : List Step) → i < length vs → v ≡ get_or vs i v → table ≡ as_table (view v)
    → IsRead job all (tables (items_view (drop i vs))) steps → IsRead job all (with_rest table (tables (items_view (drop (i + 1) vs)))) steps
at_next job all vs i v table steps there here is read =
    let next : tables (items_view (drop i vs)) ≡ with_rest table (tables (items_view (drop (i + 1) vs))) = next_table vs i v there here ∙ ap (λ (t : Option Members). with_rest t (tables (items_view (drop (i + 1) vs)))) (sym is) in
    rw (← next) read

first-none : (found : Option JobFault) (rest : List (Option JobFault)) → found ≡ None → first (found ∷ rest) ≡ first rest
first-none None rest e = refl
first-none (Some fault) rest e = absurd (cc)

pub first-some : (found : Option JobFault) (rest : List (Option JobFault)) (fault : JobFault) → found ≡ Some fault → first (found ∷ rest) ≡ Some fault
first-some None rest fault e = absurd (cc)
first-some (Some other) rest fault e = e

-- a table with which nothing is wrong is read
pub one_read : (job : JobFields) (all rest : Option (List Members)) (steps : List Step) (ms : Members) (step : Step) → IsRead job all (with_rest (Some ms) rest) steps → step_fault job ms ≡ None → step ≡ step_of ms
    → IsRead job all rest (steps ++ step ∷ [])
one_read job all None steps ms step h fine is = let none : false ≡ true = h.whole in absurd (cc)
one_read job all (Some ts) steps ms step h fine is =
    let next : each_fault job (ms ∷ ts) ≡ each_fault job ts = first-none (step_fault job ms) (map (step_fault job) ts) fine in
    record {
      whole = refl;
      fault = sym next ∙ h.fault;
      read = append_assoc steps (step ∷ []) (map step_of ts) ∙ ap (λ (s : Step). steps ++ s ∷ map step_of ts) is ∙ h.read;
    }

-- a fault of the next table is the first of all
one_fails : (job : JobFields) (all rest : Option (List Members)) (steps : List Step) (ms : Members) (fault : JobFault) → IsRead job all (with_rest (Some ms) rest) steps → step_fault job ms ≡ Some fault
    → each_fault job (all_of all) ≡ Some fault
one_fails job all None steps ms fault h fails = let none : false ≡ true = h.whole in absurd (cc)
one_fails job all (Some ts) steps ms fault h fails = sym h.fault ∙ first-some (step_fault job ms) (map (step_fault job) ts) fault fails

-- what is told of the next table, unless it is read, is what is told of all
pub one_told : (job : JobFields) (all rest : Option (List Members)) (steps : List Step) (ms : Members) (fault : JobFault) → IsRead job all (with_rest (Some ms) rest) steps
    → (step_fault job ms ≡ Some fault) ⊎ (fault ≡ WantOfMemory) → (each_fault job (all_of all) ≡ Some fault) ⊎ (fault ≡ WantOfMemory)
one_told job all rest steps ms fault h (inl fails) = inl (one_fails job all rest steps ms fault h fails)
one_told job all rest steps ms fault h (inr short) = inr short

-- what is told of the tables is the first fault behind none of the steps as a whole
pub told_behind : (whole found : Option JobFault) (fault : JobFault) → whole ≡ None → (found ≡ Some fault) ⊎ (fault ≡ WantOfMemory)
    → (first (whole ∷ found ∷ []) ≡ Some fault) ⊎ (fault ≡ WantOfMemory)
told_behind whole found fault fine (inl there) = inl (first-none whole (found ∷ []) fine ∙ first-some found [] fault there)
told_behind whole found fault fine (inr short) = inr short

-- ---- their number

length-with_rest : (table : Option Members) (rest : Option (List Members)) (n : ℕ) → (is_some rest ≡ true → length (all_of rest) ≡ n) → is_some (with_rest table rest) ≡ true → length (all_of (with_rest table rest)) ≡ suc n
length-with_rest None rest n h whole = absurd (cc)
length-with_rest (Some ms) None n h whole = absurd (cc)
length-with_rest (Some ms) (Some ts) n h whole = ap suc (h refl)

-- an array of tables has as many tables as members
pub length-tables : (vs : List Value) → is_some (tables (items_view vs)) ≡ true → length (all_of (tables (items_view vs))) ≡ length vs
length-tables [] whole = refl
length-tables (v ∷ vs) whole = length-with_rest (as_table (view v)) (tables (items_view vs)) (length vs) (length-tables vs) whole

neither : (a b : Bool) → b ≡ false → (a && b) ≡ false
neither true b e = e
neither false b e = refl

not_first : (a b : Bool) → a ≡ false → (a && b) ≡ false
not_first false b e = refl
not_first true b e = absurd (cc)

both : (a b : Bool) → a ≡ true → b ≡ true → (a && b) ≡ true
both true b p e = e
both false b p e = absurd (cc)

-- one of another length is out of range
pub too_many : (all : Option (List Members)) (n : ℕ) → is_some all ≡ true → length (all_of all) ≡ n → 16 < n → kind_fault Steps is_count all ≡ Some (Range Steps)
too_many None n whole long many = absurd (cc)
too_many (Some ts) n whole long many =
    let size : length ts ≡ n = long in
    let over : nat_le (length ts) 16 ≡ false = lt-leb _ _ (omega arith) in
    let no : is_count ts ≡ false = neither (nat_le 1 (length ts)) (nat_le (length ts) 16) over in
    rw no refl

pub too_few : (all : Option (List Members)) → is_some all ≡ true → length (all_of all) ≡ 0 → kind_fault Steps is_count all ≡ Some (Range Steps)
too_few None whole empty = absurd (cc)
too_few (Some ts) whole empty =
    let size : length ts ≡ 0 = empty in
    let under : nat_le 1 (length ts) ≡ false = lt-leb _ _ (omega arith) in
    let no : is_count ts ≡ false = not_first (nat_le 1 (length ts)) (nat_le (length ts) 16) under in
    rw no refl

fitting : (all : Option (List Members)) (n : ℕ) → is_some all ≡ true → length (all_of all) ≡ n → 0 < n → n ≤ 16 → kind_fault Steps is_count all ≡ None
fitting None n whole long some few = absurd (cc)
fitting (Some ts) n whole long some few =
    let size : length ts ≡ n = long in
    let over : nat_le 1 (length ts) ≡ true = le-leb _ _ (omega arith) in
    let under : nat_le (length ts) 16 ≡ true = le-leb _ _ (omega arith) in
    let yes : is_count ts ≡ true = both (nat_le 1 (length ts)) (nat_le (length ts) 16) over under in
    rw yes refl

-- 1 to 16 tables are neither too few nor too many
pub counted : (vs : List Value) → is_some (tables (items_view vs)) ≡ true → (length vs == 0) ≡ false → length vs ≤ 16 → kind_fault Steps is_count (tables (items_view vs)) ≡ None
counted vs whole some few = fitting (tables (items_view vs)) (length vs) whole (length-tables vs whole) (grind (arith, nat_tests)) few

-- there are as many steps as tables
pub length-steps : (vs : List Value) (steps : List Step) → is_some (tables (items_view vs)) ≡ true → steps ≡ map step_of (all_of (tables (items_view vs))) → length steps ≡ length vs
length-steps vs steps whole are = ap length are ∙ length-map (all_of (tables (items_view vs))) step_of ∙ length-tables vs whole
