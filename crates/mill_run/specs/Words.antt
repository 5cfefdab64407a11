-- What the words of the command line ask for.
use Rattle.std.specs.Prelude.{◌≡◌, ◌⊎◌, ℕ, false, List, Some}
use Rattle.mill_answer.specs.Verify.{Files}
use Rattle.mill_command.specs.Requests.{is_taken, request, verify, plan, drop, level, stock, rest, sample}

-- the words are taken as `verify` with these files, with any number of workers
abbrev pub AsksVerify : List (List ℕ) → Files → Type 0
AsksVerify words files = (workers : ℕ) × (request words ≡ Some (verify files.job files.part files.program workers))

-- the names of the job's and the part's file, and of the file that the program is stored in
pub record PlanFiles : Type 0 where
  pub job : List ℕ
  pub part : List ℕ
  pub out : List ℕ

-- the words are taken as `plan` with these files, with any number of workers
abbrev pub AsksPlan : List (List ℕ) → PlanFiles → Type 0
AsksPlan words files = (workers : ℕ) × (request words ≡ Some (plan files.job files.part files.out workers))

-- the names of the job's and the part's file, and the words for x and y
pub record DropWords : Type 0 where
  pub job : List ℕ
  pub part : List ℕ
  pub x : List ℕ
  pub y : List ℕ

-- the words are taken as `drop` with these
abbrev pub AsksDrop : List (List ℕ) → DropWords → Type 0
AsksDrop words given = request words ≡ Some (drop given.job given.part given.x given.y)

-- the names of the job's and the part's file, and the word for z
pub record LevelWords : Type 0 where
  pub job : List ℕ
  pub part : List ℕ
  pub z : List ℕ

-- the words are taken as `level` with these
abbrev pub AsksLevel : List (List ℕ) → LevelWords → Type 0
AsksLevel words given = request words ≡ Some (level given.job given.part given.z)

-- the names of the job's and the program's file, and of the file that the stock is stored in
pub record StockFiles : Type 0 where
  pub job : List ℕ
  pub program : List ℕ
  pub out : List ℕ

-- the words are taken as `stock` with these files
abbrev pub AsksStock : List (List ℕ) → StockFiles → Type 0
AsksStock words files = request words ≡ Some (stock files.job files.program files.out)

-- the names of the job's, the part's and the list's file
pub record RestFiles : Type 0 where
  pub job : List ℕ
  pub part : List ℕ
  pub list : List ℕ

-- the words are taken as `rest` with these files, with any number of workers
abbrev pub AsksRest : List (List ℕ) → RestFiles → Type 0
AsksRest words files = (workers : ℕ) × (request words ≡ Some (rest files.job files.part files.list workers))

-- the words ask for nothing to be stored: they are taken neither as `plan` nor as `stock`
pub record AsksNoFileStored (words : List (List ℕ)) : Type 0 where
  pub no_plan : (files : PlanFiles) → ¬ AsksPlan words files
  pub no_stock : (files : StockFiles) → ¬ AsksStock words files

-- the words are taken as `sample` with this size, with any number of workers
abbrev pub AsksSample : List (List ℕ) → ℕ → Type 0
AsksSample words n = (workers : ℕ) × (request words ≡ Some (sample n workers))

-- the words name no file: they aren't taken, or are taken as `sample`
abbrev pub AsksNoFile : List (List ℕ) → Type 0
AsksNoFile words = (is_taken words ≡ false) ⊎ ((n : ℕ) × AsksSample words n)
