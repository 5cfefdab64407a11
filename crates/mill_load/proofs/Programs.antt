-- A program's text, taken piece by piece.
use Rattle.std.proofs.Common.{◌≡◌, ℕ, ◌+◌, ◌≤◌, ◌<◌, List, [], ◌++◌, length, take, Option, Some, None, Ok, Err, refl, sym, ap, ◌∙◌, arith, subst, length-append}
use Rattle.std.specs.Prelude.{IfSome, Result, Bool, true, false, ◌≢◌}
use Rattle.mill_base.specs.declared.limits.TheConstants.{MAX_FILE_BYTES}
use Rattle.mill_base.specs.declared.points.Pt3.{Pt3}
use Rattle.mill_base.specs.declared.motion.Move.{Move}
use Rattle.mill_base.specs.declared.unit.Unit.{Unit as LengthUnit}
use Rattle.mill_base.specs.Ranges.{MovesInUnitRange}
use Rattle.mill_io.specs.Contents.{GivesFrom}
use Rattle.mill_io.specs.Readings.{AreHeld, Reading as FileReading}
use Rattle.mill_io.proofs.Read.{length_more, read_more, read_all}
use Rattle.mill_ngc.specs.Programs.{program_of}
use Rattle.mill_ngc.specs.Pieces.{Reading, reading_at, after_lines, fed, at_end, last_answer, lines_read, AreSound, MovesSoFar}
use Rattle.mill_said.specs.declared.fault.NgcFault.{NgcFault}
use Rattle.mill_said.specs.declared.fault.NgcFault.TheVariants.{WantOfMemory}
use Rattle.mill_said.specs.declared.rules.Rules.{Rules}
use Rattle.mill_ngc.proofs.JoinLemmas.{pieces_join}
use Rattle.mill_ngc.proofs.WholeText.{last_moves, last_fault}
use Rattle.mill_job.specs.declared.fields.JobFields.{JobFields}
use Rattle.mill_job.specs.Columns.{home}
use Rattle.mill_job.specs.Habits.{run_by}
use Rattle.mill_load.specs.declared.file.File.{File}
use Rattle.mill_load.specs.declared.load.LoadFault.{LoadFault}
use Rattle.mill_load.specs.declared.load.LoadFault.TheVariants.{Memory, ReadFault, Unfit}
use Rattle.mill_load.specs.declared.load.Unfit.TheVariants.{TooLong, JobRefused, PartRefused, ListRefused, ProgramRefused, PartTop}
use Rattle.mill_load.specs.Setup.{IsTooLong}
use Rattle.mill_load.specs.Programs.{IsProgramText, IsRefusedProgram, SaysMoves, rules_of}
use Rattle.mill_load.proofs.Bending.{run_sound}
use Rattle.mill_load.specs.inner.Steps.{HasTaken, TakesFile, TakesFront, LoadsNone, is_memory_fault}
use Rattle.mill_load.specs.Loads.{LoadsProgram, AreMoves}

no_front : (told : Option (List ℕ)) → IfSome told (λ bytes. [] ≡ take 0 bytes)
no_front None = tt
no_front (Some bytes) = refl

-- a reader before the first byte has taken nothing
pub taken_first : (start : Pt3) (unit : LengthUnit) (asked : Rules) (reader : Reading) (moves : List Move) → reader ≡ reading_at start unit asked → MovesSoFar start unit asked reader [] → moves ≡ [] → HasTaken start unit asked reader moves []
unfolding fed after_lines
taken_first start unit asked reader moves new_reader moves_ok none = record { all = rw (new_reader, none) refl; lines = rw new_reader (omega arith); moves_ok = rw none moves_ok }

-- and so no front but the empty one
pub front_first : (start : Pt3) (unit : LengthUnit) (asked : Rules) (name : List ℕ) (log : List FileReading) (reader : Reading) (moves : List Move) → reader ≡ reading_at start unit asked → MovesSoFar start unit asked reader [] → moves ≡ []
    → TakesFront start unit asked name log log 0 reader moves
front_first start unit asked name log reader moves new_reader moves_ok none =
    record { text = []; front = λ contents held. no_front (contents name); size = refl; taken = taken_first start unit asked reader moves new_reader moves_ok none }

-- the next piece goes on the text
pub taken_more : (start : Pt3) (unit : LengthUnit) (asked : Rules) (old new : Reading) (before moves : List Move) (text piece : List ℕ) → HasTaken start unit asked old before text
    → (new, moves) ≡ fed (old, before) piece → lines_read new ≤ lines_read old + length piece → MovesSoFar start unit asked new moves
    → HasTaken start unit asked new moves (text ++ piece)
taken_more start unit asked old new before moves text piece taken all lines moves_ok = record {
  all = all ∙ ap (λ (s : Reading × List Move). fed s piece) taken.all ∙ pieces_join (reading_at start unit asked, []) text piece;
  lines = omega (arith, lines, taken.lines, length-append text piece);
  moves_ok = moves_ok;
}

-- what files hold that hold all that was read: what was read so far, and the next bytes of this name
abbrev HoldNext : List ℕ → List FileReading → List FileReading → List FileReading → ℕ → ℕ → List ℕ → Type 0
HoldNext name before now after given n buf = (contents : List ℕ → Option (List ℕ)) → AreHeld contents before after → AreHeld contents before now × IfSome (contents name) (λ bytes. GivesFrom bytes given n buf)

-- the next piece of a file goes on its front
pub front_more : (start : Pt3) (unit : LengthUnit) (asked : Rules) (name here : List ℕ) (log now after : List FileReading) (given n : ℕ) (buf : List ℕ) (old new : Reading) (before moves : List Move) → here ≡ name
    → (f : TakesFront start unit asked name log now given old before) → HoldNext here log now after given n buf → n ≤ length buf
    → HasTaken start unit asked new moves (f.text ++ take n buf) → TakesFront start unit asked name log after (given + n) new moves
front_more start unit asked name here log now after given n buf old new before moves same f holds fits taken = record {
  text = f.text ++ take n buf;
  front = λ contents held.
      let next = holds contents held in
      let gives : IfSome (contents name) (λ bytes. GivesFrom bytes (length f.text) n buf) = rw (f.size, ← same) next.1 in
      read_more (contents name) (contents name) f.text buf (f.text ++ take n buf) n refl (f.front contents next.0) gives fits refl;
  size = omega (arith, length_more f.text buf (f.text ++ take n buf) n fits refl, f.size);
  taken = taken;
}

-- where no bytes come any more, the front is the whole file
pub front_whole : (start : Pt3) (unit : LengthUnit) (asked : Rules) (name here : List ℕ) (contents : List ℕ → Option (List ℕ)) (log now : List FileReading) (given : ℕ) (buf : List ℕ) (reader : Reading) (moves : List Move) → here ≡ name
    → TakesFront start unit asked name log now given reader moves → AreHeld contents log now → IfSome (contents here) (λ bytes. GivesFrom bytes given 0 buf) → 0 < length buf → given ≤ MAX_FILE_BYTES
    → TakesFile start unit asked (contents name) reader moves
front_whole start unit asked name here contents log now given buf reader moves same f held gives room fits =
    let next : IfSome (contents name) (λ bytes. GivesFrom bytes (length f.text) 0 buf) = rw (f.size, ← same) gives in record {
      text = f.text;
      whole = read_all (contents name) f.text buf (f.front contents held) next room;
      fits = omega (arith, f.size, fits);
      taken = f.taken;
    }

-- ---- how the reading of a file ends

-- it is too long
pub too_long : (told now : Option (List ℕ)) (file : File) (limit : ℕ) → now ≡ told → limit ≡ MAX_FILE_BYTES → IfSome now (λ bytes. limit < length bytes) → LoadsNone told file (Unfit (TooLong file))
too_long None now file limit same is h = (refl, tt)
too_long (Some bytes) now file limit same is h_now =
    let h : limit < length bytes = rw same at h_now in
    let long : IsTooLong bytes = omega (arith, is, h) in
    (refl, long)

-- it gives no text
pub no_text : (job : JobFields) (told : Option (List ℕ)) (file : File) (f : LoadFault) → LoadsNone told file f → LoadsProgram job told file (Err f)
no_text job told file Memory h = tt
no_text job told file (ReadFault f) h = h
no_text job told file (Unfit (TooLong f)) h = h
no_text job told file (Unfit (JobRefused fault)) h = absurd h
no_text job told file (Unfit (PartRefused fault)) h = absurd h
no_text job told file (Unfit (ListRefused fault)) h = absurd h
no_text job told file (Unfit (ProgramRefused f fault)) h = absurd h
no_text job told file (Unfit (PartTop height top unit)) h = absurd h

-- the moves of a whole file
pub file_moves : (job : JobFields) (start : Pt3) (unit : LengthUnit) (asked : Rules) (told : Option (List ℕ)) (reader : Reading) (moves read made : List Move) (u : Unit {0}) → start ≡ home job → unit ≡ job.unit → asked ≡ rules_of job → TakesFile start unit asked told reader moves
    → Ok u ≡ last_answer (at_end (reader, moves)).0 → read ≡ (at_end (reader, moves)).1 → made ≡ run_by job.rapids read → IfSome told (λ text. IsProgramText job text made)
file_moves job start unit asked None reader moves read made u from of_job asks f e is run = tt
file_moves job start unit asked (Some bytes) reader moves read made u from of_job asks f e is run =
    let reads : program_of (home job) job.unit (rules_of job) f.text ≡ Ok read = rw (← asks, ← from, ← of_job) (last_moves start unit asked f.text (reader, moves) u read f.taken.all e is) in
    subst (λ (t : List ℕ). IsProgramText job t made) f.whole (record { fits = f.fits; read = read; reads = reads; made = run })

-- the first fault of a whole file
pub file_fault : (job : JobFields) (start : Pt3) (unit : LengthUnit) (asked : Rules) (told : Option (List ℕ)) (reader : Reading) (moves : List Move) (fault : NgcFault) → start ≡ home job → unit ≡ job.unit → asked ≡ rules_of job → TakesFile start unit asked told reader moves
    → Err fault ≡ last_answer (at_end (reader, moves)).0 → IfSome told (λ text. IsRefusedProgram job text fault)
file_fault job start unit asked None reader moves fault from of_job asks f e = tt
file_fault job start unit asked (Some bytes) reader moves fault from of_job asks f e =
    let refused : program_of (home job) job.unit (rules_of job) f.text ≡ Err fault = rw (← asks, ← from, ← of_job) (last_fault start unit asked f.text (reader, moves) fault f.taken.all e) in
    subst (λ (t : List ℕ). IsRefusedProgram job t fault) f.whole (record { fits = f.fits; refused = refused })

-- ---- a text that is held whole

-- the moves of a whole text
pub text_moves : (job : JobFields) (start : Pt3) (unit : LengthUnit) (asked : Rules) (text : List ℕ) (reader : Reading) (moves read made : List Move) (u : Unit {0}) → start ≡ home job → unit ≡ job.unit → asked ≡ rules_of job → HasTaken start unit asked reader moves text
    → Ok u ≡ last_answer (at_end (reader, moves)).0 → read ≡ (at_end (reader, moves)).1 → made ≡ run_by job.rapids read → SaysMoves job text made
text_moves job start unit asked text reader moves read made u from of_job asks taken e is run = record {
  read = read;
  reads = rw (← asks, ← from, ← of_job) (last_moves start unit asked text (reader, moves) u read taken.all e is);
  made = run;
}

-- what the job's machine makes of sound moves are moves that the verifier takes
pub moves_ok : (job : JobFields) (start : Pt3) (unit : LengthUnit) (asked : Rules) (read made : List Move) → start ≡ home job → unit ≡ job.unit → asked ≡ rules_of job → AreSound start unit asked read → made ≡ run_by job.rapids read → AreMoves job made
moves_ok job start unit asked read made from of_job asks sound run =
    let all : AreSound start unit asked made = subst (AreSound start unit asked) (sym run) (run_sound job.rapids start unit asked read sound) in
    record { in_range = subst (λ (u : LengthUnit). MovesInUnitRange u made) of_job all.in_range; follow = rw (← from, ← asks) all.follow; few = all.few }

-- the first fault of a whole text
pub text_fault : (job : JobFields) (start : Pt3) (unit : LengthUnit) (asked : Rules) (text : List ℕ) (reader : Reading) (moves : List Move) (fault : NgcFault) → start ≡ home job → unit ≡ job.unit → asked ≡ rules_of job → HasTaken start unit asked reader moves text
    → Err fault ≡ last_answer (at_end (reader, moves)).0 → program_of (home job) job.unit (rules_of job) text ≡ Err fault
text_fault job start unit asked text reader moves fault from of_job asks taken e = rw (← asks, ← from, ← of_job) (last_fault start unit asked text (reader, moves) fault taken.all e)

-- a fault that is one of a program's isn't want of memory
err_is : {A : Type 0} (a b : NgcFault) → (let r : Result A NgcFault = Err a in r) ≡ Err b → a ≡ b
err_is a b e = cc

pub is_other : {A : Type 0} (r : Result A NgcFault) (fault : NgcFault) → r ≡ Err fault → is_memory_fault fault ≡ false → r ≢ Err WantOfMemory
is_other r fault is other = λ memory.
    let same : fault ≡ WantOfMemory = err_is fault WantOfMemory (sym is ∙ memory) in
    not-both (is_memory_fault fault) other (ap is_memory_fault same)
  where
    not-both : (b : Bool) → b ≡ false → b ≡ true → ⊥
    not-both true p q = absurd cc
    not-both false p q = absurd cc
