-- Where its files are told, there is one document: the texts are those of the files, and these decide each part of a report.
use Rattle.std.proofs.Common.{◌≡◌, ◌⊎◌, ℕ, zero, suc, ◌-◌, ◌≤◌, ◌<◌, List, [], ◌∷◌, ◌++◌, length, get_or, map, take, drop, Bool, true, false, Option, Some, None, Result, Ok, Err, refl, sym, ap, subst, ◌∙◌, inl, inr, arith, append_assoc, length-append}
use Rattle.std.proofs.lemmas.Bool.{cases_lt}
use Rattle.std.proofs.lemmas.List.{append_cancel_right, ext_get_or, length-drop, length-take-le}
use Rattle.std.specs.List.{AllZip}
use Rattle.std.specs.Prelude.{ℤ, pos, IfSome, IsSome, if◌then◌else◌, slice_range}
use Rattle.mill_base.specs.declared.motion.Move.{Move}
use Rattle.mill_base.specs.declared.points.Pt3.{Pt3}
use Rattle.mill_base.specs.declared.points.Tri.{Tri}
use Rattle.mill_base.specs.declared.unit.Unit.{Unit as LengthUnit}
use Rattle.mill_block.specs.Lines.{after_line}
use Rattle.mill_said.specs.declared.fault.NgcFault.{NgcFault}
use Rattle.mill_block.specs.declared.progress.Progress.{Progress}
use Rattle.mill_document.specs.Details.{failing_data, left_column}
use Rattle.mill_dexel.specs.Tops.{stock_after, uncut}
use Rattle.mill_dexel.specs.Turns.{move_at}
use Rattle.mill_document.specs.Documents.{column_data, fault_data, report_data, text_of}
use Rattle.mill_job.specs.Columns.{home}
use Rattle.mill_job.specs.Jobs.{part_tool_of}
use Rattle.mill_job.specs.declared.fields.JobFields.{JobFields}
use Rattle.mill_gouge.specs.Laws.{OneLift}
use Rattle.mill_answer.specs.Faults.{fault_status}
use Rattle.mill_load.specs.Programs.{rules_of}
use Rattle.mill_load.specs.declared.load.LoadFault.TheVariants.{Memory, ReadFault, Unfit}
use Rattle.mill_load.specs.declared.load.Unfit.{Unfit as UnfitFault}
use Rattle.mill_ngc.proofs.JoinLemmas.{pieces_join}
use Rattle.mill_said.specs.declared.rules.Rules.{Rules}
use Rattle.mill_ngc.specs.Pieces.{Reading, Going, Failed, after_lines, after_result, after_whole, fed, line_so_far, put_before, reading_at}
use Rattle.mill_ngc.specs.Programs.{lines_of}
use Rattle.mill_report.specs.Laws.{OneLeft, OneList}
use Rattle.mill_report.specs.declared.left.LeftColumn.{LeftColumn}
use Rattle.mill_report_run.proofs.Headlines.{judges}
use Rattle.mill_report_run.proofs.Loading.{all_read}
use Rattle.mill_report_run.specs.Laws.{IsDecided, OneDocument}
use Rattle.mill_report_run.specs.Outcomes.{AreTextsOf, IsOutcome, IsTextOf, Outcome, Reported, Reports, bad_words, failed, help, outcome_status, reported}
use Rattle.mill_report_run.specs.Reports.{AreFailing, IsLift, IsLiftOf, IsReport, IsReportText, Texts, sums_of, summary_of}
use Rattle.mill_answer.proofs.Answering.{same_job, same_moves, same_part}
use Rattle.mill_answer.specs.Judgments.{OneJudgment, judged, unfit}
use Rattle.mill_answer.specs.Verify.{AreTold, IsUnfitProgram, Judges, Reads, Texts as ToldTexts, texts_of, verdict_status}
use Rattle.mill_ngc.specs.Lines.{ArePlaces, IsPlace, first_lines, line_at, moves_to, with_ends}
use Rattle.mill_ngc.specs.declared.place.LineSpan.{LineSpan}
use Rattle.mill_verify.specs.Verdicts.{OneVerdict}
use Rattle.mill_verify.specs.declared.verdict.Reason.{Reason}
use Rattle.mill_verify.specs.declared.verdict.Reason.TheVariants.{Floor, Gouge, Holder, Fixture, HolderFixture, Rapid as RapidCut, Cut, HolderStock, Left}
use Rattle.mill_verify.specs.declared.verdict.Verdict.{Verdict}
use Rattle.serde_json.specs.Data.{Data}

-- ---- the place of a move

-- reading on takes no move away
grows_result : (moves : List Move) (r : Result (Progress × List Move) NgcFault) → length moves ≤ length (after_result moves r).1
grows_result moves (Ok s) = omega (arith, length-append moves s.1)
grows_result moves (Err f) = omega arith

grows_if : (moves : List Move) (b : Bool) (x y : Reading × List Move) → length moves ≤ length x.1 → length moves ≤ length y.1 → length moves ≤ length (if b then x else y).1
grows_if moves true x y h g = h
grows_if moves false x y h g = g

grows_whole : (r : Reading) (moves : List Move) (line : List ℕ) → length moves ≤ length (after_whole r moves line).1
grows_whole (Failed f) moves line = omega arith
grows_whole (Going p so_far) moves line = grows_if moves p.ended (Going p so_far, moves) (after_result moves (after_line p line)) (omega arith) (grows_result moves (after_line p line))

grows_lines : (s : Reading × List Move) (lines : List (List ℕ)) → length s.1 ≤ length (after_lines s lines).1
unfolding after_lines
grows_lines s [] = omega arith
grows_lines s (line ∷ []) = omega arith
grows_lines s (line ∷ next ∷ lines) =
    let first = grows_whole s.0 s.1 line in
    let rest = grows_lines (after_whole s.0 s.1 line) (next ∷ lines) in
    omega (arith, first, rest)

grows_fed : (s : Reading × List Move) (piece : List ℕ) → length s.1 ≤ length (fed s piece).1
unfolding fed
grows_fed s piece = grows_lines s (put_before (line_so_far s.0) (lines_of piece))

none_below : (a : ℕ) → suc a ≤ 0 → ⊥
none_below a le = omega (arith, le)

-- more lines begin with fewer
front_splits : (a b : ℕ) (lines : List (List ℕ)) → a ≤ b → (rest : List ℕ) × (with_ends (take b lines) ≡ with_ends (take a lines) ++ rest)
front_splits zero b lines le = (with_ends (take b lines), refl)
front_splits (suc a) zero lines le = absurd (none_below a le)
front_splits (suc a) (suc b) [] le = ([], refl)
front_splits (suc a) (suc b) (line ∷ lines) le =
    let r = front_splits a b lines (omega (arith, le)) in
    (r.0, ap (λ t. line ++ 10 ∷ t) r.1 ∙ sym (append_assoc line (10 ∷ with_ends (take a lines)) r.0))

-- and make no fewer moves
no_fewer : (start : Pt3) (unit : LengthUnit) (asked : Rules) (text : List ℕ) (a b : ℕ) → a ≤ b → length (moves_to start unit asked text a) ≤ length (moves_to start unit asked text b)
no_fewer start unit asked text a b le =
    let splits = front_splits a b (lines_of text) le in
    let first = fed (reading_at start unit asked, []) (first_lines a text) in
    let whole : fed first splits.0 ≡ fed (reading_at start unit asked, []) (first_lines b text) =
    pieces_join (reading_at start unit asked, []) (first_lines a text) splits.0 ∙ ap (fed (reading_at start unit asked, [])) (sym splits.1) in
    subst (λ (s : Reading × List Move). length first.1 ≤ length s.1) whole (grows_fed first splits.0)

not_before : (start : Pt3) (unit : LengthUnit) (asked : Rules) (text : List ℕ) (k : ℕ) (p q : LineSpan) → IsPlace start unit asked text k p → IsPlace start unit asked text k q → p.line < q.line → ⊥
not_before start unit asked text k p q s t lt =
    let more : length (moves_to start unit asked text p.line) ≤ length (moves_to start unit asked text (q.line - 1)) = no_fewer start unit asked text p.line (q.line - 1) (omega (arith, lt)) in
    omega (arith, more, s.within, t.before)

same_line : (start : Pt3) (unit : LengthUnit) (asked : Rules) (text : List ℕ) (k : ℕ) (p q : LineSpan) → IsPlace start unit asked text k p → IsPlace start unit asked text k q → p.line ≡ q.line
same_line start unit asked text k p q s t = by (cases_lt p.line q.line) (cases_lt q.line p.line)
  where
    by : (p.line < q.line) ⊎ (q.line ≤ p.line) → (q.line < p.line) ⊎ (p.line ≤ q.line) → p.line ≡ q.line
    by (inl lt) other = absurd (not_before start unit asked text k p q s t lt)
    by (inr most) (inl lt) = absurd (not_before start unit asked text k q p t s lt)
    by (inr most) (inr least) = omega (arith, most, least)

same_place : (p q : LineSpan) → p.line ≡ q.line → p.start ≡ q.start → p.end ≡ q.end → p ≡ q
same_place p q line start end_is = ap (λ n. made n p.start p.end) line ∙ ap (λ n. made q.line n p.end) start ∙ ap (λ n. made q.line q.start n) end_is
  where
    made : ℕ → ℕ → ℕ → LineSpan
    made line start end_is = record { line = line; start = start; «end» = end_is }

-- the line of a place has the bytes from its start to its end
length-slice : (text : List ℕ) (a b : ℕ) → a ≤ b → b ≤ length text → length (slice_range text a b) ≡ b - a
length-slice text a b order within =
    let rest : b - a ≤ length (drop a text) = omega (arith, length-drop a text, order, within) in
    length-take-le (b - a) (drop a text) rest

-- a move has one place
one_place : (start : Pt3) (unit : LengthUnit) (asked : Rules) (text : List ℕ) (k : ℕ) (p q : LineSpan) → IsPlace start unit asked text k p → IsPlace start unit asked text k q → p ≡ q
one_place start unit asked text k p q s t =
    let line : p.line ≡ q.line = same_line start unit asked text k p q s t in
    let begins : p.start ≡ q.start = s.begins ∙ ap (λ n. length (first_lines (n - 1) text)) line ∙ sym t.begins in
    let bytes : slice_range text p.start p.end ≡ slice_range text q.start q.end = s.bytes ∙ ap (line_at text) line ∙ sym t.bytes in
    let size : p.end - p.start ≡ q.end - q.start = sym (length-slice text p.start p.end s.order s.inside) ∙ ap length bytes ∙ length-slice text q.start q.end t.order t.inside in
    same_place p q line begins (omega (arith, begins, size, s.order, t.order))

-- a text's moves have one list of places
one_places : (start : Pt3) (unit : LengthUnit) (asked : Rules) (text : List ℕ) (a b : List LineSpan) → ArePlaces start unit asked text a → ArePlaces start unit asked text b → a ≡ b
one_places start unit asked text a b s t =
    let other : LineSpan = record { line = 0; start = 0; «end» = 0 } in
    let count : length a ≡ length b = s.count ∙ sym t.count in
    ext_get_or other a b count (λ i lt. one_place start unit asked text i (get_or a i other) (get_or b i other) (s.each i other lt) (t.each i other (omega (arith, count, lt))))

-- ---- the lifts

one_lift_of : OneLift → (job : JobFields) (part : List Tri) (m : Move) (a b : Option ℤ) → IsLiftOf job part m a → IsLiftOf job part m b → a ≡ b
one_lift_of one job part m None None s t = refl
one_lift_of one job part m None (Some b) s t = absurd (s t.0)
one_lift_of one job part m (Some a) None s t = absurd (t s.0)
one_lift_of one job part m (Some a) (Some b) (room, (n, e, least)) (again, (k, f, smallest)) = ap Some (e ∙ ap pos (one (part_tool_of job) part m n k least smallest) ∙ sym f)

one_lift_for : OneLift → (job : JobFields) (part : List Tri) (moves : List Move) (reason : Reason) (a b : Option ℤ) → IsLift job part moves reason a → IsLift job part moves reason b → a ≡ b
one_lift_for one job part moves (Gouge k t leaf) a b g h = one_lift_of one job part (move_at moves k) a b g h
one_lift_for one job part moves (Holder k t leaf) a b g h = one_lift_of one job part (move_at moves k) a b g h
one_lift_for one job part moves (Fixture k box leaf) a b g h = g ∙ sym h
one_lift_for one job part moves (HolderFixture k box leaf) a b g h = g ∙ sym h
one_lift_for one job part moves (Floor k) a b g h = g ∙ sym h
one_lift_for one job part moves (RapidCut k j i leaf) a b g h = g ∙ sym h
one_lift_for one job part moves (Cut k j i leaf) a b g h = g ∙ sym h
one_lift_for one job part moves (HolderStock k j i leaf) a b g h = g ∙ sym h
one_lift_for one job part moves (Left j i top) a b g h = g ∙ sym h

-- findings have one list of lifts
one_lifts : OneLift → (job : JobFields) (part : List Tri) (moves : List Move) (found : List Reason) (a b : List (Option ℤ)) → AllZip (IsLift job part moves) found a → AllZip (IsLift job part moves) found b → a ≡ b
one_lifts one job part moves [] [] [] s t = refl
one_lifts one job part moves [] [] (y ∷ b) s t = absurd t
one_lifts one job part moves [] (x ∷ a) b s t = absurd s
one_lifts one job part moves (reason ∷ found) [] b s t = absurd s
one_lifts one job part moves (reason ∷ found) (x ∷ a) [] s t = absurd t
one_lifts one job part moves (reason ∷ found) (x ∷ a) (y ∷ b) (s, ss) (t, ts) =
    ap (λ l. l ∷ a) (one_lift_for one job part moves reason x y s t) ∙ ap (λ ls. y ∷ ls) (one_lifts one job part moves found a b ss ts)

-- ---- the document

-- findings have one list of items
one_failing : OneLift → (texts : Texts) (job : JobFields) (part : List Tri) (moves : List Move) (found : List Reason) (a b : List Data) → AreFailing texts job part moves found a → AreFailing texts job part moves found b → a ≡ b
one_failing one texts job part moves [] a b s t = s ∙ sym t
one_failing one texts job part moves (reason ∷ found) a b s t =
    s.items_are
    ∙ ap (λ places. failing_data job part moves texts.program places (reason ∷ found) s.lifts) (one_places (home job) job.unit (rules_of job) texts.program s.places t.places s.places_are t.places_are)
    ∙ ap (λ lifts. failing_data job part moves texts.program t.places (reason ∷ found) lifts) (one_lifts one job part moves (reason ∷ found) s.lifts t.lifts s.lifts_are t.lifts_are)
    ∙ sym t.items_are

same_data : (texts : Texts) (job : JobFields) (moves : List Move) (verdict : Verdict) (line other : List ℕ) (failing items : List Data) (left columns : List LeftColumn) (n m : ℕ)
    → line ≡ other → failing ≡ items → left ≡ columns → n ≡ m
    → report_data line (sums_of texts) (summary_of job moves verdict n) failing (map (λ c. column_data job.unit (left_column job c)) left)
    ≡ report_data other (sums_of texts) (summary_of job moves verdict m) items (map (λ c. column_data job.unit (left_column job c)) columns)
same_data texts job moves verdict line other failing items left columns n m e f g h = rw (e, f, g, h) refl

-- a verdict on texts has one document
one_data : OneList → OneLeft → OneLift → (texts : Texts) (job : JobFields) (part : List Tri) (moves : List Move) (verdict : Verdict) (a b : Data) → IsReport texts job part moves verdict a
    → IsReport texts job part moves verdict b → a ≡ b
one_data list left lift texts job part moves verdict a b s t =
    let line : s.line ≡ t.line = append_cancel_right s.line t.line (10 ∷ []) (sym s.line_is ∙ t.line_is) in
    let found : s.found ≡ t.found = list job part moves s.found t.found s.found_are t.found_are in
    let failing : s.failing ≡ t.failing = one_failing lift texts job part moves t.found s.failing t.failing
    (subst (λ (f : List Reason). AreFailing texts job part moves f s.failing) found s.failing_are) t.failing_are in
    let columns = left job part (stock_after job (uncut job) moves) s.left t.left s.too_high t.too_high s.left_are t.left_are in
    s.told_is ∙ same_data texts job moves verdict s.line t.line s.failing t.failing s.left t.left s.too_high t.too_high line failing columns.0 columns.1 ∙ sym t.told_is

-- ---- the report

told_once : (told : Option (List ℕ)) (a b : List ℕ) → IsSome told → IfSome told (λ text. a ≡ text) → IfSome told (λ text. b ≡ text) → a ≡ b
told_once None a b some s t = cc
told_once (Some text) a b some s t = s ∙ sym t

same_texts : (a b : Texts) → a.job ≡ b.job → a.part ≡ b.part → a.program ≡ b.program → a ≡ b
same_texts a b e f g = ap (λ t. made t a.part a.program) e ∙ ap (λ t. made b.job t a.program) f ∙ ap (λ t. made b.job b.part t) g
  where
    made : List ℕ → List ℕ → List ℕ → Texts
    made job part program = record { job = job; part = part; program = program }

-- told files have their texts alone
one_texts : (told : ToldTexts) (a b : Texts) → AreTold told → AreTextsOf told a → AreTextsOf told b → a ≡ b
one_texts told a b all s t =
    same_texts a b (told_once told.setup.job a.job b.job all.setup.job s.job t.job) (told_once told.setup.part a.part b.part all.setup.part s.part t.part)
    (told_once told.program a.program b.program all.program s.program t.program)

-- texts, what they read as and the verdict have one report
one_text : OneVerdict → OneList → OneLeft → OneLift → (texts : Texts) (job : JobFields) (part : List Tri) (moves : List Move) (a b : List ℕ) (n m : ℕ) → IsReportText texts job part moves a n
    → IsReportText texts job part moves b m → (a ≡ b) × (n ≡ m)
one_text verdict list left lift texts job part moves a b n m s t =
    let same : s.verdict ≡ t.verdict = verdict job part moves s.verdict t.verdict s.report.verdict_is t.report.verdict_is in
    let report : IsReport texts job part moves t.verdict s.told = subst (λ (v : Verdict). IsReport texts job part moves v s.told) same s.report in
    let document : s.told ≡ t.told = one_data list left lift texts job part moves t.verdict s.told t.told report t.report in
    (s.text_is ∙ ap text_of document ∙ sym t.text_is, s.status_is ∙ ap verdict_status same ∙ sym t.status_is)

same_reported : (a b : Reported) → a.texts ≡ b.texts → a.job ≡ b.job → a.part ≡ b.part → a.moves ≡ b.moves → a.report ≡ b.report → a.status ≡ b.status → a ≡ b
same_reported a b e f g h i j =
    ap (λ x. made x a.job a.part a.moves a.report a.status) e
    ∙ ap (λ x. made b.texts x a.part a.moves a.report a.status) f
    ∙ ap (λ x. made b.texts b.job x a.moves a.report a.status) g
    ∙ ap (λ x. made b.texts b.job b.part x a.report a.status) h
    ∙ ap (λ x. made b.texts b.job b.part b.moves x a.status) i
    ∙ ap (λ x. made b.texts b.job b.part b.moves b.report x) j
  where
    made : Texts → JobFields → List Tri → List Move → List ℕ → ℕ → Reported
    made texts job part moves report status = record { texts = texts; job = job; part = part; moves = moves; report = report; status = status }

one_report : OneVerdict → OneList → OneLeft → OneLift → (told : ToldTexts) (a b : Reported) → AreTold told → Reports told a → Reports told b → a ≡ b
one_report verdict list left lift told a b all s t =
    let first : Reads told a.job a.part a.moves = all_read told a.texts a.job a.part a.moves s.agree s.is.report.all_read in
    let next : Reads told b.job b.part b.moves = all_read told b.texts b.job b.part b.moves t.agree t.is.report.all_read in
    let texts : a.texts ≡ b.texts = one_texts told a.texts b.texts all s.agree t.agree in
    let job : a.job ≡ b.job = same_job told.setup a.job b.job all.setup.job first.setup_is.job_is next.setup_is.job_is in
    let part : a.part ≡ b.part = same_part told.setup b.job a.part b.part all.setup.part (rw job at first.setup_is.part_is) next.setup_is.part_is in
    let moves : a.moves ≡ b.moves = same_moves told b.job a.moves b.moves all.program (rw job at first.moves_are) next.moves_are in
    let is : IsReportText b.texts b.job b.part b.moves a.report a.status = rw (texts, job, part, moves) at s.is in
    let made = one_text verdict list left lift b.texts b.job b.part b.moves a.report b.report a.status b.status is t.is in
    same_reported a b texts job part moves made.0 made.1

-- ---- the outcome

unfit_is : (f g : UnfitFault) → unfit f ≡ unfit g → f ≡ g
unfit_is f g e = cc

not_judged : (f : UnfitFault) (job : JobFields) (part : List Tri) (moves : List Move) (v : Verdict) → unfit f ≡ judged job part moves v → ⊥
not_judged f job part moves v e = cc

module _ (judgment : OneJudgment) (told : ToldTexts) (all : AreTold told) where
  is_judgment : (r : Reported) → (s : Reports told r) → Judges told r.job r.part r.moves s.is.verdict
  is_judgment r s = judges told r.texts r.job r.part r.moves s.is.verdict s.is.told s.job_ok s.moves_ok s.agree s.is.report

  one_fault : (f g : UnfitFault) → IsUnfitProgram told f → IsUnfitProgram told g → f ≡ g
  one_fault f g s t = unfit_is f g (judgment told (unfit f) (unfit g) all s t)

  either : (f : UnfitFault) (r : Reported) → IsUnfitProgram told f → Reports told r → ⊥
  either f r s t = not_judged f r.job r.part r.moves t.is.verdict (judgment told (unfit f) (judged r.job r.part r.moves t.is.verdict) all s (is_judgment r t))

  one_outcome : ((a b : Reported) → Reports told a → Reports told b → a ≡ b) → (a b : Outcome) → IsDecided a → IsDecided b
      → IsOutcome told a → IsOutcome told b → a ≡ b
  one_outcome report (help shown) b d e s t = absurd d
  one_outcome report (bad_words shown) b d e s t = absurd d
  one_outcome report (failed Memory) b d e s t = absurd d
  one_outcome report (failed (ReadFault file)) b d e s t = absurd d
  one_outcome report (failed (Unfit f)) (help shown) d e s t = absurd e
  one_outcome report (failed (Unfit f)) (bad_words shown) d e s t = absurd e
  one_outcome report (failed (Unfit f)) (failed Memory) d e s t = absurd e
  one_outcome report (failed (Unfit f)) (failed (ReadFault file)) d e s t = absurd e
  one_outcome report (failed (Unfit f)) (failed (Unfit g)) d e s t = ap (λ u. failed (Unfit u)) (one_fault f g s t)
  one_outcome report (failed (Unfit f)) (reported r) d e s t = absurd (either f r s t)
  one_outcome report (reported r) (help shown) d e s t = absurd e
  one_outcome report (reported r) (bad_words shown) d e s t = absurd e
  one_outcome report (reported r) (failed Memory) d e s t = absurd e
  one_outcome report (reported r) (failed (ReadFault file)) d e s t = absurd e
  one_outcome report (reported r) (failed (Unfit f)) d e s t = absurd (either f r t s)
  one_outcome report (reported r) (reported q) d e s t = ap reported (report r q s t)

-- an outcome has one text
one_telling : (o : Outcome) (s t : List ℕ) → IsTextOf o s → IsTextOf o t → s ≡ t
one_telling (help shown) s t g h = g ∙ sym h
one_telling (bad_words shown) s t g h = g ∙ sym h
one_telling (failed fault) s t g h =
    g.text_is ∙ ap (λ l. text_of (fault_data l (fault_status fault))) (append_cancel_right g.line h.line (10 ∷ []) (sym g.line_is ∙ h.line_is)) ∙ sym h.text_is
one_telling (reported r) s t g h = g ∙ sym h

pub one_document_of : OneJudgment → OneVerdict → OneList → OneLeft → OneLift → OneDocument
one_document_of judgment verdict list left lift = λ contents files a b s t told d e is other g h.
    let same : a ≡ b = one_outcome judgment (texts_of contents files) told (λ r q u v. one_report verdict list left lift (texts_of contents files) r q told u v) a b d e is other in
    (one_telling b s t (subst (λ (o : Outcome). IsTextOf o s) same g) h, ap outcome_status same)
