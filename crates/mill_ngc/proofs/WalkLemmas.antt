-- A text that is read line by line.
use Rattle.std.proofs.Common.{◌≡◌, ℕ, ◌+◌, ◌-◌, ◌≤◌, ◌<◌, List, [], ◌∷◌, ◌++◌, length, get_or, take, drop, Ok, refl, sym, ap, subst, ◌∙◌, inl, inr, arith, append_assoc, length-append}
use Rattle.std.proofs.lemmas.Bool.{cases_lt}
use Rattle.std.proofs.lemmas.List.{get_or_at, get_or_append_left, get_or-append_right, get_or-replicate, length-replicate, take_at, take_all, length_push, replicate_more}
use Rattle.std.specs.Prelude.{⊤, ◌⊎◌, Result, Err, OnOk, replicate, slice_range}
use Rattle.mill_base.specs.declared.memory.WantOfMemory.{WantOfMemory}
use Rattle.mill_base.specs.declared.motion.Move.{Move}
use Rattle.mill_base.specs.declared.points.Pt3.{Pt3}
use Rattle.mill_base.specs.declared.unit.Unit.{Unit}
use Rattle.mill_ngc.specs.Pieces.{Reading, after_lines, fed, reading_at, at_end, last_answer, lines_read}
use Rattle.mill_ngc.specs.Programs.{lines_of, program_of}
use Rattle.mill_ngc.proofs.JoinLemmas.{pieces_join, pieces_read_program}
use Rattle.mill_ngc.specs.Lines.{IsPlace, ArePlaces, first_lines, moves_to, with_ends}
use Rattle.mill_ngc.specs.inner.Walks.{HasWalked}
use Rattle.mill_ngc.specs.declared.place.LineSpan.{LineSpan}
use Rattle.mill_ngc.specs.declared.walk.Walk.{Walk}
use Rattle.mill_ngc.proofs.Ends.{with_ends-push, with_ends-lines_of, moves-fed-feed, moves-told}
use Rattle.mill_said.specs.declared.rules.Rules.{Rules}

-- a line of a text, with the lines before it and behind it, and what is read before it and with it
pub record IsNext (start : Pt3) (unit : Unit) (rules : Rules) (text : List ℕ) (done : List (List ℕ)) (line : List ℕ) (rest : List (List ℕ)) (before after : Reading × List Move) : Type 0 where
  pub lines : lines_of text ≡ done ++ line ∷ rest
  pub read : before ≡ fed (reading_at start unit rules, []) (with_ends done)
  pub fed_on : after ≡ fed before (line ++ 10 ∷ [])

-- the place of that line
pub record IsPlaceOf (text : List ℕ) (done : List (List ℕ)) (line : List ℕ) (place : LineSpan) : Type 0 where
  pub number : place.line ≡ length done + 1
  pub begins : place.start ≡ length (with_ends done)
  pub order : place.start ≤ place.end
  pub inside : place.end ≤ length text
  pub bytes : slice_range text place.start place.end ≡ line

-- the lines up to it
pub read_more : (start : Pt3) (unit : Unit) (rules : Rules) (text : List ℕ) (done : List (List ℕ)) (line : List ℕ) (rest : List (List ℕ)) (before after : Reading × List Move)
    → IsNext start unit rules text done line rest before after → after ≡ fed (reading_at start unit rules, []) (with_ends (done ++ line ∷ []))
read_more start unit rules text done line rest before after next =
    next.fed_on
    ∙ ap (λ (s : Reading × List Move). fed s (line ++ 10 ∷ [])) next.read
    ∙ pieces_join (reading_at start unit rules, []) (with_ends done) (line ++ 10 ∷ [])
    ∙ ap (fed (reading_at start unit rules, [])) (sym (with_ends-push done line))

split_again : (done : List (List ℕ)) (line : List ℕ) (rest : List (List ℕ)) → done ++ line ∷ rest ≡ (done ++ line ∷ []) ++ rest
split_again done line rest = sym (append_assoc done (line ∷ []) rest)

front_of : (start : Pt3) (unit : Unit) (rules : Rules) (text : List ℕ) (done : List (List ℕ)) (line : List ℕ) (rest : List (List ℕ)) (before after : Reading × List Move) (n : ℕ)
    → IsNext start unit rules text done line rest before after → length done ≡ n → first_lines n text ≡ with_ends done
front_of start unit rules text done line rest before after n next count = ap with_ends (ap (take n) next.lines ∙ take_at done (line ∷ rest) n count)

moves_before : (start : Pt3) (unit : Unit) (rules : Rules) (text : List ℕ) (done : List (List ℕ)) (line : List ℕ) (rest : List (List ℕ)) (before after : Reading × List Move) (n : ℕ)
    → IsNext start unit rules text done line rest before after → length done ≡ n → moves_to start unit rules text n ≡ before.1
moves_before start unit rules text done line rest before after n next count =
    ap (λ (bytes : List ℕ). (fed (reading_at start unit rules, []) bytes).1) (front_of start unit rules text done line rest before after n next count)
    ∙ ap (λ (s : Reading × List Move). s.1) (sym next.read)

moves_with : (start : Pt3) (unit : Unit) (rules : Rules) (text : List ℕ) (done : List (List ℕ)) (line : List ℕ) (rest : List (List ℕ)) (before after : Reading × List Move) (n : ℕ)
    → IsNext start unit rules text done line rest before after → length done + 1 ≡ n → moves_to start unit rules text n ≡ after.1
moves_with start unit rules text done line rest before after n next count =
    let whole = next.lines ∙ split_again done line rest in
    let front : first_lines n text ≡ with_ends (done ++ line ∷ []) = ap with_ends (ap (take n) whole ∙ take_at (done ++ line ∷ []) rest n (length_push done line ∙ count)) in
    ap (λ (bytes : List ℕ). (fed (reading_at start unit rules, []) bytes).1) front ∙ ap (λ (s : Reading × List Move). s.1) (sym (read_more start unit rules text done line rest before after next))

-- a move that the line makes stands at its place
pub stands : (start : Pt3) (unit : Unit) (rules : Rules) (text : List ℕ) (done : List (List ℕ)) (line : List ℕ) (rest : List (List ℕ)) (before after : Reading × List Move) (place : LineSpan) (k : ℕ)
    → IsNext start unit rules text done line rest before after → IsPlaceOf text done line place → length before.1 ≤ k → k < length after.1 → IsPlace start unit rules text k place
stands start unit rules text done line rest before after place k next there least most =
    let none : length done ≡ place.line - 1 = omega (arith, there.number) in
    record {
      some = omega (arith, there.number);
      before = rw (moves_before start unit rules text done line rest before after (place.line - 1) next none) least;
      within = rw (moves_with start unit rules text done line rest before after place.line next (sym there.number)) most;
      begins = there.begins ∙ ap length (sym (front_of start unit rules text done line rest before after (place.line - 1) next none));
      order = there.order;
      inside = there.inside;
      bytes = there.bytes ∙ sym (get_or_at done line rest [] (place.line - 1) none) ∙ ap (λ (lines : List (List ℕ)). get_or lines (place.line - 1) []) (sym next.lines);
    }

-- the places so far, and this one for each move more
all_stand_by : (start : Pt3) (unit : Unit) (rules : Rules) (text : List ℕ) (places : List LineSpan) (place : LineSpan) (more k : ℕ) (other : LineSpan)
    → ((i : ℕ) (d : LineSpan) → i < length places → IsPlace start unit rules text i (get_or places i d))
    → ((i : ℕ) → length places ≤ i → i < length places + more → IsPlace start unit rules text i place)
    → k < length places + more → (k < length places) ⊎ (length places ≤ k) → IsPlace start unit rules text k (get_or (places ++ replicate more place) k other)
all_stand_by start unit rules text places place more k other old new lt (inl low) =
    rw (get_or_append_left places (replicate more place) other k low) (old k other low)
all_stand_by start unit rules text places place more k other old new lt (inr high) =
    rw (get_or-append_right places (replicate more place) (length places) k other refl high, get_or-replicate more (k - length places) place other (omega arith)) (new k high lt)

pub all_stand : (start : Pt3) (unit : Unit) (rules : Rules) (text : List ℕ) (places : List LineSpan) (place : LineSpan) (more k : ℕ) (other : LineSpan)
    → ((i : ℕ) (d : LineSpan) → i < length places → IsPlace start unit rules text i (get_or places i d))
    → ((i : ℕ) → length places ≤ i → i < length places + more → IsPlace start unit rules text i place)
    → k < length (places ++ replicate more place) → IsPlace start unit rules text k (get_or (places ++ replicate more place) k other)
all_stand start unit rules text places place more k other old new lt =
    let size : length (places ++ replicate more place) ≡ length places + more = length-append places (replicate more place) ∙ ap (λ n. length places + n) (length-replicate more place) in
    all_stand_by start unit rules text places place more k other old new (omega (arith, size)) (cases_lt k (length places))

-- ---- a line

-- what holds in any case holds where nothing failed
pub in_any_case : (P : Type 0) (r : Result ⊤ WantOfMemory) → P → OnOk r P
in_any_case P (Ok u) p = p
in_any_case P (Err e) p = tt

-- a line and its line feed are read one after the other
pub line_and_feed : (first second third : Reading × List Move) (line : List ℕ) → second ≡ fed first line → third ≡ fed second (10 ∷ []) → third ≡ fed first (line ++ 10 ∷ [])
line_and_feed first second third line line_read feed_read =
    feed_read ∙ ap (λ (s : Reading × List Move). fed s (10 ∷ [])) line_read ∙ pieces_join first line (10 ∷ [])

-- one place more
pub noted_more : (old here new : List LineSpan) (place : LineSpan) → here ≡ old ++ replicate (length here - length old) place → new ≡ here ++ place ∷ [] → length old ≤ length here
    → new ≡ old ++ replicate (length new - length old) place
noted_more old here new place are pushed more =
    let long : length new ≡ length here + 1 = ap length pushed ∙ length_push here place in
    let size : length new - length old ≡ length here - length old + 1 = omega (arith, long, more) in
    pushed
    ∙ ap (λ (ps : List LineSpan). ps ++ place ∷ []) are
    ∙ append_assoc old (replicate (length here - length old) place) (place ∷ [])
    ∙ ap (λ (ps : List LineSpan). old ++ ps) (replicate_more (length here - length old) place ∙ ap (λ k. replicate k place) (sym size))

-- ---- the walk

-- nothing has been read of an empty front
fed-none : (start : Pt3) (unit : Unit) (rules : Rules) → (reading_at start unit rules, []) ≡ fed (reading_at start unit rules, []) []
unfolding fed after_lines
fed-none start unit rules = refl

pub walk_first : (start : Pt3) (unit : Unit) (rules : Rules) (text : List ℕ) (walk : Walk) → walk.reader ≡ reading_at start unit rules → walk.moves.items ≡ [] → walk.places.items ≡ []
    → HasWalked start unit rules text 0 1 walk
walk_first start unit rules text walk reader moves places =
    let none : length walk.places.items ≡ 0 = ap length places in
    record {
      done = [];
      lines = refl;
      count = refl;
      begins = refl;
      few = omega arith;
      inside = omega arith;
      read = rw (reader, moves) (fed-none start unit rules);
      room = rw reader (omega arith);
      even = rw (moves, places) refl;
      each = λ k other lt. absurd (omega (arith, none, lt));
    }

-- what the next line adds
pub record Adds (walk next : Walk) (line : List ℕ) (place : LineSpan) : Type 0 where
  pub read : (next.reader, next.moves.items) ≡ fed (walk.reader, walk.moves.items) (line ++ 10 ∷ [])
  pub lines : lines_read next.reader ≤ lines_read walk.reader + length line + 1
  pub more : length walk.moves.items ≤ length next.moves.items
  pub places : next.places.items ≡ walk.places.items ++ replicate (length next.moves.items - length walk.moves.items) place

abbrev place_of : ℕ → ℕ → ℕ → LineSpan
place_of line from finish = record { line = line; start = from; end = finish }

abbrev state_of : Walk → Reading × List Move
state_of walk = (walk.reader, walk.moves.items)

next_line : (start : Pt3) (unit : Unit) (rules : Rules) (text : List ℕ) (from line : ℕ) (walk next : Walk) (place : LineSpan) (bytes : List ℕ) (rest : List (List ℕ)) → (h : HasWalked start unit rules text from line walk)
    → lines_of (drop from text) ≡ bytes ∷ rest → Adds walk next bytes place → IsNext start unit rules text h.done bytes rest (state_of walk) (state_of next)
next_line start unit rules text from line walk next place bytes rest h cut adds =
    record { lines = h.lines ∙ ap (λ (ls : List (List ℕ)). h.done ++ ls) cut; read = h.read; fed_on = adds.read }

next_size : (walk next : Walk) (place : LineSpan) (bytes : List ℕ) → Adds walk next bytes place → length walk.places.items ≡ length walk.moves.items → length next.places.items ≡ length next.moves.items
next_size walk next place bytes adds even =
    let more = length next.moves.items - length walk.moves.items in
    let size : length next.places.items ≡ length walk.places.items + more =
    ap length adds.places ∙ length-append walk.places.items (replicate more place) ∙ ap (λ n. length walk.places.items + n) (length-replicate more place) in
    omega (arith, size, adds.more, even)

next_each : (start : Pt3) (unit : Unit) (rules : Rules) (text : List ℕ) (walk next : Walk) (place : LineSpan) (done : List (List ℕ)) (bytes : List ℕ) (rest : List (List ℕ))
    → IsNext start unit rules text done bytes rest (state_of walk) (state_of next) → IsPlaceOf text done bytes place → Adds walk next bytes place
    → length walk.places.items ≡ length walk.moves.items → ((k : ℕ) (other : LineSpan) → k < length walk.places.items → IsPlace start unit rules text k (get_or walk.places.items k other))
    → (k : ℕ) (other : LineSpan) → k < length next.places.items → IsPlace start unit rules text k (get_or next.places.items k other)
next_each start unit rules text walk next place done bytes rest is there adds even each =
    let more = length next.moves.items - length walk.moves.items in
    subst (λ (ps : List LineSpan). (k : ℕ) (other : LineSpan) → k < length ps → IsPlace start unit rules text k (get_or ps k other)) (sym adds.places)
    (λ k other lt. all_stand start unit rules text walk.places.items place more k other each
    (λ i low high. stands start unit rules text done bytes rest (state_of walk) (state_of next) place i is there (omega (arith, low, even)) (omega (arith, high, even, adds.more))) lt)

-- the line ends at a line feed, and others follow
pub walk_more : (start : Pt3) (unit : Unit) (rules : Rules) (text : List ℕ) (from line finish : ℕ) (walk next : Walk) → HasWalked start unit rules text from line walk → from ≤ finish → finish < length text
    → lines_of (drop from text) ≡ slice_range text from finish ∷ lines_of (drop (finish + 1) text) → length (slice_range text from finish) ≡ finish - from
    → Adds walk next (slice_range text from finish) (place_of line from finish) → HasWalked start unit rules text (finish + 1) (line + 1) next
walk_more start unit rules text from line finish walk next h order inside cut size adds =
    let bytes = slice_range text from finish in
    let rest = lines_of (drop (finish + 1) text) in
    let is = next_line start unit rules text from line walk next (place_of line from finish) bytes rest h cut adds in
    let there : IsPlaceOf text h.done bytes (place_of line from finish) = record { number = h.count; begins = h.begins; order = order; inside = omega arith; bytes = refl } in
    let long : length (with_ends (h.done ++ bytes ∷ [])) ≡ length (with_ends h.done) + (length bytes + 1) =
    ap length (with_ends-push h.done bytes) ∙ length-append (with_ends h.done) (bytes ++ 10 ∷ []) ∙ ap (λ n. length (with_ends h.done) + n) (length_push bytes 10) in
    let pushed : length (h.done ++ bytes ∷ []) ≡ length h.done + 1 = length_push h.done bytes in
    record {
      done = h.done ++ bytes ∷ [];
      lines = is.lines ∙ split_again h.done bytes rest;
      count = omega (arith, h.count, pushed);
      begins = omega (arith, h.begins, long, size, order);
      few = omega (arith, h.few, pushed, order);
      inside = omega arith;
      read = read_more start unit rules text h.done bytes rest (state_of walk) (state_of next) is;
      room = omega (arith, adds.lines, h.room, size, order);
      even = next_size walk next (place_of line from finish) bytes adds h.even;
      each = next_each start unit rules text walk next (place_of line from finish) h.done bytes rest is there adds h.even h.each;
    }

-- the line is the last
pub walk_last : (start : Pt3) (unit : Unit) (rules : Rules) (text : List ℕ) (from line finish : ℕ) (walk next : Walk) → HasWalked start unit rules text from line walk → from ≤ finish → finish ≤ length text
    → lines_of (drop from text) ≡ slice_range text from finish ∷ [] → Adds walk next (slice_range text from finish) (place_of line from finish) → ArePlaces start unit rules text next.places.items
walk_last start unit rules text from line finish walk next h order inside cut adds =
    let bytes = slice_range text from finish in
    let is = next_line start unit rules text from line walk next (place_of line from finish) bytes [] h cut adds in
    let there : IsPlaceOf text h.done bytes (place_of line from finish) = record { number = h.count; begins = h.begins; order = order; inside = inside; bytes = refl } in
    let all : length h.done + 1 ≡ length (lines_of text) = sym (ap length is.lines ∙ length_push h.done bytes) in
    record {
      count = next_size walk next (place_of line from finish) bytes adds h.even
          ∙ ap length (sym (moves_with start unit rules text h.done bytes [] (state_of walk) (state_of next) (length (lines_of text)) is all));
      each = next_each start unit rules text walk next (place_of line from finish) h.done bytes [] is there adds h.even h.each;
    }

-- a program has a place for each of its moves
pub places_of_all : (start : Pt3) (unit : Unit) (rules : Rules) (text : List ℕ) (places : List LineSpan) (moves : List Move) → ArePlaces start unit rules text places → program_of start unit rules text ≡ Ok moves → length places ≡ length moves
places_of_all start unit rules text places moves are e =
    let begun : Reading × List Move = (reading_at start unit rules, []) in
    let lines = lines_of text in
    let whole : first_lines (length lines) text ≡ text ++ 10 ∷ [] = ap with_ends (take_all (length lines) lines (omega arith)) ∙ with_ends-lines_of text in
    let fed_all : moves_to start unit rules text (length lines) ≡ (at_end (fed begun text)).1 =
    ap (λ (bytes : List ℕ). (fed begun bytes).1) whole ∙ ap (λ (s : Reading × List Move). s.1) (sym (pieces_join begun text (10 ∷ []))) ∙ moves-fed-feed (fed begun text) in
    let is : (at_end (fed begun text)).1 ≡ moves = moves-told _ moves (last_answer (at_end (fed begun text)).0) (pieces_read_program start unit rules text ∙ e) in
    are.count ∙ ap length (fed_all ∙ is)
