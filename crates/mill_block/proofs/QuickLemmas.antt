-- Lines that are only a move, with their words in the usual order.
use Rattle.std.proofs.Common.{◌≡◌, ℕ, ℤ, ◌+◌, ◌<◌, List, length, get_or, arith, true, ◌||◌, Option, Some, None, is_some, unwrap_or, refl, inl, inr}
use Rattle.std.specs.Char.{to_ascii_uppercase}
use Rattle.mill_base.specs.Ranges.{IsInUnitRange}
use Rattle.mill_base.specs.declared.motion.Kind.{Kind}
use Rattle.mill_words.specs.Lines.{EndsWord, and_word, is_word_letter, line_from}
use Rattle.mill_words.specs.Words.{Line}
use Rattle.mill_words.specs.declared.word.Num.{Num}
use Rattle.mill_block.specs.declared.plain_move.PlainMove.{PlainMove}
use Rattle.mill_said.specs.declared.profile.Mode.TheVariants.{On}
use Rattle.mill_block.specs.declared.progress.Progress.{Progress}
use Rattle.mill_block.specs.Lines.{line_begun}
use Rattle.mill_block.specs.inner.PlainMoves.{EndsLine, FeedWord, IsMotion, IsReady, LineMovesTo, ReadTo, ReadsAxis, in_order, mode_of, plain_target}
use Rattle.mill_block.proofs.PlainLemmas.{capital-of, goes-feed, goes-motion, goes-x, goes-y, goes-z, line-moves, more-feed, more-motion, more-x, more-y, more-z, none-read, one-more-read}

-- a motion word is read
pub motion-read : (p : Progress) (bytes : List ℕ) (end : ℕ) (n : Num) (kind : Option Kind) → get_or bytes 0 0 ≡ 71
    → ((l : Line) → is_word_letter (get_or bytes 0 0) ≡ true → length l.words < 32 → EndsWord bytes end
    → line_from l bytes 0 ≡ line_from (and_word l (to_ascii_uppercase (get_or bytes 0 0)) n) bytes end)
    → IsMotion n kind → ReadTo p bytes end (in_order kind None None None)
motion-read p bytes end n kind letter word motion =
    one-more-read p bytes 0 end n (in_order None None None None) (in_order kind None None None) (capital-of (get_or bytes 0 0) (inr (inr (inl letter)))) word
    (λ positioned s says. goes-motion p.unit p.line positioned (record { letter = get_or bytes 0 0; num = n }) s (in_order None None None None) kind letter refl motion says)
    (more-motion (in_order None None None None) n kind refl motion) (none-read p bytes)

-- and then the words of X, Y and Z, or none
x-read : (p : Progress) (bytes : List ℕ) (place end : ℕ) (kind : Option Kind) (x : Option ℤ) → ReadsAxis p.unit p.line bytes place 88 x end
    → ReadTo p bytes place (in_order kind None None None) → ReadTo p bytes end (in_order kind x None None)
x-read p bytes place end kind None reads to = rw reads to
x-read p bytes place end kind (Some x) reads to =
    one-more-read p bytes place end reads.num (in_order kind None None None) (in_order kind (Some x) None None) (capital-of (get_or bytes place 0) (inl (inl reads.letter_is))) reads.word
    (λ positioned s says. goes-x p.unit p.line positioned (record { letter = get_or bytes place 0; num = reads.num }) s (in_order kind None None None) (Some x) reads.letter_is refl reads.units_are says)
    (more-x (in_order kind None None None) (Some x) refl refl) to

y-read : (p : Progress) (bytes : List ℕ) (place end : ℕ) (kind : Option Kind) (x y : Option ℤ) → ReadsAxis p.unit p.line bytes place 89 y end
    → ReadTo p bytes place (in_order kind x None None) → ReadTo p bytes end (in_order kind x y None)
y-read p bytes place end kind x None reads to = rw reads to
y-read p bytes place end kind x (Some y) reads to =
    one-more-read p bytes place end reads.num (in_order kind x None None) (in_order kind x (Some y) None) (capital-of (get_or bytes place 0) (inl (inr reads.letter_is))) reads.word
    (λ positioned s says. goes-y p.unit p.line positioned (record { letter = get_or bytes place 0; num = reads.num }) s (in_order kind x None None) (Some y) reads.letter_is refl reads.units_are says)
    (more-y (in_order kind x None None) (Some y) refl refl) to

z-read : (p : Progress) (bytes : List ℕ) (place end : ℕ) (kind : Option Kind) (x y z : Option ℤ) → ReadsAxis p.unit p.line bytes place 90 z end
    → ReadTo p bytes place (in_order kind x y None) → ReadTo p bytes end (in_order kind x y z)
z-read p bytes place end kind x y None reads to = rw reads to
z-read p bytes place end kind x y (Some z) reads to =
    one-more-read p bytes place end reads.num (in_order kind x y None) (in_order kind x y (Some z)) (capital-of (get_or bytes place 0) (inr (inl reads.letter_is))) reads.word
    (λ positioned s says. goes-z p.unit p.line positioned (record { letter = get_or bytes place 0; num = reads.num }) s (in_order kind x y None) (Some z) reads.letter_is refl reads.units_are says)
    (more-z (in_order kind x y None) (Some z) refl refl) to

-- and last a feed rate
feed-read : (p : Progress) (bytes : List ℕ) (place : ℕ) (kind : Option Kind) (x y z : Option ℤ) → FeedWord bytes place
    → ReadTo p bytes place (in_order kind x y z) → ReadTo p bytes (length bytes) (record (in_order kind x y z) { feed = true })
feed-read p bytes place kind x y z feed to =
    one-more-read p bytes place (length bytes) feed.num (in_order kind x y z) (record (in_order kind x y z) { feed = true }) (capital-of (get_or bytes place 0) (inr (inr (inr feed.letter_is)))) feed.word
    (λ positioned s says. goes-feed p.unit p.line positioned (record { letter = get_or bytes place 0; num = feed.num }) s (in_order kind x y z) true feed.letter_is refl refl feed.over says)
    (more-feed (in_order kind x y z) true refl refl) to

-- where they end with the line, that is its move
ends-moves : (p : Progress) (bytes : List ℕ) (m : PlainMove) (kind : Option Kind) (x y z : Option ℤ) (d : ℕ) → IsReady p → IsInUnitRange p.unit p.here
    → ReadTo (line_begun p) bytes d (in_order kind x y z) → EndsLine bytes d → ((is_some x || is_some y) || is_some z) ≡ true → unwrap_or (mode_of kind) p.mode ≡ On m.kind
    → m.to ≡ plain_target p.here (in_order kind x y z) → LineMovesTo (line_begun p) bytes m
ends-moves p bytes m kind x y z d ready here whole (inl all) some mode to =
    line-moves p bytes d (in_order kind x y z) m ready here whole all (record { some = some; mode = mode; to = to })
ends-moves p bytes m kind x y z d ready here whole (inr feed) some mode to =
    line-moves p bytes (length bytes) (record (in_order kind x y z) { feed = true }) m ready here (feed-read (line_begun p) bytes d kind x y z feed whole) (omega arith)
    (record { some = some; mode = mode; to = to })

pub quick-moves : (p : Progress) (bytes : List ℕ) (m : PlainMove) (kind : Option Kind) (x y z : Option ℤ) (a b c d : ℕ) → IsReady p → IsInUnitRange p.unit p.here
    → ReadTo (line_begun p) bytes a (in_order kind None None None)
    → ReadsAxis p.unit (p.line + 1) bytes a 88 x b → ReadsAxis p.unit (p.line + 1) bytes b 89 y c → ReadsAxis p.unit (p.line + 1) bytes c 90 z d
    → EndsLine bytes d → ((is_some x || is_some y) || is_some z) ≡ true → unwrap_or (mode_of kind) p.mode ≡ On m.kind
    → m.to ≡ plain_target p.here (in_order kind x y z) → LineMovesTo (line_begun p) bytes m
quick-moves p bytes m kind x y z a b c d ready here motion first second third ends some mode to =
    let whole = z-read (line_begun p) bytes c d kind x y z third (y-read (line_begun p) bytes b c kind x y second (x-read (line_begun p) bytes a b kind x first motion)) in
    ends-moves p bytes m kind x y z d ready here whole ends some mode to
