-- A text of lines, each with a line feed behind it, cut at its line feeds.
use Rattle.std.proofs.Common.{◌≡◌, ℕ, ◌==◌, false, List, [], ◌∷◌, ◌++◌, refl, append_assoc}
use Rattle.std.specs.List.{flat_map}
use Rattle.mill_ngc.specs.Programs.{lines_of}
use Rattle.mill_ngc.specs.Writing.{ended}

-- no byte of the line is a line feed
abbrev pub NoFeed : List ℕ → Type 0
NoFeed [] = Unit {0}
NoFeed (b ∷ line) = ((b == 10) ≡ false) × NoFeed line

-- the same of each line
abbrev pub NoFeeds : List (List ℕ) → Type 0
NoFeeds [] = Unit {0}
NoFeeds (line ∷ lines) = NoFeed line × NoFeeds lines

pub NoFeed-append : (xs ys : List ℕ) → NoFeed xs → NoFeed ys → NoFeed (xs ++ ys)
NoFeed-append [] ys none_x none_y = none_y
NoFeed-append (x ∷ xs) ys none_x none_y = (none_x.0, NoFeed-append xs ys none_x.1 none_y)

pub NoFeeds-append : (xs ys : List (List ℕ)) → NoFeeds xs → NoFeeds ys → NoFeeds (xs ++ ys)
NoFeeds-append [] ys none_x none_y = none_y
NoFeeds-append (x ∷ xs) ys none_x none_y = (none_x.0, NoFeeds-append xs ys none_x.1 none_y)

-- the first line stands before the first line feed
lines_of-line : (line rest : List ℕ) → NoFeed line → lines_of (line ++ 10 ∷ rest) ≡ line ∷ lines_of rest
lines_of-line [] rest none = refl
lines_of-line (b ∷ line) rest none = rw (none.0, lines_of-line line rest none.1) refl

-- the text is cut into its lines, and nothing stands behind the last line feed
pub lines_of-ended : (lines : List (List ℕ)) → NoFeeds lines → lines_of (flat_map ended lines) ≡ lines ++ [] ∷ []
lines_of-ended [] none = refl
lines_of-ended (line ∷ lines) none = rw (append_assoc, lines_of-line line (flat_map ended lines) none.0, lines_of-ended lines none.1) refl
