-- What is left over a column's greatest covered height, and the most of it.
use Rattle.std.specs.Prelude.{◌≡◌, ℕ, ◌+◌, ◌<◌, ◌≤◌, ℤ, pos, ◌-ℤ◌, ◌<ℤ◌, ◌≤ℤ◌, ◌⊎◌, List, Result, Ok, Err, refl}
use Rattle.std.specs.Int.{int_min, int_max}
use Rattle.std.proofs.Common.{sym, subst, inl, inr, arith}
use Rattle.std.proofs.lemmas.Bool.{cases_lt}
use Rattle.std.proofs.lemmas.Int.{ints, clamps, by_lt_z}
use Rattle.mill_base.specs.Covers.{Covered}
use Rattle.mill_base.specs.declared.points.Tri.{Tri}
use Rattle.mill_job.specs.declared.fields.JobFields.{JobFields}
use Rattle.mill_job.specs.Columns.{column_x, column_y, row_count, column_count}
use Rattle.mill_dexel.specs.Tops.{Stock}
use Rattle.mill_part.proofs.Below.{covered_below}
use Rattle.mill_verify.specs.Tests.{IsCutOn}
use Rattle.mill_verify.specs.Verdicts.{IsFirstUncut, IsLeftOverOn}
use Rattle.mill_verify.specs.inner.Firsts.{IsCutTo, IsMostWith, IsRowLeft, IsRowUncut, IsMostOf, LeftInRow, AreRowsLeft, IsFirstUncutOf, AreRowsTold, IsBoth, IsStockLeft, IsStockTold}
use Rattle.mill_verify.specs.declared.left.Uncut.{Uncut}
use Rattle.mill_verify.proofs.Most.{most_none, most_more, most_stays, most_both, below_suc}

-- covered is the greatest covered height of the column, whatever lies over it
pub record IsCover (part : List Tri) (floor band x y covered : ℤ) : Type 0 where
  pub height : (h : ℤ) → (Covered part floor band x y h → h ≤ℤ covered) × (h ≤ℤ covered → Covered part floor band x y h)

pub isnt_cut : (part : List Tri) (floor band x y covered v : ℤ) → IsCover part floor band x y covered → covered <ℤ v → ¬ Covered part floor band x y v
isnt_cut part floor band x y covered v cover over h = not_both v covered ((cover.height v).0 h) over
  where
    not_both : (a b : ℤ) → a ≤ℤ b → b <ℤ a → ⊥
    not_both a b h k = omega (h, k, arith, ints)

pub is_cut_to : {job : JobFields} {part : List Tri} {x y top covered left : ℤ} → IsCover part job.floor job.band x y covered → (top -ℤ job.allowance) ≤ℤ covered
    → left ≡ top -ℤ int_min top covered → IsCutTo job part x y top left
is_cut_to {job} {part} {x} {y} {top} {covered} cover cut is = record {
  cut = (cover.height (top -ℤ job.allowance)).1 cut;
  height = int_min top covered;
  highest = record {
    covered = (cover.height (int_min top covered)).1 (omega (arith, ints, clamps));
    under = omega (arith, ints, clamps);
    highest = λ higher over under covers_it. too_high higher over under ((cover.height higher).0 covers_it);
  };
  difference = is;
}
  where
    too_high : (higher : ℤ) → int_min top covered <ℤ higher → higher ≤ℤ top → higher ≤ℤ covered → ⊥
    too_high higher a b c = omega (a, b, c, arith, ints, clamps)

-- what is left over isn't negative
not_negative : (top height left : ℤ) → height ≤ℤ top → left ≡ top -ℤ height → (pos 0) ≤ℤ left
not_negative top height left u d = omega (u, d, arith, ints)

cut_to_low : {job : JobFields} {part : List Tri} {x y top left : ℤ} → IsCutTo job part x y top left → (pos 0) ≤ℤ left
cut_to_low {top = top} {left = left} h = not_negative top h.height left h.highest.under h.difference

left_over_low : {job : JobFields} {part : List Tri} {stock : Stock} {j i : ℕ} {left : ℤ} → IsLeftOverOn job part stock j i left → (pos 0) ≤ℤ left
left_over_low {left = left} h = not_negative _ h.height left h.highest.under h.difference

-- a column is left over by at most one number, since its greatest covered height is one
cut_to_same : {job : JobFields} {part : List Tri} {x y top a b : ℤ} → IsCutTo job part x y top a → IsCutTo job part x y top b → a ≤ℤ b
cut_to_same {top = top} {a = a} {b = b} p q =
    by_lt_z {P = a ≤ℤ b} p.height q.height (λ h. absurd (p.highest.highest q.height h q.highest.under q.highest.covered)) (λ h. by p.height q.height h p.difference q.difference)
  where
    by : (m n : ℤ) → n ≤ℤ m → a ≡ top -ℤ m → b ≡ top -ℤ n → a ≤ℤ b
    by m n h d e = omega (h, d, e, arith, ints)

-- a column is covered so high that it is cut, and no more than most is left there
pub is_most_kept : {job : JobFields} {part : List Tri} {x y top most enough : ℤ} → (pos 0) ≤ℤ job.allowance → (pos 0) ≤ℤ most → enough ≡ top -ℤ int_min most job.allowance
    → Covered part job.floor job.band x y enough → IsMostWith job part x y top most most
is_most_kept {job} {part} {x} {y} {top} {most} {enough} allowance low e covered = record {
  cut = covered_below part job.floor job.band x y enough (top -ℤ job.allowance) (omega (e, arith, ints, clamps)) covered;
  least = omega (arith, ints);
  there = by_lt_z {P = (((pos 0) <ℤ most) × (most ≡ most)) ⊎ IsCutTo job part x y top most} (pos 0) most (λ some. inl (some, refl)) (λ none. inr (all_cut none));
  bound = λ left h. by_lt_z {P = left ≤ℤ most} h.height enough (λ under. absurd (h.highest.highest enough under (omega (e, low, allowance, arith, ints, clamps)) covered)) (λ over. bounded h.height left over h.difference);
}
  where
    too_high : (higher : ℤ) → top <ℤ higher → higher ≤ℤ top → ⊥
    too_high higher a b = omega (a, b, arith, ints)

    all_cut : most ≤ℤ pos 0 → IsCutTo job part x y top most
    all_cut none = record {
      cut = covered_below part job.floor job.band x y enough (top -ℤ job.allowance) (omega (e, arith, ints, clamps)) covered;
      height = top;
      highest = record {
        covered = covered_below part job.floor job.band x y enough top (omega (e, none, low, allowance, arith, ints, clamps)) covered;
        under = omega (arith, ints);
        highest = λ higher over under _. too_high higher over under;
      };
      difference = omega (none, low, arith, ints);
    }

    bounded : (height left : ℤ) → enough ≤ℤ height → left ≡ top -ℤ height → left ≤ℤ most
    bounded height left over d = omega (e, over, d, low, allowance, arith, ints, clamps)

-- what is left there is worked out
pub is_greater : {job : JobFields} {part : List Tri} {x y top most left next : ℤ} → (pos 0) ≤ℤ most → IsCutTo job part x y top left → next ≡ int_max most left → IsMostWith job part x y top most next
is_greater {job} {part} {x} {y} {top} {most} {left} {next} low h e = record {
  cut = h.cut;
  least = omega (e, arith, ints, clamps);
  there = by_lt_z {P = (((pos 0) <ℤ most) × (next ≡ most)) ⊎ IsCutTo job part x y top next} left most (λ less. inl (some (cut_to_low h) less, kept less)) (λ more. inr (subst (IsCutTo job part x y top) (raised more) h));
  bound = λ other k. no_more other (cut_to_same k h);
}
  where
    some : (pos 0) ≤ℤ left → left <ℤ most → (pos 0) <ℤ most
    some a b = omega (a, b, arith, ints)

    kept : left <ℤ most → next ≡ most
    kept less = omega (e, less, arith, ints, clamps)

    raised : most ≤ℤ left → left ≡ next
    raised more = omega (e, more, arith, ints, clamps)

    no_more : (other : ℤ) → other ≤ℤ left → other ≤ℤ next
    no_more other le = omega (e, le, arith, ints, clamps)

left_over_of : {job : JobFields} {part : List Tri} {stock : Stock} {j i : ℕ} {left : ℤ} → IsCutTo job part (column_x job i) (column_y job j) (stock j i) left
    → IsLeftOverOn job part stock j i left
left_over_of h = record { height = h.height; highest = h.highest; difference = h.difference }

-- the columns of row j before n are cut, and this is the most that any of them is left over
pub record IsRowLeftTo (job : JobFields) (part : List Tri) (stock : Stock) (j n : ℕ) (left : ℤ) : Type 0 where
  pub cut : (i : ℕ) → i < n → IsCutOn job part stock j i
  pub most : IsMostOf (IsLeftOverOn job part stock j) 0 n left

pub row_left_none : {job : JobFields} {part : List Tri} {stock : Stock} {j : ℕ} {left : ℤ} → left ≡ pos 0 → IsRowLeftTo job part stock j 0 left
row_left_none {left} e = record { cut = λ i h. absurd (omega (h, arith)); most = most_none _ 0 left e }

-- what is left over a column that is cut
cut_to_of : {job : JobFields} {part : List Tri} {stock : Stock} {j i : ℕ} {left : ℤ} → IsCutOn job part stock j i → IsLeftOverOn job part stock j i left
    → IsCutTo job part (column_x job i) (column_y job j) (stock j i) left
cut_to_of cut h = record { cut = cut; height = h.height; highest = h.highest; difference = h.difference }

pub row_left_more : {job : JobFields} {part : List Tri} {stock : Stock} {j n : ℕ} {most next : ℤ} → IsRowLeftTo job part stock j n most
    → IsMostWith job part (column_x job n) (column_y job j) (stock j n) most next → IsRowLeftTo job part stock j (n + 1) next
row_left_more {job} {part} {stock} {j} {n} {most} {next} so_far h = record {
  cut = λ i less. elim (below_suc n i less) [ inl before ↦ so_far.cut i before | inr same ↦ subst (λ (v : ℕ). IsCutOn job part stock j v) (sym same) h.cut ];
  most = elim h.there [
    | inl stays ↦ subst (IsMostOf L 0 (n + 1)) (sym stays.1) (most_stays L 0 n most (omega arith) so_far.most stays.0 (λ x k. subst (λ z. x ≤ℤ z) stays.1 (best x k)))
    | inr here ↦ most_more L 0 n most next next (omega arith) so_far.most (left_over_of here) best (cut_to_low here) (greater most next h.least)
  ];
}
  where
    L : ℕ → ℤ → Type 0
    L = IsLeftOverOn job part stock j

    best : (x : ℤ) → L n x → x ≤ℤ next
    best x k = h.bound x (cut_to_of h.cut k)

    greater : (a b : ℤ) → a ≤ℤ b → b ≡ int_max a b
    greater a b le = omega (le, arith, ints, clamps)

pub row_left_all : {job : JobFields} {part : List Tri} {stock : Stock} {j n : ℕ} {left : ℤ} → n ≡ column_count job → 0 < column_count job → IsRowLeftTo job part stock j n left → IsRowLeft job part stock j left
row_left_all {job} {part} {stock} {j} {n} {left} e some h =
    let m : IsMostOf (IsLeftOverOn job part stock j) 0 (column_count job) left = subst (λ (v : ℕ). IsMostOf (IsLeftOverOn job part stock j) 0 v left) e h.most in
    let found = m.there some in
    record { cut = λ i less. h.cut i (subst (λ (v : ℕ). i < v) (sym e) less); col = found.0; column = found.2; there = found.3; most = λ i other less k. m.bound i other (omega arith) less k }

pub rows_left_none : {job : JobFields} {part : List Tri} {stock : Stock} {s : ℕ} {left : ℤ} → left ≡ pos 0 → AreRowsLeft job part stock s s left
rows_left_none {s} {left} e = record { cut = λ a b h k. absurd (omega (h, k, arith)); most = most_none _ s left e }

-- one more row
pub rows_left_more : {job : JobFields} {part : List Tri} {stock : Stock} {s n : ℕ} {most left next : ℤ} → s ≤ n → AreRowsLeft job part stock s n most → IsRowLeft job part stock n left
    → next ≡ int_max most left → AreRowsLeft job part stock s (n + 1) next
rows_left_more {job} {part} {stock} {s} {n} {most} {left} {next} order so_far h e = record {
  cut = λ a b low less c. elim (below_suc n a less) [ inl before ↦ so_far.cut a b low before c | inr same ↦ subst (λ (v : ℕ). IsCutOn job part stock v b) (sym same) (h.cut b c) ];
  most = most_more (LeftInRow job part stock) s n most left next order so_far.most (h.col, h.column, h.there) (λ x k. h.most k.0 x k.1 k.2) (left_over_low h.there) e;
}

pub rows_left_end : {job : JobFields} {part : List Tri} {stock : Stock} {s n e : ℕ} {left : ℤ} → n ≡ e → AreRowsLeft job part stock s n left → AreRowsLeft job part stock s e left
rows_left_end {job} {part} {stock} {s} {left} same h = subst (λ (v : ℕ). AreRowsLeft job part stock s v left) same h

-- two ranges of rows that meet
rows_left_both : {job : JobFields} {part : List Tri} {stock : Stock} (s m e : ℕ) (a b : ℤ) → s ≤ m → m ≤ e → AreRowsLeft job part stock s m a → AreRowsLeft job part stock m e b
    → AreRowsLeft job part stock s e (int_max a b)
rows_left_both {job} {part} {stock} s m e a b first second left right = record {
  cut = λ j i low high c. elim (cases_lt j m) [ inl less ↦ left.cut j i low less c | inr rest ↦ right.cut j i rest high c ];
  most = most_both (LeftInRow job part stock) s m e a b (int_max a b) first second left.most right.most refl;
}

stock_left_all : {job : JobFields} {part : List Tri} {stock : Stock} {n : ℕ} {left : ℤ} → n ≡ row_count job → 0 < row_count job → AreRowsLeft job part stock 0 n left → IsStockLeft job part stock left
stock_left_all {job} {part} {stock} {n} {left} e some h =
    let m : IsMostOf (LeftInRow job part stock) 0 (row_count job) left = subst (λ (v : ℕ). IsMostOf (LeftInRow job part stock) 0 v left) e h.most in
    let found = m.there some in
    record {
      cut = λ j i c. h.cut j i (omega arith) (subst (λ (v : ℕ). j < v) (sym e) c.row) c.column;
      most = record {
        row = found.0;
        col = found.3.0;
        column = record { row = found.2; column = found.3.1 };
        there = found.3.2;
        most = λ j i other c k. m.bound j other (omega arith) c.row (i, c.column, k);
      };
    }

-- the first of a row after rows that are cut is the first of the range
pub row_uncut_of : {job : JobFields} {part : List Tri} {stock : Stock} {s e j i r : ℕ} {top left : ℤ} → s ≤ j → j < e → AreRowsLeft job part stock s j left → r ≡ j → IsRowUncut job part stock j i top
    → IsFirstUncutOf job part stock s e r i top
row_uncut_of {job} {part} {stock} {s} {e} {i} {top} start there so_far is h =
    subst (λ (v : ℕ). IsFirstUncutOf job part stock s e v i top) (sym is) (record { start = start; there = there; before = so_far.cut; row = h })

-- the first of all rows is the first of the stock
first_uncut_all : {job : JobFields} {part : List Tri} {stock : Stock} {n j i : ℕ} {top : ℤ} → n ≡ row_count job → IsFirstUncutOf job part stock 0 n j i top → IsFirstUncut job part stock j i top
first_uncut_all {job} {part} {stock} {j} e h = record {
  column = record { row = subst (λ (v : ℕ). j < v) e h.there; column = h.row.column };
  first = λ a b c order. elim order [ inl less ↦ h.before a b (omega arith) less c.column | inr same ↦ subst (λ (v : ℕ). IsCutOn job part stock v b) (sym same.0) (h.row.first b same.1) ];
  fails = h.row.fails;
  shown = h.row.shown;
}

-- what two ranges that meet say together is what their rows say
pub both_told : (job : JobFields) (part : List Tri) (stock : Stock) (s m e : ℕ) (left right told : Result ℤ Uncut) → s ≤ m → m ≤ e → AreRowsTold job part stock s m left → AreRowsTold job part stock m e right
    → IsBoth left right told → AreRowsTold job part stock s e told
both_told job part stock s m e (Err uncut) right told first second l r is =
    subst (AreRowsTold job part stock s e) (sym is) (record { start = l.start; there = within l.there; before = l.before; row = l.row })
  where
    within : uncut.row < m → uncut.row < e
    within h = omega (h, second, arith)
both_told job part stock s m e (Ok most) (Err uncut) told first second l r is =
    subst (AreRowsTold job part stock s e) (sym is) (record {
      start = after r.start;
      there = r.there;
      before = λ a b low less c. elim (cases_lt a m) [ inl in_left ↦ l.cut a b low in_left c | inr in_right ↦ r.before a b in_right less c ];
      row = r.row;
    })
  where
    after : m ≤ uncut.row → s ≤ uncut.row
    after h = omega (h, first, arith)
both_told job part stock s m e (Ok most) (Ok other) told first second l r is = subst (AreRowsTold job part stock s e) (sym is) (rows_left_both s m e most other first second l r)

-- what is said of all rows is said of the stock
pub stock_told : (job : JobFields) (part : List Tri) (stock : Stock) (n : ℕ) (told : Result ℤ Uncut) → n ≡ row_count job → 0 < row_count job → AreRowsTold job part stock 0 n told
    → IsStockTold job part stock told
stock_told job part stock n (Ok left) all some h = stock_left_all all some h
stock_told job part stock n (Err uncut) all some h = first_uncut_all all h
