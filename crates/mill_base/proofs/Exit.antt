-- The first moment at which one of several falling quantities comes to 0.
use Rattle.std.proofs.Common.{◌≡◌, ◌⊎◌, inl, inr, Bool, true, false, List, [], ◌∷◌, refl, arith}
use lib.IntN.{ℤ, pos, ◌+ℤ◌, ◌-ℤ◌, ◌*ℤ◌}
use lib.Signed.{◌<ℤ◌, ◌≤ℤ◌, lt_z}
use Rattle.std.proofs.lemmas.Int.{ints}
use Rattle.mill_base.proofs.ExitCerts.{exit_keep, exit_rise, exit_zero, exit_falls}

-- a quantity now, and how it changes in a unit of time
pub record Line : Type 0 where
  pub now : ℤ
  pub rate : ℤ

-- q times the quantity at the time p/q
abbrev pub then : ℤ → ℤ → Line → ℤ
then p q l = q *ℤ l.now +ℤ p *ℤ l.rate

abbrev pub NowFine : List Line → Type 0
NowFine [] = Unit {0}
NowFine (l ∷ ls) = ((pos 0) ≤ℤ l.now) × NowFine ls

abbrev pub ThenFine : ℤ → ℤ → List Line → Type 0
ThenFine p q [] = Unit {0}
ThenFine p q (l ∷ ls) = ((pos 0) ≤ℤ then p q l) × ThenFine p q ls

-- one of them is 0 then
abbrev pub OneGone : ℤ → ℤ → List Line → Type 0
OneGone p q [] = ⊥
OneGone p q (l ∷ ls) = (then p q l ≡ pos 0) ⊎ OneGone p q ls

abbrev pub NeverFalls : List Line → Type 0
NeverFalls [] = Unit {0}
NeverFalls (l ∷ ls) = ((pos 0) ≤ℤ l.rate) × NeverFalls ls

pub record Exit (ls : List Line) : Type 0 where
  pub p : ℤ
  pub q : ℤ
  pub p_ok : (pos 0) ≤ℤ p
  pub q_ok : (pos 0) <ℤ q
  pub fine : ThenFine p q ls
  pub gone : OneGone p q ls

pub split_lt : (a b : ℤ) → (a <ℤ b) ⊎ (b ≤ℤ a)
split_lt a b = by (lt_z a b) refl
  where
    by : (t : Bool) → lt_z a b ≡ t → (a <ℤ b) ⊎ (b ≤ℤ a)
    by true e = inl (omega (arith, ints))
    by false e = inr (omega (arith, ints))

-- an earlier time keeps the others fine
earlier : (p q w r : ℤ) → (pos 0) <ℤ q → (pos 0) ≤ℤ w → r <ℤ pos 0 → (q *ℤ w +ℤ p *ℤ r) <ℤ pos 0 → (ls : List Line) → NowFine ls → ThenFine p q ls → ThenFine w (pos 0 -ℤ r) ls
earlier p q w r hq hw hr hn [] n t = tt
earlier p q w r hq hw hr hn (l ∷ ls) n t = (
  elim (split_lt l.rate (pos 0)) [ inl s ↦ exit_keep q l.now p r w l.rate n.0 s t.0 hq hw hn hr | inr s ↦ exit_rise l.now w r l.rate n.0 hw hr s ],
  earlier p q w r hq hw hr hn ls n.1 t.1,
)

below_zero : (r : ℤ) → r <ℤ pos 0 → (pos 0) <ℤ (pos 0 -ℤ r)
below_zero r h = omega (arith, ints)

first : (l : Line) (ls : List Line) → (pos 0) ≤ℤ l.now → NowFine ls → (NeverFalls ls ⊎ Exit ls) → NeverFalls (l ∷ ls) ⊎ Exit (l ∷ ls)
first l ls h n (inl never) = elim (split_lt l.rate (pos 0)) [
  | inl s ↦ inr (record { p = l.now; q = pos 0 -ℤ l.rate; p_ok = h; q_ok = below_zero l.rate s; fine = (zero_le _ (exit_zero l.now l.rate), rising l.now l.rate h s ls n never); gone = inl (exit_zero l.now l.rate) })
  | inr s ↦ inl (s, never)
]
  where
    zero_le : (x : ℤ) → x ≡ pos 0 → (pos 0) ≤ℤ x
    zero_le x e = omega (arith, ints)

    rising : (w r : ℤ) → (pos 0) ≤ℤ w → r <ℤ pos 0 → (ls : List Line) → NowFine ls → NeverFalls ls → ThenFine w (pos 0 -ℤ r) ls
    rising w r hw hr [] n t = tt
    rising w r hw hr (l ∷ ls) n t = (exit_rise l.now w r l.rate n.0 hw hr t.0, rising w r hw hr ls n.1 t.1)
first l ls h n (inr e) = elim (split_lt (then e.p e.q l) (pos 0)) [
  | inl s ↦ inr (let r = exit_falls e.q l.now e.p l.rate e.q_ok h e.p_ok s in
      record { p = l.now; q = pos 0 -ℤ l.rate; p_ok = h; q_ok = below_zero l.rate r; fine = (zero_le _ (exit_zero l.now l.rate), earlier e.p e.q l.now l.rate e.q_ok h r s ls n e.fine); gone = inl (exit_zero l.now l.rate) })
  | inr s ↦ inr (record { p = e.p; q = e.q; p_ok = e.p_ok; q_ok = e.q_ok; fine = (s, e.fine); gone = inr e.gone })
]
  where
    zero_le : (x : ℤ) → x ≡ pos 0 → (pos 0) ≤ℤ x
    zero_le x e = omega (arith, ints)

-- either none of them ever falls, or there is a first time at which one is 0, and all are fine till then
pub exit : (ls : List Line) → NowFine ls → NeverFalls ls ⊎ Exit ls
exit [] n = inl tt
exit (l ∷ ls) n = first l ls n.0 n.1 (exit ls n.1)
