-- Runs that overlap or touch, in the order of their first positions, joined to the maximal runs of the positions that stand in them.
use Rattle.std.proofs.Common.{◌≡◌, ◌⊎◌, inl, inr, ℕ, suc, ◌+◌, ◌<◌, ◌≤◌, List, [], ◌∷◌, ◌++◌, length, get_or, refl, sym, subst, ap, ◌∙◌, arith}
use Rattle.std.specs.Prelude.{int_lt, Bool, true, false, ◌↔◌}
use Rattle.std.specs.Int.{int_max}
use Rattle.std.specs.List.{Contains}
use Rattle.std.proofs.lemmas.Bool.{cases_lt}
use Rattle.std.proofs.lemmas.Int.{ints, by_lt_z}
use Rattle.std.proofs.lemmas.List.{get_or_default}
use Rattle.std.proofs.lemmas.List.Elements.{Contains-get_or}
use lib.IntN.{ℤ, pos, ◌+ℤ◌, ◌-ℤ◌}
use lib.Signed.{◌<ℤ◌, ◌≤ℤ◌}
use Rattle.mill_base.specs.Numbers.{Within}
use Rattle.mill_push.specs.declared.fiber.Run.{Run}
use Rattle.mill_push.specs.Runs.{FreeUpTo, IsNextRun, RunsOf, StandsIn}
use Rattle.mill_push.specs.inner.Unions.{IsSpan, AreSpans, AreOrdered}
use Rattle.mill_push.proofs.Stored.{through}

-- the list begins the runs from `from` on, and what comes after its last run begins here
abbrev pub Leads : (ℤ → Type 0) → ℤ → ℤ → List Run → ℤ → Type 0
Leads P from to [] here = from ≡ here
Leads P from to (run ∷ runs) here = IsNextRun P from to run × Leads P (run.last +ℤ pos 1) to runs here

leads_on : (P : ℤ → Type 0) (from to here : ℤ) (runs : List Run) (run : Run) → Leads P from to runs here → IsNextRun P here to run → Leads P from to (runs ++ run ∷ []) (run.last +ℤ pos 1)
leads_on P from to here [] run h next = (subst (λ (f : ℤ). IsNextRun P f to run) (sym h) next, refl)
leads_on P from to here (r ∷ rs) run h next = (h.0, leads_on P (r.last +ℤ pos 1) to here rs run h.1 next)

leads_all : (P : ℤ → Type 0) (from to here : ℤ) (runs rest : List Run) → Leads P from to runs here → RunsOf P here to rest → RunsOf P from to (runs ++ rest)
leads_all P from to here [] rest h last = subst (λ (f : ℤ). RunsOf P f to rest) (sym h) last
leads_all P from to here (r ∷ rs) rest h last = (h.0, leads_all P (r.last +ℤ pos 1) to here rs rest h.1 last)

past : (a v : ℤ) → (a +ℤ pos 1) ≤ℤ v → a <ℤ v
past a v h = omega (arith, ints)

module _ (xs : List Run) where
  -- after the first k runs of the list: those that are done, and the one that grows
  pub record GrownSoFar (from to : ℤ) (k : ℕ) (runs : List Run) (run : Run) : Type 0 where
    pub here : ℤ
    pub leads : Leads (StandsIn xs) from to runs here
    pub after : here ≤ℤ run.first
    pub some : run.first ≤ℤ run.last
    pub within : run.last ≤ℤ to
    pub before : FreeUpTo (StandsIn xs) here run.first
    pub blocks : (v : ℤ) → run.first ≤ℤ v → v ≤ℤ run.last → StandsIn xs v
    pub taken : (j : ℕ) (d : Run) → j < k → j < length xs → (get_or xs j d).last ≤ℤ run.last

  -- a position past what was taken, and before what is still to come
  gap : (k : ℕ) (run : Run) (v : ℤ) → ((j : ℕ) (d : Run) → j < k → j < length xs → (get_or xs j d).last ≤ℤ run.last) → run.last <ℤ v
      → ((j : ℕ) (d : Run) → k ≤ j → j < length xs → v <ℤ (get_or xs j d).first) → ¬ StandsIn xs v
  gap k run v taken past ahead s =
      let m = s.member in
      elim (cases_lt m.0 k) [
        | inl less ↦ before (taken m.0 s.run less m.1) (ap (λ (r : Run). r.last) m.2) s.last
        | inr more ↦ beyond (ahead m.0 s.run more m.1) (ap (λ (r : Run). r.first) m.2) s.first
      ]
    where
      before : {a b : ℤ} → a ≤ℤ run.last → a ≡ b → v ≤ℤ b → ⊥
      before a e b = let p = past in omega (arith, ints)

      beyond : {a b : ℤ} → v <ℤ a → a ≡ b → b ≤ℤ v → ⊥
      beyond a e b = omega (arith, ints)

  member : (k : ℕ) (d : Run) → k < length xs → Contains xs (get_or xs k d)
  member k d less = Contains-get_or xs k d less

  -- what comes later begins no earlier
  later : AreOrdered xs → (k j : ℕ) (s d : Run) (v : ℤ) → k < length xs → get_or xs k s ≡ s → v <ℤ s.first → k ≤ j → j < length xs → v <ℤ (get_or xs j d).first
  later ordered k j s d v less it before le inside = by (ordered k j d le inside) (get_or_default xs k d s less ∙ it)
    where
      by : {a : Run} → a.first ≤ℤ (get_or xs j d).first → a ≡ s → v <ℤ (get_or xs j d).first
      by {a} h e = let f : a.first ≡ s.first = ap (λ (r : Run). r.first) e in let b = before in omega (arith, ints)

  -- what was taken up to `before`, and the next one, is taken up to `last`
  taken_on : (k : ℕ) (s : Run) (before last : ℤ) → k < length xs → get_or xs k s ≡ s → before ≤ℤ last → s.last ≤ℤ last
      → ((j : ℕ) (d : Run) → j < k → j < length xs → (get_or xs j d).last ≤ℤ before) → (j : ℕ) (d : Run) → j < k + 1 → j < length xs → (get_or xs j d).last ≤ℤ last
  taken_on k s before last less it kept most taken j d small inside =
      elim (cases_lt j k) [
        | inl earlier ↦ through (get_or xs j d).last before last (taken j d earlier inside) kept
        | inr large ↦ here large
      ]
    where
      as_it : {a b c : ℤ} → a ≡ b → b ≤ℤ c → a ≤ℤ c
      as_it e h = omega (arith, ints)

      here : k ≤ j → (get_or xs j d).last ≤ℤ last
      here large =
          let place : k ≡ j = omega arith in
          let same : get_or xs j d ≡ s = ap (λ i. get_or xs i d) (sym place) ∙ (get_or_default xs k d s less ∙ it) in
          as_it (ap (λ (r : Run). r.last) same) most

  pub grown_first : AreOrdered xs → (from to : ℤ) (s : Run) → AreSpans from to xs → 0 < length xs → get_or xs 0 s ≡ s → GrownSoFar from to 1 [] s
  grown_first ordered from to s spans some it = record {
    here = from;
    leads = refl;
    after = span.after;
    some = span.some;
    within = span.within;
    before = λ v a b. gap 0 (record { first = v; last = v -ℤ pos 1 }) v (λ j d less inside. absurd (omega (arith, less))) (omega (arith, ints)) (λ j d le inside. later ordered 0 j s d v some it b le inside);
    blocks = λ v a b. record { run = s; member = (0, some, it); first = a; last = b };
    taken = taken_on 0 s s.last s.last some it (omega (arith, ints)) (omega (arith, ints)) (λ j d less inside. absurd (omega (arith, less)));
  }
    where
      span : IsSpan from to s
      span = spans s (0, some, it)

  -- the next one goes on where the growing one is, or just after it
  pub grown_on : AreOrdered xs → (from to : ℤ) (k : ℕ) (runs : List Run) (run s : Run) (last : ℤ) → AreSpans from to xs → k < length xs → get_or xs k s ≡ s
      → s.first ≤ℤ (run.last +ℤ pos 1) → run.last ≤ℤ last → s.last ≤ℤ last → (last ≡ run.last) ⊎ (last ≡ s.last) → GrownSoFar from to k runs run
      → GrownSoFar from to (k + 1) runs (record { first = run.first; last = last })
  grown_on ordered from to k runs run s last spans less it near kept most one h = record {
    here = h.here;
    leads = h.leads;
    after = h.after;
    some = through run.first run.last last h.some kept;
    within = elim one [ inl e ↦ as_it e h.within | inr e ↦ as_it e span.within ];
    before = h.before;
    blocks = λ v a b. by_lt_z run.last v
        (λ past. record { run = s; member = (k, less, it); first = reached v past; last = elim one [ inl e ↦ absurd (not_past v past b e) | inr e ↦ bound b e ] })
        (λ under. h.blocks v a under);
    taken = taken_on k s run.last last less it kept most h.taken;
  }
    where
      span : IsSpan from to s
      span = spans s (k, less, it)

      as_it : {a b c : ℤ} → a ≡ b → b ≤ℤ c → a ≤ℤ c
      as_it e h = omega (arith, ints)

      bound : {a b c : ℤ} → a ≤ℤ b → b ≡ c → a ≤ℤ c
      bound h e = omega (arith, ints)

      reached : (v : ℤ) → run.last <ℤ v → s.first ≤ℤ v
      reached v past = let n = near in omega (arith, ints)

      not_past : (v : ℤ) → run.last <ℤ v → v ≤ℤ last → last ≡ run.last → ⊥
      not_past v past b e = omega (arith, ints)

  -- the next one begins after a free position: the growing one is done
  next_run : AreOrdered xs → (from to : ℤ) (k : ℕ) (runs : List Run) (run : Run) → ((v : ℤ) → v ≡ run.last +ℤ pos 1 → (j : ℕ) (d : Run) → k ≤ j → j < length xs → v <ℤ (get_or xs j d).first)
      → (h : GrownSoFar from to k runs run) → IsNextRun (StandsIn xs) h.here to run
  next_run ordered from to k runs run ahead h = record {
    after = h.after;
    some = h.some;
    within = h.within;
    before = h.before;
    blocks = h.blocks;
    stops = λ less. gap k run (run.last +ℤ pos 1) h.taken (omega (arith, ints)) (ahead (run.last +ℤ pos 1) refl);
  }

  pub grown_next : AreOrdered xs → (from to : ℤ) (k : ℕ) (runs : List Run) (run s : Run) → AreSpans from to xs → k < length xs → get_or xs k s ≡ s
      → (run.last +ℤ pos 1) <ℤ s.first → GrownSoFar from to k runs run → GrownSoFar from to (k + 1) (runs ++ run ∷ []) s
  grown_next ordered from to k runs run s spans less it far h = record {
    here = run.last +ℤ pos 1;
    leads = leads_on (StandsIn xs) from to h.here runs run h.leads
        (next_run ordered from to k runs run (λ v e j d le inside. later ordered k j s d v less it (as_far v e) le inside) h);
    after = weak far;
    some = span.some;
    within = span.within;
    before = λ v a b. gap k run v h.taken (past run.last v a) (λ j d le inside. later ordered k j s d v less it b le inside);
    blocks = λ v a b. record { run = s; member = (k, less, it); first = a; last = b };
    taken = taken_on k s run.last s.last less it beyond (omega (arith, ints)) h.taken;
  }
    where
      span : IsSpan from to s
      span = spans s (k, less, it)

      as_far : (v : ℤ) → v ≡ run.last +ℤ pos 1 → v <ℤ s.first
      as_far v e = let f = far in omega (arith, ints)

      weak : {a b : ℤ} → a <ℤ b → a ≤ℤ b
      weak h = omega (arith, ints)

      beyond : run.last ≤ℤ s.last
      beyond = let f = far in let o = span.some in omega (arith, ints)

  -- after the last one
  pub grown_all : AreOrdered xs → (from to : ℤ) (k : ℕ) (runs : List Run) (run : Run) → length xs ≤ k → GrownSoFar from to k runs run → RunsOf (StandsIn xs) from to (runs ++ run ∷ [])
  grown_all ordered from to k runs run all h =
      leads_all (StandsIn xs) from to h.here runs (run ∷ []) h.leads (
        next_run ordered from to k runs run (λ v e j d le inside. absurd (none j le inside)) h,
        λ v a b. gap k run v h.taken (past run.last v a) (λ j d le inside. absurd (none j le inside)),
      )
    where
      none : (j : ℕ) → k ≤ j → j < length xs → ⊥
      none j le inside = let a = all in omega arith

-- the runs of the same positions
pub runs_as : (P Q : ℤ → Type 0) (from to : ℤ) (runs : List Run) → ((v : ℤ) → from ≤ℤ v → v ≤ℤ to → P v ↔ Q v) → RunsOf P from to runs → RunsOf Q from to runs
runs_as P Q from to [] same h = λ v a b q. h v a b ((same v a (upto v to b)).1 q)
  where
    upto : (v t : ℤ) → v <ℤ (t +ℤ pos 1) → v ≤ℤ t
    upto v t b = omega (arith, ints)
runs_as P Q from to (run ∷ runs) same h = (
  record {
    after = n.after;
    some = n.some;
    within = n.within;
    before = λ v a b q. n.before v a b ((same v a (up_to_run v b)).1 q);
    blocks = λ v a b. (same v (from_run v a) (upto_run v b)).0 (n.blocks v a b);
    stops = λ less q. n.stops less ((same (run.last +ℤ pos 1) next_from (next_to less)).1 q);
  },
  runs_as P Q (run.last +ℤ pos 1) to runs (λ v a b. same v (later v a) b) h.1,
)
  where
    n : IsNextRun P from to run
    n = h.0

    up_to_run : (v : ℤ) → v <ℤ run.first → v ≤ℤ to
    up_to_run v b = let s = n.some in let w = n.within in omega (arith, ints)

    from_run : (v : ℤ) → run.first ≤ℤ v → from ≤ℤ v
    from_run v a = let f = n.after in omega (arith, ints)

    upto_run : (v : ℤ) → v ≤ℤ run.last → v ≤ℤ to
    upto_run v b = let w = n.within in omega (arith, ints)

    next_from : from ≤ℤ (run.last +ℤ pos 1)
    next_from = let f = n.after in let s = n.some in omega (arith, ints)

    next_to : run.last <ℤ to → (run.last +ℤ pos 1) ≤ℤ to
    next_to less = omega (arith, ints)

    later : (v : ℤ) → (run.last +ℤ pos 1) ≤ℤ v → from ≤ℤ v
    later v a = let f = n.after in let s = n.some in omega (arith, ints)

-- the first of a list, and a later one
pub at_head : (xs others : List Run) (s : Run) → xs ≡ s ∷ others → (0 < length xs) × (get_or xs 0 s ≡ s)
at_head xs others s e = (subst (λ (ys : List Run). 0 < length ys) (sym e) (omega arith), subst (λ (ys : List Run). get_or ys 0 s ≡ s) (sym e) refl)

pub at_later : (xs others : List Run) (first d : Run) (k : ℕ) → xs ≡ first ∷ others → k < length others → (k + 1 < length xs) × (get_or xs (k + 1) (get_or others k d) ≡ get_or others k d)
at_later xs others first d k e less = (subst (λ (ys : List Run). k + 1 < length ys) (sym e) (omega (arith, less)), subst (λ (ys : List Run). get_or ys (k + 1) (get_or others k d) ≡ get_or others k d) (sym e) there)
  where
    there : get_or (first ∷ others) (k + 1) (get_or others k d) ≡ get_or others k d
    there = let next : suc k ≡ k + 1 = omega arith in subst (λ m. get_or (first ∷ others) m (get_or others k d) ≡ get_or others k d) next (get_or_default others k (get_or others k d) d less)

pub all_taken : (xs others : List Run) (first : Run) (k : ℕ) → xs ≡ first ∷ others → length others ≤ k → length xs ≤ k + 1
all_taken xs others first k e all = subst (λ (ys : List Run). length ys ≤ k + 1) (sym e) (omega (arith, all))

-- the greater of two numbers is one of them
pub one_of_two : (a b : ℤ) → (int_max a b ≡ a) ⊎ (int_max a b ≡ b)
one_of_two a b = by (int_lt b a) refl
  where
    by : (t : Bool) → int_lt b a ≡ t → (int_max a b ≡ a) ⊎ (int_max a b ≡ b)
    by true e = inl (rw e refl)
    by false e = inr (rw e refl)

pub most_of_two : (a b : ℤ) → (a ≤ℤ int_max a b) × (b ≤ℤ int_max a b)
most_of_two a b = (grind (arith, ints), grind (arith, ints))

pub most_within : (m : ℕ) (a b : ℤ) → Within m a → Within m b → Within m (int_max a b)
most_within m a b h k = by (one_of_two a b)
  where
    by : (int_max a b ≡ a) ⊎ (int_max a b ≡ b) → Within m (int_max a b)
    by (inl e) = subst (λ (v : ℤ). Within m v) (sym e) h
    by (inr e) = subst (λ (v : ℤ). Within m v) (sym e) k
