-- Chains that have an edge in common are one.
use Rattle.std.proofs.Common.{◌≡◌, ◌⊎◌, inl, inr, ℕ, ◌<◌, ◌≤◌, Bool, true, false, cond, List, [], ◌∷◌, MatchBool, refl, sym, ◌∙◌, ap, subst, arith}
use Rattle.std.proofs.lemmas.List.Sums.{sum_by-cons}
use Rattle.mill_level.specs.declared.edge.Edge.{Edge}
use Rattle.mill_level.specs.Grids.{Grid, same_edge}
use Rattle.mill_level.specs.Joins.{IsJoin, JoinsAreApart}
use Rattle.mill_level.specs.Crossings.{Crossing}
use Rattle.mill_level.specs.Chains.{comes_before, Chain, IsChain, IsClosedChain, IsOpenChain, IsWay, crossings_of, times_in}
use Rattle.mill_level.proofs.CrossingOrder.{edges_of_tied}
use Rattle.mill_level.proofs.Edges.{same_is, same_self}
use Rattle.mill_level.proofs.Members.{IsIn, contains_in, member_counts, member_of_sum}

-- a crossing of the chain is on the edge
pub record IsOn (e : Edge) (chain : Chain) : Type 0 where
  pub crossing : Crossing
  pub member : IsIn crossing (crossings_of chain)
  pub edge : crossing.edge ≡ e

-- 1 where the crossing is on the edge, and 0 elsewhere
abbrev pub count_on : Edge → Crossing → ℕ
count_on e c = cond (same_edge c.edge e) 1 0

count_on_itself : (c : Crossing) (e : Edge) → c.edge ≡ e → count_on e c ≡ 1
count_on_itself c e h = by (same_edge c.edge e) (subst (λ (f : Edge). same_edge c.edge f ≡ true) h (same_self c.edge))
  where
    by : (b : Bool) → b ≡ true → ◌≡◌ {A = ℕ} (cond b 1 0) 1
    by true e = refl
    by false e = cc

edge_counted : (c : Crossing) (e : Edge) → 0 < count_on e c → c.edge ≡ e
edge_counted c e h = by (same_edge c.edge e) refl h
  where
    by : (b : Bool) → same_edge c.edge e ≡ b → 0 < cond b 1 0 → c.edge ≡ e
    by true d k = same_is c.edge e d
    by false d k = absurd (omega arith)

pub on_from_times : (e : Edge) (chain : Chain) → 0 < times_in e chain → IsOn e chain
on_from_times e chain h =
    let m = member_of_sum (count_on e) (crossings_of chain) h in
    record { crossing = m.0; member = m.1; edge = edge_counted m.0 e m.2 }

pub times_from_on : (e : Edge) (chain : Chain) → IsOn e chain → 0 < times_in e chain
times_from_on e chain on = omega (arith, count_on_itself on.crossing e on.edge, member_counts (count_on e) on.crossing (crossings_of chain) on.member)

pub first_is_on : (chain : Chain) → IsOn chain.first.edge chain
first_is_on chain = record { crossing = chain.first; member = inl refl; edge = refl }

-- the first crossing's edge does not come again
first_once : (chain : Chain) (c : Crossing) → times_in chain.first.edge chain ≤ 1 → IsIn c chain.others → ¬ (c.edge ≡ chain.first.edge)
first_once chain c most h e =
    let f = count_on chain.first.edge in
    let whole = sum_by-cons f chain.first chain.others in
    let one = count_on_itself chain.first chain.first.edge refl in
    let other = count_on_itself c chain.first.edge e in
    let rest = member_counts f c chain.others h in
    omega arith

chain_made : (closed shut : Bool) (first start : Crossing) (cs ds : List Crossing) → closed ≡ shut → first ≡ start → cs ≡ ds
    → ◌≡◌ {A = Chain} (record { closed = closed; first = first; others = cs }) (record { closed = shut; first = start; others = ds })
chain_made closed shut first start cs ds p q r = cc

module _ (grid : Grid) where
  way_next : (first : Crossing) (cs : List Crossing) (last c : Crossing) → IsWay grid first cs last → IsIn c (first ∷ cs)
      → (c ≡ last) ⊎ ((d : Crossing) × IsIn d cs × IsJoin grid c.edge d.edge)
  way_next first [] last c way (inl e) = inl (sym e ∙ way)
  way_next first [] last c way (inr h) = absurd h
  way_next first (d ∷ ds) last c way (inl e) = inr (d, inl refl, subst (λ (x : Crossing). IsJoin grid x.edge d.edge) e way.0)
  way_next first (d ∷ ds) last c way (inr h) = elim (way_next d ds last c way.1 h) [ inl e ↦ inl e | inr r ↦ inr (r.0, inr r.1, r.2) ]

  way_before : (first : Crossing) (cs : List Crossing) (last c : Crossing) → IsWay grid first cs last → IsIn c cs → (d : Crossing) × IsIn d (first ∷ cs) × IsJoin grid d.edge c.edge
  way_before first [] last c way h = absurd h
  way_before first (d ∷ ds) last c way (inl e) = (first, inl refl, subst (λ (x : Crossing). IsJoin grid first.edge x.edge) e way.0)
  way_before first (d ∷ ds) last c way (inr h) = let r = way_before d ds last c way.1 h in (r.0, inr r.1, r.2)

  -- a chain is closed or open
  pub forms : (chain : Chain) → IsChain grid chain → ((chain.closed ≡ true) × IsClosedChain grid chain) ⊎ ((chain.closed ≡ false) × IsOpenChain grid chain)
  forms chain h = by chain.closed refl h
    where
      by : (b : Bool) → chain.closed ≡ b → MatchBool b (IsClosedChain grid chain) (IsOpenChain grid chain)
          → ((chain.closed ≡ true) × IsClosedChain grid chain) ⊎ ((chain.closed ≡ false) × IsOpenChain grid chain)
      by true e k = inl (e, k)
      by false e k = inr (e, k)

  -- a join comes to each crossing of a closed chain
  comes : (chain : Chain) (c : Crossing) → IsClosedChain grid chain → IsIn c (crossings_of chain) → (e : Edge) × IsJoin grid e c.edge
  comes chain c h (inl e) = (h.last.edge, subst (λ (x : Crossing). IsJoin grid h.last.edge x.edge) e h.closes)
  comes chain c h (inr k) = let r = way_before chain.first chain.others h.last c h.way k in (r.0.edge, r.2)

  -- an open chain doesn't have the crossings of a closed one
  not_open : (a b : Chain) → IsClosedChain grid a → IsOpenChain grid b → ¬ IsOn b.first.edge a
  not_open a b h g on =
      let r = comes a on.crossing h on.member in
      g.starts r.0 (subst (λ (e : Edge). IsJoin grid r.0 e) on.edge r.1)

  -- in a chain that has the first crossing of an open one, it is the first
  same_start : (a b : Chain) (last : Crossing) → IsOpenChain grid a → IsWay grid b.first b.others last → (on : IsOn a.first.edge b) → a.first.edge ≡ b.first.edge
  same_start a b last h way on = by on.crossing on.edge on.member
    where
      by : (c : Crossing) → c.edge ≡ a.first.edge → IsIn c (crossings_of b) → a.first.edge ≡ b.first.edge
      by c e (inl d) = sym e ∙ ap (λ (x : Crossing). x.edge) (sym d)
      by c e (inr k) = let r = way_before b.first b.others last c way k in absurd (h.starts r.0.edge (subst (λ (f : Edge). IsJoin grid r.0.edge f) e r.2))

  module _ (apart : JoinsAreApart) where
    -- a join from a crossing of a chain leads to one of its crossings
    goes_on : (chain : Chain) → IsChain grid chain → (c : Crossing) (e : Edge) → IsIn c (crossings_of chain) → IsJoin grid c.edge e → IsOn e chain
    goes_on chain h c e k j = elim (forms chain h) [
      | inl g ↦ by g.1.last g.1.way (λ i. record { crossing = chain.first; member = inl refl; edge = apart.from grid g.1.last.edge chain.first.edge e g.1.closes i })
      | inr g ↦ by g.1.last g.1.way (λ i. absurd (g.1.ends e i))
    ]
      where
        by : (last : Crossing) → IsWay grid chain.first chain.others last → (IsJoin grid last.edge e → IsOn e chain) → IsOn e chain
        by last way end = elim (way_next chain.first chain.others last c way k) [
          | inl d ↦ end (subst (λ (x : Crossing). IsJoin grid x.edge e) d j)
          | inr r ↦ record { crossing = r.0; member = inr r.1; edge = apart.from grid c.edge r.0.edge e r.2 j }
        ]

    along : (b : Chain) → IsChain grid b → (first : Crossing) (cs : List Crossing) (last : Crossing) → IsWay grid first cs last → IsOn first.edge b
        → (c : Crossing) → IsIn c (first ∷ cs) → IsOn c.edge b
    along b h first cs last way on c (inl e) = subst (λ (x : Crossing). IsOn x.edge b) e on
    along b h first [] last way on c (inr k) = absurd k
    along b h first (d ∷ ds) last way on c (inr k) =
        along b h d ds last way.1 (goes_on b h on.crossing d.edge on.member (subst (λ (e : Edge). IsJoin grid e d.edge) (sym on.edge) way.0)) c k

    -- a chain that has the first crossing of another has them all
    pub has_all : (a b : Chain) → IsChain grid a → IsChain grid b → IsOn a.first.edge b → (e : Edge) → IsOn e a → IsOn e b
    has_all a b h g on e there = elim (forms a h) [ inl k ↦ by k.1.last k.1.way | inr k ↦ by k.1.last k.1.way ]
      where
        by : (last : Crossing) → IsWay grid a.first a.others last → IsOn e b
        by last way = subst (λ (f : Edge). IsOn f b) there.edge (along b g a.first a.others last way on there.crossing there.member)

    -- P says of a crossing where it is
    module _ (P : Crossing → Type 0) (one_place : (c d : Crossing) → P c → P d → c.edge ≡ d.edge → c ≡ d) where
      -- a chain whose crossings are at their places, and whose edges stand there once
      pub record IsPlaced (chain : Chain) : Type 0 where
        pub is : IsChain grid chain
        pub placed : (c : Crossing) → IsIn c (crossings_of chain) → P c
        pub once : (e : Edge) → times_in e chain ≤ 1

      -- two ways from one crossing, of which neither leads on into the other, are equal
      same_ways : (c : Crossing) (xs ys : List Crossing) (m n : Crossing) → IsWay grid c xs m → IsWay grid c ys n
          → ((x : Crossing) → IsIn x xs → P x) → ((y : Crossing) → IsIn y ys → P y)
          → ((y : Crossing) → IsIn y ys → ¬ IsJoin grid m.edge y.edge) → ((x : Crossing) → IsIn x xs → ¬ IsJoin grid n.edge x.edge) → xs ≡ ys
      same_ways c [] [] m n v w p q end stop = refl
      same_ways c [] (y ∷ ys) m n v w p q end stop = absurd (end y (inl refl) (subst (λ (x : Crossing). IsJoin grid x.edge y.edge) v w.0))
      same_ways c (x ∷ xs) [] m n v w p q end stop = absurd (stop x (inl refl) (subst (λ (y : Crossing). IsJoin grid y.edge x.edge) w v.0))
      same_ways c (x ∷ xs) (y ∷ ys) m n v w p q end stop =
          let e : x ≡ y = one_place x y (p x (inl refl)) (q y (inl refl)) (apart.from grid c.edge x.edge y.edge v.0 w.0) in
          ap (λ (d : Crossing). d ∷ xs) e ∙ ap (λ (ds : List Crossing). y ∷ ds) (same_ways y xs ys m n (subst (λ (d : Crossing). IsWay grid d xs m) e v.1) w.1
          (λ d k. p d (inr k)) (λ d k. q d (inr k)) (λ d k. end d (inr k)) (λ d k. stop d (inr k)))

      same_from_start : (a b : Chain) (m n : Crossing) → IsPlaced a → IsPlaced b → a.closed ≡ b.closed → a.first.edge ≡ b.first.edge
          → IsWay grid a.first a.others m → IsWay grid b.first b.others n
          → ((y : Crossing) → IsIn y b.others → ¬ IsJoin grid m.edge y.edge) → ((x : Crossing) → IsIn x a.others → ¬ IsJoin grid n.edge x.edge) → a ≡ b
      same_from_start a b m n h g closed start v w end stop =
          let e : a.first ≡ b.first = one_place a.first b.first (h.placed a.first (inl refl)) (g.placed b.first (inl refl)) start in
          chain_made a.closed b.closed a.first b.first a.others b.others closed e (same_ways b.first a.others b.others m n
          (subst (λ (c : Crossing). IsWay grid c a.others m) e v) w (λ c k. h.placed c (inr k)) (λ c k. g.placed c (inr k)) end stop)

      -- where a chain is closed, it leads on to no crossing but the first, which doesn't come again in a chain that starts there
      closed_end : (a b : Chain) → IsPlaced b → (x : IsClosedChain grid a) → a.first.edge ≡ b.first.edge → (c : Crossing) → IsIn c b.others → ¬ IsJoin grid x.last.edge c.edge
      closed_end a b g x e c k j = first_once b c (g.once b.first.edge) k (sym (apart.from grid x.last.edge a.first.edge c.edge x.closes j) ∙ e)

      not_earlier : (a b : Chain) → IsPlaced a → IsPlaced b → IsClosedChain grid a → IsOn b.first.edge a → (a.first.edge ≡ b.first.edge) ⊎ (comes_before b.first a.first ≡ false)
      not_earlier a b h g x on = by on.member
        where
          it : on.crossing ≡ b.first
          it = one_place on.crossing b.first (h.placed on.crossing on.member) (g.placed b.first (inl refl)) on.edge

          by : IsIn on.crossing (crossings_of a) → (a.first.edge ≡ b.first.edge) ⊎ (comes_before b.first a.first ≡ false)
          by (inl d) = inl (ap (λ (c : Crossing). c.edge) (d ∙ it))
          by (inr k) = inr (subst (λ (c : Crossing). comes_before c a.first ≡ false) it (x.least on.crossing (contains_in on.crossing a.others k)))

      both_closed : (a b : Chain) → IsPlaced a → IsPlaced b → a.closed ≡ b.closed → IsClosedChain grid a → IsClosedChain grid b → IsOn a.first.edge b → IsOn b.first.edge a → a ≡ b
      both_closed a b h g closed x y on back =
          let e : a.first.edge ≡ b.first.edge = elim (not_earlier a b h g x back) [
            | inl d ↦ d
            | inr d ↦ elim (not_earlier b a g h y on) [ inl f ↦ sym f | inr f ↦ edges_of_tied a.first b.first f d ]
          ] in
          same_from_start a b x.last y.last h g closed e x.way y.way (closed_end a b g x e) (closed_end b a h y (sym e))

      both_open : (a b : Chain) → IsPlaced a → IsPlaced b → a.closed ≡ b.closed → IsOpenChain grid a → IsOpenChain grid b → IsOn a.first.edge b → a ≡ b
      both_open a b h g closed x y on =
          same_from_start a b x.last y.last h g closed (same_start a b y.last x y.way on) x.way y.way (λ c k j. x.ends c.edge j) (λ c k j. y.ends c.edge j)

      -- two chains of which each has the other's first crossing are equal
      pub same_chain : (a b : Chain) → IsPlaced a → IsPlaced b → IsOn a.first.edge b → IsOn b.first.edge a → a ≡ b
      same_chain a b h g on back = elim (forms a h.is) [
        | inl x ↦ elim (forms b g.is) [ inl y ↦ both_closed a b h g (x.0 ∙ sym y.0) x.1 y.1 on back | inr y ↦ absurd (not_open a b x.1 y.1 back) ]
        | inr x ↦ elim (forms b g.is) [ inl y ↦ absurd (not_open b a y.1 x.1 on) | inr y ↦ both_open a b h g (x.0 ∙ sym y.0) x.1 y.1 on ]
      ]
