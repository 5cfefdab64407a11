-- Whether a link goes straight, and so which link it is.
use Rattle.std.specs.Prelude.{◌≡◌, ◌≢◌, Bool, true, false, if◌then◌else◌, pos, List, [], ◌∷◌, IsTrue}
use Rattle.std.proofs.Common.{inl, inr, refl, sym, ap, ◌∙◌}
use Rattle.mill_base.specs.declared.motion.Move.{Move}
use Rattle.mill_base.specs.declared.points.Pt3.{Pt3}
use Rattle.mill_base.specs.declared.points.Tri.{Tri}
use Rattle.mill_dexel.specs.Tops.{ClearsColumns}
use Rattle.mill_job.specs.declared.fields.JobFields.{JobFields}
use Rattle.mill_links.specs.Links.{is_same_point, GoesClear, IsClear, IsLink, SaysClear, detour, feed_to}
use Rattle.mill_links.specs.declared.visit.Visit.{Visit}
use Rattle.mill_links.specs.inner.Linking.{GoesStraight, SaysStraight, link_moves}
use Rattle.mill_links.proofs.Kept.{untested}
use Rattle.mill_links.proofs.Points.{other_point, same_point}

clash : true ≡ false → ⊥
clash e = cc

module _ (job : JobFields) (part : List Tri) (from : Pt3) (visit : Visit) where
  -- where the cutter isn't at the visit, it is the straight feed that is clear
  clear_feed : visit.at ≢ from → GoesClear job part from visit → IsClear job part from visit
  clear_feed away clear = elim clear [ inl there ↦ absurd (away there) | inr feed ↦ feed ]

  -- what is said of a visit where the cutter is, and of another
  pub says_there : visit.at ≡ from → SaysClear job part from visit true
  says_there there = (λ holds. inl there, λ clear. refl)

  pub says_fed : (answer : Bool) → visit.at ≢ from → (IsTrue answer → IsClear job part from visit) → (answer ≡ false → ¬ IsClear job part from visit)
      → SaysClear job part from visit answer
  says_fed true away clear barred = (λ holds. inr (clear holds), λ goes. refl)
  says_fed false away clear barred = (λ holds. absurd (clash (sym holds)), λ goes. absurd (barred refl (clear_feed away goes)))

  module _ (done : List Move) where
    -- a link that goes straight is clear
    straight_clear : GoesStraight job part done from visit → GoesClear job part from visit
    straight_clear straight = elim straight [ inl there ↦ inl there | inr may ↦ inr (record { near = may.near; passes = may.passes }) ]

    -- and one that is clear goes straight, where the feed cuts no column too deep
    clear_straight : ClearsColumns job done (feed_to from visit.at) → GoesClear job part from visit → GoesStraight job part done from visit
    clear_straight depth clear = elim clear [ inl there ↦ inl there | inr feed ↦ inr (record { near = feed.near; passes = feed.passes; depth = depth }) ]

    -- what is said of a link that isn't clear, of one without a limit on the depth, of one to where the cutter is, and of another
    pub barred : (clear : Bool) → SaysClear job part from visit clear → clear ≡ false → SaysStraight job part done from visit false
    barred clear says not_clear = (λ holds. absurd (clash (sym holds)), λ straight. absurd (clash (sym (says.1 (straight_clear straight)) ∙ not_clear)))

    pub unlimited : (clear : Bool) → SaysClear job part from visit clear → clear ≡ true → job.max_cut ≡ pos 0 → SaysStraight job part done from visit true
    unlimited clear says is_clear none = (λ holds. clear_straight (λ tested. absurd (untested job none tested)) (says.0 is_clear), λ straight. refl)

    pub at_place : visit.at ≡ from → SaysStraight job part done from visit true
    at_place there = (λ holds. inl there, λ straight. refl)

    pub by_depth : (clear answer : Bool) → SaysClear job part from visit clear → clear ≡ true → visit.at ≢ from
        → (IsTrue answer → ClearsColumns job done (feed_to from visit.at)) → (answer ≡ false → ¬ ClearsColumns job done (feed_to from visit.at))
        → SaysStraight job part done from visit answer
    by_depth clear true says is_clear away keeps fails = (λ holds. clear_straight (keeps holds) (says.0 is_clear), λ straight. refl)
    by_depth clear false says is_clear away keeps fails =
        (λ holds. absurd (clash (sym holds)), λ straight. absurd (elim straight [ inl there ↦ away there | inr may ↦ fails refl may.depth ]))

    -- so these are the link's moves
    pub link_so : (straight : Bool) → SaysStraight job part done from visit straight → IsLink job part done from visit (link_moves job from visit straight)
    link_so straight says = by (is_same_point visit.at from) refl
      where
        moves : Bool → List Move
        moves t = if t then [] else if straight then feed_to from visit.at ∷ [] else detour job from visit.at

        away_by : (s : Bool) → straight ≡ s → visit.at ≢ from
            → IsLink job part done from visit (if s then feed_to from visit.at ∷ [] else detour job from visit.at)
        away_by true e away =
            inr (inl (record { away = away; free = elim (says.0 e) [ inl there ↦ absurd (away there) | inr may ↦ may ]; feed = refl }))
        away_by false e away = inr (inr (record { away = away; barred = λ may. clash (sym (says.1 (inr may)) ∙ e); round = refl }))

        by : (t : Bool) → is_same_point visit.at from ≡ t → IsLink job part done from visit (moves t)
        by true e = inl (record { there = same_point visit.at from true (sym e) refl; none = refl })
        by false e = away_by straight refl (other_point visit.at from false (sym e) refl)

-- the three kinds of moves
module _ (job : JobFields) (from : Pt3) (visit : Visit) (straight : Bool) where
  pub no_moves : is_same_point visit.at from ≡ true → link_moves job from visit straight ≡ []
  no_moves e = ap (λ (t : Bool). if t then [] else if straight then feed_to from visit.at ∷ [] else detour job from visit.at) e

  pub one_feed : is_same_point visit.at from ≡ false → straight ≡ true → link_moves job from visit straight ≡ feed_to from visit.at ∷ []
  one_feed e goes =
      ap (λ (t : Bool). if t then [] else if straight then feed_to from visit.at ∷ [] else detour job from visit.at) e
      ∙ ap (λ (t : Bool). if t then feed_to from visit.at ∷ [] else detour job from visit.at) goes

  pub round_moves : is_same_point visit.at from ≡ false → straight ≡ false → link_moves job from visit straight ≡ detour job from visit.at
  round_moves e goes =
      ap (λ (t : Bool). if t then [] else if straight then feed_to from visit.at ∷ [] else detour job from visit.at) e
      ∙ ap (λ (t : Bool). if t then feed_to from visit.at ∷ [] else detour job from visit.at) goes
