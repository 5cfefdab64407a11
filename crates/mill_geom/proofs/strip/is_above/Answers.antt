use Rattle.std.proofs.Common.{ℕ, List, [], ◌∷◌, ◌∙◌, sym, inl, inr, refl, w64}
use lib.IntN.{pos, ◌-ℤ◌, ◌*ℤ◌}
use Rattle.std.proofs.lemmas.Bool.{false≢true}
use Rattle.mill_base.proofs.Exit.{split_lt}
use Rattle.mill_base.proofs.Machine.{Read, Lit, Diff, Prod, less}
use Rattle.mill_geom.specs.Widths.{most_area, most_fall, widest}
use Rattle.mill_geom.proofs.strip.is_above.Goals as goal

-- how far each number is from 0
bounds : List ℕ
bounds = most_area ∷ widest ∷ most_fall ∷ []

pub returns-clause-yes : goal.returns-clause-yes
unfolding bounds
returns-clause-yes c = λ h.
    let test = less (c.args.spot.y ∷ c.args.radius ∷ c.args.spot.n ∷ []) bounds (Diff w64 (Lit (pos 0)) (Prod w64 (Read w64 1) (Read w64 2))) (Read w64 0) (c.requires.spot_ok.y_ok.within, (c.requires.r_ok.within, (c.requires.spot_ok.n_ok.within, tt))) refl in
    test.0 h

pub returns-clause-no : goal.returns-clause-no
unfolding bounds
returns-clause-no c = λ h.
    let test = less (c.args.spot.y ∷ c.args.radius ∷ c.args.spot.n ∷ []) bounds (Diff w64 (Lit (pos 0)) (Prod w64 (Read w64 1) (Read w64 2))) (Read w64 0) (c.requires.spot_ok.y_ok.within, (c.requires.r_ok.within, (c.requires.spot_ok.n_ok.within, tt))) refl in
    elim (split_lt (pos 0 -ℤ c.args.radius *ℤ c.args.spot.n) c.args.spot.y) [ inl l ↦ absurd (false≢true (sym h ∙ test.1 l)) | inr l ↦ l ]
