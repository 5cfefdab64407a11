-- The moves of a plan are what the job's machine makes of their text.
use Rattle.std.specs.Prelude.{◌≡◌, ◌≢◌, Bool, true, false, not, ℤ}
use Rattle.std.specs.Ordering.{int_eq}
use Rattle.std.proofs.Common.{refl, ap, ◌∙◌}
use Rattle.mill_base.specs.Motion.{are_two, changes_two, differ}
use Rattle.mill_base.specs.declared.motion.Kind.{Kind}
use Rattle.mill_base.specs.declared.motion.Kind.TheVariants.{Rapid, Feed, Dogleg}
use Rattle.mill_base.specs.declared.motion.Move.{Move}
use Rattle.mill_base.specs.declared.points.Pt3.{Pt3}
use Rattle.mill_job.specs.Habits.{kind_by, made_by}
use Rattle.mill_job.specs.declared.habits.Rapids.{Rapids}
use Rattle.mill_job.specs.declared.habits.Rapids.TheVariants.{Straight, Axes}
use Rattle.mill_links.specs.Links.{at_height, feed_to, rapid_to}
use Rattle.mill_links.proofs.Points.{same_number}
use Rattle.mill_ngc.specs.Writing.{as_written, written_as}

pub rapid_is_no_feed : Rapid ≡ Feed → ⊥
rapid_is_no_feed e = cc

dogleg_is_no_feed : Dogleg ≡ Feed → ⊥
dogleg_is_no_feed e = cc

kind_again : (rapids : Rapids) (two : Bool) → kind_by rapids (written_as (kind_by rapids Rapid two)) two ≡ kind_by rapids Rapid two
kind_again Straight two = refl
kind_again Axes true = refl
kind_again Axes false = refl

kind_of_feed : (rapids : Rapids) (two : Bool) → kind_by rapids Feed two ≡ Feed
kind_of_feed Straight two = refl
kind_of_feed Axes two = refl

no_feed : (rapids : Rapids) (two : Bool) → kind_by rapids Rapid two ≢ Feed
no_feed Straight two = rapid_is_no_feed
no_feed Axes true = dogleg_is_no_feed
no_feed Axes false = rapid_is_no_feed

along_none : (rapids : Rapids) → kind_by rapids Rapid false ≡ Rapid
along_none Straight = refl
along_none Axes = refl

-- what the machine makes of a rapid is no feed, and it makes the same of it when it reads it
pub made_no_feed : (rapids : Rapids) (from to : Pt3) → (made_by rapids (rapid_to from to)).kind ≢ Feed
made_no_feed rapids from to = no_feed rapids (changes_two (rapid_to from to))

pub rapid_made : (rapids : Rapids) (from to : Pt3) → made_by rapids (as_written (made_by rapids (rapid_to from to))) ≡ made_by rapids (rapid_to from to)
rapid_made rapids from to = ap (λ (k : Kind). let m : Move = record { kind = k; from = from; to = to } in m) (kind_again rapids (changes_two (rapid_to from to)))

-- of a feed it makes the feed
pub feed_made : (rapids : Rapids) (from to : Pt3) → made_by rapids (as_written (feed_to from to)) ≡ feed_to from to
feed_made rapids from to = ap (λ (k : Kind). let m : Move = record { kind = k; from = from; to = to } in m) (kind_of_feed rapids (changes_two (feed_to from to)))

-- and of a rapid straight up or down the rapid
clash : false ≡ true → ⊥
clash e = cc

one_at_most : (x y z : Bool) → x ≡ true → y ≡ true → are_two (not x) (not y) z ≡ false
one_at_most true true z e g = refl
one_at_most true false z e g = absurd (clash g)
one_at_most false y z e g = absurd (clash e)

pub upright_made : (rapids : Rapids) (p : Pt3) (a b : ℤ) → made_by rapids (as_written (rapid_to (at_height p a) (at_height p b))) ≡ rapid_to (at_height p a) (at_height p b)
upright_made rapids p a b =
    ap (λ (k : Kind). let m : Move = record { kind = k; from = at_height p a; to = at_height p b } in m)
    (ap (kind_by rapids Rapid) (one_at_most (int_eq p.x p.x) (int_eq p.y p.y) (differ a b) (same_number p.x) (same_number p.y)) ∙ along_none rapids)
