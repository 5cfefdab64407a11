-- The findings on all moves, one move after another.
use Rattle.std.specs.Prelude.{◌≡◌, ℕ, ◌+◌, ◌<◌, List, [], ◌∷◌, ◌++◌, All, length, Option, None, Some, MatchOption}
use Rattle.std.proofs.Common.{sym, subst}
use Rattle.std.proofs.lemmas.List.Elements.{All-nil, All-push}
use Rattle.mill_base.specs.declared.points.Tri.{Tri}
use Rattle.mill_base.specs.declared.motion.Move.{Move}
use Rattle.mill_job.specs.declared.fields.JobFields.{JobFields}
use Rattle.mill_dexel.specs.Tops.{Stock, uncut}
use Rattle.mill_dexel.specs.Turns.{move_at}
use Rattle.mill_verify.specs.Tests.{IsGood, IsGoodOn, stock_met}
use Rattle.mill_verify.specs.Verdicts.{NamesLeaf}
use Rattle.mill_verify.specs.declared.verdict.Reason.{Reason}
use Rattle.mill_report.specs.Findings.{AreFindings, AreFindingsTo, FailsAlone, IsFinding, move_of, numbered}
use Rattle.mill_report.specs.inner.Steps.{FailsMove}
use Rattle.mill_report.specs.inner.Stops.{IsTold}
use Rattle.mill_report.specs.declared.pass.Stop.{Stop}
use Rattle.mill_report.proofs.Alone.{good_met, names_met}
use Rattle.mill_report.proofs.Listed.{listing_bare, listing_more, listing_start}

-- the findings on the moves before move n, each of which names a leaf that is blocked
pub record AreFoundTo (job : JobFields) (part : List Tri) (moves : List Move) (n : ℕ) (found : List Reason) : Type 0 where
  pub are : AreFindingsTo job part moves n found
  pub named : All (NamesLeaf job part (uncut job) moves) found

module _ (job : JobFields) (part : List Tri) (moves : List Move) where
  -- before the first move nothing is found
  start : AreFoundTo job part moves 0 []
  start = record { are = listing_start Reason move_of (IsFinding job part moves) (IsGood job part moves); named = All-nil (NamesLeaf job part (uncut job) moves) }

  pub found_none : (found : List Reason) → found ≡ [] → AreFoundTo job part moves 0 found
  found_none found none = subst (AreFoundTo job part moves 0) (sym none) start

  -- what is found of move n
  abbrev IsToldOf : ℕ → Move → Option Reason → Type 0
  IsToldOf n m told = MatchOption told (IsGoodOn job part (stock_met job (uncut job) moves n) (m ∷ []) 0) (FailsMove job part (stock_met job (uncut job) moves n) m n)

  abbrev IsNoted : Option Reason → List Reason → List Reason → Type 0
  IsNoted told old new = MatchOption told (new ≡ old) (λ reason. new ≡ old ++ reason ∷ [])

  module _ (n : ℕ) (there : n < length moves) (old : List Reason) (found : AreFoundTo job part moves n old) where
    -- nothing
    none_more : IsGoodOn job part (stock_met job (uncut job) moves n) (move_at moves n ∷ []) 0 → AreFoundTo job part moves (n + 1) old
    none_more good = record { are = listing_bare Reason move_of (IsFinding job part moves) (IsGood job part moves) n old found.are (good_met job part moves n good); named = found.named }

    -- or a reason
    module _ (reason : Reason) (fails : FailsMove job part (stock_met job (uncut job) moves n) (move_at moves n) n reason) where
      is_finding : IsFinding job part moves reason
      is_finding = record {
        there = subst (λ (k : ℕ). k < length moves) (sym fails.at) there;
        fails = subst (λ (k : ℕ). FailsAlone job part (stock_met job (uncut job) moves k) (move_at moves k) reason) (sym fails.at) fails.fails;
      }

      is_named : NamesLeaf job part (uncut job) moves reason
      is_named =
          names_met job part moves reason
          (subst (λ (k : ℕ). NamesLeaf job part (stock_met job (uncut job) moves k) (move_at moves k ∷ []) (numbered 0 reason)) (sym fails.at) fails.names)

      one_more : AreFoundTo job part moves (n + 1) (old ++ reason ∷ [])
      one_more = record {
        are = listing_more Reason move_of (IsFinding job part moves) (IsGood job part moves) n old reason found.are is_finding fails.at;
        named = All-push (NamesLeaf job part (uncut job) moves) old reason found.named is_named;
      }

    noted : (told : Option Reason) (new : List Reason) → IsToldOf n (move_at moves n) told → IsNoted told old new → AreFoundTo job part moves (n + 1) new
    noted None new good is = subst (AreFoundTo job part moves (n + 1)) (sym is) (none_more good)
    noted (Some reason) new fails is = subst (AreFoundTo job part moves (n + 1)) (sym is) (one_more reason fails)

    pub found_more : (told : Option Reason) (new : List Reason) (m : Move) → m ≡ move_at moves n → IsToldOf n m told → IsNoted told old new → AreFoundTo job part moves (n + 1) new
    found_more told new m read is at = noted told new (subst (λ (x : Move). IsToldOf n x told) read is) at

-- what is told of the move that is read, by the stop that is read
pub read_told : (job : JobFields) (stock : Stock) (m n : Move) (o p : Option Stop) → m ≡ n → o ≡ p → IsTold job stock n p → IsTold job stock m o
read_told job stock m n o p move stop told = subst (λ (x : Move). IsTold job stock x o) (sym move) (subst (IsTold job stock n) (sym stop) told)

-- after the last move they are all
pub found_all : (job : JobFields) (part : List Tri) (moves : List Move) (n : ℕ) (found : List Reason) → n ≡ length moves → AreFoundTo job part moves n found → AreFindings job part moves found
found_all job part moves n found all h = subst (λ (k : ℕ). AreFindingsTo job part moves k found) all h.are
