-- Words that make a request are taken, and make one request.
use Rattle.std.proofs.Common.{◌≡◌, ℕ, Bool, true, false, List, Option, Some, None, subst, inl, inr}
use Rattle.std.specs.Prelude.{if◌then◌else◌}
use Rattle.mill_command.specs.Requests.{Request, is_taken, request, sample}
use Rattle.mill_run.specs.Outcomes.{Outcome, IsOutcome, AsksFor}
use Rattle.mill_run.specs.Words.{AsksNoFile}

chosen : (b : Bool) (o : Option Request) (r : Request) → b ≡ false → (if b then o else None) ≡ Some r → ⊥
chosen true o r e h = cc
chosen false o r e h = cc

-- words that aren't taken make no request
pub not_taken : (words : List (List ℕ)) (r : Request) → is_taken words ≡ false → request words ≡ Some r → ⊥
not_taken words r e h = chosen (is_taken words) _ r e h

-- words make at most one request
pub same_request : (o : Option Request) (a b : Request) → o ≡ Some a → o ≡ Some b → a ≡ b
same_request o a b e h = cc

-- the outcome of what the words ask for is that of any request that they make
pub asked_outcome : (words : List (List ℕ)) (contents : List ℕ → Option (List ℕ)) (o : Outcome) (asked : Request) → AsksFor words contents o → request words ≡ Some asked → IsOutcome contents asked o
asked_outcome words contents o asked a taken = subst (λ (r : Request). IsOutcome contents r o) (same_request (request words) a.asked asked a.taken taken) a.is

-- words that name no file and make a request make one for a sample
pub asks_sample : (words : List (List ℕ)) (asked : Request) → AsksNoFile words → request words ≡ Some asked → (n : ℕ) × (workers : ℕ) × (asked ≡ sample n workers)
asks_sample words asked (inl e) taken = absurd (not_taken words asked e taken)
asks_sample words asked (inr s) taken = (s.0, s.1.0, same_request (request words) asked (sample s.0 s.1.0) taken s.1.1)
