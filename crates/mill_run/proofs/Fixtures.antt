-- Where no fixture stands.
use Rattle.std.proofs.Common.{◌≡◌, Bool, true, List, [], length, sym, ◌∙◌}
use Rattle.std.specs.Prelude.{◌==◌}
use Rattle.std.proofs.lemmas.Bool.{eqb-true}
use Rattle.std.proofs.lemmas.List.{nil_from_length}
use Rattle.mill_job.specs.declared.fixtures.Fixture.{Fixture}

-- fixtures that are as many as none
pub no_fixture : (fixtures slice : List Fixture) (empty : Bool) → slice ≡ fixtures → empty ≡ (length slice == 0) → empty ≡ true → fixtures ≡ []
no_fixture fixtures slice empty same test holds = sym same ∙ nil_from_length slice (eqb-true (length slice) 0 (sym test ∙ holds))
