-- Whether a document has a key.
use Rattle.std.proofs.Common.{◌≡◌, Option, Some, None, is_some, option_map, refl}

-- what is looked up is there where what it shows is
pub is_there : {A B : Type 0} (f : A → B) (found : Option A) (seen : Option B) → option_map f found ≡ seen → is_some found ≡ is_some seen
is_there f None seen e = rw (← e) refl
is_there f (Some a) seen e = rw (← e) refl
