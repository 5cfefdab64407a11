-- Files that hold what reads gave hold what each part of those reads gave.
use Rattle.std.proofs.Common.{◌≡◌, ℕ, List, [], ◌∷◌, ◌++◌, Option, refl, sym, ap, subst, ◌∙◌, append_assoc}
use Rattle.std.proofs.lemmas.List.{append_cancel_right}
use Rattle.std.specs.Prelude.{Some, None, IfSome}
use Rattle.mill_io.specs.Contents.{GivesFrom, Stay}
use Rattle.mill_io.specs.Readings.{Reading, IsHeld, AllHeld, AreHeld}

all_first : (contents : List ℕ → Option (List ℕ)) (later earlier : List Reading) → AllHeld contents (later ++ earlier) → AllHeld contents later
all_first contents [] earlier h = tt
all_first contents (r ∷ later) earlier h = (h.0, all_first contents later earlier h.1)

all_last : (contents : List ℕ → Option (List ℕ)) (later earlier : List Reading) → AllHeld contents (later ++ earlier) → AllHeld contents earlier
all_last contents [] earlier h = h
all_last contents (r ∷ later) earlier h = all_last contents later earlier h.1

all_of_both : (contents : List ℕ → Option (List ℕ)) (later earlier : List Reading) → AllHeld contents later → AllHeld contents earlier → AllHeld contents (later ++ earlier)
all_of_both contents [] earlier h g = g
all_of_both contents (r ∷ later) earlier h g = (h.0, all_of_both contents later earlier h.1 g)

-- nothing was read
pub held_none : (contents : List ℕ → Option (List ℕ)) (a : List Reading) → AreHeld contents a a
held_none contents a = record { made = []; grows = refl; held = tt }

-- reads after reads
pub held_on : (contents : List ℕ → Option (List ℕ)) (a b c : List Reading) → AreHeld contents a b → AreHeld contents b c → AreHeld contents a c
held_on contents a b c first next = record {
  made = next.made ++ first.made;
  grows = next.grows ∙ ap (λ l. next.made ++ l) first.grows ∙ sym (append_assoc next.made first.made a);
  held = all_of_both contents next.made first.made next.held first.held;
}

-- what was read in two parts, of which the log shows each
pub record InParts (contents : List ℕ → Option (List ℕ)) (a b c : List Reading) : Type 0 where
  pub first : AreHeld contents a b
  pub next : AreHeld contents b c

-- which reads were made is the same whatever the files hold
pub in_parts : (contents other another : List ℕ → Option (List ℕ)) (a b c : List Reading) → AreHeld other a b → AreHeld another b c → AreHeld contents a c → InParts contents a b c
in_parts contents other another a b c first next all = record {
  first = record { made = first.made; grows = first.grows; held = all_last contents next.made first.made both };
  next = record { made = next.made; grows = next.grows; held = all_first contents next.made first.made both };
}
  where
    whole : all.made ++ a ≡ (next.made ++ first.made) ++ a
    whole = sym all.grows ∙ next.grows ∙ ap (λ l. next.made ++ l) first.grows ∙ sym (append_assoc next.made first.made a)

    both : AllHeld contents (next.made ++ first.made)
    both = subst (λ (l : List Reading). AllHeld contents l) (append_cancel_right all.made (next.made ++ first.made) a whole) all.held

-- the log shows the reads so far and one more
pub with_read : (contents other : List ℕ → Option (List ℕ)) (r : Reading) (a b c : List Reading) → AreHeld other a b → c ≡ r ∷ b → AreHeld contents a c
    → AreHeld contents a b × IsHeld contents r
with_read contents other r a b c first e all = (record { made = first.made; grows = first.grows; held = both.1 }, both.0)
  where
    whole : all.made ++ a ≡ (r ∷ first.made) ++ a
    whole = sym all.grows ∙ e ∙ ap (λ l. r ∷ l) first.grows

    both : IsHeld contents r × AllHeld contents first.made
    both = subst (λ (l : List Reading). AllHeld contents l) (append_cancel_right all.made (r ∷ first.made) a whole) all.held

-- one more gave bytes
pub held_more : (contents now : List ℕ → Option (List ℕ)) (name : List ℕ) (from n : ℕ) (buf : List ℕ) (a b c : List Reading) → AreHeld contents a b → c ≡ (name, (from, Some (n, buf))) ∷ b
    → now name ≡ contents name → IfSome (now name) (λ bytes. GivesFrom bytes from n buf) → AreHeld contents a c
held_more contents now name from n buf a b c first e same gives = record {
  made = (name, (from, Some (n, buf))) ∷ first.made;
  grows = e ∙ ap (λ l. (name, (from, Some (n, buf))) ∷ l) first.grows;
  held = (subst (λ (told : Option (List ℕ)). IfSome told (λ bytes. GivesFrom bytes from n buf)) same gives, first.held);
}

-- one more failed
pub held_failed : (contents : List ℕ → Option (List ℕ)) (name : List ℕ) (from : ℕ) (a b c : List Reading) → AreHeld contents a b → c ≡ (name, (from, None)) ∷ b → AreHeld contents a c
held_failed contents name from a b c first e = record {
  made = (name, (from, None)) ∷ first.made;
  grows = e ∙ ap (λ l. (name, (from, None)) ∷ l) first.grows;
  held = (tt, first.held);
}

one_more : (contents : List ℕ → Option (List ℕ)) (r : Reading) (made : List Reading) → made ≡ r ∷ [] → AllHeld contents made → IsHeld contents r
one_more contents r made e h = (subst (λ (l : List Reading). AllHeld contents l) e h).0

pub one_held : (contents : List ℕ → Option (List ℕ)) (r : Reading) (a b : List Reading) → b ≡ r ∷ a → AreHeld contents a b → IsHeld contents r
one_held contents r a b e h = one_more contents r h.made (append_cancel_right h.made (r ∷ []) a (sym h.grows ∙ e)) h.held

-- what holds of contents holds of those that are the same
is_as : (c d : List ℕ → Option (List ℕ)) (name : List ℕ) (from n : ℕ) (buf : List ℕ) → d name ≡ c name → IfSome (c name) (λ bytes. GivesFrom bytes from n buf)
    → IfSome (d name) (λ bytes. GivesFrom bytes from n buf)
is_as c d name from n buf e h = rw e h

all_as : (c d : List ℕ → Option (List ℕ)) (made : List Reading) → Stay c d → AllHeld c made → AllHeld d made
all_as c d [] same h = tt
all_as c d ((name, (from, Some (n, buf))) ∷ made) same h = (is_as c d name from n buf (same name) h.0, all_as c d made same h.1)
all_as c d ((name, (from, None)) ∷ made) same h = (tt, all_as c d made same h.1)

pub held_as : (c d : List ℕ → Option (List ℕ)) (a b : List Reading) → Stay c d → AreHeld c a b → AreHeld d a b
held_as c d a b same h = record { made = h.made; grows = h.grows; held = all_as c d h.made same h.held }
