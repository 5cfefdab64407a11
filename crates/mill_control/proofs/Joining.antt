-- Moves that are added one after the other, and what stands when the memory doesn't suffice.
use Rattle.std.specs.Prelude.{◌≡◌, ℕ, List, [], ◌∷◌, ◌++◌, length, take, Result, Ok, Err, OnOk, OnErr}
use Rattle.std.proofs.Common.{sym, ap, ◌∙◌, subst}
use Rattle.std.proofs.lemmas.List.{append_assoc, append-nil}
use Rattle.std.proofs.Math.Seq.{take-append_seam}
use Rattle.mill_base.specs.declared.motion.Move.{Move}
use Rattle.mill_control.specs.inner.Bounds.{Extends}

-- two lists, three and four, one after the other
pub two_added : (old a b x new : List Move) → x ≡ old ++ a → new ≡ x ++ b → new ≡ old ++ (a ++ b)
two_added old a b x new first second = second ∙ ap (λ l. l ++ b) first ∙ append_assoc old a b

pub three_added : (old a b c x y new : List Move) → x ≡ old ++ a → y ≡ x ++ b → new ≡ y ++ c → new ≡ old ++ (a ++ (b ++ c))
three_added old a b c x y new first second third = two_added old a (b ++ c) x new first (two_added x b c y new second third)

pub four_added : (old a b c d x y z new : List Move) → x ≡ old ++ a → y ≡ x ++ b → z ≡ y ++ c → new ≡ z ++ d → new ≡ old ++ (a ++ (b ++ (c ++ d)))
four_added old a b c d x y z new first second third last = two_added old a (b ++ (c ++ d)) x new first (three_added x b c d y z new second third last)

-- a list that is as it was, or was added to, or has gone on and then was added to, goes on
pub on_same : (old new : List Move) → new ≡ old → Extends old new
on_same old new same = record { added = []; joined = same ∙ sym (append-nil old) }

pub on_more : (old new added : List Move) → new ≡ old ++ added → Extends old new
on_more old new added joined = record { added = added; joined = joined }

pub on_on : (old mid new : List Move) → Extends old mid → Extends mid new → Extends old new
on_on old mid new first rest = record { added = first.added ++ rest.added; joined = two_added old first.added rest.added mid new first.joined rest.joined }

pub on_either : {T E : Type 0} (r : Result T E) (old new added : List Move) → OnOk r (new ≡ old ++ added) → OnErr r (new ≡ old) → Extends old new
on_either (Ok v) old new added ok err = on_more old new added ok
on_either (Err e) old new added ok err = on_same old new err

-- what was there first
on_kept : (old new : List Move) → Extends old new → take (length old) new ≡ old
on_kept old new on = ap (λ l. take (length old) l) on.joined ∙ take-append_seam old on.added

-- what follows from what stands with a value
pub ok_gives : {T E : Type 0} {P Q : Type 0} (r : Result T E) → (P → Q) → OnOk r P → OnOk r Q
ok_gives (Ok v) f h = f h
ok_gives (Err e) f h = tt

-- what stands once what was added is taken back, where not all was
pub all_stands : {T E : Type 0} (added result : Result T E) (old mid new moves : List Move) → result ≡ added → OnOk added (mid ≡ old ++ moves) → OnOk result (new ≡ mid)
    → OnOk result (new ≡ old ++ moves)
all_stands added (Ok v) old mid new moves same all kept = kept ∙ subst (λ r. OnOk r (mid ≡ old ++ moves)) (sym same) all
all_stands added (Err e) old mid new moves same all kept = tt

pub none_stands : {T E : Type 0} (result : Result T E) (old mid new : List Move) (first : ℕ) → first ≡ length old → Extends old mid → OnErr result (new ≡ take first mid)
    → OnErr result (new ≡ old)
none_stands (Ok v) old mid new first counted on cut = tt
none_stands (Err e) old mid new first counted on cut = cut ∙ ap (λ n. take n mid) counted ∙ on_kept old mid on
