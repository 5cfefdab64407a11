-- Lists of which one member is set: what holds of each member, and whose numbers are apart.
use Rattle.std.proofs.Common.{◌≡◌, ◌≢◌, ℕ, ◌<◌, List, [], ◌∷◌, length, get_or, set, refl, sym, ap, subst, suc, zero, ◌∙◌, arith, Some, get_or-set_same, get_or-set_other}
use Rattle.std.proofs.lemmas.List.{get_or_read_under}
use Rattle.mill_sched.specs.declared.worker.Worker.{Worker}
use Rattle.mill_sched.specs.declared.worker.Worker.TheVariants.{Done}
use Rattle.mill_sched.specs.Laws.{number_of}
use mathlib.Core.Logic.{dite}
use native.Mathlib.Decide.{ℕ_discrete}

-- after one member is set, what holds of each other and of the new one holds of each
pub each_set : {A : Type 0} → (P : ℕ → A → Type 0) (xs : List A) (i : ℕ) (a d : A) → i < length xs → ((j : ℕ) → j ≢ i → P j (get_or xs j d)) → P i a → (j : ℕ) → P j (get_or (set xs i a) j d)
each_set P xs i a d within others here j =
    dite (ℕ_discrete j i)
    (λ e. subst (λ k. P k (get_or (set xs i a) k d)) (sym e) (subst (λ y. P i y) (sym (get_or-set_same xs i a d within)) here))
    (λ other. subst (λ y. P j y) (sym (get_or-set_other xs i j a d other)) (others j other))

-- a worker that was read, in the list that it was read from
pub read_worker : {ws vs : List Worker} {r k : Worker} (w : ℕ) → r ≡ get_or ws w Done → r ≡ k → ws ≡ vs → get_or vs w Done ≡ k
read_worker {ws} {vs} {r} {k} w read is same = ap (λ (l : List Worker). get_or l w Done) (sym same) ∙ sym read ∙ is

-- what holds of a member at any default holds of it as it was read
pub at_read : {A : Type 0} → (P : A → Type 0) (xs : List A) (i : ℕ) (x d : A) → i < length xs → x ≡ get_or xs i x → P (get_or xs i d) → P x
at_read P xs i x d within read holds = subst P (sym (get_or_read_under xs i (length xs) x d read within refl)) holds

-- a worker that isn't as one that has ended is there
pub is_there : (ws : List Worker) (w : ℕ) (k : Worker) → get_or ws w Done ≡ k → k ≢ Done → w < length ws
is_there [] w k e other = absurd (other (sym e))
is_there (x ∷ xs) zero k e other = omega arith
is_there (x ∷ xs) (suc w) k e other = let t = is_there xs w k e other in omega arith

-- no two workers have one number
abbrev pub Apart : List Worker → Type 0
Apart ws = (v w n : ℕ) → number_of (get_or ws v Done) ≡ Some n → number_of (get_or ws w Done) ≡ Some n → v ≡ w

-- they stay apart where a worker comes to what has no number, or one that no other has
pub apart_set : (ws : List Worker) (w : ℕ) (k : Worker) → w < length ws → Apart ws
    → ((n v : ℕ) → number_of k ≡ Some n → number_of (get_or ws v Done) ≡ Some n → v ≡ w)
    → Apart (set ws w k)
apart_set ws w k within apart new =
    each_set (λ u (x : Worker). (v n : ℕ) → number_of x ≡ Some n → number_of (get_or (set ws w k) v Done) ≡ Some n → u ≡ v) ws w k Done within
    (λ u _ v n eu. each_set (λ v (x : Worker). number_of x ≡ Some n → u ≡ v) ws w k Done within (λ v _. apart u v n eu) (λ ek. new n u ek eu) v)
    (λ v n ek. each_set (λ v (x : Worker). number_of x ≡ Some n → w ≡ v) ws w k Done within (λ v _ ev. sym (new n v ek ev)) (λ e. refl) v)
