-- The runs of fibers, one fiber after another.
use Rattle.std.proofs.Common.{◌≡◌, ℕ, suc, refl, ap, ◌∙◌, sym, subst, length, append_assoc}
use Rattle.std.proofs.lemmas.List.{append-nil, length-map}
use Rattle.std.specs.Prelude.{List, [], ◌∷◌, ◌++◌, map}
use Rattle.std.specs.List.{AllZip}
use Rattle.mill_base.specs.declared.points.Tri.{Tri}
use Rattle.mill_base.specs.declared.tool.Tool.{Tool}
use Rattle.mill_push.specs.declared.fiber.Run.{Run}
use Rattle.mill_ffi_data.specs.declared.raw.RawFiber.{RawFiber}
use Rattle.mill_ffi_data.specs.declared.raw.RawRun.{RawRun}
use Rattle.mill_ffi.specs.Fibers.{AreRunsAt, IsRunsOf, joined, run_of}

zip_push : {A B : Type 0} (R : A → B → Type 0) (xs : List A) (ys : List B) (x : A) (y : B) → AllZip R xs ys → R x y → AllZip R (xs ++ x ∷ []) (ys ++ y ∷ [])
zip_push R [] [] x y zipped here = (here, tt)
zip_push R [] (b ∷ ys) x y zipped here = absurd zipped
zip_push R (a ∷ xs) [] x y zipped here = absurd zipped
zip_push R (a ∷ xs) (b ∷ ys) x y zipped here = (zipped.0, zip_push R xs ys x y zipped.1 here)

joined-push : (lists : List (List Run)) (runs : List Run) → joined (lists ++ runs ∷ []) ≡ joined lists ++ runs
joined-push [] runs = append-nil runs
joined-push (first ∷ lists) runs = ap (λ (rest : List Run). first ++ rest) (joined-push lists runs) ∙ sym (append_assoc first (joined lists) runs)

map-push : {A B : Type 0} (f : A → B) (xs : List A) (x : A) → map f (xs ++ x ∷ []) ≡ map f xs ++ f x ∷ []
map-push f [] x = refl
map-push f (y ∷ xs) x = ap (λ rest. f y ∷ rest) (map-push f xs x)

-- one fiber more
pub runs_more : (tool : Tool) (part : List Tri) (fibers before : List RawFiber) (fiber : RawFiber) (counts more : List ℕ) (runs all : List RawRun) (found : List Run) → fibers ≡ before ++ fiber ∷ [] → more ≡ counts ++ length found ∷ [] → map run_of all ≡ map run_of runs ++ found → AreRunsAt tool part before counts runs → IsRunsOf tool part fiber found → AreRunsAt tool part fibers more all
runs_more tool part fibers before fiber counts more runs all found one_more counted added so_far here = record {
  lists = so_far.lists ++ found ∷ [];
  each = subst (λ (given : List RawFiber). AllZip (IsRunsOf tool part) given (so_far.lists ++ found ∷ [])) (sym one_more) (zip_push (IsRunsOf tool part) before so_far.lists fiber found so_far.each here);
  counted = counted ∙ (ap (λ (some : List ℕ). some ++ length found ∷ []) so_far.counted ∙ sym (map-push length so_far.lists found));
  all = added ∙ (ap (λ (some : List Run). some ++ found) so_far.all ∙ sym (joined-push so_far.lists found));
}

zip_length : {A B : Type 0} (R : A → B → Type 0) (xs : List A) (ys : List B) → AllZip R xs ys → length ys ≡ length xs
zip_length R [] [] zipped = refl
zip_length R [] (b ∷ ys) zipped = absurd zipped
zip_length R (a ∷ xs) [] zipped = absurd zipped
zip_length R (a ∷ xs) (b ∷ ys) zipped = ap suc (zip_length R xs ys zipped.1)

-- there is a count for each fiber
pub length-counts : (tool : Tool) (part : List Tri) (fibers : List RawFiber) (counts : List ℕ) (runs : List RawRun) → AreRunsAt tool part fibers counts runs → length counts ≡ length fibers
length-counts tool part fibers counts runs are = ap length are.counted ∙ (length-map are.lists length ∙ zip_length (IsRunsOf tool part) fibers are.lists are.each)
