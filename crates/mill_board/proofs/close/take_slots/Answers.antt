use Rattle.std.proofs.Common.{◌≡◌, ℕ, ◌+◌, ◌++◌, Bool, false, List, [], ◌∷◌, zero, suc, take, set, get_or, ap, sym, ◌∙◌, arith, refl, subst, add-one, get_or-set_other}
use mathlib.Core.Logic.{dite}
use native.Mathlib.Decide.{ℕ_discrete}
use mathlib.Core.Option.{some, some-injective, some-ne-none}
use lib.ListN.{get_elem?}
use Rattle.std.specs.Slots.{slots_items, slots_filled}
use Rattle.mill_board.proofs.close.take_slots.Goals as goal

take_snoc : {A : Type 0} → (xs : List A) (i : ℕ) (x : A) → get_elem? xs i ≡ some x → take (suc i) xs ≡ take i xs ++ x ∷ []
take_snoc [] i x e = absurd (some-ne-none x (sym e))
take_snoc (y ∷ ys) zero x e = ap (λ z. z ∷ []) (some-injective y x e)
take_snoc (y ∷ ys) (suc i) x e = ap (λ l. y ∷ l) (take_snoc ys i x e)

unset : (fs : List Bool) (i : ℕ) → get_or (set fs i false) i false ≡ false
unset [] i = refl
unset (f ∷ fs) zero = refl
unset (f ∷ fs) (suc i) = unset fs i

pub loop-i-preserved : goal.loop-i-preserved
loop-i-preserved g c = let n = c.loop-i.invariant in let t = c.take.ensures in let p = c.push_reserved.ensures in
    let i : ℕ = c.loop-i.i in
    let fs : List Bool = slots_filled c.loop-i.closed.slots in
    let now : slots_filled c.take.new.self.slots ≡ set fs i false = t.others.1 in
    let len = t.others.2 in
    let more = n.room in let cap = p.capacity in let test = c.loop-i-test.true in let within = n.within in let same = n.len in
    record {
      filled = λ k le lt. ap (λ (l : List Bool). get_or l k false) now ∙ get_or-set_other fs i k false false (λ e. absurd (omega arith)) ∙ n.filled k (omega arith) (omega (arith, len));
      emptied = λ k lt. ap (λ (l : List Bool). get_or l k false) now ∙ dite (ℕ_discrete k i)
          (λ e. subst (λ j. get_or (set fs i false) j false ≡ false) (sym e) (unset fs i)) (λ ne. get_or-set_other fs i k false false ne ∙ n.emptied k (omega arith));
      taken = p.items ∙ ap (λ l. l ++ c.take.result ∷ []) (n.taken ∙ ap (take i) (sym n.items)) ∙ sym (take_snoc (slots_items c.loop-i.closed.slots) i c.take.result t.value) ∙ ap (take (suc i)) n.items ∙ ap (λ k. take k (slots_items c.args.closed.slots)) (sym (add-one i));
      items = t.others.0 ∙ n.items;
      len = t.others.2 ∙ n.len;
      out = p.len ∙ ap (λ k. k + 1) n.out;
      room = omega (arith, more, cap);
      within = omega arith;
    }
