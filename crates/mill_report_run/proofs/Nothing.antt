-- An acceptance has neither a finding nor a column left too high.
use Rattle.std.proofs.Common.{◌≡◌, ◌<◌, ℕ, List, [], map, refl, sym, ap, subst, arith}
use Rattle.std.proofs.lemmas.List.{take_all}
use Rattle.std.proofs.lemmas.List.Elements.{All-nil, All-same}
use Rattle.std.specs.Prelude.{All, ℤ, false}
use Rattle.mill_base.specs.declared.motion.Move.{Move}
use Rattle.mill_base.specs.declared.points.Tri.{Tri}
use Rattle.mill_job.specs.declared.fields.JobFields.{JobFields}
use Rattle.mill_report.specs.Columns.{IsLeftAfter}
use Rattle.mill_report.specs.Findings.{AreFindings}
use Rattle.mill_report.specs.declared.left.LeftColumn.{LeftColumn}
use Rattle.mill_report.specs.declared.left.TheConstants.{MAX_LEFT}
use Rattle.mill_report_run.specs.Reports.{Texts}
use Rattle.mill_report_run.specs.declared.lists.Lists.{Lists}
use Rattle.mill_report_run.specs.inner.Lists.{AreLists}
use Rattle.mill_verify.specs.Verdicts.{IsVerdict}
use Rattle.mill_verify.specs.declared.verdict.Verdict.TheVariants.{Accept}
use Rattle.serde_json.specs.View.{view}
use Rattle.serde_json.specs.Written.{has_float}
use Rattle.serde_json.specs.declared.value.Value.{Value}

-- no place is in an empty list
none_there : (k : ℕ) → k < 0 → ⊥
none_there k there = omega (there, arith)

no_floats : (values : List Value) → values ≡ [] → All (λ v. has_float (view v) ≡ false) values
no_floats values none = All-same (λ v. has_float (view v) ≡ false) values [] none (All-nil (λ v. has_float (view v) ≡ false))

module _ (job : JobFields) (part : List Tri) (moves : List Move) (count columns : ℕ) (most : ℤ) (v : IsVerdict job part moves (Accept count columns most)) where
  no_findings : AreFindings job part moves []
  no_findings = record {
    each = λ k d there. absurd (none_there k there);
    under = λ k d there. absurd (none_there k there);
    others = λ k less bare. v.good k less;
    order = λ i j d less there. absurd (none_there j there);
  }

  none_left : IsLeftAfter job part moves [] 0
  none_left =
      let none : List LeftColumn = [] in
      record {
        left = none;
        are = record {
          each = λ k d there. absurd (none_there k there);
          under = λ k d there. absurd (none_there k there);
          others = λ k less bare j i column at. v.cut j i column;
          order = λ i j d less there. absurd (none_there j there);
        };
        first = sym (take_all MAX_LEFT none (omega arith));
        count = refl;
      }

  -- so these are its lists
  pub nothing_listed : (texts : Texts) (lists : Lists) → lists.failing.items ≡ [] → lists.left.items ≡ [] → lists.too_high ≡ 0 → AreLists texts job part moves (Accept count columns most) lists
  nothing_listed texts lists failing left too_high = record {
    found = [];
    found_are = no_findings;
    named = λ k d there. absurd (none_there k there);
    failing_are = ap (map view) failing;
    left = [];
    left_are = subst (λ (n : ℕ). IsLeftAfter job part moves [] n) (sym too_high) none_left;
    left_items = ap (map view) left;
    agree = (refl, refl, too_high);
    plain = record { failing = no_floats lists.failing.items failing; left = no_floats lists.left.items left };
  }
