-- What the answer for a text says of it.
use Rattle.std.proofs.Common.{◌≡◌, ℕ, true, List, Result, Ok, Err, sym, ap, ◌∙◌}
use Rattle.report_lines.specs.declared.report.Report.{Report}
use Rattle.whole_reports.specs.declared.verdicts.Verdict.{Verdict}
use Rattle.whole_reports.specs.declared.verdicts.Verdict.TheVariants as verdict
use Rattle.whole_reports.specs.declared.verdicts.ReadRefusal.{ReadRefusal}
use Rattle.whole_reports.specs.declared.verdicts.ReadRefusal.TheVariants as refusal
use Rattle.whole_reports.specs.Walk.{IsFirstBad}
use Rattle.report_lines.specs.Grammar.{text_of}
use Rattle.whole_reports.specs.Reports.{done, is_well_formed, report_of, verdict_of}
use Rattle.report_rules.specs.Following.{after, names_text, start}
use Rattle.whole_reports.proofs.ReportLaws.{report_found, report_only, report_bad, same_report}

good_is : (o : Result Report ℕ) (v : Verdict) (r : Report) → v ≡ verdict_of o → v ≡ verdict.Good r → o ≡ Ok r
good_is (Ok x) v r is good = ok_same x r (sym is ∙ good)
  where
    ok_same : (x r : Report) → verdict.Good x ≡ verdict.Good r → ◌≡◌ {A = Result Report ℕ} (Ok x) (Ok r)
    ok_same x r e = cc
good_is (Err k) v r is good = absurd (cc)

bad_is : (o : Result Report ℕ) (v : Verdict) (k : ℕ) → v ≡ verdict_of o → v ≡ verdict.Bad k → o ≡ Err k
bad_is (Ok x) v k is bad = absurd (cc)
bad_is (Err j) v k is bad = err_same j k (sym is ∙ bad)
  where
    err_same : (j k : ℕ) → verdict.Bad j ≡ verdict.Bad k → ◌≡◌ {A = Result Report ℕ} (Err j) (Err k)
    err_same j k e = cc

pub good_found : (bytes : List ℕ) (v : Verdict) (r : Report) → v ≡ verdict_of (report_of bytes) → v ≡ verdict.Good r → (is_well_formed r ≡ true) × (bytes ≡ text_of r)
good_found bytes v r is good = let e = good_is (report_of bytes) v r is good in report_found bytes r e

pub good_only : (bytes : List ℕ) (v : Verdict) (x r : Report) → v ≡ verdict_of (report_of bytes) → v ≡ verdict.Good x → is_well_formed r ≡ true → bytes ≡ text_of r → x ≡ r
good_only bytes v x r is good fit text = same_report x r (sym (good_is (report_of bytes) v x is good) ∙ ap report_of text ∙ report_only r fit)

ok_err : (r : Report) (k : ℕ) → ◌≡◌ {A = Result Report ℕ} (Ok r) (Err k) → ⊥
ok_err r k e = absurd (cc)

pub not_good : (bytes : List ℕ) (v : Verdict) (k : ℕ) (r : Report) → v ≡ verdict_of (report_of bytes) → v ≡ verdict.Bad k → is_well_formed r ≡ true → bytes ≡ text_of r → ⊥
not_good bytes v k r is bad fit text = ok_err r k (sym (report_only r fit) ∙ ap report_of (sym text) ∙ bad_is (report_of bytes) v k is bad)

pub bad_first : (bytes : List ℕ) (v : Verdict) (k : ℕ) → v ≡ verdict_of (report_of bytes) → v ≡ verdict.Bad k → IsFirstBad names_text after done start bytes k
bad_first bytes v k is bad = report_bad bytes k (bad_is (report_of bytes) v k is bad)

refusal_same : (j k : ℕ) → ◌≡◌ {A = Result Report ReadRefusal} (Err (refusal.Bad j)) (Err (refusal.Bad k)) → j ≡ k
refusal_same j k e = cc

pub refused_first : (bytes : List ℕ) (v : Verdict) (j k : ℕ) → v ≡ verdict_of (report_of bytes) → v ≡ verdict.Bad j → ◌≡◌ {A = Result Report ReadRefusal} (Err (refusal.Bad j)) (Err (refusal.Bad k)) → IsFirstBad names_text after done start bytes k
refused_first bytes v j k is bad e = bad_first bytes v k is (bad ∙ ap verdict.Bad (refusal_same j k e))
