use Rattle.mill_report_run.proofs.OneDocuments.{one_document_of}
use Rattle.mill_report_run.proofs.laws.one_document.Goals as goal

pub returns : goal.returns
returns c = one_document_of c.one_judgment.ensures c.one_verdict.ensures c.one_list.ensures c.one_left.ensures c.one_lift.ensures
