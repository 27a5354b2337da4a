use Rattle.report.proofs.Sofar.{record_wants, end_wants, all_printed, at_error}
use Rattle.report.proofs.run.run.Goals as goal

pub returns-in_err-serve_all-clause-wanting : goal.returns-in_err-serve_all-clause-wanting
returns-in_err-serve_all-clause-wanting c =
    at_error _ _ (record_wants _ _ _ c.new-records.result c.new-out.ensures.bytes c.requires c.new-records.ensures.place c.new-records.ensures.rest c.in_err-serve_all.ensures.wanting)

pub returns-in_err-print_end-clause-wanting : goal.returns-in_err-print_end-clause-wanting
returns-in_err-print_end-clause-wanting c =
    at_error _ _
    (end_wants _ _ _ c.new-records.result c.new-out.ensures.bytes c.requires c.new-records.ensures.place c.new-records.ensures.rest
    _ _ c.serve_all.new.records c.in_ok-serve_all.ensures.goes_on c.in_ok-serve_all.ensures.all _ _ c.place.ensures c.rest.ensures c.in_err-print_end.ensures.wanting)

pub returns-clause-text : goal.returns-clause-text
returns-clause-text c =
    all_printed _ _ _ c.new-records.result c.new-out.ensures.bytes c.requires c.new-records.ensures.place c.new-records.ensures.rest
    _ _ c.serve_all.new.records c.in_ok-serve_all.ensures.goes_on c.in_ok-serve_all.ensures.all _ _ c.place.ensures c.rest.ensures _ c.in_ok-print_end.ensures.text
