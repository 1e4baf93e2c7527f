use Rattle.std.proofs.Common.{◌≡◌, ◌++◌, take}
use Rattle.std.specs.List.{flat_map}
use Rattle.agreement_report.specs.Report.{IsReady, text_of}
use Rattle.project_machine.specs.Reports.{person_row}
use Rattle.project_reports.proofs.roster.write_people.Given as goal

abbrev pub invariant-loop-person : goal.invariant-loop-person
invariant-loop-person l = record {
  ready : IsReady l.writer;
  written : text_of l.writer ≡ text_of l.initial.writer ++ flat_map person_row (take l.person-index l.people);
}
