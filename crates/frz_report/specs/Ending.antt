-- How a report ends a command.
use Rattle.std.specs.Prelude.{Result, Ok, Err}
use Rattle.frz_answer.specs.declared.end.End.{End}
use Rattle.frz_answer.specs.declared.end.End.TheVariants.{Done, SinkFault, Stopped}
use Rattle.frz_answer.specs.declared.fault.Fault.TheVariants as stops
use Rattle.frz_answer.specs.declared.status.Status.TheVariants.{Success}
use Rattle.frz_report.specs.declared.fault.ReportFault.{ReportFault}
use Rattle.frz_report.specs.declared.fault.ReportFault.TheVariants as faults
use Rattle.frz_report.specs.declared.fault.Totals.{Totals}

-- with the totals the command has done its work; a fault of the store or of memory stops it, and one
-- of the sink ends it so
abbrev pub end_by : Result Totals ReportFault → End
end_by (Ok totals) = Done Success
end_by (Err faults.Store) = Stopped stops.Store
end_by (Err faults.Output) = SinkFault
end_by (Err faults.NoMemory) = Stopped stops.NoMemory
