pub mod StagedRuns
