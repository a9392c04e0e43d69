mod SumRuns
